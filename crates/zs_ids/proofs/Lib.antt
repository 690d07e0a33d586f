mod Parents
