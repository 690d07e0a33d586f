use Rattle.zs_label.proofs.Spelling.{reads_written}
use Rattle.zs_label.proofs.Bodies.{finds_open, spells_read}
use Rattle.zs_label.proofs.laws.spelling_law.Goals as goal

pub returns-clause-written : goal.returns-clause-written
returns-clause-written c = reads_written

pub returns-clause-open : goal.returns-clause-open
returns-clause-open c = finds_open

pub returns-clause-read : goal.returns-clause-read
returns-clause-read c = spells_read
