use Rattle.zs_script.proofs.NumberLemmas.{numbers_read, numbers_read_again}
use Rattle.zs_script.proofs.laws.numbers_law.Goals as goal

pub returns-clause-read : goal.returns-clause-read
returns-clause-read c = numbers_read

pub returns-clause-again : goal.returns-clause-again
returns-clause-again c = numbers_read_again
