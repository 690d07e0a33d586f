use Rattle.std.proofs.Common.{arith, rules}
use Rattle.zs_label.proofs.Spelling.{reads_written}
use Rattle.zs_label.proofs.label.label_write.Goals as goal

pub returns-clause-read : goal.returns-clause-read
returns-clause-read c valid = reads_written c.args.label.now (record { pool = omega arith; sum = search rules }) valid
