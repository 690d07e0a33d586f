use Rattle.zs_record.proofs.Entries.{parts_law}
use Rattle.zs_record.proofs.laws.parts_law.Goals as goal

pub returns : goal.returns
returns c = parts_law c.pointer_law.ensures
