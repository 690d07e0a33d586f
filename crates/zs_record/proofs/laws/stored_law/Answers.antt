use Rattle.zs_record.proofs.Records.{stored_law}
use Rattle.zs_record.proofs.laws.stored_law.Goals as goal

pub returns : goal.returns
returns c = stored_law c.pointer_law.ensures
