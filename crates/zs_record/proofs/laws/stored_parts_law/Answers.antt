use Rattle.zs_record.proofs.Records.{stored_parts_law}
use Rattle.zs_record.proofs.laws.stored_parts_law.Goals as goal

pub returns : goal.returns
returns c = stored_parts_law c.pointer_law.ensures
