-- The space that was handed out.
use Rattle.zs_core.specs.Applying.{space_in}
use Rattle.zs_core.proofs.pool.Pool.end_data.Given as goal

abbrev pub ghost-apply : goal.ghost-apply
ghost-apply a = space_in a.self.now
