use Rattle.std.proofs.Common.{◌≡◌, ◌<◌, arith, [], length}
use Rattle.std.proofs.lemmas.List.{get_or_read}
use Rattle.zs_dtl.proofs.Bounds.{bounds_step}
use Rattle.zs_dtl.proofs.dirt.Dirt.bounds.Goals as goal

pub loop-dev-preserved : goal.loop-dev-preserved
loop-dev-preserved c =
    let here : c.loop-dev.dev < length c.self.inside.logs.items = omega arith in
    rw c.united-bounds.ensures (bounds_step _ _ _ c.index-log.result.now _ _ (get_or_read _ _ _ here c.index-log.ensures []) c.loop-dev.invariant c.online_bounds.ensures)

pub returns : goal.returns
returns c =
    let all : c.loop-dev.dev ≡ length c.self.inside.logs.items = omega arith in
    rw (← c.self.view_is, ← all) c.loop-dev.invariant
