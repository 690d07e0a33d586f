use Rattle.std.proofs.Common.{◌∙◌, ap, length, arith}
use Rattle.zs_io.specs.Calls.{Kept}
use Rattle.zs_io.specs.CallLaws.{after_calls-length}
use Rattle.zs_io.proofs.disk.Disk.size.Goals as goal

pub returns : goal.returns
returns c =
    let long = after_calls-length c.self.inside.calls.items c.self.inside.first.value.items in
    let same = ap length c.self.invariant ∙ long ∙ ap (λ (k : Kept). length k.first) c.self.view_is in
    omega (arith, same, c.len.ensures)
