use Rattle.std.proofs.Common.{◌≡◌, take, flat_map}
use Rattle.zs_plain.specs.Tests.{pieces_held}
use Rattle.zs_plain.proofs.graph.live.Given as goal

abbrev pub invariant-loop-dataset : goal.invariant-loop-dataset
invariant-loop-dataset l = l.out.items ≡ flat_map (λ d. pieces_held d.entries) (take l.dataset-index l.g)
