use Rattle.std.proofs.Common.{List, ap, ◌∙◌, flat_map, arith}
use Rattle.std.proofs.lemmas.List.{take_all}
use Rattle.zs_ids.specs.Graph.{Dataset}
use Rattle.zs_plain.specs.Tests.{pieces_held}
use Rattle.zs_plain.proofs.Held.{live_is}
use Rattle.zs_plain.proofs.graph.live.Goals as goal

pub returns : goal.returns
returns c =
    live_is c.args.g.now c.loop-dataset.out.items (c.loop-dataset.invariant ∙ ap (λ (l : List Dataset). flat_map (λ (d : Dataset). pieces_held d.entries) l) (take_all c.loop-dataset.dataset-index c.args.g.now (omega arith)))
