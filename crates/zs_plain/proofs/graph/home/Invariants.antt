use Rattle.std.proofs.Common.{◌≡◌, take, find, None}
use Rattle.zs_ids.specs.Graph.{Dataset, Has}
use Rattle.zs_ids.specs.GraphTree.{start_of}
use Rattle.zs_plain.specs.Tests.{is_own}
use Rattle.zs_plain.proofs.graph.home.Given as goal

abbrev pub invariant-loop-dataset : goal.invariant-loop-dataset
invariant-loop-dataset l = (d : Dataset) → Has (take l.dataset-index l.g) d → find (is_own (start_of l.g d.parent) l.piece) d.entries ≡ None
