use Rattle.std.proofs.Common.{length, filter}
use Rattle.zs_ids.specs.declared.dataset.DsId.{DsId}
use Rattle.zs_ids.specs.Graph.{Has}
use Rattle.zs_plain.specs.Below.{IsBelow}
use Rattle.zs_plain.proofs.Below.{is_missing}
use Rattle.zs_plain.proofs.tree.below.Given as goal

abbrev pub invariant-loop-id : goal.invariant-loop-id
invariant-loop-id l = (id : DsId) → Has l.found.items id → IsBelow l.g l.roots id

abbrev pub decreases-loop-id : goal.decreases-loop-id
decreases-loop-id l = length (filter (is_missing l.found.items) l.g)
