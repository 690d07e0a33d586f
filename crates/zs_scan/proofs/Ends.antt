-- A walk comes to its end: each turn that makes something leaves fewer turns.
use Rattle.std.proofs.Common.{◌≢◌, ◌<◌, sym, ap, subst, ◌∙◌}
use Rattle.zs_ids.specs.Graph.{Graph}
use Rattle.zs_phys.specs.declared.phys.Phys.{Phys}
use Rattle.zs_walk.specs.Left.{turns_left}
use Rattle.zs_walk.specs.Walking.{MayWalk}
use Rattle.zs_walk.proofs.Left.{left_falls}
use Rattle.zs_scan.specs.declared.batch.Turn.{Turn}
use Rattle.zs_scan.specs.declared.batch.Turn.TheVariants as turns
use Rattle.zs_scan.specs.View.{ScanView}
use Rattle.zs_scan.specs.Walks.{Walked, turn_of}

-- a turn of a scan leaves fewer turns, where it is one
pub walk_left : (g : Graph) (old new : ScanView) (turn : Turn) → MayWalk g old.scope old.run → Walked g old turn new → turn ≢ turns.Nothing → turns_left g new.run < turns_left g old.run
walk_left g old new turn may walked some =
    subst (λ (s : Phys). turns_left g s < turns_left g old.run) (sym walked.becomes) (left_falls g old.scope old.run walked.step may walked.comes (λ none. some (walked.named ∙ ap turn_of none)))
