-- The laws of the walk: one turn comes at most, the blocks that a pass meets rise, and each turn brings the end nearer.
use Rattle.std.specs.Prelude.{◌≡◌, ◌≢◌, ◌<◌, IsTrue}
use Rattle.std.specs.Ordering.{is_le}
use Rattle.std.specs.declared.cmp.Ordering.TheVariants.{Less}
use Rattle.zs_ids.specs.declared.key.Key.{Key}
use Rattle.zs_ids.specs.declared.block.Bp.{Bp}
use Rattle.zs_ids.specs.declared.dataset.DsId.{DsId}
use Rattle.zs_ids.specs.Key.{key_cmp}
use Rattle.zs_ids.specs.Graph.{Graph}
use Rattle.zs_phys.specs.declared.scope.Scope.{Scope}
use Rattle.zs_phys.specs.declared.phys.Phys.{Phys}
use Rattle.zs_phys.specs.declared.phys.At.TheVariants as ats
use Rattle.zs_phys.specs.declared.step.Step.{Step}
use Rattle.zs_phys.specs.declared.step.Step.TheVariants as steps
use Rattle.zs_phys.specs.Turn.{Comes, advanced}
use Rattle.zs_walk.specs.Walking.{MayWalk}
use Rattle.zs_walk.specs.Left.{turns_left}

-- in a state of a valid graph one turn comes at most
abbrev pub OneStepLaw : Type 0
OneStepLaw = (g : Graph) (scope : Scope) (s : Phys) (a b : Step) → MayWalk g scope s → Comes g scope s a → Comes g scope s b → a ≡ b

-- a turn that meets a block at the key k, with the bookmark at the key `from`, and leaves the state t: the block is not
-- before the bookmark, the bookmark moves behind it, and a block that the next turn meets is above it
pub record Rises (g : Graph) (scope : Scope) (from k : Key) (t : Phys) : Type 0 where
  pub reached : IsTrue (is_le (key_cmp from k))
  pub left_behind : (id : DsId) (next : Key) → t.at ≡ ats.Dataset id next → key_cmp k next ≡ Less
  pub above : (next : Key) (bp : Bp) → Comes g scope t (steps.At next bp) → key_cmp k next ≡ Less

-- at a dataset the key rises at each block
abbrev pub RisesLaw : Type 0
RisesLaw =
    (g : Graph) (scope : Scope) (s t : Phys) (id : DsId) (from k : Key) (bp : Bp) → s.at ≡ ats.Dataset id from → Comes g scope s (steps.At k bp)
    → t ≡ advanced g scope s (steps.At k bp) → Rises g scope from k t

-- in a state of a valid graph each turn that makes something leaves fewer turns
abbrev pub LeftLaw : Type 0
LeftLaw =
    (g : Graph) (scope : Scope) (s : Phys) (step : Step) → MayWalk g scope s → Comes g scope s step → step ≢ steps.Nothing
    → turns_left g (advanced g scope s step) < turns_left g s
