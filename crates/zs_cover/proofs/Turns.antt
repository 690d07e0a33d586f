-- Each turn of the walk keeps coverage.
use Rattle.std.proofs.Common.{◌≡◌, ◌⊎◌, ◌≤◌, ℕ, Bool, true, false, List, [], ◌∷◌, ◌++◌, refl, sym, ap, subst}
use Rattle.std.specs.Prelude.{IsTrue, map, drop, if◌then◌else◌}
use Rattle.zs_ids.specs.declared.key.Key.{Key}
use Rattle.zs_ids.specs.declared.block.Bp.{Bp}
use Rattle.zs_ids.specs.declared.block.Piece.{Piece}
use Rattle.zs_ids.specs.Graph.{Has, Dataset, Graph, pieces_of}
use Rattle.zs_ids.specs.GraphTree.{IsHome, dataset_at, created, children_of}
use Rattle.zs_ids.specs.GraphValid.{Room}
use Rattle.zs_phys.specs.declared.scope.Scope.{Scope}
use Rattle.zs_phys.specs.declared.phys.Phys.{Phys}
use Rattle.zs_phys.specs.declared.phys.At.{At}
use Rattle.zs_phys.specs.declared.step.Step.{Step}
use Rattle.zs_phys.specs.declared.step.Step.TheVariants as steps
use Rattle.zs_phys.specs.Scope.{in_scope}
use Rattle.zs_phys.specs.Ahead.{Ahead, claims}
use Rattle.zs_phys.specs.Turn.{Comes, IsWalking, advanced, put_by, left, skipped, entry}
use Rattle.zs_phys.specs.Turn.Comes.{rests, leaves, skips, enters, meets, ends}
use Rattle.zs_cover.specs.Laws.{IsCovered, StaysDone, TurnLaw}
use Rattle.zs_graph.proofs.Homes.{home-live}
use Rattle.zs_cover.proofs.States.{Places, placed}
use Rattle.zs_cover.proofs.TurnMoves.{leave-places, leave-ahead, skip-places, skip-ahead, enter-places, enter-ahead}
use Rattle.zs_cover.proofs.TurnMeets.{meet-places, meet-ahead}
use Rattle.zs_cover.proofs.TurnEnds.{again-places, again-ahead, whole-places, whole-ahead}
use mathlib.Core.Logic.{inl, inr}

module _ (room : Room) (g : Graph) (n h : ℕ) (scope : Scope) (s : Phys) (done more : Piece → Bool) (covered : IsCovered room g n h scope s done) (by : scope.max ≤ h) (stays : StaysDone g done more) where
  -- a state whose places are sound, and that has ahead what was ahead and is not done now
  moves : (t : Phys) → IsWalking s → t.status ≡ s.status → t.paused ≡ s.paused → Places g h scope t → ((d : Dataset) (e : Key × Bp) (p : Piece) → IsHome g d e → Has (pieces_of e.1) p → IsTrue (in_scope scope p) → Ahead g s d.id e → IsTrue (more p) ⊎ Ahead g t d.id e) → IsCovered room g n h scope t more
  moves t walking status paused places step = record {
    early = covered.early;
    valid = covered.valid;
    sound = placed g h scope s t covered.sound walking.scans by status paused places;
    covers = record {
      covered = λ claim d e p home piece in_range. elim ((covered.covers).covered (subst (λ x. IsTrue (claims x)) status claim) d e p home piece in_range) [
        | inl is_done ↦ inl (stays p (home-live g d e p home piece) is_done)
        | inr ahead ↦ step d e p home piece in_range ahead
      ];
    };
  }

  stands : IsCovered room g n h scope s more
  stands = record {
    early = covered.early;
    valid = covered.valid;
    sound = covered.sound;
    covers = record {
      covered = λ claim d e p home piece in_range. elim ((covered.covers).covered claim d e p home piece in_range) [
        | inl is_done ↦ inl (stays p (home-live g d e p home piece) is_done)
        | inr ahead ↦ inr ahead
      ];
    };
  }

  step_keeps : (step : Step) → Comes g scope s step → ((p : Piece) → Has (put_by scope done s step) p → IsTrue (more p)) → IsCovered room g n h scope (advanced g scope s step) more
  step_keeps _ (rests no_work) puts = stands
  step_keeps _ (leaves walking at) puts =
      subst (λ (x : Phys). IsCovered room g n h scope x more) (sym (ap (λ (a : At). skipped a s) at)) (moves (left s) walking refl refl (leave-places g n h scope s (covered.valid).graph covered.sound at) (λ d e p home piece in_range ahead. inr (leave-ahead g n h scope s (covered.valid).graph covered.sound at d.id e ahead)))
  step_keeps _ (skips q qs walking at todo over) puts =
      subst (λ (x : Phys). IsCovered room g n h scope x more) (sym (ap (λ (a : At). skipped a s) at)) (moves (record s { todo = drop 1 s.todo }) walking refl refl (skip-places g n h scope s (covered.valid).graph covered.sound q qs at todo) (λ d e p home piece in_range ahead. inr (skip-ahead g n h scope s (covered.valid).graph covered.sound q qs at todo over d e p home piece in_range ahead)))
  step_keeps _ (enters q qs walking at todo under) puts =
      moves (advanced g scope s (steps.Enter q.id q.min)) walking refl refl (enter-places g n h scope s (covered.valid).graph covered.sound q qs at todo) (λ d e p home piece in_range ahead. inr (enter-ahead g n h scope s (covered.valid).graph covered.sound q qs at todo under d e p home piece in_range ahead))
  step_keeps _ (meets d k e walking here at found) puts =
      moves (advanced g scope s (steps.At e.0 e.1)) walking refl refl (meet-places g n h scope s (covered.valid).graph covered.sound d k e here at found) (λ c f p home piece in_range ahead. meet-ahead g n h scope s (covered.valid).graph covered.sound d k e here at found done more c f p (stays p (home-live g c f p home piece)) (puts p) home piece in_range ahead)
  step_keeps _ (ends d k walking here at none) puts = go s.again refl
    where
      go : (b : Bool) → s.again ≡ b → IsCovered room g n h scope (record (left s) { todo = s.todo ++ (if b then entry s.curmax d.id ∷ [] else map (entry (created (dataset_at g d.id))) (children_of g d.id)) }) more
      go true on =
          moves (record (left s) { todo = s.todo ++ entry s.curmax d.id ∷ [] }) walking refl refl (again-places g n h scope s covered.early by (covered.valid).graph covered.sound d k here at none) (λ c f p home piece in_range ahead. inr (again-ahead g n h scope s covered.early by (covered.valid).graph covered.sound d k here at none c f home ahead))
      go false off =
          moves (record (left s) { todo = s.todo ++ map (entry (created (dataset_at g d.id))) (children_of g d.id) }) walking refl refl (whole-places g n h scope s covered.early by (covered.valid).graph covered.sound d k here at none) (λ c f p home piece in_range ahead. inr (whole-ahead g n h scope s covered.early by (covered.valid).graph covered.sound d k here at none off c f home ahead))

-- the law of the turns
pub turn_keeps : TurnLaw
turn_keeps room g n h scope s t done more put covered by turn stays puts =
    subst (λ (x : Phys). IsCovered room g n h scope x more) (sym turn.becomes) (step_keeps room g n h scope s done more covered by stays turn.step turn.comes (λ p i. puts p (subst (λ (l : List Piece). Has l p) (sym turn.puts) i)))
