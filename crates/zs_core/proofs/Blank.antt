-- The datasets of a pool that is being made: the origin alone, which is valid.
use Rattle.std.proofs.Common.{◌≡◌, ◌≤◌, ℕ, List, [], ◌∷◌, Vec, refl, subst, arith}
use Rattle.std.specs.List.Sorted.{IsStrictlySortedBy}
use Rattle.std.specs.declared.alloc.Global.{Global}
use Rattle.zs_ids.specs.declared.block.Bp.{Bp}
use Rattle.zs_ids.specs.declared.key.Key.{Key}
use Rattle.zs_txg.specs.Txg.{Open}
use Rattle.zs_core.specs.declared.parts.Changes.{Changes}
use Rattle.zs_core.specs.Kept.{AreChangesOf}
use Rattle.zs_ids.specs.Graph.{Dataset}
use Rattle.zs_ids.specs.GraphValid.{Room, Valid, origin}
use Rattle.zs_graph.proofs.Origin.{is_origin, nothing_held, origin_is_valid}
use Rattle.zs_graph.proofs.SnapshotMade.{valid_later}
use Rattle.zs_core.specs.Placed.{AreFormed}
use Rattle.zs_core.specs.Datasets.{AreDatasets}
use Rattle.zs_core.proofs.Carried.{none_staged, none_formed}

-- the origin alone is valid in any room
pub blank_valid : (room : Room) (n : ℕ) → 1 ≤ n → Valid room (origin ∷ []) n
blank_valid room n from = record {
  graph = valid_later (origin ∷ []) 1 n from origin_is_valid;
  within = record {
    places = λ d h e i p is. absurd (nothing_held d e h i);
    few = record { all = []; few = omega arith; each = λ p live. absurd (nothing_held live.holder (live.holds).entry live.is_dataset (live.holds).is_entry) };
  };
}

-- nothing is staged over it, and nothing lies anywhere
pub blank_datasets : (start next : ℕ) → AreDatasets (origin ∷ []) 1 start next []
unfolding IsStrictlySortedBy
blank_datasets start next = record {
  in_order = tt;
  heads = λ e h. absurd h;
  formed = λ d h. record { size = λ _. 1; formed = subst (λ (x : Dataset). AreFormed (λ _. 1) 1 x.entries) (is_origin d h) (none_formed 1); staged = none_staged (λ _. 1) d.id };
  live = λ p sectors sum b. absurd (nothing_held b.holder b.at b.is_dataset b.is_entry);
  new = λ e h. absurd h;
  new_apart = λ e f h. absurd h;
  between = λ e p sectors sum h. absurd h;
}

-- the origin has no changes
pub blank_changes : (o : Open) (changes : List Changes) (none : Vec (Key × Bp) Global) → o.staged ≡ [] → none.items ≡ [] → changes ≡ record { ds = origin.id; blocks = none } ∷ [] → AreChangesOf (origin ∷ []) o changes
blank_changes o changes none staged empty is = rw (is, staged, empty) (refl, record { blocks = []; made = refl; pointers = refl }, tt)
