-- A head is made on a snapshot: the datasets stay valid, and nothing is freed.
use Rattle.std.proofs.Common.{◌≡◌, ◌<◌, ◌++◌, ◌∷◌, [], List, refl, sym, ap, subst, ◌∙◌, arith}
use Rattle.std.specs.Prelude.{Some, None, true}
use Rattle.zs_ids.specs.declared.key.Key.{Key}
use Rattle.zs_ids.specs.declared.block.Bp.{Bp}
use Rattle.zs_ids.specs.declared.dataset.DsId.{DsId}
use Rattle.zs_ids.specs.declared.dataset.Name.{Name}
use Rattle.zs_ids.specs.declared.dataset.TheConstants.DsId.{ORIGIN}
use Rattle.zs_ids.specs.declared.dataset.TheConstants.Name.{EMPTY}
use Rattle.zs_ids.specs.Graph.{Dataset}
use Rattle.zs_ids.specs.GraphTree.{dataset_at}
use Rattle.zs_ids.specs.GraphValid.{origin}
use Rattle.zs_ids.specs.GraphChange.{MayClone, cloned, head_on}
use Rattle.zs_graph.specs.View.{GraphView, IsGraph, with_dataset}
use Rattle.zs_graph.specs.Refusals.{fs_refusal, clone_refusal}
use Rattle.zs_graph.specs.Made.{IsAdded, IsFsMade, IsCloned}
use Rattle.zs_graph.proofs.Graphs.{id_is}
use Rattle.zs_graph.proofs.Kept.{within_kept}
use Rattle.zs_graph.proofs.CloneTree.{from_new, has_old, holds, new_valid}
use Rattle.zs_graph.proofs.Allowed.{fs_allowed, clone_allowed, found_at}
use mathlib.Core.Logic.{inl, inr}

module _ (v : GraphView) (facts : IsGraph v) (snap : Dataset) (id : DsId) (name : Name) (is : id.0 ≡ v.next) (may : MayClone v.sets snap id name) where
  pub head_kept : IsGraph (with_dataset v (head_on snap id name))
  head_kept = record {
    last = facts.last;
    valid = new_valid v.sets facts.last facts.last (omega arith) facts.valid snap id name may;
    below = λ d h. elim (from_new v.sets facts.last facts.last (omega arith) facts.valid snap id name may d h) [
      | inl i ↦ let b : d.id.0 < v.next = facts.below d i in omega (arith, b)
      | inr e ↦ let s : id.0 ≡ d.id.0 = ap (λ (x : Dataset). x.id.0) e in omega (arith, is, s)
    ];
  }

  pub head_added : IsAdded 0 v id (with_dataset v (head_on snap id name))
  head_added = record {
    number = is;
    next = refl;
    valid = λ room n h early from valid. record { graph = new_valid v.sets n h early valid.graph snap id name may; within = within_kept room v.sets (cloned v.sets snap id name) (holds v.sets n h early valid.graph snap id name may) valid.within };
    frees_none = record { kept = λ p sectors sum b. record { holder = b.holder; is_dataset = has_old v.sets facts.last facts.last (omega arith) facts.valid snap id name may b.holder b.is_dataset; at = b.at; is_entry = b.is_entry; is_piece = b.is_piece; size = b.size; same_sum = b.same_sum } };
  }

-- a head as it is made, with these entries
abbrev pub made_head : DsId → Name → DsId → List (Key × Bp) → Dataset
made_head id name snap entries = record { id = id; head = true; owner = name; label = EMPTY; parent = Some snap; creation = 0; entries = entries }

module _ (v : GraphView) (facts : IsGraph v) (id : DsId) (name : Name) (is : id.0 ≡ v.next) where
  module _ (es : List (Key × Bp)) (empty : es ≡ []) (none : fs_refusal v name ≡ None) where
    is_fs : made_head id name ORIGIN es ≡ head_on origin id name
    is_fs = ap (λ (l : List (Key × Bp)). made_head id name ORIGIN l) empty

    pub fs_kept : IsGraph (with_dataset v (made_head id name ORIGIN es))
    fs_kept = subst (λ (d : Dataset). IsGraph (with_dataset v d)) (sym is_fs) (head_kept v facts origin id name is (fs_allowed v facts id name is none).0)

    pub fs_made : IsFsMade v name id (with_dataset v (made_head id name ORIGIN es))
    fs_made = record {
      may = (fs_allowed v facts id name is none).0;
      now = ap (λ (d : Dataset). v.sets ++ d ∷ []) is_fs;
      added = subst (λ (d : Dataset). IsAdded 0 v id (with_dataset v d)) (sym is_fs) (head_added v facts origin id name is (fs_allowed v facts id name is none).0);
    }

  module _ (snap : DsId) (on : Dataset) (at : dataset_at v.sets snap ≡ Some on) (es : List (Key × Bp)) (same : es ≡ on.entries) (none : clone_refusal v snap name ≡ None) where
    is_clone : made_head id name snap es ≡ head_on on id name
    is_clone =
        ap (λ (l : List (Key × Bp)). made_head id name snap l) same ∙ ap (λ (x : DsId). made_head id name x on.entries) (sym (id_is on.id snap (found_at v facts snap on at).1))

    pub clone_kept : IsGraph (with_dataset v (made_head id name snap es))
    clone_kept = subst (λ (d : Dataset). IsGraph (with_dataset v d)) (sym is_clone) (head_kept v facts on id name is (clone_allowed v facts snap on id name at is none).0)

    pub clone_made : IsCloned v snap name id (with_dataset v (made_head id name snap es))
    clone_made = record {
      on = on;
      here = at;
      may = (clone_allowed v facts snap on id name at is none).0;
      now = ap (λ (d : Dataset). v.sets ++ d ∷ []) is_clone;
      added = subst (λ (d : Dataset). IsAdded 0 v id (with_dataset v d)) (sym is_clone) (head_added v facts on id name is (clone_allowed v facts snap on id name at is none).0);
    }
