-- A dataset is destroyed: the datasets stay valid.
use Rattle.std.proofs.Common.{◌≡◌, ◌≢◌, ◌<◌, ◌≤◌, ◌&&◌, ◌||◌, ℕ, false, List, [], ◌∷◌, length, Option, refl, sym, ap, subst, ◌∙◌, arith}
use Rattle.std.specs.Prelude.{IfSome, find, nat_lt, option_to_list, slice_get, unwrap_or, Some, None, if◌then◌else◌}
use Rattle.std.proofs.lemmas.Bool.{true≢false, or_parts, ltb-false}
use Rattle.zs_ids.specs.declared.dataset.DsId.{DsId}
use Rattle.zs_ids.specs.declared.dataset.TheConstants.DsId.{ORIGIN}
use Rattle.zs_ids.specs.Graph.{Has, Dataset, Graph}
use Rattle.zs_ids.specs.GraphTree.{is_id, is_above, dataset_at, children_of, IsParent}
use Rattle.zs_ids.specs.GraphValid.{Room, Valid}
use Rattle.zs_ids.specs.GraphChange.{MayDestroy, AreFreed, destroyed}
use Rattle.zs_graph.specs.declared.fault.GraphFault.{GraphFault}
use Rattle.zs_graph.specs.declared.fault.GraphFault.TheVariants.{HasClones, HasSnapshots}
use Rattle.zs_graph.specs.declared.freed.Freed.{Freed}
use Rattle.zs_graph.specs.View.{GraphView, IsGraph}
use Rattle.zs_graph.specs.ByIndex.{IsPlaceOf, removed_at}
use Rattle.zs_graph.specs.Refusals.{destroy_refusal, is_owned_by, parent_in}
use Rattle.zs_graph.specs.Made.{IsDestroyed}
use Rattle.zs_graph.proofs.Lists.{some≢none}
use Rattle.zs_graph.proofs.Graphs.{id_is, is_id-same, has-child}
use Rattle.zs_graph.proofs.Kept.{within_kept}
use Rattle.zs_graph.proofs.DestroyTree as tree
use Rattle.zs_graph.proofs.Allowed.{unless, found_at}
use Rattle.zs_graph.proofs.Seen.{at_index}
use Rattle.zs_graph.proofs.RemovedAt.{removed_destroyed}
use mathlib.Core.Logic.{inl, inr}

-- at most one is the first, or none
first_alone : (cs : List DsId) → length cs ≤ 1 → cs ≡ option_to_list (find (is_above None) cs)
first_alone [] few = refl
first_alone (c ∷ []) few = refl
first_alone (c ∷ d ∷ cs) few = absurd (omega (arith, few))

is_only : (next : Option DsId) (d c : DsId) → Has (option_to_list next) c → c ≡ unwrap_or next d
is_only None d c none = absurd none
is_only (Some x) d c (inl e) = sym e
is_only (Some x) d c (inr none) = absurd none

module _ (v : GraphView) (facts : IsGraph v) (id : DsId) (gone : Dataset) (here : dataset_at v.sets id ≡ Some gone) (none : destroy_refusal v id ≡ None) where
  abbrev next : Option DsId
  next = find (is_above None) (children_of v.sets id)

  named : gone.id ≡ id
  named = id_is gone.id id (found_at v facts id gone here).1

  not_refused : (is_id id ORIGIN ≡ false) × (nat_lt 1 (length (children_of v.sets id)) ≡ false)
  not_refused =
      let rest : Option GraphFault = if gone.head && is_owned_by gone.owner (parent_in v.sets gone.parent) then Some HasSnapshots else None in
      let step : (if is_id id ORIGIN || nat_lt 1 (length (children_of v.sets id)) then Some HasClones else rest) ≡ None = rw here at none in
      let u = unless (is_id id ORIGIN || nat_lt 1 (length (children_of v.sets id))) HasClones rest step in
      or_parts (is_id id ORIGIN) (nat_lt 1 (length (children_of v.sets id))) u.0

  not_origin : gone.id ≢ ORIGIN
  not_origin e = true≢false (sym (is_id-same id ORIGIN (sym named ∙ e)) ∙ not_refused.0)

  only_next : children_of v.sets gone.id ≡ option_to_list next
  only_next =
      subst (λ (x : DsId). children_of v.sets x ≡ option_to_list next) (sym named) (first_alone (children_of v.sets id) (ltb-false 1 (length (children_of v.sets id)) not_refused.1))

  pub destroy_allowed : MayDestroy v.sets gone next
  destroy_allowed = record { here = (found_at v facts id gone here).0; not_origin = not_origin; only = only_next }

  abbrev child : DsId
  child = unwrap_or next gone.id

  only : (c : DsId) → IsParent v.sets gone.id c → c ≡ child
  only c p = is_only next gone.id c (subst (λ (l : List DsId). Has l c) only_next (has-child v.sets gone.id c p))

  abbrev left : GraphView
  left = record v { sets = destroyed v.sets gone }

  pub destroy_kept : IsGraph left
  destroy_kept = record {
    last = facts.last;
    valid = tree.new_valid v.sets facts.last facts.last (omega arith) facts.valid gone (found_at v facts id gone here).0 not_origin child only;
    below = λ d h.
        let w = tree.was v.sets facts.last facts.last (omega arith) facts.valid gone (found_at v facts id gone here).0 not_origin child only d h in
        let s = tree.was_same v.sets facts.last facts.last (omega arith) facts.valid gone (found_at v facts id gone here).0 not_origin child only d w in
        let b : w.old.id.0 < v.next = facts.below w.old w.there in
        let e : d.id.0 ≡ w.old.id.0 = ap (λ (z : DsId). z.0) s.id in
        omega (arith, b, e);
  }

  valid_left : (room : Room) (n h : ℕ) → n ≤ h → Valid room v.sets n → Valid room (destroyed v.sets gone) h
  valid_left room n h early valid = record {
    graph = tree.new_valid v.sets n h early valid.graph gone (found_at v facts id gone here).0 not_origin child only;
    within = within_kept room v.sets (destroyed v.sets gone) (tree.holds v.sets n h early valid.graph gone (found_at v facts id gone here).0 not_origin child only) valid.within;
  }

  -- it is taken out at its index
  pub is_destroyed : (at : ℕ) → slice_get v.sets at ≡ Some gone → (place : Option ℕ) → IsPlaceOf v.sets next place → removed_at v.sets at place ≡ destroyed v.sets gone
  is_destroyed at there place is = removed_destroyed v.sets facts.valid.tree.in_order gone next destroy_allowed at there place is

  pub destroy_made : (at : ℕ) → slice_get v.sets at ≡ Some gone → (place : Option ℕ) → IsPlaceOf v.sets next place → (freed : Freed) (new : GraphView) → new ≡ record v { sets = removed_at v.sets at place } → AreFreed v.sets (destroyed v.sets gone) freed.items → freed.next ≡ next → IsDestroyed v id freed new
  destroy_made at there place is freed new e items first =
      let same : new ≡ left = e ∙ ap (λ (g : Graph). let w : GraphView = record v { sets = g } in w) (is_destroyed at there place is) in
      record {
        gone = gone;
        here = here;
        may = subst (λ (o : Option DsId). MayDestroy v.sets gone o) (sym first) destroy_allowed;
        now = same;
        valid = λ room n h early from valid. subst (λ (w : GraphView). Valid room w.sets h) (sym same) (valid_left room n h early valid);
        items = subst (λ (w : GraphView). AreFreed v.sets w.sets freed.items) (sym same) items;
      }

-- as the call takes it out
pub may_take : (v : GraphView) (facts : IsGraph v) (id : DsId) (at : ℕ) → at < length v.sets → slice_get v.sets at ≡ dataset_at v.sets id → destroy_refusal v id ≡ None → (first : Option DsId) → first ≡ find (is_above None) (children_of v.sets id) → (d : Dataset) → slice_get v.sets at ≡ Some d → MayDestroy v.sets d first
may_take v facts id at within place none first first_is d is =
    subst (λ (o : Option DsId). MayDestroy v.sets d o) (sym first_is) (destroy_allowed v facts id d (sym place ∙ is) none)

module _ (v : GraphView) (facts : IsGraph v) (id : DsId) (at : ℕ) (within : at < length v.sets) (place : slice_get v.sets at ≡ dataset_at v.sets id) (none : destroy_refusal v id ≡ None) (first : Option DsId) (first_is : first ≡ find (is_above None) (children_of v.sets id)) (spot : Option ℕ) (spot_is : IsPlaceOf v.sets first spot) where
  pub spot_within : IfSome spot (λ i. i < length v.sets)
  spot_within = go first spot spot_is
    where
      go : (o : Option DsId) (p : Option ℕ) → IsPlaceOf v.sets o p → IfSome p (λ i. i < length v.sets)
      go o None i = tt
      go None (Some k) i = absurd (some≢none k i)
      go (Some c) (Some k) i = i.0

  abbrev gone_one : Dataset
  gone_one = (at_index v.sets at within).0

  there : slice_get v.sets at ≡ Some gone_one
  there = (at_index v.sets at within).1

  spot_next : IsPlaceOf v.sets (find (is_above None) (children_of v.sets id)) spot
  spot_next = subst (λ (o : Option DsId). IsPlaceOf v.sets o spot) first_is spot_is

  pub taken_kept : IsGraph (record v { sets = removed_at v.sets at spot })
  taken_kept =
      subst (λ (g : Graph). IsGraph (record v { sets = g })) (sym (is_destroyed v facts id gone_one (sym place ∙ there) none at there spot spot_next)) (destroy_kept v facts id gone_one (sym place ∙ there) none)

  pub taken_made : (freed : Freed) (new : GraphView) → new ≡ record v { sets = removed_at v.sets at spot } → ((d : Dataset) → slice_get v.sets at ≡ Some d → AreFreed v.sets (destroyed v.sets d) freed.items) → freed.next ≡ first → IsDestroyed v id freed new
  taken_made freed new e items same =
      destroy_made v facts id gone_one (sym place ∙ there) none at there spot spot_next freed new e (items gone_one there) (same ∙ first_is)
