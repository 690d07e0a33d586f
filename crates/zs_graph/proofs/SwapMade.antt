-- Two heads are swapped: the datasets stay valid, and nothing is freed.
use Rattle.std.proofs.Common.{◌≡◌, ◌≢◌, ◌<◌, ◌&&◌, ◌||◌, ℕ, Bool, true, false, not, List, [], ◌∷◌, length, Option, refl, sym, ap, subst, ◌∙◌, arith}
use Rattle.std.specs.Prelude.{map, option_map, slice_get, slice_set, Some, None, if◌then◌else◌}
use Rattle.std.proofs.lemmas.Bool.{true≢false, and_parts, or_parts}
use Rattle.std.proofs.lemmas.Option.{slice_get-map}
use Rattle.zs_ids.specs.declared.key.Key.{Key}
use Rattle.zs_ids.specs.declared.block.Bp.{Bp}
use Rattle.zs_ids.specs.declared.block.Piece.{Piece}
use Rattle.zs_ids.specs.declared.dataset.DsId.{DsId}
use Rattle.zs_ids.specs.Graph.{Has, Dataset, Graph, IsOfBlock}
use Rattle.zs_ids.specs.GraphTree.{is_id, dataset_at}
use Rattle.zs_ids.specs.GraphValid.{IsInIdOrder, Room, Valid}
use Rattle.zs_ids.specs.GraphChange.{MaySwap, swapped, holding}
use Rattle.zs_graph.specs.declared.fault.GraphFault.{GraphFault}
use Rattle.zs_graph.specs.declared.fault.GraphFault.TheVariants.{NotHead, NotSiblings}
use Rattle.zs_graph.specs.View.{GraphView, IsGraph}
use Rattle.zs_graph.specs.ByIndex.{swapped_at}
use Rattle.zs_graph.specs.Refusals.{is_sibling, swap_refusal}
use Rattle.zs_graph.specs.Made.{IsSwapped}
use Rattle.zs_graph.proofs.Graphs.{id_is, is_id-same, is_id-other, cases_id, one_dataset, in_order-map}
use Rattle.zs_graph.proofs.Kept.{within_kept}
use Rattle.zs_graph.proofs.SwapTree as tree
use Rattle.zs_graph.proofs.Allowed.{unless, found_at}
use Rattle.zs_graph.proofs.Searches.{changed_at}
use Rattle.zs_graph.proofs.Seen.{at_index}
use Rattle.zs_graph.proofs.Lists.{some_is}
use mathlib.Core.Logic.{inl, inr}

not_not : (b : Bool) → not b ≡ false → b ≡ true
not_not true e = refl
not_not false e = absurd (true≢false e)

-- parents that are one by the test are one
siblings_are : (a b : Option DsId) → is_sibling a b ≡ true → a ≡ b
siblings_are None None e = refl
siblings_are (Some a) (Some b) e = ap Some (id_is a b e)
siblings_are None (Some b) e = absurd (true≢false (sym e))
siblings_are (Some a) None e = absurd (true≢false (sym e))

module _ (v : GraphView) (facts : IsGraph v) (a b : DsId) (x y : Dataset) (at_a : dataset_at v.sets a ≡ Some x) (at_b : dataset_at v.sets b ≡ Some y) (none : swap_refusal v a b ≡ None) where
  abbrev rest : Option GraphFault
  rest = if is_id a b || not (is_sibling x.parent y.parent) then Some NotSiblings else None

  both_heads : ((x.head && y.head) ≡ true) × (rest ≡ None)
  both_heads =
      let step : (if not (x.head && y.head) then Some NotHead else rest) ≡ None = rw (at_a, at_b) at none in
      let u = unless (not (x.head && y.head)) NotHead rest step in
      (not_not (x.head && y.head) u.0, u.1)

  apart : (is_id a b ≡ false) × (is_sibling x.parent y.parent ≡ true)
  apart =
      let u = unless (is_id a b || not (is_sibling x.parent y.parent)) NotSiblings None both_heads.1 in
      let p = or_parts (is_id a b) (not (is_sibling x.parent y.parent)) u.0 in
      (p.0, not_not (is_sibling x.parent y.parent) p.1)

  pub swap_allowed : MaySwap v.sets x y
  swap_allowed =
      let heads = and_parts x.head y.head both_heads.0 in
      let name_a = id_is x.id a (found_at v facts a x at_a).1 in
      let name_b = id_is y.id b (found_at v facts b y at_b).1 in
      record {
        first = (found_at v facts a x at_a).0;
        second = (found_at v facts b y at_b).0;
        first_head = heads.0;
        second_head = heads.1;
        two = λ e. true≢false (sym (is_id-same a b (sym name_a ∙ e ∙ name_b)) ∙ apart.0);
        siblings = siblings_are x.parent y.parent apart.1;
      }

abbrev valid_at : Room → ℕ → GraphView → Type 0
valid_at room h x = Valid room x.sets h

module _ (v : GraphView) (facts : IsGraph v) (a b : Dataset) (may : MaySwap v.sets a b) where
  abbrev exchanged : GraphView
  exchanged = record v { sets = swapped v.sets a b }

  pub swap_kept : IsGraph exchanged
  swap_kept = record {
    last = facts.last;
    valid = tree.new_valid v.sets facts.last facts.last (omega arith) facts.valid a b may;
    below = λ d h.
        let w = tree.was v.sets facts.last facts.last (omega arith) facts.valid a b may d h in
        let b : w.old.id.0 < v.next = facts.below w.old w.here in
        let e : d.id.0 ≡ w.old.id.0 = ap (λ (z : DsId). z.0) w.id in
        omega (arith, b, e);
  }

  block_stays : (p : Piece) (sectors : ℕ) (sum : List ℕ) → IsOfBlock v.sets p sectors sum → IsOfBlock (swapped v.sets a b) p sectors sum
  block_stays p sectors sum k = elim (cases_id k.holder.id a.id) [
    | inl e ↦
        let same : k.holder ≡ a = one_dataset v.sets facts.valid.tree.in_order k.holder a k.is_dataset may.first e in
        record { holder = tree.second v.sets facts.last facts.last (omega arith) facts.valid a b may; is_dataset = tree.has_second v.sets facts.last facts.last (omega arith) facts.valid a b may; at = k.at; is_entry = subst (λ (d : Dataset). Has d.entries k.at) same k.is_entry; is_piece = k.is_piece; size = k.size; same_sum = k.same_sum }
    | inr na ↦ elim (cases_id k.holder.id b.id) [
      | inl e ↦
          let same : k.holder ≡ b = one_dataset v.sets facts.valid.tree.in_order k.holder b k.is_dataset may.second e in
          record { holder = tree.first v.sets facts.last facts.last (omega arith) facts.valid a b may; is_dataset = tree.has_first v.sets facts.last facts.last (omega arith) facts.valid a b may; at = k.at; is_entry = subst (λ (d : Dataset). Has d.entries k.at) same k.is_entry; is_piece = k.is_piece; size = k.size; same_sum = k.same_sum }
      | inr nb ↦ record { holder = k.holder; is_dataset = tree.has_other v.sets facts.last facts.last (omega arith) facts.valid a b may k.holder k.is_dataset na nb; at = k.at; is_entry = k.is_entry; is_piece = k.is_piece; size = k.size; same_sum = k.same_sum }
    ]
  ]

  pub swap_made : (p q : DsId) → dataset_at v.sets p ≡ Some a → dataset_at v.sets q ≡ Some b → (new : GraphView) → new ≡ exchanged → IsSwapped v p q new
  swap_made p q at_a at_b new e = record {
    first = a;
    second = b;
    first_here = at_a;
    second_here = at_b;
    may = may;
    now = e;
    valid = λ room n h early from valid. subst (λ (x : GraphView). valid_at room h x) (sym e) (record { graph = tree.new_valid v.sets n h early valid.graph a b may; within = within_kept room v.sets (swapped v.sets a b) (tree.holds v.sets n h early valid.graph a b may) valid.within });
    frees_none = record { kept = λ p sectors sum k. subst (λ (x : GraphView). IsOfBlock x.sets p sectors sum) (sym e) (block_stays p sectors sum k) };
  }

-- the heads named by their indices
map-map : (f h : Dataset → Dataset) (g : Graph) → map f (map h g) ≡ map (λ (d : Dataset). f (h d)) g
map-map f h [] = refl
map-map f h (d ∷ ds) = ap (λ (l : Graph). f (h d) ∷ l) (map-map f h ds)

keeps_id : (t : Bool) (l : List (Key × Bp)) (d : Dataset) → (if t then record d { entries = l } else d).id ≡ d.id
keeps_id true l d = refl
keeps_id false l d = refl

pub swapped_by_index : (g : Graph) → IsInIdOrder g → (i j : ℕ) (a b : Dataset) → slice_get g i ≡ Some a → slice_get g j ≡ Some b → a.id ≢ b.id → swapped_at g i j ≡ swapped g a b
swapped_by_index g order i j a b at_a at_b two =
    let put : Dataset → Dataset = λ d. holding b.id a.entries d in
    let half : Graph = map put g in
    let second : slice_set g j (record b { entries = a.entries }) ≡ half = changed_at g order j b (λ d. record d { entries = a.entries }) at_b in
    let same : put a ≡ a = ap (λ (t : Bool). if t then record a { entries = a.entries } else a) (is_id-other a.id b.id two) in
    let stays : slice_get half i ≡ Some a = slice_get-map put g i ∙ ap (λ (o : Option Dataset). option_map put o) at_a ∙ ap Some same in
    let ordered : IsInIdOrder half = in_order-map put (λ d. keeps_id (is_id d.id b.id) a.entries d) g order in
    let first : slice_set half i (record a { entries = b.entries }) ≡ map (λ (d : Dataset). holding a.id b.entries d) half = changed_at half ordered i a (λ d. record d { entries = b.entries }) stays in
    rw (at_a, at_b) (ap (λ (l : Graph). slice_set l i (record a { entries = b.entries })) second ∙ first ∙ map-map (λ d. holding a.id b.entries d) put g)

module _ (v : GraphView) (facts : IsGraph v) (i j : ℕ) (a b : DsId) (in_i : i < length v.sets) (in_j : j < length v.sets) (at_i : slice_get v.sets i ≡ dataset_at v.sets a) (at_j : slice_get v.sets j ≡ dataset_at v.sets b) (none : swap_refusal v a b ≡ None) where
  abbrev exchanged_at : GraphView
  exchanged_at = record v { sets = swapped_at v.sets i j }

  abbrev one : Dataset
  one = (at_index v.sets i in_i).0

  abbrev two : Dataset
  two = (at_index v.sets j in_j).0

  stands_one : dataset_at v.sets a ≡ Some one
  stands_one = sym at_i ∙ (at_index v.sets i in_i).1

  stands_two : dataset_at v.sets b ≡ Some two
  stands_two = sym at_j ∙ (at_index v.sets j in_j).1

  may : MaySwap v.sets one two
  may = swap_allowed v facts a b one two stands_one stands_two none

  is_swap : exchanged_at ≡ record v { sets = swapped v.sets one two }
  is_swap =
      ap (λ (g : Graph). let w : GraphView = record v { sets = g } in w) (swapped_by_index v.sets facts.valid.tree.in_order i j one two ((at_index v.sets i in_i).1) ((at_index v.sets j in_j).1) may.two)

  pub swap_at_kept : IsGraph exchanged_at
  swap_at_kept = subst IsGraph (sym is_swap) (swap_kept v facts one two may)

  pub swap_at_made : (new : GraphView) → new ≡ exchanged_at → IsSwapped v a b new
  swap_at_made new e = swap_made v facts one two may a b stands_one stands_two new (e ∙ is_swap)

  pub indices_differ : i ≢ j
  indices_differ e =
      may.two (ap (λ (d : Dataset). d.id) (some_is one two (sym (at_index v.sets i in_i).1 ∙ ap (λ (k : ℕ). slice_get v.sets k) e ∙ (at_index v.sets j in_j).1)))
