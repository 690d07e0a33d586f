-- Where a binary search for an id ends.
use Rattle.std.proofs.Common.{◌≡◌, ◌≢◌, ◌<◌, ◌≤◌, ℕ, suc, zero, Bool, true, false, List, [], ◌∷◌, ◌-◌, length, length-drop, take, drop, get_or, refl, sym, ap, subst, ◌∙◌, arith}
use Rattle.std.specs.Prelude.{map, filter, option_map, slice_get, slice_set, Some, None, nat_le, if◌then◌else◌}
use Rattle.std.specs.List.Sorted.{IsNonDecreasingBy, IsPartitionPoint, IsPartitionedBy}
use Rattle.std.specs.Ordering.{nat_cmp, ordering_index}
use Rattle.std.specs.declared.cmp.Ordering.{Ordering}
use Rattle.std.specs.declared.cmp.Ordering.TheVariants.{Less, Equal, Greater}
use Rattle.std.proofs.lemmas.Bool.{false_from_ne_true, lt-ltb, le-ltb, leb-true, leb-false, cases_lt}
use Rattle.std.proofs.lemmas.Bool.Decides.{nat_tests}
use Rattle.std.proofs.lemmas.List.{length-map, drop-map, take_all}
use Rattle.std.proofs.lemmas.List.Sorted.{IsPartitionedBy-leb}
use Rattle.std.proofs.lemmas.Option.{slice_get-map, get_or_from_slice_get}
use Rattle.zs_ids.specs.declared.key.Key.{Key}
use Rattle.zs_ids.specs.declared.block.Bp.{Bp}
use Rattle.zs_ids.specs.declared.dataset.DsId.{DsId}
use Rattle.zs_ids.specs.Graph.{Has, Dataset, Graph}
use Rattle.zs_ids.specs.GraphTree.{is_id, is_above}
use Rattle.zs_ids.specs.GraphValid.{IsInIdOrder}
use Rattle.zs_graph.specs.declared.graph.Set.{Set}
use Rattle.zs_graph.specs.View.{dataset_of, IsIndexOf}
use Rattle.zs_graph.proofs.Lists.{has-map, from-map, some_is, some≢none}
use Rattle.zs_graph.proofs.Graphs.{dataset_is, id_is, is_id-same, is_id-other}
use Rattle.zs_graph.proofs.Keys.{number_equal, is_equal, rank}
use Rattle.zs_graph.proofs.Seen.{at_index, has_index, has_at, find_none, parted}
use mathlib.Core.Logic.{inl, inr}

-- numbers that an order tells apart differ
differ : (a b : ℕ) (o : Ordering) → nat_cmp a b ≡ o → (Equal ≡ o → ⊥) → a ≢ b
differ a b o is other e = other (sym (is_equal a b e) ∙ is)

less_other : Equal ≡ Less → ⊥
less_other e = let n : 1 ≡ 0 = ap rank e in omega (arith, n)

greater_other : Equal ≡ Greater → ⊥
greater_other e = let n : 1 ≡ 2 = ap rank e in omega (arith, n)

module _ {T : Type 0} (entries : T → List (Key × Bp)) where
  abbrev seen : List (Set T) → Graph
  seen sets = map (dataset_of entries) sets

  has_get_or : (sets : List (Set T)) (k : ℕ) (d : Set T) → k < length sets → Has sets (get_or sets k d)
  has_get_or sets k d l =
      let r = at_index sets k l in
      subst (λ (s : Set T). Has sets s) (sym (get_or_from_slice_get sets k r.0 d r.1)) r.2

  -- the ids rise along the list
  pub ids_rise : (sets : List (Set T)) → IsInIdOrder (seen sets) → (i j : ℕ) (d : Set T) → i ≤ j → j < length sets → (get_or sets i d).id.0 ≤ (get_or sets j d).id.0
  ids_rise [] order i j d le l = absurd (omega (arith, l))
  ids_rise (s ∷ ss) order zero zero d le l = omega arith
  ids_rise (s ∷ ss) order zero (suc j) d le l =
      let below : s.id.0 < (get_or ss j d).id.0 = order.0 (dataset_of entries (get_or ss j d)) (has-map (dataset_of entries) ss (get_or ss j d) (has_get_or ss j d (omega (arith, l)))) in
      omega (arith, below)
  ids_rise (s ∷ ss) order (suc i) zero d le l = absurd (omega (arith, le))
  ids_rise (s ∷ ss) order (suc i) (suc j) d le l = ids_rise ss order.1 i j d (omega (arith, le)) (omega (arith, l))

  -- the comparisons with an id rise, as a binary search asks
  pub comparisons_rise : (sets : List (Set T)) → IsInIdOrder (seen sets) → (id : DsId) → IsNonDecreasingBy (λ (s : Set T). ordering_index (nat_cmp s.id.0 id.0)) sets
  comparisons_rise sets order id i j d le l =
      rises (get_or sets i d).id.0 (get_or sets j d).id.0 id.0 (ids_rise sets order i j d le l)
    where
      rises : (a b c : ℕ) → a ≤ b → ordering_index (nat_cmp a c) ≤ ordering_index (nat_cmp b c)
      rises a b c ab = grind (arith, nat_tests, ab)

  module _ (sets : List (Set T)) (order : IsInIdOrder (seen sets)) (id : DsId) where
    -- the search ends at the id
    pub index_found : (i : ℕ) → i < length sets → ((d : Set T) → nat_cmp (get_or sets i d).id.0 id.0 ≡ Equal) → IsIndexOf (seen sets) id (Some i)
    index_found i l equal =
        let r = at_index sets i l in
        let number : (r.0).id.0 ≡ id.0 = subst (λ (s : Set T). s.id.0 ≡ id.0) (get_or_from_slice_get sets i r.0 r.0 r.1) (number_equal (get_or sets i r.0).id.0 id.0 (equal r.0)) in
        let named : (r.0).id ≡ id = ap (λ (n : ℕ). let x : DsId = record { 0 = n } in x) number in
        let there : slice_get (seen sets) i ≡ Some (dataset_of entries r.0) = slice_get-map (dataset_of entries) sets i ∙ ap (option_map (dataset_of entries)) r.1 in
        let long : length (seen sets) ≡ length sets = length-map sets (dataset_of entries) in
        (omega (arith, l, long), there ∙ sym (dataset_is (seen sets) order (dataset_of entries r.0) id (has-map (dataset_of entries) sets r.0 r.2) named))

    -- or between the lesser and the greater ones, and no dataset has it
    pub index_absent : (i : ℕ) → IsPartitionPoint (λ (s : Set T). nat_cmp s.id.0 id.0 ≡ Less) (λ (s : Set T). nat_cmp s.id.0 id.0 ≡ Greater) sets i → IsIndexOf (seen sets) id None
    index_absent i parts = find_none (λ (d : Dataset). is_id d.id id) (seen sets) (λ x h. false_from_ne_true (is_id x.id id) (λ t. other x h (id_is x.id id t)))
      where
        apart : (s : Set T) (k : ℕ) → k < length sets → slice_get sets k ≡ Some s → s.id.0 ≢ id.0
        apart s k l is =
            let same = get_or_from_slice_get sets k s s is in
            elim (cases_lt k i) [
              | inl less ↦ differ s.id.0 id.0 Less (subst (λ (x : Set T). nat_cmp x.id.0 id.0 ≡ Less) same (parts.0 k s (omega arith) less)) less_other
              | inr ge ↦ differ s.id.0 id.0 Greater (subst (λ (x : Set T). nat_cmp x.id.0 id.0 ≡ Greater) same (parts.1 k s ge l)) greater_other
            ]

        other : (x : Dataset) → Has (seen sets) x → x.id ≢ id
        other x h e =
            let f = from-map (dataset_of entries) sets x h in
            let k = has_index sets f.0 f.1 in
            apart f.0 k.0 k.1 k.2 (ap (λ (y : Dataset). y.id.0) f.2 ∙ ap (λ (y : DsId). y.0) e)

    -- behind an id stand the datasets above it
    pub behind : (n : ℕ) → n ≤ length sets → IsPartitionPoint (λ (s : Set T). nat_le s.id.0 id.0 ≡ true) (λ (s : Set T). nat_le s.id.0 id.0 ≡ false) sets n → seen (drop n sets) ≡ filter (λ (d : Dataset). is_above (Some id) d.id) (seen sets)
    behind n le parts =
        sym (drop-map (dataset_of entries) n sets) ∙ parted (dataset_of entries) (λ (d : Dataset). is_above (Some id) d.id) sets n le (λ k d l. le-ltb id.0 (get_or sets k d).id.0 (leb-true (get_or sets k d).id.0 id.0 (parts.0 k d (omega arith) l))) (λ k d l m. lt-ltb id.0 (get_or sets k d).id.0 (leb-false (get_or sets k d).id.0 id.0 (parts.1 k d l m)))

    -- as a part of the list
    pub behind_part : (n : ℕ) → n ≤ length sets → IsPartitionPoint (λ (s : Set T). nat_le s.id.0 id.0 ≡ true) (λ (s : Set T). nat_le s.id.0 id.0 ≡ false) sets n → seen (take (length sets - n) (drop n sets)) ≡ filter (λ (d : Dataset). is_above (Some id) d.id) (seen sets)
    behind_part n le parts =
        ap seen (take_all (length sets - n) (drop n sets) (let l : length (drop n sets) ≡ length sets - n = length-drop n sets in omega (arith, l))) ∙ behind n le parts

    -- the test by which they are found parts the list
    pub by_id : IsPartitionedBy (λ (s : Set T). nat_le s.id.0 id.0) sets
    by_id = IsPartitionedBy-leb (λ (s : Set T). s.id.0) sets id.0 (λ i j d le l. ids_rise sets order i j d le l)

-- without an id that is all
pub all_above : (g : Graph) → g ≡ filter (λ (d : Dataset). is_above None d.id) g
all_above [] = refl
all_above (d ∷ ds) = ap (λ (l : Graph). d ∷ l) (all_above ds)

-- a dataset changed at its index is changed by its id
pub changed_at : (g : Graph) → IsInIdOrder g → (i : ℕ) (d : Dataset) (h : Dataset → Dataset) → slice_get g i ≡ Some d → slice_set g i (h d) ≡ map (λ (x : Dataset). if is_id x.id d.id then h x else x) g
changed_at [] order i d h at = absurd (some≢none d (sym at))
changed_at (x ∷ xs) order zero d h at =
    let same : x ≡ d = some_is x d at in
    ap (λ (y : Dataset). y ∷ xs) (ap h (sym same) ∙ sym (ap (λ (t : Bool). if t then h x else x) (is_id-same x.id d.id (ap (λ (y : Dataset). y.id) same)))) ∙ ap (λ (ys : Graph). (if is_id x.id d.id then h x else x) ∷ ys) (sym (others xs (λ y i e. let below : x.id.0 < y.id.0 = order.0 y i in let one : y.id.0 ≡ x.id.0 = ap (λ (z : DsId). z.0) e ∙ sym (ap (λ (z : Dataset). z.id.0) same) in omega (arith, below, one))))
  where
    others : (ys : Graph) → ((y : Dataset) → Has ys y → y.id ≢ d.id) → map (λ (z : Dataset). if is_id z.id d.id then h z else z) ys ≡ ys
    others [] apart = refl
    others (y ∷ ys) apart =
        ap (λ (z : Dataset). z ∷ map (λ (w : Dataset). if is_id w.id d.id then h w else w) ys) (ap (λ (t : Bool). if t then h y else y) (is_id-other y.id d.id (apart y (inl refl)))) ∙ ap (λ (zs : Graph). y ∷ zs) (others ys (λ z i. apart z (inr i)))
changed_at (x ∷ xs) order (suc i) d h at =
    let below : x.id.0 < d.id.0 = order.0 d (has_at xs i d at) in
    let other : is_id x.id d.id ≡ false = is_id-other x.id d.id (λ e. let one : x.id.0 ≡ d.id.0 = ap (λ (z : DsId). z.0) e in absurd (omega (arith, below, one))) in
    ap (λ (ys : Graph). x ∷ ys) (changed_at xs order.1 i d h at) ∙ ap (λ (y : Dataset). y ∷ map (λ (z : Dataset). if is_id z.id d.id then h z else z) xs) (sym (ap (λ (t : Bool). if t then h x else x) other))
