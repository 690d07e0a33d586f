-- A dataset that is taken out at its index is destroyed.
use Rattle.std.proofs.Common.{◌≡◌, ◌≢◌, ◌<◌, ℕ, suc, zero, Bool, false, not, cond, List, [], ◌∷◌, Option, refl, sym, ap, subst, ◌∙◌, arith}
use Rattle.std.specs.Prelude.{map, option_to_list, slice_get, slice_set, Some, None, if◌then◌else◌}
use Rattle.std.specs.List.{remove}
use Rattle.std.proofs.lemmas.Bool.{true≢false, cases_Bool, not_from_false}
use Rattle.zs_ids.specs.declared.dataset.DsId.{DsId}
use Rattle.zs_ids.specs.Graph.{Has, Dataset, Graph}
use Rattle.zs_ids.specs.GraphTree.{is_id, stands_on, IsParent}
use Rattle.zs_ids.specs.GraphValid.{IsInIdOrder}
use Rattle.zs_ids.specs.GraphChange.{destroyed, without, off, MayDestroy}
use Rattle.zs_graph.specs.ByIndex.{removed_at, IsPlaceOf}
use Rattle.zs_graph.proofs.Lists.{some_is, some≢none}
use Rattle.zs_graph.proofs.Graphs.{is_id-same, is_id-other, id_is, one_dataset, dataset_is, from-children, has-child, stands_on-is, stands_on-from}
use Rattle.zs_graph.proofs.Seen.{has_at}
use Rattle.zs_graph.proofs.Searches.{changed_at}
use mathlib.Core.Logic.{inl, inr}

-- functions that agree on a list's elements map it to one list
map_alike : (f h : Dataset → Dataset) (g : Graph) → ((x : Dataset) → Has g x → f x ≡ h x) → map f g ≡ map h g
map_alike f h [] same = refl
map_alike f h (d ∷ ds) same =
    ap (λ (y : Dataset). y ∷ map f ds) (same d (inl refl)) ∙ ap (λ (l : Graph). h d ∷ l) (map_alike f h ds (λ x i. same x (inr i)))

map_itself : (g : Graph) → map (λ (d : Dataset). d) g ≡ g
map_itself [] = refl
map_itself (d ∷ ds) = ap (λ (l : Graph). d ∷ l) (map_itself ds)

remove-map : (f : Dataset → Dataset) (g : Graph) (i : ℕ) → remove (map f g) i ≡ map f (remove g i)
remove-map f [] zero = refl
remove-map f [] (suc i) = refl
remove-map f (d ∷ ds) zero = refl
remove-map f (d ∷ ds) (suc i) = ap (λ (l : Graph). f d ∷ l) (remove-map f ds i)

-- in order of id, what stands at an index is taken out by its id
removed_is : (g : Graph) → IsInIdOrder g → (i : ℕ) (gone : Dataset) → slice_get g i ≡ Some gone → remove g i ≡ without gone.id g
removed_is [] order i gone at = absurd (some≢none gone (sym at))
removed_is (x ∷ xs) order zero gone at =
    let same : x ≡ gone = some_is x gone at in
    let first : not (is_id x.id gone.id) ≡ false = ap not (is_id-same x.id gone.id (ap (λ (y : Dataset). y.id) same)) in
    subst (λ (b : Bool). xs ≡ cond b (x ∷ without gone.id xs) (without gone.id xs)) (sym first) (all xs (λ y i e. let below : x.id.0 < y.id.0 = order.0 y i in let one : y.id.0 ≡ x.id.0 = ap (λ (z : DsId). z.0) e ∙ sym (ap (λ (z : Dataset). z.id.0) same) in omega (arith, below, one)))
  where
    all : (ys : Graph) → ((y : Dataset) → Has ys y → y.id ≢ gone.id) → ys ≡ without gone.id ys
    all [] apart = refl
    all (y ∷ ys) apart =
        subst (λ (b : Bool). (y ∷ ys) ≡ cond b (y ∷ without gone.id ys) (without gone.id ys)) (sym (not_from_false (is_id y.id gone.id) (is_id-other y.id gone.id (apart y (inl refl))))) (ap (λ (l : Graph). y ∷ l) (all ys (λ z i. apart z (inr i))))
removed_is (x ∷ xs) order (suc i) gone at =
    let below : x.id.0 < gone.id.0 = order.0 gone (has_at xs i gone at) in
    let other : is_id x.id gone.id ≡ false = is_id-other x.id gone.id (λ e. let one : x.id.0 ≡ gone.id.0 = ap (λ (z : DsId). z.0) e in absurd (omega (arith, below, one))) in
    subst (λ (b : Bool). (x ∷ remove xs i) ≡ cond b (x ∷ without gone.id xs) (without gone.id xs)) (sym (not_from_false (is_id x.id gone.id) other)) (ap (λ (l : Graph). x ∷ l) (removed_is xs order.1 i gone at))

module _ (g : Graph) (order : IsInIdOrder g) (at : ℕ) (gone : Dataset) (there : slice_get g at ≡ Some gone) where
  taken_out : (h : Graph) → h ≡ map (off gone) g → remove h at ≡ destroyed g gone
  taken_out h e = ap (λ (l : Graph). remove l at) e ∙ remove-map (off gone) g at ∙ ap (λ (l : Graph). map (off gone) l) (removed_is g order at gone there)

  -- a dataset without a child
  pub removed_alone : ((d : Dataset) → Has g d → d.parent ≡ Some gone.id → ⊥) → removed_at g at None ≡ destroyed g gone
  removed_alone none =
      rw there (taken_out g (sym (map_itself g) ∙ map_alike (λ (d : Dataset). d) (off gone) g (λ x i. sym (ap (λ (t : Bool). if t then record x { parent = gone.parent } else x) (apart x i)))))
    where
      apart : (x : Dataset) → Has g x → stands_on gone.id x.parent ≡ false
      apart x i = elim (cases_Bool (stands_on gone.id x.parent)) [ inl t ↦ absurd (none x i (stands_on-is gone.id x.parent t)) | inr f ↦ f ]

  -- a dataset with one child
  pub removed_below : (i : ℕ) (child : Dataset) → slice_get g i ≡ Some child → child.parent ≡ Some gone.id → ((d : Dataset) → Has g d → d.parent ≡ Some gone.id → d.id ≡ child.id) → removed_at g at (Some i) ≡ destroyed g gone
  removed_below i child at_child on only =
      rw (there, at_child) (taken_out (slice_set g i (record child { parent = gone.parent })) (changed_at g order i child (λ d. record d { parent = gone.parent }) at_child ∙ map_alike (λ (d : Dataset). if is_id d.id child.id then record d { parent = gone.parent } else d) (off gone) g (λ x h. ap (λ (t : Bool). if t then record x { parent = gone.parent } else x) (alike x h))))
    where
      alike : (x : Dataset) → Has g x → is_id x.id child.id ≡ stands_on gone.id x.parent
      alike x h = elim (cases_Bool (is_id x.id child.id)) [
        | inl t ↦
            let same : x ≡ child = one_dataset g order x child h (has_at g i child at_child) (id_is x.id child.id t) in
            t ∙ sym (stands_on-from gone.id x.parent (ap (λ (y : Dataset). y.parent) same ∙ on))
        | inr f ↦ elim (cases_Bool (stands_on gone.id x.parent)) [
          | inl s ↦ absurd (true≢false (sym (is_id-same x.id child.id (only x h (stands_on-is gone.id x.parent s))) ∙ f))
          | inr n ↦ f ∙ sym n
        ]
      ]

-- a dataset that may be destroyed, with the place of its one child, where it has one
module _ (g : Graph) (order : IsInIdOrder g) (gone : Dataset) (next : Option DsId) (may : MayDestroy g gone next) where
  is_next : (d : Dataset) → Has g d → d.parent ≡ Some gone.id → Has (option_to_list next) d.id
  is_next d h on =
      subst (λ (l : List DsId). Has l d.id) may.only (has-child g gone.id d.id (record { child = d; here = h; named = refl; stands = on }))

  below : (c : DsId) → next ≡ Some c → IsParent g gone.id c
  below c e =
      from-children g gone.id c (subst (λ (l : List DsId). Has l c) (sym may.only) (subst (λ (o : Option DsId). Has (option_to_list o) c) (sym e) (inl refl)))

  pub removed_destroyed : (at : ℕ) → slice_get g at ≡ Some gone → (place : Option ℕ) → IsPlaceOf g next place → removed_at g at place ≡ destroyed g gone
  removed_destroyed at there place is = go next refl place is
    where
      named : (c : DsId) → next ≡ Some c → (d : Dataset) → Has g d → d.parent ≡ Some gone.id → d.id ≡ c
      named c e d h on = elim (subst (λ (o : Option DsId). Has (option_to_list o) d.id) e (is_next d h on)) [ inl same ↦ sym same | inr none ↦ absurd none ]

      go : (o : Option DsId) → next ≡ o → (p : Option ℕ) → IsPlaceOf g o p → removed_at g at p ≡ destroyed g gone
      go None e None i = removed_alone g order at gone there (λ d h on. subst (λ (o : Option DsId). Has (option_to_list o) d.id) e (is_next d h on))
      go None e (Some k) i = absurd (some≢none k i)
      go (Some c) e None i = let p = below c e in absurd (some≢none p.child (sym (dataset_is g order p.child c p.here p.named) ∙ i))
      go (Some c) e (Some k) i =
          let p = below c e in
          removed_below g order at gone there k p.child (i.1 ∙ dataset_is g order p.child c p.here p.named) p.stands (λ d h on. named c e d h on ∙ sym p.named)
