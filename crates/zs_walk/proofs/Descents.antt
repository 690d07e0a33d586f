-- The datasets below another, as the measure of the walk tests them: those of which it is a strict ancestor.
use Rattle.std.proofs.Common.{◌≡◌, ◌≤◌, ◌⊎◌, ◌||◌, ℕ, zero, suc, List, [], ◌∷◌, refl, sym, ap, subst, ◌∙◌, arith}
use Rattle.std.specs.Prelude.{map, length, IsTrue, Option, Some}
use Rattle.std.proofs.lemmas.Bool.{true≢false, or_cases, or_left, or_right}
use Rattle.std.proofs.lemmas.List.{length-map}
use Rattle.zs_ids.specs.declared.dataset.DsId.{DsId}
use Rattle.zs_ids.specs.Graph.{Has, Dataset, Graph}
use Rattle.zs_ids.specs.GraphTree.{is_id, IsParent, Above}
use Rattle.zs_ids.specs.GraphTree.Above.{direct, up}
use Rattle.zs_ids.specs.GraphValid.{origin, StandsOnSnapshot, IsTree}
use Rattle.zs_phys.specs.Sound.{AreDistinct}
use Rattle.zs_graph.proofs.Lists.{has-map, some_is, some≢none}
use Rattle.zs_graph.proofs.Graphs.{id_is, is_id-same, dataset_is, parent_is, ancestor, acyclic, above-above, above_parent}
use Rattle.zs_walk.specs.Left.{parent_id, descends, is_below}
use Rattle.zs_walk.proofs.Rooms.{distinct_few}
use mathlib.Core.Logic.{inl, inr}

module _ (g : Graph) (n : ℕ) (tree : IsTree g n) where
  -- a dataset that stands on a snapshot, as its child
  stands_as : (d : Dataset) → Has g d → (s : StandsOnSnapshot g d) → IsParent g s.below.id d.id
  stands_as d here s = record { child = d; here = here; named = refl; stands = s.is_parent }

  -- one dataset up
  one_up : (most : ℕ) (id : DsId) (d : Dataset) (s : StandsOnSnapshot g d) → descends g (suc most) id d.parent ≡ (is_id s.below.id id || descends g most id s.below.parent)
  one_up most id d s =
      ap (λ (p : Option DsId). descends g (suc most) id p) s.is_parent ∙ ap (λ (o : Option Dataset). is_id s.below.id id || descends g most id (parent_id o)) (dataset_is g tree.in_order s.below s.below.id s.here refl)

  -- the origin is below none
  not_below : (most : ℕ) (id : DsId) (d : Dataset) → d ≡ origin → IsTrue (descends g most id d.parent) → ⊥
  not_below zero id d is t = true≢false (sym t)
  not_below (suc most) id d is t = true≢false (sym t ∙ ap (λ (x : Dataset). descends g (suc most) id x.parent) is)

  -- what is below a dataset has it as an ancestor
  pub above_is : (most : ℕ) (id : DsId) (d : Dataset) → Has g d → IsTrue (descends g most id d.parent) → Above g id d.id
  above_is zero id d here t = absurd (true≢false (sym t))
  above_is (suc most) id d here t = elim (tree.stands d here) [
    | inl is ↦ absurd (not_below (suc most) id d is t)
    | inr s ↦ elim (or_cases (is_id s.below.id id) (descends g most id s.below.parent) (sym (one_up most id d s) ∙ t)) [
      | inl same ↦ direct d.id (subst (λ (a : DsId). IsParent g a d.id) (id_is s.below.id id same) (stands_as d here s))
      | inr more ↦ up d.id s.below.id (stands_as d here s) (above_is most id s.below s.here more)
    ]
  ]

  -- the way up from a dataset to an ancestor: the ids that it meets are distinct, and above the dataset
  record Way (a : DsId) (d : Dataset) : Type 0 where
    met : List DsId
    once : AreDistinct met
    above : (x : DsId) → Has met x → Above g x d.id
    found : (most : ℕ) → length met ≤ most → IsTrue (descends g most a d.parent)

  -- to the parent
  one_step : (a : DsId) (d : Dataset) → Has g d → d.parent ≡ Some a → Way a d
  one_step a d here on = record {
    met = a ∷ [];
    once = (λ h. h, tt);
    above = λ x h. elim h [ inl e ↦ direct d.id (record { child = d; here = here; named = refl; stands = on ∙ ap Some e }) | inr none ↦ absurd none ];
    found = found;
  }
    where
      found : (most : ℕ) → length (a ∷ []) ≤ most → IsTrue (descends g most a d.parent)
      found zero le = absurd (omega (arith, le))
      found (suc most) le = ap (λ (p : Option DsId). descends g (suc most) a p) on ∙ or_left (is_id a a) _ (is_id-same a a refl)

  -- to an ancestor of the parent
  step_more : (a : DsId) (d : Dataset) → Has g d → (s : StandsOnSnapshot g d) → Way a s.below → Way a d
  step_more a d here s rest = record {
    met = s.below.id ∷ rest.met;
    once = (λ h. acyclic g n tree s.below.id (rest.above s.below.id h), rest.once);
    above = λ x h. elim h [
      | inl e ↦ subst (λ (y : DsId). Above g y d.id) e (direct d.id (stands_as d here s))
      | inr later ↦ up d.id s.below.id (stands_as d here s) (rest.above x later)
    ];
    found = found;
  }
    where
      found : (most : ℕ) → length (s.below.id ∷ rest.met) ≤ most → IsTrue (descends g most a d.parent)
      found zero le = absurd (omega (arith, le))
      found (suc most) le = one_up most a d s ∙ or_right (is_id s.below.id a) _ (rest.found most (omega (arith, le)))

  way_up : (a c : DsId) → Above g a c → (d : Dataset) → Has g d → d.id ≡ c → Way a d
  way_up a _ (direct c p) d here is = one_step a d here (parent_is g n tree a c p d here is)
  way_up a _ (up c m p above) d here is =
      let on : d.parent ≡ Some m = parent_is g n tree m c p d here is in
      elim (tree.stands d here) [
        | inl root ↦ absurd (some≢none m (sym on ∙ ap (λ (x : Dataset). x.parent) root))
        | inr s ↦ step_more a d here s (way_up a m above s.below s.here (some_is s.below.id m (sym s.is_parent ∙ on)))
      ]

  -- and what has it as an ancestor is below it: the way up is not longer than there are datasets
  pub below_is : (a : DsId) (d : Dataset) → Has g d → Above g a d.id → IsTrue (is_below g a d)
  below_is a d here above =
      let way = way_up a d.id above d here refl in
      let few : length way.met ≤ length (map (λ (x : Dataset). x.id) g) = distinct_few way.met (map (λ (x : Dataset). x.id) g) way.once (λ x h. let o = ancestor g n tree x d.id (way.above x h) in subst (λ (y : DsId). Has (map (λ (z : Dataset). z.id) g) y) o.2 (has-map (λ (z : Dataset). z.id) g o.0 o.1)) in
      let all = length-map g (λ (x : Dataset). x.id) in
      way.found (length g) (omega (arith, few, all))

  -- of two ancestors of a dataset one is above the other, where they are two
  two_above : (a b c : DsId) → Above g a c → Above g b c → (a ≡ b) ⊎ (Above g a b ⊎ Above g b a)
  two_above a b _ (direct c p) other = elim (above_parent g n tree b a c p other) [ inl e ↦ inl (sym e) | inr more ↦ inr (inr more) ]
  two_above a b _ (up c m p above) other = elim (above_parent g n tree b m c p other) [
    | inl e ↦ inr (inl (subst (λ (x : DsId). Above g a x) (sym e) above))
    | inr more ↦ two_above a b m above more
  ]

  -- a child of a dataset is not above another
  pub not_above : (id a b : DsId) → IsParent g id a → IsParent g id b → Above g a b → ⊥
  not_above id a b pa pb above = elim (above_parent g n tree a id b pb above) [
    | inl e ↦ acyclic g n tree id (subst (λ (x : DsId). Above g id x) e (direct a pa))
    | inr more ↦ acyclic g n tree id (above-above g id a id (direct a pa) more)
  ]

  -- no dataset is below two children of one
  pub one_child : (id a b c : DsId) → IsParent g id a → IsParent g id b → Above g a c → Above g b c → a ≡ b
  one_child id a b c pa pb first second = elim (two_above a b c first second) [
    | inl e ↦ e
    | inr more ↦ elim more [ inl first_up ↦ absurd (not_above id a b pa pb first_up) | inr down ↦ absurd (not_above id b a pb pa down) ]
  ]
