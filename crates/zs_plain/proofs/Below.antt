-- How the datasets below some roots are found, one after the other.
use Rattle.std.proofs.Common.{◌≡◌, ◌⊎◌, ◌<◌, ◌↔◌, Bool, true, false, not, ◌||◌, List, [], ◌∷◌, ◌++◌, length, refl, sym, subst, ◌∙◌, Option, Some, None, find, filter, option_map}
use Rattle.std.proofs.lemmas.Bool.{and_parts, and_from, or_cases, or_left, or_right, true≢false, not-true, not_from_true, not_from_false, false_from_ne_true}
use Rattle.zs_ids.specs.declared.dataset.DsId.{DsId}
use Rattle.zs_ids.specs.Graph.{Has, Dataset, Graph}
use Rattle.zs_ids.specs.GraphTree.{Above, IsParent}
use Rattle.zs_ids.specs.GraphTree.Above.{direct, up}
use Rattle.zs_graph.proofs.Lists.{has-left, has-right, from-append, from-find, none-find, some_is, some≢none}
use Rattle.zs_plain.specs.Tests.{has_id, stands_on_one, is_next}
use Rattle.zs_plain.specs.Below.{IsBelow}
use Rattle.zs_plain.proofs.Decide.{has_id-is}
use Rattle.zs_plain.proofs.Passed.{fewer}
use mathlib.Core.Logic.{inl, inr}

-- a dataset is not found yet
abbrev pub is_missing : List DsId → Dataset → Bool
is_missing found d = not (has_id found d.id)

-- a parent that is one of the ids
stands-on : (ids : List DsId) (parent : Option DsId) → stands_on_one ids parent ≡ true → (a : DsId) × (parent ≡ Some a) × Has ids a
stands-on ids None e = absurd (true≢false (sym e))
stands-on ids (Some a) e = (a, refl, (has_id-is ids a).0 e)

on-stands : (ids : List DsId) (parent : Option DsId) (a : DsId) → parent ≡ Some a → Has ids a → stands_on_one ids parent ≡ true
on-stands ids None a e h = absurd (some≢none a (sym e))
on-stands ids (Some b) a e h = (has_id-is ids b).1 (subst (λ (x : DsId). Has ids x) (sym (some_is b a e)) h)

module _ (g : Graph) (roots found : List DsId) where
  -- the dataset that was found
  next_is : (id : DsId) (o : Option Dataset) → find (is_next roots found) g ≡ o → Some id ≡ option_map (λ (d : Dataset). d.id) o → (d : Dataset) × Has g d × (is_next roots found d ≡ true) × (d.id ≡ id)
  next_is id None is e = absurd (some≢none id e)
  next_is id (Some d) is e =
      let r = from-find (is_next roots found) g d is in (d, r.0, r.1, some_is d.id id (sym e))

  -- it stands below a root
  pub next_below : (id : DsId) → Some id ≡ option_map (λ (d : Dataset). d.id) (find (is_next roots found) g) → ((c : DsId) → Has found c → IsBelow g roots c) → IsBelow g roots id
  next_below id e so_far =
      let n = next_is id (find (is_next roots found) g) refl e in
      let t = and_parts (not (has_id found (n.0).id)) (stands_on_one roots (n.0).parent || stands_on_one found (n.0).parent) n.2 in
      elim (or_cases (stands_on_one roots (n.0).parent) (stands_on_one found (n.0).parent) t.1) [
        | inl r ↦ let a = stands-on roots (n.0).parent r in record { root = a.0; is_root = a.2; above = direct id (record { child = n.0; here = n.1; named = n.3; stands = a.1 }) }
        | inr f ↦ let a = stands-on found (n.0).parent f in let b = so_far a.0 a.2 in record { root = b.root; is_root = b.is_root; above = up id a.0 (record { child = n.0; here = n.1; named = n.3; stands = a.1 }) b.above }
      ]

  -- and with it all that is found does
  pub found_more : (id : DsId) → Some id ≡ option_map (λ (d : Dataset). d.id) (find (is_next roots found) g) → ((c : DsId) → Has found c → IsBelow g roots c) → (c : DsId) → Has (found ++ id ∷ []) c → IsBelow g roots c
  found_more id e so_far c h = elim (from-append found (id ∷ []) c h) [
    | inl l ↦ so_far c l
    | inr r ↦ elim r [ inl same ↦ subst (λ (x : DsId). IsBelow g roots x) same (next_below id e so_far) | inr nothing ↦ absurd nothing ]
  ]

  -- fewer datasets are missing
  pub missing_fewer : (id : DsId) → Some id ≡ option_map (λ (d : Dataset). d.id) (find (is_next roots found) g) → length (filter (is_missing (found ++ id ∷ [])) g) < length (filter (is_missing found) g)
  missing_fewer id e =
      let n = next_is id (find (is_next roots found) g) refl e in
      let t = and_parts (not (has_id found (n.0).id)) (stands_on_one roots (n.0).parent || stands_on_one found (n.0).parent) n.2 in
      fewer (is_missing found) (is_missing (found ++ id ∷ [])) still g n.0 n.1 t.0 (not_from_true (has_id (found ++ id ∷ []) (n.0).id) ((has_id-is (found ++ id ∷ []) (n.0).id).1 (has-right found (id ∷ []) (n.0).id (inl (sym n.3)))))
    where
      still : (d : Dataset) → is_missing (found ++ id ∷ []) d ≡ true → is_missing found d ≡ true
      still d m =
          not_from_false (has_id found d.id) (false_from_ne_true (has_id found d.id) (λ t. true≢false (sym ((has_id-is (found ++ id ∷ []) d.id).1 (has-left found (id ∷ []) d.id ((has_id-is found d.id).0 t))) ∙ not-true (has_id (found ++ id ∷ []) d.id) m)))

  module _ (none : find (is_next roots found) g ≡ None) where
    -- where nothing is next, a child of a root or of what is found is found
    closed : (c a : DsId) → IsParent g a c → Has roots a ⊎ Has found a → Has found c
    closed c a p from =
        subst (λ (x : DsId). Has found x) p.named ((has_id-is found (p.child).id).0 (go (has_id found (p.child).id) refl))
      where
        stands : (stands_on_one roots (p.child).parent || stands_on_one found (p.child).parent) ≡ true
        stands = elim from [
          | inl r ↦ or_left (stands_on_one roots (p.child).parent) (stands_on_one found (p.child).parent) (on-stands roots (p.child).parent a p.stands r)
          | inr f ↦ or_right (stands_on_one roots (p.child).parent) (stands_on_one found (p.child).parent) (on-stands found (p.child).parent a p.stands f)
        ]

        go : (b : Bool) → has_id found (p.child).id ≡ b → has_id found (p.child).id ≡ true
        go true is = is
        go false is =
            absurd (true≢false (sym (and_from (not (has_id found (p.child).id)) (stands_on_one roots (p.child).parent || stands_on_one found (p.child).parent) (not_from_false (has_id found (p.child).id) is) stands) ∙ none-find (is_next roots found) g p.child none p.here))

    -- and so is all that stands below a root
    all_below : (a c : DsId) → Above g a c → Has roots a → Has found c
    all_below a _ (direct c p) r = closed c a p (inl r)
    all_below a _ (up c m p above) r = closed c m p (inr (all_below a m above r))

    pub found_all : (c : DsId) → IsBelow g roots c → Has found c
    found_all c below = all_below below.root c below.above below.is_root

-- where nothing is next, what is found is what stands below
pub below_is : (g : Graph) (roots found : List DsId) → None ≡ option_map (λ (d : Dataset). d.id) (find (is_next roots found) g) → ((c : DsId) → Has found c → IsBelow g roots c) → (c : DsId) → Has found c ↔ IsBelow g roots c
below_is g roots found e so_far c = (so_far c, found_all g roots found (nothing (find (is_next roots found) g) e) c)
  where
    nothing : (o : Option Dataset) → None ≡ option_map (λ (d : Dataset). d.id) o → o ≡ None
    nothing None is = refl
    nothing (Some d) is = absurd (some≢none d.id (sym is))

-- as the loop has it
module _ (g : Graph) (roots found slice : List DsId) (r : Option DsId) (same : slice ≡ found) (is : r ≡ option_map (λ (d : Dataset). d.id) (find (is_next roots slice) g)) where
  step : r ≡ option_map (λ (d : Dataset). d.id) (find (is_next roots found) g)
  step = subst (λ (l : List DsId). r ≡ option_map (λ (d : Dataset). d.id) (find (is_next roots l) g)) same is

  module _ (id : DsId) (new : List DsId) (some : r ≡ Some id) (pushed : new ≡ found ++ id ∷ []) where
    pub step_fewer : length (filter (is_missing new) g) < length (filter (is_missing found) g)
    step_fewer =
        subst (λ (l : List DsId). length (filter (is_missing l) g) < length (filter (is_missing found) g)) (sym pushed) (missing_fewer g roots found id (sym some ∙ step))

    pub step_more : ((c : DsId) → Has found c → IsBelow g roots c) → (c : DsId) → Has new c → IsBelow g roots c
    step_more so_far =
        subst (λ (l : List DsId). (c : DsId) → Has l c → IsBelow g roots c) (sym pushed) (found_more g roots found id (sym some ∙ step) so_far)

  pub step_last : r ≡ None → ((c : DsId) → Has found c → IsBelow g roots c) → (c : DsId) → Has found c ↔ IsBelow g roots c
  step_last none so_far = below_is g roots found (sym none ∙ step) so_far
