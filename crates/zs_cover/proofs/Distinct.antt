-- Lists of distinct ids: appended, mapped, filtered, and those of datasets.
use Rattle.std.proofs.Common.{◌≡◌, Bool, true, false, cond, List, [], ◌∷◌, ◌++◌, refl, ap, subst, sym, arith, ◌<◌}
use Rattle.std.specs.Prelude.{map, filter}
use Rattle.zs_ids.specs.declared.dataset.DsId.{DsId}
use Rattle.zs_ids.specs.Graph.{Has, Dataset, Graph}
use Rattle.zs_ids.specs.GraphValid.{IsInIdOrder}
use Rattle.zs_phys.specs.Sound.{AreDistinct}
use Rattle.zs_graph.proofs.Lists.{has-left, has-right, from-append, from-map, from-filter}
use mathlib.Core.Logic.{inl, inr}

-- two lists of distinct ids without a common one
pub distinct-append : (xs ys : List DsId) → AreDistinct xs → AreDistinct ys → ((x : DsId) → Has xs x → Has ys x → ⊥) → AreDistinct (xs ++ ys)
distinct-append [] ys xd yd apart = yd
distinct-append (x ∷ xs) ys xd yd apart =
    (λ h. elim (from-append xs ys x h) [ inl l ↦ xd.0 l | inr r ↦ apart x (inl refl) r ], distinct-append xs ys xd.1 yd (λ z l r. apart z (inr l) r))

-- the parts of a list of distinct ids
pub distinct-left : (xs ys : List DsId) → AreDistinct (xs ++ ys) → AreDistinct xs
distinct-left [] ys d = tt
distinct-left (x ∷ xs) ys d = (λ h. d.0 (has-left xs ys x h), distinct-left xs ys d.1)

pub distinct-right : (xs ys : List DsId) → AreDistinct (xs ++ ys) → AreDistinct ys
distinct-right [] ys d = d
distinct-right (x ∷ xs) ys d = distinct-right xs ys d.1

-- an id of the left part is none of the right part
pub distinct-apart : (xs ys : List DsId) (x : DsId) → AreDistinct (xs ++ ys) → Has xs x → Has ys x → ⊥
distinct-apart [] ys x d h r = absurd h
distinct-apart (z ∷ xs) ys x d (inl e) r = d.0 (has-right xs ys z (subst (λ (w : DsId). Has ys w) (sym e) r))
distinct-apart (z ∷ xs) ys x d (inr l) r = distinct-apart xs ys x d.1 l r

-- distinct ids stay distinct under names that differ for each two of them
pub distinct-map : (f : DsId → DsId) (xs : List DsId) → ((a b : DsId) → Has xs a → Has xs b → f a ≡ f b → a ≡ b) → AreDistinct xs → AreDistinct (map f xs)
distinct-map f [] one d = tt
distinct-map f (x ∷ xs) one d =
    (λ h. let r = from-map f xs (f x) h in d.0 (subst (λ (z : DsId). Has xs z) (one r.0 x (inr r.1) (inl refl) r.2) r.1), distinct-map f xs (λ a b i j e. one a b (inr i) (inr j) e) d.1)

-- distinct ids stay distinct in a filtered list
pub distinct-filter : (test : DsId → Bool) (xs : List DsId) → AreDistinct xs → AreDistinct (filter test xs)
distinct-filter test [] d = tt
distinct-filter test (x ∷ xs) d = go (test x) (distinct-filter test xs d.1)
  where
    go : (b : Bool) → AreDistinct (filter test xs) → AreDistinct (cond b (x ∷ filter test xs) (filter test xs))
    go true r = (λ h. d.0 (from-filter test xs x h).0, r)
    go false r = r

-- the ids of a list in order of id are distinct
pub distinct-ids : (g : Graph) → IsInIdOrder g → AreDistinct (map (λ (d : Dataset). d.id) g)
distinct-ids [] o = tt
distinct-ids (d ∷ ds) o =
    (λ h. let r = from-map (λ (x : Dataset). x.id) ds d.id h in let below : d.id.0 < (r.0).id.0 = o.0 r.0 r.1 in let same : (r.0).id.0 ≡ d.id.0 = ap (λ (x : DsId). x.0) r.2 in absurd (omega (arith, below, same)), distinct-ids ds o.1)
