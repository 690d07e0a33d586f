-- Entries with changes put in: the changes are there, and so is what was at other keys.
use Rattle.std.proofs.Common.{◌≡◌, ◌≢◌, ◌⊎◌, List, [], ◌∷◌, refl, sym, ap, subst, ◌∙◌}
use Rattle.std.specs.Ordering.{match_ordering}
use Rattle.std.specs.declared.cmp.Ordering.{Ordering}
use Rattle.std.specs.declared.cmp.Ordering.TheVariants.{Less, Equal, Greater}
use Rattle.std.specs.List.Sorted.{IsStrictlySortedBy}
use Rattle.zs_ids.specs.declared.key.Key.{Key}
use Rattle.zs_ids.specs.declared.block.Bp.{Bp}
use Rattle.zs_ids.specs.Key.{key_cmp}
use Rattle.zs_ids.specs.Blocks.{replaced, entries_with, IsInKeyOrder}
use Rattle.zs_ids.specs.Graph.{Has}
use Rattle.zs_graph.proofs.Keys.{key_equal}
use Rattle.zs_graph.proofs.KeyCases.{cases_key, key_rises}
use mathlib.Core.Logic.{inl, inr}

-- no change is at the key
abbrev pub NoneAt : List (Key × Bp) → Key → Type 0
NoneAt changes k = (c : Key × Bp) → Has changes c → c.0 ≢ k

-- the pointer that is put in is there
has-replaced : (es : List (Key × Bp)) (k : Key) (bp : Bp) → Has (replaced es k bp) (k, bp)
has-replaced [] k bp = inl refl
has-replaced (x ∷ xs) k bp = go (key_cmp k x.0) refl (has-replaced xs k bp)
  where
    go : (o : Ordering) → key_cmp k x.0 ≡ o → Has (replaced xs k bp) (k, bp) → Has (match_ordering o ((k, bp) ∷ x ∷ xs) ((x.0, bp) ∷ xs) (x ∷ replaced xs k bp)) (k, bp)
    go Less is rest = inl refl
    go Equal is rest = inl (ap (λ (y : Key). let z : Key × Bp = (y, bp) in z) (sym (key_equal k x.0 is)))
    go Greater is rest = inr rest

-- what is at another key stays
replaced-other : (es : List (Key × Bp)) (k : Key) (bp : Bp) (e : Key × Bp) → Has es e → k ≢ e.0 → Has (replaced es k bp) e
replaced-other [] k bp e h ne = absurd h
replaced-other (x ∷ xs) k bp e h ne = go (key_cmp k x.0) refl h (λ r. replaced-other xs k bp e r ne)
  where
    go : (o : Ordering) → key_cmp k x.0 ≡ o → Has (x ∷ xs) e → (Has xs e → Has (replaced xs k bp) e) → Has (match_ordering o ((k, bp) ∷ x ∷ xs) ((x.0, bp) ∷ xs) (x ∷ replaced xs k bp)) e
    go Less is i rest = inr i
    go Equal is (inl first) rest = absurd (ne (key_equal k x.0 is ∙ ap (λ (y : Key × Bp). y.0) first))
    go Equal is (inr i) rest = inr i
    go Greater is (inl first) rest = inl first
    go Greater is (inr i) rest = inr (rest i)

-- what is at a key without a change stays
pub with-other : (es cs : List (Key × Bp)) (e : Key × Bp) → Has es e → NoneAt cs e.0 → Has (entries_with es cs) e
with-other es [] e h none = h
with-other es (c ∷ cs) e h none = with-other (replaced es c.0 c.1) cs e (replaced-other es c.0 c.1 e h (none c (inl refl))) (λ d i. none d (inr i))

-- each change is there, where the keys of the changes rise
pub has-with : (es cs : List (Key × Bp)) (c : Key × Bp) → IsInKeyOrder cs → Has cs c → Has (entries_with es cs) c
unfolding IsStrictlySortedBy
has-with es [] c s h = absurd h
has-with es (x ∷ xs) c s (inl first) =
    subst (λ (y : Key × Bp). Has (entries_with (replaced es x.0 x.1) xs) y) first (with-other (replaced es x.0 x.1) xs x (has-replaced es x.0 x.1) (key_rises x xs s))
has-with es (x ∷ xs) c s (inr more) = has-with (replaced es x.0 x.1) xs c s.1 more

-- some change is at the key, or none
pub cases_at : (cs : List (Key × Bp)) (k : Key) → ((c : Key × Bp) × Has cs c × (c.0 ≡ k)) ⊎ NoneAt cs k
cases_at [] k = inr (λ c h. absurd h)
cases_at (x ∷ xs) k = elim (cases_key x.0 k) [
  | inl is ↦ inl (x, inl refl, is)
  | inr ne ↦ elim (cases_at xs k) [
    | inl r ↦ inl (r.0, inr r.1, r.2)
    | inr none ↦ inr (λ c h. elim h [ inl first ↦ subst (λ (y : Key × Bp). y.0 ≢ k) first ne | inr more ↦ none c more ])
  ]
]
