-- A line of keys that grows upwards.
use Rattle.std.proofs.Common.{◌≡◌, sym, ap, subst, refl, true≢false, arith, ℕ, ◌+◌, ◌-◌, ◌<◌, ◌≤◌, ◌==◌, nat_le, Bool, true, false, cond, List, [], ◌∷◌, ◌++◌, Some, None, ◌%◌, ◌^◌}
use Rattle.std.proofs.lemmas.Bool.{leb-false}
use Rattle.zs_ids.specs.declared.key.Key.{Key}
use Rattle.zs_ids.specs.Key.{parent_of, root_key, dnode_key}
use Rattle.zs_objset.specs.Needed.{IsLineUp}

-- the keys lead from k upwards to the last
abbrev pub IsChain : ℕ → Key → List Key → Key → Type 0
IsChain levels k [] last = ⊥
IsChain levels k (x ∷ []) last = (x ≡ k) × (last ≡ k)
IsChain levels k (x ∷ y ∷ ys) last = (x ≡ k) × (parent_of k levels ≡ Some y) × IsChain levels y (y ∷ ys) last

pub chain_push : (levels : ℕ) (k : Key) (keys : List Key) (last p : Key) → IsChain levels k keys last → parent_of last levels ≡ Some p → IsChain levels k (keys ++ p ∷ []) p
chain_push levels k [] last p c h = absurd c
chain_push levels k (x ∷ []) last p c h = (c.0, subst (λ (l : Key). parent_of l levels ≡ Some p) c.1 h, (refl, refl))
chain_push levels k (x ∷ y ∷ ys) last p c h = (c.0, c.1, chain_push levels y (y ∷ ys) last p c.2 h)

pub chain_end : (levels : ℕ) (k : Key) (keys : List Key) (last : Key) → IsChain levels k keys last → parent_of last levels ≡ None → IsLineUp levels k keys
chain_end levels k [] last c h = absurd c
chain_end levels k (x ∷ []) last c h = (c.0, subst (λ (l : Key). parent_of l levels ≡ None) c.1 h)
chain_end levels k (x ∷ y ∷ ys) last c h = (c.0, c.1, chain_end levels y (y ∷ ys) last c.2 h)

-- how many blocks are above a key at most
abbrev pub height : Key → ℕ
height k = cond (k.rank == 0) (cond (k.depth == 0) 0 1) (k.depth + 2)

is_some_key : (a p : Key) → Some a ≡ Some p → a ≡ p
is_some_key a p h = ap (λ o. elim o as (λ _. Key) [ Some y ↦ y | None ↦ a ]) h

not_none : (p : Key) → None ≡ Some p → ⊥
not_none p h = true≢false (ap (λ o. elim o as (λ _. Bool) [ Some y ↦ false | None ↦ true ]) h)

not_low : (levels depth : ℕ) → levels ≤ 4 → nat_le (levels + depth) 4 ≡ false → 0 < depth
not_low levels depth l h = let g : 4 < levels + depth = leb-false (levels + depth) 4 h in omega arith

lower_by : (levels : ℕ) (k p : Key) (a b c : Bool) → (k.rank == 0) ≡ a → (k.depth == 0) ≡ b → nat_le (levels + k.depth) 4 ≡ c → levels ≤ 4 → cond a (cond b None (Some root_key)) (cond c (Some (dnode_key k.object)) (Some (record k { leaf = k.leaf - k.leaf % 64 ^ (4 - k.depth); depth = k.depth - 1 }))) ≡ Some p → height p < cond a (cond b 0 1) (k.depth + 2)
lower_by levels k p true true c r d n l h = absurd (not_none p h)
lower_by levels k p true false c r d n l h = subst (λ (x : Key). height x < 1) (is_some_key root_key p h) (omega arith)
lower_by levels k p false b true r d n l h = subst (λ (x : Key). height x < k.depth + 2) (is_some_key (dnode_key k.object) p h) (omega arith)
lower_by levels k p false b false r d n l h =
    subst (λ (x : Key). height x < k.depth + 2) (is_some_key (record k { leaf = k.leaf - k.leaf % 64 ^ (4 - k.depth); depth = k.depth - 1 }) p h)
    (subst (λ s. cond s (cond (k.depth - 1 == 0) 0 1) (k.depth - 1 + 2) < k.depth + 2) (sym r) (let z : 0 < k.depth = not_low levels k.depth l n in omega arith))

pub parent_lower : (levels : ℕ) (k p : Key) → levels ≤ 4 → parent_of k levels ≡ Some p → height p < height k
parent_lower levels k p l h = lower_by levels k p (k.rank == 0) (k.depth == 0) (nat_le (levels + k.depth) 4) refl refl refl l h
