-- What a list has.
use Rattle.std.proofs.Common.{◌≡◌, ℕ, zero, suc, ◌<◌, List, [], ◌∷◌, length, get_or, refl, inl, inr, arith, subst, sym}
use Rattle.zs_ids.specs.Graph.{Has}

module _ {A : Type 0} where
  -- a list has what stands in it
  pub has_at : (xs : List A) (i : ℕ) (d : A) → i < length xs → Has xs (get_or xs i d)
  has_at [] i d below = absurd (omega arith)
  has_at (x ∷ xs) zero d below = inl refl
  has_at (x ∷ xs) (suc i) d below = inr (has_at xs i d (omega arith))

  -- so it has an element that is seen there
  pub has_seen : (xs : List A) (i : ℕ) (x : A) → i < length xs → x ≡ get_or xs i x → Has xs x
  has_seen xs i x below is = subst (λ (y : A). Has xs y) (sym is) (has_at xs i x below)
