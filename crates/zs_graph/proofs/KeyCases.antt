-- Keys and pieces are one or not, and a key of a list in order stands once.
use Rattle.std.proofs.Common.{◌≡◌, ◌≢◌, ◌⊎◌, ℕ, Bool, cond, List, [], ◌∷◌, refl, sym, ap, ◌∙◌, arith}
use Rattle.std.specs.Prelude.{◌==◌}
use Rattle.std.specs.Ordering.{nat_cmp}
use Rattle.std.specs.declared.cmp.Ordering.TheVariants.{Less, Equal, Greater}
use Rattle.std.specs.List.{AllByRecursion}
use Rattle.std.specs.List.Sorted.{IsStrictlySortedBy}
use Rattle.std.specs.Map.{keys_of}
use Rattle.std.proofs.lemmas.Bool.{cases_Bool, true≢false, le-ltb, eqb-true, eq-eqb}
use Rattle.zs_ids.specs.declared.key.Key.{Key}
use Rattle.zs_ids.specs.declared.block.Bp.{Bp}
use Rattle.zs_ids.specs.declared.block.Piece.{Piece}
use Rattle.zs_ids.specs.Key.{key_cmp}
use Rattle.zs_ids.specs.Blocks.{IsInKeyOrder}
use Rattle.zs_ids.specs.Graph.{Has}
use mathlib.Core.Logic.{inl, inr}

abbrev keyed : ℕ → ℕ → ℕ → ℕ → Key
keyed object rank leaf depth = record { object = object; rank = rank; leaf = leaf; depth = depth }

-- two numbers are one or not
cases_number : (a b : ℕ) → (a ≡ b) ⊎ (a ≢ b)
cases_number a b = elim (cases_Bool (a == b)) [
  | inl t ↦ inl (eqb-true a b t)
  | inr f ↦ inr (λ e. true≢false (sym (eq-eqb a b e) ∙ f))
]

-- two keys are one or not
pub cases_key : (a b : Key) → (a ≡ b) ⊎ (a ≢ b)
cases_key a b = elim (cases_number a.object b.object) [
  | inr ne ↦ inr (λ e. ne (ap (λ (k : Key). k.object) e))
  | inl o ↦ elim (cases_number a.rank b.rank) [
    | inr ne ↦ inr (λ e. ne (ap (λ (k : Key). k.rank) e))
    | inl r ↦ elim (cases_number a.leaf b.leaf) [
      | inr ne ↦ inr (λ e. ne (ap (λ (k : Key). k.leaf) e))
      | inl l ↦ elim (cases_number a.depth b.depth) [
        | inr ne ↦ inr (λ e. ne (ap (λ (k : Key). k.depth) e))
        | inl d ↦ inl (ap (λ (x : ℕ). keyed x a.rank a.leaf a.depth) o ∙ ap (λ (x : ℕ). keyed b.object x a.leaf a.depth) r ∙ ap (λ (x : ℕ). keyed b.object b.rank x a.depth) l ∙ ap (λ (x : ℕ). keyed b.object b.rank b.leaf x) d)
      ]
    ]
  ]
]

-- a key is in order with itself
number_self : (a : ℕ) → nat_cmp a a ≡ Equal
number_self a =
    ap (λ (t : Bool). cond t Less (cond (a == a) Equal Greater)) (le-ltb a a (omega arith)) ∙ ap (λ (t : Bool). cond t Equal Greater) (eq-eqb a a refl)

pub key_self : (a : Key) → key_cmp a a ≡ Equal
key_self a = rw (number_self a.object, number_self a.rank, number_self a.leaf) (number_self a.depth)

less≢equal : Less ≡ Equal → ⊥
less≢equal e = cc

-- in a list in order of key the keys behind the first one are others
pub key_rises : (x : Key × Bp) (xs : List (Key × Bp)) → IsInKeyOrder (x ∷ xs) → (d : Key × Bp) → Has xs d → d.0 ≢ x.0
unfolding IsStrictlySortedBy
key_rises x xs s d h same = above xs s.0 h
  where
    above : (es : List (Key × Bp)) → AllByRecursion (λ y. key_cmp x.0 y ≡ Less) (keys_of es) → Has es d → ⊥
    above [] all i = i
    above (e ∷ es) all (inl is) =
        less≢equal (sym all.0 ∙ ap (λ (k : Key). key_cmp x.0 k) (ap (λ (y : Key × Bp). y.0) is ∙ same) ∙ key_self x.0)
    above (e ∷ es) all (inr more) = above es all.1 more

abbrev placed : ℕ → ℕ → ℕ → Piece
placed vdev sector birth = record { place = record { vdev = vdev; sector = sector }; birth = birth }

-- two pieces are one or not
pub cases_piece : (p q : Piece) → (p ≡ q) ⊎ (p ≢ q)
cases_piece p q = elim (cases_number p.place.vdev q.place.vdev) [
  | inr ne ↦ inr (λ e. ne (ap (λ (x : Piece). x.place.vdev) e))
  | inl v ↦ elim (cases_number p.place.sector q.place.sector) [
    | inr ne ↦ inr (λ e. ne (ap (λ (x : Piece). x.place.sector) e))
    | inl s ↦ elim (cases_number p.birth q.birth) [
      | inr ne ↦ inr (λ e. ne (ap (λ (x : Piece). x.birth) e))
      | inl b ↦ inl (ap (λ (x : ℕ). placed x p.place.sector p.birth) v ∙ ap (λ (x : ℕ). placed q.place.vdev x p.birth) s ∙ ap (λ (x : ℕ). placed q.place.vdev q.place.sector x) b)
    ]
  ]
]

-- a list has the piece or not
pub cases_has : (ps : List Piece) (p : Piece) → Has ps p ⊎ (Has ps p → ⊥)
cases_has [] p = inr (λ h. h)
cases_has (q ∷ ps) p = elim (cases_piece q p) [
  | inl is ↦ inl (inl is)
  | inr ne ↦ elim (cases_has ps p) [
    | inl h ↦ inl (inr h)
    | inr none ↦ inr (λ h. elim h [ inl is ↦ ne is | inr more ↦ none more ])
  ]
]
