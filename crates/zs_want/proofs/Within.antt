-- The span that is picked is one of the list.
use Rattle.std.proofs.Common.{◌≡◌, ◌<◌, ℕ, suc, max, Bool, true, ◌==◌, List, [], ◌∷◌, length, subst, arith, inl, inr}
use Rattle.std.specs.List.{position_or_len}
use Rattle.std.proofs.lemmas.Bool.{cases_lt, eq-eqb, cases_Bool, lt-ltb}
use Rattle.zs_want.specs.declared.picking.Span.{Span}
use Rattle.zs_want.specs.declared.picking.Order.{Order}
use Rattle.zs_want.specs.declared.picking.Order.TheVariants as orders
use Rattle.zs_want.specs.Picking.{most_sectors, picked}

-- the first item that passes a test is not past the one at which the test is known to pass
at_first : (test : Span → Bool) (span : Span) (spans : List Span) → test span ≡ true → position_or_len test (span ∷ spans) < suc (length spans)
at_first test span spans e = rw e (omega arith)

later : (test : Span → Bool) (span : Span) (spans : List Span) → position_or_len test spans < length spans → position_or_len test (span ∷ spans) < suc (length spans)
later test span spans h = elim (cases_Bool (test span)) [
  | inl e ↦ rw e (omega arith)
  | inr e ↦ rw e (omega arith)
]

most_of : (a b : ℕ) → a < b → b ≡ max a b
most_of a b h = omega arith

-- where sectors wait there is a span
some : (spans : List Span) → 0 < most_sectors spans → 0 < length spans
some [] h = absurd (omega arith)
some (span ∷ spans) h = omega arith

most_is_there : (spans : List Span) → 0 < length spans → position_or_len (λ span. span.sectors == most_sectors spans) spans < length spans
most_is_there [] h = absurd (omega arith)
most_is_there (span ∷ spans) h =
    elim (cases_lt span.sectors (most_sectors spans)) [
      | inl below ↦ subst (λ (m : ℕ). position_or_len (λ s. s.sectors == m) (span ∷ spans) < suc (length spans)) (most_of span.sectors (most_sectors spans) below)
          (later (λ s. s.sectors == most_sectors spans) span spans (most_is_there spans (some spans (omega arith))))
      | inr above ↦ at_first (λ s. s.sectors == max span.sectors (most_sectors spans)) span spans (eq-eqb span.sectors (max span.sectors (most_sectors spans)) (omega arith))
    ]

pub is_within : (spans : List Span) (order : Order) → 0 < length spans → picked spans order < length spans
unfolding picked
is_within spans orders.Address h = h
is_within spans orders.Score h =
    let found = most_is_there spans h in
    rw (lt-ltb (position_or_len (λ span. span.sectors == most_sectors spans) spans) (length spans) found) found
