-- Sums over the elements of a list that pass a test.
use Rattle.std.proofs.Common.{◌≡◌, ◌≤◌, ◌+◌, ℕ, Bool, true, false, cond, not, List, [], ◌∷◌, refl, sym, ap, subst, ◌∙◌, arith}
use Rattle.std.specs.Prelude.{filter, IsTrue, if◌then◌else◌}
use Rattle.std.specs.List.{sum_by}
use Rattle.std.proofs.lemmas.Bool.{true≢false}
use Rattle.std.proofs.lemmas.List.Sums.{sum_by-cons}
use Rattle.std.proofs.lemmas.List.Filters.{sum_by-filter_both}
use Rattle.zs_ids.specs.Graph.{Has}
use mathlib.Core.Logic.{inl, inr}

module _ {A : Type 0} (f : A → ℕ) where
  -- an element counts where it passes
  abbrev share : Bool → A → ℕ
  share b x = if b then f x else 0

  passed-cons : (test : A → Bool) (x : A) (xs : List A) → sum_by f (filter test (x ∷ xs)) ≡ share (test x) x + sum_by f (filter test xs)
  passed-cons test x xs = go (test x)
    where
      go : (b : Bool) → sum_by f (cond b (x ∷ filter test xs) (filter test xs)) ≡ share b x + sum_by f (filter test xs)
      go true = sum_by-cons f x (filter test xs)
      go false = omega arith

  -- what passes has at most the sum of all
  pub at_most : (test : A → Bool) (xs : List A) → sum_by f (filter test xs) ≤ sum_by f xs
  at_most test xs =
      let both : sum_by f (filter test xs) + sum_by f (filter (λ x. not (test x)) xs) ≡ sum_by f xs = sum_by-filter_both test (λ x. not (test x)) (λ x. refl) f xs in
      omega (arith, both)

  -- two tests of which no element passes both have together at most the sum of a test that passes what either does
  pub apart : (a b all : A → Bool) (xs : List A) → ((x : A) → Has xs x → IsTrue (a x) → IsTrue (all x)) → ((x : A) → Has xs x → IsTrue (b x) → IsTrue (all x)) → ((x : A) → Has xs x → IsTrue (a x) → IsTrue (b x) → ⊥) → sum_by f (filter a xs) + sum_by f (filter b xs) ≤ sum_by f (filter all xs)
  apart a b all [] in_a in_b never = omega arith
  apart a b all (x ∷ xs) in_a in_b never =
      let rest : sum_by f (filter a xs) + sum_by f (filter b xs) ≤ sum_by f (filter all xs) = apart a b all xs (λ y h. in_a y (inr h)) (λ y h. in_b y (inr h)) (λ y h. never y (inr h)) in
      let one : share (a x) x + share (b x) x ≤ share (all x) x = go (a x) refl (b x) refl (all x) refl in
      omega (arith, rest, one, passed-cons a x xs, passed-cons b x xs, passed-cons all x xs)
    where
      go : (p : Bool) → a x ≡ p → (q : Bool) → b x ≡ q → (r : Bool) → all x ≡ r → share p x + share q x ≤ share r x
      go true is true at r on = absurd (never x (inl refl) is at)
      go true is false at true on = omega arith
      go true is false at false on = absurd (true≢false (sym (in_a x (inl refl) is) ∙ on))
      go false is true at true on = omega arith
      go false is true at false on = absurd (true≢false (sym (in_b x (inl refl) at) ∙ on))
      go false is false at r on = omega arith

  -- of two tests the one that passes less has no more
  pub no_more : (less more : A → Bool) (xs : List A) → ((x : A) → Has xs x → IsTrue (less x) → IsTrue (more x)) → sum_by f (filter less xs) ≤ sum_by f (filter more xs)
  no_more less more xs within =
      let both : sum_by f (filter less xs) + sum_by f (filter (λ (x : A). false) xs) ≤ sum_by f (filter more xs) = apart less (λ (x : A). false) more xs within (λ x h t. absurd (true≢false (sym t))) (λ x h s t. true≢false (sym t)) in
      omega (arith, both)

  -- and less by what one element counts that it does not pass and the other does
  pub falls : (less more : A → Bool) (xs : List A) (y : A) → ((x : A) → Has xs x → IsTrue (less x) → IsTrue (more x)) → Has xs y → less y ≡ false → IsTrue (more y) → sum_by f (filter less xs) + f y ≤ sum_by f (filter more xs)
  falls less more [] y within h off on = absurd h
  falls less more (x ∷ xs) y within (inl is) off on =
      let rest : sum_by f (filter less xs) ≤ sum_by f (filter more xs) = no_more less more xs (λ z h. within z (inr h)) in
      let left : share (less x) x ≡ 0 = ap (λ (b : Bool). share b x) (subst (λ (z : A). less z ≡ false) (sym is) off) in
      let kept : share (more x) x ≡ f x = ap (λ (b : Bool). share b x) (subst (λ (z : A). more z ≡ true) (sym is) on) in
      let same : f y ≡ f x = ap f (sym is) in
      omega (arith, rest, left, kept, same, passed-cons less x xs, passed-cons more x xs)
  falls less more (x ∷ xs) y within (inr h) off on =
      let rest : sum_by f (filter less xs) + f y ≤ sum_by f (filter more xs) = falls less more xs y (λ z i. within z (inr i)) h off on in
      let one : share (less x) x ≤ share (more x) x = go (less x) refl (more x) refl in
      omega (arith, rest, one, passed-cons less x xs, passed-cons more x xs)
    where
      go : (p : Bool) → less x ≡ p → (q : Bool) → more x ≡ q → share p x ≤ share q x
      go true is true at = omega arith
      go true is false at = absurd (true≢false (sym (within x (inl refl) is) ∙ at))
      go false is q at = omega arith

  -- one that passes counts
  pub one_passes : (test : A → Bool) (xs : List A) (y : A) → Has xs y → IsTrue (test y) → f y ≤ sum_by f (filter test xs)
  one_passes test xs y h on =
      let less : sum_by f (filter (λ (x : A). false) xs) + f y ≤ sum_by f (filter test xs) = falls (λ (x : A). false) test xs y (λ x i t. absurd (true≢false (sym t))) h refl on in
      omega (arith, less)
