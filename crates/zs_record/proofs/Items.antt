-- Items one after the other have one spelling, where each has.
use Rattle.std.proofs.Common.{◌≡◌, ℕ, zero, suc, List, [], ◌∷◌, ◌++◌, length, Ok, refl, ap, subst, append_assoc}
use Rattle.std.specs.List.{flat_map}
use Rattle.zs_sum.specs.Laws.{AreBytes}
use Rattle.zs_record.specs.Reading.{Read, items_of}
use Rattle.zs_record.specs.Laws.{IsPart, FitAll}
use Rattle.zs_record.proofs.Parts.{peel, ok_is, joined}

-- so many items that fit
pub record AreItems {S A : Type 0} (fits : S → A → Type 0) (next : S → A → S) (count : ℕ) (state : S) (items : List A) : Type 0 where
  pub many : length items ≡ count
  pub fit : FitAll fits next state items

items_back : {S A : Type 0} (read : S → List ℕ → Read A) (write : A → List ℕ) (fits : S → A → Type 0) (next : S → A → S)
    → ((state : S) → IsPart (read state) write (fits state))
    → (items : List A) (state : S) (rest : List ℕ) → FitAll fits next state items → items_of read next (length items) state (flat_map write items ++ rest) ≡ Ok (items, rest)
unfolding items_of
items_back read write fits next part [] state rest fit = refl
items_back read write fits next part (a ∷ items) state rest fit =
    rw (
      append_assoc (write a) (flat_map write items) rest,
      (part state).back a (flat_map write items ++ rest) fit.0,
      items_back read write fits next part items (next state a) rest fit.1,
    ) refl

items_spell : {S A : Type 0} (read : S → List ℕ → Read A) (write : A → List ℕ) (fits : S → A → Type 0) (next : S → A → S)
    → ((state : S) → IsPart (read state) write (fits state))
    → (count : ℕ) (state : S) (bytes : List ℕ) (items : List A) (rest : List ℕ) → AreBytes bytes → items_of read next count state bytes ≡ Ok (items, rest)
    → (bytes ≡ flat_map write items ++ rest) × AreItems fits next count state items
unfolding items_of
items_spell {A = A} read write fits next part zero state bytes items rest are e =
    subst (λ (x : List A × List ℕ). (bytes ≡ flat_map write x.0 ++ x.1) × AreItems fits next 0 state x.0) (ok_is ([], bytes) (items, rest) e)
    (refl, record { many = refl; fit = tt })
items_spell {A = A} read write fits next part (suc count) state bytes items rest are e =
    let a = peel (read state) write (fits state) (part state) _ bytes (items, rest) are e in
    let others : IsPart (items_of read next count (next state a.value)) (flat_map write) (AreItems fits next count (next state a.value)) =
    record {
      back = λ xs r is. subst (λ (n : ℕ). items_of read next n (next state a.value) (flat_map write xs ++ r) ≡ Ok (xs, r)) is.many (items_back read write fits next part xs (next state a.value) r is.fit);
      spells = items_spell read write fits next part count (next state a.value);
    } in
    let b = peel (items_of read next count (next state a.value)) (flat_map write) (AreItems fits next count (next state a.value)) others _ a.rest (items, rest) a.are a.goes_on in
    let made : List A × List ℕ = (a.value ∷ b.value, b.rest) in
    let whole : bytes ≡ flat_map write made.0 ++ made.1 = joined (write a.value) (flat_map write b.value) b.rest bytes a.rest a.parts b.parts in
    subst (λ (x : List A × List ℕ). (bytes ≡ flat_map write x.0 ++ x.1) × AreItems fits next (suc count) state x.0) {x = made} (ok_is made (items, rest) b.goes_on)
    (whole, record { many = ap suc b.fit.many; fit = (a.fit, b.fit.fit) })

pub items_part : {S A : Type 0} (read : S → List ℕ → Read A) (write : A → List ℕ) (fits : S → A → Type 0) (next : S → A → S)
    → ((state : S) → IsPart (read state) write (fits state))
    → (count : ℕ) (state : S) → IsPart (items_of read next count state) (flat_map write) (AreItems fits next count state)
items_part read write fits next part count state = record {
  back = λ items rest is. subst (λ (n : ℕ). items_of read next n state (flat_map write items ++ rest) ≡ Ok (items, rest)) is.many (items_back read write fits next part items state rest is.fit);
  spells = items_spell read write fits next part count state;
}
