-- Parts of a record one after the other.
use Rattle.std.proofs.Common.{◌≡◌, ℕ, ◌+◌, ◌^◌, ◌<◌, ◌≤◌, Bool, true, false, cond, List, [], ◌∷◌, ◌++◌, length, take, drop, Result, Ok, Err, refl, sym, ap, subst, ◌∙◌, append_assoc, arith, inl, inr}
use Rattle.std.proofs.lemmas.Bool.{cases_lt, ltb-false, le-ltb}
use Rattle.std.proofs.lemmas.List.{take_at, drop_at, take-append-drop, length-append, length-take, length-take-le, get_or-drop, get_or-take, get_or_past}
use Rattle.std.specs.Int.{Width, w8, w16, w32, w64, byte_len, from_be_bytes, to_be_bytes}
use Rattle.std.proofs.lemmas.Nat.{be_bytes_2, be_bytes_4, be_bytes_8, from_be_bytes-to_be_bytes_2, from_be_bytes-to_be_bytes_4, from_be_bytes-to_be_bytes_8}
use Rattle.zs_sum.specs.Laws.{AreBytes}
use Rattle.zs_record.specs.declared.fault.RecordFault.{RecordFault}
use Rattle.zs_record.specs.declared.fault.RecordFault.TheVariants as faults
use Rattle.zs_record.specs.Reading.{Read, ◌>>=◌}
use Rattle.zs_record.specs.Numbers.{number_bytes, number_of, number_within, is_outside, bytes_of}
use Rattle.zs_record.specs.Laws.{IsPart}

pub are_bytes_drop : (n : ℕ) (bytes : List ℕ) → AreBytes bytes → AreBytes (drop n bytes)
are_bytes_drop n bytes are i = rw get_or-drop (are (n + i))

pub are_bytes_take : (n : ℕ) (bytes : List ℕ) → AreBytes bytes → AreBytes (take n bytes)
are_bytes_take n bytes are i =
    elim (cases_lt i n) [
      | inl lt ↦ rw (get_or-take n bytes i 0 lt) (are i)
      | inr le ↦ rw (get_or_past (take n bytes) i 0 (omega (arith, length-take n bytes))) (omega arith)
    ]

pub are_bytes_behind : (front rest : List ℕ) → AreBytes (front ++ rest) → AreBytes rest
are_bytes_behind front rest are = subst AreBytes (drop_at front rest (length front) refl) (are_bytes_drop (length front) (front ++ rest) are)

pub are_bytes_front : (front rest : List ℕ) → AreBytes (front ++ rest) → AreBytes front
are_bytes_front front rest are = subst AreBytes (take_at front rest (length front) refl) (are_bytes_take (length front) (front ++ rest) are)

abbrev done : {A : Type 0} → A → Result A RecordFault
done x = Ok x

pub ok_is : {A : Type 0} (x y : A) → done x ≡ done y → x ≡ y
ok_is x y e = cc

-- a test that did not fail
pub guard_false : {A : Type 0} (b : Bool) (fault : RecordFault) (x y : A) → cond b (Err fault) (Ok x) ≡ Ok y → (b ≡ false) × (x ≡ y)
guard_false true fault x y e = absurd cc
guard_false false fault x y e = (refl, cc)

pub guard_true : {A : Type 0} (b : Bool) (fault : RecordFault) (x y : A) → cond b (Ok x) (Err fault) ≡ Ok y → (b ≡ true) × (x ≡ y)
guard_true true fault x y e = (refl, cc)
guard_true false fault x y e = absurd cc

-- the value of a step that did not fail
pub bind_ok : {A B : Type 0} (r : Result A RecordFault) (f : A → Result B RecordFault) (y : B) → (r >>= f) ≡ Ok y → (x : A) × (r ≡ Ok x) × (f x ≡ Ok y)
bind_ok (Ok x) f y e = (x, refl, e)
bind_ok (Err fault) f y e = absurd cc

-- what is left of an answer once its first part is read
pub record Peeled {A B : Type 0} (bytes : List ℕ) (write : A → List ℕ) (fits : A → Type 0) (next : A × List ℕ → Result B RecordFault) (answer : B) : Type 0 where
  pub value : A
  pub rest : List ℕ
  pub parts : bytes ≡ write value ++ rest
  pub front : AreBytes (write value)
  pub are : AreBytes rest
  pub fit : fits value
  pub goes_on : next (value, rest) ≡ Ok answer

pub peel : {A B : Type 0} (read : List ℕ → Read A) (write : A → List ℕ) (fits : A → Type 0) (part : IsPart read write fits)
    (next : A × List ℕ → Result B RecordFault) (bytes : List ℕ) (answer : B) → AreBytes bytes → (read bytes >>= next) ≡ Ok answer → Peeled bytes write fits next answer
peel read write fits part next bytes answer are e =
    let found = bind_ok (read bytes) next answer e in
    let spelled = part.spells bytes found.0.0 found.0.1 are found.1 in
    record {
      value = found.0.0;
      rest = found.0.1;
      parts = spelled.0;
      front = are_bytes_front (write found.0.0) found.0.1 (subst AreBytes spelled.0 are);
      are = are_bytes_behind (write found.0.0) found.0.1 (subst AreBytes spelled.0 are);
      fit = spelled.1;
      goes_on = found.2;
    }

-- ---- numbers

pub record IsWide (w : Width) (limit : ℕ) : Type 0 where
  pub len : (n : ℕ) → length (to_be_bytes w n) ≡ byte_len w
  pub back : (bytes : List ℕ) → length bytes ≡ byte_len w → AreBytes bytes → to_be_bytes w (from_be_bytes w bytes) ≡ bytes
  pub again : (n : ℕ) → n < limit → from_be_bytes w (to_be_bytes w n) ≡ n
  pub below : (bytes : List ℕ) → AreBytes bytes → from_be_bytes w bytes < limit

one_byte : (bytes : List ℕ) → length bytes ≡ 1 → AreBytes bytes → to_be_bytes w8 (from_be_bytes w8 bytes) ≡ bytes
one_byte [] len are = absurd (omega arith)
one_byte (b ∷ []) len are = ap (λ (n : ℕ). n ∷ []) (omega (arith, are 0))
one_byte (b ∷ c ∷ bytes) len are = absurd (omega arith)

pub wide8 : IsWide w8 256
wide8 = record {
  len = λ n. refl;
  back = one_byte;
  again = λ n lt. omega arith;
  below = λ bytes are. omega (arith, are 0);
}

pub wide16 : IsWide w16 (2 ^ 16)
wide16 = record {
  len = λ n. refl;
  back = λ bytes len are. be_bytes_2 bytes _ len are refl;
  again = λ n lt. from_be_bytes-to_be_bytes_2 n lt;
  below = λ bytes are. omega (arith, are 0, are 1);
}

pub wide32 : IsWide w32 (2 ^ 32)
wide32 = record {
  len = λ n. refl;
  back = λ bytes len are. be_bytes_4 bytes _ len are refl;
  again = λ n lt. from_be_bytes-to_be_bytes_4 n lt;
  below = λ bytes are. omega (arith, are 0, are 1, are 2, are 3);
}

pub wide64 : IsWide w64 (2 ^ 64)
wide64 = record {
  len = λ n. refl;
  back = λ bytes len are. be_bytes_8 bytes _ len are refl;
  again = λ n lt. from_be_bytes-to_be_bytes_8 n lt;
  below = λ bytes are. omega (arith, are 0, are 1, are 2, are 3, are 4, are 5, are 6, are 7);
}

number_back : (w : Width) (limit : ℕ) (wide : IsWide w limit) (n : ℕ) (rest : List ℕ) → n < limit → number_of w (number_bytes w n ++ rest) ≡ Ok (n, rest)
unfolding number_of number_bytes
number_back w limit wide n rest lt =
    let len = wide.len n in
    let long = le-ltb (length (to_be_bytes w n ++ rest)) (byte_len w) (omega (arith, length-append (to_be_bytes w n) rest)) in
    rw (long, take_at (to_be_bytes w n) rest (byte_len w) len, drop_at (to_be_bytes w n) rest (byte_len w) len, wide.again n lt) refl

number_spells : (w : Width) (limit : ℕ) (wide : IsWide w limit) (bytes : List ℕ) (n : ℕ) (rest : List ℕ) → AreBytes bytes → number_of w bytes ≡ Ok (n, rest) → (bytes ≡ number_bytes w n ++ rest) × (n < limit)
unfolding number_of number_bytes
number_spells w limit wide bytes n rest are e =
    let g = guard_false _ faults.Short (from_be_bytes w (take (byte_len w) bytes), drop (byte_len w) bytes) (n, rest) e in
    let long : byte_len w ≤ length bytes = ltb-false _ _ g.0 in
    let front = wide.back (take (byte_len w) bytes) (length-take-le (byte_len w) bytes long) (are_bytes_take (byte_len w) bytes are) in
    let whole : bytes ≡ to_be_bytes w (from_be_bytes w (take (byte_len w) bytes)) ++ drop (byte_len w) bytes = rw front (sym (take-append-drop (byte_len w) bytes)) in
    subst (λ (x : ℕ × List ℕ). (bytes ≡ to_be_bytes w x.0 ++ x.1) × (x.0 < limit)) g.1 (whole, wide.below (take (byte_len w) bytes) (are_bytes_take (byte_len w) bytes are))

pub number_part : (w : Width) (limit : ℕ) → IsWide w limit → IsPart (number_of w) (number_bytes w) (λ n. n < limit)
number_part w limit wide = record { back = number_back w limit wide; spells = number_spells w limit wide }

-- so many bytes
pub bytes_part : (n : ℕ) → IsPart (bytes_of n) (λ text. text) (λ text. length text ≡ n)
unfolding bytes_of
bytes_part n = record {
  back = λ text rest len.
      let long = le-ltb (length (text ++ rest)) n (omega (arith, length-append text rest)) in
      rw (long, take_at text rest n len, drop_at text rest n len) refl;
  spells = λ bytes text rest are e.
      let g = guard_false _ faults.Short (take n bytes, drop n bytes) (text, rest) e in
      let long : n ≤ length bytes = ltb-false _ _ g.0 in
      subst (λ (x : List ℕ × List ℕ). (bytes ≡ x.0 ++ x.1) × (length x.0 ≡ n)) g.1 (sym (take-append-drop n bytes), length-take-le n bytes long);
}

-- ---- parts of parts

-- a part that is refused where a test holds
pub refused_part : {A : Type 0} (read : List ℕ → Read A) (write : A → List ℕ) (fits : A → Type 0) → IsPart read write fits → (test : A → Bool) (fault : RecordFault)
    → IsPart (λ bytes. read bytes >>= λ x. cond (test x.0) (Err fault) (Ok x)) write (λ a. fits a × (test a ≡ false))
refused_part {A = A} read write fits part test fault = record {
  back = λ a rest is. rw (part.back a rest is.0, is.1) refl;
  spells = λ bytes a rest are e.
      let x = peel read write fits part (λ x. cond (test x.0) (Err fault) (Ok x)) bytes (a, rest) are e in
      let g = guard_false (test x.value) fault (x.value, x.rest) (a, rest) x.goes_on in
      subst (λ (y : A × List ℕ). (bytes ≡ write y.0 ++ y.1) × (fits y.0 × (test y.0 ≡ false))) g.1 (x.parts, (x.fit, g.0));
}

-- a part that is taken where a test holds
pub taken_part : {A : Type 0} (read : List ℕ → Read A) (write : A → List ℕ) (fits : A → Type 0) → IsPart read write fits → (test : A → Bool) (fault : RecordFault)
    → IsPart (λ bytes. read bytes >>= λ x. cond (test x.0) (Ok x) (Err fault)) write (λ a. fits a × (test a ≡ true))
taken_part {A = A} read write fits part test fault = record {
  back = λ a rest is. rw (part.back a rest is.0, is.1) refl;
  spells = λ bytes a rest are e.
      let x = peel read write fits part (λ x. cond (test x.0) (Ok x) (Err fault)) bytes (a, rest) are e in
      let g = guard_true (test x.value) fault (x.value, x.rest) (a, rest) x.goes_on in
      subst (λ (y : A × List ℕ). (bytes ≡ write y.0 ++ y.1) × (fits y.0 × (test y.0 ≡ true))) g.1 (x.parts, (x.fit, g.0));
}

-- bytes that begin with the one, and then with the other
pub joined : (a b rest bytes behind : List ℕ) → bytes ≡ a ++ behind → behind ≡ b ++ rest → bytes ≡ (a ++ b) ++ rest
joined a b rest bytes behind one other = one ∙ (ap (λ (r : List ℕ). a ++ r) other ∙ sym (append_assoc a b rest))

-- a value whose first field is read, and then the others, which fit behind it
pub bind_part : {A B : Type 0} (read : List ℕ → Read A) (write : A → List ℕ) (fits : A → Type 0) → IsPart read write fits
    → (next : A × List ℕ → Read B) (suffix : B → List ℕ) (field : B → A) (behind : A → B → Type 0) → ((a : A) (b : B) → behind a b → field b ≡ a)
    → ((a : A) → IsPart (λ bytes. next (a, bytes)) suffix (behind a))
    → IsPart (λ bytes. read bytes >>= next) (λ b. write (field b) ++ suffix b) (λ b. fits (field b) × behind (field b) b)
bind_part {A = A} {B = B} read write fits part next suffix field behind is_field parts = record {
  back = λ b rest is.
      rw (append_assoc (write (field b)) (suffix b) rest, part.back (field b) (suffix b ++ rest) is.0) ((parts (field b)).back b rest is.1);
  spells = λ bytes b rest are e.
      let x = peel read write fits part next bytes (b, rest) are e in
      let y = (parts x.value).spells x.rest b rest x.are x.goes_on in
      let same : x.value ≡ field b = sym (is_field x.value b y.1) in
      let whole = joined (write x.value) (suffix b) rest bytes x.rest x.parts y.0 in
      subst (λ (a : A). (bytes ≡ (write a ++ suffix b) ++ rest) × (fits a × behind a b)) same (whole, (x.fit, y.1));
}

-- the same part in other words
pub same_part : {A : Type 0} (read : List ℕ → Read A) (write written : A → List ℕ) (fits fit : A → Type 0)
    → ((a : A) → write a ≡ written a) → ((a : A) → fits a → fit a) → ((a : A) → fit a → fits a) → IsPart read write fits → IsPart read written fit
same_part read write written fits fit same to from part = record {
  back = λ a rest is. rw (← same a) (part.back a rest (from a is));
  spells = λ bytes a rest are e.
      let x = part.spells bytes a rest are e in
      (x.0 ∙ ap (λ (t : List ℕ). t ++ rest) (same a), to a x.1);
}

-- a number in a range
pub within_part : (w : Width) (limit : ℕ) → IsWide w limit → (least most : ℕ) → IsPart (number_within w least most) (number_bytes w) (λ n. (n < limit) × (is_outside least most n ≡ false))
unfolding number_within
within_part w limit wide least most = refused_part (number_of w) (number_bytes w) (λ n. n < limit) (number_part w limit wide) (is_outside least most) faults.Field
