-- Parts one after the other, as pairs.
use Rattle.std.proofs.Common.{◌≡◌, ℕ, ◌≤◌, nat_lt, Bool, true, false, cond, List, ◌++◌, Result, Ok, Err, refl, sym, ap, subst, ◌∙◌, append_assoc, arith}
use Rattle.std.proofs.lemmas.Bool.{ltb-false, le-ltb, or_parts, or_from}
use Rattle.zs_sum.specs.Laws.{AreBytes}
use Rattle.zs_record.specs.declared.fault.RecordFault.{RecordFault}
use Rattle.zs_record.specs.Reading.{Read, ◌>>=◌}
use Rattle.zs_record.specs.Numbers.{is_outside}
use Rattle.zs_record.specs.Laws.{IsPart}
use Rattle.zs_record.proofs.Parts.{peel, ok_is, bind_ok, joined, are_bytes_behind}

-- the one, and then the other
abbrev pub then_read : {A B : Type 0} → (List ℕ → Read A) → (A → List ℕ → Read B) → List ℕ → Read (A × B)
then_read first second bytes = first bytes >>= λ a. second a.0 a.1 >>= λ b. Ok ((a.0, b.0), b.1)

-- what is made of what is read
abbrev pub made_read : {A B : Type 0} → (A → B) → (List ℕ → Read A) → List ℕ → Read B
made_read make read bytes = read bytes >>= λ x. Ok (make x.0, x.1)

pub bind_bind : {A B C : Type 0} (r : Result A RecordFault) (f : A → Result B RecordFault) (g : B → Result C RecordFault) → ((r >>= f) >>= g) ≡ (r >>= λ x. f x >>= g)
bind_bind (Ok x) f g = refl
bind_bind (Err fault) f g = refl

pub bind_guard : {A B : Type 0} (test : Bool) (fault : RecordFault) (r : Result A RecordFault) (g : A → Result B RecordFault) → (cond test (Err fault) r >>= g) ≡ cond test (Err fault) (r >>= g)
bind_guard true fault r g = refl
bind_guard false fault r g = refl

-- the second part is asked for only behind a first that fits
pub pair_part : {A B : Type 0} {readA : List ℕ → Read A} {writeA : A → List ℕ} {fitsA : A → Type 0} {readB : A → List ℕ → Read B} {writeB : B → List ℕ} {fitsB : A → B → Type 0}
    → IsPart readA writeA fitsA → ((a : A) → fitsA a → IsPart (readB a) writeB (fitsB a))
    → IsPart (then_read readA readB) (λ x. writeA x.0 ++ writeB x.1) (λ x. fitsA x.0 × fitsB x.0 x.1)
pair_part {A = A} {B = B} {readA = readA} {writeA = writeA} {fitsA = fitsA} {readB = readB} {writeB = writeB} {fitsB = fitsB} partA partB = record {
  back = λ x rest is. rw (append_assoc (writeA x.0) (writeB x.1) rest, partA.back x.0 (writeB x.1 ++ rest) is.0, (partB x.0 is.0).back x.1 rest is.1) refl;
  spells = λ bytes x rest are e.
      let a = peel readA writeA fitsA partA (λ a. readB a.0 a.1 >>= λ b. Ok ((a.0, b.0), b.1)) bytes (x, rest) are e in
      let b = peel (readB a.value) writeB (fitsB a.value) (partB a.value a.fit) (λ b. Ok ((a.value, b.0), b.1)) a.rest (x, rest) a.are a.goes_on in
      let whole = joined (writeA a.value) (writeB b.value) b.rest bytes a.rest a.parts b.parts in
      let made : (A × B) × List ℕ = ((a.value, b.value), b.rest) in
      subst (λ (y : (A × B) × List ℕ). (bytes ≡ (writeA y.0.0 ++ writeB y.0.1) ++ y.1) × (fitsA y.0.0 × fitsB y.0.0 y.0.1)) {x = made} (ok_is made (x, rest) b.goes_on)
      (whole, (a.fit, b.fit));
}

-- a value that is made of what is read, where what it is made of can be told from it
pub made_part : {A B : Type 0} {read : List ℕ → Read A} {write : A → List ℕ} {fits : A → Type 0} → IsPart read write fits
    → (make : A → B) (unmake : B → A) → ((a : A) → fits a → unmake (make a) ≡ a)
    → IsPart (made_read make read) (λ b. write (unmake b)) (λ b. (make (unmake b) ≡ b) × fits (unmake b))
made_part {A = A} {B = B} {read = read} {write = write} {fits = fits} part make unmake told = record {
  back = λ b rest is. rw (part.back (unmake b) rest is.1) (ap (λ (x : B). Ok (x, rest)) is.0);
  spells = λ bytes b rest are e.
      let a = peel read write fits part (λ x. Ok (make x.0, x.1)) bytes (b, rest) are e in
      let back = told a.value a.fit in
      let whole : bytes ≡ write (unmake (make a.value)) ++ a.rest = subst (λ (x : A). bytes ≡ write x ++ a.rest) (sym back) a.parts in
      subst (λ (y : B × List ℕ). (bytes ≡ write (unmake y.0) ++ y.1) × ((make (unmake y.0) ≡ y.0) × fits (unmake y.0))) (ok_is (make a.value, a.rest) (b, rest) a.goes_on)
      (whole, (ap make back, subst fits (sym back) a.fit));
}

-- the same part in other words
pub restated : {A : Type 0} {read other : List ℕ → Read A} {write written : A → List ℕ} {fits fit : A → Type 0} → IsPart read write fits
    → ((bytes : List ℕ) → read bytes ≡ other bytes) → ((a : A) → fits a → write a ≡ written a) → ((a : A) → fits a → fit a) → ((a : A) → fit a → fits a)
    → IsPart other written fit
restated {other = other} part same spelled to from = record {
  back = λ a rest is. rw (← spelled a (from a is)) (sym (same _) ∙ part.back a rest (from a is));
  spells = λ bytes a rest are e.
      let x = part.spells bytes a rest are (same bytes ∙ e) in
      (x.0 ∙ ap (λ (t : List ℕ). t ++ rest) (spelled a x.1), to a x.1);
}

-- ---- what tells nothing

-- bytes that always stand so are read, and what is left is the bytes behind them
pub record IsFixed (read : List ℕ → Result (List ℕ) RecordFault) (text : List ℕ) : Type 0 where
  pub back : (rest : List ℕ) → read (text ++ rest) ≡ Ok rest
  pub spells : (bytes rest : List ℕ) → AreBytes bytes → read bytes ≡ Ok rest → bytes ≡ text ++ rest

-- a part behind such bytes
abbrev pub behind_read : {A : Type 0} → (List ℕ → Result (List ℕ) RecordFault) → (List ℕ → Read A) → List ℕ → Read A
behind_read fixed read bytes = fixed bytes >>= λ rest. read rest

pub behind_part : {A : Type 0} {fixed : List ℕ → Result (List ℕ) RecordFault} {text : List ℕ} {read : List ℕ → Read A} {write : A → List ℕ} {fits : A → Type 0}
    → IsFixed fixed text → IsPart read write fits → IsPart (behind_read fixed read) (λ a. text ++ write a) fits
behind_part {fixed = fixed} {text = text} {read = read} {write = write} front part = record {
  back = λ a rest is. rw (append_assoc text (write a) rest, front.back (write a ++ rest)) (part.back a rest is);
  spells = λ bytes a rest are e.
      let found = bind_ok (fixed bytes) read (a, rest) e in
      let stands = front.spells bytes found.0 are found.1 in
      let x = part.spells found.0 a rest (are_bytes_behind text found.0 (subst AreBytes stands are)) found.2 in
      (joined text (write a) rest bytes found.0 stands x.0, x.1);
}

-- ---- ranges

pub inside : (least most n : ℕ) → is_outside least most n ≡ false → (least ≤ n) × (n ≤ most)
inside least most n e =
    let x = or_parts (nat_lt n least) (nat_lt most n) e in
    (ltb-false _ _ x.0, ltb-false _ _ x.1)

pub not_outside : (least most n : ℕ) → least ≤ n → n ≤ most → is_outside least most n ≡ false
not_outside least most n low high = or_from (nat_lt n least) (nat_lt most n) (le-ltb n least low) (le-ltb most n high)

-- a number that may be one only
pub only_one : (d n : ℕ) → is_outside d d n ≡ false → d ≡ n
only_one d n e =
    let x = inside d d n e in
    omega (arith, x.0, x.1)
