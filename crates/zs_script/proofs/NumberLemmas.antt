-- A number's word is its decimal.
use Rattle.std.proofs.Common.{◌≡◌, ℕ, ◌+◌, ◌-◌, ◌*◌, ◌^◌, ◌==◌, ◌≤◌, ◌<◌, nat_lt, ◌&&◌, ◌||◌, slice_index, get_or, Bool, true, false, cond, List, [], ◌∷◌, length, Result, Ok, Err, refl, sym, ap, ◌∙◌, subst, arith, rules, inl, inr, lit<}
use Rattle.std.specs.Char.{is_ascii_digit}
use Rattle.std.specs.Str.{all_ascii_digits}
use Rattle.std.specs.Fmt.{decimal}
use Rattle.std.proofs.lemmas.Bool.{ltb-true, ltb-false, lt-ltb, le-ltb, eq-eqb, eqb-false, ne_eqb, cases_eq}
use Rattle.std.proofs.lemmas.Fmt.{decimal-digits_value, digits_decimal, digits_value-decimal, decimal_nonempty, first_decimal, decimal_digit}
use Rattle.std.proofs.lemmas.Str.Parse.{IsNumeralModel, numerals_by_fold}
use Rattle.zs_script.specs.Faults.{◌>>=◌}
use Rattle.zs_script.specs.Fields.{digits_from, number_of}
use Rattle.zs_script.specs.Laws.{NumbersRead, NumbersReadAgain}
use Rattle.zs_script.specs.declared.command.Why.{Why}
use Rattle.zs_script.specs.declared.command.Why.TheVariants as why
use Rattle.zs_script.proofs.RangeLemmas.{bind_ok, guard_ok, test_ok, or_false, ok_same, ranged}

-- the value of these digits behind those of n
abbrev read_on : ℕ → List ℕ → ℕ
read_on n [] = n
read_on n (c ∷ cs) = read_on (10 * n + (c - 48)) cs

own : IsNumeralModel (λ ds. all_ascii_digits ds ≡ true) (read_on 0)
own = numerals_by_fold _ (search rules) read_on (search rules)

more : (n : ℕ) (ds : List ℕ) → n ≤ read_on n ds
more n [] = omega arith
more n (c ∷ cs) = let rest = more (10 * n + (c - 48)) cs in omega arith

and_true : (a b : Bool) → (a && b) ≡ true → (a ≡ true) × (b ≡ true)
and_true true b h = (refl, h)
and_true false b h = cc

-- digits that are read
record Reads (m n : ℕ) (ds : List ℕ) : Type 0 where
  digits : all_ascii_digits ds ≡ true
  value : read_on m ds ≡ n
  small : m < 2 ^ 64 → n < 2 ^ 64

reads : (ds : List ℕ) (m n : ℕ) → digits_from m ds ≡ Ok n → Reads m n ds
reads [] m n h = let same = ok_same m n h in record { digits = refl; value = same; small = λ l. omega arith }
reads (b ∷ bs) m n h =
    let t = test_ok (is_ascii_digit b && nat_lt (m * 10 + (b - 48)) (2 ^ 64)) why.Number (digits_from (m * 10 + (b - 48)) bs) n h in
    let a = and_true (is_ascii_digit b) (nat_lt (m * 10 + (b - 48)) (2 ^ 64)) t.0 in
    let rest = reads bs (m * 10 + (b - 48)) n t.1 in
    let below : m * 10 + (b - 48) < 2 ^ 64 = ltb-true _ _ a.1 in
    let same : 10 * m + (b - 48) ≡ m * 10 + (b - 48) = omega arith in
    record { digits = rw (a.0) rest.digits; value = ap (λ k. read_on k bs) same ∙ rest.value; small = λ l. rest.small below }

reads_again : (ds : List ℕ) (m : ℕ) → all_ascii_digits ds ≡ true → read_on m ds < 2 ^ 64 → digits_from m ds ≡ Ok (read_on m ds)
reads_again [] m h l = refl
reads_again (b ∷ bs) m h l =
    let a = and_true (is_ascii_digit b) (all_ascii_digits bs) h in
    let same : m * 10 + (b - 48) ≡ 10 * m + (b - 48) = omega arith in
    let grows = more (10 * m + (b - 48)) bs in
    let below : nat_lt (m * 10 + (b - 48)) (2 ^ 64) ≡ true = lt-ltb _ _ (omega arith) in
    rw (a.0, below) (ap (λ k. digits_from k bs) same ∙ reads_again bs (10 * m + (b - 48)) a.1 l)

and_false : (a b : Bool) → (a && b) ≡ false → b ≡ true → a ≡ false
and_false true b h t = cc
and_false false b h t = refl

and_no : (a : Bool) → (a && false) ≡ false
and_no true = refl
and_no false = refl

-- a zero in front stands alone
alone : (word : List ℕ) → 0 < length word → (nat_lt 1 (length word) && slice_index word 0 == 48) ≡ false → get_or word 0 0 ≡ 48 → length word ≡ 1
alone word some led zero =
    let short : length word ≤ 1 = ltb-false _ _ (and_false (nat_lt 1 (length word)) (slice_index word 0 == 48) led (eq-eqb (get_or word 0 0) 48 zero)) in
    omega arith

pub numbers_read : NumbersRead
unfolding number_of
numbers_read low high n word h =
    let last : ℕ → Result ℕ Why = λ m. cond (nat_lt m low || nat_lt high m) (Err why.Number) (Ok m) in
    let g = guard_ok (length word == 0 || nat_lt 1 (length word) && slice_index word 0 == 48) why.Number (digits_from 0 word >>= last) n h in
    let o = or_false (length word == 0) (nat_lt 1 (length word) && slice_index word 0 == 48) g.0 in
    let r = bind_ok (digits_from 0 word) last n g.1 in
    let d = reads word 0 r.0 r.1 in
    let fits = ranged low high r.0 n r.2 in
    let same : r.0 ≡ n = ok_same r.0 n ((guard_ok (nat_lt r.0 low || nat_lt high r.0) why.Number (Ok r.0) n r.2).1) in
    let some : 0 < length word = omega (arith, eqb-false (length word) 0 o.0) in
    let value : read_on 0 word ≡ n = d.value ∙ same in
    let bound : r.0 < 2 ^ 64 = d.small (lit< tt) in
    let small : read_on 0 word < 2 ^ 64 = subst (λ (k : ℕ). k < 2 ^ 64) (sym d.value) bound in
    record { text = sym (decimal-digits_value own word d.digits some (alone word some o.1) small) ∙ ap decimal value; least = fits.low_is; most = fits.high_is }

read_word : (low high n : ℕ) (w : List ℕ) → (length w == 0 || nat_lt 1 (length w) && slice_index w 0 == 48) ≡ false → digits_from 0 w ≡ Ok n → nat_lt n low ≡ false → nat_lt high n ≡ false → number_of low high w ≡ Ok n
unfolding number_of
read_word low high n w plain digits least most = rw (plain, digits, least, most) refl

plain_decimal : (n : ℕ) → n < 2 ^ 64 → (length (decimal n) == 0 || nat_lt 1 (length (decimal n)) && slice_index (decimal n) 0 == 48) ≡ false
plain_decimal n small =
    elim (cases_eq n 0) [
      | inl is ↦ let e : decimal n ≡ 48 ∷ [] = ap decimal is ∙ decimal_digit 0 (lit< tt) in rw e refl
      | inr ne ↦
          let some : 0 < length (decimal n) = decimal_nonempty n small in
          let first : 48 < get_or (decimal n) 0 0 = first_decimal n (omega arith) small in
          let e0 : (length (decimal n) == 0) ≡ false = ne_eqb (length (decimal n)) 0 (λ e. omega (arith, e, some)) in
          let e1 : (slice_index (decimal n) 0 == 48) ≡ false = ne_eqb (slice_index (decimal n) 0) 48 (λ e. omega (arith, e, first)) in
          rw (e0, e1) (and_no (nat_lt 1 (length (decimal n))))
    ]

pub numbers_read_again : NumbersReadAgain
numbers_read_again low high n least most small =
    let value = digits_value-decimal own n small in
    let bound : read_on 0 (decimal n) < 2 ^ 64 = subst (λ (k : ℕ). k < 2 ^ 64) (sym value) small in
    read_word low high n (decimal n) (plain_decimal n small)
    (reads_again (decimal n) 0 (digits_decimal own n small) bound ∙ ap Ok value)
    (le-ltb n low least) (le-ltb high n most)
