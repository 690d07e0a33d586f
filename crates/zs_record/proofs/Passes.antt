-- Where a walk is, and its pass, have one spelling.
use Rattle.std.proofs.Common.{◌≡◌, ℕ, zero, suc, ◌-◌, ◌^◌, ◌<◌, ◌≤◌, ◌==◌, ◌&&◌, Bool, true, false, cond, List, [], ◌∷◌, ◌++◌, length, replicate, Ok, Err, refl, sym, ap, subst, ◌∙◌, append_assoc, arith, inl, inr}
use Rattle.std.specs.Int.{w8, w32, w64}
use Rattle.std.specs.List.{list_all}
use Rattle.std.proofs.lemmas.Bool.{eqb-true, ne_eqb, cases_eq, and_parts, leb-true, le-leb}
use Rattle.zs_ids.specs.declared.key.Key.{Key}
use Rattle.zs_ids.specs.Key.{root_key}
use Rattle.zs_phys.specs.declared.phys.At.{At}
use Rattle.zs_phys.specs.declared.phys.At.TheVariants as ats
use Rattle.zs_record.specs.declared.fault.RecordFault.TheVariants as faults
use Rattle.zs_record.specs.declared.scan.Pass.{Pass}
use Rattle.zs_record.specs.Reading.{Read}
use Rattle.zs_record.specs.Numbers.{number_within, number_bytes, is_outside, bytes_of, zeros_of}
use Rattle.zs_record.specs.Blocks.{key_of}
use Rattle.zs_record.specs.Laws.{IsPart, IsWideKey}
use Rattle.zs_record.specs.Scan.{if_used, is_place_key, place_key_of, at_with, pass_of}
use Rattle.zs_record.specs.ScanSpelling.{place_bytes, at_bytes, pass_bytes}
use Rattle.zs_record.specs.Spelling.{key_bytes}
use Rattle.zs_record.specs.StoredLaws.{IsPlace, most_at, IsPass}
use Rattle.zs_record.proofs.Parts.{peel, guard_true, wide8, wide32, wide64, within_part, bytes_part, taken_part}
use Rattle.zs_record.proofs.Fields.{key_part}
use Rattle.zs_record.proofs.Pairs.{IsFixed, then_read, made_read, behind_read, pair_part, made_part, behind_part, restated, bind_bind, inside, not_outside}

-- ---- zeros

all_zero : (n : ℕ) (bytes : List ℕ) → length bytes ≡ n → list_all (λ b. b == 0) bytes ≡ true → bytes ≡ replicate n 0
all_zero zero [] len all = refl
all_zero zero (b ∷ bytes) len all = absurd (omega (arith, len))
all_zero (suc n) [] len all = absurd (omega (arith, len))
all_zero (suc n) (b ∷ bytes) len all =
    let both = and_parts (b == 0) (list_all (λ b. b == 0) bytes) all in
    let others : bytes ≡ replicate n 0 = all_zero n bytes (omega (arith, len)) both.1 in
    λ i. eqb-true b 0 both.0 i ∷ others i

zeros_fixed : IsFixed (zeros_of 3) (replicate 3 0)
unfolding zeros_of
zeros_fixed = record {
  back = λ rest. rw ((bytes_part 3).back (replicate 3 0) rest refl) refl;
  spells = λ bytes rest are e.
      let a = peel (bytes_of 3) (λ text. text) (λ text. length text ≡ 3) (bytes_part 3) (λ x. cond (list_all (λ b. b == 0) x.0) (Ok x.1) (Err faults.Field)) bytes rest are e in
      let g = guard_true (list_all (λ b. b == 0) a.value) faults.Field a.rest rest a.goes_on in
      a.parts ∙ (ap (λ (t : List ℕ). t ++ a.rest) (all_zero 3 a.value a.fit g.0) ∙ ap (λ (t : List ℕ). replicate 3 0 ++ t) g.1);
}

-- ---- the key

place_key_part : (used : Bool) → IsPart (place_key_of used) key_bytes (λ k. IsWideKey k × (is_place_key used k ≡ true))
unfolding place_key_of
place_key_part used = taken_part key_of key_bytes IsWideKey key_part (is_place_key used) faults.Field

root_told : (k : Key) → is_place_key false k ≡ true → root_key ≡ k
root_told k e =
    let a = and_parts (k.object == 0) (k.rank == 0 && (k.leaf == 0 && k.depth == 0)) e in
    let b = and_parts (k.rank == 0) (k.leaf == 0 && k.depth == 0) a.1 in
    let c = and_parts (k.leaf == 0) (k.depth == 0) b.1 in
    let object = sym (eqb-true k.object 0 a.0) in
    let rank = sym (eqb-true k.rank 0 b.0) in
    let leaf = sym (eqb-true k.leaf 0 c.0) in
    let depth = sym (eqb-true k.depth 0 c.1) in
    λ i. record { object = object i; rank = rank i; leaf = leaf i; depth = depth i }

-- ---- the fields

abbrev Fields : Type 0
Fields = ℕ × (ℕ × (Key × (ℕ × ℕ)))

abbrev pass_with : Fields → Pass
pass_with f = record { at = at_with f.0 (record { 0 = f.1.0 }) f.1.1.0; curmin = f.1.1.1.0; curmax = f.1.1.1.1 }

-- the number of a place, its dataset and its key
abbrev number_of_at : At → ℕ
number_of_at ats.Nowhere = 0
number_of_at ats.Destroyed = 1
number_of_at (ats.Dataset id key) = 2

abbrev id_of_at : At → ℕ
id_of_at ats.Nowhere = 0
id_of_at ats.Destroyed = 0
id_of_at (ats.Dataset id key) = id.0

abbrev key_of_at : At → Key
key_of_at ats.Nowhere = root_key
key_of_at ats.Destroyed = root_key
key_of_at (ats.Dataset id key) = key

abbrev fields_of : Pass → Fields
fields_of p = (number_of_at p.at, (id_of_at p.at, (key_of_at p.at, (p.curmin, p.curmax))))

-- a dataset's field has this range, and any other place's is zero
abbrev used_most : ℕ → ℕ → ℕ
used_most place most = if_used (place == 2) most

abbrev behind_place : ℕ → List ℕ → Read (ℕ × (Key × (ℕ × ℕ)))
behind_place place =
    then_read (number_within w32 0 (used_most place (2 ^ 32 - 1))) (λ id. then_read (place_key_of (place == 2))
    (λ key. then_read (number_within w64 0 (used_most place (2 ^ 64 - 1))) (λ curmin. number_within w64 0 (used_most place (2 ^ 64 - 1)))))

abbrev fields_read : Bool → Bool → List ℕ → Read Fields
fields_read scanning again = then_read (number_within w8 (if_used again 2) (if_used scanning 2)) (λ place. behind_read (zeros_of 3) (behind_place place))

same : (scanning again : Bool) (bytes : List ℕ) → made_read pass_with (fields_read scanning again) bytes ≡ pass_of scanning again bytes
unfolding pass_of
same scanning again bytes = simp bind_bind

-- ---- what the fields say

abbrev FieldsFit : Bool → Bool → Fields → Type 0
FieldsFit scanning again f =
    ((f.0 < 256) × (is_outside (if_used again 2) (if_used scanning 2) f.0 ≡ false))
    × (((f.1.0 < 2 ^ 32) × (is_outside 0 (used_most f.0 (2 ^ 32 - 1)) f.1.0 ≡ false))
    × ((IsWideKey f.1.1.0 × (is_place_key (f.0 == 2) f.1.1.0 ≡ true))
    × (((f.1.1.1.0 < 2 ^ 64) × (is_outside 0 (used_most f.0 (2 ^ 64 - 1)) f.1.1.1.0 ≡ false))
    × ((f.1.1.1.1 < 2 ^ 64) × (is_outside 0 (used_most f.0 (2 ^ 64 - 1)) f.1.1.1.1 ≡ false)))))

used_two : (used : Bool) (n : ℕ) → n ≤ if_used used 2 → n ≤ 2
used_two true n le = le
used_two false n le = omega (arith, le)

-- a place that is no dataset has zeros
elsewhere : (n : ℕ) (id : ℕ) (key : Key) → (n == 2) ≡ false → is_outside 0 (used_most n (2 ^ 32 - 1)) id ≡ false → is_place_key (n == 2) key ≡ true → (0 ≡ id) × (root_key ≡ key)
elsewhere n id key other low none =
    let le : id ≤ 0 = (inside 0 0 id (rw other at low)).1 in
    (omega (arith, le), root_told key (rw other at none))

told : (scanning again : Bool) (f : Fields) → FieldsFit scanning again f → fields_of (pass_with f) ≡ f
told scanning again f is =
    let le = used_two scanning f.0 (inside (if_used again 2) (if_used scanning 2) f.0 is.0.1).1 in
    elim (cases_eq f.0 0) [
      | inl e ↦
          let n = sym e in
          let zeros = elsewhere f.0 f.1.0 f.1.1.0 (rw e refl) is.1.0.1 is.1.1.0.1 in
          let at : at_with f.0 (record { 0 = f.1.0 }) f.1.1.0 ≡ ats.Nowhere = rw e refl in
          rw at (λ i. (n i, (zeros.0 i, (zeros.1 i, f.1.1.1))))
      | inr n0 ↦
          elim (cases_eq f.0 1) [
            | inl e ↦
                let n = sym e in
                let zeros = elsewhere f.0 f.1.0 f.1.1.0 (rw e refl) is.1.0.1 is.1.1.0.1 in
                let at : at_with f.0 (record { 0 = f.1.0 }) f.1.1.0 ≡ ats.Destroyed = rw e refl in
                rw at (λ i. (n i, (zeros.0 i, (zeros.1 i, f.1.1.1))))
            | inr n1 ↦
                let n : 2 ≡ f.0 = omega (arith, le, n0, n1) in
                let at : at_with f.0 (record { 0 = f.1.0 }) f.1.1.0 ≡ ats.Dataset (record { 0 = f.1.0 }) f.1.1.0 = rw (ne_eqb f.0 0 n0, ne_eqb f.0 1 n1) refl in
                rw at (λ i. (n i, f.1))
          ]
    ]

place_fits : (scanning again : Bool) (at : At)
    → is_outside (if_used again 2) (if_used scanning 2) (number_of_at at) ≡ false → id_of_at at < 2 ^ 32 → IsWideKey (key_of_at at) → is_place_key (number_of_at at == 2) (key_of_at at) ≡ true
    → IsPlace scanning again at
place_fits scanning true ats.Nowhere range id wide key = absurd (omega (arith, (inside 2 (if_used scanning 2) 0 range).0))
place_fits scanning false ats.Nowhere range id wide key = refl
place_fits scanning true ats.Destroyed range id wide key = absurd (omega (arith, (inside 2 (if_used scanning 2) 1 range).0))
place_fits true false ats.Destroyed range id wide key = (refl, refl)
place_fits false false ats.Destroyed range id wide key = absurd (omega (arith, (inside 0 0 1 range).1))
place_fits true again (ats.Dataset d k) range id wide key = (refl, id, wide, leb-true k.depth 4 key)
place_fits false again (ats.Dataset d k) range id wide key = absurd (omega (arith, (inside (if_used again 2) 0 2 range).1))

abbrev PlaceFits : Bool → Bool → At → Type 0
PlaceFits scanning again at =
    ((number_of_at at < 256) × (is_outside (if_used again 2) (if_used scanning 2) (number_of_at at) ≡ false))
    × (((id_of_at at < 2 ^ 32) × (is_outside 0 (used_most (number_of_at at) (2 ^ 32 - 1)) (id_of_at at) ≡ false))
    × (IsWideKey (key_of_at at) × (is_place_key (number_of_at at == 2) (key_of_at at) ≡ true)))

wide_root : IsWideKey root_key
wide_root = record { object = omega arith; rank = omega arith; depth = omega arith; leaf = omega arith }

upto_two : (again : Bool) → if_used again 2 ≤ 2
upto_two true = omega arith
upto_two false = omega arith

place_back : (scanning again : Bool) (at : At) → IsPlace scanning again at → PlaceFits scanning again at
place_back scanning again ats.Nowhere is =
    ((omega arith, rw is (not_outside 0 (if_used scanning 2) 0 (omega arith) (omega arith))), ((omega arith, refl), (wide_root, refl)))
place_back scanning again ats.Destroyed is =
    ((omega arith, rw (is.0, is.1) refl), ((omega arith, refl), (wide_root, refl)))
place_back scanning again (ats.Dataset d k) is = (
  (omega arith, rw is.0 (not_outside (if_used again 2) 2 2 (upto_two again) (omega arith))),
  ((is.1, not_outside 0 (2 ^ 32 - 1) d.0 (omega arith) (omega (arith, is.1))), (is.2, le-leb k.depth 4 is.3)),
)

most_same : (at : At) → used_most (number_of_at at) (2 ^ 64 - 1) ≡ most_at at (2 ^ 64 - 1)
most_same ats.Nowhere = refl
most_same ats.Destroyed = refl
most_same (ats.Dataset d k) = refl

most_low : (at : At) (n : ℕ) → n ≤ most_at at (2 ^ 64 - 1) → (n < 2 ^ 64) × (is_outside 0 (used_most (number_of_at at) (2 ^ 64 - 1)) n ≡ false)
most_low ats.Nowhere n le = (omega (arith, le), not_outside 0 0 n (omega arith) le)
most_low ats.Destroyed n le = (omega (arith, le), not_outside 0 0 n (omega arith) le)
most_low (ats.Dataset d k) n le = (omega (arith, le), not_outside 0 (2 ^ 64 - 1) n (omega arith) le)

bound_fits : (at : At) (n : ℕ) → is_outside 0 (used_most (number_of_at at) (2 ^ 64 - 1)) n ≡ false → n ≤ most_at at (2 ^ 64 - 1)
bound_fits at n e = subst (λ (most : ℕ). n ≤ most) (most_same at) (inside 0 (used_most (number_of_at at) (2 ^ 64 - 1)) n e).1

at_again : (at : At) → at_with (number_of_at at) (record { 0 = id_of_at at }) (key_of_at at) ≡ at
at_again ats.Nowhere = refl
at_again ats.Destroyed = refl
at_again (ats.Dataset d k) = refl

-- ---- the part

at_spelled : (at : At) → place_bytes (number_of_at at) (record { 0 = id_of_at at }) (key_of_at at) ≡ at_bytes at
unfolding at_bytes
at_spelled ats.Nowhere = refl
at_spelled ats.Destroyed = refl
at_spelled (ats.Dataset d k) = refl

spelled : (p : Pass)
    → number_bytes w8 (number_of_at p.at) ++ (replicate 3 0 ++ (number_bytes w32 (id_of_at p.at) ++ (key_bytes (key_of_at p.at) ++ (number_bytes w64 p.curmin ++ number_bytes w64 p.curmax))))
    ≡ pass_bytes p
unfolding pass_bytes place_bytes
spelled p = rw (← at_spelled p.at) (simp append_assoc)

pub pass_part : (scanning again : Bool) → IsPart (pass_of scanning again) pass_bytes (IsPass scanning again)
pass_part scanning again =
    restated (made_part (pair_part (within_part w8 256 wide8 (if_used again 2) (if_used scanning 2)) (λ place pt. behind_part zeros_fixed
    (pair_part (within_part w32 (2 ^ 32) wide32 0 (used_most place (2 ^ 32 - 1))) (λ id it. pair_part (place_key_part (place == 2))
    (λ key kt. pair_part (within_part w64 (2 ^ 64) wide64 0 (used_most place (2 ^ 64 - 1))) (λ curmin nt. within_part w64 (2 ^ 64) wide64 0 (used_most place (2 ^ 64 - 1))))))))
    pass_with fields_of (told scanning again))
    (same scanning again) (λ p is. spelled p)
    (λ p is. record {
      place = place_fits scanning again p.at is.1.0.1 is.1.1.0.0 is.1.1.1.0.0 is.1.1.1.0.1;
      curmin = bound_fits p.at p.curmin is.1.1.1.1.0.1;
      curmax = bound_fits p.at p.curmax is.1.1.1.1.1.1;
    })
    (λ p is.
    let at = at_again p.at in
    let place = place_back scanning again p.at is.place in (
      λ i. record { at = at i; curmin = p.curmin; curmax = p.curmax },
      (place.0, (place.1.0, (place.1.1, (most_low p.at p.curmin is.curmin, most_low p.at p.curmax is.curmax)))),
    ))
