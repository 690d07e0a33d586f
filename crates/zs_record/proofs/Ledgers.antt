-- The ledger has one spelling, but for the marks of its entries.
use Rattle.std.proofs.Common.{◌≡◌, ℕ, zero, suc, ◌-◌, ◌^◌, ◌<◌, ◌≤◌, nat_lt, Bool, true, false, cond, List, [], ◌∷◌, ◌++◌, length, map, replicate, Ok, Err, refl, ap, subst, append_assoc, arith}
use Rattle.std.proofs.lemmas.List.{append-nil}
use Rattle.std.specs.Int.{w8, w16, w32, w64}
use Rattle.std.specs.List.{flat_map}
use Rattle.zs_ledger.specs.Kept.{has_piece}
use Rattle.zs_ledger.specs.declared.entry.CopyResult.{CopyResult}
use Rattle.zs_ledger.specs.declared.entry.CopyResult.TheVariants.{Missing, Good, Rewritten, Bad, Fault, Absent}
use Rattle.zs_ledger.specs.declared.entry.Entry.{Entry}
use Rattle.zs_record.specs.declared.fault.RecordFault.TheVariants as faults
use Rattle.zs_record.specs.declared.mirrors.Mirrors.{Mirrors}
use Rattle.zs_record.specs.Reading.{Read, ◌>>=◌}
use Rattle.zs_record.specs.Numbers.{number_of, number_within, number_bytes, is_outside, bytes_of}
use Rattle.zs_record.specs.Checked.{number_of_copy, copy_with, copy_of, copies_of, with_sum, front_of, checked_of, all_checked, ledger_of}
use Rattle.zs_record.specs.Laws.{IsPart, IsFrom, FitAll}
use Rattle.zs_record.specs.Spelling.{copy_bytes, checked_bytes, ledger_bytes}
use Rattle.zs_record.specs.StoredLaws.{AreFew, is_there, there_of, IsChecked, with_checked, IsLedger, unmarked}
use Rattle.zs_record.proofs.Parts.{wide8, wide16, wide32, wide64, number_part, within_part, bytes_part, refused_part, bind_part, same_part}
use Rattle.zs_record.proofs.Items.{AreItems, items_part}
use Rattle.zs_record.proofs.Pairs.{then_read, made_read, pair_part, made_part, restated, bind_bind, bind_guard, inside, not_outside, only_one}

-- ---- copies

copy_told : (n : ℕ) → n ≤ 5 → number_of_copy (copy_with n) ≡ n
copy_told zero le = refl
copy_told (suc zero) le = refl
copy_told (suc (suc zero)) le = refl
copy_told (suc (suc (suc zero))) le = refl
copy_told (suc (suc (suc (suc zero)))) le = refl
copy_told (suc (suc (suc (suc (suc n))))) le = omega (arith, le)

copy_again : (copy : CopyResult) → copy_with (number_of_copy copy) ≡ copy
copy_again Missing = refl
copy_again Good = refl
copy_again Rewritten = refl
copy_again Bad = refl
copy_again Fault = refl
copy_again Absent = refl

abbrev least_copy : Bool → ℕ
least_copy there = cond there 1 0

abbrev most_copy : Bool → ℕ
most_copy there = cond there 5 0

most_low : (there : Bool) (n : ℕ) → n ≤ most_copy there → n ≤ 5
most_low true n le = le
most_low false n le = omega (arith, le)

there_fits : (there : Bool) (copy : CopyResult) → least_copy there ≤ number_of_copy copy → number_of_copy copy ≤ most_copy there → is_there copy ≡ there
there_fits true Missing low high = absurd (omega (arith, low))
there_fits true Good low high = refl
there_fits true Rewritten low high = refl
there_fits true Bad low high = refl
there_fits true Fault low high = refl
there_fits true Absent low high = refl
there_fits false Missing low high = refl
there_fits false Good low high = absurd (omega (arith, high))
there_fits false Rewritten low high = absurd (omega (arith, high))
there_fits false Bad low high = absurd (omega (arith, high))
there_fits false Fault low high = absurd (omega (arith, high))
there_fits false Absent low high = absurd (omega (arith, high))

there_back : (copy : CopyResult) → (number_of_copy copy < 256) × (is_outside (least_copy (is_there copy)) (most_copy (is_there copy)) (number_of_copy copy) ≡ false)
there_back Missing = (omega arith, refl)
there_back Good = (omega arith, refl)
there_back Rewritten = (omega arith, refl)
there_back Bad = (omega arith, refl)
there_back Fault = (omega arith, refl)
there_back Absent = (omega arith, refl)

copy_same : (there : Bool) (bytes : List ℕ) → made_read copy_with (number_within w8 (least_copy there) (most_copy there)) bytes ≡ copy_of there bytes
unfolding copy_of
copy_same there bytes = refl

copy_part : (there : Bool) → IsPart (copy_of there) copy_bytes (λ copy. is_there copy ≡ there)
unfolding copy_bytes
copy_part there =
    restated (made_part (within_part w8 256 wide8 (least_copy there) (most_copy there)) copy_with number_of_copy
    (λ n is. copy_told n (most_low there n (inside (least_copy there) (most_copy there) n is.1).1)))
    (copy_same there) (λ copy is. refl)
    (λ copy is. let x = inside (least_copy there) (most_copy there) (number_of_copy copy) is.1.1 in there_fits there copy x.0 x.1)
    (λ copy is. (copy_again copy, subst (λ (b : Bool). (number_of_copy copy < 256) × (is_outside (least_copy b) (most_copy b) (number_of_copy copy) ≡ false)) is (there_back copy)))

abbrev Four : Type 0
Four = CopyResult × (CopyResult × (CopyResult × CopyResult))

abbrev listed : Four → List CopyResult
listed x = x.0 ∷ x.1.0 ∷ x.1.1.0 ∷ x.1.1.1 ∷ []

abbrev four_of : List CopyResult → Four
four_of (a ∷ b ∷ c ∷ d ∷ others) = (a, (b, (c, d)))
four_of copies = (Missing, (Missing, (Missing, Missing)))

abbrev FourFit : ℕ → Four → Type 0
FourFit width x =
    (is_there x.0 ≡ nat_lt 0 width) × ((is_there x.1.0 ≡ nat_lt 1 width) × ((is_there x.1.1.0 ≡ nat_lt 2 width) × (is_there x.1.1.1 ≡ nat_lt 3 width)))

copies_same : (width : ℕ) (bytes : List ℕ)
    → made_read listed (then_read (copy_of (nat_lt 0 width)) (λ a. then_read (copy_of (nat_lt 1 width)) (λ b. then_read (copy_of (nat_lt 2 width)) (λ c. copy_of (nat_lt 3 width))))) bytes
    ≡ copies_of width bytes
unfolding copies_of
copies_same width bytes = simp bind_bind

-- copies of which these are there are four
four_back : (width : ℕ) (copies : List CopyResult) → map is_there copies ≡ there_of width → (listed (four_of copies) ≡ copies) × FourFit width (four_of copies)
four_back width [] e = absurd cc
four_back width (a ∷ []) e = absurd cc
four_back width (a ∷ b ∷ []) e = absurd cc
four_back width (a ∷ b ∷ c ∷ []) e = absurd cc
four_back width (a ∷ b ∷ c ∷ d ∷ []) e = (refl, (cc, (cc, (cc, cc))))
four_back width (a ∷ b ∷ c ∷ d ∷ f ∷ others) e = absurd cc

-- what four copies are made of
four_fits : (width : ℕ) (copies : List CopyResult) → listed (four_of copies) ≡ copies → FourFit width (four_of copies) → map is_there copies ≡ there_of width
four_fits width copies e is = subst (λ (xs : List CopyResult). map is_there xs ≡ there_of width) e (λ i. is.0 i ∷ is.1.0 i ∷ is.1.1.0 i ∷ is.1.1.1 i ∷ [])

four_spelled : (copies : List CopyResult) → listed (four_of copies) ≡ copies
    → copy_bytes (four_of copies).0 ++ (copy_bytes (four_of copies).1.0 ++ (copy_bytes (four_of copies).1.1.0 ++ copy_bytes (four_of copies).1.1.1)) ≡ flat_map copy_bytes copies
four_spelled copies e =
    let x : Four = four_of copies in
    subst (λ (xs : List CopyResult). copy_bytes x.0 ++ (copy_bytes x.1.0 ++ (copy_bytes x.1.1.0 ++ copy_bytes x.1.1.1)) ≡ flat_map copy_bytes xs) e (simp append-nil)

copies_part : (width : ℕ) → IsPart (copies_of width) (flat_map copy_bytes) (λ copies. map is_there copies ≡ there_of width)
copies_part width =
    restated (made_part (pair_part (copy_part (nat_lt 0 width)) (λ a at. pair_part (copy_part (nat_lt 1 width)) (λ b bt. pair_part (copy_part (nat_lt 2 width)) (λ c ct. copy_part (nat_lt 3 width)))))
    listed four_of (λ x is. refl))
    (copies_same width) (λ copies is. four_spelled copies is.0)
    (λ copies is. four_fits width copies is.0 is.1)
    (four_back width)

-- ---- the fields before the sum

abbrev Fields : Type 0
Fields = ℕ × (List CopyResult × (ℕ × (ℕ × (ℕ × (ℕ × ℕ)))))

abbrev no_sum : List ℕ
no_sum = replicate 32 0

abbrev no_marks : List ℕ
no_marks = replicate 4 (2 ^ 64 - 1)

abbrev front_with : Fields → Entry
front_with f = record {
  piece = record { place = record { vdev = f.0; sector = f.1.1.1.1.0 }; birth = f.1.1.1.1.1.1 };
  sectors = f.1.1.1.0;
  sum = no_sum;
  copies = f.1.0;
  marks = no_marks;
}

abbrev fields_of : Entry → Fields
fields_of e = (e.piece.place.vdev, (e.copies, (0, (e.sectors, (e.piece.place.sector, (0, e.piece.birth))))))

abbrev fields_read : Mirrors → ℕ → List ℕ → Read Fields
fields_read mirrors last =
    then_read (number_within w8 0 (mirrors.count - 1)) (λ vdev. then_read (copies_of mirrors.width) (λ copies. then_read (number_within w8 0 0)
    (λ pad. then_read (number_of w16) (λ sectors. then_read (number_of w32) (λ sector. then_read (number_within w32 0 0) (λ gap. number_within w64 1 last))))))

front_same : (mirrors : Mirrors) (last : ℕ) (bytes : List ℕ) → made_read front_with (fields_read mirrors last) bytes ≡ front_of mirrors last bytes
unfolding front_of
front_same mirrors last bytes = simp bind_bind

-- how they are spelled
abbrev front_bytes : Entry → List ℕ
front_bytes e =
    number_bytes w8 e.piece.place.vdev ++ (flat_map copy_bytes e.copies ++ (number_bytes w8 0 ++ (number_bytes w16 e.sectors
    ++ (number_bytes w32 e.piece.place.sector ++ (number_bytes w32 0 ++ number_bytes w64 e.piece.birth)))))

record IsFront (mirrors : Mirrors) (last : ℕ) (e : Entry) : Type 0 where
  pub bare : front_with (fields_of e) ≡ e
  pub vdev : e.piece.place.vdev ≤ mirrors.count - 1
  pub copies : map is_there e.copies ≡ there_of mirrors.width
  pub sectors : e.sectors < 2 ^ 16
  pub sector : e.piece.place.sector < 2 ^ 32
  pub birth : IsFrom 1 last e.piece.birth

front_part : (mirrors : Mirrors) (last : ℕ) → AreFew mirrors → last < 2 ^ 64 → IsPart (front_of mirrors last) front_bytes (IsFront mirrors last)
front_part mirrors last few end =
    restated (made_part (pair_part (within_part w8 256 wide8 0 (mirrors.count - 1)) (λ vdev vt. pair_part (copies_part mirrors.width) (λ copies ct. pair_part (within_part w8 256 wide8 0 0)
    (λ pad pt. pair_part (number_part w16 (2 ^ 16) wide16) (λ sectors st. pair_part (number_part w32 (2 ^ 32) wide32) (λ sector rt. pair_part (within_part w32 (2 ^ 32) wide32 0 0)
    (λ gap gt. within_part w64 (2 ^ 64) wide64 1 last)))))))
    front_with fields_of
    (λ f is.
    let pad = only_one 0 f.1.1.0 is.1.1.0.1 in
    let gap = only_one 0 f.1.1.1.1.1.0 is.1.1.1.1.1.0.1 in
    λ i. (f.0, (f.1.0, (pad i, (f.1.1.1.0, (f.1.1.1.1.0, (gap i, f.1.1.1.1.1.1))))))))
    (front_same mirrors last) (λ e is. refl)
    (λ e is. record {
      bare = is.0;
      vdev = (inside 0 (mirrors.count - 1) e.piece.place.vdev is.1.0.1).1;
      copies = is.1.1.0;
      sectors = is.1.1.1.1.0;
      sector = is.1.1.1.1.1.0;
      birth = inside 1 last e.piece.birth is.1.1.1.1.1.1.1.1;
    })
    (λ e is. (
      is.bare,
      (
        (omega (arith, is.vdev, few.count), not_outside 0 (mirrors.count - 1) e.piece.place.vdev (omega arith) is.vdev),
        (
          is.copies,
          (
            (omega arith, refl),
            (
              is.sectors,
              (is.sector, ((omega arith, refl), (omega (arith, is.birth.1, end), not_outside 1 last e.piece.birth is.birth.0 is.birth.1))),
            ),
          ),
        ),
      ),
    ))

-- ---- an entry

checked_same : (mirrors : Mirrors) (last : ℕ) (before : List Entry) (bytes : List ℕ)
    → made_read (λ x. with_sum x.0 x.1)
    (then_read (λ bytes. front_of mirrors last bytes >>= λ x. cond (has_piece before x.0.piece) (Err faults.Order) (Ok x)) (λ front. bytes_of 32)) bytes
    ≡ checked_of mirrors last before bytes
unfolding checked_of
checked_same mirrors last before bytes = simp (bind_bind, bind_guard)

-- an entry that a record has: it has no marks
abbrev IsBare : Mirrors → ℕ → List Entry → Entry → Type 0
IsBare mirrors last before e = IsChecked mirrors last before e × (unmarked e ≡ e)

bare_back : (e : Entry) → unmarked e ≡ e → front_with (fields_of (with_sum e no_sum)) ≡ with_sum e no_sum
bare_back e is =
    let marks : no_marks ≡ e.marks = ap (λ (x : Entry). x.marks) is in
    λ i. record { piece = e.piece; sectors = e.sectors; sum = no_sum; copies = e.copies; marks = marks i }

bare_fits : (e : Entry) → front_with (fields_of (with_sum e no_sum)) ≡ with_sum e no_sum → unmarked e ≡ e
bare_fits e is =
    let marks : no_marks ≡ e.marks = ap (λ (x : Entry). x.marks) is in
    λ i. record { piece = e.piece; sectors = e.sectors; sum = e.sum; copies = e.copies; marks = marks i }

abbrev pair : Entry → List ℕ → Entry × List ℕ
pair front sum = (front, sum)

told : (front : Entry) (sum : List ℕ) → front_with (fields_of front) ≡ front → pair (with_sum (with_sum front sum) no_sum) sum ≡ pair front sum
told front sum is =
    let same : no_sum ≡ front.sum = ap (λ (x : Entry). x.sum) is in
    λ i. (record { piece = front.piece; sectors = front.sectors; sum = same i; copies = front.copies; marks = front.marks }, sum)

pub checked_part : (mirrors : Mirrors) (last : ℕ) → AreFew mirrors → last < 2 ^ 64 → (before : List Entry) → IsPart (checked_of mirrors last before) checked_bytes (IsBare mirrors last before)
unfolding checked_bytes
checked_part mirrors last few end before =
    restated (made_part (pair_part
    (refused_part (front_of mirrors last) front_bytes (IsFront mirrors last) (front_part mirrors last few end) (λ x. has_piece before x.piece) faults.Order)
    (λ front ft. bytes_part 32))
    (λ x. with_sum x.0 x.1) (λ e. (with_sum e no_sum, e.sum)) (λ x is. told x.0 x.1 is.0.0.bare))
    (checked_same mirrors last before) (λ e is. simp append_assoc)
    (λ e is.
    let front = is.1.0.0 in (
      record {
        vdev = front.vdev;
        copies = front.copies;
        sectors = front.sectors;
        sector = front.sector;
        birth = front.birth;
        other = is.1.0.1;
        sum = is.1.1;
      },
      bare_fits e front.bare,
    ))
    (λ e is. (
      refl,
      (
        (
          record {
            bare = bare_back e is.1;
            vdev = is.0.vdev;
            copies = is.0.copies;
            sectors = is.0.sectors;
            sector = is.0.sector;
            birth = is.0.birth;
          },
          is.0.other,
        ),
        is.0.sum,
      ),
    ))

-- ---- the ledger

same_cons : {A : Type 0} (a b : A) (xs ys : List A) → a ∷ xs ≡ b ∷ ys → (a ≡ b) × (xs ≡ ys)
same_cons a b xs ys e = (cc, cc)

all_bare : (mirrors : Mirrors) (last : ℕ) (before entries : List Entry) → FitAll (IsBare mirrors last) with_checked before entries
    → FitAll (IsChecked mirrors last) with_checked before entries × (map unmarked entries ≡ entries)
all_bare mirrors last before [] fit = (tt, refl)
all_bare mirrors last before (e ∷ entries) fit =
    let others = all_bare mirrors last (with_checked before e) entries fit.1 in
    ((fit.0.0, others.0), λ i. fit.0.1 i ∷ others.1 i)

bare_all : (mirrors : Mirrors) (last : ℕ) (before entries : List Entry) → FitAll (IsChecked mirrors last) with_checked before entries → map unmarked entries ≡ entries
    → FitAll (IsBare mirrors last) with_checked before entries
bare_all mirrors last before [] fit same = tt
bare_all mirrors last before (e ∷ entries) fit same =
    let each = same_cons (unmarked e) e (map unmarked entries) entries same in
    ((fit.0, each.0), bare_all mirrors last (with_checked before e) entries fit.1 each.1)

pub ledger_part : (mirrors : Mirrors) (last : ℕ) → AreFew mirrors → last < 2 ^ 64
    → IsPart (ledger_of mirrors last) ledger_bytes (λ entries. IsLedger mirrors last entries × (map unmarked entries ≡ entries))
unfolding ledger_of ledger_bytes
ledger_part mirrors last few end =
    same_part (ledger_of mirrors last) (λ entries. number_bytes w32 (length entries) ++ flat_map checked_bytes entries) ledger_bytes
    (λ entries. (length entries < 2 ^ 32) × AreItems (IsBare mirrors last) with_checked (length entries) [] entries)
    (λ entries. IsLedger mirrors last entries × (map unmarked entries ≡ entries)) (λ entries. refl)
    (λ entries is.
    let both = all_bare mirrors last [] entries is.1.fit in
    (record { many = is.0; fit = both.0 }, both.1))
    (λ entries is. (is.0.many, record { many = refl; fit = bare_all mirrors last [] entries is.0.fit is.1 }))
    (bind_part (number_of w32) (number_bytes w32) (λ n. n < 2 ^ 32) (number_part w32 (2 ^ 32) wide32) (λ count. all_checked mirrors last count.0 [] count.1)
    (flat_map checked_bytes) length (λ n entries. AreItems (IsBare mirrors last) with_checked n [] entries) (λ n entries is. is.many)
    (λ n. items_part (checked_of mirrors last) checked_bytes (IsBare mirrors last) with_checked (checked_part mirrors last few end) n []))
