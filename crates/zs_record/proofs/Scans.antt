-- What every scan has has one spelling.
use Rattle.std.proofs.Common.{◌≡◌, ℕ, ◌-◌, ◌^◌, ◌<◌, ◌≤◌, ◌==◌, ◌&&◌, bit_and, nat_lt, Bool, true, false, List, refl, ap, subst, append_assoc, arith, inl, inr}
use Rattle.std.specs.Int.{w8, w32, w64}
use Rattle.std.proofs.lemmas.Bool.{ne_eqb, cases_eq, and_parts}
use Rattle.zs_phys.specs.declared.phys.Status.{Status}
use Rattle.zs_phys.specs.declared.phys.Status.TheVariants.{Never, Scanning, Finished, Canceled}
use Rattle.zs_phys.specs.declared.scope.Kind.{Kind}
use Rattle.zs_phys.specs.declared.scope.Kind.TheVariants.{Idle, Scrub, Resilver}
use Rattle.zs_record.specs.declared.fault.RecordFault.TheVariants as faults
use Rattle.zs_record.specs.declared.mirrors.Mirrors.{Mirrors}
use Rattle.zs_record.specs.declared.scan.Running.{Running}
use Rattle.zs_record.specs.Reading.{Read}
use Rattle.zs_record.specs.Numbers.{number_of, number_within, number_bytes, is_outside}
use Rattle.zs_record.specs.Head.{devices_of}
use Rattle.zs_record.specs.Laws.{IsPart}
use Rattle.zs_record.specs.Scan.{if_used, kind_with, status_with, is_away, away_of, running_of}
use Rattle.zs_record.specs.ScanSpelling.{number_of_kind, number_of_status, flag, running_bytes}
use Rattle.zs_record.specs.StoredLaws.{AreFew, HasStatus, most_of, IsRunning}
use Rattle.zs_record.proofs.Parts.{wide8, wide32, wide64, number_part, within_part, taken_part}
use Rattle.zs_record.proofs.Pairs.{then_read, made_read, pair_part, made_part, restated, bind_bind, inside, not_outside}
use Rattle.zs_record.proofs.Datasets.{flag_told, flag_again, flag_low}
use Rattle.zs_record.proofs.Heads.{mask_below}

away_part : (mirrors : Mirrors) (offline : ℕ) → IsPart (away_of mirrors offline) (number_bytes w32) (λ away. (away < 2 ^ 32) × (is_away mirrors offline away ≡ true))
unfolding away_of
away_part mirrors offline = taken_part (number_of w32) (number_bytes w32) (λ n. n < 2 ^ 32) (number_part w32 (2 ^ 32) wide32) (is_away mirrors offline) faults.Field

-- ---- kinds and statuses

kind_again : (kind : Kind) → kind_with (number_of_kind kind) ≡ kind
kind_again Idle = refl
kind_again Scrub = refl
kind_again Resilver = refl

status_again : (status : Status) → status_with (number_of_status status) ≡ status
status_again Never = refl
status_again Scanning = refl
status_again Finished = refl
status_again Canceled = refl

kind_told : (n : ℕ) → n ≤ 2 → number_of_kind (kind_with n) ≡ n
kind_told n le =
    elim (cases_eq n 0) [
      | inl e ↦ rw e refl
      | inr n0 ↦
          elim (cases_eq n 1) [
            | inl e ↦ rw e refl
            | inr n1 ↦ rw (ne_eqb n 0 n0, ne_eqb n 1 n1) (omega (arith, le, n0, n1))
          ]
    ]

status_told : (n : ℕ) → n ≤ 3 → number_of_status (status_with n) ≡ n
status_told n le =
    elim (cases_eq n 0) [
      | inl e ↦ rw e refl
      | inr n0 ↦
          elim (cases_eq n 1) [
            | inl e ↦ rw e refl
            | inr n1 ↦
                elim (cases_eq n 2) [
                  | inl e ↦ rw e refl
                  | inr n2 ↦ rw (ne_eqb n 0 n0, ne_eqb n 1 n1, ne_eqb n 2 n2) (omega (arith, le, n0, n1, n2))
                ]
          ]
    ]

pub used_below : (used : Bool) (most n : ℕ) → n ≤ if_used used most → n ≤ most
used_below true most n le = le
used_below false most n le = omega (arith, le)

-- ---- the fields

abbrev Fields : Type 0
Fields = ℕ × (ℕ × (ℕ × (ℕ × (ℕ × (ℕ × ℕ)))))

abbrev running_with : Fields → Running
running_with f = record {
  kind = kind_with f.0;
  status = status_with f.1.0;
  paused = f.1.1.0 == 1;
  again = f.1.1.1.0 == 1;
  min = f.1.1.1.1.0;
  max = f.1.1.1.1.1.0;
  away = f.1.1.1.1.1.1;
}

abbrev fields_of : Running → Fields
fields_of r = (number_of_kind r.kind, (number_of_status r.status, (flag r.paused, (flag r.again, (r.min, (r.max, r.away))))))

abbrev is_scan : ℕ → Bool
is_scan kind = nat_lt 0 kind

abbrev most_pause : ℕ → ℕ → ℕ
most_pause kind status = if_used (kind == 1 && status == 1) 1

abbrev fields_read : Mirrors → ℕ → List ℕ → Read Fields
fields_read mirrors offline =
    then_read (number_within w8 0 2) (λ kind. then_read (number_within w8 (if_used (is_scan kind) 1) (if_used (is_scan kind) 3))
    (λ status. then_read (number_within w8 0 (most_pause kind status)) (λ paused. then_read (number_within w8 0 (if_used (status == 1) 1))
    (λ again. then_read (number_within w64 0 (if_used (is_scan kind) (2 ^ 64 - 1))) (λ min. then_read (number_within w64 0 (if_used (is_scan kind) (2 ^ 64 - 1)))
    (λ max. away_of mirrors offline))))))

same : (mirrors : Mirrors) (offline : ℕ) (bytes : List ℕ) → made_read running_with (fields_read mirrors offline) bytes ≡ running_of mirrors offline bytes
unfolding running_of
same mirrors offline bytes = simp bind_bind

-- ---- what the numbers say

status_fits : (kind : Kind) (status : Status)
    → if_used (is_scan (number_of_kind kind)) 1 ≤ number_of_status status → number_of_status status ≤ if_used (is_scan (number_of_kind kind)) 3 → HasStatus kind status
status_fits Idle Never low high = refl
status_fits Idle Scanning low high = absurd (omega (arith, high))
status_fits Idle Finished low high = absurd (omega (arith, high))
status_fits Idle Canceled low high = absurd (omega (arith, high))
status_fits Scrub Never low high = absurd (omega (arith, low))
status_fits Scrub Scanning low high = λ e. cc
status_fits Scrub Finished low high = λ e. cc
status_fits Scrub Canceled low high = λ e. cc
status_fits Resilver Never low high = absurd (omega (arith, low))
status_fits Resilver Scanning low high = λ e. cc
status_fits Resilver Finished low high = λ e. cc
status_fits Resilver Canceled low high = λ e. cc

status_back : (kind : Kind) (status : Status) → HasStatus kind status
    → (if_used (is_scan (number_of_kind kind)) 1 ≤ number_of_status status) × (number_of_status status ≤ if_used (is_scan (number_of_kind kind)) 3)
status_back Idle status is = rw is (omega arith, omega arith)
status_back Scrub Never is = absurd (is refl)
status_back Scrub Scanning is = (omega arith, omega arith)
status_back Scrub Finished is = (omega arith, omega arith)
status_back Scrub Canceled is = (omega arith, omega arith)
status_back Resilver Never is = absurd (is refl)
status_back Resilver Scanning is = (omega arith, omega arith)
status_back Resilver Finished is = (omega arith, omega arith)
status_back Resilver Canceled is = (omega arith, omega arith)

-- the number of a kind or a status is that of no other
kind_is : (kind : Kind) → (number_of_kind kind == 1) ≡ true → kind ≡ Scrub
kind_is Idle e = absurd cc
kind_is Scrub e = refl
kind_is Resilver e = absurd cc

status_is : (status : Status) → (number_of_status status == 1) ≡ true → status ≡ Scanning
status_is Never e = absurd cc
status_is Scanning e = refl
status_is Finished e = absurd cc
status_is Canceled e = absurd cc

-- a flag may be up where the test holds
flag_used : (used b : Bool) → flag b ≤ if_used used 1 → b ≡ true → used ≡ true
flag_used true b le e = refl
flag_used false true le e = absurd (omega (arith, le))
flag_used false false le e = absurd cc

flag_within : (used b : Bool) → (b ≡ true → used ≡ true) → flag b ≤ if_used used 1
flag_within true b holds = flag_low b
flag_within false true holds = let e = holds refl in absurd cc
flag_within false false holds = omega arith

paused_back : (kind : Kind) (status : Status) → (kind ≡ Scrub) × (status ≡ Scanning) → (number_of_kind kind == 1 && number_of_status status == 1) ≡ true
paused_back kind status is = rw (is.0, is.1) refl

most_same : (kind : Kind) → if_used (is_scan (number_of_kind kind)) (2 ^ 64 - 1) ≡ most_of kind (2 ^ 64 - 1)
most_same Idle = refl
most_same Scrub = refl
most_same Resilver = refl

most_low : (kind : Kind) (n : ℕ) → n ≤ most_of kind (2 ^ 64 - 1) → (n < 2 ^ 64) × (is_outside 0 (if_used (is_scan (number_of_kind kind)) (2 ^ 64 - 1)) n ≡ false)
most_low Idle n le = (omega (arith, le), not_outside 0 0 n (omega arith) le)
most_low Scrub n le = (omega (arith, le), not_outside 0 (2 ^ 64 - 1) n (omega arith) le)
most_low Resilver n le = (omega (arith, le), not_outside 0 (2 ^ 64 - 1) n (omega arith) le)

bound_fits : (kind : Kind) (n : ℕ) → is_outside 0 (if_used (is_scan (number_of_kind kind)) (2 ^ 64 - 1)) n ≡ false → n ≤ most_of kind (2 ^ 64 - 1)
bound_fits kind n e = subst (λ (most : ℕ). n ≤ most) (most_same kind) (inside 0 (if_used (is_scan (number_of_kind kind)) (2 ^ 64 - 1)) n e).1

kind_low : (kind : Kind) → number_of_kind kind ≤ 2
kind_low Idle = omega arith
kind_low Scrub = omega arith
kind_low Resilver = omega arith

status_low : (status : Status) → number_of_status status ≤ 3
status_low Never = omega arith
status_low Scanning = omega arith
status_low Finished = omega arith
status_low Canceled = omega arith

-- ---- the part

abbrev FieldsFit : Mirrors → ℕ → Fields → Type 0
FieldsFit mirrors offline f =
    ((f.0 < 256) × (is_outside 0 2 f.0 ≡ false))
    × (((f.1.0 < 256) × (is_outside (if_used (is_scan f.0) 1) (if_used (is_scan f.0) 3) f.1.0 ≡ false))
    × (((f.1.1.0 < 256) × (is_outside 0 (most_pause f.0 f.1.0) f.1.1.0 ≡ false))
    × (((f.1.1.1.0 < 256) × (is_outside 0 (if_used (f.1.0 == 1) 1) f.1.1.1.0 ≡ false))
    × (((f.1.1.1.1.0 < 2 ^ 64) × (is_outside 0 (if_used (is_scan f.0) (2 ^ 64 - 1)) f.1.1.1.1.0 ≡ false))
    × (((f.1.1.1.1.1.0 < 2 ^ 64) × (is_outside 0 (if_used (is_scan f.0) (2 ^ 64 - 1)) f.1.1.1.1.1.0 ≡ false))
    × ((f.1.1.1.1.1.1 < 2 ^ 32) × (is_away mirrors offline f.1.1.1.1.1.1 ≡ true)))))))

told : (mirrors : Mirrors) (offline : ℕ) (f : Fields) → FieldsFit mirrors offline f → fields_of (running_with f) ≡ f
told mirrors offline f is =
    let kind = kind_told f.0 (inside 0 2 f.0 is.0.1).1 in
    let status = status_told f.1.0 (used_below (is_scan f.0) 3 f.1.0 (inside _ _ f.1.0 is.1.0.1).1) in
    let paused = flag_told f.1.1.0 (used_below (f.0 == 1 && f.1.0 == 1) 1 f.1.1.0 (inside _ _ f.1.1.0 is.1.1.0.1).1) in
    let again = flag_told f.1.1.1.0 (used_below (f.1.0 == 1) 1 f.1.1.1.0 (inside _ _ f.1.1.1.0 is.1.1.1.0.1).1) in
    λ i. (kind i, (status i, (paused i, (again i, f.1.1.1.1))))

fits : (mirrors : Mirrors) (offline : ℕ) (r : Running) → FieldsFit mirrors offline (fields_of r) → IsRunning mirrors offline r
fits mirrors offline r is =
    let status = inside (if_used (is_scan (number_of_kind r.kind)) 1) (if_used (is_scan (number_of_kind r.kind)) 3) (number_of_status r.status) is.1.0.1 in
    let paused = inside 0 (most_pause (number_of_kind r.kind) (number_of_status r.status)) (flag r.paused) is.1.1.0.1 in
    let again = inside 0 (if_used (number_of_status r.status == 1) 1) (flag r.again) is.1.1.1.0.1 in
    record {
      status = status_fits r.kind r.status status.0 status.1;
      paused = λ e.
          let both = and_parts (number_of_kind r.kind == 1) (number_of_status r.status == 1) (flag_used _ r.paused paused.1 e) in
          (kind_is r.kind both.0, status_is r.status both.1);
      again = λ e. status_is r.status (flag_used (number_of_status r.status == 1) r.again again.1 e);
      min = bound_fits r.kind r.min is.1.1.1.1.0.1;
      max = bound_fits r.kind r.max is.1.1.1.1.1.0.1;
      away = is.1.1.1.1.1.1.1;
    }

back : (mirrors : Mirrors) (offline : ℕ) → AreFew mirrors → (r : Running) → IsRunning mirrors offline r → FieldsFit mirrors offline (fields_of r)
back mirrors offline few r is =
    let kind = kind_low r.kind in
    let status = status_low r.status in
    let range = status_back r.kind r.status is.status in
    let paused = flag_within (number_of_kind r.kind == 1 && number_of_status r.status == 1) r.paused (λ e. paused_back r.kind r.status (is.paused e)) in
    let again = flag_within (number_of_status r.status == 1) r.again (λ e. ap (λ (s : Status). number_of_status s == 1) (is.again e)) in
    let below = mask_below mirrors r.away few (and_parts (nat_lt r.away (2 ^ devices_of mirrors)) (bit_and offline r.away == offline) is.away).0 in (
      (omega (arith, kind), not_outside 0 2 (number_of_kind r.kind) (omega arith) kind),
      (
        (omega (arith, status), not_outside _ _ (number_of_status r.status) range.0 range.1),
        (
          (omega (arith, flag_low r.paused), not_outside 0 _ (flag r.paused) (omega arith) paused),
          (
            (omega (arith, flag_low r.again), not_outside 0 _ (flag r.again) (omega arith) again),
            (most_low r.kind r.min is.min, (most_low r.kind r.max is.max, (below, is.away))),
          ),
        ),
      ),
    )

pub running_part : (mirrors : Mirrors) (offline : ℕ) → AreFew mirrors → IsPart (running_of mirrors offline) running_bytes (IsRunning mirrors offline)
unfolding running_bytes
running_part mirrors offline few =
    restated (made_part (pair_part (within_part w8 256 wide8 0 2) (λ kind kt. pair_part (within_part w8 256 wide8 (if_used (is_scan kind) 1) (if_used (is_scan kind) 3))
    (λ status st. pair_part (within_part w8 256 wide8 0 (most_pause kind status)) (λ paused pt. pair_part (within_part w8 256 wide8 0 (if_used (status == 1) 1))
    (λ again at. pair_part (within_part w64 (2 ^ 64) wide64 0 (if_used (is_scan kind) (2 ^ 64 - 1)))
    (λ min nt. pair_part (within_part w64 (2 ^ 64) wide64 0 (if_used (is_scan kind) (2 ^ 64 - 1))) (λ max xt. away_part mirrors offline)))))))
    running_with fields_of (told mirrors offline))
    (same mirrors offline) (λ r is. simp append_assoc)
    (λ r is. fits mirrors offline r is.1)
    (λ r is.
    let kind = kind_again r.kind in
    let status = status_again r.status in
    let paused = flag_again r.paused in
    let again = flag_again r.again in (
      λ i. record { kind = kind i; status = status i; paused = paused i; again = again i; min = r.min; max = r.max; away = r.away },
      back mirrors offline few r is,
    ))
