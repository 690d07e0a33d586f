-- The head of a record has one spelling.
use Rattle.std.proofs.Common.{◌≡◌, ℕ, ◌*◌, ◌-◌, ◌^◌, ◌<◌, ◌≤◌, ◌==◌, nat_lt, true, cond, List, ◌++◌, length, Ok, Err, refl, sym, ap, ◌∙◌, append_assoc, arith}
use Rattle.std.specs.Int.{w32, w64}
use Rattle.std.specs.Cmp.Lexicographic.{same_text}
use Rattle.std.proofs.lemmas.Bool.{eqb-true, and_parts, ltb-true}
use Rattle.std.proofs.Math.Pow.{pow_mono}
use lib.Pointwise.{pointwise}
use Rattle.zs_ids.specs.declared.limits.TheConstants.{DATASETS, TXG_END}
use Rattle.zs_record.specs.declared.fault.RecordFault.TheVariants as faults
use Rattle.zs_record.specs.declared.head.Head.{Head}
use Rattle.zs_record.specs.declared.mirrors.Mirrors.{Mirrors}
use Rattle.zs_record.specs.Reading.{Read}
use Rattle.zs_record.specs.Numbers.{number_of, number_within, number_bytes, bytes_of}
use Rattle.zs_record.specs.Head.{magic, behind_magic, behind_version, devices_of, leaves_each, is_offline, offline_of, head_of}
use Rattle.zs_record.specs.Laws.{IsPart}
use Rattle.zs_record.specs.StoredLaws.{AreFew, IsHead}
use Rattle.zs_record.specs.Spelling.{head_bytes}
use Rattle.zs_record.proofs.Parts.{peel, guard_true, wide32, wide64, number_part, within_part, bytes_part, taken_part}
use Rattle.zs_record.proofs.Pairs.{IsFixed, then_read, made_read, behind_read, pair_part, made_part, behind_part, restated, bind_bind, inside, not_outside, only_one}

magic_fixed : IsFixed behind_magic magic
unfolding behind_magic magic
magic_fixed = record {
  back = λ rest. rw ((bytes_part 8).back magic rest refl) refl;
  spells = λ bytes rest are e.
      let a = peel (bytes_of 8) (λ text. text) (λ text. length text ≡ 8) (bytes_part 8) (λ x. cond (pointwise ◌==◌ x.0 magic) (Ok x.1) (Err faults.Magic)) bytes rest are e in
      let g = guard_true (pointwise ◌==◌ a.value magic) faults.Magic a.rest rest a.goes_on in
      a.parts ∙ (ap (λ (t : List ℕ). t ++ a.rest) (same_text a.value magic (sym g.0)) ∙ ap (λ (t : List ℕ). magic ++ t) g.1);
}

version_fixed : IsFixed behind_version (number_bytes w32 1)
unfolding behind_version
version_fixed = record {
  back = λ rest. rw ((number_part w32 (2 ^ 32) wide32).back 1 rest (omega arith)) refl;
  spells = λ bytes rest are e.
      let a = peel (number_of w32) (number_bytes w32) (λ n. n < 2 ^ 32) (number_part w32 (2 ^ 32) wide32) (λ x. cond (x.0 == 1) (Ok x.1) (Err faults.BadVersion)) bytes rest are e in
      let g = guard_true (a.value == 1) faults.BadVersion a.rest rest a.goes_on in
      a.parts ∙ (ap (λ (n : ℕ). number_bytes w32 n ++ a.rest) (eqb-true a.value 1 g.0) ∙ ap (λ (t : List ℕ). number_bytes w32 1 ++ t) g.1);
}

offline_part : (mirrors : Mirrors) → IsPart (offline_of mirrors) (number_bytes w32) (λ mask. (mask < 2 ^ 32) × (is_offline mirrors mask ≡ true))
unfolding offline_of
offline_part mirrors = taken_part (number_of w32) (number_bytes w32) (λ n. n < 2 ^ 32) (number_part w32 (2 ^ 32) wide32) (is_offline mirrors) faults.Field

-- there are at most 32 devices
pub few_devices : (count width : ℕ) → count ≤ 8 → width ≤ 4 → count * width ≤ 32
few_devices count width few narrow = grind (arith, few, narrow)

-- a mask of devices has four bytes
pub mask_below : (mirrors : Mirrors) (mask : ℕ) → AreFew mirrors → nat_lt mask (2 ^ devices_of mirrors) ≡ true → mask < 2 ^ 32
mask_below mirrors mask few below =
    let lt = ltb-true mask (2 ^ devices_of mirrors) below in
    let le : 2 ^ devices_of mirrors ≤ 2 ^ 32 = pow_mono (few_devices mirrors.count mirrors.width few.count few.width) in
    omega (arith, lt, le)

offline_below : (mirrors : Mirrors) (mask : ℕ) → AreFew mirrors → is_offline mirrors mask ≡ true → mask < 2 ^ 32
unfolding is_offline
offline_below mirrors mask few is = mask_below mirrors mask few (and_parts (nat_lt mask (2 ^ devices_of mirrors)) (leaves_each mirrors.width mirrors.count mask) is).0

-- ---- the fields

abbrev Fields : Type 0
Fields = ℕ × (ℕ × (ℕ × (ℕ × ℕ)))

abbrev head_with : Fields → Head
head_with f = record { txg = f.0; next_id = f.1.0; datasets = f.1.1.0; offline = f.1.1.1.1 }

abbrev fields_of : Mirrors → Head → Fields
fields_of mirrors h = (h.txg, (h.next_id, (h.datasets, (devices_of mirrors, h.offline))))

abbrev fields_read : Mirrors → List ℕ → Read Fields
fields_read mirrors =
    then_read (number_within w64 1 (TXG_END - 1)) (λ a. then_read (number_of w32) (λ b. then_read (number_within w32 1 DATASETS)
    (λ c. then_read (number_within w32 (devices_of mirrors) (devices_of mirrors)) (λ d. offline_of mirrors))))

same : (mirrors : Mirrors) (bytes : List ℕ) → behind_read behind_magic (behind_read behind_version (made_read head_with (fields_read mirrors))) bytes ≡ head_of mirrors bytes
unfolding head_of
same mirrors bytes = simp bind_bind

pub head_part : (mirrors : Mirrors) → AreFew mirrors → IsPart (head_of mirrors) (head_bytes mirrors) (IsHead mirrors)
unfolding head_bytes
head_part mirrors few =
    restated (behind_part magic_fixed (behind_part version_fixed
    (made_part (pair_part (within_part w64 (2 ^ 64) wide64 1 (TXG_END - 1)) (λ a at. pair_part (number_part w32 (2 ^ 32) wide32) (λ b bt. pair_part (within_part w32 (2 ^ 32) wide32 1 DATASETS)
    (λ c ct. pair_part (within_part w32 (2 ^ 32) wide32 (devices_of mirrors) (devices_of mirrors)) (λ d dt. offline_part mirrors)))))
    head_with (fields_of mirrors) (λ f is. ap (λ (d : ℕ). (f.0, (f.1.0, (f.1.1.0, (d, f.1.1.1.1))))) (only_one (devices_of mirrors) f.1.1.1.0 is.1.1.1.0.1)))))
    (same mirrors) (λ h is. simp append_assoc)
    (λ h is. record { txg = inside 1 (TXG_END - 1) h.txg is.1.0.1; next_id = is.1.1.0; datasets = inside 1 DATASETS h.datasets is.1.1.1.0.1; offline = is.1.1.1.1.1.1 })
    (λ h is. (
      refl,
      (
        (omega (arith, is.txg.1), not_outside 1 (TXG_END - 1) h.txg is.txg.0 is.txg.1),
        (
          is.next_id,
          (
            (omega (arith, is.datasets.1), not_outside 1 DATASETS h.datasets is.datasets.0 is.datasets.1),
            (
              (omega (arith, few_devices mirrors.count mirrors.width few.count few.width), not_outside (devices_of mirrors) (devices_of mirrors) (devices_of mirrors) (omega arith) (omega arith)),
              (offline_below mirrors h.offline few is.offline, is.offline),
            ),
          ),
        ),
      ),
    ))
