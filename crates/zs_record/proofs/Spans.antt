-- Sets of transaction groups have one spelling.
use Rattle.std.proofs.Common.{◌≡◌, ℕ, ◌^◌, ◌<◌, ◌≤◌, nat_lt, false, List, length, refl, arith}
use Rattle.std.proofs.lemmas.Bool.{ltb-false, le-ltb}
use Rattle.std.specs.Int.{w32, w64}
use Rattle.std.specs.List.{flat_map}
use Rattle.zs_record.specs.declared.fault.RecordFault.TheVariants as faults
use Rattle.zs_record.specs.Numbers.{number_within, number_bytes, is_outside}
use Rattle.zs_record.specs.Logs.{txg_from, interval_of, after, intervals_of, set_of}
use Rattle.zs_record.specs.Laws.{IsPart, IsFrom, IsSpan, IsSet}
use Rattle.zs_record.specs.Spelling.{interval_bytes, set_bytes}
use Rattle.zs_record.proofs.Parts.{wide32, wide64, within_part, refused_part, bind_part}
use Rattle.zs_record.proofs.Items.{AreItems, items_part}
use Rattle.zs_record.proofs.Pairs.{then_read, made_read, pair_part, made_part, restated, bind_bind, inside, not_outside}

-- a transaction group from 1 to `last`, not below `from`
record IsTxg (last from t : ℕ) : Type 0 where
  pub range : IsFrom 1 last t
  pub least : from ≤ t

txg_part : (last from : ℕ) → last < 2 ^ 64 → IsPart (txg_from last from) (number_bytes w64) (IsTxg last from)
unfolding txg_from
txg_part last from end =
    restated (refused_part (number_within w64 1 last) (number_bytes w64) (λ t. (t < 2 ^ 64) × (is_outside 1 last t ≡ false)) (within_part w64 (2 ^ 64) wide64 1 last) (λ t. nat_lt t from) faults.Order)
    (λ bytes. refl) (λ t is. refl)
    (λ t is. record { range = inside 1 last t is.0.1; least = ltb-false t from is.1 })
    (λ t is. ((omega (arith, is.range.1, end), not_outside 1 last t is.range.0 is.range.1), le-ltb t from is.least))

interval_same : (last from : ℕ) (bytes : List ℕ) → made_read (λ x. record { first = x.0; last = x.1 }) (then_read (txg_from last from) (λ lower. txg_from last lower)) bytes ≡ interval_of last from bytes
unfolding interval_of
interval_same last from bytes = simp bind_bind

pub interval_part : (last from : ℕ) → last < 2 ^ 64 → IsPart (interval_of last from) interval_bytes (IsSpan last from)
unfolding interval_bytes
interval_part last from end =
    restated (made_part (pair_part (txg_part last from end) (λ lower lt. txg_part last lower end)) (λ x. record { first = x.0; last = x.1 }) (λ s. (s.first, s.last)) (λ x is. refl))
    (interval_same last from) (λ s is. refl)
    (λ s is. record { positive = is.1.0.range.0; first = is.1.0.least; rises = is.1.1.least; last = is.1.1.range.1 })
    (λ s is. (
      refl,
      (
        record { range = (is.positive, omega (arith, is.rises, is.last)); least = is.first },
        record { range = (omega (arith, is.positive, is.rises), is.last); least = is.rises },
      ),
    ))

pub set_part : (most last : ℕ) → most < 2 ^ 32 → last < 2 ^ 64 → IsPart (set_of most last) set_bytes (IsSet most last)
unfolding set_of set_bytes
set_part most last few end =
    restated (bind_part (number_within w32 0 most) (number_bytes w32) (λ n. (n < 2 ^ 32) × (is_outside 0 most n ≡ false)) (within_part w32 (2 ^ 32) wide32 0 most)
    (λ count. intervals_of last count.0 0 count.1) (flat_map interval_bytes) length (λ n spans. AreItems (IsSpan last) after n 0 spans) (λ n spans is. is.many)
    (λ n. items_part (interval_of last) interval_bytes (IsSpan last) after (λ from. interval_part last from end) n 0))
    (λ bytes. refl) (λ spans is. refl)
    (λ spans is. record { few = (inside 0 most (length spans) is.0.1).1; rise = is.1.fit })
    (λ spans is. ((omega (arith, is.few, few), not_outside 0 most (length spans) (omega arith) is.few), record { many = refl; fit = is.rise }))
