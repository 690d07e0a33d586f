-- The reads of a block's copies, as the journals have them.
use Rattle.std.proofs.Common.{◌≡◌, ◌≢◌, ℕ, ◌<◌, ◌≤◌, ◌+◌, ◌-◌, Bool, true, false, List, [], ◌∷◌, inl, inr, refl, sym, subst, arith}
use Rattle.std.specs.Prelude.{slice_index_or}
use Rattle.std.proofs.lemmas.Bool.{cases_lt}
use Rattle.zs_ids.specs.declared.block.Item.{Item}
use Rattle.zs_lane.specs.declared.mark.Mark.TheVariants.{Read}
use Rattle.zs_lane.specs.Children.{DeviceView, Stays}
use Rattle.zs_ledger.specs.declared.entry.CopyResult.{CopyResult}
use Rattle.zs_ledger.specs.declared.entry.CopyResult.TheVariants.{Missing, Good, Rewritten, Bad, Fault, Absent}
use Rattle.zs_mirror.specs.Calls.{WasRead, WasLost, AreLost, IsFound}
use Rattle.zs_mirror.specs.Mirror.{IsOther, Leaves, first_of, start_of, size_of, has_bit, nowhere}
use Rattle.zs_session.specs.Devices.{journals}
use Rattle.zs_session.specs.Plays.{GainsTo, TriesCopy, TriesAll, FindsCopy}

-- a read that gave no good bytes
tried : (online : Bool) (copy : CopyResult) (at len : ℕ) (sum : List ℕ) (place : ℕ) (old new : DeviceView) → copy ≢ Good → WasRead online copy at len sum place old new
    → TriesCopy online at len sum place old.journal new.journal
tried true Good at len sum place old new bad was = absurd (bad refl)
tried true Bad at len sum place old new bad was = inr (was.read, was.differs, record { gains = was.went.journal; last = was.went.last })
tried true Fault at len sum place old new bad was = inl (record { gains = was.journal; last = was.last })
tried true Missing at len sum place old new bad was = absurd was
tried true Rewritten at len sum place old new bad was = absurd was
tried true Absent at len sum place old new bad was = absurd was
tried false Absent at len sum place old new bad was = (was.place_is, was.stays.journal)
tried false Good at len sum place old new bad was = absurd was
tried false Bad at len sum place old new bad was = absurd was
tried false Fault at len sum place old new bad was = absurd was
tried false Missing at len sum place old new bad was = absurd was
tried false Rewritten at len sum place old new bad was = absurd was

lost_copy : (online : Bool) (at len : ℕ) (sum : List ℕ) (place : ℕ) (old new : DeviceView) → WasLost online at len sum place old new → TriesCopy online at len sum place old.journal new.journal
lost_copy online at len sum place old new lost = tried online lost.0 at len sum place old new lost.1 lost.2

-- a block that is lost was tried on each copy
pub tries_all : (width online n m : ℕ) (item : Item) (places : List ℕ) (old new : ℕ → DeviceView) → item.piece.place.vdev ≡ 0
    → AreLost online (first_of item.piece.place.vdev width) width (start_of item.piece.place) (size_of item) item.sum places old new
    → Leaves (first_of item.piece.place.vdev width) width n m old new → TriesAll width online item places (journals old) (journals new)
tries_all width online n m item places old new one lost leaves = record {
  mirror = one;
  each = λ k lt. lost_copy (has_bit online (first_of item.piece.place.vdev width + k)) (start_of item.piece.place) (size_of item) item.sum (slice_index_or places k nowhere)
      (old (first_of item.piece.place.vdev width + k)) (new (first_of item.piece.place.vdev width + k)) (lost.each k lt);
  others = λ dev other. (leaves.others dev other).journal;
  nowhere_else = lost.nowhere_else;
}

-- one that was found was tried on those before
pub finds_copy : (width online n m : ℕ) (item : Item) (places : List ℕ) (old new : ℕ → DeviceView) → item.piece.place.vdev ≡ 0
    → IsFound online (first_of item.piece.place.vdev width) width (start_of item.piece.place) (size_of item) item.sum places old new
    → Leaves (first_of item.piece.place.vdev width) width n m old new → FindsCopy width online item places (journals old) (journals new)
finds_copy width online n m item places old new one found leaves = record {
  mirror = one;
  copy = found.copy;
  there = found.there;
  good = good (has_bit online (first + found.copy)) found.good;
  before = λ k lt. lost_copy (has_bit online (first + k)) (start_of item.piece.place) (size_of item) item.sum (slice_index_or places k nowhere) (old (first + k)) (new (first + k)) (found.before k lt);
  others = λ dev other. (untouched dev other).journal;
  nowhere_else = found.nowhere_else;
}
  where
    first : ℕ
    first = first_of item.piece.place.vdev width

    good : (b : Bool) → WasRead b Good (start_of item.piece.place) (size_of item) item.sum (slice_index_or places found.copy nowhere) (old (first + found.copy)) (new (first + found.copy))
        → GainsTo (Read (start_of item.piece.place) (size_of item) item.sum ∷ []) (slice_index_or places found.copy nowhere) (old (first + found.copy)).journal (new (first + found.copy)).journal
    good true was = record { gains = was.went.journal; last = was.went.last }
    good false was = absurd was

    untouched : (dev : ℕ) → IsOther first (found.copy + 1) dev → Stays (old dev) (new dev)
    untouched dev other = elim (cases_lt dev (first + width)) [
      | inl below ↦ elim (cases_lt dev first) [
        | inl under ↦ leaves.others dev (λ k lt same. omega (arith, under, same))
        | inr over ↦ behind over below
      ]
      | inr over ↦ leaves.others dev (λ k lt same. omega (arith, over, same, lt))
    ]
      where
        behind : (first ≤ dev) → dev < first + width → Stays (old dev) (new dev)
        behind from below =
            let is : first + (dev - first) ≡ dev = omega (arith, from) in
            subst (λ (d : ℕ). Stays (old d) (new d)) is (elim (cases_lt found.copy (dev - first)) [
              | inl late ↦ found.untried (dev - first) late
              | inr early ↦ absurd (other (dev - first) (omega (arith, early)) (sym is))
            ])
