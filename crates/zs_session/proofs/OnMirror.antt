-- Calls on the first copies of the one mirror: they are on the first devices, and leave the others alone.
use Rattle.std.proofs.Common.{◌≡◌, ◌≢◌, inl, inr, ℕ, ◌+◌, ◌*◌, ◌≤◌, ◌<◌, List, length, ◌∙◌, ap, subst, arith}
use Rattle.std.specs.Prelude.{Option, Some, None, IsSome, is_some, slice_index_or}
use Rattle.std.proofs.lemmas.Bool.{cases_lt}
use Rattle.zs_ids.specs.declared.block.Place.{Place}
use Rattle.zs_lane.specs.declared.mark.Mark.{Mark}
use Rattle.zs_lane.specs.Children.{DeviceView}
use Rattle.zs_mirror.specs.Mirror.{nowhere, first_of, IsMirror, IsOther}
use Rattle.zs_machine.specs.Matches.{calls_from}
use Rattle.zs_session.specs.Devices.{Journals, marks_of, AreLonger}
use Rattle.zs_session.proofs.CallsMade.{AreMade, made_from}
use Rattle.zs_session.proofs.CheckedCalls.{GainsSome, gains_same, IsNew}

-- the journals of the first devices are told
abbrev pub AreTold : ℕ → Journals → Type 0
AreTold width journals = (k : ℕ) → k < width → IsSome (journals k)

-- a journal that gains marks is told if it was
told_in : (old new : Option (List Mark)) → GainsSome old new → IsSome old → IsSome new
told_in None new gains told = absurd cc
told_in (Some j) new gains told = ap is_some gains.1

-- longer journals are told where the shorter are
pub told_longer : (width : ℕ) (old new : Journals) → AreLonger old new → AreTold width old → AreTold width new
told_longer width old new longer told k lt = told_in (old k) (new k) (longer k) (told k lt)

-- the devices of the one mirror are the first ones
pub on_first : (vdev width k : ℕ) → vdev ≡ 0 → first_of vdev width + k ≡ k
on_first vdev width k first =
    let none : 0 * width + k ≡ k = omega arith in
    ap (λ (v : ℕ). v * width + k) first ∙ none

-- what lies on the devices of a mirror has at least one sector
pub has_sectors : (count width : ℕ) (place : Place) (len sectors : ℕ) (devices : ℕ → DeviceView) → IsMirror count width place len devices → len ≡ 512 * sectors → 1 ≤ sectors
has_sectors count width place len sectors devices lies long = omega (arith, lies.whole, lies.not_empty)

-- a device behind some first copies holds none of them
other : (vdev width copies dev : ℕ) → vdev ≡ 0 → copies ≤ dev → IsOther (first_of vdev width) copies dev
other vdev width copies dev first high k lt is =
    let at : dev ≡ k = is ∙ on_first vdev width k first in
    absurd (omega arith)

-- where the journals of some first copies gain marks and the others are as they were, all are longer
pub longer_from : (vdev width copies : ℕ) (old new : Journals) → vdev ≡ 0
    → ((k : ℕ) → k < copies → GainsSome (old (first_of vdev width + k)) (new (first_of vdev width + k)))
    → ((dev : ℕ) → IsOther (first_of vdev width) copies dev → new dev ≡ old dev) → AreLonger old new
longer_from vdev width copies old new first each others dev = elim (cases_lt dev copies) [
  | inl low ↦ subst (λ (d : ℕ). GainsSome (old d) (new d)) (on_first vdev width dev first) (each dev low)
  | inr high ↦ gains_same (old dev) (new dev) (others dev (other vdev width copies dev first high))
]

-- where each place that is named is new in the journal of its copy's device, the calls were made
pub made_on : (first width : ℕ) (places : List ℕ) (old new : Journals)
    → ((k : ℕ) → k < width → slice_index_or places k nowhere ≢ nowhere → IsNew (slice_index_or places k nowhere) (marks_of old (first + k)) (marks_of new (first + k)))
    → ((k : ℕ) → width ≤ k → slice_index_or places k nowhere ≡ nowhere) → AreMade (marks_of old) (marks_of new) (calls_from first places)
made_on first width places old new each none = made_from first places (marks_of old) (marks_of new) within
  where
    within : (k : ℕ) → slice_index_or places k nowhere ≢ nowhere
        → (length (marks_of old (first + k)) ≤ slice_index_or places k nowhere) × (slice_index_or places k nowhere < length (marks_of new (first + k)))
    within k there = elim (cases_lt k width) [
      | inl low ↦ let it : IsNew (slice_index_or places k nowhere) (marks_of old (first + k)) (marks_of new (first + k)) = each k low there in (it.since, it.marked)
      | inr high ↦ absurd (there (none k high))
    ]
