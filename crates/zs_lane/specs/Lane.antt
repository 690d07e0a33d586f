-- A lane, and what its calls answer.
use Rattle.std.specs.Prelude.{◌≡◌, ℕ, ◌≤◌, List, [], ◌∷◌, ◌++◌, length, Result, OnOk, IfErr}
use Rattle.zs_io.specs.Faults.{Rose}
use Rattle.zs_lane.specs.declared.mark.Mark.{Mark}
use Rattle.zs_lane.specs.declared.mark.Mark.TheVariants.{Failed as FailedMark}
use Rattle.zs_lane.specs.declared.fault.LaneFault.{LaneFault}
use Rattle.zs_lane.specs.declared.fault.LaneFault.TheVariants.{Failed, Memory}

-- a device, and the marks of the calls that it was given
pub record LaneView (D : Type 0) : Type 0 where
  pub device : D
  pub journal : List Mark

-- what a refusal leaves in the journal: the mark of the failed call at the place that it names, or nothing
abbrev pub Refused : LaneFault → List Mark → List Mark → Type 0
Refused (Failed place) old new = (place ≡ length old) × (new ≡ old ++ FailedMark ∷ [])
Refused Memory old new = new ≡ old

-- what a refusal says of the count of faults
abbrev pub Counts : LaneFault → ℕ → ℕ → Type 0
Counts (Failed place) before now = Rose before now
Counts Memory before now = now ≡ before

-- A call fails only where the device's count rises; else the count stays.
pub record HasLaneCause {T : Type 0} (before now : ℕ) (result : Result T LaneFault) : Type 0 where
  pub later : before ≤ now
  pub ok : OnOk result (now ≡ before)
  pub err : IfErr result (λ e. Counts e before now)
