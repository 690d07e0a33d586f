-- How a read of a mirror is refused.
use Rattle.std.specs.Prelude.{ℕ, List}
use Rattle.zs_lane.specs.Children.{DeviceView}
use Rattle.zs_mirror.specs.declared.fault.ReadFault.{ReadFault}
use Rattle.zs_mirror.specs.declared.fault.ReadFault.TheVariants.{Lost, Memory}
use Rattle.zs_mirror.specs.Calls.{AreLost}

-- a lost block: all of its copies were tried in vain
abbrev pub SaysLost : ReadFault → ℕ → ℕ → ℕ → ℕ → ℕ → List ℕ → (ℕ → DeviceView) → (ℕ → DeviceView) → Type 0
SaysLost (Lost places) online first width at len sum old new = AreLost online first width at len sum places old new
SaysLost Memory online first width at len sum old new = Unit {0}
