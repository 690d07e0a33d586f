-- What calls leave of the images of a device: those that a crash may leave behind them, and those that one might have left at any moment of theirs.
use Rattle.std.specs.Prelude.{◌≡◌, ◌⊎◌, ℕ, ◌+◌, ◌≤◌, ◌<◌, List, length, slice_index}
use Rattle.zs_io.specs.Told.{Told}
use Rattle.zs_io.specs.Crash.{Follows, Only}
use Rattle.zs_lane.specs.Children.{DeviceView}

-- At every moment since the calls began, each image is one that a crash could leave before them, after this step.
pub record Leaves (step : List ℕ → List ℕ → Type 0) (old new : DeviceView) : Type 0 where
  pub later : old.moment ≤ new.moment
  pub now : Follows step old.may_leave new.may_leave
  -- a run of calls that began earlier has the images that it had before
  pub since : (t : ℕ) (c : List ℕ) → t ≤ old.moment → new.left_since t c → old.left_since t c ⊎ ((d : List ℕ) × old.may_leave d × step d c)

-- a crash leaves what a read gives
abbrev pub IsDurable : DeviceView → Type 0
IsDurable device = Told device.told (λ b. Only b device.may_leave)

-- an image is as long as the other, and has the same bytes at these places
pub record AreSame (place : ℕ → Type 0) (d c : List ℕ) : Type 0 where
  pub long : length c ≡ length d
  pub same : (i : ℕ) → place i → slice_index c i ≡ slice_index d i

-- it lies in none of the n bytes from there on
abbrev pub IsOutside : ℕ → ℕ → ℕ → Type 0
IsOutside at n i = (i < at) ⊎ (at + n ≤ i)
