-- How far the reading of a set's slots has come.
use Rattle.std.specs.Prelude.{◌≡◌, ◌⊎◌, ℕ, ◌≤◌, List, ◌++◌, length, Option, Bool}
use Rattle.std.specs.List.{list_any}
use Rattle.zs_lane.specs.Children.{DeviceView, Stays}
use Rattle.zs_label.specs.Best.{labels_on, found_from, is_other}
use Rattle.zs_label.specs.Images.{WasRead, WereRead}
use Rattle.zs_label.specs.declared.choosing.Found.{Found}

-- One device was read, and its labels were put behind those that were found.
pub record HasLooked (image : ℕ) (before after : List Found) (other : Bool) (old new : DeviceView) : Type 0 where
  pub read : Option (List ℕ)
  pub was : WasRead read old new
  pub found : after ≡ before ++ labels_on image read
  pub version : other ≡ is_other read

-- It may have been read.
abbrev pub MayHaveRead : DeviceView → DeviceView → Type 0
MayHaveRead old new = Stays old new ⊎ ((read : Option (List ℕ)) × WasRead read old new)

-- So many devices were read, and their labels were found.
pub record SoFar (devices : ℕ) (found : List Found) (other : Bool) (count_old count_new : ℕ) (old new : ℕ → DeviceView) : Type 0 where
  pub reads : List (Option (List ℕ))
  pub long : length reads ≡ devices
  pub read : WereRead reads count_old count_new old new
  pub labels : found ≡ found_from 0 reads
  pub version : other ≡ list_any is_other reads

-- At most so many were read.
pub record Broken (devices : ℕ) (count_old count_new : ℕ) (old new : ℕ → DeviceView) : Type 0 where
  pub reads : List (Option (List ℕ))
  pub few : length reads ≤ devices
  pub read : WereRead reads count_old count_new old new
