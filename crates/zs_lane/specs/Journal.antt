-- When a journal of device calls is lawful: what it says was read is what was last written, or what stood there at first.
use Rattle.std.specs.Prelude.{◌≡◌, ℕ, ◌+◌, ◌≤◌, Bool, List, [], ◌∷◌, ◌==◌, ◌&&◌, nat_lt, min, max, length, take}
use Rattle.std.specs.Prelude.{slice_get, slice_range, Option, Some, is_some, if◌then◌else◌}
use Rattle.zs_sum.specs.Sum.{sha256}
use Rattle.zs_lane.specs.declared.mark.Mark.{Mark}
use Rattle.zs_lane.specs.declared.mark.Mark.TheVariants.{Read, Wrote, Synced, Failed}

-- what marks say of a range: nothing touched it; it holds bytes of this sum; or it is open
pub data Touch : Type 0 where
  Untouched : Touch
  Holds : List ℕ → Touch
  Open : Touch

-- the ranges share a byte
abbrev pub overlap : ℕ → ℕ → ℕ → ℕ → Bool
overlap at len a l = nat_lt (max at a) (min (at + len) (a + l))

-- what one mark says of the range: a write of just this range leaves its sum there; a write that overlaps it in another way,
-- and a call that failed, leave it open
abbrev pub touches : ℕ → ℕ → Mark → Touch
touches at len (Read a l s) = Untouched
touches at len (Wrote a l s) = if overlap at len a l then (if (a == at) && (l == len) then Holds s else Open) else Untouched
touches at len Synced = Untouched
touches at len Failed = Open

-- the later of the two, if it touches the range
abbrev pub later : Touch → Touch → Touch
later Untouched earlier = earlier
later (Holds s) earlier = Holds s
later Open earlier = Open

-- what the last mark that touches the range says of it
abbrev pub touch : ℕ → ℕ → List Mark → Touch
touch at len [] = Untouched
touch at len (m ∷ marks) = later (touch at len marks) (touches at len m)

-- what the sum of a read must be, by the last mark before it that touched its range, and the bytes at the opening
abbrev pub Says : List ℕ → ℕ → ℕ → Touch → List ℕ → Type 0
Says opening at len Untouched s = s ≡ sha256 (slice_range opening at (at + len))
Says opening at len (Holds w) s = s ≡ w
Says opening at len Open s = Unit {0}

-- each read in the journal has the sum that it must have
pub record IsLawful (opening : List ℕ) (marks : List Mark) : Type 0 where
  pub reads : (k at len : ℕ) (s : List ℕ) → slice_get marks k ≡ Some (Read at len s) → Says opening at len (touch at len (take k marks)) s

-- what the marks say of the bytes now: a range that nothing touched is as at the opening, one that holds a sum has it
abbrev pub Fits : List ℕ → List ℕ → ℕ → ℕ → Touch → Type 0
Fits opening now at len Untouched = slice_range now at (at + len) ≡ slice_range opening at (at + len)
Fits opening now at len (Holds s) = s ≡ sha256 (slice_range now at (at + len))
Fits opening now at len Open = Unit {0}

-- the same of every range within the bytes
pub record Tracks (opening : List ℕ) (marks : List Mark) (now : List ℕ) : Type 0 where
  pub ranges : (at len : ℕ) → at + len ≤ length now → Fits opening now at len (touch at len marks)

-- The journal of a device that was opened with these bytes, where it tells them, is lawful, and it fits the bytes now.
pub record Keeps (opening : Option (List ℕ)) (marks : List Mark) (now : Option (List ℕ)) : Type 0 where
  pub tells : is_some opening ≡ is_some now
  pub lawful : (b : List ℕ) → opening ≡ Some b → IsLawful b marks
  pub tracks : (b c : List ℕ) → opening ≡ Some b → now ≡ Some c → Tracks b marks c
