-- What each device has missed, after the dirty time logs of OpenZFS (`vdev_dtl_dirty`, `vdev_dtl_reassess` and
-- `vdev_dtl_excise` in vdev.c).
use Rattle.std.specs.Prelude.{◌≡◌, ◌<◌, ◌≤◌, ◌/◌, ◌%◌, ◌^◌, ◌==◌, ℕ, Bool, true, ◌&&◌, ◌||◌, not, nat_lt, min, max, List, [], Option, Some, None, length, slice_index_or}
use Rattle.zs_ids.specs.declared.limits.TheConstants.{LOG_SPANS}
use Rattle.zs_ranges.specs.declared.set.Interval.{Interval}
use Rattle.zs_ranges.specs.Set.{has_txg, IsCanonical, joined_to}

-- per device the intervals of its log
abbrev pub Logs : Type 0
Logs = List (List Interval)

-- a device's log; there is none past the last device
abbrev pub log_of : Logs → ℕ → List Interval
log_of logs dev = slice_index_or logs dev []

-- the log has the groups of the test, its two lowest intervals joined until there are no more than a log may have
pub record IsJoinedLog (test : ℕ → Bool) (log : List Interval) : Type 0 where
  pub whole : List Interval
  pub canonical : IsCanonical whole
  pub has : (t : ℕ) → has_txg whole t ≡ test t
  pub joined : log ≡ joined_to LOG_SPANS whole

-- a resilver excises the groups that it set out for, a scrub all
abbrev pub is_wanted : Option (List Interval) → ℕ → Bool
is_wanted None t = true
is_wanted (Some only) t = has_txg only t

-- a finished scan from min to max excises the wanted groups strictly between them
abbrev pub is_excised : ℕ → ℕ → Option (List Interval) → ℕ → Bool
is_excised min max only t = nat_lt min t && nat_lt t max && is_wanted only t

-- the mask has the device's bit
abbrev pub is_online : ℕ → ℕ → Bool
is_online mask dev = mask / 2 ^ dev % 2 == 1

-- one of the first `n` devices is online and misses the group
pub record IsMissed (logs : Logs) (mask n t : ℕ) : Type 0 where
  pub dev : ℕ
  pub below : dev < n
  pub online : is_online mask dev ≡ true
  pub has : has_txg (log_of logs dev) t ≡ true

-- the least and the greatest group of a set, where it has one
abbrev pub AreBounds : (ℕ → Type 0) → Option (ℕ × ℕ) → Type 0
AreBounds P None = (t : ℕ) → P t → ⊥
AreBounds P (Some b) = P b.0 × P b.1 × ((t : ℕ) → P t → (b.0 ≤ t) × (t ≤ b.1))

-- the bounds of two sets together
abbrev pub bounds_united : Option (ℕ × ℕ) → Option (ℕ × ℕ) → Option (ℕ × ℕ)
bounds_united None b = b
bounds_united (Some a) None = Some a
bounds_united (Some a) (Some b) = Some (min a.0 b.0, max a.1 b.1)

-- no log has more intervals than a log may have
abbrev pub AreShort : Logs → Type 0
AreShort logs = (dev : ℕ) → length (log_of logs dev) ≤ LOG_SPANS
