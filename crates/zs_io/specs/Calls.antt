-- The calls that a memory device keeps, what a read gives after them, and what a crash may leave.
use Rattle.std.specs.Prelude.{◌≡◌, ◌≤◌, ℕ, List, [], ◌∷◌, ◌++◌, length, take, zero, suc, All, Bool, ◌||◌, ◌==◌, nat_le}
use Rattle.std.specs.List.{list_any}
use Rattle.zs_io.specs.Told.{Torn, AreBytes}
use Rattle.zs_io.specs.declared.disk.Call.{Call}
use Rattle.zs_io.specs.declared.disk.Call.TheVariants.{Looked, Wrote, Synced}

-- the old bytes with these put over them from this offset on, as far as there are old ones
abbrev pub overlaid : ℕ → List ℕ → List ℕ → List ℕ
overlaid at bytes [] = []
overlaid zero [] (x ∷ old) = x ∷ old
overlaid zero (b ∷ bytes) (x ∷ old) = b ∷ overlaid zero bytes old
overlaid (suc at) bytes (x ∷ old) = x ∷ overlaid at bytes old

-- the bytes as they read after a call: of a write, as many as were kept are there
abbrev pub after_call : Call → List ℕ → List ℕ
after_call Looked old = old
after_call (Wrote at bytes kept) old = overlaid at (take kept bytes) old
after_call Synced old = old

-- the bytes as they read after these calls
abbrev pub after_calls : List Call → List ℕ → List ℕ
after_calls [] first = first
after_calls (c ∷ calls) first = after_calls calls (after_call c first)

-- What a crash may leave after a call, by what it could leave before it and the bytes as they read then: a write tears its
-- own range, whether it failed or not; after a sync that succeeded nothing but these bytes is left; all else
-- changes nothing.
abbrev pub left_by : Call → List ℕ → (List ℕ → Type 0) → List ℕ → Type 0
left_by Looked now could c = could c
left_by (Wrote at bytes kept) now could c = (d : List ℕ) × could d × Torn at bytes d c
left_by Synced now could c = c ≡ now

-- what a crash may leave after these calls
abbrev pub left_after : List Call → List ℕ → (List ℕ → Type 0) → List ℕ → Type 0
left_after [] now could c = could c
left_after (e ∷ calls) now could c = left_after calls (after_call e now) (left_by e now could) c

-- a device as its first bytes, all of them on the disk, and the calls that it was given since
pub record Kept : Type 0 where
  pub first : List ℕ
  pub calls : List Call

-- the bytes as they read
unfoldable pub bytes_of : Kept → List ℕ
bytes_of kept = after_calls kept.calls kept.first

-- what a crash may leave now
unfoldable pub images_of : Kept → List ℕ → Type 0
images_of kept c = left_after kept.calls kept.first (λ d. d ≡ kept.first) c

-- what a crash might have left after the first k calls, for some k from t on
unfoldable pub images_since : Kept → ℕ → List ℕ → Type 0
images_since kept t c = (k : ℕ) × (t ≤ k) × (k ≤ length kept.calls) × left_after (take k kept.calls) kept.first (λ d. d ≡ kept.first) c

-- the bytes that a call has written or tried to write
abbrev pub written : Call → List ℕ
written Looked = []
written (Wrote at bytes kept) = bytes
written Synced = []

-- all that was ever put on the device is bytes
abbrev pub HaveBytes : Kept → Type 0
HaveBytes kept = AreBytes kept.first × All (λ c. AreBytes (written c)) kept.calls

-- one call more
abbrev pub with_call : Kept → Call → Kept
with_call kept e = record { first = kept.first; calls = kept.calls ++ e ∷ [] }

-- whether the call of this number is one of those that fail
unfoldable pub fails_at : List ℕ → ℕ → ℕ → Bool
fails_at fails from number = nat_le from number || list_any (λ n. n == number) fails
