-- Which parts of a record have a spelling, and that it is one.
use Rattle.std.specs.Prelude.{◌≡◌, ◌<◌, ◌≤◌, ◌^◌, ◌==◌, ◌&&◌, ℕ, true, List, [], ◌∷◌, ◌++◌, length, Option, Some, Ok, flat_map}
use Rattle.zs_ids.specs.declared.block.Bp.{Bp}
use Rattle.zs_ids.specs.declared.dataset.Name.{Name}
use Rattle.zs_ids.specs.declared.key.Key.{Key}
use Rattle.zs_ranges.specs.declared.set.Interval.{Interval}
use Rattle.zs_sum.specs.Laws.{AreBytes, IsPointer}
use Rattle.zs_record.specs.Reading.{Read}
use Rattle.zs_record.specs.Names.{is_name, name_of}
use Rattle.zs_record.specs.Blocks.{key_of, is_key, is_behind, level_at, is_size_at, entries_of}
use Rattle.zs_record.specs.Logs.{after, set_of}
use Rattle.zs_record.specs.Spelling.{name_bytes, key_bytes, entry_bytes, set_bytes}

-- a part of a record: what is written is read back, with the rest left over, and what is read spells back to the bytes
-- that it was read from
pub record IsPart {A : Type 0} (read : List ℕ → Read A) (write : A → List ℕ) (fits : A → Type 0) : Type 0 where
  pub back : (a : A) (rest : List ℕ) → fits a → read (write a ++ rest) ≡ Ok (a, rest)
  pub spells : (bytes : List ℕ) (a : A) (rest : List ℕ) → AreBytes bytes → read bytes ≡ Ok (a, rest) → (bytes ≡ write a ++ rest) × fits a

-- each item fits behind those before it
abbrev pub FitAll : {S A : Type 0} → (S → A → Type 0) → (S → A → S) → S → List A → Type 0
FitAll fits next state [] = Unit {0}
FitAll fits next state (a ∷ items) = fits state a × FitAll fits next (next state a) items

-- the number is from least to most
abbrev pub IsFrom : ℕ → ℕ → ℕ → Type 0
IsFrom least most n = (least ≤ n) × (n ≤ most)

-- a name of a length from least to most
pub record IsName (least most : ℕ) (name : Name) : Type 0 where
  pub byte : name.len < 256
  pub len : IsFrom least most name.len
  pub twelve : length name.bytes ≡ 12
  pub text : is_name name.len name.bytes ≡ true

-- the fields of a key are as wide as they are
pub record IsWideKey (k : Key) : Type 0 where
  pub object : k.object < 2 ^ 16
  pub rank : k.rank < 256
  pub depth : k.depth < 256
  pub leaf : k.leaf < 2 ^ 32

-- the pointer may stand at the key
pub record IsPointerAt (k : Key) (bp : Bp) : Type 0 where
  pub pointer : IsPointer bp
  pub one : (bp.count == 1) ≡ true
  pub form : (bp.level == level_at k && is_size_at k bp.sectors) ≡ true

-- an entry behind the last key
pub record IsEntry (last : Option Key) (e : Key × Bp) : Type 0 where
  pub wide : IsWideKey e.0
  pub key : is_key e.0 ≡ true
  pub behind : is_behind last e.0 ≡ true
  pub pointer : IsPointerAt e.0 e.1

-- an interval of groups from 1 on that begins at `start` or later and ends by `end`
pub record IsSpan (end start : ℕ) (s : Interval) : Type 0 where
  pub positive : 1 ≤ s.first
  pub first : start ≤ s.first
  pub rises : s.first ≤ s.last
  pub last : s.last ≤ end

-- at most so many intervals of a set of groups from 1 to `last`
pub record IsSet (most last : ℕ) (spans : List Interval) : Type 0 where
  pub few : length spans ≤ most
  pub rise : FitAll (IsSpan last) after 0 spans

-- so many entries behind the last key
pub record AreEntries (count : ℕ) (last : Option Key) (entries : List (Key × Bp)) : Type 0 where
  pub many : length entries ≡ count
  pub fit : FitAll IsEntry (λ before e. Some e.0) last entries

-- the parts of a record that have one spelling: names, keys, entries and sets
pub record PartsLaw : Type 0 where
  pub names : (least most : ℕ) → IsPart (name_of least most) name_bytes (IsName least most)
  pub keys : IsPart key_of key_bytes IsWideKey
  pub entries : (count : ℕ) (last : Option Key) → IsPart (entries_of count last) (flat_map entry_bytes) (AreEntries count last)
  pub sets : (most last : ℕ) → most < 2 ^ 32 → last < 2 ^ 64 → IsPart (set_of most last) set_bytes (IsSet most last)
