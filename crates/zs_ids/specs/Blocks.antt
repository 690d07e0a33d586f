-- The words for a map from keys to block pointers, seen as its entries in order of key.
use Rattle.std.specs.Prelude.{ℕ, List, [], ◌∷◌, Option, filter, find, nat_lt}
use Rattle.std.specs.Ordering.{is_le}
use Rattle.std.specs.Map.{lookup, keys_of}
use Rattle.std.specs.BTreeMap.{insert_entry, is_at}
use Rattle.std.specs.List.Sorted.{IsStrictlySortedBy}
use Rattle.zs_ids.specs.declared.key.Key.{Key}
use Rattle.zs_ids.specs.declared.block.Bp.{Bp}
use Rattle.zs_ids.specs.Key.{key_cmp}

-- the pointer at the key
abbrev pub bp_at : List (Key × Bp) → Key → Option Bp
bp_at entries key = lookup (is_at (key_cmp key)) entries

-- the entries with this pointer at the key, in order
abbrev pub replaced : List (Key × Bp) → Key → Bp → List (Key × Bp)
replaced entries key bp = insert_entry key_cmp entries key bp

-- the entries with these changes put in, one after the other
abbrev pub entries_with : List (Key × Bp) → List (Key × Bp) → List (Key × Bp)
entries_with entries [] = entries
entries_with entries (c ∷ cs) = entries_with (replaced entries c.0 c.1) cs

-- the first entry at or after `from` whose pointer is born after `above`
abbrev pub first_from : List (Key × Bp) → Key → ℕ → Option (Key × Bp)
first_from entries from above = find (λ e. nat_lt above e.1.birth) (filter (λ e. is_le (key_cmp from e.0)) entries)

-- the keys rise
abbrev pub IsInKeyOrder : List (Key × Bp) → Type 0
IsInKeyOrder entries = IsStrictlySortedBy key_cmp (keys_of entries)
