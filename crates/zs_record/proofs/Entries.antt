-- Pointers and entries have one spelling.
use Rattle.std.proofs.Common.{◌≡◌, ℕ, ◌==◌, ◌&&◌, not, Bool, true, false, cond, List, [], ◌∷◌, ◌++◌, length, Option, Some, Result, Ok, Err, refl, sym, ap, subst, ◌∙◌, append_assoc, arith}
use Rattle.zs_ids.specs.declared.block.Bp.{Bp}
use Rattle.zs_ids.specs.declared.block.Place.{Place}
use Rattle.zs_ids.specs.declared.key.Key.{Key}
use Rattle.zs_sum.specs.declared.fault.BpFault.{BpFault}
use Rattle.zs_sum.specs.Laws.{IsPointer, PointerLaw}
use Rattle.zs_sum.specs.Pointer.{bp_bytes, head_bytes, place_bytes, bp_of}
use Rattle.zs_record.specs.declared.fault.RecordFault.TheVariants as faults
use Rattle.zs_record.specs.Numbers.{bytes_of}
use Rattle.zs_record.specs.Blocks.{key_of, is_key, is_behind, key_behind, one_place, pointer_of, pointer_at, level_at, is_size_at, entry_of, entries_of}
use Rattle.zs_record.specs.Laws.{IsPart, IsWideKey, IsPointerAt, IsEntry, AreEntries, PartsLaw}
use Rattle.zs_record.specs.Spelling.{key_bytes, entry_bytes}
use Rattle.std.specs.List.{flat_map}
use Rattle.zs_record.proofs.Parts.{peel, ok_is, guard_true, joined, bytes_part, same_part}
use Rattle.zs_record.proofs.Fields.{key_part}
use Rattle.zs_record.proofs.Items.{AreItems, items_part}
use Rattle.zs_record.proofs.Spans.{set_part}
use Rattle.zs_record.proofs.Fields.{name_part}

-- a pointer with its three places has 64 bytes
three : (bp : Bp) (places : List Place) → bp.places ≡ places → length places ≡ 3 → length bp.sum ≡ 32 → length (bp_bytes bp) ≡ 64
unfolding bp_bytes head_bytes place_bytes
three bp (a ∷ b ∷ c ∷ []) is len sum = rw is (omega (arith, sum))
three bp places is len sum = absurd (omega arith)

-- a pointer in range with one place
pub record IsOne (bp : Bp) : Type 0 where
  pub pointer : IsPointer bp
  pub one : (bp.count == 1) ≡ true

found : (r : Result Bp BpFault) (rest : List ℕ) (x : Bp × List ℕ) → one_place r rest ≡ Ok x → (bp : Bp) × (r ≡ Ok bp) × ((bp.count == 1) ≡ true) × ((bp, rest) ≡ x)
found (Ok bp) rest x e =
    let g = guard_true (bp.count == 1) faults.Field (bp, rest) x e in
    (bp, refl, g.0, g.1)
found (Err fault) rest x e = absurd cc

pub pointer_part : PointerLaw → IsPart pointer_of bp_bytes IsOne
unfolding pointer_of
pointer_part law = record {
  back = λ bp rest is.
      rw ((bytes_part 64).back (bp_bytes bp) rest (three bp bp.places refl is.pointer.places is.pointer.sum), law.back bp is.pointer, is.one) refl;
  spells = λ bytes bp rest are e.
      let a = peel (bytes_of 64) (λ text. text) (λ text. length text ≡ 64) (bytes_part 64) (λ x. one_place (bp_of x.0) x.1) bytes (bp, rest) are e in
      let f = found (bp_of a.value) a.rest (bp, rest) a.goes_on in
      let spelled = law.spells a.value f.0 a.fit a.front f.1 in
      subst (λ (x : Bp × List ℕ). (bytes ≡ bp_bytes x.0 ++ x.1) × IsOne x.0) f.3
      (a.parts ∙ ap (λ (t : List ℕ). t ++ a.rest) (sym spelled.1), record { pointer = spelled.0; one = f.2 });
}

pub pointer_at_part : PointerLaw → (k : Key) → IsPart (pointer_at k) bp_bytes (IsPointerAt k)
unfolding pointer_at
pointer_at_part law k = record {
  back = λ bp rest is. rw ((pointer_part law).back bp rest (record { pointer = is.pointer; one = is.one }), is.form) refl;
  spells = λ bytes bp rest are e.
      let a = peel pointer_of bp_bytes IsOne (pointer_part law) (λ x. cond (x.0.level == level_at k && is_size_at k x.0.sectors) (Ok x) (Err faults.Field)) bytes (bp, rest) are e in
      let g = guard_true (a.value.level == level_at k && is_size_at k a.value.sectors) faults.Field (a.value, a.rest) (bp, rest) a.goes_on in
      subst (λ (x : Bp × List ℕ). (bytes ≡ bp_bytes x.0 ++ x.1) × IsPointerAt k x.0) g.1 (a.parts, record { pointer = a.fit.pointer; one = a.fit.one; form = g.0 });
}

-- a key of some block behind the last one
pub record IsKeyBehind (last : Option Key) (k : Key) : Type 0 where
  pub wide : IsWideKey k
  pub key : is_key k ≡ true
  pub behind : is_behind last k ≡ true

passed : (is_one behind : Bool) (x y : Key × List ℕ) → cond (not is_one) (Err faults.Field) (cond behind (Ok x) (Err faults.Order)) ≡ Ok y → (is_one ≡ true) × (behind ≡ true) × (x ≡ y)
passed true true x y e = (refl, refl, cc)
passed true false x y e = absurd cc
passed false behind x y e = absurd cc

pub key_behind_part : (last : Option Key) → IsPart (key_behind last) key_bytes (IsKeyBehind last)
unfolding key_behind
key_behind_part last = record {
  back = λ k rest is. rw (key_part.back k rest is.wide, is.key, is.behind) refl;
  spells = λ bytes k rest are e.
      let a = peel key_of key_bytes IsWideKey key_part _ bytes (k, rest) are e in
      let g = passed (is_key a.value) (is_behind last a.value) (a.value, a.rest) (k, rest) a.goes_on in
      subst (λ (x : Key × List ℕ). (bytes ≡ key_bytes x.0 ++ x.1) × IsKeyBehind last x.0) g.2 (a.parts, record { wide = a.fit; key = g.0; behind = g.1 });
}

pub entry_part : PointerLaw → (last : Option Key) → IsPart (entry_of last) entry_bytes (IsEntry last)
unfolding entry_of entry_bytes
entry_part law last = record {
  back = λ e rest is.
      rw (
        append_assoc (key_bytes e.0) (bp_bytes e.1) rest,
        (key_behind_part last).back e.0 (bp_bytes e.1 ++ rest) (record { wide = is.wide; key = is.key; behind = is.behind }),
        (pointer_at_part law e.0).back e.1 rest is.pointer,
      ) refl;
  spells = λ bytes e rest are eq.
      let a = peel (key_behind last) key_bytes (IsKeyBehind last) (key_behind_part last) _ bytes (e, rest) are eq in
      let b = peel (pointer_at a.value) bp_bytes (IsPointerAt a.value) (pointer_at_part law a.value) _ a.rest (e, rest) a.are a.goes_on in
      let made : (Key × Bp) × List ℕ = ((a.value, b.value), b.rest) in
      let whole = joined (key_bytes a.value) (bp_bytes b.value) b.rest bytes a.rest a.parts b.parts in
      subst (λ (x : (Key × Bp) × List ℕ). (bytes ≡ (key_bytes x.0.0 ++ bp_bytes x.0.1) ++ x.1) × IsEntry last x.0) (ok_is made (e, rest) b.goes_on)
      (whole, record { wide = a.fit.wide; key = a.fit.key; behind = a.fit.behind; pointer = b.fit });
}

pub entries_part : PointerLaw → (count : ℕ) (last : Option Key) → IsPart (entries_of count last) (flat_map entry_bytes) (AreEntries count last)
entries_part law count last =
    same_part (entries_of count last) (flat_map entry_bytes) (flat_map entry_bytes) (AreItems IsEntry (λ before e. Some e.0) count last) (AreEntries count last)
    (λ entries. refl) (λ entries is. record { many = is.many; fit = is.fit }) (λ entries is. record { many = is.many; fit = is.fit })
    (items_part entry_of entry_bytes IsEntry (λ before e. Some e.0) (entry_part law) count last)

pub parts_law : PointerLaw → PartsLaw
parts_law law = record { names = name_part; keys = key_part; entries = entries_part law; sets = set_part }
