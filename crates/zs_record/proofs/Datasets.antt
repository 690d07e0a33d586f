-- Datasets have one spelling.
use Rattle.std.proofs.Common.{◌≡◌, ℕ, ◌-◌, ◌^◌, ◌<◌, ◌≤◌, ◌==◌, Bool, true, false, cond, List, ◌++◌, length, Option, Some, None, refl, ap, subst, append_assoc, arith, inl, inr}
use Rattle.std.specs.Int.{w8, w32, w64}
use Rattle.std.specs.List.{flat_map}
use Rattle.std.specs.Option.{IfSome}
use Rattle.std.proofs.lemmas.Bool.{ne_eqb, cases_eq}
use Rattle.zs_ids.specs.declared.dataset.DsId.{DsId}
use Rattle.zs_ids.specs.declared.dataset.Name.{Name}
use Rattle.zs_sum.specs.Laws.{PointerLaw}
use Rattle.zs_record.specs.declared.fault.RecordFault.TheVariants as faults
use Rattle.zs_record.specs.declared.sets.SetHead.{SetHead}
use Rattle.zs_record.specs.Reading.{Read, ◌>>=◌}
use Rattle.zs_record.specs.Numbers.{number_of, number_within, number_bytes, is_outside}
use Rattle.zs_record.specs.Names.{name_of}
use Rattle.zs_record.specs.Blocks.{entries_of}
use Rattle.zs_record.specs.Sets.{is_above, id_above, parent_with, set_head_of, stored_set_of, id_next, sets_of}
use Rattle.zs_record.specs.ScanSpelling.{flag}
use Rattle.zs_record.specs.Spelling.{entry_bytes, number_of_parent, set_head_bytes, stored_set_bytes}
use Rattle.zs_record.specs.Laws.{IsPart, IsName, AreEntries}
use Rattle.zs_record.specs.StoredLaws.{IsSetHead, IsStoredSet, AreSets}
use Rattle.zs_record.proofs.Parts.{peel, guard_true, wide8, wide32, wide64, number_part, within_part, bind_part, same_part}
use Rattle.zs_record.proofs.Items.{AreItems, items_part}
use Rattle.zs_record.proofs.Fields.{name_part}
use Rattle.zs_record.proofs.Entries.{entries_part}
use Rattle.zs_record.proofs.Pairs.{then_read, made_read, pair_part, made_part, restated, bind_bind, inside, not_outside, only_one}

id_part : (last : Option DsId) → IsPart (id_above last) (λ d. number_bytes w32 d.0) (λ d. (d.0 < 2 ^ 32) × (is_above last d.0 ≡ true))
unfolding id_above
id_part last = record {
  back = λ d rest is. rw ((number_part w32 (2 ^ 32) wide32).back d.0 rest is.0, is.1) refl;
  spells = λ bytes d rest are e.
      let a = peel (number_of w32) (number_bytes w32) (λ n. n < 2 ^ 32) (number_part w32 (2 ^ 32) wide32) _ bytes (d, rest) are e in
      let made : DsId × List ℕ = (record { 0 = a.value }, a.rest) in
      let g = guard_true (is_above last a.value) faults.Order made (d, rest) a.goes_on in
      subst (λ (x : DsId × List ℕ). (bytes ≡ number_bytes w32 x.0.0 ++ x.1) × ((x.0.0 < 2 ^ 32) × (is_above last x.0.0 ≡ true))) g.1 (a.parts, (a.fit, g.0));
}

-- ---- a flag

-- the byte of a flag is 0 or 1
pub flag_told : (n : ℕ) → n ≤ 1 → flag (n == 1) ≡ n
flag_told n le =
    elim (cases_eq n 1) [
      | inl e ↦ rw e refl
      | inr ne ↦ rw (ne_eqb n 1 ne) (omega (arith, le, ne))
    ]

pub flag_again : (b : Bool) → (flag b == 1) ≡ b
flag_again true = refl
flag_again false = refl

pub flag_low : (b : Bool) → flag b ≤ 1
flag_low true = omega arith
flag_low false = omega arith

-- ---- the parent

parent_told : (n : ℕ) → number_of_parent (parent_with n) ≡ n
parent_told n =
    elim (cases_eq n (2 ^ 32 - 1)) [
      | inl e ↦ rw e refl
      | inr ne ↦ rw (ne_eqb n (2 ^ 32 - 1) ne) refl
    ]

parent_below : (p : DsId) → p.0 < 2 ^ 32 → parent_with p.0 ≡ Some p → p.0 < 2 ^ 32 - 1
parent_below p lt e =
    elim (cases_eq p.0 (2 ^ 32 - 1)) [
      | inl last ↦ let none : parent_with p.0 ≡ None = rw last refl in absurd cc
      | inr ne ↦ omega (arith, lt, ne)
    ]

parent_fits : (parent : Option DsId) → number_of_parent parent < 2 ^ 32 → parent_with (number_of_parent parent) ≡ parent → IfSome parent (λ p. p.0 < 2 ^ 32 - 1)
parent_fits None lt e = tt
parent_fits (Some p) lt e = parent_below p lt e

parent_back : (parent : Option DsId) → IfSome parent (λ p. p.0 < 2 ^ 32 - 1) → (number_of_parent parent < 2 ^ 32) × (parent_with (number_of_parent parent) ≡ parent)
parent_back None is = (omega arith, refl)
parent_back (Some p) is = (omega (arith, is), rw (ne_eqb p.0 (2 ^ 32 - 1) (λ e. omega (arith, is, e))) refl)

-- ---- the fields before the entries

abbrev Fields : Type 0
Fields = DsId × (ℕ × (Name × (Name × (ℕ × (ℕ × ℕ)))))

abbrev set_head_with : Fields → SetHead
set_head_with f = record {
  id = f.0;
  head = f.1.0 == 1;
  owner = f.1.1.0;
  label = f.1.1.1.0;
  parent = parent_with f.1.1.1.1.1.0;
  creation = f.1.1.1.1.1.1;
}

abbrev fields_of : SetHead → Fields
fields_of d = (d.id, (flag d.head, (d.owner, (d.label, (0, (number_of_parent d.parent, d.creation))))))

-- the least and the most of a name's length
abbrev least_owner : ℕ → ℕ
least_owner id = cond (id == 0) 0 1

abbrev least_label : ℕ → ℕ → ℕ
least_label id kind = cond (id == 0) 0 (1 - kind)

abbrev most_label : ℕ → ℕ
most_label kind = cond (kind == 1) 0 12

abbrev most_creation : ℕ → ℕ
most_creation kind = cond (kind == 1) 0 (2 ^ 64 - 1)

abbrev fields_read : Option DsId → List ℕ → Read Fields
fields_read last =
    then_read (id_above last) (λ id. then_read (number_within w8 0 1) (λ kind. then_read (name_of (least_owner id.0) 12)
    (λ owner. then_read (name_of (least_label id.0 kind) (most_label kind)) (λ label. then_read (number_within w8 0 0)
    (λ pad. then_read (number_of w32) (λ parent. number_within w64 0 (most_creation kind)))))))

same : (last : Option DsId) (bytes : List ℕ) → made_read set_head_with (fields_read last) bytes ≡ set_head_of last bytes
unfolding set_head_of
same last bytes = simp bind_bind

label_fits : (head : Bool) (id : ℕ) (label : Name) → IsName (least_label id (flag head)) (most_label (flag head)) label → IsName (cond (id == 0) 0 (cond head 0 1)) (cond head 0 12) label
label_fits true id label is = is
label_fits false id label is = is

label_back : (head : Bool) (id : ℕ) (label : Name) → IsName (cond (id == 0) 0 (cond head 0 1)) (cond head 0 12) label → IsName (least_label id (flag head)) (most_label (flag head)) label
label_back true id label is = is
label_back false id label is = is

creation_same : (head : Bool) → most_creation (flag head) ≡ cond head 0 (2 ^ 64 - 1)
creation_same true = refl
creation_same false = refl

creation_back : (head : Bool) (n : ℕ) → n ≤ cond head 0 (2 ^ 64 - 1) → (n < 2 ^ 64) × (is_outside 0 (most_creation (flag head)) n ≡ false)
creation_back true n le = (omega (arith, le), not_outside 0 0 n (omega arith) le)
creation_back false n le = (omega (arith, le), not_outside 0 (2 ^ 64 - 1) n (omega arith) le)

pub set_head_part : (last : Option DsId) → IsPart (set_head_of last) set_head_bytes (IsSetHead last)
unfolding set_head_bytes
set_head_part last =
    restated (made_part (pair_part (id_part last) (λ id it. pair_part (within_part w8 256 wide8 0 1) (λ kind kt. pair_part (name_part (least_owner id.0) 12)
    (λ owner ot. pair_part (name_part (least_label id.0 kind) (most_label kind)) (λ label lt. pair_part (within_part w8 256 wide8 0 0)
    (λ pad pt. pair_part (number_part w32 (2 ^ 32) wide32) (λ parent at. within_part w64 (2 ^ 64) wide64 0 (most_creation kind))))))))
    set_head_with fields_of
    (λ f is.
    let kind = flag_told f.1.0 (inside 0 1 f.1.0 is.1.0.1).1 in
    let pad = only_one 0 f.1.1.1.1.0 is.1.1.1.1.0.1 in
    let parent = parent_told f.1.1.1.1.1.0 in
    λ i. (f.0, (kind i, (f.1.1.0, (f.1.1.1.0, (pad i, (parent i, f.1.1.1.1.1.1))))))))
    (same last) (λ d is. simp append_assoc)
    (λ d is. record {
      id = is.1.0.0;
      above = is.1.0.1;
      owner = is.1.1.1.0;
      label = label_fits d.head d.id.0 d.label is.1.1.1.1.0;
      parent = parent_fits d.parent is.1.1.1.1.1.1.0 (ap (λ (x : SetHead). x.parent) is.0);
      creation = subst (λ (most : ℕ). d.creation ≤ most) (creation_same d.head) (inside 0 (most_creation (flag d.head)) d.creation is.1.1.1.1.1.1.1.1).1;
    })
    (λ d is.
    let head = flag_again d.head in
    let parent = parent_back d.parent is.parent in (
      λ i. record { id = d.id; head = head i; owner = d.owner; label = d.label; parent = parent.1 i; creation = d.creation },
      (
        (is.id, is.above),
        (
          (omega (arith, flag_low d.head), not_outside 0 1 (flag d.head) (omega arith) (flag_low d.head)),
          (is.owner, (label_back d.head d.id.0 d.label is.label, ((omega arith, refl), (parent.0, creation_back d.head d.creation is.creation)))),
        ),
      ),
    ))

-- ---- whole datasets

-- entries with their count before them
counted_entries : PointerLaw → IsPart (λ bytes. number_of w32 bytes >>= λ count. entries_of count.0 None count.1)
    (λ entries. number_bytes w32 (length entries) ++ flat_map entry_bytes entries)
    (λ entries. (length entries < 2 ^ 32) × AreEntries (length entries) None entries)
counted_entries law =
    bind_part (number_of w32) (number_bytes w32) (λ n. n < 2 ^ 32) (number_part w32 (2 ^ 32) wide32) (λ count. entries_of count.0 None count.1)
    (flat_map entry_bytes) length (λ n entries. AreEntries n None entries) (λ n entries is. is.many) (λ n. entries_part law n None)

set_same : (last : Option DsId) (bytes : List ℕ)
    → made_read (λ x. record { head = x.0; entries = x.1 }) (then_read (set_head_of last) (λ h bytes. number_of w32 bytes >>= λ count. entries_of count.0 None count.1)) bytes
    ≡ stored_set_of last bytes
unfolding stored_set_of
set_same last bytes = simp bind_bind

pub stored_set_part : PointerLaw → (last : Option DsId) → IsPart (stored_set_of last) stored_set_bytes (IsStoredSet last)
unfolding stored_set_bytes
stored_set_part law last =
    restated (made_part (pair_part (set_head_part last) (λ h ht. counted_entries law)) (λ x. record { head = x.0; entries = x.1 }) (λ s. (s.head, s.entries)) (λ x is. refl))
    (set_same last) (λ s is. simp append_assoc)
    (λ s is. record { head = is.1.0; many = is.1.1.0; entries = is.1.1.1 })
    (λ s is. (refl, (is.head, (is.many, is.entries))))

pub sets_part : PointerLaw → (count : ℕ) (last : Option DsId) → IsPart (sets_of count last) (flat_map stored_set_bytes) (AreSets count last)
sets_part law count last =
    same_part (sets_of count last) (flat_map stored_set_bytes) (flat_map stored_set_bytes) (AreItems IsStoredSet id_next count last) (AreSets count last)
    (λ sets. refl) (λ sets is. record { many = is.many; fit = is.fit }) (λ sets is. record { many = is.many; fit = is.fit })
    (items_part stored_set_of stored_set_bytes IsStoredSet id_next (stored_set_part law) count last)
