-- A pointer has one spelling.
use Rattle.std.proofs.Common.{◌≡◌, ◌<◌, ◌^◌, ℕ, true, ◌&&◌, ◌==◌, nat_lt, List, [], ◌∷◌, length, get_or, take, drop, replicate, Option, Some, None, Ok, refl, sym, ap, subst, ◌∙◌, arith}
use Rattle.std.proofs.lemmas.Bool.{and_parts, eqb-true}
use Rattle.std.proofs.lemmas.List.{take_all}
use Rattle.std.proofs.lemmas.Nat.{from_be_bytes-to_be_bytes_2, from_be_bytes-to_be_bytes_4, from_be_bytes-to_be_bytes_8}
use Rattle.zs_ids.specs.declared.block.Place.{Place}
use Rattle.zs_ids.specs.declared.block.Bp.{Bp}
use Rattle.zs_sum.specs.declared.fault.BpFault.{BpFault}
use Rattle.zs_sum.specs.Laws.{AreBytes, IsPointer, PointerLaw}
use Rattle.zs_sum.specs.Pointer.{place_bytes, head_bytes, bp_bytes, place_at, fields_of, has_pads, are_zeros, is_place, are_places, fault_of, unless, bp_of}
use Rattle.zs_sum.proofs.Fields.{zeros_are, two_spelled, eight_spelled, place_spelled, part_fits, part_length, joined}
use Rattle.zs_sum.proofs.Faultless.{passes, sector_fits, size_fits}

-- ---- what was written is read back

-- a place of which the bytes stand at the front
fields_again : (count level sectors birth : ℕ) (a b c : Place) (sum : List ℕ) → sectors < 2 ^ 16 → birth < 2 ^ 64
    → a.sector < 2 ^ 32 → b.sector < 2 ^ 32 → c.sector < 2 ^ 32 → length sum ≡ 32
    → (bp : Bp) → bp ≡ record { count = count; places = a ∷ b ∷ c ∷ []; sectors = sectors; birth = birth; level = level; sum = sum }
    → fields_of (bp_bytes bp) ≡ bp
unfolding fields_of bp_bytes head_bytes place_bytes place_at
fields_again count level sectors birth a b c sum size born in_a in_b in_c len bp is =
    let e0 = from_be_bytes-to_be_bytes_2 sectors size in
    let e1 = from_be_bytes-to_be_bytes_8 birth born in
    let e2 = from_be_bytes-to_be_bytes_4 a.sector in_a in
    let e3 = from_be_bytes-to_be_bytes_4 b.sector in_b in
    let e4 = from_be_bytes-to_be_bytes_4 c.sector in_c in
    let e5 : take 32 sum ≡ sum = take_all 32 sum (omega arith) in
    rw (is, e0, e1, e2, e3, e4, e5) refl

-- the zeros of a pointer's bytes
pads_again : (bp : Bp) (a b c : Place) → bp.places ≡ a ∷ b ∷ c ∷ [] → has_pads (bp_bytes bp) ≡ true
unfolding has_pads bp_bytes head_bytes place_bytes
pads_again bp a b c is = rw is refl

back_with : (bp : Bp) (places : List Place) → bp.places ≡ places → IsPointer bp → bp_of (bp_bytes bp) ≡ Ok bp
unfolding bp_of
back_with bp (a ∷ b ∷ c ∷ []) is whole =
    let tests = (passes true bp whole.in_range).1 in
    let three : are_places bp.count (a ∷ b ∷ c ∷ []) ≡ true = subst (λ (ps : List Place). are_places bp.count ps ≡ true) is tests.places in
    let first = and_parts (is_place (nat_lt 0 bp.count) a) (is_place (nat_lt 1 bp.count) b && is_place (nat_lt 2 bp.count) c) three in
    let others = and_parts (is_place (nat_lt 1 bp.count) b) (is_place (nat_lt 2 bp.count) c) first.1 in
    let fields = fields_again bp.count bp.level bp.sectors bp.birth a b c bp.sum (size_fits bp.sectors tests.size) whole.birth
    (sector_fits _ a first.0) (sector_fits _ b others.0) (sector_fits _ c others.1) whole.sum bp (ap (λ (ps : List Place). record bp { places = ps }) is) in
    rw (fields, pads_again bp a b c is, whole.in_range) refl
back_with bp places is whole = absurd (omega (arith, ap length is, whole.places))

pub back : (bp : Bp) → IsPointer bp → bp_of (bp_bytes bp) ≡ Ok bp
back bp is = back_with bp bp.places refl is

-- ---- what is read has the bytes

fields_are : (bytes : List ℕ) → length bytes ≡ 64 → AreBytes bytes → fault_of true (fields_of bytes) ≡ None → IsPointer (fields_of bytes)
unfolding fields_of
fields_are bytes len fits none =
    let part = part_fits 8 8 bytes fits in
    record {
      in_range = none;
      birth = omega (arith, part 0, part 1, part 2, part 3, part 4, part 5, part 6, part 7);
      places = refl;
      sum = part_length 32 32 bytes (omega arith);
    }

fields_spelled : (bytes : List ℕ) → length bytes ≡ 64 → AreBytes bytes → has_pads bytes ≡ true → bp_bytes (fields_of bytes) ≡ bytes
unfolding bp_bytes head_bytes place_bytes fields_of has_pads
fields_spelled bytes len fits pads =
    let parts = and_parts (are_zeros (take 4 (drop 4 bytes))) (get_or bytes 31 0 == 0) pads in
    let four : 0 ∷ 0 ∷ 0 ∷ 0 ∷ [] ≡ take 4 (drop 4 bytes) = sym (zeros_are (take 4 (drop 4 bytes)) parts.0 ∙ ap (λ (n : ℕ). replicate n 0) (part_length 4 4 bytes (omega arith))) in
    let pad : 0 ≡ get_or bytes 31 0 = sym (eqb-true (get_or bytes 31 0) 0 parts.1) in
    joined bytes _ _ _ _ _ _ _ 0 len (two_spelled 2 bytes (omega arith) fits) four (eight_spelled 8 bytes (omega arith) fits)
    (place_spelled 16 bytes (omega arith) fits) (place_spelled 21 bytes (omega arith) fits) (place_spelled 26 bytes (omega arith) fits) pad refl

whole : (fault : Option BpFault) (found bp : Bp) → unless fault found ≡ Ok bp → (fault ≡ None) × (found ≡ bp)
whole None found bp e = (refl, cc)
whole (Some fault) found bp e = absurd cc

pub spells : (bytes : List ℕ) (bp : Bp) → length bytes ≡ 64 → AreBytes bytes → bp_of bytes ≡ Ok bp → IsPointer bp × (bp_bytes bp ≡ bytes)
unfolding bp_of
spells bytes bp len fits e =
    let found = whole (fault_of (has_pads bytes) (fields_of bytes)) (fields_of bytes) bp e in
    let pads = (passes (has_pads bytes) (fields_of bytes) found.0).0 in
    let none : fault_of true (fields_of bytes) ≡ None = rw (← pads) found.0 in
    subst (λ (b : Bp). IsPointer b × (bp_bytes b ≡ bytes)) found.1 (fields_are bytes len fits none, fields_spelled bytes len fits pads)

pub pointer_law : PointerLaw
pointer_law = record { back = back; spells = spells }
