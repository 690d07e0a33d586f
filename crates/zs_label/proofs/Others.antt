-- What is the same outside of a slot, its gate and its record, has the same other slot and the same space.
use Rattle.std.proofs.Common.{◌≡◌, ◌≢◌, inl, inr, ℕ, zero, suc, ◌+◌, ◌-◌, ◌*◌, ◌<◌, ◌≤◌, true, List, [], ◌∷◌, length, drop, get_or, length-take, length-drop, refl, sym, ◌∙◌, arith}
use Rattle.std.specs.Prelude.{slice_range}
use Rattle.std.proofs.lemmas.List.{get_or-take, get_or-drop}
use Rattle.zs_label.specs.Layout.{slot_of, body_at, gate_at, record_sectors}
use Rattle.zs_label.specs.Label.{is_valid, body_of, label_of}
use Rattle.zs_label.specs.Leaving.{AreSame, IsOutside}
use Rattle.zs_label.specs.Slots.{IsElsewhere}
use Rattle.zs_label.specs.Rest.{other_slot, KeepsRest}
use Rattle.zs_label.specs.declared.label.Label.{Label}
use Rattle.zs_label.proofs.Puts.{length_fits}

-- lists with the same elements
alike : (x y : List ℕ) → length x ≡ length y → ((i : ℕ) → i < length x → get_or x i 0 ≡ get_or y i 0) → x ≡ y
alike [] [] long same = refl
alike [] (b ∷ y) long same = absurd (omega arith)
alike (a ∷ x) [] long same = absurd (omega arith)
alike (a ∷ x) (b ∷ y) long same = pair (same 0 (omega arith)) (alike x y (omega arith) (λ i lt. same (suc i) (omega arith)))
  where
    pair : a ≡ b → x ≡ y → a ∷ x ≡ b ∷ y
    pair p q = rw (p, q) refl

drop_alike : (n : ℕ) (c d : List ℕ) → length c ≡ length d → ((i : ℕ) → n ≤ i → get_or c i 0 ≡ get_or d i 0) → drop n c ≡ drop n d
drop_alike n c d long same = alike (drop n c) (drop n d) (omega (arith, long, length-drop n c, length-drop n d))
    (λ i lt. get_or-drop n c i 0 ∙ same (n + i) (omega arith) ∙ sym (get_or-drop n d i 0))

part_alike : (a b : ℕ) (c d : List ℕ) → length c ≡ length d → ((i : ℕ) → a ≤ i → i < b → get_or c i 0 ≡ get_or d i 0) → slice_range c a b ≡ slice_range d a b
part_alike a b c d long same = alike (slice_range c a b) (slice_range d a b)
    (omega (arith, long, length-take (b - a) (drop a c), length-take (b - a) (drop a d), length-drop a c, length-drop a d))
    (λ i lt. at i (omega (arith, lt, length-take (b - a) (drop a c))))
  where
    at : (i : ℕ) → i < b - a → get_or (slice_range c a b) i 0 ≡ get_or (slice_range d a b) i 0
    at i lt = get_or-take (b - a) (drop a c) i 0 lt ∙ get_or-drop a c i 0 ∙ same (a + i) (omega arith) (omega arith)
        ∙ sym (get_or-drop a d i 0) ∙ sym (get_or-take (b - a) (drop a d) i 0 lt)

-- by the slot's number and the size of a record
module _ (slot r n : ℕ) (few : slot < 2) (fits : n ≤ 512 * r) where
  far : (s : ℕ) → 4096 ≤ 512 * (8 + s * r)
  far s = many (s * r)
    where
      many : (k : ℕ) → 4096 ≤ 512 * (8 + k)
      many k = omega arith

  low : (i at : ℕ) → i < 2048 → 4096 ≤ at → IsOutside at n i
  low i at lt le = inl (omega arith)

other_gate : (slot r n : ℕ) → slot < 2 → n ≤ 512 * r → (gate_at (1 - slot) ≢ gate_at slot) × IsOutside (body_at slot) 512 (gate_at (1 - slot)) × IsOutside (512 * (8 + slot * r)) n (gate_at (1 - slot))
other_gate zero r n few fits = ((λ is. omega arith), inr (omega arith), inl (omega (arith, far zero r n few fits zero)))
other_gate (suc zero) r n few fits = ((λ is. omega arith), inl (omega arith), inl (omega (arith, far (suc zero) r n few fits (suc zero))))
other_gate (suc (suc slot)) r n few fits = absurd (omega arith)

other_body : (slot r n i : ℕ) → slot < 2 → n ≤ 512 * r → body_at (1 - slot) ≤ i → i < body_at (1 - slot) + 512
    → (i ≢ gate_at slot) × IsOutside (body_at slot) 512 i × IsOutside (512 * (8 + slot * r)) n i
other_body zero r n i few fits from to = ((λ is. omega arith), inr (omega arith), inl (omega (arith, far zero r n few fits zero)))
other_body (suc zero) r n i few fits from to = ((λ is. omega arith), inl (omega arith), inl (omega (arith, far (suc zero) r n few fits (suc zero))))
other_body (suc (suc slot)) r n i few fits from to = absurd (omega arith)

other_record : (slot r n i : ℕ) → slot < 2 → n ≤ 512 * r → 512 * (8 + (1 - slot) * r) ≤ i → i < 512 * (8 + (1 - slot) * r) + 512 * r
    → (i ≢ gate_at slot) × IsOutside (body_at slot) 512 i × IsOutside (512 * (8 + slot * r)) n i
other_record zero r n i few fits from to = ((λ is. omega (arith, one)), inr (omega (arith, one)), inr (omega (arith, one)))
  where
    one : 512 * (8 + r) ≤ i
    one = omega arith
other_record (suc zero) r n i few fits from to = ((λ is. omega (arith, none)), inr (omega (arith, none)), inl (omega (arith, none)))
  where
    none : (4096 ≤ i) × (i < 512 * (8 + 1 * r))
    none = (omega arith, omega arith)
other_record (suc (suc slot)) r n i few fits from to = absurd (omega arith)

in_space : (slot r n i : ℕ) → slot < 2 → n ≤ 512 * r → 512 * (8 + 2 * r) ≤ i → (i ≢ gate_at slot) × IsOutside (body_at slot) 512 i × IsOutside (512 * (8 + slot * r)) n i
in_space zero r n i few fits from = ((λ is. omega arith), inr (omega arith), inr (omega arith))
in_space (suc zero) r n i few fits from = ((λ is. omega arith), inr (omega arith), inr (omega arith))
in_space (suc (suc slot)) r n i few fits from = absurd (omega arith)

same_label : (slot : ℕ) (c d : List ℕ) → get_or c (gate_at slot) 0 ≡ get_or d (gate_at slot) 0 → body_of slot c ≡ body_of slot d → label_of slot c ≡ label_of slot d
unfolding label_of
same_label slot c d gate body = rw (gate, body) refl

pub rest_stays : (label : Label) (rec d c : List ℕ) → is_valid label ≡ true → label.length ≡ length rec → AreSame (IsElsewhere label rec) d c → KeepsRest label d c
rest_stays label rec d c valid long same =
    let slot : ℕ = slot_of label.txg in
    let r : ℕ = record_sectors label.blocks in
    let few : slot_of label.txg < 2 = omega arith in
    let fits : length rec ≤ 512 * record_sectors label.blocks = omega (arith, length_fits label valid, long) in
    record {
      slot = same_label (other_slot label) c d (same.same (gate_at (other_slot label)) (other_gate (slot_of label.txg) (record_sectors label.blocks) (length rec) few fits))
          (part_alike (body_at (other_slot label)) (body_at (other_slot label) + 512) c d same.long
          (λ i from to. same.same i (other_body (slot_of label.txg) (record_sectors label.blocks) (length rec) i few fits from to)));
      stands = part_alike _ _ c d same.long
          (λ i from to. same.same i (other_record (slot_of label.txg) (record_sectors label.blocks) (length rec) i few fits from to));
      space = drop_alike _ c d same.long (λ i from. same.same i (in_space (slot_of label.txg) (record_sectors label.blocks) (length rec) i few fits from));
    }
