-- Ranges of bytes before and after a write.
use Rattle.std.proofs.Common.{◌≡◌, inl, inr, ℕ, ◌+◌, ◌-◌, ◌≤◌, List, ◌++◌, length, take, drop, refl, sym, ◌∙◌, ap, subst, arith, length-take, append_assoc}
use Rattle.std.specs.List.{slice_range}
use Rattle.std.proofs.lemmas.List.{take_all, take_at, drop_at, take-take, drop-take, drop-drop}
use Rattle.std.proofs.lemmas.Bool.{cases_lt}
use Rattle.zs_io.specs.Told.{Torn, over}
use Rattle.zs_io.specs.Calls.{overlaid}
use Rattle.zs_io.specs.CallLaws.{overlaid_torn, overlaid_over}

-- a write within the bytes does to them what it may do to an image: it changes nothing outside of its range
pub over_torn : (at : ℕ) (bytes old : List ℕ) → at + length bytes ≤ length old → Torn at bytes old (over at bytes old)
over_torn at bytes old fits =
    let whole : overlaid at (take (length bytes) bytes) old ≡ over at bytes old =
    ap (λ (l : List ℕ). overlaid at l old) (take_all (length bytes) bytes (omega arith)) ∙ overlaid_over at bytes old fits in
    subst (λ (l : List ℕ). Torn at bytes old l) whole (overlaid_torn at bytes (length bytes) old)

-- a part that ends at or before n is the same in what has the same first n
pub part_before : (x y : List ℕ) (i j n : ℕ) → take n x ≡ take n y → j ≤ n → slice_range x i j ≡ slice_range y i j
part_before x y i j n same le = elim (cases_lt j i) [
  | inl none ↦
      let zero_long : j - i ≡ 0 = omega arith in
      ap (λ (k : ℕ). take k (drop i x)) zero_long ∙ sym (ap (λ (k : ℕ). take k (drop i y)) zero_long)
  | inr some ↦ at_end x some ∙ ap (λ (l : List ℕ). drop i (take j l)) same ∙ sym (at_end y some)
]
  where
    at_end : (z : List ℕ) → i ≤ j → slice_range z i j ≡ drop i (take j (take n z))
    at_end z some =
        let m = j - i in
        let is : i + m ≡ j = omega arith in
        sym (drop-take i m z) ∙ ap (λ (k : ℕ). drop i (take k z)) is ∙ ap (λ (l : List ℕ). drop i l) (sym (take-take j n z le))

-- a part that begins at or after n is the same in what has the same from n on
pub part_after : (x y : List ℕ) (i j n : ℕ) → drop n x ≡ drop n y → n ≤ i → slice_range x i j ≡ slice_range y i j
part_after x y i j n same le = part x ∙ ap (λ (l : List ℕ). take (j - i) (drop (i - n) l)) same ∙ sym (part y)
  where
    part : (z : List ℕ) → slice_range z i j ≡ take (j - i) (drop (i - n) (drop n z))
    part z =
        let is : n + (i - n) ≡ i = omega arith in
        ap (λ (k : ℕ). take (j - i) (drop k z)) (sym is) ∙ ap (λ (l : List ℕ). take (j - i) l) (sym (drop-drop (i - n) n z))

-- a write that is torn leaves each part outside of its range
pub torn_before : (at : ℕ) (bytes old new : List ℕ) (i j : ℕ) → Torn at bytes old new → j ≤ at → slice_range new i j ≡ slice_range old i j
torn_before at bytes old new i j torn le = part_before new old i j at torn.before le

pub torn_after : (at : ℕ) (bytes old new : List ℕ) (i j : ℕ) → Torn at bytes old new → at + length bytes ≤ i
    → slice_range new i j ≡ slice_range old i j
torn_after at bytes old new i j torn le = part_after new old i j (at + length bytes) torn.after le

-- the bytes that were written are read back
pub over_reads : (at : ℕ) (bytes old : List ℕ) → at + length bytes ≤ length old → slice_range (over at bytes old) at (at + length bytes) ≡ bytes
over_reads at bytes old fits =
    let many : at + length bytes - at ≡ length bytes = omega arith in
    let front : length (take at old) ≡ at = omega (arith, length-take at old) in
    ap (λ (k : ℕ). take k (drop at (over at bytes old))) many
    ∙ ap (λ (l : List ℕ). take (length bytes) l) (drop_behind front)
    ∙ take_at bytes (drop (at + length bytes) old) (length bytes) refl
  where
    drop_behind : length (take at old) ≡ at → drop at (over at bytes old) ≡ bytes ++ drop (at + length bytes) old
    drop_behind front =
        ap (λ (l : List ℕ). drop at l) (append_assoc (take at old) bytes (drop (at + length bytes) old))
        ∙ drop_at (take at old) (bytes ++ drop (at + length bytes) old) at front
