-- What the calls on a slot leave of a device, by the steps that they make.
use Rattle.std.proofs.Common.{◌≡◌, ◌≢◌, inl, inr, ℕ, zero, suc, ◌+◌, ◌*◌, ◌<◌, ◌≤◌, true, List, [], ◌∷◌, length, get_or, Some, option_map, sym, ◌∙◌, ap, subst, arith}
use Rattle.std.specs.Prelude.{Result, Ok, Err, IsErrAnd}
use Rattle.std.proofs.lemmas.Bool.Decides.{nat_tests}
use Rattle.std.proofs.lemmas.Bool.{cases_lt}
use Rattle.zs_io.specs.Told.{Told, Torn, over}
use Rattle.zs_lane.specs.Children.{DeviceView}
use Rattle.zs_lane.specs.declared.fault.LaneFault.{LaneFault}
use Rattle.zs_label.specs.Layout.{slot_of, body_at, gate_at, record_sectors}
use Rattle.zs_label.specs.Label.{label_bytes, is_valid}
use Rattle.zs_label.specs.Laws.{SaysLabel}
use Rattle.zs_label.specs.Steps.{Step, behind, AreDone, HaveStopped, AreMade}
use Rattle.zs_label.specs.Steps.Step.{Write, Sync}
use Rattle.zs_label.specs.Leaving.{Leaves, IsDurable, AreSame, IsOutside}
use Rattle.zs_label.specs.Slots.{IsLabelFor, IsClosed, IsFilled, HoldsLabel, IsUnfilled, IsElsewhere, IsOneOfThree, record_of, fill_steps}
use Rattle.zs_label.specs.declared.label.Label.{Label}
use Rattle.zs_label.proofs.Gates.{torn_same, same_both, same_less, one_byte, over_at, none_where_closed, gate_unfilled, filled_on, holds_open, filled_over}
use Rattle.zs_label.proofs.Moments.{leaves_more, leaves_both}

-- a fault that is handed on
pub handed : (steps : List Step) (r : Result ℕ LaneFault) (e : LaneFault) (a b : DeviceView) → IsErrAnd r (λ x. x ≡ e) → HaveStopped steps e a b → AreMade steps r a b
handed steps (Ok p) e a b err stopped = absurd err
handed steps (Err x) e a b err stopped = subst (λ (y : LaneFault). HaveStopped steps y a b) (sym err) stopped

-- the bytes that a device with a told content reads as, and its images
pub told_now : (steps : List Step) (place : ℕ) (a b : DeviceView) (x : List ℕ) → AreDone steps place a b → a.told ≡ Some x
    → b.told ≡ Some (behind steps x)
told_now steps place a b x done is = done.told ∙ ap (option_map (behind steps)) is

-- the byte of a gate that was written and synced
pub gate_is : (at value place : ℕ) (a b : DeviceView) → AreDone (Write at (value ∷ []) ∷ Sync ∷ []) place a b → IsDurable b → Told a.told (λ x. at < length x)
    → Told a.told (λ x. (c : List ℕ) → b.may_leave c → get_or c at 0 ≡ value)
gate_is at value place a b done durable fits x is c left =
    subst (λ (l : List ℕ). get_or l at 0 ≡ value) (sym (durable (over at (value ∷ []) x) (told_now _ place a b x done is) c left)) (over_at at value x (fits x is))

-- the record fits into its slot
within : (slot r n size : ℕ) → slot < 2 → n ≤ 512 * r → 512 * (8 + 2 * r) ≤ size → 512 * (8 + slot * r) + n ≤ size
within zero r n size few fits room = omega arith
within (suc zero) r n size few fits room = omega arith
within (suc (suc slot)) r n size few fits room = absurd (omega arith)

pub length_fits : (label : Label) → is_valid label ≡ true → label.length ≤ 512 * record_sectors label.blocks
unfolding is_valid
length_fits label valid = grind (arith, nat_tests)

pub fits_record : (dev : ℕ) (rec : List ℕ) (device : DeviceView) (label : Label) → IsLabelFor dev rec device label → record_of label + length rec ≤ device.size
fits_record dev rec device label for =
    let few : slot_of label.txg < 2 = omega arith in
    within (slot_of label.txg) (record_sectors label.blocks) (length rec) device.size few (omega (arith, length_fits label for.valid, for.long)) for.room

pub fits_slots : (dev : ℕ) (rec : List ℕ) (device : DeviceView) (label : Label) → IsLabelFor dev rec device label → 2048 ≤ device.size
fits_slots dev rec device label for = many (record_sectors label.blocks) device.size for.room
  where
    many : (r size : ℕ) → 512 * (8 + 2 * r) ≤ size → 2048 ≤ size
    many r size room = omega arith

-- what is not the gate
not_gate : (i at : ℕ) → i ≢ at → IsOutside at 1 i
not_gate i at other = elim (cases_lt i at) [
  | inl before ↦ inl before
  | inr from ↦ inr (after from)
]
  where
    after : at ≤ i → at + 1 ≤ i
    after le = omega (arith, other)

module _ (label : Label) (rec : List ℕ) where
  abbrev gate : ℕ
  gate = gate_at (slot_of label.txg)

  abbrev Elsewhere : List ℕ → List ℕ → Type 0
  Elsewhere = AreSame (IsElsewhere label rec)

  pub gate_else : (value : ℕ) (a b : DeviceView) → Leaves (Torn gate (value ∷ [])) a b → Leaves Elsewhere a b
  gate_else value a b one = leaves_more (Torn gate (value ∷ [])) Elsewhere a b
      (λ d c left torn. torn_same (IsElsewhere label rec) gate (value ∷ []) d c (λ i p. not_gate i gate p.0) torn) one

  pub fill_else : (a b : DeviceView) → Leaves (AreSame (IsUnfilled label rec)) a b → Leaves Elsewhere a b
  fill_else a b one = leaves_more (AreSame (IsUnfilled label rec)) Elsewhere a b
      (λ d c left same. same_less (IsUnfilled label rec) (IsElsewhere label rec) d c (λ i p. (p.1, p.2)) same) one

  pub else_twice : (a b c : DeviceView) → Leaves Elsewhere a b → Leaves Elsewhere b c → Leaves Elsewhere a c
  else_twice a b c one two = leaves_both Elsewhere Elsewhere Elsewhere a b c (λ d x left same. same)
      (λ d m x left here p q. same_both (IsElsewhere label rec) (IsElsewhere label rec) (IsElsewhere label rec) d m x (λ i r. r) (λ i r. r) p q) one two

  -- the two writes of a fill, by their lengths
  record_unfilled : (d c : List ℕ) → Torn (record_of label) rec d c → AreSame (IsUnfilled label rec) d c
  record_unfilled d c torn = torn_same (IsUnfilled label rec) (record_of label) rec d c (λ i p. p.1) torn

  body_unfilled : (body d c : List ℕ) → length body ≡ 512 → Torn (body_at (slot_of label.txg)) body d c → AreSame (IsUnfilled label rec) d c
  body_unfilled body d c long torn = torn_same (IsUnfilled label rec) (body_at (slot_of label.txg)) body d c
      (λ i p. subst (λ (n : ℕ). IsOutside (body_at (slot_of label.txg)) n i) (sym long) p.0) torn

  pub leaves_record : (a b : DeviceView) → Leaves (Torn (record_of label) rec) a b → Leaves (AreSame (IsUnfilled label rec)) a b
  leaves_record a b one = leaves_more (Torn (record_of label) rec) (AreSame (IsUnfilled label rec)) a b (λ d c left torn. record_unfilled d c torn) one

  pub leaves_fill : (body : List ℕ) (a b c : DeviceView) → length body ≡ 512 → Leaves (Torn (record_of label) rec) a b
      → Leaves (Torn (body_at (slot_of label.txg)) body) b c → Leaves (AreSame (IsUnfilled label rec)) a c
  leaves_fill body a b c long one two = leaves_both (Torn (record_of label) rec) (Torn (body_at (slot_of label.txg)) body) (AreSame (IsUnfilled label rec)) a b c
      (λ d x left torn. record_unfilled d x torn)
      (λ d m x left here p q. same_both (IsUnfilled label rec) (IsUnfilled label rec) (IsUnfilled label rec) d m x (λ i r. r) (λ i r. r)
      (record_unfilled d m p) (body_unfilled body m x long q)) one two

  -- a closed slot stays closed
  pub closed_on : (a b : DeviceView) → Leaves (AreSame (IsUnfilled label rec)) a b → ((c : List ℕ) → a.may_leave c → IsClosed (slot_of label.txg) c)
      → Leaves (λ d c. IsClosed (slot_of label.txg) c) a b
  closed_on a b one closed = leaves_more (AreSame (IsUnfilled label rec)) (λ d c. IsClosed (slot_of label.txg) c) a b
      (λ d c left same. same.same gate (gate_unfilled label rec) ∙ closed d left) one

  -- after a fill that was synced
  pub filled_now : (place : ℕ) (a b : DeviceView) → AreDone (fill_steps label rec) place a b → IsDurable b → Told a.told (λ x. record_of label + length rec ≤ length x)
      → length (label_bytes label) ≡ 512 → SaysLabel label (label_bytes label) → Told a.told (λ x. (c : List ℕ) → b.may_leave c → IsFilled label rec c)
  filled_now place a b done durable fits long says x is c left =
      subst (λ (l : List ℕ). IsFilled label rec l) (sym (durable _ (told_now (fill_steps label rec) place a b x done is) c left)) (filled_over label rec x long says (fits x is))

  -- what the slot is while it is closed
  pub three_close : (a b : DeviceView) → Leaves (Torn gate (0 ∷ [])) a b → Leaves (IsOneOfThree label rec) a b
  three_close a b one = leaves_more (Torn gate (0 ∷ [])) (IsOneOfThree label rec) a b (λ d c left torn. elim (one_byte gate 0 d c torn) [
    | inl same ↦ inl same
    | inr closed ↦ inr (inl (none_where_closed (slot_of label.txg) c closed))
  ]) one

  -- while a closed slot is filled
  pub three_fill : (a b c : DeviceView) → Leaves (IsOneOfThree label rec) a b → Leaves (λ d x. IsClosed (slot_of label.txg) x) b c → Leaves (IsOneOfThree label rec) a c
  three_fill a b c one two = leaves_both (IsOneOfThree label rec) (λ d x. IsClosed (slot_of label.txg) x) (IsOneOfThree label rec) a b c (λ d x left three. three)
      (λ d m x left here p closed. inr (inl (none_where_closed (slot_of label.txg) x closed))) one two

  -- and while it is opened
  pub three_open : (a b c : DeviceView) → Leaves (IsOneOfThree label rec) a b → ((m : List ℕ) → b.may_leave m → IsClosed (slot_of label.txg) m)
      → ((m : List ℕ) → b.may_leave m → IsFilled label rec m) → Leaves (Torn gate (1 ∷ [])) b c → Leaves (IsOneOfThree label rec) a c
  three_open a b c one closed filled two = leaves_both (IsOneOfThree label rec) (Torn gate (1 ∷ [])) (IsOneOfThree label rec) a b c (λ d x left three. three)
      (λ d m x left here p torn. elim (one_byte gate 1 m x torn) [
        | inl same ↦ inr (inl (none_where_closed (slot_of label.txg) x (ap (λ (l : List ℕ). get_or l gate 0) same ∙ closed m here)))
        | inr open_is ↦ inr (inr (holds_open label rec x (filled_on label rec 1 m x torn (filled m here)) open_is))
      ]) one two

  -- after an opening that was synced
  pub opened_now : (slot : ℕ) (a b : DeviceView) → slot_of label.txg ≡ slot → Leaves (Torn (gate_at slot) (1 ∷ [])) a b
      → Told a.told (λ x. (c : List ℕ) → b.may_leave c → get_or c (gate_at slot) 0 ≡ 1)
      → ((c : List ℕ) → a.may_leave c → IsFilled label rec c) → Told a.told (λ x. (c : List ℕ) → b.may_leave c → HoldsLabel label rec c)
  opened_now slot a b here one open_is filled x is c left =
      let from = one.now c left in
      let torn : Torn gate (1 ∷ []) from.0 c = subst (λ (s : ℕ). Torn (gate_at s) (1 ∷ []) from.0 c) (sym here) from.2 in
      let one_there : get_or c gate 0 ≡ 1 = subst (λ (s : ℕ). get_or c (gate_at s) 0 ≡ 1) (sym here) (open_is x is c left) in
      holds_open label rec c (filled_on label rec 1 from.0 c torn (filled from.0 from.1)) one_there
