-- A slot in an image before and after a write that a crash may cut short.
use Rattle.std.proofs.Common.{◌≡◌, ◌⊎◌, inl, inr, ℕ, zero, suc, ◌+◌, ◌-◌, ◌*◌, ◌<◌, ◌≤◌, true, false, List, [], ◌∷◌, ◌++◌, length, take, drop, get_or, length-take, length-append, None, refl, sym, ◌∙◌, ap, subst, arith}
use Rattle.std.specs.Prelude.{slice_range, ◌==◌}
use Rattle.std.proofs.lemmas.List.{get_or-take, get_or-drop, get_or_append_left, take-append-drop}
use Rattle.std.proofs.Math.Seq.{get_or-append_seam}
use Rattle.std.proofs.Math.Numerals.{add-one}
use Rattle.std.proofs.lemmas.Bool.Decides.{nat_tests}
use Rattle.zs_io.specs.Told.{Torn, over}
use Rattle.zs_io.specs.Ranges.{torn_before, torn_after, over_reads, over_torn}
use Rattle.zs_label.specs.Layout.{slot_of, body_at, gate_at, record_sectors}
use Rattle.zs_label.specs.Label.{label_bytes, body_of, label_of}
use Rattle.zs_label.specs.Laws.{SaysLabel}
use Rattle.zs_label.specs.Leaving.{AreSame, IsOutside}
use Rattle.zs_label.specs.Slots.{IsClosed, IsFilled, HoldsLabel, IsUnfilled, record_of}
use Rattle.zs_label.specs.declared.label.Label.{Label}
use Rattle.zs_label.proofs.Bodies.{none_closed, finds_open}

-- a byte outside of the range that was written
pub torn_outside : (at : ℕ) (bytes d c : List ℕ) (i : ℕ) → Torn at bytes d c → IsOutside at (length bytes) i → get_or c i 0 ≡ get_or d i 0
torn_outside at bytes d c i torn (inl before) =
    sym (get_or-take at c i 0 before) ∙ ap (λ (l : List ℕ). get_or l i 0) torn.before ∙ get_or-take at d i 0 before
torn_outside at bytes d c i torn (inr after) =
    let n = at + length bytes in
    let is : n + (i - n) ≡ i = omega arith in
    ap (λ (k : ℕ). get_or c k 0) (sym is) ∙ sym (get_or-drop n c (i - n) 0) ∙ ap (λ (l : List ℕ). get_or l (i - n) 0) torn.after
    ∙ get_or-drop n d (i - n) 0 ∙ ap (λ (k : ℕ). get_or d k 0) is

-- a write changes nothing outside of its range
pub torn_same : (P : ℕ → Type 0) (at : ℕ) (bytes d c : List ℕ) → ((i : ℕ) → P i → IsOutside at (length bytes) i) → Torn at bytes d c → AreSame P d c
torn_same P at bytes d c outside torn = record { long = torn.long; same = λ i p. torn_outside at bytes d c i torn (outside i p) }

pub same_both : (P Q R : ℕ → Type 0) (d m c : List ℕ) → ((i : ℕ) → R i → P i) → ((i : ℕ) → R i → Q i) → AreSame P d m → AreSame Q m c → AreSame R d c
same_both P Q R d m c p q one two = record {
  long = two.long ∙ one.long;
  same = λ i r. two.same i (q i r) ∙ one.same i (p i r);
}

pub same_less : (P R : ℕ → Type 0) (d c : List ℕ) → ((i : ℕ) → R i → P i) → AreSame P d c → AreSame R d c
same_less P R d c p one = record { long = one.long; same = λ i r. one.same i (p i r) }

pub same_none : (P : ℕ → Type 0) (d c : List ℕ) → c ≡ d → AreSame P d c
same_none P d c is = record { long = ap length is; same = λ i p. ap (λ (l : List ℕ). get_or l i 0) is }

-- an image whose one written byte is as before is the same image
rest_of : (xs : List ℕ) (i : ℕ) (ys : List ℕ) → length ys ≡ length xs → get_or xs i 0 ≡ get_or ys i 0 → drop (suc i) xs ≡ drop (suc i) ys → drop i xs ≡ drop i ys
rest_of [] i [] long same rest = refl
rest_of [] i (y ∷ ys) long same rest = absurd (omega arith)
rest_of (x ∷ xs) i [] long same rest = absurd (omega arith)
rest_of (x ∷ xs) zero (y ∷ ys) long same rest = pair same rest
  where
    pair : x ≡ y → xs ≡ ys → x ∷ xs ≡ y ∷ ys
    pair p q = rw (p, q) refl
rest_of (x ∷ xs) (suc i) (y ∷ ys) long same rest = rest_of xs i ys (omega arith) same rest

same_image : (at value : ℕ) (d c : List ℕ) → Torn at (value ∷ []) d c → get_or c at 0 ≡ get_or d at 0 → c ≡ d
same_image at value d c torn same =
    sym (take-append-drop at c) ∙ ap (λ (l : List ℕ). l ++ drop at c) torn.before ∙ ap (λ (l : List ℕ). take at d ++ l) (rest_of c at d (sym torn.long) same (subst (λ (n : ℕ). drop n c ≡ drop n d) (add-one at) torn.after))
    ∙ take-append-drop at d

-- a write of one byte leaves the image as it was, or the byte there
pub one_byte : (at value : ℕ) (d c : List ℕ) → Torn at (value ∷ []) d c → (c ≡ d) ⊎ (get_or c at 0 ≡ value)
one_byte at value d c torn = elim (torn.single refl) [
  | inl old ↦ inl (same_image at value d c torn old)
  | inr new ↦ inr new
]

-- the byte that was written is there
pub over_at : (at value : ℕ) (b : List ℕ) → at < length b → get_or (over at (value ∷ []) b) at 0 ≡ value
over_at at value b lt =
    let front : length (take at b) ≡ at = omega (arith, length-take at b) in
    let last : get_or (take at b ++ value ∷ []) (length (take at b)) 0 ≡ value = get_or-append_seam (take at b) value [] 0 in
    get_or_append_left (take at b ++ value ∷ []) (drop (at + 1) b) 0 at (omega (arith, front, length-append (take at b) (value ∷ [])))
    ∙ subst (λ (k : ℕ). get_or (take at b ++ value ∷ []) k 0 ≡ value) front last

closed_test : (x : ℕ) → x ≡ 0 → (x == 1) ≡ false
closed_test x is = grind (arith, nat_tests)

open_test : (x : ℕ) → x ≡ 1 → (x == 1) ≡ true
open_test x is = grind (arith, nat_tests)

-- a slot whose gate is 0 has no label
pub none_where_closed : (slot : ℕ) (c : List ℕ) → IsClosed slot c → label_of slot c ≡ None
none_where_closed slot c closed = none_closed slot c (closed_test (get_or c (gate_at slot) 0) closed)

slot_few : (t : ℕ) → slot_of t < 2
slot_few t = omega arith

behind_slots : (label : Label) → 4096 ≤ record_of label
behind_slots label = many (slot_of label.txg * record_sectors label.blocks)
  where
    many : (n : ℕ) → 4096 ≤ 512 * (8 + n)
    many n = omega arith

-- the gate of a slot is neither in its body nor in its record
pub gate_unfilled : (label : Label) (rec : List ℕ) → IsUnfilled label rec (gate_at (slot_of label.txg))
gate_unfilled label rec =
    let far = behind_slots label in
    let few = slot_few label.txg in
    (inr (omega arith), inl (gate_before (slot_of label.txg) (record_of label) few far))
  where
    gate_before : (slot at : ℕ) → slot < 2 → 4096 ≤ at → gate_at slot < at
    gate_before slot at few far = omega arith

-- a filled slot whose gate is then written is still filled
pub filled_on : (label : Label) (rec : List ℕ) (value : ℕ) (d c : List ℕ) → Torn (gate_at (slot_of label.txg)) (value ∷ []) d c → IsFilled label rec d → IsFilled label rec c
filled_on label rec value d c torn filled =
    let few = slot_few label.txg in
    let far = behind_slots label in
    let slot = slot_of label.txg in
    let at = record_of label in
    let body : body_of slot c ≡ body_of slot d = torn_before (gate_at slot) (value ∷ []) d c (body_at slot) (body_at slot + 512) torn (omega arith) in
    let record_same : slice_range c at (at + length rec) ≡ slice_range d at (at + length rec) =
    torn_after (gate_at slot) (value ∷ []) d c at (at + length rec) torn (gate_far slot at few far) in
    record { says = subst (λ (b : List ℕ). SaysLabel label b) (sym body) filled.says; stands = record_same ∙ filled.stands }
  where
    gate_far : (slot at : ℕ) → slot < 2 → 4096 ≤ at → gate_at slot + 1 ≤ at
    gate_far slot at few far = omega arith

-- a filled slot with an open gate has the label
pub holds_open : (label : Label) (rec c : List ℕ) → IsFilled label rec c → get_or c (gate_at (slot_of label.txg)) 0 ≡ 1 → HoldsLabel label rec c
holds_open label rec c filled open_is =
    record { found = finds_open label c (open_test (get_or c (gate_at (slot_of label.txg)) 0) open_is) filled.says; stands = filled.stands }

-- what was written over the bytes is the filled slot
pub filled_over : (label : Label) (rec b : List ℕ) → length (label_bytes label) ≡ 512 → SaysLabel label (label_bytes label)
    → record_of label + length rec ≤ length b → IsFilled label rec (over (body_at (slot_of label.txg)) (label_bytes label) (over (record_of label) rec b))
filled_over label rec b long says fits =
    let few = slot_few label.txg in
    let far = behind_slots label in
    let slot = slot_of label.txg in
    let at = record_of label in
    let mid : List ℕ = over at rec b in
    let mid_long : length mid ≡ length b = (over_torn at rec b fits).long in
    let body_fits : body_at slot + length (label_bytes label) ≤ length mid = body_within slot at (length (label_bytes label)) (length mid) (length rec) (length b) few far long fits mid_long in
    let body : body_of slot (over (body_at slot) (label_bytes label) mid) ≡ label_bytes label =
    ap (λ (n : ℕ). slice_range (over (body_at slot) (label_bytes label) mid) (body_at slot) (body_at slot + n)) (sym long)
    ∙ over_reads (body_at slot) (label_bytes label) mid body_fits in
    let stands : slice_range (over (body_at slot) (label_bytes label) mid) at (at + length rec) ≡ rec =
    torn_after (body_at slot) (label_bytes label) mid (over (body_at slot) (label_bytes label) mid) at (at + length rec)
    (over_torn (body_at slot) (label_bytes label) mid body_fits) (body_before slot at (length (label_bytes label)) few far long)
    ∙ over_reads at rec b fits in
    record { says = subst (λ (x : List ℕ). SaysLabel label x) (sym body) says; stands = stands }
  where
    body_within : (slot at n m r l : ℕ) → slot < 2 → 4096 ≤ at → n ≡ 512 → at + r ≤ l → m ≡ l → body_at slot + n ≤ m
    body_within slot at n m r l few far long fits same = omega arith

    body_before : (slot at n : ℕ) → slot < 2 → 4096 ≤ at → n ≡ 512 → body_at slot + n ≤ at
    body_before slot at n few far long = omega arith
