-- A body that is read as a label is the bytes of that label.
use Rattle.std.proofs.Common.{◌≡◌, ℕ, zero, suc, ◌+◌, ◌-◌, ◌%◌, ◌<◌, ◌≤◌, inl, inr, Bool, true, false, List, [], ◌∷◌, ◌++◌, length, drop, replicate, get_or, length-take, length-drop, refl, sym, ◌∙◌, ap, subst, arith}
use Rattle.std.specs.Prelude.{codes, ◌==◌, ◌&&◌, Some, None, slice_range, if◌then◌else◌}
use Rattle.std.specs.List.{list_all}
use Rattle.std.specs.Cmp.Lexicographic.{same_text}
use Rattle.std.proofs.lemmas.Bool.{and_parts, eqb-true, cases_lt}
use Rattle.std.proofs.lemmas.List.{take-append-drop, drop-drop, take_all}
use Rattle.std.proofs.lemmas.List.Elements.{All-take, All-drop}
use Rattle.std.proofs.lemmas.Nat.{be_bytes_4, be_bytes_8}
use Rattle.byteorder.specs.Endian.{big_bytes, big_number}
use Rattle.zs_io.specs.Told.{AreBytes}
use Rattle.zs_label.specs.Layout.{SLOTS, slot_of, body_at}
use Rattle.zs_label.specs.Label.{label_bytes, field, fields_of, has_magic, version_of, has_zeros, is_valid, is_label, is_open, body_of, label_of}
use Rattle.zs_label.specs.Laws.{SaysLabel}
use Rattle.zs_label.specs.declared.label.Label.{Label}

-- what stands from a on is the part up to b, and what stands from there on
cut : (a n b : ℕ) (xs : List ℕ) → a + n ≡ b → slice_range xs a b ++ drop b xs ≡ drop a xs
cut a n b xs is =
    let many : b - a ≡ n = omega arith in
    let rest : drop b xs ≡ drop (b - a) (drop a xs) = ap (λ (k : ℕ). drop k xs) (sym is) ∙ sym (drop-drop n a xs) ∙ ap (λ (k : ℕ). drop k (drop a xs)) (sym many) in
    ap (λ (l : List ℕ). slice_range xs a b ++ l) rest ∙ take-append-drop (b - a) (drop a xs)

-- each number of a list of bytes is below 256, and so is what is read past its end
byte_of : (xs : List ℕ) → AreBytes xs → (i : ℕ) → get_or xs i 0 < 256
byte_of xs are i = elim (cases_lt i (length xs)) [
  | inl here ↦ are i 0 here
  | inr past ↦ beyond xs i past
]
  where
    beyond : (ys : List ℕ) (k : ℕ) → length ys ≤ k → get_or ys k 0 < 256
    beyond [] k le = omega arith
    beyond (y ∷ ys) zero le = absurd (omega arith)
    beyond (y ∷ ys) (suc k) le = beyond ys k (omega arith)

part_bytes : (xs : List ℕ) (a b : ℕ) → AreBytes xs → AreBytes (slice_range xs a b)
part_bytes xs a b are = All-take (λ x. x < 256) (b - a) (drop a xs) (All-drop (λ x. x < 256) a xs are)

part_long : (xs : List ℕ) (a n : ℕ) → a + n ≤ length xs → length (slice_range xs a (a + n)) ≡ n
part_long xs a n fits = omega (arith, length-take (a + n - a) (drop a xs), length-drop a xs)

four_spelled : (xs : List ℕ) → length xs ≡ 4 → AreBytes xs → big_bytes 4 (big_number 4 xs) ≡ xs
four_spelled xs long are = be_bytes_4 xs (big_number 4 xs) long (byte_of xs are) (omega arith)

eight_spelled : (xs : List ℕ) → length xs ≡ 8 → AreBytes xs → big_bytes 8 (big_number 8 xs) ≡ xs
eight_spelled xs long are = be_bytes_8 xs (big_number 8 xs) long (byte_of xs are) (omega arith)

all_zero : (xs : List ℕ) (n : ℕ) → length xs ≡ n → list_all (λ b. b == 0) xs ≡ true → replicate n 0 ≡ xs
all_zero [] zero long all = refl
all_zero [] (suc n) long all = absurd (omega arith)
all_zero (x ∷ xs) zero long all = absurd (omega arith)
all_zero (x ∷ xs) (suc n) long all =
    let parts = and_parts (x == 0) (list_all (λ b. b == 0) xs) all in
    let first : 0 ≡ x = sym (eqb-true x 0 parts.0) in
    let rest : replicate n 0 ≡ xs = all_zero xs n (omega arith) parts.1 in
    rw (rest, first) refl

-- the parts of a body, one behind the other
abbrev joined : List ℕ → List ℕ → List ℕ → List ℕ → List ℕ → List ℕ → List ℕ → List ℕ → List ℕ → List ℕ → List ℕ → List ℕ → List ℕ → List ℕ → List ℕ
joined a b c d e f g h i j k l m n = a ++ (b ++ (c ++ (d ++ (e ++ (f ++ (g ++ (h ++ (i ++ (j ++ (k ++ (l ++ (m ++ n))))))))))))

joined_same : {a b c d e f g h i j k l m n a' b' c' d' e' f' g' h' i' j' k' l' m' n' : List ℕ} → a ≡ a' → b ≡ b' → c ≡ c' → d ≡ d' → e ≡ e' → f ≡ f' → g ≡ g'
    → h ≡ h' → i ≡ i' → j ≡ j' → k ≡ k' → l ≡ l' → m ≡ m' → n ≡ n' → joined a b c d e f g h i j k l m n ≡ joined a' b' c' d' e' f' g' h' i' j' k' l' m' n'
joined_same pa pb pc pd pe pf pg ph pi pj pk pl pm pn = rw (pa, pb, pc, pd, pe, pf, pg, ph, pi, pj, pk, pl, pm, pn) refl

whole : (body : List ℕ) → joined (slice_range body 0 8) (slice_range body 8 12) (slice_range body 12 16) (slice_range body 16 24) (slice_range body 24 28)
    (slice_range body 28 32) (slice_range body 32 36) (slice_range body 36 40) (slice_range body 40 44) (slice_range body 44 48) (slice_range body 48 56)
    (slice_range body 56 64) (slice_range body 64 96) (drop 96 body) ≡ body
whole body = rw (
  cut 64 32 96 body refl,
  cut 56 8 64 body refl,
  cut 48 8 56 body refl,
  cut 44 4 48 body refl,
  cut 40 4 44 body refl,
  cut 36 4 40 body refl,
  cut 32 4 36 body refl,
  cut 28 4 32 body refl,
  cut 24 4 28 body refl,
  cut 16 8 24 body refl,
  cut 12 4 16 body refl,
  cut 8 4 12 body refl,
  cut 0 8 8 body refl,
) refl

module _ (body : List ℕ) (long : length body ≡ 512) (are : AreBytes body) where
  four_at : (at : ℕ) → at + 4 ≤ 512 → big_bytes 4 (field 4 at body) ≡ slice_range body at (at + 4)
  four_at at fits = four_spelled (slice_range body at (at + 4)) (part_long body at 4 (omega arith)) (part_bytes body at (at + 4) are)

  eight_at : (at : ℕ) → at + 8 ≤ 512 → big_bytes 8 (field 8 at body) ≡ slice_range body at (at + 8)
  eight_at at fits = eight_spelled (slice_range body at (at + 8)) (part_long body at 8 (omega arith)) (part_bytes body at (at + 8) are)

  version_is : (version_of body == 1) ≡ true → big_bytes 4 1 ≡ slice_range body 8 12
  version_is one = ap (λ (v : ℕ). big_bytes 4 v) (sym (eqb-true (version_of body) 1 one)) ∙ four_at 8 (omega arith)

  zeros_end : list_all (λ b. b == 0) (slice_range body 96 512) ≡ true → replicate 416 0 ≡ drop 96 body
  zeros_end all =
      let rest : length (drop 96 body) ≡ 416 = omega (arith, length-drop 96 body) in
      let same : slice_range body 96 512 ≡ drop 96 body = take_all 416 (drop 96 body) (omega arith) in
      all_zero (drop 96 body) 416 rest (subst (λ (x : List ℕ). list_all (λ b. b == 0) x ≡ true) same all)

  zeros_mid : list_all (λ b. b == 0) (slice_range body 56 64) ≡ true → replicate 8 0 ≡ slice_range body 56 64
  zeros_mid all = all_zero (slice_range body 56 64) 8 (part_long body 56 8 (omega arith)) all

  pub body_spelled : has_magic body ≡ true → (version_of body == 1) ≡ true → has_zeros body ≡ true → label_bytes (fields_of body) ≡ body
  unfolding label_bytes fields_of
  body_spelled magic version zeros =
      let both = and_parts (list_all (λ b. b == 0) (slice_range body 56 64)) (list_all (λ b. b == 0) (slice_range body 96 512)) zeros in
      joined_same (sym (same_text (slice_range body 0 8) (codes "ZSCANLAB") (sym magic))) (version_is version) (four_at 12 (omega arith)) (eight_at 16 (omega arith))
      (four_at 24 (omega arith)) (four_at 28 (omega arith)) (four_at 32 (omega arith)) (four_at 36 (omega arith)) (four_at 40 (omega arith)) (four_at 44 (omega arith))
      (eight_at 48 (omega arith)) (zeros_mid both.0) refl (zeros_end both.1)
      ∙ whole body

-- a test before an answer
pub found : (test : Bool) (x l : Label) → (if test then Some x else None) ≡ Some l → (test ≡ true) × (x ≡ l)
found true x l is = (refl, (cc))
found false x l is = let never : ⊥ = cc in absurd never

-- a label that is found is what its body says, and the body is its spelling
pub spells_read : (slot : ℕ) (l : Label) (bytes : List ℕ) → slot < 2 → AreBytes bytes → SLOTS ≤ length bytes → label_of slot bytes ≡ Some l
    → label_bytes l ≡ body_of slot bytes
unfolding label_of
spells_read slot l bytes few are long is =
    let body : List ℕ = body_of slot bytes in
    let one = found (is_open slot bytes && is_label slot body) (fields_of body) l is in
    let label = (and_parts (is_open slot bytes) (is_label slot body) one.0).1 in
    let four = and_parts (has_magic body && (version_of body == 1) && has_zeros body && is_valid (fields_of body)) ((fields_of body).txg % 2 == slot) label in
    let three = and_parts (has_magic body && (version_of body == 1) && has_zeros body) (is_valid (fields_of body)) four.0 in
    let two = and_parts (has_magic body && (version_of body == 1)) (has_zeros body) three.0 in
    let first = and_parts (has_magic body) (version_of body == 1) two.0 in
    ap label_bytes (sym one.1)
    ∙ body_spelled body (part_long bytes (body_at slot) 512 (omega arith)) (part_bytes bytes (body_at slot) (body_at slot + 512) are) first.0 first.1 two.1

-- an open slot whose body says a label has it
pub finds_open : (l : Label) (bytes : List ℕ) → is_open (slot_of l.txg) bytes ≡ true → SaysLabel l (body_of (slot_of l.txg) bytes)
    → label_of (slot_of l.txg) bytes ≡ Some l
unfolding label_of
finds_open l bytes open_is says = rw (open_is, says.label) (ap (λ (x : Label). Some x) says.fields)

-- a slot that is not open has none
pub none_closed : (slot : ℕ) (bytes : List ℕ) → is_open slot bytes ≡ false → label_of slot bytes ≡ None
unfolding label_of
none_closed slot bytes closed = rw closed refl
