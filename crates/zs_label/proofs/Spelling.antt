-- The bytes of a label are read as its fields.
use Rattle.std.proofs.Common.{◌≡◌, ℕ, zero, suc, ◌<◌, ◌^◌, Bool, true, List, [], ◌++◌, length, take, drop, replicate, refl, sym, ap, subst, arith}
use Rattle.std.specs.Prelude.{codes, ◌==◌, ◌&&◌}
use Rattle.std.specs.List.{list_all}
use Rattle.std.proofs.lemmas.Bool.Decides.{nat_tests}
use Rattle.std.proofs.lemmas.List.{take_at, drop_at}
use Rattle.byteorder.specs.Endian.{big_bytes, big_number}
use Rattle.byteorder.specs.Numbers.{big_number-reads_back}
use Rattle.zs_label.specs.Layout.{slot_of}
use Rattle.zs_label.specs.Label.{label_bytes, fields_of, has_magic, version_of, has_zeros, is_valid}
use Rattle.zs_label.specs.Laws.{HasWidths, SaysLabel}
use Rattle.zs_label.specs.declared.label.Label.{Label}

four : (x : ℕ) → x < 2 ^ 32 → big_number 4 (big_bytes 4 x) ≡ x
four x lt = big_number-reads_back 4 x [] lt

eight : (x : ℕ) → x < 2 ^ 64 → big_number 8 (big_bytes 8 x) ≡ x
eight x lt = big_number-reads_back 8 x [] lt

-- the 64 bytes before the sum
abbrev front : Label → List ℕ
front l = codes "ZSCANLAB" ++ big_bytes 4 1 ++ big_bytes 4 l.number ++ big_bytes 8 l.pool ++ big_bytes 4 l.devices ++ big_bytes 4 l.width
    ++ big_bytes 4 l.blocks ++ big_bytes 4 l.limit ++ big_bytes 4 l.every ++ big_bytes 4 l.length ++ big_bytes 8 l.txg ++ replicate 8 0

-- a label with these fields
same_label : (l : Label) {pool number devices width blocks limit every len txg : ℕ} {sum : List ℕ} → pool ≡ l.pool → number ≡ l.number → devices ≡ l.devices
    → width ≡ l.width → blocks ≡ l.blocks → limit ≡ l.limit → every ≡ l.every → len ≡ l.length → txg ≡ l.txg → sum ≡ l.sum
    → ◌≡◌ {A = Label} (record { pool = pool; number = number; devices = devices; width = width; blocks = blocks; limit = limit; every = every; length = len; txg = txg; sum = sum }) l
same_label l a b c d e f g h i j = rw (a, b, c, d, e, f, g, h, i, j) refl

record Small (l : Label) : Type 0 where
  number : l.number < 2 ^ 32
  devices : l.devices < 2 ^ 32
  width : l.width < 2 ^ 32
  blocks : l.blocks < 2 ^ 32
  limit : l.limit < 2 ^ 32
  every : l.every < 2 ^ 32
  long : l.length < 2 ^ 32
  txg : l.txg < 2 ^ 64

small : (l : Label) → is_valid l ≡ true → Small l
unfolding is_valid
small l valid = record {
  number = grind (arith, nat_tests);
  devices = grind (arith, nat_tests);
  width = grind (arith, nat_tests);
  blocks = grind (arith, nat_tests);
  limit = grind (arith, nat_tests);
  every = grind (arith, nat_tests);
  long = grind (arith, nat_tests);
  txg = grind (arith, nat_tests);
}

-- the sum, and the zeros behind it
sum_part : (sum : List ℕ) (n : ℕ) → length sum ≡ 32 → take 32 (sum ++ replicate n 0) ≡ sum
sum_part sum n long = take_at sum (replicate n 0) 32 long

behind_sum : (sum : List ℕ) (n : ℕ) → length sum ≡ 32 → drop 32 (sum ++ replicate n 0) ≡ replicate n 0
behind_sum sum n long = drop_at sum (replicate n 0) 32 long

zeros : (n m : ℕ) → list_all (λ b. b == 0) (take m (replicate n 0)) ≡ true
zeros zero zero = refl
zeros zero (suc m) = refl
zeros (suc n) zero = refl
zeros (suc n) (suc m) = zeros n m

zeros_behind : (sum : List ℕ) (n m : ℕ) → length sum ≡ 32 → list_all (λ b. b == 0) (take m (drop 32 (sum ++ replicate n 0))) ≡ true
zeros_behind sum n m long = subst (λ (x : List ℕ). list_all (λ b. b == 0) (take m x) ≡ true) (sym (behind_sum sum n long)) (zeros n m)

fields_back : (l : Label) → HasWidths l → Small l → fields_of (label_bytes l) ≡ l
unfolding fields_of label_bytes
fields_back l widths s = same_label l (eight l.pool widths.pool) (four l.number s.number) (four l.devices s.devices) (four l.width s.width)
    (four l.blocks s.blocks) (four l.limit s.limit) (four l.every s.every) (four l.length s.long) (eight l.txg s.txg) (sum_part l.sum 416 widths.sum)

magic_back : (l : Label) → has_magic (label_bytes l) ≡ true
unfolding label_bytes
magic_back l = refl

version_back : (l : Label) → (version_of (label_bytes l) == 1) ≡ true
unfolding label_bytes
version_back l = refl

zeros_back : (l : Label) → HasWidths l → has_zeros (label_bytes l) ≡ true
unfolding label_bytes
zeros_back l widths = zeros_behind l.sum 416 416 widths.sum

same_slot : (t s : ℕ) → t ≡ s → (t == s) ≡ true
same_slot t s is = grind (arith, nat_tests)

all_five : (a b c d e : Bool) → a ≡ true → b ≡ true → c ≡ true → d ≡ true → e ≡ true → (a && b && c && d && e) ≡ true
all_five a b c d e p q r s t = rw (p, q, r, s, t) refl

pub reads_written : (l : Label) → HasWidths l → is_valid l ≡ true → SaysLabel l (label_bytes l)
reads_written l widths valid =
    let back : fields_of (label_bytes l) ≡ l = fields_back l widths (small l valid) in
    record {
      label = all_five _ _ _ _ _ (magic_back l) (version_back l) (zeros_back l widths)
          (subst (λ (x : Label). is_valid x ≡ true) (sym back) valid)
          (same_slot _ _ (ap (λ (x : Label). slot_of x.txg) back));
      fields = back;
    }
