-- The fields of 64 bytes, joined again.
use Rattle.std.proofs.Common.{◌≡◌, ◌≤◌, ◌+◌, ◌-◌, ℕ, true, List, [], ◌∷◌, ◌++◌, length, get_or, take, drop, replicate, ◌==◌, refl, sym, ap, ◌∙◌, arith, inl, inr}
use Rattle.std.specs.Int.{w16, w32, w64, from_be_bytes, to_be_bytes}
use Rattle.std.proofs.lemmas.Bool.{cases_lt, eqb-true, and_parts}
use Rattle.std.proofs.lemmas.List.{take_all, take-append-drop, drop-drop, drop_more, length-drop, length-take, length-take-le, get_or-drop, get_or-take, get_or_past}
use Rattle.std.proofs.lemmas.Nat.{be_bytes_2, be_bytes_4, be_bytes_8}
use Rattle.zs_sum.specs.Laws.{AreBytes}
use Rattle.zs_sum.specs.Pointer.{are_zeros, place_bytes, place_at}

-- a part of bytes has bytes
pub part_fits : (i n : ℕ) (bytes : List ℕ) → AreBytes bytes → AreBytes (take n (drop i bytes))
part_fits i n bytes fits k =
    elim (cases_lt k n) [
      | inl lt ↦ rw (get_or-take n (drop i bytes) k 0 lt, get_or-drop i bytes k 0) (fits (i + k))
      | inr le ↦ rw (get_or_past (take n (drop i bytes)) k 0 (omega (arith, length-take n (drop i bytes)))) (omega arith)
    ]

-- a part that lies within has its length
pub part_length : (i n : ℕ) (bytes : List ℕ) → i + n ≤ length bytes → length (take n (drop i bytes)) ≡ n
part_length i n bytes within = length-take-le n (drop i bytes) (omega (arith, length-drop i bytes))

-- the bytes from a place on are a part, and those behind it
pub part_then : (i n : ℕ) (bytes : List ℕ) → drop i bytes ≡ take n (drop i bytes) ++ drop (i + n) bytes
part_then i n bytes = sym (rw (← drop-drop n i bytes) (take-append-drop n (drop i bytes)))

-- bytes that are all zero
pub zeros_are : (bytes : List ℕ) → are_zeros bytes ≡ true → bytes ≡ replicate (length bytes) 0
zeros_are [] e = refl
zeros_are (b ∷ bytes) e =
    let parts = and_parts (b == 0) (are_zeros bytes) e in
    let first : b ≡ 0 = eqb-true b 0 parts.0 in
    let rest = zeros_are bytes parts.1 in
    cc

-- a number that is read from a part has just its bytes
pub two_spelled : (i : ℕ) (bytes : List ℕ) → i + 2 ≤ length bytes → AreBytes bytes → to_be_bytes w16 (from_be_bytes w16 (take 2 (drop i bytes))) ≡ take 2 (drop i bytes)
two_spelled i bytes within fits = be_bytes_2 (take 2 (drop i bytes)) _ (part_length i 2 bytes within) (part_fits i 2 bytes fits) refl

pub four_spelled : (i : ℕ) (bytes : List ℕ) → i + 4 ≤ length bytes → AreBytes bytes → to_be_bytes w32 (from_be_bytes w32 (take 4 (drop i bytes))) ≡ take 4 (drop i bytes)
four_spelled i bytes within fits = be_bytes_4 (take 4 (drop i bytes)) _ (part_length i 4 bytes within) (part_fits i 4 bytes fits) refl

pub eight_spelled : (i : ℕ) (bytes : List ℕ) → i + 8 ≤ length bytes → AreBytes bytes → to_be_bytes w64 (from_be_bytes w64 (take 8 (drop i bytes))) ≡ take 8 (drop i bytes)
eight_spelled i bytes within fits = be_bytes_8 (take 8 (drop i bytes)) _ (part_length i 8 bytes within) (part_fits i 8 bytes fits) refl

-- a place that is read has just its bytes
pub place_spelled : (i : ℕ) (bytes : List ℕ) → i + 5 ≤ length bytes → AreBytes bytes → place_bytes (place_at i bytes) ≡ take 5 (drop i bytes)
unfolding place_bytes place_at
place_spelled i bytes within fits =
    let sector = four_spelled (i + 1) bytes (omega arith) fits in
    let first : drop i bytes ≡ get_or bytes i 0 ∷ drop (i + 1) bytes = drop_more bytes i 0 (omega arith) in
    let same : i + 1 + 4 - (i + 1) ≡ 4 = omega arith in
    rw (first, same) (ap (λ (rest : List ℕ). get_or bytes i 0 ∷ rest) sector)

-- a list is its first two items, and those behind them
first_two : (bytes : List ℕ) → 2 ≤ length bytes → bytes ≡ get_or bytes 0 0 ∷ (get_or bytes 1 0 ∷ drop 2 bytes)
first_two [] h = absurd (omega arith)
first_two (a ∷ []) h = absurd (omega arith)
first_two (a ∷ (b ∷ bytes)) h = refl

-- what stands where a pointer has its fields, joined
pub joined : (bytes two four eight a b c rest : List ℕ) (pad : ℕ) → length bytes ≡ 64
    → two ≡ take 2 (drop 2 bytes) → four ≡ take 4 (drop 4 bytes) → eight ≡ take 8 (drop 8 bytes)
    → a ≡ take 5 (drop 16 bytes) → b ≡ take 5 (drop 21 bytes) → c ≡ take 5 (drop 26 bytes) → pad ≡ get_or bytes 31 0 → rest ≡ take 32 (drop 32 bytes)
    → get_or bytes 0 0 ∷ (get_or bytes 1 0 ∷ (two ++ (four ++ (eight ++ (a ++ (b ++ (c ++ (pad ∷ rest)))))))) ≡ bytes
joined bytes two four eight a b c rest pad len is_two is_four is_eight is_a is_b is_c is_pad is_rest =
    let end : drop 31 bytes ≡ pad ∷ rest = drop_more bytes 31 0 (omega arith) ∙ ap (λ (r : List ℕ). get_or bytes 31 0 ∷ r) (sym (take_all 32 (drop 32 bytes) (omega (arith, length-drop 32 bytes)))) ∙ sym (cc (is_pad, is_rest)) in
    let from_c : drop 26 bytes ≡ c ++ (pad ∷ rest) = part_then 26 5 bytes ∙ sym (cc (is_c, end)) in
    let from_b : drop 21 bytes ≡ b ++ (c ++ (pad ∷ rest)) = part_then 21 5 bytes ∙ sym (cc (is_b, from_c)) in
    let from_a : drop 16 bytes ≡ a ++ (b ++ (c ++ (pad ∷ rest))) = part_then 16 5 bytes ∙ sym (cc (is_a, from_b)) in
    let from_eight : drop 8 bytes ≡ eight ++ (a ++ (b ++ (c ++ (pad ∷ rest)))) = part_then 8 8 bytes ∙ sym (cc (is_eight, from_a)) in
    let from_four : drop 4 bytes ≡ four ++ (eight ++ (a ++ (b ++ (c ++ (pad ∷ rest))))) = part_then 4 4 bytes ∙ sym (cc (is_four, from_eight)) in
    let from_two : drop 2 bytes ≡ two ++ (four ++ (eight ++ (a ++ (b ++ (c ++ (pad ∷ rest)))))) = part_then 2 2 bytes ∙ sym (cc (is_two, from_four)) in
    rw (← from_two) (sym (first_two bytes (omega arith)))
