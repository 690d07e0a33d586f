-- Repeated bytes, and the numbers below a bound.
use Rattle.std.proofs.Common.{◌≡◌, ◌∙◌, sym, ap, refl, ℕ, zero, suc, ◌+◌, ◌*◌, arith, add-one, List, [], ◌++◌, append-nil, append_assoc, flat_map}
use Rattle.std.proofs.lemmas.List.{flat_map_more}
use Rattle.zs_objset.specs.Bytes.{repeated, upto}

repeated_end : (n : ℕ) (bytes : List ℕ) → repeated n bytes ++ bytes ≡ bytes ++ repeated n bytes
unfolding repeated
repeated_end zero bytes = sym (append-nil bytes)
repeated_end (suc n) bytes = append_assoc bytes (repeated n bytes) bytes ∙ ap (λ l. bytes ++ l) (repeated_end n bytes)

pub repeated_more : (n : ℕ) (bytes : List ℕ) → repeated (n + 1) bytes ≡ repeated n bytes ++ bytes
unfolding repeated
repeated_more n bytes = ap (λ m. repeated m bytes) (add-one n) ∙ sym (repeated_end n bytes)

repeated_add : (m n : ℕ) (bytes : List ℕ) → repeated (m + n) bytes ≡ repeated m bytes ++ repeated n bytes
unfolding repeated
repeated_add zero n bytes = ap (λ k. repeated k bytes) (omega arith)
repeated_add (suc m) n bytes = ap (λ k. repeated k bytes) (let e : suc m + n ≡ suc (m + n) = omega arith in e) ∙ ap (λ l. bytes ++ l) (repeated_add m n bytes) ∙ sym (append_assoc bytes (repeated m bytes) (repeated n bytes))

none_times : (k : ℕ) → zero * k ≡ zero
none_times k = omega arith

times_suc : (n k : ℕ) → suc n * k ≡ k + n * k
times_suc n k = omega arith

pub repeated_times : (n k : ℕ) (bytes : List ℕ) → repeated (n * k) bytes ≡ repeated n (repeated k bytes)
unfolding repeated
repeated_times zero k bytes = ap (λ m. repeated m bytes) (none_times k)
repeated_times (suc n) k bytes = ap (λ m. repeated m bytes) (times_suc n k) ∙ repeated_add k (n * k) bytes ∙ ap (λ l. repeated k bytes ++ l) (repeated_times n k bytes)

pub flat_upto : (f : ℕ → List ℕ) (start now : List ℕ) (n : ℕ) (old : List ℕ) → old ≡ start ++ flat_map f (upto n) → now ≡ old ++ f n → now ≡ start ++ flat_map f (upto (n + 1))
unfolding upto
flat_upto f start now n old h e =
    e ∙ ap (λ l. l ++ f n) h ∙ flat_map_more f start (upto n) n ∙ ap (λ m. start ++ flat_map f (upto m)) (sym (add-one n))

pub joined : (start a b p now : List ℕ) → now ≡ start ++ a ++ b ++ p → now ≡ start ++ (a ++ b ++ p)
joined start a b p now h = h ∙ append_assoc (start ++ a) b p ∙ append_assoc start a (b ++ p) ∙ ap (λ l. start ++ l) (sym (append_assoc a b p))

pub repeated_none : (bytes : List ℕ) → repeated 0 bytes ≡ []
unfolding repeated
repeated_none bytes = refl

pub upto_none : (start : List ℕ) (f : ℕ → List ℕ) → start ≡ start ++ flat_map f (upto 0)
unfolding upto
upto_none start f = sym (append-nil start)

-- one piece more lengthens bytes by its length
pub length_more : (start n k m now : ℕ) → m ≡ start + n * k → now ≡ m + k → now ≡ start + (n + 1) * k
length_more start n k m now is more = omega (arith, is, more)
