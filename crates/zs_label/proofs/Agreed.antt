-- The best of some labels, and which images have it.
use Rattle.std.proofs.Common.{◌≡◌, ℕ, zero, suc, ◌+◌, ◌*◌, ◌/◌, ◌%◌, ◌<◌, ◌≤◌, ◌^◌, inl, inr, Bool, true, false, List, [], ◌∷◌, refl, ◌∙◌, ap, subst, arith}
use Rattle.std.specs.Prelude.{Option, Some, None, IfSome, option_map, not, bit_or, ◌||◌, ◌==◌, if◌then◌else◌}
use Rattle.std.specs.List.{AllPass, find, list_any}
use Rattle.std.proofs.lemmas.List.Elements.{All-head, All-tail}
use Rattle.std.proofs.lemmas.Bool.{cases_Bool, cases_lt}
use Rattle.std.proofs.lemmas.Bool.Decides.{nat_tests}
use Rattle.std.proofs.lemmas.Nat.{one_shl, or_block}
use Rattle.std.proofs.Math.Nat.{pow-suc}
use Rattle.std.proofs.Math.Numerals.{add-one}
use Rattle.std.specs.Int.Bits.{or_zero_r}
use Rattle.zs_label.specs.Label.{is_valid}
use Rattle.zs_label.specs.Best.{best_in, lacks_mirror, has_label, mask_of}
use Rattle.zs_label.specs.declared.choosing.Found.{Found}
use Rattle.zs_label.specs.declared.label.Label.{Label}

-- what is found in a list of which each passes, passes
found_passes : (p q : Found → Bool) (found : List Found) → AllPass q found → IfSome (find p found) (λ f. q f ≡ true)
found_passes p q [] all = tt
found_passes p q (f ∷ found) all = elim (cases_Bool (p f)) [
  | inl is_so ↦ rw is_so (All-head (λ x. q x ≡ true) f found all)
  | inr not_so ↦ rw not_so (found_passes p q found (All-tail (λ x. q x ≡ true) f found all))
]

pub best_valid : (found : List Found) → AllPass (λ f. is_valid f.label) found → IfSome (best_in found) (λ l. is_valid l ≡ true)
best_valid found all = at_label (find _ found) (found_passes _ (λ f. is_valid f.label) found all)
  where
    at_label : (o : Option Found) → IfSome o (λ f. is_valid f.label ≡ true) → IfSome (option_map (λ f. f.label) o) (λ l. is_valid l ≡ true)
    at_label None valid = tt
    at_label (Some f) valid = valid

pub width_some : (l : Label) → is_valid l ≡ true → 1 ≤ l.width
unfolding is_valid
width_some l valid = grind (arith, nat_tests)

-- a mirror that is lacking is lacking among more
or_left : (a b : Bool) → a ≡ true → (a || b) ≡ true
or_left a b is_so = rw is_so refl

or_right : (a b : Bool) → b ≡ true → (a || b) ≡ true
or_right true b is_so = refl
or_right false b is_so = is_so

neither : (a b : Bool) → a ≡ false → b ≡ true → (a || not b) ≡ false
neither a b none is_so = rw (none, is_so) refl

pub lacks_on : (width : ℕ) (found : List Found) (mirror mirrors : ℕ) → mirror < mirrors → list_any (λ f. f.image / width == mirror) found ≡ false
    → lacks_mirror width found mirrors ≡ true
lacks_on width found mirror zero lt none = absurd (omega arith)
lacks_on width found mirror (suc mirrors) lt none = elim (cases_lt mirror mirrors) [
  | inl below ↦ or_left _ _ (lacks_on width found mirror mirrors below none)
  | inr last ↦
      let same : mirror ≡ mirrors = omega arith in
      or_right _ _ (subst (λ (m : ℕ). not (list_any (λ f. f.image / width == m) found) ≡ true) same (ap not none))
]

pub lacks_next : (width : ℕ) (found : List Found) (mirror : ℕ) → lacks_mirror width found mirror ≡ false → list_any (λ f. f.image / width == mirror) found ≡ true
    → lacks_mirror width found (mirror + 1) ≡ false
lacks_next width found mirror none here = rw add-one (neither _ _ none here)

pub mask_next : (txg : ℕ) (found : List Found) (image : ℕ)
    → mask_of txg found (image + 1) ≡ mask_of txg found image + (if has_label txg found image then 2 ^ image else 0)
mask_next txg found image = rw add-one refl

at_most : (set : Bool) (n : ℕ) → (if set then n else 0) ≤ n
at_most true n = omega arith
at_most false n = omega arith

pub mask_below : (txg : ℕ) (found : List Found) (image : ℕ) → mask_of txg found image < 2 ^ image
mask_below txg found zero = omega arith
mask_below txg found (suc image) = omega (arith, mask_below txg found image, at_most (has_label txg found image) (2 ^ image), pow-suc 2 image)

pub set_bit : (mask image : ℕ) → image < 16 → mask < 2 ^ image → bit_or mask ((1 * 2 ^ image) % 2 ^ 32) ≡ mask + 2 ^ image
set_bit mask image few below =
    let some : 0 < 2 ^ image = omega (arith, below) in
    let block = or_block image 0 1 mask 0 below some in
    let low : 0 * 2 ^ image + mask ≡ mask = omega arith in
    let high : 1 * 2 ^ image + 0 ≡ 2 ^ image = omega arith in
    let shifted : (1 * 2 ^ image) % 2 ^ 32 ≡ 2 ^ image = one_shl image 32 (omega arith) in
    let set : bit_or mask (2 ^ image) ≡ bit_or 0 1 * 2 ^ image + bit_or mask 0 =
    subst (λ (x : ℕ). bit_or mask x ≡ bit_or 0 1 * 2 ^ image + bit_or mask 0) high
    (subst (λ (x : ℕ). bit_or x (1 * 2 ^ image + 0) ≡ bit_or 0 1 * 2 ^ image + bit_or mask 0) low block) in
    ap (λ (x : ℕ). bit_or mask x) shifted ∙ set ∙ omega (arith, or_zero_r mask)
