-- One copy more of a mirror was called on, and the other devices stay.
use Rattle.std.proofs.Common.{◌≡◌, ◌≢◌, ℕ, ◌+◌, ◌≤◌, inl, inr, length, refl, sym, ◌∙◌, subst, arith}
use Rattle.std.proofs.lemmas.Bool.{cases_eq}
use Rattle.zs_io.specs.Told.{Told}
use Rattle.zs_lane.specs.Children.{DeviceView, Stays, OnlyOn, GoesOn}
use Rattle.zs_mirror.specs.Mirror.{IsOther, Leaves}
use Rattle.zs_lane.proofs.GoingOn.{goes_on_stays, goes_on_none, goes_on_twice}
use Rattle.zs_mirror.proofs.Devices.{stays, stays_on}

pub leaves_none : (first n : ℕ) (old : ℕ → DeviceView) → Leaves first 0 n n old old
leaves_none first n old = record {
  count = refl;
  sizes = λ e. refl;
  others = λ e other. stays (old e);
  goes_on = λ e. goes_on_none (old e);
}

pub leaves_wide : (first i width n m : ℕ) (old new : ℕ → DeviceView) → i ≤ width → Leaves first i n m old new → Leaves first width n m old new
leaves_wide first i width n m old new le leaves = record {
  count = leaves.count;
  sizes = leaves.sizes;
  others = λ e other. leaves.others e (λ k lt. other k (omega (arith, lt, le)));
  goes_on = leaves.goes_on;
}

-- a copy further on is none of the first ones
pub is_next : (first i : ℕ) → IsOther first i (first + i)
is_next first i k lt same = omega (arith, lt, same)

pub other_copy : (first i k : ℕ) → k ≢ i → first + k ≢ first + i
other_copy first i k ne same = ne (omega (arith, same))

module _ (first i n m l : ℕ) (old mid new : ℕ → DeviceView) (before : Leaves first i n m old mid) (only : OnlyOn (first + i) m l mid new) where
  next_other : (e : ℕ) → IsOther first (i + 1) e → IsOther first i e
  next_other e other k lt = other k (omega (arith, lt))

  pub leaves_next : GoesOn (mid (first + i)) (new (first + i)) → Leaves first (i + 1) n l old new
  leaves_next goes_on = record {
    count = only.count ∙ before.count;
    sizes = λ e. only.sizes e ∙ before.sizes e;
    others = λ e other. stays_on (old e) (mid e) (new e) (before.others e (next_other e other)) (only.others e (other i (omega arith)));
    goes_on = λ e. elim (cases_eq e (first + i)) [
      | inl here ↦ subst (λ (x : ℕ). GoesOn (old x) (new x)) (sym here) (goes_on_twice (old (first + i)) (mid (first + i)) (new (first + i)) (before.goes_on (first + i)) goes_on)
      | inr other ↦ goes_on_twice (old e) (mid e) (new e) (before.goes_on e) (goes_on_stays (mid e) (new e) (only.others e other))
    ];
  }

  -- the copy was not touched before
  pub untouched : Stays (old (first + i)) (mid (first + i))
  untouched = before.others (first + i) (is_next first i)

  -- an earlier copy is not touched now
  pub left_alone : (k : ℕ) → k ≢ i → Stays (mid (first + k)) (new (first + k))
  left_alone k ne = only.others (first + k) (other_copy first i k ne)

-- the block's range lies within what the device of a copy tells
pub fits_told : (first base at start len k : ℕ) (devices : ℕ → DeviceView) → first ≡ base → at ≡ start → start + len ≤ (devices (base + k)).size
    → Told (devices (first + k)).told (λ b. (length b ≡ (devices (first + k)).size) × (devices (first + k)).may_leave b)
    → Told (devices (first + k)).told (λ b. at + len ≤ length b)
fits_told first base at start len k devices same start_is fits told b is =
    let here : start + len ≤ (devices (first + k)).size = subst (λ (x : ℕ). start + len ≤ (devices (x + k)).size) (sym same) fits in
    omega (arith, here, start_is, (told b is).0)

-- calls on the same copies, twice
pub leaves_twice : (first width n m l : ℕ) (old mid new : ℕ → DeviceView) → Leaves first width n m old mid → Leaves first width m l mid new → Leaves first width n l old new
leaves_twice first width n m l old mid new one two = record {
  count = two.count ∙ one.count;
  sizes = λ e. two.sizes e ∙ one.sizes e;
  others = λ e other. stays_on (old e) (mid e) (new e) (one.others e other) (two.others e other);
  goes_on = λ e. goes_on_twice (old e) (mid e) (new e) (one.goes_on e) (two.goes_on e);
}
