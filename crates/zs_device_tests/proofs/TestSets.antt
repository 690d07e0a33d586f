-- Sets of one and of two lanes, for the tests.
use Rattle.std.proofs.Common.{◌≡◌, ℕ, zero, suc, ◌+◌, ◌*◌, ◌/◌, ◌<◌, ◌≤◌, true, List, [], ◌∷◌, length, sym, ap, subst, arith}
use Rattle.std.specs.List.{slice_get}
use Rattle.zs_sum.specs.Sum.{sha256}
use Rattle.zs_lane.specs.Children.{DeviceView, device_at}
use Rattle.zs_label.specs.Label.{is_valid}
use Rattle.zs_label.specs.Slots.{IsLabelFor}
use Rattle.zs_label.specs.declared.label.Label.{Label}

module _ {L : Type 0} (view : L → DeviceView) where
  two_at : (a b : L) → (view a).size ≡ 2048 → (view b).size ≡ 2048 → (k : ℕ) → k < 2 → 2048 ≤ (device_at view (slice_get (a ∷ b ∷ []) k)).size
  two_at a b one two zero lt = omega (arith, one)
  two_at a b one two (suc zero) lt = omega (arith, two)
  two_at a b one two (suc (suc k)) lt = absurd (omega (arith, lt))

  pub two_lanes : (a b : L) (xs : List L) → (view a).size ≡ 2048 → (view b).size ≡ 2048 → xs ≡ a ∷ b ∷ [] → (e : ℕ) → e < 2
      → 2048 ≤ (device_at view (slice_get xs e)).size
  two_lanes a b xs one two is e lt = subst (λ (l : List L). 2048 ≤ (device_at view (slice_get l e)).size) (sym is) (two_at a b one two e lt)

  pub one_lane : (a : L) (xs : List L) (rec : List ℕ) (label : Label) → (view a).size ≡ 512 * 296 → xs ≡ a ∷ [] → is_valid label ≡ true → label.number ≡ 0
      → label.blocks ≡ 64 → label.length ≡ length rec → label.sum ≡ sha256 rec → IsLabelFor 0 rec (device_at view (slice_get xs 0)) label
  one_lane a xs rec label size is valid number blocks long sum = record {
    valid = valid;
    number = number;
    long = long;
    sum = sum;
    room = room (device_at view (slice_get xs 0)).size (ap (λ (l : List L). (device_at view (slice_get l 0)).size) is) blocks;
  }
    where
      room : (s : ℕ) → s ≡ (view a).size → label.blocks ≡ 64 → 512 * (8 + 2 * (128 + label.blocks / 4)) ≤ s
      room s same few = omega (arith, size)
