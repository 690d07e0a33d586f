-- Three lanes of one sector as a mirror, for the tests.
use Rattle.std.proofs.Common.{◌≡◌, ℕ, zero, suc, ◌+◌, ◌*◌, ◌<◌, ◌≤◌, List, [], ◌∷◌, length, sym, ap, subst, arith}
use Rattle.std.specs.List.{slice_get}
use Rattle.zs_lane.specs.Children.{DeviceView, device_at}
use Rattle.zs_mirror.specs.Mirror.{IsMirror}

module _ {L : Type 0} (view : L → DeviceView) (a b c : L) (one : (view a).size ≡ 512) (two : (view b).size ≡ 512) (three : (view c).size ≡ 512) where
  abbrev all : List L
  all = a ∷ b ∷ c ∷ []

  at_each : (k : ℕ) → k < 3 → 512 ≤ (device_at view (slice_get all k)).size
  at_each zero lt = omega (arith, one)
  at_each (suc zero) lt = omega (arith, two)
  at_each (suc (suc zero)) lt = omega (arith, three)
  at_each (suc (suc (suc k))) lt = absurd (omega (arith, lt))

  pub three_lanes : (xs : List L) → xs ≡ a ∷ b ∷ c ∷ [] → IsMirror (length xs) 3 (record { vdev = 0; sector = 0 }) 512 (λ e. device_at view (slice_get xs e))
  three_lanes xs is = record {
    most = omega (arith, ap length is);
    some = omega arith;
    few = omega arith;
    within = omega (arith, ap length is);
    sectors = 1;
    whole = omega arith;
    not_empty = omega arith;
    greatest = omega arith;
    fits = λ k lt.
        let here : 0 * 3 + k ≡ k = omega arith in
        let big : 512 ≤ (device_at view (slice_get xs k)).size = subst (λ (l : List L). 512 ≤ (device_at view (slice_get l k)).size) (sym is) (at_each k lt) in
        subst (λ (j : ℕ). 512 * 0 + 512 ≤ (device_at view (slice_get xs j)).size) (sym here) (omega (arith, big));
  }
