-- Masks of devices, mirror by mirror.
use Rattle.std.proofs.Common.{◌≡◌, ℕ, zero, suc, ◌+◌, ◌-◌, ◌*◌, ◌/◌, ◌%◌, ◌^◌, ◌<◌, ◌≤◌, ◌==◌, Bool, false, refl, sym, ◌∙◌, arith}
use Rattle.std.proofs.lemmas.Bool.{ne_eqb}
use Rattle.zs_record.specs.Head.{leaves_each}

-- the number of masks of a mirror's devices
pub shift : (w : ℕ) → w ≤ 4 → 1 * 2 ^ w % 4294967296 ≡ 2 ^ w
shift zero h = refl
shift (suc zero) h = refl
shift (suc (suc zero)) h = refl
shift (suc (suc (suc zero))) h = refl
shift (suc (suc (suc (suc zero)))) h = refl
shift (suc (suc (suc (suc (suc w))))) h = absurd (omega arith)

-- one more mirror has a device left
pub next_mirror : (width d count i mask : ℕ) (total : Bool) → d ≡ 2 ^ width → i < count → (mask % d ≡ d - 1 → ⊥)
    → leaves_each width (count - i) mask ≡ total → leaves_each width (count - (i + 1)) (mask / d) ≡ total
next_mirror width d count i mask total is lt keeps so_far =
    let k : count - i ≡ suc (count - (i + 1)) = omega arith in
    let test : (mask % 2 ^ width == 2 ^ width - 1) ≡ false = ne_eqb (mask % 2 ^ width) (2 ^ width - 1) (rw is at keeps) in
    let one : leaves_each width (count - i) mask ≡ leaves_each width (count - (i + 1)) (mask / 2 ^ width) = rw (k, test) refl in
    rw is (sym one ∙ so_far)
