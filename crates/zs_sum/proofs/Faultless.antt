-- What a pointer without a fault has.
use Rattle.std.proofs.Common.{◌≡◌, ◌<◌, ◌^◌, ℕ, Bool, true, false, ◌||◌, ◌==◌, nat_lt, cond, Option, Some, None, refl, arith}
use Rattle.std.proofs.lemmas.Bool.{and_parts, not-false, ltb-true, eqb-true}
use Rattle.std.proofs.lemmas.Grind.{common_steps}
use Rattle.zs_ids.specs.declared.block.Place.{Place}
use Rattle.zs_ids.specs.declared.block.Bp.{Bp}
use Rattle.zs_ids.specs.declared.limits.TheConstants.{BLOCK_SECTORS, DEVICE_SECTORS}
use Rattle.zs_sum.specs.declared.fault.BpFault.{BpFault}
use Rattle.zs_sum.specs.Pointer.{is_place, are_places, fault_of}

-- the tests that a pointer passes
pub record Passes (bp : Bp) : Type 0 where
  pub count : (nat_lt bp.count 1 || nat_lt 3 bp.count) ≡ false
  pub level : nat_lt 3 bp.level ≡ false
  pub size : (nat_lt bp.sectors 1 || nat_lt BLOCK_SECTORS bp.sectors) ≡ false
  pub birth : (bp.birth == 0) ≡ false
  pub places : are_places bp.count bp.places ≡ true

passed : (b : Bool) (fault : BpFault) (rest : Option BpFault) → cond b (Some fault) rest ≡ None → (b ≡ false) × (rest ≡ None)
passed true fault rest e = absurd cc
passed false fault rest e = (refl, e)

pub passes : (padded : Bool) (bp : Bp) → fault_of padded bp ≡ None → (padded ≡ true) × Passes bp
unfolding fault_of
passes padded bp e =
    let count = passed _ _ _ e in
    let level = passed _ _ _ count.1 in
    let size = passed _ _ _ level.1 in
    let pad = passed _ _ _ size.1 in
    let birth = passed _ _ _ pad.1 in
    let places = passed _ _ _ birth.1 in
    (not-false padded pad.0, record { count = count.0; level = level.0; size = size.0; birth = birth.0; places = not-false _ places.0 })

-- a place that passes has a sector of four bytes
pub sector_fits : (used : Bool) (place : Place) → is_place used place ≡ true → place.sector < 2 ^ 32
sector_fits true place e =
    let parts = and_parts (nat_lt place.vdev 8) (nat_lt place.sector DEVICE_SECTORS) e in
    omega (arith, ltb-true place.sector DEVICE_SECTORS parts.1)
sector_fits false place e =
    let parts = and_parts (place.vdev == 0) (place.sector == 0) e in
    omega (arith, eqb-true place.sector 0 parts.1)

-- a size that passes fits two bytes
pub size_fits : (n : ℕ) → (nat_lt n 1 || nat_lt BLOCK_SECTORS n) ≡ false → n < 2 ^ 16
size_fits n e = grind (arith, common_steps)
