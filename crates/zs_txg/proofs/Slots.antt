-- The order of slots is total, and slots that it does not tell apart are equal.
use Rattle.std.proofs.Common.{◌≡◌, sym, ap, refl, ℕ, Bool, true, false, true≢false, cond, nat_lt, ◌==◌, eqb-true, Option, Some, None}
use Rattle.std.specs.declared.cmp.Ordering.{Ordering}
use Rattle.std.specs.declared.cmp.Ordering.TheVariants.{Less, Equal, Greater}
use Rattle.std.specs.Ordering.{nat_cmp, ordering_then, is_lt, is_eq}
use Rattle.std.specs.Cmp.{IsTotalOrder}
use Rattle.std.proofs.lemmas.Cmp.{nat_cmp_total, on_total, then_total}
use Rattle.zs_ids.specs.declared.key.Key.{Key}
use Rattle.zs_ids.specs.Key.{key_cmp}
use Rattle.zs_txg.specs.Txg.{Slot, slot_cmp, is_after}

pub key_total : IsTotalOrder key_cmp
key_total = then_total (on_total (λ (k : Key). k.object) nat_cmp_total) (then_total (on_total (λ (k : Key). k.rank) nat_cmp_total) (then_total (on_total (λ (k : Key). k.leaf) nat_cmp_total) (on_total (λ (k : Key). k.depth) nat_cmp_total)))

pub slot_total : IsTotalOrder slot_cmp
slot_total = then_total (on_total (λ (s : Slot). s.0.0) nat_cmp_total) (on_total (λ (s : Slot). s.1) key_total)

-- numbers, keys and slots that compare as equal are equal
same_number_by : (x y : ℕ) (a b : Bool) → (x == y) ≡ b → cond a Less (cond b Equal Greater) ≡ Equal → x ≡ y
same_number_by x y true b p h = absurd (true≢false (ap is_lt h))
same_number_by x y false true p h = eqb-true x y p
same_number_by x y false false p h = absurd (true≢false (sym (ap is_eq h)))

same_number : (x y : ℕ) → nat_cmp x y ≡ Equal → x ≡ y
same_number x y h = same_number_by x y (nat_lt x y) (x == y) refl h

both : (a b : Ordering) → ordering_then a b ≡ Equal → (a ≡ Equal) × (b ≡ Equal)
both Less b h = absurd (true≢false (ap is_lt h))
both Equal b h = (refl, h)
both Greater b h = absurd (true≢false (sym (ap is_eq h)))

same_key : (a b : Key) → key_cmp a b ≡ Equal → a ≡ b
same_key a b h =
    let x = both _ _ h in
    let y = both _ _ x.1 in
    let z = both _ _ y.1 in
    λ i. record { object = same_number a.object b.object x.0 i; rank = same_number a.rank b.rank y.0 i; leaf = same_number a.leaf b.leaf z.0 i; depth = same_number a.depth b.depth z.1 i }

pub same_slot : (a b : Slot) → slot_cmp a b ≡ Equal → a ≡ b
same_slot a b h =
    let x = both _ _ h in
    let d : a.0 ≡ b.0 = λ i. record { 0 = same_number a.0.0 b.0.0 x.0 i } in
    λ i. (d i, same_key a.1 b.1 x.1 i)

is_less : (r : Ordering) → is_lt r ≡ true → r ≡ Less
is_less Less h = refl
is_less Equal h = absurd (true≢false (sym h))
is_less Greater h = absurd (true≢false (sym h))

-- what is above a slot stays so upwards
pub after_up : (after : Option Slot) (x y : Slot) → is_after after x ≡ true → slot_cmp x y ≡ Less → is_after after y ≡ true
after_up None x y a h = refl
after_up (Some s) x y a h = ap is_lt (slot_total.trans s x y (is_less (slot_cmp s x) a) h)
