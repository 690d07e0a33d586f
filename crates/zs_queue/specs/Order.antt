-- The order of pieces is a total one, and tells any two apart.
use Rattle.std.proofs.Common.{◌≡◌, ℕ, true, ap, ◌∙◌, refl}
use Rattle.std.specs.Cmp.{IsTotalOrder}
use Rattle.std.specs.Ordering.{nat_cmp, ordering_then, is_eq}
use Rattle.std.specs.declared.cmp.Ordering.{Ordering}
use Rattle.std.specs.declared.cmp.Ordering.TheVariants.{Less, Equal, Greater}
use Rattle.std.proofs.lemmas.Cmp.{nat_cmp_total, on_total, then_total}
use Rattle.std.proofs.lemmas.Map.Lookups.{exact_unsigned}
use Rattle.zs_ids.specs.declared.block.Piece.{Piece}
use Rattle.zs_ids.specs.Piece.{piece_cmp}

pub piece_total : IsTotalOrder piece_cmp
piece_total =
    then_total
    (then_total (on_total (λ (p : Piece). p.place.vdev) nat_cmp_total)
    (on_total (λ (p : Piece). p.place.sector) nat_cmp_total))
    (on_total (λ (p : Piece). p.birth) nat_cmp_total)

both_equal : (a b : Ordering) → ordering_then a b ≡ Equal → (a ≡ Equal) × (b ≡ Equal)
both_equal Less b h = cc
both_equal Equal b h = (refl, h)
both_equal Greater b h = cc

pub equal_pieces : (p q : Piece) → piece_cmp p q ≡ Equal → p ≡ q
equal_pieces p q h =
    let outer = both_equal (ordering_then (nat_cmp p.place.vdev q.place.vdev) (nat_cmp p.place.sector q.place.sector)) (nat_cmp p.birth q.birth) h in
    let inner = both_equal (nat_cmp p.place.vdev q.place.vdev) (nat_cmp p.place.sector q.place.sector) outer.0 in
    let made : ℕ → ℕ → ℕ → Piece = λ v s b. record { place = record { vdev = v; sector = s }; birth = b } in
    ap (λ v. made v p.place.sector p.birth) (exact_unsigned _ _ inner.0)
    ∙ ap (λ s. made q.place.vdev s p.birth) (exact_unsigned _ _ inner.1)
    ∙ ap (λ b. made q.place.vdev q.place.sector b) (exact_unsigned _ _ outer.1)

pub tests_equal : (o : Ordering) → is_eq o ≡ true → o ≡ Equal
tests_equal Less h = cc
tests_equal Equal h = refl
tests_equal Greater h = cc
