-- The turns of the blocks that a pass has left: fewer behind each block that it meets.
use Rattle.std.proofs.Common.{◌≡◌, ◌≤◌, ◌+◌, false, List, refl, sym, ap, ◌∙◌, arith}
use Rattle.std.specs.Prelude.{IsTrue}
use Rattle.std.specs.Cmp.{IsTotalOrder}
use Rattle.std.specs.Ordering.{is_le, is_gt}
use Rattle.std.specs.declared.cmp.Ordering.{Ordering}
use Rattle.std.specs.declared.cmp.Ordering.TheVariants.{Less, Equal, Greater}
use Rattle.std.proofs.lemmas.Bool.{true≢false, false_from_ne_true}
use Rattle.std.proofs.lemmas.Cmp.{nat_cmp_total, on_total, then_total, tied_itself, upto}
use Rattle.zs_ids.specs.declared.key.Key.{Key}
use Rattle.zs_ids.specs.declared.block.Bp.{Bp}
use Rattle.zs_ids.specs.Key.{key_cmp}
use Rattle.zs_ids.specs.Graph.{Has}
use Rattle.zs_walk.specs.Left.{weight, turns_from}
use Rattle.zs_walk.proofs.Rising.{above_deeper}
use Rattle.zs_walk.proofs.Sums.{falls}

-- the order of keys is a total one
key_total : IsTotalOrder key_cmp
key_total = then_total (on_total (λ (k : Key). k.object) nat_cmp_total) (then_total (on_total (λ (k : Key). k.rank) nat_cmp_total) (then_total (on_total (λ (k : Key). k.leaf) nat_cmp_total) (on_total (λ (k : Key). k.depth) nat_cmp_total)))

-- at most is not above, and the other way round
not_above : (o : Ordering) → IsTrue (is_le o) → is_gt o ≡ false
not_above Less t = refl
not_above Equal t = refl
not_above Greater t = absurd (true≢false (sym t))

up_to : (o : Ordering) → is_gt o ≡ false → IsTrue (is_le o)
up_to Less e = refl
up_to Equal e = refl
up_to Greater e = absurd (true≢false e)

-- at most chains
chain : (a b c : Key) → IsTrue (is_le (key_cmp a b)) → IsTrue (is_le (key_cmp b c)) → IsTrue (is_le (key_cmp a c))
chain a b c t u = up_to (key_cmp a c) (upto key_total a b c (not_above (key_cmp a b) t) (not_above (key_cmp b c) u))

-- a block takes a turn at least
pub some_weight : (bp : Bp) → 1 ≤ weight bp
some_weight bp = omega arith

-- behind a block what is left is less by the block's turns than from a key on that is not above it
pub turns_fall : (entries : List (Key × Bp)) (from : Key) (e : Key × Bp) → Has entries e → IsTrue (is_le (key_cmp from e.0)) → turns_from entries (record e.0 { depth = e.0.depth + 1 }) + weight e.1 ≤ turns_from entries from
turns_fall entries from e here at =
    let below : Key = record e.0 { depth = e.0.depth + 1 } in
    let past : is_le (key_cmp below e.0) ≡ false = false_from_ne_true (is_le (key_cmp below e.0)) (λ t. let is : Less ≡ Equal = sym (above_deeper e.0 e.0 t) ∙ tied_itself key_total e.0 in cc) in
    falls (λ (f : Key × Bp). weight f.1) (λ (f : Key × Bp). is_le (key_cmp below f.0)) (λ (f : Key × Bp). is_le (key_cmp from f.0)) entries e (λ f h t. chain from e.0 f.0 at (ap is_le (above_deeper e.0 f.0 t))) here past at
