-- What follows from the numbers that a pool is made with.
use Rattle.std.specs.Prelude.{◌≡◌, ◌≤◌, ◌+◌, ℕ, slice_index}
use Rattle.std.proofs.Common.{arith}
use Rattle.zs_machine.specs.declared.shape.Shape.{Shape}
use Rattle.zs_machine.specs.Shapes.{IsShape, IsLeast, data_start}

-- the space begins before it ends
pub start_below : (s : Shape) (end : ℕ) → IsShape s → IsLeast end s.sectors → data_start s.blocks ≤ end
start_below s end shape least =
    let k = (least.some).0 in
    let large : data_start s.blocks + 32 ≤ slice_index s.sectors k = shape.least k (least.some).1 in
    let is : slice_index s.sectors k ≡ end = (least.some).2 in
    omega (arith, large, is)

-- it ends at 1 GiB at the latest
pub end_most : (s : Shape) (end : ℕ) → IsShape s → IsLeast end s.sectors → end ≤ 2097152
end_most s end shape least =
    let k = (least.some).0 in
    let most : slice_index s.sectors k ≤ 2097152 = shape.most k (least.some).1 in
    let is : slice_index s.sectors k ≡ end = (least.some).2 in
    omega (arith, most, is)
