use Rattle.std.proofs.Common.{ℕ, ◌<◌, ◌≤◌, ◌/◌, slice_index}
use Rattle.zs_session.specs.Images.{least_sectors, most_sectors, of_each}
use Rattle.zs_session.proofs.images.test_sizes.Given as goal

abbrev pub invariant-loop-i : goal.invariant-loop-i
invariant-loop-i g l = (k : ℕ) → k < l.i → least_sectors l.blocks ≤ slice_index (of_each g.D.Device.size l.lanes) k / 512

abbrev pub invariant-loop-i-2 : goal.invariant-loop-i-2
invariant-loop-i-2 g l = (k : ℕ) → k < l.i → slice_index (of_each g.D.Device.size l.lanes) k / 512 ≤ most_sectors
