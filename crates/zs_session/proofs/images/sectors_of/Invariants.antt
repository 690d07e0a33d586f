use Rattle.std.proofs.Common.{◌≡◌, ℕ, ◌<◌, ◌/◌, length, slice_index}
use Rattle.zs_session.specs.Images.{of_each}
use Rattle.zs_session.proofs.images.sectors_of.Given as goal

abbrev pub invariant-loop-i : goal.invariant-loop-i
invariant-loop-i g l = record {
  count : length l.sectors.items ≡ l.i;
  sectors : (k : ℕ) → k < l.i → slice_index l.sectors.items k ≡ slice_index (of_each g.D.Device.size l.lanes) k / 512;
}
