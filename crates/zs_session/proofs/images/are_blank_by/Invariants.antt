use Rattle.std.proofs.Common.{◌≡◌, ℕ, ◌<◌, true, length, slice_index}
use Rattle.zs_io.specs.Told.{Told}
use Rattle.zs_session.specs.Images.{ReadsFirst, told_at, is_zero, head_of, of_each}
use Rattle.zs_session.proofs.images.are_blank_by.Given as goal

abbrev pub invariant-loop-dev : goal.invariant-loop-dev
invariant-loop-dev g l = record {
  count : length l.lanes.items ≡ l.width;
  reads : ReadsFirst g.D.Device l.dev l.initial.lanes.items l.lanes.items;
  blank : (k : ℕ) → k < l.dev → Told (told_at (of_each g.D.Device.told l.initial.lanes.items) k)
      (λ bytes. is_zero (head_of (slice_index (of_each g.D.Device.size l.initial.lanes.items) k) bytes) ≡ true);
}
