-- The end so far is one of the sizes, and at most each of those that were passed.
use Rattle.std.proofs.Common.{◌≡◌, ◌≤◌, ◌<◌, ℕ, length, get_or}
use Rattle.zs_machine.proofs.shape.Shape.space_end.Given as goal

abbrev pub invariant-loop-sectors : goal.invariant-loop-sectors
invariant-loop-sectors l = record {
  some : (k : ℕ) × (k < length l.self.sectors) × (get_or l.self.sectors k 0 ≡ l.end);
  least : (k : ℕ) → k < l.sectors-index → l.end ≤ get_or l.self.sectors k 0;
}
