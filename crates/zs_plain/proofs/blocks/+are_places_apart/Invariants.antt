use Rattle.std.proofs.Common.{length, ℕ}
use Rattle.zs_plain.proofs.blocks.+are_places_apart.Given as goal

abbrev pub decreases-are_places_apart : goal.decreases-are_places_apart
decreases-are_places_apart l = length l.places.now
