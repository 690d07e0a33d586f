-- The set has the groups so far.
use Rattle.std.proofs.Common.{◌≡◌, ℕ, ◌==◌, take}
use Rattle.std.specs.List.{list_any}
use Rattle.zs_ranges.specs.Set.{has_txg}
use Rattle.zs_ledger.proofs.ledger.set_of.Given as goal

abbrev pub invariant-loop-txg : goal.invariant-loop-txg
invariant-loop-txg l = (t : ℕ) → has_txg l.set t ≡ list_any (λ txg. txg == t) (take l.txg-index l.txgs)
