-- Nothing that was passed has a birth above.
use Rattle.std.proofs.Common.{◌≡◌}
use Rattle.std.specs.Prelude.{find, nat_lt}
use Rattle.zs_ids.specs.Blocks.{first_from}
use Rattle.zs_flat.proofs.FlatBlocks.next_from.Given as goal

abbrev pub invariant-loop-key : goal.invariant-loop-key
invariant-loop-key l = find (λ e. nat_lt l.above e.1.birth) l.key-iterator ≡ first_from l.self.map.entries l.fn.from l.above
