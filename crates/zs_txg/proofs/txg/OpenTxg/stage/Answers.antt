use Rattle.std.proofs.Common.{arith}
use Rattle.zs_txg.proofs.Sums.{counted_had, counted_fits, counted_put}
use Rattle.zs_txg.proofs.txg.OpenTxg.stage.Goals as goal

pub replaced-sum-requires-clause-had : goal.replaced-sum-requires-clause-had
replaced-sum-requires-clause-had c =
    rw (c.at-before.ensures, c.deref.ensures.value) (counted_had _ _ _ (c.args.ds, c.args.key) c.self.invariant c.rises.ensures.order)

pub replaced-sum-requires-clause-fits : goal.replaced-sum-requires-clause-fits
replaced-sum-requires-clause-fits c =
    counted_fits _ c.self.inside.sectors c.args.sectors _ c.self.invariant c.rises.ensures.few (omega (arith, c.ranges.sectors.fits))

pub invariant_of-self-2 : goal.invariant_of-self-2
invariant_of-self-2 c =
    rw c.in_ok-put.ensures.ok (counted_put _ c.self.inside.sectors c.replaced-sum.result _ (c.args.ds, c.args.key) _ c.self.invariant c.rises.ensures.order (rw (← c.deref.ensures.value, ← c.at-before.ensures) c.replaced-sum.ensures) (omega (arith, c.ranges.sectors.fits)))
