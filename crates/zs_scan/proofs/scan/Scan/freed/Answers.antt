use Rattle.std.proofs.Common.{arith}
use Rattle.zs_scan.proofs.Freeings.{freed_keeps}
use Rattle.zs_scan.proofs.Orderly.{freed_orderly, freed_step}
use Rattle.zs_scan.proofs.scan.Scan.freed.Goals as goal

pub invariant_of-self : goal.invariant_of-self
invariant_of-self c =
    freed_orderly _ c.args.piece _ _ _ c.self.invariant (record { ordered = c.drop_piece.new.self.kept.ordered; named = c.drop_piece.new.self.kept.named; within = c.drop_piece.new.self.kept.within }) c.drop_piece.ensures.items c.remove-mark.ensures.mark (omega (arith, c.remove-mark.ensures.flying, c.self.invariant.landing))

pub returns-clause-freed : goal.returns-clause-freed
returns-clause-freed c = freed_step _ _ c.args.piece _ _ _ c.self.view_is c.drop_piece.ensures.items c.drop_piece.ensures.limit c.remove-mark.ensures.mark

pub returns-clause-keeps : goal.returns-clause-keeps
returns-clause-keeps c = freed_keeps _ _ c.args.piece (returns-clause-freed c)
