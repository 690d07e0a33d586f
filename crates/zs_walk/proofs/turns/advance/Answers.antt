use Rattle.std.proofs.Common.{refl}
use Rattle.zs_walk.proofs.Rooms.{turned}
use Rattle.zs_walk.proofs.turns.advance.Goals as goal

pub returns-clause-goes_on : goal.returns-clause-goes_on
returns-clause-goes_on g c = turned _ _ _ _ _ c.args.step.now c.requires.state c.requires.comes refl c.make.ensures
