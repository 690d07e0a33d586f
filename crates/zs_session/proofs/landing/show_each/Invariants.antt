use Rattle.std.proofs.Common.{◌≡◌, ◌++◌, map, take}
use Rattle.zs_machine.specs.Told.{landed_of}
use Rattle.zs_session.proofs.landing.show_each.Given as goal

abbrev pub invariant-loop-piece : goal.invariant-loop-piece
invariant-loop-piece l = l.landed.items ≡ l.initial.landed.items ++ map (landed_of l.entries) (take l.piece-index l.pieces)
