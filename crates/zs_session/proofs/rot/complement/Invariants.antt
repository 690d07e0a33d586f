use Rattle.std.proofs.Common.{◌≡◌, ◌++◌, map, take, drop}
use Rattle.zs_session.specs.Plays.{complement}
use Rattle.zs_session.proofs.rot.complement.Given as goal

abbrev pub invariant-loop-at : goal.invariant-loop-at
invariant-loop-at l = l.bytes ≡ map complement (take l.at l.fn.bytes) ++ drop l.at l.fn.bytes
