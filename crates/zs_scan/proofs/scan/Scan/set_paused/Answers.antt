use Rattle.zs_scan.proofs.Pauses.{pause_keeps}
use Rattle.zs_scan.proofs.scan.Scan.set_paused.Goals as goal

pub returns-clause-keeps : goal.returns-clause-keeps
returns-clause-keeps c = pause_keeps c.args.paused _ _ c.self.view_is c.self.invariant c.requires
