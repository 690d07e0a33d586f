use Rattle.zs_scan.proofs.Begins.{begun_keeps}
use Rattle.zs_scan.proofs.Pauses.{go_on_keeps}
use Rattle.zs_scan.proofs.scan.Scan.start_scrub.Goals as goal

pub returns-then-is_running-clause-keeps : goal.returns-then-is_running-clause-keeps
returns-then-is_running-clause-keeps c = go_on_keeps c.args.t _ _ c.go_on.result c.go_on.ensures.keeps

pub returns-clause-keeps : goal.returns-clause-keeps
returns-clause-keeps c = begun_keeps _ _ c.args.t c.args.away c.begin_scrub.ensures
