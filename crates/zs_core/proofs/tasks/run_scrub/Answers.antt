use Rattle.std.proofs.Common.{sym, ◌∙◌}
use Rattle.zs_core.proofs.TaskKept.{scrub_kept}
use Rattle.zs_core.proofs.tasks.run_scrub.Goals as goal

pub returns-clause-runs_on : goal.returns-clause-runs_on
returns-clause-runs_on c = scrub_kept c.args.txg c.args.graph.now.sets c.args.scan.now c.start_scrub.new.self c.args.items.now c.start_scrub.result (sym c.is_err.ensures.value ∙ c.if-is_err.false) c.start_scrub.ensures.keeps c.start_scrub.ensures.ok
