use Rattle.std.proofs.Common.{sym, subst}
use Rattle.std.specs.Prelude.{Option}
use Rattle.zs_script.specs.declared.refusal.Refusal.{Refusal}
use Rattle.zs_txg.specs.declared.task.Task.TheVariants as task
use Rattle.zs_core.specs.Running.{RanTask}
use Rattle.zs_core.proofs.TaskKept.{stopped_rest, told_kept}
use Rattle.zs_core.proofs.TaskRan.{stop_ran}
use Rattle.zs_core.proofs.tasks.run_stop.Goals as goal

pub returns-clause-ran : goal.returns-clause-ran
returns-clause-ran c =
    subst (λ (why : Option Refusal). RanTask c.args.txg task.Stop c.args.graph.now c.args.scan.now why c.args.graph.now c.stop.new.self) (sym c.refusal_by.ensures)
    (stop_ran c.args.txg c.args.graph.now c.args.scan.now c.stop.new.self c.stop.result c.stop.ensures.no_scan c.stop.ensures.why c.stop.ensures.ok c.stop.ensures.err)

pub returns-clause-runs_on : goal.returns-clause-runs_on
returns-clause-runs_on c = told_kept c.args.txg c.args.graph.now.sets c.args.scan.now c.stop.new.self c.args.items.now c.stop.result c.stop.ensures.keeps (stopped_rest _ _ _ c.stop.ensures.ok) c.stop.ensures.err
