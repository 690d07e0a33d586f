use Rattle.std.proofs.Common.{true, false, sym, subst}
use Rattle.std.specs.Prelude.{Option}
use Rattle.zs_script.specs.declared.refusal.Refusal.{Refusal}
use Rattle.zs_txg.specs.declared.task.Task.TheVariants as task
use Rattle.zs_core.specs.Running.{RanTask}
use Rattle.zs_core.proofs.TaskKept.{paused_rest, told_kept}
use Rattle.zs_core.proofs.TaskRan.{pause_ran}
use Rattle.zs_core.proofs.tasks.run_pause.Goals as goal

pub returns-clause-ran : goal.returns-clause-ran
returns-clause-ran c =
    subst (λ (why : Option Refusal). RanTask c.args.txg task.Pause c.args.graph.now c.args.scan.now why c.args.graph.now c.pause.new.self) (sym c.refusal_by.ensures)
    (pause_ran c.args.txg c.args.graph.now c.args.scan.now c.pause.new.self c.pause.result c.pause.ensures.no_scan c.pause.ensures.paused c.pause.ensures.why c.pause.ensures.ok c.pause.ensures.err)

pub returns-clause-runs_on : goal.returns-clause-runs_on
returns-clause-runs_on c = told_kept c.args.txg c.args.graph.now.sets c.args.scan.now c.pause.new.self c.args.items.now c.pause.result c.pause.ensures.keeps (paused_rest true _ _ _ c.pause.ensures.ok) c.pause.ensures.err
