use Rattle.std.proofs.Common.{true, false, sym, subst}
use Rattle.std.specs.Prelude.{Option}
use Rattle.zs_script.specs.declared.refusal.Refusal.{Refusal}
use Rattle.zs_txg.specs.declared.task.Task.TheVariants as task
use Rattle.zs_core.specs.Running.{RanTask}
use Rattle.zs_core.proofs.TaskKept.{paused_rest, told_kept}
use Rattle.zs_core.proofs.TaskRan.{resume_ran}
use Rattle.zs_core.proofs.tasks.run_resume.Goals as goal

pub returns-clause-ran : goal.returns-clause-ran
returns-clause-ran c =
    subst (λ (why : Option Refusal). RanTask c.args.txg task.Resume c.args.graph.now c.args.scan.now why c.args.graph.now c.resume.new.self) (sym c.refusal_by.ensures)
    (resume_ran c.args.txg c.args.graph.now c.args.scan.now c.resume.new.self c.resume.result c.resume.ensures.not_paused c.resume.ensures.why c.resume.ensures.ok c.resume.ensures.err)

pub returns-clause-runs_on : goal.returns-clause-runs_on
returns-clause-runs_on c = told_kept c.args.txg c.args.graph.now.sets c.args.scan.now c.resume.new.self c.args.items.now c.resume.result c.resume.ensures.keeps (paused_rest false _ _ _ c.resume.ensures.ok) c.resume.ensures.err
