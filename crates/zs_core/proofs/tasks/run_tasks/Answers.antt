use Rattle.std.proofs.Common.{ℕ, arith, subst}
use Rattle.zs_core.specs.Running.{RunsOn}
use Rattle.zs_core.proofs.RunsOn.{runs_both}
use Rattle.zs_core.proofs.NextTask.{answers_more, after_more, seen_more}
use Rattle.zs_core.proofs.tasks.run_tasks.Goals as goal

pub returns-in_err-refusal-clause-runs_on : goal.returns-in_err-refusal-clause-runs_on
returns-in_err-refusal-clause-runs_on c =
    subst (λ (n : ℕ). RunsOn n c.args.graph.now.sets c.args.scan.now c.args.items.now.items c.run_task.new.graph.sets c.run_task.new.scan c.run_task.new.items.items) c.txg-number.ensures
    (runs_both c.txg-number.result _ _ _ _ _ _ _ _ _ c.loop-task.invariant.runs_on c.run_task.ensures.runs_on)

pub loop-task-preserved : goal.loop-task-preserved
loop-task-preserved c =
    let ran = c.in_ok-refusal.ensures.ran in
    record {
      up_to = c.run_task.ensures.runs_on.up_to c.loop-task.invariant.up_to;
      answers = answers_more c.txg-number.result _ _ c.queued-task-items.result.now c.loop-task.task-index _ c.loop-task.answers.items c.push_reserved.new.self.items _ c.in_ok-refusal.refusal c.loop-task-test.true ran.answer ran.after c.push_reserved.ensures.items c.loop-task.invariant.answers;
      room = omega (arith, c.loop-task.invariant.room, c.push_reserved.ensures.len, c.push_reserved.ensures.capacity);
      after = after_more c.txg-number.result _ _ _ c.queued-task-items.result.now c.loop-task.task-index _ c.loop-task-test.true ran.after c.loop-task.invariant.after;
      ran = seen_more c.txg-number.result _ _ _ c.queued-task-items.result.now c.args.txg.now.tasks c.loop-task.task-index _ c.args.scan.now c.loop-task.scan c.run_task.new.scan c.loop-task-test.true ran.seen ran.after c.loop-task.invariant.ran;
      runs_on = runs_both c.txg-number.result _ _ _ _ _ _ _ _ _ c.loop-task.invariant.runs_on c.run_task.ensures.runs_on;
    }
