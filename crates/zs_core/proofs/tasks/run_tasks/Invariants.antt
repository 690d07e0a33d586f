-- What the tasks so far answered and did is the beginning of what all answer and do, and all stays kept.
use Rattle.std.proofs.Common.{◌≡◌, ◌++◌, ◌+◌, ◌≤◌, drop, length, vec_len, vec_capacity}
use Rattle.zs_graph.specs.Made.{IsUpTo}
use Rattle.zs_machine.specs.Replies.{task_answers, after_tasks}
use Rattle.zs_scan.specs.View.{ScanView}
use Rattle.zs_core.specs.View.{data_of}
use Rattle.zs_core.specs.Running.{HaveRun, RunsOn}
use Rattle.zs_core.proofs.tasks.run_tasks.Given as goal

abbrev pub invariant-loop-task : goal.invariant-loop-task
invariant-loop-task l = record {
  up_to : IsUpTo l.graph.sets l.number;
  answers : l.answers.items ++ task_answers l.number (data_of l.graph l.scan) (drop l.task-index l.task-items) ≡ task_answers l.number (data_of l.fn.graph l.fn.scan) l.txg.tasks;
  room : vec_len l.answers + length l.task-items ≤ vec_capacity l.answers + l.task-index;
  after : after_tasks l.number (data_of l.graph l.scan) (drop l.task-index l.task-items) ≡ after_tasks l.number (data_of l.fn.graph l.fn.scan) l.txg.tasks;
  ran : (w : ScanView) → HaveRun l.number (data_of l.graph l.scan) (drop l.task-index l.task-items) l.scan w → HaveRun l.number (data_of l.fn.graph l.fn.scan) l.txg.tasks l.fn.scan w;
  runs_on : RunsOn l.number l.fn.graph.sets l.fn.scan l.fn.items.items l.graph.sets l.scan l.items.items;
}
