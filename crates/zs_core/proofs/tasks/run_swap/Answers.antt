use Rattle.std.proofs.Common.{ap}
use Rattle.zs_ids.specs.declared.dataset.TheConstants.Name.{EMPTY}
use Rattle.zs_graph.specs.View.{GraphView}
use Rattle.zs_core.proofs.TaskKept.{swap_kept}
use Rattle.zs_core.proofs.TaskRan.{answers_ok, found_at, id_at, swap_ran}
use Rattle.zs_core.proofs.tasks.run_swap.Goals as goal

pub returns-in-Ok-clause-ran : goal.returns-in-Ok-clause-ran
returns-in-Ok-clause-ran c =
    let x = found_at c.args.graph.now c.facts.ensures (record { owner = c.args.first.now; label = EMPTY }) c.in-Some-Some.a c.in-Some-Some.ensures in
    let y = found_at c.args.graph.now c.facts.ensures (record { owner = c.args.second.now; label = EMPTY }) c.in-Some-Some.b c.in-Some-Some.ensures' in
    swap_ran c.args.txg c.args.first.now c.args.second.now c.args.graph.now c.args.scan.now x.0 y.0 c.in-Some-Some.a c.in-Some-Some.b x.1 y.1 x.2 y.2 x.3 y.3 c.swap.new.self c.swapped.new.self (answers_ok _ _ c.in-Ok.ensures.answers) c.in-Ok.ensures.made (record { run = c.swapped.ensures.run; kept = c.swapped.ensures.kept; rest = c.swapped.ensures.rest })

pub returns-in-Ok-clause-runs_on : goal.returns-in-Ok-clause-runs_on
returns-in-Ok-clause-runs_on c =
    let made = c.in-Ok.ensures.made in
    swap_kept c.args.txg c.args.graph.now.sets c.swap.new.self.sets c.args.scan.now c.swapped.new.self c.args.items.now _ _ made.first made.second (id_at _ _ _ made.first_here) (id_at _ _ _ made.second_here) made.may made.frees_none (ap (λ (v : GraphView). v.sets) made.now) c.swapped.ensures.keeps c.swapped.ensures.rest
