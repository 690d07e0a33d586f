use Rattle.zs_core.proofs.TaskKept.{clone_kept}
use Rattle.zs_core.proofs.TaskRan.{answers_ok, clone_ran, found_at}
use Rattle.zs_core.proofs.tasks.run_clone.Goals as goal

pub returns-in-Ok-clause-ran : goal.returns-in-Ok-clause-ran
returns-in-Ok-clause-ran c =
    let at = found_at c.args.graph.now c.facts.ensures c.args.ds.now c.in-Some.snap c.in-Some.ensures in
    clone_ran c.args.txg c.args.ds.now c.args.name.now c.args.graph.now c.args.scan.now at.0 c.in-Some.snap at.1 at.2 at.3 c.clone_of.new.self c.in-Ok.field-0 (answers_ok _ _ c.in-Ok.ensures.answers) c.in-Ok.ensures.made

pub returns-in-Ok-clause-runs_on : goal.returns-in-Ok-clause-runs_on
returns-in-Ok-clause-runs_on c =
    let made = c.in-Ok.ensures.made in
    clone_kept c.clone_law.ensures c.args.txg c.args.graph.now.sets c.clone_of.new.self.sets c.args.scan.now c.args.items.now made.on _ _ made.may made.added.frees_none made.now
