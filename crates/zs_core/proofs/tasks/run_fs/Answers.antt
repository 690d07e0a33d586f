use Rattle.zs_ids.specs.GraphValid.{origin}
use Rattle.zs_core.proofs.TaskKept.{clone_kept}
use Rattle.zs_core.proofs.tasks.run_fs.Goals as goal

pub returns-in-Ok-clause-runs_on : goal.returns-in-Ok-clause-runs_on
returns-in-Ok-clause-runs_on c =
    let made = c.in-Ok.ensures.made in
    clone_kept c.clone_law.ensures c.args.txg c.args.graph.now.sets c.make_fs.new.self.sets c.args.scan.now c.args.items.now origin _ _ made.may made.added.frees_none made.now
