use Rattle.zs_ids.specs.declared.dataset.TheConstants.Name.{EMPTY}
use Rattle.zs_core.proofs.TaskKept.{snapshot_kept}
use Rattle.zs_core.proofs.TaskRan.{answers_ok, found_at, id_at, snap_ran}
use Rattle.zs_core.proofs.tasks.run_snap.Goals as goal

pub returns-in-Ok-clause-ran : goal.returns-in-Ok-clause-ran
returns-in-Ok-clause-ran c =
    let at = found_at c.args.graph.now c.facts.ensures (record { owner = c.args.head.now; label = EMPTY }) c.in-Some.id c.in-Some.ensures in
    snap_ran c.args.txg c.args.head.now c.args.label.now c.args.graph.now c.args.scan.now at.0 c.in-Some.id at.1 at.2 at.3 c.snapshot.new.self c.snapshotted.new.self c.in-Ok.snap (answers_ok _ _ c.in-Ok.ensures.answers) c.in-Ok.ensures.made (record { run = c.snapshotted.ensures.run; kept = c.snapshotted.ensures.kept; rest = c.snapshotted.ensures.rest })

pub returns-in-Ok-clause-runs_on : goal.returns-in-Ok-clause-runs_on
returns-in-Ok-clause-runs_on c =
    let made = c.in-Ok.ensures.made in
    snapshot_kept c.args.txg c.args.graph.now.sets c.snapshot.new.self.sets c.args.scan.now c.snapshotted.new.self c.args.items.now c.in-Some.id made.of c.in-Ok.snap c.args.label.now (id_at _ _ _ made.here) made.may made.added.frees_none made.now c.snapshotted.ensures.keeps c.snapshotted.ensures.rest
