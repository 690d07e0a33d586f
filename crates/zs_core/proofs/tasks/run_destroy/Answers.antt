use Rattle.std.proofs.Common.{ap, sym, ◌∙◌, List, filter, not, subst}
use Rattle.zs_ids.specs.declared.block.Item.{Item}
use Rattle.zs_ids.specs.GraphChange.{AreFreed}
use Rattle.zs_graph.specs.View.{GraphView}
use Rattle.zs_scan.specs.View.{ScanView, has_item, pieces_in}
use Rattle.zs_core.specs.View.{scan_of}
use Rattle.zs_core.proofs.PutLost.{lost_at_once}
use Rattle.zs_core.proofs.RunsOn.{rest_at_freed}
use Rattle.zs_core.proofs.TaskKept.{destroy_kept}
use Rattle.zs_core.proofs.TaskRan.{answers_ok, destroy_ran, found_at, id_at}
use Rattle.zs_core.proofs.tasks.run_destroy.Goals as goal

pub returns-in-Ok-clause-ran : goal.returns-in-Ok-clause-ran
returns-in-Ok-clause-ran c =
    let at = found_at c.args.graph.now c.facts.ensures c.args.ds.now c.in-Some.id c.in-Some.ensures in
    destroy_ran c.args.txg c.args.ds.now c.args.graph.now c.args.scan.now at.0 c.in-Some.id at.1 at.2 at.3 c.destroy.new.self c.destroyed.new.self c.freed_all.new.self c.in-Ok.freed (answers_ok _ _ c.in-Ok.ensures.answers) c.in-Ok.ensures.made (record { run = c.destroyed.ensures.run; kept = c.destroyed.ensures.kept; rest = c.destroyed.ensures.rest })
    (lost_at_once _ _ c.as_slice.result.now c.destroyed.new.self c.freed_all.new.self (subst (λ (l : List Item). AreFreed c.args.graph.now.sets c.destroy.new.self.sets l) (sym c.as_slice.ensures) c.in-Ok.ensures.made.items) c.freed_all.ensures.rest c.freed_all.ensures.marks)
    (ap (λ (v : ScanView). scan_of v) c.freed_all.ensures.rest)

pub returns-in-Ok-clause-runs_on : goal.returns-in-Ok-clause-runs_on
returns-in-Ok-clause-runs_on c =
    let made = c.in-Ok.ensures.made in
    destroy_kept c.args.txg c.args.graph.now.sets c.destroy.new.self.sets c.args.scan.now c.destroyed.new.self c.freed_all.new.self c.args.items.now.items c.drop_freed.new.items.items made.gone c.in-Some.id c.in-Ok.freed.next c.as_slice.result.now (id_at _ _ _ made.here) made.may (subst (λ (l : List Item). AreFreed c.args.graph.now.sets c.destroy.new.self.sets l) (sym c.as_slice.ensures) made.items) (ap (λ (v : GraphView). v.sets) made.now) c.destroyed.ensures.keeps c.destroyed.ensures.rest c.freed_all.ensures.keeps (rest_at_freed c.destroyed.new.self c.freed_all.new.self (pieces_in c.as_slice.result.now) c.freed_all.ensures.rest) (c.drop_freed.ensures ∙ ap (λ (l : List Item). filter (λ i. not (has_item l i.piece)) c.args.items.now.items) (c.as_slice-in-Ok.ensures ∙ sym c.as_slice.ensures))
