use Rattle.std.proofs.Common.{◌≡◌, ◌∙◌, List, sym, map, subst}
use Rattle.std.specs.List.Sorted.{IsPermutation}
use Rattle.zs_ids.specs.declared.block.Item.{Item}
use Rattle.zs_scan.specs.Walks.{item_of}
use Rattle.zs_machine.specs.Born.{AreBornItems}
use Rattle.zs_core.specs.declared.parts.Changes.{Changes}
use Rattle.zs_core.specs.Applying.{BringForth}
use Rattle.zs_core.specs.Synced.{AreItemsOf}
use Rattle.zs_core.specs.View.{pointers_of_all}
use Rattle.zs_core.proofs.PutAll.{ready_tended}
use Rattle.zs_core.proofs.PutGroup.{ran_tended, ran_items}
use Rattle.zs_core.proofs.apply.apply_group.Goals as goal

pub returns-in_err-reserve-clause-tended : goal.returns-in_err-reserve-clause-tended
returns-in_err-reserve-clause-tended g c = ready_tended g.space c.args.closed.now.txg c.args.closed.now.changes.items c.args.graph.now.sets c.args.scan.now c.requires.0

pub returns-in_err-items-clause-tended : goal.returns-in_err-items-clause-tended
returns-in_err-items-clause-tended g c = ready_tended g.space c.args.closed.now.txg c.args.closed.now.changes.items c.args.graph.now.sets c.args.scan.now c.requires.0

pub returns-in_err-run_tasks-clause-tended : goal.returns-in_err-run_tasks-clause-tended
returns-in_err-run_tasks-clause-tended g c = ran_tended g.space c.args.closed.now.txg.txg _ _ _ _ _ _ c.put_all.ensures.tended c.run_tasks.ensures.runs_on

pub returns-in_err-items-2-clause-tended : goal.returns-in_err-items-2-clause-tended
returns-in_err-items-2-clause-tended g c = ran_tended g.space c.args.closed.now.txg.txg _ _ _ _ _ _ c.put_all.ensures.tended c.run_tasks.ensures.runs_on

pub returns-clause-ok : goal.returns-clause-ok
returns-clause-ok g c =
    let is : c.in_ok-items-2.items ≡ c.run_tasks.new.items.items = c.in_ok-items-2.ensures ∙ c.from_vec.ensures in
    let bring : BringForth c.args.closed.now.changes.items c.args.closed.now.txg.txg c.put_all.new.graph.sets = subst (λ (cs : List Changes). BringForth cs c.args.closed.now.txg.txg c.put_all.new.graph.sets) c.deref-2.ensures.value c.in_ok-put_all.ensures.born in
    let same : IsPermutation (map (λ d. item_of d.1) (pointers_of_all c.args.closed.now.changes.items)) c.in_ok-items.items.items = subst (λ (cs : List Changes). IsPermutation (map (λ d. item_of d.1) (pointers_of_all cs)) c.in_ok-items.items.items) c.deref.ensures.value c.in_ok-items.ensures.all in
    record {
      mid = c.put_all.new.graph;
      freed = c.put_all.new.scan;
      put = c.in_ok-put_all.ensures.ok;
      answered = c.in_ok-run_tasks.ensures.answers;
      ran = c.in_ok-run_tasks.ensures.after;
      seen = c.in_ok-run_tasks.ensures.ran;
      born = subst (λ (l : List Item). AreBornItems c.run_tasks.new.graph.sets c.args.closed.now.txg.txg l) (sym is) (c.run_tasks.ensures.runs_on.born (bring.born c.in_ok-items.items.items same c.in_ok-items.ensures.sorted));
      are_items = subst (λ (l : List Item). AreItemsOf (pointers_of_all c.args.closed.now.changes.items) l) (sym is) (ran_items c.args.closed.now.txg.txg (pointers_of_all c.args.closed.now.changes.items) _ _ _ _ c.in_ok-items.items.items _ same c.run_tasks.ensures.runs_on);
    }

pub returns-clause-tended : goal.returns-clause-tended
returns-clause-tended g c = ran_tended g.space c.args.closed.now.txg.txg _ _ _ _ _ _ c.put_all.ensures.tended c.run_tasks.ensures.runs_on
