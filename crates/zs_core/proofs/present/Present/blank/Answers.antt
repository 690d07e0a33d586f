-- What is true of a pool that is being made: nothing is staged, and the scan never ran.
use Rattle.std.proofs.Common.{rules, ◌≡◌, ◌∙◌, ap, arith, [], ◌∷◌, ◌++◌}
use Rattle.std.specs.Prelude.{List}
use Rattle.zs_ids.specs.GraphValid.{origin}
use Rattle.zs_graph.specs.View.{GraphView}
use Rattle.zs_scan.specs.View.{ScanView}
use Rattle.zs_txg.specs.Txg.{Open}
use Rattle.zs_core.specs.declared.parts.Changes.{Changes}
use Rattle.zs_core.specs.Placed.{room_of}
use Rattle.zs_machine.specs.Shapes.{data_start}
use Rattle.zs_core.proofs.Blank.{blank_changes, blank_datasets, blank_valid}
use Rattle.zs_machine.proofs.ShapeSizes.{start_below}
use Rattle.zs_core.proofs.present.Present.blank.Goals as goal
use mathlib.Core.Logic.{inr}

pub invariant_of-result : goal.invariant_of-result
invariant_of-result c =
    let start = data_start c.args.shape.blocks in
    let blank_is = c.in_ok-scan.ensures.blank in
    let alone = ap (λ (v : GraphView). v.sets) c.in_ok-graph.ensures in
    record {
      shape = c.requires;
      online = search rules;
      end = c.space_end-end_sector.ensures;
      width = ap (λ (v : ScanView). v.scope.width) blank_is;
      begun = rw c.data_start-next_sector.ensures (omega arith);
      space = rw c.data_start-next_sector.ensures (start_below c.args.shape c.space_end-end_sector.result c.requires c.space_end-end_sector.ensures);
      datasets = rw (alone, ap (λ (o : Open). o.staged) c.new-first.ensures) (blank_datasets start c.data_start-next_sector.result);
      one_staged = ap (λ (o : Open). o.staged) c.new-open.ensures;
      since = inr alone;
      blocks = 64;
      scan = rw alone (c.in_ok-scan.ensures.fresh (room_of start c.space_end-end_sector.result 64) (origin ∷ []) 1 1 (omega arith) (blank_valid (room_of start c.space_end-end_sector.result 64) 1 (omega arith)));
      range = let none : c.in_ok-scan.scan.scope.max ≡ 0 = ap (λ (v : ScanView). v.scope.max) blank_is in omega (arith, none);
      may_wait = ap (λ (v : ScanView). v.limit) blank_is;
      due = ap (λ (v : ScanView). v.every) blank_is;
      at_stage = λ up. record {
        number = ap (λ (o : Open). o.txg) c.new-first.ensures;
        next = ap (λ (o : Open). o.txg) c.new-open.ensures;
        changes = rw alone (blank_changes c.new-first.result c.push.new.self.items c.new-none.result (ap (λ (o : Open). o.staged) c.new-first.ensures) c.new-none.ensures.items (c.in_ok-push.ensures.items ∙ ap (λ (l : List Changes). l ++ record { ds = origin.id; blocks = c.new-none.result } ∷ []) c.new-changes.ensures.items));
      };
      limit = let two : c.new-open.result.txg ≡ 2 = ap (λ (o : Open). o.txg) c.new-open.ensures in omega (arith, two);
    }
