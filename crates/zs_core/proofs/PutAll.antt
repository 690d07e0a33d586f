-- Blocks are put over the datasets' own, dataset after dataset: what is so far.
use Rattle.std.specs.Prelude.{◌≡◌, ◌≢◌, ◌<◌, ◌+◌, ℕ, List, [], ◌∷◌, ◌++◌, length, take, None, refl}
use Rattle.std.proofs.Common.{sym, ◌∙◌, ap, subst, arith, get_or, suc, add-one}
use Rattle.std.proofs.lemmas.List.{take_all}
use Rattle.zs_ids.specs.declared.key.Key.{Key}
use Rattle.zs_ids.specs.declared.block.Bp.{Bp}
use Rattle.zs_ids.specs.declared.block.Piece.{Piece}
use Rattle.zs_ids.specs.Graph.{Dataset, Graph}
use Rattle.zs_ids.specs.GraphTree.{dataset_at}
use Rattle.zs_ids.specs.GraphValid.{IsInIdOrder, IsWithin}
use Rattle.zs_ids.specs.GraphChange.{AreFreed, applied}
use Rattle.zs_graph.specs.Made.{IsUpTo, MayPutAt}
use Rattle.zs_graph.specs.Refusals.{apply_refusal}
use Rattle.zs_graph.specs.View.{GraphView}
use Rattle.zs_graph.proofs.Lists.{some_is}
use Rattle.zs_txg.specs.Txg.{Open}
use Rattle.zs_scan.specs.View.{ScanView, pieces_in}
use Rattle.zs_scan.specs.Covered.{IsScanOf}
use Rattle.zs_machine.specs.Born.{AreBornItems}
use Rattle.zs_machine.specs.Steps.{AreWritten}
use Rattle.zs_core.specs.declared.parts.Changes.{Changes}
use Rattle.zs_core.specs.Placed.{room_of}
use Rattle.zs_core.specs.Datasets.{AreDatasets}
use Rattle.zs_core.specs.Freeing.{FreesAll}
use Rattle.zs_core.specs.Applying.{Space, IsTended, IsReady, PutsBlocks, PutsOwn, HasPut, BringForth}
use Rattle.zs_core.specs.Running.{KeepsRest}
use Rattle.zs_core.proofs.RunsOn.{rest_at_freed}
use Rattle.zs_core.specs.View.{txg_of}
use Rattle.zs_core.proofs.PutOver.{put_over, over_none, none_next, next_at, all_written, IsNext}
use Rattle.zs_core.proofs.PutApart.{datasets_over, without_staged}
use Rattle.zs_core.proofs.PutMay.{may_at, allowed, found}
use Rattle.zs_core.proofs.PutRoom.{blocks_with, within, scan_with}
use Rattle.zs_core.proofs.PutLost.{HaveLeft, left_none, left_both, are_gone, frees_none, frees_both}
use Rattle.zs_core.proofs.PutStep.{back, before}
use Rattle.zs_core.proofs.PutBorn.{all_born}

-- the blocks of the first i datasets were put over their own, and what they replaced was freed
pub record IsPutUpTo (space : Space) (o : Open) (changes : List Changes) (old : GraphView) (first : ScanView) (i : ℕ) (new : GraphView) (v : ScanView) : Type 0 where
  pub graph : new ≡ record old { sets = put_over old.sets (take i changes) }
  pub blocks : ℕ
  pub scan : IsScanOf (room_of space.start space.end blocks) new.sets o.txg o.txg v
  pub pieces : List Piece
  pub left : HaveLeft pieces old.sets new.sets
  pub freed : FreesAll pieces first v

-- at first none
pub none_put : (space : Space) (o : Open) (changes : List Changes) (old : GraphView) (first : ScanView) → IsReady space o changes old.sets first → IsPutUpTo space o changes old first 0 old first
none_put space o changes old first ready = record {
  graph = ap (λ (s : Graph). record old { sets = s }) (sym (over_none old.sets));
  blocks = ready.blocks;
  scan = ready.scan;
  pieces = [];
  left = left_none old.sets;
  freed = frees_none first;
}

-- datasets with a scan that may be written are tended, as they stand
pub ready_tended : (space : Space) (o : Open) (changes : List Changes) (g : Graph) (v : ScanView) → IsReady space o changes g v → IsTended space o.txg g v
ready_tended space o changes g v ready = record {
  datasets = without_staged g o.txg space.start space.next (λ d h. let f = ready.datasets.formed d h in (f.size, f.formed)) ready.datasets.live;
  blocks = ready.blocks;
  scan = ready.scan;
}

-- no block is born and no dataset created after the transaction group
pub tended_up_to : (space : Space) (t : ℕ) (g : Graph) (v : ScanView) → IsTended space t g v → IsUpTo g t
tended_up_to space t g v tended = record {
  births = λ d e h i. ((tended.datasets.formed d h).formed.each e i).born;
  creations = λ d h. tended.scan.covered.valid.graph.tree.created d h;
}

module _ (space : Space) (o : Open) (changes : List Changes) (old : GraphView) (first : ScanView) (ready : IsReady space o changes old.sets first) where
  order : IsInIdOrder old.sets
  order = ready.scan.covered.valid.graph.tree.in_order

  is_next : (i : ℕ) (none : Changes) → i < length changes → IsNext old.sets o changes i (get_or changes i none)
  is_next i none below = next_at old.sets o changes i none order ready.made below

  module _ (i : ℕ) (new : GraphView) (v : ScanView) (put : IsPutUpTo space o changes old first i new v) where
    sets : new.sets ≡ put_over old.sets (take i changes)
    sets = ap (λ (x : GraphView). x.sets) put.graph

    -- the datasets and the scan are tended
    pub put_tended : IsTended space o.txg new.sets v
    put_tended = record {
      datasets = subst (λ (g : Graph). AreDatasets g o.txg space.start space.next []) (sym sets) (datasets_over old.sets o changes space.start space.next ready.datasets ready.made i);
      blocks = put.blocks;
      scan = put.scan;
    }

    pub put_rest : KeepsRest first v
    put_rest = rest_at_freed first v _ put.freed.rest

    module _ (none : Changes) (below : i < length changes) where
      abbrev own : Changes
      own = get_or changes i none

      -- the blocks of the next dataset may be put over its own
      may_put_next : own.blocks.items ≢ [] → MayPutAt new.sets own.ds own.blocks.items o.txg
      may_put_next some =
          subst (λ (g : Graph). MayPutAt g own.ds own.blocks.items o.txg) (sym sets) (may_at old.sets o changes space.start space.next ready.datasets ready.older ready.later ready.made order ready.scan.covered.valid.graph.apart i own (is_next i none below) some)

      next_allowed : own.blocks.items ≢ [] → apply_refusal new own.ds ≡ None
      next_allowed some = allowed old.sets o changes space.start space.next ready.datasets ready.older ready.later ready.made order ready.scan.covered.valid.graph.apart i own (is_next i none below) some new sets

      -- where there are none nothing changes
      none_more : own.blocks.items ≡ [] → IsPutUpTo space o changes old first (suc i) new v
      none_more is = record {
        graph = put.graph ∙ ap (λ (g : Graph). record old { sets = g }) (sym (none_next old.sets changes i none below is));
        blocks = put.blocks;
        scan = put.scan;
        pieces = put.pieces;
        left = put.left;
        freed = put.freed;
      }

      module _ (after : GraphView) (w : ScanView) (some : own.blocks.items ≢ []) (puts : PutsBlocks o.txg own new v after w) where
        n : IsNext old.sets o changes i own
        n = is_next i none below

        to : puts.applied.to ≡ n.d
        to =
            some_is puts.applied.to n.d (sym puts.applied.here ∙ ap (λ (g : Graph). dataset_at g own.ds) sets ∙ found old.sets o changes space.start space.next ready.datasets ready.older ready.later ready.made order ready.scan.covered.valid.graph.apart i own n some)

        graph_after : after ≡ record old { sets = put_over old.sets (take (suc i) changes) }
        graph_after =
            puts.applied.now
            ∙ ap (λ (d : Dataset). record new { sets = applied new.sets d own.blocks.items }) to
            ∙ ap (λ (x : GraphView). record x { sets = applied x.sets n.d own.blocks.items }) put.graph
            ∙ ap (λ (g : Graph). record old { sets = g }) (sym n.next)

        sets_after : after.sets ≡ put_over old.sets (take (suc i) changes)
        sets_after = ap (λ (x : GraphView). x.sets) graph_after

        in_room : IsWithin (room_of space.start space.end (blocks_with put.blocks after.sets)) after.sets
        in_room = within after.sets o.txg space.start space.next space.end put.blocks (subst (λ (g : Graph). AreDatasets g o.txg space.start space.next []) (sym sets_after) (datasets_over old.sets o changes space.start space.next ready.datasets ready.made (suc i))) ready.in_space

        freed_between : AreFreed (put_over old.sets (take i changes)) (put_over old.sets (take (suc i) changes)) puts.freed.items
        freed_between = subst (λ (g : Graph). AreFreed g (put_over old.sets (take (suc i) changes)) puts.freed.items) sets (subst (λ (g : Graph). AreFreed new.sets g puts.freed.items) sets_after puts.applied.items)

        left_after : HaveLeft (put.pieces ++ pieces_in puts.freed.items) old.sets (put_over old.sets (take (suc i) changes))
        left_after =
            left_both put.pieces puts.freed.items old.sets (put_over old.sets (take i changes)) (put_over old.sets (take (suc i) changes)) (subst (λ (g : Graph). HaveLeft put.pieces old.sets g) sets put.left) freed_between (back old.sets o changes space.start space.next ready.datasets ready.older order i own n) (before old.sets o changes space.start space.next ready.datasets ready.older order i own n)

        -- where there are some they are put
        some_more : IsPutUpTo space o changes old first (suc i) after w
        some_more = record {
          graph = graph_after;
          blocks = blocks_with put.blocks after.sets;
          scan = puts.scanned (room_of space.start space.end (blocks_with put.blocks after.sets)) in_room (scan_with space.start space.end put.blocks (blocks_with put.blocks after.sets) o.txg o.txg new.sets v (omega arith) put.scan);
          pieces = put.pieces ++ pieces_in puts.freed.items;
          left = subst (λ (g : Graph). HaveLeft (put.pieces ++ pieces_in puts.freed.items) old.sets g) (sym sets_after) left_after;
          freed = frees_both put.pieces (pieces_in puts.freed.items) first v w put.freed puts.lost;
        }

      -- the blocks of one dataset more are put
      one_more : (after : GraphView) (w : ScanView) → PutsOwn o.txg own new v after w → IsPutUpTo space o changes old first (i + 1) after w
      one_more after w puts = subst (λ (k : ℕ). IsPutUpTo space o changes old first k after w) (sym (add-one i)) (go own.blocks.items refl)
        where
          go : (l : List (Key × Bp)) → own.blocks.items ≡ l → IsPutUpTo space o changes old first (suc i) after w
          go [] is =
              let same = puts.none is in
              subst (λ (x : GraphView). IsPutUpTo space o changes old first (suc i) x w) (sym same.0) (subst (λ (x : ScanView). IsPutUpTo space o changes old first (suc i) new x) (sym same.1) (none_more is))
          go (x ∷ xs) is =
              let some : own.blocks.items ≢ [] = λ none. let long : suc (length xs) ≡ 0 = ap (λ (l : List (Key × Bp)). length l) (sym is ∙ none) in absurd (omega (arith, long)) in
              some_more after w some (puts.some some)

      -- so as the loop has them
      pub asks_may : (t : ℕ) → t ≡ o.txg → none ≡ own → none.blocks.items ≢ [] → MayPutAt new.sets none.ds none.blocks.items t
      asks_may t same is =
          subst (λ (k : ℕ). none.blocks.items ≢ [] → MayPutAt new.sets none.ds none.blocks.items k) (sym same) (subst (λ (x : Changes). x.blocks.items ≢ [] → MayPutAt new.sets x.ds x.blocks.items o.txg) (sym is) may_put_next)

      pub asks_allowed : none ≡ own → none.blocks.items ≢ [] → apply_refusal new none.ds ≡ None
      asks_allowed is = subst (λ (x : Changes). x.blocks.items ≢ [] → apply_refusal new x.ds ≡ None) (sym is) next_allowed

      pub goes_on : (t : ℕ) (after : GraphView) (w : ScanView) → t ≡ o.txg → none ≡ own → PutsOwn t none new v after w → IsPutUpTo space o changes old first (i + 1) after w
      goes_on t after w same is puts =
          one_more after w (subst (λ (k : ℕ). PutsOwn k own new v after w) same (subst (λ (x : Changes). PutsOwn t x new v after w) is puts))

  module _ (new : GraphView) (v : ScanView) (put : IsPutUpTo space o changes old first (length changes) new v) where
    all_sets : new.sets ≡ put_over old.sets changes
    all_sets = sets (length changes) new v put ∙ ap (λ (cs : List Changes). put_over old.sets cs) (take_all (length changes) changes (omega arith))

    -- once all were put
    pub has_put : HasPut o old first new v
    has_put = record {
      written = subst (λ (g : Graph). AreWritten (txg_of o) old.sets g) (sym all_sets) (all_written old.sets o changes ready.made);
      next = ap (λ (x : GraphView). x.next) put.graph;
      lost = record { pieces = put.pieces; gone = are_gone put.pieces old.sets new.sets put.left; freed = put.freed };
    }

    pub bring_forth : BringForth changes o.txg new.sets
    bring_forth = record {
      born = λ items same sorted. subst (λ (g : Graph). AreBornItems g o.txg items) (sym all_sets) (all_born old.sets o space.start space.next ready.datasets ready.older order changes ready.made items same sorted);
    }
