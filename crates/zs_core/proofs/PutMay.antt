-- The blocks that are staged for the next dataset may be put over its own.
use Rattle.std.specs.Prelude.{◌≡◌, ◌≢◌, ◌<◌, ℕ, true, List, [], ◌∷◌, take, Some, None, refl}
use Rattle.std.proofs.Common.{sym, ◌∙◌, subst, inl, suc}
use Rattle.zs_ids.specs.declared.key.Key.{Key}
use Rattle.zs_ids.specs.declared.block.Bp.{Bp}
use Rattle.zs_ids.specs.Blocks.{entries_with}
use Rattle.zs_ids.specs.Graph.{Dataset, Graph, Has}
use Rattle.zs_ids.specs.GraphTree.{dataset_at, start_of}
use Rattle.zs_ids.specs.GraphValid.{AreApart, IsInIdOrder}
use Rattle.zs_ids.specs.GraphChange.{MayPut}
use Rattle.zs_graph.specs.Made.{MayPutAt}
use Rattle.zs_graph.specs.Refusals.{apply_refusal}
use Rattle.zs_graph.specs.View.{GraphView}
use Rattle.zs_graph.proofs.Lists.{some_is}
use Rattle.zs_graph.proofs.Graphs.{one_dataset, dataset_is}
use Rattle.zs_txg.specs.Txg.{Open, staged_for}
use Rattle.zs_machine.specs.Steps.{AreChanges}
use Rattle.zs_core.specs.declared.parts.Changes.{Changes}
use Rattle.zs_core.specs.Datasets.{AreDatasets, IsFormedWith, IsHeadsId}
use Rattle.zs_core.specs.Kept.{AreChangesOf}
use Rattle.zs_core.proofs.PutEntries.{AreMade, are_made}
use Rattle.zs_core.proofs.PutFormed.{formed_after, has_blocks}
use Rattle.zs_core.proofs.PutOver.{put_over, order_over, start_over, IsNext}
use Rattle.zs_core.proofs.PutApart.{staged_is, apart_over}

module _ (g : Graph) (o : Open) (changes : List Changes) (start next : ℕ) (datasets : AreDatasets g o.txg start next o.staged) (older : (d : Dataset) (e : Key × Bp) → Has g d → Has d.entries e → e.1.birth < o.txg) (later : (d : Dataset) → Has g d → d.head ≡ true → start_of g d.parent < o.txg) (are : AreChangesOf g o changes) (order : IsInIdOrder g) where
  made_of : (d : Dataset) (here : Has g d) (cs : List (Key × Bp)) → AreChanges d.entries (staged_for o.staged d.id) o.txg cs → AreMade o.txg (staged_for o.staged d.id) cs
  made_of d here cs are_cs =
      let f : IsFormedWith o.txg d (staged_for o.staged d.id) = datasets.formed d here in
      are_made f.size d.id d.entries (staged_for o.staged d.id) o.txg cs f.staged are_cs

  -- a dataset for which there are changes is a head
  head_of : (d : Dataset) → Has g d → (cs : List (Key × Bp)) → AreChanges d.entries (staged_for o.staged d.id) o.txg cs → cs ≢ [] → d.head ≡ true
  head_of d here cs are_cs some = go cs refl
    where
      go : (l : List (Key × Bp)) → cs ≡ l → d.head ≡ true
      go [] is = absurd (some is)
      go (c ∷ l) is =
          let r = (made_of d here cs are_cs).from c (subst (λ (k : List (Key × Bp)). Has k c) (sym is) (inl refl)) in
          let s = staged_is o.staged d.id r.0 r.1 in
          let h : IsHeadsId g (r.0).0.0 = datasets.heads r.0 s.0 in
          subst (λ (x : Dataset). x.head ≡ true) (one_dataset g order h.head d h.here here (h.named ∙ s.1)) h.is_head

  module _ (apart : AreApart g) (i : ℕ) (c : Changes) (n : IsNext g o changes i c) (some : c.blocks.items ≢ []) where
    head_now : n.d.head ≡ true
    head_now = head_of n.d n.here c.blocks.items n.are some

    pub may_put : MayPut (put_over g (take i changes)) n.d c.blocks.items o.txg
    may_put =
        let f : IsFormedWith o.txg n.d (staged_for o.staged n.d.id) = datasets.formed n.d n.here in
        let m : AreMade o.txg (staged_for o.staged n.d.id) c.blocks.items = made_of n.d n.here c.blocks.items n.are in
        record {
          here = n.now;
          is_head = head_now;
          later = subst (λ (k : ℕ). k < o.txg) (sym (start_over g (take i changes) n.d.parent)) (later n.d n.here head_now);
          older = λ e h. older n.d e n.here h;
          born = λ e h. (m.from e h).2.born;
          in_order = m.in_order;
          blocks = has_blocks f.size o.txg (record n.d { entries = entries_with n.d.entries c.blocks.items }) head_now (formed_after f.size n.d.id o.txg n.d.entries c.blocks.items (staged_for o.staged n.d.id) f.formed f.staged n.are);
          apart = subst AreApart n.next (apart_over g o changes start next datasets are (suc i) apart);
        }

    -- the dataset is found by its id
    pub found : dataset_at (put_over g (take i changes)) c.ds ≡ Some n.d
    found = dataset_is (put_over g (take i changes)) (order_over g (take i changes) order) n.d c.ds n.now (sym n.named)

    pub may_at : MayPutAt (put_over g (take i changes)) c.ds c.blocks.items o.txg
    may_at d at head = subst (λ (x : Dataset). MayPut (put_over g (take i changes)) x c.blocks.items o.txg) (some_is n.d d (sym found ∙ at)) may_put

    -- and none of it is refused
    pub allowed : (v : GraphView) → v.sets ≡ put_over g (take i changes) → apply_refusal v c.ds ≡ None
    allowed v is = rw (is, found, head_now) refl
