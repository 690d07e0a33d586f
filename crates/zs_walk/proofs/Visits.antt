-- Which turn comes, from what the walk has tested.
use Rattle.std.proofs.Common.{◌≡◌, ◌+◌, ◌&&◌, ℕ, Bool, true, false, not, List, [], ◌∷◌, drop, refl, sym, ap, subst, ◌∙◌, arith}
use Rattle.std.specs.Prelude.{Option, Some, None, slice_get}
use Rattle.zs_ids.specs.declared.key.Key.{Key}
use Rattle.zs_ids.specs.declared.block.Bp.{Bp}
use Rattle.zs_ids.specs.declared.dataset.DsId.{DsId}
use Rattle.zs_ids.specs.Blocks.{first_from}
use Rattle.zs_ids.specs.Graph.{Has, Dataset, Graph}
use Rattle.zs_ids.specs.GraphTree.{dataset_at, entries_of, next_in}
use Rattle.zs_ids.specs.GraphValid.{IsBlock}
use Rattle.zs_ids.specs.GraphValid.IsBlock.{root, dnodes, inner, leaf}
use Rattle.zs_phys.specs.declared.scope.Scope.{Scope}
use Rattle.zs_phys.specs.declared.phys.Phys.{Phys}
use Rattle.zs_phys.specs.declared.phys.At.TheVariants as ats
use Rattle.zs_phys.specs.declared.phys.Status.{Status}
use Rattle.zs_phys.specs.declared.phys.Status.TheVariants.{Never, Scanning, Finished, Canceled}
use Rattle.zs_phys.specs.declared.step.Step.{Step}
use Rattle.zs_phys.specs.declared.step.Step.TheVariants as steps
use Rattle.zs_phys.specs.declared.todos.Todo.{Todo}
use Rattle.zs_phys.specs.Turn.{Comes, IsWalking, HasNoWork}
use Rattle.zs_phys.specs.Turn.Comes.{rests, leaves, skips, enters, meets, ends}
use Rattle.zs_phys.specs.Turn.HasNoWork.{no_scan, paused}
use Rattle.zs_graph.proofs.Lists.{some_is, some≢none}
use Rattle.zs_graph.proofs.Graphs.{dataset_is}
use Rattle.zs_graph.proofs.Keys.{found_from}
use Rattle.zs_cover.proofs.States.{here-pending}
use Rattle.zs_walk.specs.Walking.{MayWalk, IsOfDataset, MeetsBlock, is_walking, runs}

-- the first dataset of a queue, and the queue that has none
pub first_is : (todo : List Todo) (q : Todo) → Some q ≡ slice_get todo 0 → todo ≡ q ∷ drop 1 todo
first_is [] q e = absurd (some≢none q e)
first_is (x ∷ xs) q e = ap (λ (y : Todo). y ∷ xs) (some_is x q (sym e))

pub none_is : (todo : List Todo) → None ≡ slice_get todo 0 → todo ≡ []
none_is [] e = refl
none_is (x ∷ xs) e = absurd (some≢none x (sym e))

-- whether the walk may go on
pub walks : (s : Phys) → is_walking s ≡ true → IsWalking s
walks s e = go s.status refl s.paused refl e
  where
    go : (a : Status) → s.status ≡ a → (b : Bool) → s.paused ≡ b → (runs a && not b) ≡ true → IsWalking s
    go Scanning is false on t = record { scans = is; goes_on = on }
    go Scanning is true on t = cc
    go Never is b on t = cc
    go Finished is b on t = cc
    go Canceled is b on t = cc

pub idles : (s : Phys) → is_walking s ≡ false → HasNoWork s
idles s e = go s.status refl s.paused refl e
  where
    go : (a : Status) → s.status ≡ a → (b : Bool) → s.paused ≡ b → (runs a && not b) ≡ false → HasNoWork s
    go Scanning is false on t = cc
    go Scanning is true on t = paused on
    go Never is b on t = no_scan (λ scans. let e : Never ≡ Scanning = sym is ∙ scans in cc)
    go Finished is b on t = no_scan (λ scans. let e : Finished ≡ Scanning = sym is ∙ scans in cc)
    go Canceled is b on t = no_scan (λ scans. let e : Canceled ≡ Scanning = sym is ∙ scans in cc)

-- a block of a dataset has a key right behind its own, and one to three places
block_is : (levels size : ℕ) (e : Key × Bp) → IsBlock levels size e → IsOfDataset e.0 e.1
block_is levels size e block = elim block [
  | root k f ↦ let d : e.0.depth ≡ 0 = ap (λ (x : Key). x.depth) k in record { shallow = omega (arith, d); some = f.some; few = f.few }
  | dnodes j lt k f ↦ let d : e.0.depth ≡ 1 = ap (λ (x : Key). x.depth) k in record { shallow = omega (arith, d); some = f.some; few = f.few }
  | inner l up below k f ↦ let d : e.0.depth + l ≡ 3 = k.depth in record { shallow = omega (arith, d); some = f.some; few = f.few }
  | leaf some k f ↦ let d : e.0.depth + 0 ≡ 3 = k.depth in record { shallow = omega (arith, d); some = f.some; few = f.few }
]

module _ (g : Graph) (scope : Scope) (s : Phys) (may : MayWalk g scope s) where
  -- the block that a dataset gives
  given : (d : Dataset) (from k : Key) (bp : Bp) → Has g d → first_from d.entries from s.curmin ≡ Some (k, bp) → IsOfDataset k bp
  given d from k bp here found =
      let f = found_from d.entries from s.curmin (k, bp) found in
      let b = may.valid.graph.holds d here in
      block_is (b.levels k.object) (b.size k.object) (k, bp) (b.blocks (k, bp) f.0)

  -- the block that a turn meets
  pub met : (step : Step) → Comes g scope s step → MeetsBlock step
  met _ (rests no_work) = tt
  met _ (leaves walking at) = tt
  met _ (skips q qs walking at todo over) = tt
  met _ (enters q qs walking at todo under) = tt
  met _ (meets d k e walking here at found) = given d k e.0 e.1 here found
  met _ (ends d k walking here at none) = tt

  -- the dataset that the state is at
  here_is : (id : DsId) (k : Key) → s.at ≡ ats.Dataset id k → (d : Dataset) × Has g d × (d.id ≡ id) × (dataset_at g id ≡ Some d)
  here_is id k at =
      let o = may.sound.exist id (here-pending s id k at) in
      (o.dataset, o.here, o.named, dataset_is g may.valid.graph.tree.in_order o.dataset id o.here o.named)

  pub meets_is : (id : DsId) (from k : Key) (bp : Bp) → IsWalking s → s.at ≡ ats.Dataset id from → next_in g id from s.curmin ≡ Some (k, bp) → Comes g scope s (steps.At k bp)
  meets_is id from k bp walking at found =
      let x = here_is id from at in
      meets x.0 from (k, bp) walking x.1 (at ∙ ap (λ (y : DsId). ats.Dataset y from) (sym x.2)) (subst (λ (o : Option Dataset). first_from (entries_of o) from s.curmin ≡ Some (k, bp)) x.3 found)

  pub ends_is : (id : DsId) (from : Key) → IsWalking s → s.at ≡ ats.Dataset id from → next_in g id from s.curmin ≡ None → Comes g scope s (steps.End id)
  ends_is id from walking at none =
      let x = here_is id from at in
      subst (λ (y : DsId). Comes g scope s (steps.End y)) x.2 (ends x.0 from walking x.1 (at ∙ ap (λ (y : DsId). ats.Dataset y from) (sym x.2)) (subst (λ (o : Option Dataset). first_from (entries_of o) from s.curmin ≡ None) x.3 none))
