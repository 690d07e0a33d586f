-- What is kept of a pool where its closed transaction group was applied, or where memory was wanting in that.
use Rattle.std.proofs.Common.{◌≡◌, ◌≤◌, ◌+◌, ◌∙◌, ℕ, Bool, true, false, List, [], Option, Vec, refl, sym, subst, arith}
use Rattle.std.specs.Prelude.{Some, None}
use Rattle.std.specs.declared.alloc.Global.{Global}
use Rattle.std.proofs.lemmas.Bool.{true≢false}
use Rattle.zs_ids.specs.GraphValid.{Room}
use Rattle.zs_ids.specs.Graph.{Graph}
use Rattle.zs_graph.specs.View.{GraphView}
use Rattle.zs_txg.specs.declared.staged.Staging.{Staging}
use Rattle.zs_txg.specs.Txg.{Slot}
use Rattle.zs_scan.specs.View.{ScanView}
use Rattle.zs_scan.specs.Covered.{IsScanOf}
use Rattle.zs_machine.specs.declared.event.Stage.{Stage}
use Rattle.zs_machine.specs.declared.event.Stage.TheVariants.{Between, Labelling, Writing}
use Rattle.zs_machine.specs.Shapes.{data_start}
use Rattle.zs_script.specs.declared.refusal.Refusal.{Refusal}
use Rattle.zs_core.specs.declared.parts.Closed.{Closed}
use Rattle.zs_core.specs.declared.present.Present.TheInside.{Inside}
use Rattle.zs_core.specs.Applying.{IsTended, Space}
use Rattle.zs_core.specs.Datasets.{AreDatasets}
use Rattle.zs_core.specs.Running.{KeepsRest}
use Rattle.zs_core.specs.Kept.{Facts, IsAtStage, IsClosedOver, IsOneStaged, born_by, pending}
use Rattle.zs_core.specs.Placed.{room_of}
use Rattle.zs_core.proofs.Ended.{ends_by, next_scanned}
use Rattle.zs_core.proofs.PutApart.{without_staged}
use Rattle.zs_core.proofs.Ready.{space_of}
use mathlib.Core.Logic.{inl}

-- the group that is closed while the blocks are written is the next one
pub closed_over : (p : Inside) → Facts p → (c : Closed) → p.closed ≡ Some c → p.suspended ≡ false → p.stage ≡ Writing → IsClosedOver p.graph.sets p.applied p.open.txg c
closed_over p f c is up writing =
    let at : IsAtStage p.graph.sets p.applied p.open.txg p.closed p.stage = f.at_stage up in
    rw (is, writing) at at

-- nothing is staged in the open group while another one is closed
none_open : (p : Inside) (f : Facts p) (c : Closed) → p.closed ≡ Some c → p.open.staged ≡ []
none_open p f c is = subst (λ (o : Option Closed). IsOneStaged o p.open.staged) is f.one_staged

-- the datasets stay formed and placed, with nothing staged
datasets_after : (g : Graph) (t start next : ℕ) (staged : List (Slot × Staging)) → 1 ≤ t → staged ≡ [] → AreDatasets g t start next [] → AreDatasets g (born_by t) start next staged
datasets_after g t start next staged since none a =
    let born : t ≡ born_by t = omega (arith, since) in
    subst (λ (l : List (Slot × Staging)). AreDatasets g (born_by t) start next l) (sym none) (subst (λ (n : ℕ). AreDatasets g n start next []) born a)

-- all that is kept stays, with datasets that were tended and a scan that is theirs
pub facts_after : (p : Inside) (f : Facts p) (c : Closed) → p.closed ≡ Some c → p.suspended ≡ false → p.stage ≡ Writing
    → (space : Space) → space ≡ space_of p → (g : GraphView) (u v : ScanView) (t : ℕ) (stage : Stage) (suspended finished : Bool) (answers : Vec (Option Refusal) Global) → t ≡ c.txg.txg → IsTended space c.txg.txg g.sets u
    → ((room : Room) (sets : Graph) (n h : ℕ) → IsScanOf room sets n h u → IsScanOf room sets n h v) → KeepsRest p.scan v
    → (suspended ≡ false → stage ≡ Labelling)
    → Facts (record p { graph = g; scan = v; applied = t; closed = None; stage = stage; suspended = suspended; finished = finished; answers = answers })
facts_after p f c is up writing space same g u v t stage suspended finished answers number there keeps rest labelling =
    let over = closed_over p f c is up writing in
    let next : c.txg.txg ≡ p.applied + 1 = over.number in
    let after : p.open.txg ≡ p.applied + 2 = over.next in
    let tended : IsTended (space_of p) t g.sets u = subst (λ (s : Space). IsTended s t g.sets u) same (subst (λ (n : ℕ). IsTended space n g.sets u) (sym number) there) in
    let since : 1 ≤ t = omega (arith, number, next) in
    let start : ℕ = data_start p.shape.blocks in
    let room : Room = room_of start p.end_sector tended.blocks in
    let scan : IsScanOf room g.sets t t v = keeps room g.sets t t tended.scan in
    record {
      shape = f.shape;
      online = f.online;
      end = f.end;
      width = rest.width ∙ f.width;
      begun = f.begun;
      space = f.space;
      datasets = datasets_after g.sets t start p.next_sector p.open.staged since (none_open p f c is) tended.datasets;
      one_staged = tt;
      since = inl since;
      blocks = tended.blocks;
      scan = next_scanned room g.sets t v since scan;
      range = ends_by room g.sets t t v scan;
      may_wait = rest.limit ∙ f.may_wait;
      due = rest.every ∙ f.due;
      at_stage = λ still. let last : p.open.txg ≡ t + 1 = omega (arith, number, next, after) in subst (λ (at : Stage). IsAtStage g.sets t p.open.txg None at) (sym (labelling still)) last;
      limit = f.limit;
    }

-- what was staged in a closed group is dropped with it
datasets_dropped : (p : Inside) (f : Facts p) → AreDatasets p.graph.sets (born_by p.applied) (data_start p.shape.blocks) p.next_sector p.open.staged
datasets_dropped p f = go p.closed refl
  where
    go : (o : Option Closed) → p.closed ≡ o → AreDatasets p.graph.sets (born_by p.applied) (data_start p.shape.blocks) p.next_sector p.open.staged
    go None is = subst (λ (o : Option Closed). AreDatasets p.graph.sets (born_by p.applied) (data_start p.shape.blocks) p.next_sector (pending o p.open.staged)) is f.datasets
    go (Some c) is =
        subst (λ (l : List (Slot × Staging)). AreDatasets p.graph.sets (born_by p.applied) (data_start p.shape.blocks) p.next_sector l) (sym (none_open p f c is))
        (without_staged p.graph.sets (born_by p.applied) (data_start p.shape.blocks) p.next_sector (λ d h. let was = (f.datasets).formed d h in (was.size, was.formed)) (f.datasets).live)

-- what is kept stays where a pool is suspended and its closed group is dropped
pub facts_halted : (p : Inside) → Facts p → Facts (record p { closed = None; suspended = true; stage = Between })
facts_halted p f = record {
  shape = f.shape;
  online = f.online;
  end = f.end;
  width = f.width;
  begun = f.begun;
  space = f.space;
  datasets = datasets_dropped p f;
  one_staged = tt;
  since = f.since;
  blocks = f.blocks;
  scan = f.scan;
  range = f.range;
  may_wait = f.may_wait;
  due = f.due;
  at_stage = λ up. absurd (true≢false up);
  limit = f.limit;
}
