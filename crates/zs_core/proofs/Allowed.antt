-- What a `make` or a `write` that is not refused tells: the name is that of a head, which has the object or not.
use Rattle.std.specs.Prelude.{◌≡◌, ◌≢◌, ◌+◌, ◌≤◌, ◌<◌, ◌/◌, ◌||◌, ℕ, Bool, true, false, is_some, Option, Some, None, unwrap_or, refl}
use Rattle.std.specs.Option.{option_or}
use Rattle.std.proofs.Common.{sym, ◌∙◌, ap, inr, arith}
use Rattle.std.proofs.lemmas.Bool.{true≢false}
use Rattle.zs_ids.specs.declared.block.Bp.{Bp}
use Rattle.zs_ids.specs.declared.dataset.DsId.{DsId}
use Rattle.zs_ids.specs.declared.dataset.DsName.{DsName}
use Rattle.zs_ids.specs.Key.{record_key}
use Rattle.zs_ids.specs.Blocks.{bp_at}
use Rattle.zs_ids.specs.Graph.{Has, Dataset}
use Rattle.zs_ids.specs.GraphTree.{is_id, dataset_named}
use Rattle.zs_txg.specs.declared.staged.Staging.{Staging}
use Rattle.zs_txg.specs.Txg.{staged_at}
use Rattle.zs_graph.proofs.Graphs.{id_is}
use Rattle.zs_graph.proofs.Lists.{from-find}
use Rattle.zs_script.specs.declared.refusal.Refusal.{Refusal}
use Rattle.zs_script.specs.declared.refusal.Refusal.TheVariants.{NoSpace}
use Rattle.zs_script.specs.declared.reply.Reply.{Reply}
use Rattle.zs_script.specs.declared.reply.Reply.TheVariants as reply
use Rattle.zs_machine.specs.declared.event.Stage.{Stage}
use Rattle.zs_machine.specs.declared.event.Stage.TheVariants.{Between, Writing, Labelling}
use Rattle.zs_machine.specs.Machine.{PoolState, Txg, closed_at, staged_record, has_object, record_sectors, sectors_from}
use Rattle.zs_machine.specs.Replies.{make_refusal, write_refusal}
use Rattle.zs_machine.specs.Steps.{MakeStep, WriteStep}
use Rattle.zs_core.specs.declared.parts.Closed.{Closed}
use Rattle.zs_core.specs.declared.present.Present.TheInside.{Inside}
use Rattle.zs_core.specs.Placed.{staged_again}
use Rattle.zs_core.specs.Staging.{IsHeadNamed}
use Rattle.zs_core.specs.View.{CoreView, closed_of}
use Rattle.zs_core.specs.Kept.{view_of, IsAtStage, sectors_to_stage, IsFullExactly}
use Rattle.zs_core.specs.Safe.{sectors_taken}
use Rattle.zs_core.proofs.Making.{is_staged}

module _ (s : PoolState) (name : DsName) (object : ℕ) (d : Dataset) (named : dataset_named s.graph name ≡ Some d) where
  -- by cases on what the refusal tests
  made_by : make_refusal s name object ≡ None → (stopped head has : Bool) → s.suspended ≡ stopped → d.head ≡ head → has_object s d object ≡ has → (s.suspended ≡ false) × (has_object s d object ≡ false)
  made_by r true head has up is object = absurd (let no_way = rw up at r in cc)
  made_by r false false has up is object = absurd (let no_way = rw (up, named, is) at r in cc)
  made_by r false true true up is object = absurd (let no_way = rw (up, named, is, object) at r in cc)
  made_by r false true false up is object = (up, object)

  -- a `make` is refused where the pool is suspended or the head has the object
  pub makes : make_refusal s name object ≡ None → (s.suspended ≡ false) × (has_object s d object ≡ false)
  makes r = made_by r s.suspended d.head (has_object s d object) refl refl refl

  written_by : (leaf : ℕ) → write_refusal s name object leaf ≡ None → (stopped head has : Bool) → s.suspended ≡ stopped → d.head ≡ head → has_object s d object ≡ has → (s.suspended ≡ false) × (has_object s d object ≡ true)
  written_by leaf r true head has up is object = absurd (let no_way = rw up at r in cc)
  written_by leaf r false false has up is object = absurd (let no_way = rw (up, named, is) at r in cc)
  written_by leaf r false true false up is object = absurd (let no_way = rw (up, named, is, object) at r in cc)
  written_by leaf r false true true up is object = (up, object)

  -- a `write` is refused where the pool is suspended or the head does not have the object
  pub writes : (leaf : ℕ) → write_refusal s name object leaf ≡ None → (s.suspended ≡ false) × (has_object s d object ≡ true)
  writes leaf r = written_by leaf r s.suspended d.head (has_object s d object) refl refl refl

-- the head of that name is a dataset of the pool, with that id
pub head_here : (s : PoolState) (name : DsName) (id : DsId) (h : IsHeadNamed s name id) → Has s.graph h.head × (h.head.id ≡ id)
head_here s name id h = let found = from-find (λ d. is_id d.id id) s.graph h.head h.here in (found.0, id_is h.head.id id found.1)

-- while blocks are not being written no transaction group is closed
pub none_closed : (p : Inside) → IsAtStage p.graph.sets p.applied p.open.txg p.closed p.stage → p.stage ≢ Writing → p.closed ≡ None
none_closed p at other = by p.closed p.stage at other
  where
    by : (c : Option Closed) (stage : Stage) → IsAtStage p.graph.sets p.applied p.open.txg c stage → stage ≢ Writing → c ≡ None
    by None stage is apart = refl
    by (Some c) Writing is apart = absurd (apart refl)
    by (Some c) Between is apart = absurd is
    by (Some c) Labelling is apart = absurd is

or_none : (f : Option Staging) → option_or f None ≡ f
or_none None = refl
or_none (Some e) = refl

-- what is neither staged nor mapped is in none of the places
none_there : (f : Option Staging) (b : Option Bp) → (is_some f || is_some b) ≡ false → (b ≡ None) × (f ≡ None)
none_there (Some e) b is = absurd (true≢false is)
none_there None (Some b) is = absurd (true≢false is)
none_there None None is = (refl, refl)

module _ (p : Inside) (d : Dataset) (object : ℕ) (none : p.closed ≡ None) where
  -- the record of the object where it is staged, and the pointer to it
  abbrev staged : Option Staging
  staged = staged_at p.open.staged (d.id, record_key object 0)

  abbrev mapped : Option Bp
  mapped = bp_at d.entries (record_key object 0)

  open_alone : staged_record (view_of p).state d.id (record_key object 0) ≡ staged
  open_alone = ap (λ (c : Option Closed). option_or staged (closed_at (closed_of c) (d.id, record_key object 0))) none ∙ or_none staged

  -- an object that is not there has no record
  pub made_free : has_object (view_of p).state d object ≡ false → (mapped ≡ None) × (staged ≡ None)
  made_free is = none_there staged mapped (ap (λ (f : Option Staging). is_some f || is_some mapped) (sym open_alone) ∙ is)

  -- one that is there has one
  pub written_there : has_object (view_of p).state d object ≡ true → (is_some staged || is_some mapped) ≡ true
  written_there is = ap (λ (f : Option Staging). is_some f || is_some mapped) (sym open_alone) ∙ is

  -- and its size
  pub size_there : record_sectors (view_of p).state d object ≡ sectors_from staged mapped
  size_there = ap (λ (f : Option Staging). sectors_from f mapped) open_alone

-- a `make` or `write` that is not refused, in the head of that name
module _ (v : CoreView) (name : DsName) (object : ℕ) (id : DsId) (h : IsHeadNamed v.state name id) (fill next txg : ℕ) (o : Txg) (group : txg ≡ v.state.open_txg.txg) where
  same_id : h.head.id ≡ id
  same_id = (head_here v.state name id h).1

  -- it is a step of the machine where there is space
  pub make_step : (size : ℕ) → make_refusal v.state name object ≡ None
      → o ≡ record v.state.open_txg { staged = staged_again v.state.open_txg.staged id object (size / 512) (Some fill) next }
      → MakeStep v.state name object size fill (reply.Wrote name object 0 txg) (record v.state { open_txg = o })
  make_step size r is =
      rw (r, h.named, is, group, ← same_id) (inr (_, is_staged v.state.open_txg.staged h.head.id object (size / 512) fill next, refl, refl))

  pub write_step : (leaf sectors : ℕ) → write_refusal v.state name object leaf ≡ None → sectors ≡ record_sectors v.state h.head object
      → o ≡ record v.state.open_txg { staged = staged_again v.state.open_txg.staged id object sectors (Some fill) next }
      → WriteStep v.state name object leaf fill (reply.Wrote name object leaf txg) (record v.state { open_txg = o })
  write_step leaf sectors r size is =
      rw (r, h.named, is, group, size, ← same_id) (inr (_, is_staged v.state.open_txg.staged h.head.id object (record_sectors v.state h.head object) fill next, refl, refl))

-- what a record takes with the blocks above it in the head of that name
module _ (v : CoreView) (why : Option Refusal) (name : DsName) (object count : ℕ) (sectors : Dataset → ℕ) (id : DsId) (h : IsHeadNamed v.state name id) (is : count ≡ sectors_to_stage v.state.open_txg.staged id object (sectors h.head)) where
  abbrev needed : Dataset → ℕ
  needed e = sectors_to_stage v.state.open_txg.staged e.id object (sectors e)

  taken : count ≡ needed h.head
  taken = is ∙ ap (λ (x : DsId). sectors_to_stage v.state.open_txg.staged x object (sectors h.head)) (sym (head_here v.state name id h).1)

  same : (e : Dataset) → dataset_named v.state.graph name ≡ Some e → count ≡ needed e
  same e named = taken ∙ ap needed (ap (λ (o : Option Dataset). unwrap_or o h.head) (sym h.named ∙ named))

  -- where its blocks end inside the space it is not answered that there is none
  pub has_space : (answer : Reply) → (answer ≢ reply.Refused NoSpace) → v.next_sector + count ≤ v.end_sector → IsFullExactly v why name object sectors answer
  has_space answer other fits = λ e named allowed.
      let all : count ≡ needed e = same e named in
      (λ is. absurd (other is), λ full. absurd (omega (arith, all, full, fits)))

  -- where they do not, it is
  pub has_none : v.end_sector < v.next_sector + count → IsFullExactly v why name object sectors (reply.Refused NoSpace)
  has_none full = λ e named allowed.
      let all : count ≡ needed e = same e named in
      (λ is. omega (arith, all, full), λ more. refl)

  -- the next sector lies behind what it takes
  pub takes : v.next_sector + count ≡ v.next_sector + sectors_taken v object sectors (dataset_named v.state.graph name)
  takes = ap (λ (n : ℕ). v.next_sector + n) (taken ∙ ap (λ (o : Option Dataset). sectors_taken v object sectors o) (sym h.named))

-- where it is refused for another reason nothing is said of space
pub refused_before : (v : CoreView) (why : Refusal) (refusal : Option Refusal) (name : DsName) (object : ℕ) (sectors : Dataset → ℕ) (answer : Reply) → refusal ≡ Some why → IsFullExactly v refusal name object sectors answer
refused_before v why refusal name object sectors answer is = λ d named allowed. absurd (true≢false (ap (λ (o : Option Refusal). is_some o) (sym is ∙ allowed)))

-- a record that was staged is not refused
pub not_refused : (name : DsName) (object leaf txg : ℕ) → reply.Wrote name object leaf txg ≢ reply.Refused NoSpace
not_refused name object leaf txg is = absurd cc
