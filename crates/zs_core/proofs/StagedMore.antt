-- A `make` or `write` that is not refused keeps what is true of the datasets and of what is staged.
use Rattle.std.specs.Prelude.{◌≡◌, ◌≢◌, ◌+◌, ◌/◌, ℕ, List, Option, Some, None}
use Rattle.std.proofs.Common.{sym, ◌∙◌, subst}
use Rattle.zs_ids.specs.declared.dataset.DsId.{DsId}
use Rattle.zs_ids.specs.declared.dataset.DsName.{DsName}
use Rattle.zs_ids.specs.Graph.{Has}
use Rattle.zs_ids.specs.GraphValid.{IsInIdOrder}
use Rattle.zs_txg.specs.declared.staged.Staging.{Staging}
use Rattle.zs_txg.specs.Txg.{Slot}
use Rattle.zs_script.specs.Lines.{IsMake}
use Rattle.zs_machine.specs.declared.event.Stage.TheVariants.{Writing}
use Rattle.zs_machine.specs.Machine.{record_sectors}
use Rattle.zs_machine.specs.Replies.{make_refusal, write_refusal}
use Rattle.zs_machine.specs.Shapes.{data_start}
use Rattle.zs_core.specs.declared.parts.Closed.{Closed}
use Rattle.zs_core.specs.declared.present.Present.TheInside.{Inside}
use Rattle.zs_core.specs.Placed.{staged_again}
use Rattle.zs_core.specs.Datasets.{AreDatasets}
use Rattle.zs_core.specs.Staging.{IsHeadNamed}
use Rattle.zs_core.specs.Kept.{Facts, IsOneStaged, pending, born_by, sectors_to_stage, view_of}
use Rattle.zs_core.proofs.Sizes.{is_record_size}
use Rattle.zs_core.proofs.Recorded.{some_fill, record_made, record_written}
use Rattle.zs_core.proofs.Allowed.{makes, writes, head_here, none_closed, made_free, written_there, size_there}

-- nothing else is staged while no transaction group is closed
one_staged : (closed : Option Closed) (staged : List (Slot × Staging)) → closed ≡ None → IsOneStaged closed staged
one_staged closed staged none = subst (λ (c : Option Closed). IsOneStaged c staged) (sym none) tt

module _ (p : Inside) (f : Facts p) (calm : p.stage ≢ Writing) (name : DsName) (object fill : ℕ) (id : DsId) (h : IsHeadNamed (view_of p).state name id) where
  -- what is staged then, and what is true of the datasets
  abbrev after : ℕ → List (Slot × Staging)
  after sectors = staged_again p.open.staged id object sectors (Some fill) p.next_sector

  abbrev Kept : ℕ → Type 0
  Kept sectors =
      AreDatasets p.graph.sets (born_by p.applied) (data_start p.shape.blocks) (p.next_sector + sectors_to_stage p.open.staged id object sectors) (pending p.closed (after sectors))
      × IsOneStaged p.closed (after sectors)

  named : h.head.id ≡ id
  named = (head_here (view_of p).state name id h).1

  here : Has p.graph.sets h.head
  here = (head_here (view_of p).state name id h).0

  order : IsInIdOrder p.graph.sets
  order = f.scan.covered.valid.graph.tree.in_order

  module _ (none : p.closed ≡ None) where
    sets : AreDatasets p.graph.sets (born_by p.applied) (data_start p.shape.blocks) p.next_sector p.open.staged
    sets = subst (λ (c : Option Closed). AreDatasets p.graph.sets (born_by p.applied) (data_start p.shape.blocks) p.next_sector (pending c p.open.staged)) none f.datasets

    -- what holds of the head's id holds of this one
    kept : (sectors : ℕ) → AreDatasets p.graph.sets (born_by p.applied) (data_start p.shape.blocks) (p.next_sector + sectors_to_stage p.open.staged h.head.id object sectors) (staged_again p.open.staged h.head.id object sectors (Some fill) p.next_sector) → Kept sectors
    kept sectors is = (
      subst (λ (c : Option Closed). AreDatasets p.graph.sets (born_by p.applied) (data_start p.shape.blocks) (p.next_sector + sectors_to_stage p.open.staged id object sectors) (pending c (after sectors))) (sym none)
          (subst (λ (x : DsId). AreDatasets p.graph.sets (born_by p.applied) (data_start p.shape.blocks) (p.next_sector + sectors_to_stage p.open.staged x object sectors) (staged_again p.open.staged x object sectors (Some fill) p.next_sector)) named is),
      one_staged p.closed (after sectors) none,
    )

  -- a `make`
  pub kept_make : (size : ℕ) → make_refusal (view_of p).state name object ≡ None → IsMake object 1 size → Kept (size / 512)
  kept_make size allowed numbers =
      let tells = makes (view_of p).state name object h.head h.named allowed in
      let none : p.closed ≡ None = none_closed p (f.at_stage tells.0) calm in
      let free = made_free p h.head object none tells.1 in
      kept none (size / 512)
      (record_made p.graph.sets (born_by p.applied) (data_start p.shape.blocks) p.next_sector p.open.staged h.head order here h.is_head f.begun (sets none) object (size / 512) (Some fill) (some_fill fill (size / 512))
      numbers.least_object numbers.most_object (is_record_size size numbers.least_size numbers.most_size numbers.power) free.0 free.1)

  -- a `write`
  pub kept_write : (leaf sectors : ℕ) → write_refusal (view_of p).state name object leaf ≡ None → sectors ≡ record_sectors (view_of p).state h.head object → Kept sectors
  kept_write leaf sectors allowed size =
      let tells = writes (view_of p).state name object h.head h.named leaf allowed in
      let none : p.closed ≡ None = none_closed p (f.at_stage tells.0) calm in
      kept none sectors
      (record_written p.graph.sets (born_by p.applied) (data_start p.shape.blocks) p.next_sector p.open.staged h.head order here h.is_head f.begun (sets none) object sectors (Some fill) (some_fill fill sectors)
      (written_there p h.head object none tells.1) (size ∙ size_there p h.head object none))
