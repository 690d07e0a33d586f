-- A read that is planned is of a piece in the pool's space, and one that is refused is refused as the machine asks.
use Rattle.std.specs.Prelude.{◌≡◌, ◌<◌, ℕ, List, [], ◌∷◌, length, map, take, is_some, Option, Some, None, refl}
use Rattle.std.proofs.lemmas.Bool.{true≢false}
use Rattle.std.proofs.Common.{sym, ap, subst, inl, arith}
use Rattle.zs_ids.specs.declared.block.Bp.{Bp}
use Rattle.zs_ids.specs.declared.block.Piece.{Piece}
use Rattle.zs_ids.specs.declared.block.Place.{Place}
use Rattle.zs_ids.specs.declared.dataset.DsId.{DsId}
use Rattle.zs_ids.specs.declared.dataset.DsName.{DsName}
use Rattle.zs_ids.specs.declared.key.Key.{Key}
use Rattle.zs_ids.specs.Blocks.{bp_at}
use Rattle.zs_ids.specs.Graph.{Dataset, Has, pieces_of, IsOfBlock}
use Rattle.zs_ids.specs.GraphTree.{dataset_at, dataset_named}
use Rattle.zs_ids.specs.Key.{key_cmp, record_key}
use Rattle.zs_graph.proofs.Lists.{from-find}
use Rattle.zs_scan.specs.Covered.{IsInRoom}
use Rattle.zs_scan.specs.Walks.{item_of}
use Rattle.zs_scan.proofs.InRoom.{block_in_room}
use Rattle.zs_script.specs.declared.refusal.Refusal.{Refusal}
use Rattle.zs_script.specs.declared.reply.Reply.{Reply}
use Rattle.zs_script.specs.declared.reply.Reply.TheVariants as reply
use Rattle.zs_txg.specs.declared.staged.Staging.{Staging}
use Rattle.zs_txg.proofs.Slots.{key_total}
use Rattle.zs_machine.specs.declared.event.ReadPlan.{ReadPlan}
use Rattle.zs_machine.specs.Machine.{PoolState, staged_record}
use Rattle.zs_machine.specs.Replies.{read_refusal}
use Rattle.zs_machine.specs.Shapes.{data_start, room_in}
use Rattle.zs_machine.specs.Steps.{ReadBeginStep, plan_from, plan_in}
use Rattle.zs_core.specs.declared.present.Present.TheInside.{Inside}
use Rattle.zs_core.specs.Kept.{Facts, born_by, view_of}
use Rattle.zs_core.specs.Placed.{room_of}
use Rattle.zs_core.specs.Reading.{IsPlanInRoom, IsPlacedAt}
use Rattle.zs_core.proofs.Inserting.{at_some}
use Rattle.zs_core.proofs.PutEntries.{same_key}

-- the first piece of a block with one piece is one of its pieces
first_there : (bp : Bp) → bp.count ≡ 1 → 0 < length bp.places → Has (pieces_of bp) (item_of bp).piece
first_there bp single some = subst (λ (n : ℕ). Has (map piece (take n bp.places)) (item_of bp).piece) (sym single) (go bp.places refl)
  where
    piece : Place → Piece
    piece p = record { place = p; birth = bp.birth }

    go : (places : List Place) → bp.places ≡ places → Has (map piece (take 1 bp.places)) (item_of bp).piece
    go [] is = absurd (omega (arith, some, ap (λ (l : List Place). length l) is))
    go (p ∷ ps) is = rw is (inl refl)

-- the item of a block of a dataset lies in the pool's space
entry_in_room : (p : Inside) → Facts p → (d : Dataset) → Has p.graph.sets d → (key : Key) (bp : Bp) → bp_at d.entries key ≡ Some bp → 0 < length bp.places → IsInRoom (room_in p.shape p.end_sector 0) (item_of bp)
entry_in_room p f d here key bp found some =
    let entry : Has d.entries (key, bp) = at_some key_cmp key_total same_key d.entries key bp found in
    let whole = (((f.datasets).formed d here).formed).each (key, bp) entry in
    let block : IsOfBlock p.graph.sets (item_of bp).piece bp.sectors bp.sum = record { holder = d; is_dataset = here; at = (key, bp); is_entry = entry; is_piece = first_there bp whole.single some; size = refl; same_sum = refl } in
    let there = block_in_room (room_of (data_start p.shape.blocks) p.end_sector f.blocks) p.graph.sets (born_by p.applied) (item_of bp).piece bp.sectors bp.sum ((f.scan).covered).valid block in
    record { lies = record { mirror = (there.lies).mirror; from = (there.lies).from; to = (there.lies).to }; some = there.some; most = there.most }

-- the plan of a read lies there
pub plan_in_room : (p : Inside) → Facts p → (d : Dataset) → Has p.graph.sets d → (key : Key) (staged : Option Staging) (online : ℕ) → (staged ≡ None → IsPlacedAt (bp_at d.entries key)) → IsPlanInRoom (room_in p.shape p.end_sector 0) (plan_from staged (bp_at d.entries key) online)
plan_in_room p f d here key staged online = by staged (bp_at d.entries key) refl
  where
    by : (s : Option Staging) (b : Option Bp) → bp_at d.entries key ≡ b → (s ≡ None → IsPlacedAt b) → IsPlanInRoom (room_in p.shape p.end_sector 0) (plan_from s b online)
    by (Some e) b found placed = tt
    by None None found placed = tt
    by None (Some bp) found placed = entry_in_room p f d here key bp found (placed refl)

-- so does that of a read of the dataset with an id
pub read_in_room : (p : Inside) → Facts p → (d : Dataset) (id : DsId) (object leaf : ℕ) (plan : ReadPlan) → dataset_at p.graph.sets id ≡ Some d → plan ≡ plan_in (view_of p).state d object leaf
    → (staged_record (view_of p).state d.id (record_key object leaf) ≡ None → IsPlacedAt (bp_at d.entries (record_key object leaf))) → IsPlanInRoom (room_in p.shape p.end_sector 0) plan
read_in_room p f d id object leaf plan at is placed =
    subst (λ (x : ReadPlan). IsPlanInRoom (room_in p.shape p.end_sector 0) x) (sym is)
    (plan_in_room p f d (from-find _ p.graph.sets d at).0 (record_key object leaf) (staged_record (view_of p).state d.id (record_key object leaf)) p.online placed)

no_plan : (p : ReadPlan) → None ≡ Some p → ⊥
no_plan p is = true≢false (sym (ap is_some is))

same_why : (a b : Refusal) → reply.Refused a ≡ reply.Refused b → b ≡ a
same_why a b is = ap why_in (sym is)
  where
    why_in : Reply → Refusal
    why_in (reply.Refused w) = w
    why_in r = a

-- a read that was refused is refused as the machine asks
pub why_refused : (s t : PoolState) (by : ℕ) (name : DsName) (object leaf : ℕ) (why : Refusal) → ReadBeginStep s by name object leaf None (reply.Refused why) t → read_refusal s name object leaf ≡ Some why
why_refused s t by name object leaf why step = go (read_refusal s name object leaf) refl
  where
    none : (d : Option Dataset) → dataset_named s.graph name ≡ d → read_refusal s name object leaf ≡ None → ⊥
    none None f e = rw (e, f) at step
    none (Some d) f e = no_plan _ (rw (e, f) at step).0

    go : (r : Option Refusal) → read_refusal s name object leaf ≡ r → r ≡ Some why
    go (Some w) e = ap (λ (x : Refusal). Some x) (same_why why w (rw e at step).1)
    go None e = absurd (none (dataset_named s.graph name) refl e)
