-- A transaction group is closed: the blocks and pointers are made dataset after dataset, and nothing is staged in the next group.
use Rattle.std.specs.Prelude.{◌≡◌, ℕ, ◌+◌, ◌<◌, List, [], ◌∷◌, ◌++◌, length, map, take, unwrap_or, option_map, false, Option, Some, None, Result, Ok, Err, IfOk, refl}
use Rattle.std.specs.List.{slice_get}
use Rattle.std.proofs.Common.{suc, get_or, sym, ◌∙◌, ap, subst, arith, append-nil, append_assoc}
use Rattle.std.proofs.lemmas.Grind.{flat_map-append}
use Rattle.std.proofs.lemmas.List.{map-append, length-map}
use Rattle.std.proofs.lemmas.Option.{slice_get-map, unwrap_or-slice_get}
use Rattle.std.proofs.Math.Seq.{take-suc}
use Rattle.zs_ids.specs.declared.dataset.DsId.{DsId}
use Rattle.zs_ids.specs.Graph.{Dataset, Graph}
use Rattle.zs_ids.specs.GraphTree.{is_id, dataset_at, entries_of}
use Rattle.zs_ids.specs.Blocks.{bp_at}
use Rattle.zs_ids.specs.declared.key.Key.{Key}
use Rattle.zs_ids.specs.declared.block.Bp.{Bp}
use Rattle.zs_ids.specs.GraphValid.{IsInIdOrder}
use Rattle.zs_txg.specs.Txg.{Open, staged_for, entries_for}
use Rattle.zs_graph.proofs.Graphs.{id_is, dataset_is}
use Rattle.zs_graph.proofs.Lists.{from-find}
use Rattle.zs_graph.proofs.Seen.{at_index}
use Rattle.zs_objset.specs.declared.block.StagedBlock.{StagedBlock}
use Rattle.zs_objset.specs.Staged.{AreBlocksOf, AreSized, pointers_of}
use Rattle.zs_machine.specs.declared.event.Stage.TheVariants.{Between}
use Rattle.zs_machine.specs.Steps.{AreChanges}
use Rattle.zs_core.specs.declared.parts.Changes.{Changes}
use Rattle.zs_core.specs.declared.parts.Closed.{Closed}
use Rattle.zs_core.specs.Kept.{Facts, IsAtStage, AreChangesOf, born_by, pending}
use Rattle.zs_core.specs.declared.present.Present.TheInside.{Inside}
use Rattle.zs_core.specs.Datasets.{AreDatasets}
use Rattle.zs_machine.specs.declared.event.Stage.{Stage}
use Rattle.zs_machine.specs.Shapes.{data_start}
use Rattle.zs_core.specs.Staging.{AreMade, AreAllMade, AreReady, AreMadeBehind}
use Rattle.zs_core.specs.View.{pointers_of_all}
use Rattle.zs_core.proofs.Named.{blocks_some}

-- a dataset that was found by its id has it
pub by_id : (g : Graph) (id : DsId) (d : Dataset) → dataset_at g id ≡ Some d → d.id ≡ id
by_id g id d at = id_is d.id id (from-find (λ x. is_id x.id id) g d at).1

-- between two syncs no transaction group is closed, and the open one is the one after the last applied
pub between : (g : Graph) (applied open_txg : ℕ) (closed : Option Closed) → IsAtStage g applied open_txg closed Between → (closed ≡ None) × (open_txg ≡ applied + 1)
between g applied open_txg None at = (refl, at)
between g applied open_txg (Some c) at = absurd at

-- so what is true of the datasets speaks of what is staged in the open one
pub datasets_open : (p : Inside) → Facts p → p.suspended ≡ false → p.stage ≡ Between → AreDatasets p.graph.sets (born_by p.applied) (data_start p.shape.blocks) p.next_sector p.open.staged
datasets_open p f up calm =
    let at : IsAtStage p.graph.sets p.applied p.open.txg p.closed Between = subst (λ (s : Stage). IsAtStage p.graph.sets p.applied p.open.txg p.closed s) calm (f.at_stage up) in
    subst (λ (c : Option Closed). AreDatasets p.graph.sets (born_by p.applied) (data_start p.shape.blocks) p.next_sector (pending c p.open.staged)) (between p.graph.sets p.applied p.open.txg p.closed at).0 f.datasets

-- the blocks of one more dataset stand behind those of the others
made_behind : (g : Graph) (d : Dataset) (o : Open) (blocks own : List StagedBlock) → AreAllMade g o blocks → AreMade d o own → AreAllMade (g ++ d ∷ []) o (blocks ++ own)
made_behind [] d o blocks own is made = (own, [], ap (λ (l : List StagedBlock). l ++ own) is ∙ sym (append-nil own), made, refl)
made_behind (x ∷ xs) d o blocks own are made =
    (are.0, are.1 ++ own, ap (λ (l : List StagedBlock). l ++ own) are.2 ∙ append_assoc are.0 are.1 own, are.3, made_behind xs d o are.1 own are.4 made)

-- and its pointers behind theirs
changes_behind : (g : Graph) (d : Dataset) (o : Open) (changes : List Changes) (c : Changes) → AreChangesOf g o changes → c.ds ≡ d.id → AreChanges d.entries (staged_for o.staged d.id) o.txg c.blocks.items
    → AreChangesOf (g ++ d ∷ []) o (changes ++ c ∷ [])
changes_behind [] d o [] c are named is = (named, is, tt)
changes_behind [] d o (x ∷ xs) c are named is = absurd are
changes_behind (y ∷ ys) d o [] c are named is = absurd are
changes_behind (y ∷ ys) d o (x ∷ xs) c are named is = (are.0, are.1, changes_behind ys d o xs c are.2 named is)

-- so the blocks and pointers of one dataset more are made
ready_behind : (g : Graph) (d : Dataset) (o : Open) (blocks later : List StagedBlock) (changes those : List Changes) → AreReady g o blocks changes → AreMadeBehind d o blocks later changes those → AreReady (g ++ d ∷ []) o later those
ready_behind g d o blocks later changes those ready m =
    let change : Changes = m.change in
    let own : List StagedBlock = m.own in
    let made : AreAllMade (g ++ d ∷ []) o (blocks ++ own) = made_behind g d o blocks own ready.made m.made in
    let changed : AreChangesOf (g ++ d ∷ []) o (changes ++ change ∷ []) = changes_behind g d o changes change ready.changes m.named (record { blocks = own; made = m.made.blocks; pointers = m.pointers }) in
    let both : pointers_of_all (changes ++ change ∷ []) ≡ pointers_of (blocks ++ own) =
    flat_map-append (λ (c : Changes). c.blocks.items) changes (change ∷ [])
    ∙ (ap (λ l. l ++ (change.blocks.items ++ [])) ready.pointers
    ∙ (ap (λ l. pointers_of blocks ++ l) (append-nil change.blocks.items ∙ m.pointers)
    ∙ sym (map-append (λ (b : StagedBlock). (b.key, b.bp)) blocks own))) in
    let now : AreReady (g ++ d ∷ []) o (blocks ++ own) (changes ++ change ∷ []) = record { made = made; changes = changed; pointers = both } in
    subst (λ (l : List StagedBlock). AreReady (g ++ d ∷ []) o l those) (sym m.blocks_are) (subst (λ (l : List Changes). AreReady (g ++ d ∷ []) o (blocks ++ own) l) (sym m.changes_are) now)

-- before the first dataset nothing is made
pub none_ready : (o : Open) → AreReady [] o [] []
none_ready o = record { made = refl; changes = tt; pointers = refl }

-- the blocks that are made over a dataset's entries are those of the dataset
pub made_from : (g : Graph) (id : DsId) (o : Open) (es : List (Key × Bp)) (d : Dataset) (own : List StagedBlock) → dataset_at g id ≡ Some d → Some es ≡ option_map (λ x. x.entries) (dataset_at g id)
    → AreBlocksOf (bp_at es) o.txg (entries_for o.staged id) own → AreSized (entries_for o.staged id) own → AreMade d o own
made_from g id o es d own at is blocks sized =
    let same : d.entries ≡ es = ap (λ (x : Option Dataset). entries_of x) (sym at) ∙ blocks_some (dataset_at g id) es is in
    let named : d.id ≡ id = by_id g id d at in
    record {
      blocks = subst (λ (x : DsId). AreBlocksOf (bp_at d.entries) o.txg (entries_for o.staged x) own) (sym named) (subst (λ (l : List (Key × Bp)). AreBlocksOf (bp_at l) o.txg (entries_for o.staged id) own) (sym same) blocks);
      sized = subst (λ (x : DsId). AreSized (entries_for o.staged x) own) (sym named) sized;
    }

-- so are those that a call answers
pub made_ok : {A E : Type 0} (r : Result A E) (items : A → List StagedBlock) (g : Graph) (id : DsId) (o : Open) (es : List (Key × Bp)) → Some es ≡ option_map (λ x. x.entries) (dataset_at g id)
    → IfOk r (λ v. AreBlocksOf (bp_at es) o.txg (entries_for o.staged id) (items v)) → IfOk r (λ v. AreSized (entries_for o.staged id) (items v))
    → IfOk r (λ v. (d : Dataset) → dataset_at g id ≡ Some d → AreMade d o (items v))
made_ok (Ok v) items g id o es is blocks sized = λ d at. made_from g id o es d (items v) at is blocks sized
made_ok (Err e) items g id o es is blocks sized = blocks

-- the blocks and pointers of the next dataset stand behind those of the ones before it
pub ready_next : (g : Graph) → IsInIdOrder g → (o : Open) (ids : List DsId) → ids ≡ map (λ d. d.id) g → (i : ℕ) → i < length ids → (x : DsId) (blocks later : List StagedBlock) (changes those : List Changes)
    → AreReady (take i g) o blocks changes → ((d : Dataset) → dataset_at g (get_or ids i x) ≡ Some d → AreMadeBehind d o blocks later changes those) → AreReady (take (i + 1) g) o later those
ready_next g order o ids is i within x blocks later changes those ready more =
    let many : length ids ≡ length g = ap (λ (l : List DsId). length l) is ∙ length-map g (λ (d : Dataset). d.id) in
    let inside : i < length g = omega (arith, within, many) in
    let found = at_index g i inside in
    let d : Dataset = found.0 in
    let at : slice_get g i ≡ Some d = found.1 in
    let named : get_or ids i x ≡ d.id = sym (unwrap_or-slice_get ids i x) ∙ (ap (λ (l : List DsId). unwrap_or (slice_get l i) x) is ∙ (ap (λ (f : Option DsId). unwrap_or f x) (slice_get-map (λ (y : Dataset). y.id) g i) ∙ ap (λ (f : Option Dataset). unwrap_or (option_map (λ (y : Dataset). y.id) f) x) at)) in
    let last : get_or g i d ≡ d = sym (unwrap_or-slice_get g i d) ∙ ap (λ (f : Option Dataset). unwrap_or f d) at in
    let next : i + 1 ≡ suc i = omega arith in
    let longer : take (i + 1) g ≡ take i g ++ d ∷ [] = ap (λ (n : ℕ). take n g) next ∙ (take-suc g i d inside ∙ ap (λ (y : Dataset). take i g ++ y ∷ []) last) in
    let behind : AreMadeBehind d o blocks later changes those = more d (dataset_is g order d (get_or ids i x) found.2 (sym named)) in
    subst (λ (l : Graph). AreReady l o later those) (sym longer) (ready_behind (take i g) d o blocks later changes those ready behind)
