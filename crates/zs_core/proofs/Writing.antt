-- The blocks that a sync writes are those that are staged for the datasets, lie in the space, and share no sector.
use Rattle.std.specs.Prelude.{◌≡◌, ◌<◌, ◌≤◌, ◌+◌, ◌*◌, ℕ, List, [], ◌∷◌, ◌++◌, length, map, Option, Some, None, refl}
use Rattle.std.proofs.Common.{sym, ◌∙◌, ap, subst, inl, inr, arith}
use Rattle.std.proofs.lemmas.Cmp.{tied_itself}
use Rattle.std.specs.declared.cmp.Ordering.{Ordering}
use Rattle.std.specs.declared.cmp.Ordering.TheVariants.{Less, Equal}
use Rattle.std.specs.List.{AllByRecursion}
use Rattle.std.specs.List.Sorted.{IsStrictlySortedBy}
use Rattle.std.specs.Map.{keys_of}
use Rattle.zs_ids.specs.declared.key.Key.{Key}
use Rattle.zs_ids.specs.declared.block.Bp.{Bp}
use Rattle.zs_ids.specs.declared.block.Piece.{Piece}
use Rattle.zs_ids.specs.declared.block.Place.{Place}
use Rattle.zs_ids.specs.declared.dataset.DsId.{DsId}
use Rattle.zs_ids.specs.Blocks.{bp_at}
use Rattle.zs_ids.specs.Graph.{Has, Dataset, Graph}
use Rattle.zs_ids.specs.GraphValid.{IsInIdOrder, LiesIn, Overlap, record_sizes}
use Rattle.zs_txg.specs.declared.staged.Staging.{Staging}
use Rattle.zs_txg.specs.Txg.{Slot, Open, slot_cmp, staged_for, entry_of, entries_for, IsInSlotOrder}
use Rattle.zs_txg.proofs.Slots.{slot_total}
use Rattle.zs_graph.proofs.Lists.{from-append}
use Rattle.zs_objset.specs.declared.block.StagedBlock.{StagedBlock}
use Rattle.zs_objset.specs.Staged.{block_of, pointers_of, size_of, over, AreSized}
use Rattle.zs_machine.specs.declared.shape.Shape.{Shape}
use Rattle.zs_machine.specs.Shapes.{data_start, room_in}
use Rattle.zs_machine.specs.Writes.{AreStagedBlocks, IsBlockInRoom, AreInRoom, AreApart}
use Rattle.zs_core.specs.Placed.{LiesBetween, Meet, IsFormed, room_of}
use Rattle.zs_core.specs.Placed.IsFormed.{root, dnodes, leaf}
use Rattle.zs_core.specs.Datasets.{IsFormedWith, AreDatasets}
use Rattle.zs_core.specs.Staging.{AreMade, AreAllMade}
use Rattle.zs_core.specs.View.{txg_of}
use Rattle.zs_core.proofs.Owned.{from_own, own_in_order}

-- the blocks are those of the machine
pub are_staged : (g : Graph) (o : Open) (blocks : List StagedBlock) → AreAllMade g o blocks → AreStagedBlocks g (txg_of o) blocks
are_staged [] o blocks is = is
are_staged (d ∷ ds) o blocks are = (are.0, are.1, are.2, are.3.blocks, are_staged ds o are.1 are.4)

first : List ℕ → ℕ
first [] = 0
first (n ∷ ns) = n

rest : List ℕ → List ℕ
rest [] = []
rest (n ∷ ns) = ns

-- each block is that of something staged, with as many bytes as that says
from_staged : (get : Key → Option Bp) (t : ℕ) (staged : List (Slot × Staging)) (b : StagedBlock) → AreSized (map entry_of staged) (map (block_of get t) (map entry_of staged)) → Has (map (block_of get t) (map entry_of staged)) b → (e : Slot × Staging) × Has staged e × (block_of get t (entry_of e) ≡ b) × (length (block_of get t (entry_of e)).bytes ≡ size_of e.1.sectors e.1.fill)
unfolding first rest
from_staged get t [] b sized h = absurd h
from_staged get t (e ∷ es) b sized (inl is) = (e, inl refl, is, ap first sized)
from_staged get t (e ∷ es) b sized (inr more) =
    let found = from_staged get t es b (ap rest sized) more in (found.0, inr found.1, found.2, found.3)

-- a block that is made for a dataset is that of something staged for it
record IsBlockOf (o : Open) (d : Dataset) (b : StagedBlock) : Type 0 where
  get : Key → Option Bp
  e : Slot × Staging
  here : Has (staged_for o.staged d.id) e
  is : block_of get o.txg (entry_of e) ≡ b
  sized : length (block_of get o.txg (entry_of e)).bytes ≡ size_of e.1.sectors e.1.fill

is_block : (d : Dataset) (o : Open) (own : List StagedBlock) (b : StagedBlock) → AreMade d o own → Has own b → IsBlockOf o d b
is_block d o own b made h =
    let get : Key → Option Bp = over (pointers_of own) (bp_at d.entries) in
    let sizes : AreSized (entries_for o.staged d.id) (map (block_of get o.txg) (entries_for o.staged d.id)) = subst (λ (l : List StagedBlock). AreSized (entries_for o.staged d.id) l) made.blocks made.sized in
    let found = from_staged get o.txg (staged_for o.staged d.id) b sizes (subst (λ (l : List StagedBlock). Has l b) made.blocks h) in
    record { get = get; e = found.0; here = found.1; is = found.2; sized = found.3 }

-- so is each block that is made for some datasets, for one of them
from_all : (ds : Graph) (o : Open) (blocks : List StagedBlock) (b : StagedBlock) → AreAllMade ds o blocks → Has blocks b → (d : Dataset) × Has ds d × IsBlockOf o d b
from_all [] o blocks b is h = absurd (subst (λ (l : List StagedBlock). Has l b) is h)
from_all (d ∷ ds) o blocks b are h = elim (from-append are.0 are.1 b (subst (λ (l : List StagedBlock). Has l b) are.2 h)) [
  | inl own ↦ (d, inl refl, is_block d o are.0 b are.3 own)
  | inr more ↦ (let found = from_all ds o are.1 b are.4 more in (found.0, inr found.1, found.2))
]

-- a block without a fill has eight sectors, so each has 512 bytes a sector
size_is : (sectors : ℕ) (fill : Option ℕ) → (fill ≡ None → sectors ≡ 8) → size_of sectors fill ≡ 512 * sectors
size_is sectors (Some fill) eight = refl
size_is sectors None eight = let is : sectors ≡ 8 = eight refl in omega (arith, is)

-- what lies between the sectors that were handed out lies in the room
lies_in : (start next end sectors : ℕ) (place : Place) → next ≤ end → LiesBetween start next place sectors → LiesIn (room_of start end 0) place sectors
lies_in start next end sectors place ends l =
    let to : place.sector + sectors ≤ next = l.to in
    let at_none : LiesIn (room_of start end 0) (record place { vdev = 0 }) sectors = record { mirror = omega arith; from = l.from; to = omega (arith, to, ends) } in
    subst (λ (m : ℕ). LiesIn (room_of start end 0) (record place { vdev = m }) sectors) (sym l.mirror) at_none

-- a record has at least one sector and at most 256, and so has a block
few_sectors : (n : ℕ) → Has record_sizes n → (1 ≤ n) × (n ≤ 256)
few_sectors n h = elim h [
  | inl is ↦ (omega (arith, is), omega (arith, is))
  | inr a ↦ elim a [ inl is ↦ (omega (arith, is), omega (arith, is)) | inr b ↦ elim b [ inl is ↦ (omega (arith, is), omega (arith, is)) | inr c ↦ elim c [ inl is ↦ (omega (arith, is), omega (arith, is)) | inr d ↦ elim d [ inl is ↦ (omega (arith, is), omega (arith, is)) | inr e ↦ elim e [ inl is ↦ (omega (arith, is), omega (arith, is)) | inr f ↦ elim f [ inl is ↦ (omega (arith, is), omega (arith, is)) | inr g ↦ elim g [ inl is ↦ (omega (arith, is), omega (arith, is)) | inr i ↦ elim i [ inl is ↦ (omega (arith, is), omega (arith, is)) | inr none ↦ absurd none ] ] ] ] ] ] ] ]
]

sectors_of : (size : ℕ → ℕ) (key : Key) (sectors : ℕ) → ((object : ℕ) → Has record_sizes (size object)) → IsFormed size key sectors → (1 ≤ sectors) × (sectors ≤ 256)
sectors_of size key sectors sizes formed = elim formed [
  | root k is ↦ (omega (arith, is), omega (arith, is))
  | dnodes object to k is ↦ (omega (arith, is), omega (arith, is))
  | leaf object from to k is ↦ few_sectors sectors (subst (λ (n : ℕ). Has record_sizes n) (sym is) (sizes object))
]

-- the block of something staged lies in the room, with all its bytes
block_in : (sized : ℕ → ℕ) → ((object : ℕ) → Has record_sizes (sized object)) → (get : Key → Option Bp) (t start next end : ℕ) (e : Slot × Staging) → IsFormed sized e.0.1 e.1.sectors → next ≤ end → LiesBetween start next e.1.place e.1.sectors → (e.1.fill ≡ None → e.1.sectors ≡ 8) → length (block_of get t (entry_of e)).bytes ≡ size_of e.1.sectors e.1.fill → IsBlockInRoom (room_of start end 0) (block_of get t (entry_of e))
block_in sized sizes get t start next end e formed ends between eight size = record {
  placed = inl refl;
  lies = record {
    lies = lies_in start next end e.1.sectors e.1.place ends between;
    some = (sectors_of sized e.0.1 e.1.sectors sizes formed).0;
    most = (sectors_of sized e.0.1 e.1.sectors sizes formed).1;
  };
  size = size ∙ size_is e.1.sectors e.1.fill eight;
}

-- the blocks that are staged for the datasets lie in the space
pub are_in_room : (shape : Shape) (g : Graph) (n next end : ℕ) (o : Open) (blocks : List StagedBlock) → next ≤ end → AreDatasets g n (data_start shape.blocks) next o.staged → AreAllMade g o blocks → AreInRoom (room_in shape end 0) blocks
are_in_room shape g n next end o blocks ends sets made b h =
    let found = from_all g o blocks b made h in
    let of : IsBlockOf o found.0 b = found.2 in
    let d : IsFormedWith n found.0 (staged_for o.staged found.0.id) = sets.formed found.0 found.1 in
    let staged : Has o.staged of.e = (from_own o.staged found.0.id of.e of.here).0 in
    subst (λ (x : StagedBlock). IsBlockInRoom (room_in shape end 0) x) of.is
    (block_in d.size d.formed.sizes of.get o.txg (data_start shape.blocks) next end of.e (d.staged.formed of.e of.here) ends (sets.new of.e staged) (d.staged.sized of.e of.here) of.sized)

-- a slot is not below itself
not_below : (a b : Slot) → a ≡ b → slot_cmp a b ≡ Less → ⊥
not_below a b is less =
    let same : slot_cmp a a ≡ Less = ap (slot_cmp a) is ∙ less in
    let tied : slot_cmp a a ≡ Equal = tied_itself slot_total a in
    let none : ◌≡◌ {A = Ordering} Equal Less = sym tied ∙ same in
    absurd cc

-- blocks of what is staged that share a sector are at places that meet
meets : (get other : Key → Option Bp) (t : ℕ) (e f : Slot × Staging) → Overlap (block_of get t (entry_of e)).bp (block_of other t (entry_of f)).bp → Meet e.1.place e.1.sectors f.1.place f.1.sectors
meets get other t e f over =
    subst (λ (p : Place). Meet p e.1.sectors f.1.place f.1.sectors) at_first (subst (λ (p : Place). Meet over.first.place e.1.sectors p f.1.sectors) at_second
    (record { mirror = over.vdev; before = over.before; behind = over.behind }))
  where
    one : (p : Piece) (place : Place) → Has (record { place = place; birth = t } ∷ []) p → p.place ≡ place
    one p place (inl is) = ap (λ (q : Piece). q.place) (sym is)
    one p place (inr none) = absurd none

    at_first : over.first.place ≡ e.1.place
    at_first = one over.first e.1.place over.is_first

    at_second : over.second.place ≡ f.1.place
    at_second = one over.second f.1.place over.is_second

-- what is staged at places that meet is staged at one slot
abbrev AreApartBySlot : List (Slot × Staging) → Type 0
AreApartBySlot staged = (e f : Slot × Staging) → Has staged e → Has staged f → Meet e.1.place e.1.sectors f.1.place f.1.sectors → e.0 ≡ f.0

-- so no two of the blocks of what is staged in order share a sector
staged_apart : (get : Key → Option Bp) (t : ℕ) (staged : List (Slot × Staging)) → IsInSlotOrder staged → AreApartBySlot staged → AreApart (map (block_of get t) (map entry_of staged))
unfolding IsStrictlySortedBy
staged_apart get t [] rises apart = tt
staged_apart get t (e ∷ es) rises apart = (first_apart es rises.0 (λ f h. apart e f (inl refl) (inr h)), staged_apart get t es rises.1 (λ f g h k. apart f g (inr h) (inr k)))
  where
    first_apart : (fs : List (Slot × Staging)) → AllByRecursion (λ k. slot_cmp e.0 k ≡ Less) (keys_of fs)
        → ((f : Slot × Staging) → Has fs f → Meet e.1.place e.1.sectors f.1.place f.1.sectors → e.0 ≡ f.0)
        → (c : StagedBlock) → Has (map (block_of get t) (map entry_of fs)) c → Overlap (block_of get t (entry_of e)).bp c.bp → ⊥
    first_apart [] less same c h = absurd h
    first_apart (f ∷ fs) less same c (inl is) = subst (λ (x : StagedBlock). Overlap (block_of get t (entry_of e)).bp x.bp → ⊥) is (λ over. not_below e.0 f.0 (same f (inl refl) (meets get get t e f over)) less.0)
    first_apart (f ∷ fs) less same c (inr h) = first_apart fs less.1 (λ g k. same g (inr k)) c h

-- blocks of two lists share no sector where no two of one list do, and none of the first with one of the second
both_apart : (xs ys : List StagedBlock) → AreApart xs → AreApart ys → ((b c : StagedBlock) → Has xs b → Has ys c → Overlap b.bp c.bp → ⊥) → AreApart (xs ++ ys)
both_apart [] ys left right across = right
both_apart (x ∷ xs) ys left right across =
    (λ c h. elim (from-append xs ys c h) [ inl same ↦ left.0 c same | inr other ↦ across x c (inl refl) other ], both_apart xs ys left.1 right (λ b c h i. across b c (inr h) i))

-- no two of the blocks that are staged for some datasets share a sector
apart_by : (ds : Graph) (o : Open) (blocks : List StagedBlock) → IsInIdOrder ds → IsInSlotOrder o.staged → AreApartBySlot o.staged → AreAllMade ds o blocks → AreApart blocks
apart_by [] o blocks order rises apart is = subst (λ (l : List StagedBlock). AreApart l) (sym is) tt
apart_by (d ∷ ds) o blocks order rises apart are =
    subst (λ (l : List StagedBlock). AreApart l) (sym are.2) (both_apart are.0 are.1 own_apart (apart_by ds o are.1 order.1 rises apart are.4) across)
  where
    own_apart : AreApart are.0
    own_apart =
        subst (λ (l : List StagedBlock). AreApart l) (sym are.3.blocks)
        (staged_apart (over (pointers_of are.0) (bp_at d.entries)) o.txg (staged_for o.staged d.id) (own_in_order o.staged d.id rises)
        (λ e f h i meet. apart e f (from_own o.staged d.id e h).0 (from_own o.staged d.id f i).0 meet))

    across : (b c : StagedBlock) → Has are.0 b → Has are.1 c → Overlap b.bp c.bp → ⊥
    across b c h i share =
        let ours : IsBlockOf o d b = is_block d o are.0 b are.3 h in
        let found = from_all ds o are.1 c are.4 i in
        let theirs : IsBlockOf o found.0 c = found.2 in
        let below : d.id.0 < found.0.id.0 = order.0 found.0 found.1 in
        let e = from_own o.staged d.id ours.e ours.here in
        let f = from_own o.staged found.0.id theirs.e theirs.here in
        let shared : Overlap (block_of ours.get o.txg (entry_of ours.e)).bp (block_of theirs.get o.txg (entry_of theirs.e)).bp =
        subst (λ (x : StagedBlock). Overlap x.bp (block_of theirs.get o.txg (entry_of theirs.e)).bp) (sym ours.is) (subst (λ (x : StagedBlock). Overlap b.bp x.bp) (sym theirs.is) share) in
        let slot : ours.e.0 ≡ theirs.e.0 = apart ours.e theirs.e e.0 f.0 (meets ours.get theirs.get o.txg ours.e theirs.e shared) in
        let same : d.id.0 ≡ found.0.id.0 = ap (λ (x : DsId). x.0) (sym e.1 ∙ (ap (λ (s : Slot). s.0) slot ∙ f.1)) in
        omega (arith, below, same)

-- nor do those of all datasets
pub are_apart : (g : Graph) (n start next : ℕ) (o : Open) (blocks : List StagedBlock) → IsInIdOrder g → AreDatasets g n start next o.staged → AreAllMade g o blocks → AreApart blocks
are_apart g n start next o blocks order sets made = apart_by g o blocks order sets.in_order sets.new_apart made
