-- The blocks that a sync writes: their sums, their items, and that they lie on the devices.
use Rattle.std.proofs.Common.{◌≡◌, ℕ, ◌⊎◌, List, [], ◌∷◌, ◌++◌, map, slice_index_or, refl, sym, ◌∙◌, ap, subst, inl, inr, append_assoc}
use Rattle.std.specs.List.{All}
use Rattle.std.specs.Prelude.{Result}
use Rattle.std.proofs.lemmas.Bool.{cases_lt}
use Rattle.zs_objset.specs.declared.block.CommitFault.{CommitFault}
use Rattle.std.proofs.lemmas.List.Elements.{All-nil, All-cons, All-head, All-tail}
use Rattle.zs_ids.specs.declared.block.Bp.{Bp}
use Rattle.zs_ids.specs.declared.block.Item.{Item}
use Rattle.zs_ids.specs.declared.block.Marks.{Marks}
use Rattle.zs_ids.specs.declared.key.Key.{Key}
use Rattle.zs_ids.specs.declared.block.Place.{Place}
use Rattle.zs_ids.specs.Blocks.{bp_at}
use Rattle.zs_ids.specs.Graph.{Graph, Has}
use Rattle.zs_ids.specs.GraphValid.{Room}
use Rattle.zs_lane.specs.Children.{DeviceView}
use Rattle.zs_lane.proofs.GoingOn.{gains_none}
use Rattle.zs_mirror.specs.Mirror.{IsMirror, nowhere}
use Rattle.zs_objset.specs.declared.block.StagedBlock.{StagedBlock}
use Rattle.zs_objset.specs.Staged.{block_of, no_place, over, pointers_of}
use Rattle.zs_queue.specs.Lists.{has-map}
use Rattle.zs_scan.specs.Walks.{item_of}
use Rattle.zs_sum.specs.Sum.{sha256}
use Rattle.zs_script.specs.declared.reply.Reply.{Reply}
use Rattle.zs_script.specs.declared.reply.Reply.TheVariants as replies
use Rattle.zs_machine.specs.declared.event.Event.{Event}
use Rattle.zs_machine.specs.declared.event.Step.{Step}
use Rattle.zs_machine.specs.declared.event.Step.TheVariants as steps
use Rattle.zs_machine.specs.Machine.{Txg}
use Rattle.zs_core.specs.Safe.{IsSafe}
use Rattle.zs_machine.specs.Shapes.{room_in}
use Rattle.zs_core.specs.Synced.{AppliesGroup, AreItemsOf}
use Rattle.zs_machine.specs.Told.{TellsSync, line_steps, put_behind}
use Rattle.zs_machine.specs.History.{AddsEvent}
use Rattle.zs_core.specs.View.{CoreView, PoolView}
use Rattle.zs_machine.specs.Writes.{AreStagedBlocks, IsBlockInRoom, AreInRoom, AreApart}
use Rattle.zs_session.specs.Devices.{AreDevicesOf, AreLonger, Journals}
use Rattle.zs_session.specs.Finish.{AddsSync, Commits, EndsSync}
use Rattle.zs_session.specs.Plays.{data_marks, PutsBlocks, WereWritten, Went, WentAlone}
use Rattle.zs_session.specs.Session.{IsReady, IsUp, Stops}
use Rattle.zs_session.specs.Writing.{IsWritable, AreWritable, PutsAt}
use Rattle.zs_session.proofs.Histories.{passes_event, passes_went, silent_adds, stops_so, went_after, went_one}
use Rattle.zs_session.proofs.LineSteps.{continues, goes_behind}
use Rattle.zs_session.proofs.Rooms.{first_mirror, lies_on}

-- what is in two lists together is in one of them
has_append : (xs ys : List StagedBlock) (b : StagedBlock) → Has (xs ++ ys) b → Has xs b ⊎ Has ys b
has_append [] ys b here = inr here
has_append (x ∷ xs) ys b (inl is) = inl (inl is)
has_append (x ∷ xs) ys b (inr here) = elim (has_append xs ys b here) as (λ _. Has (x ∷ xs) b ⊎ Has ys b) [ inl h ↦ inl (inr h) | inr h ↦ inr h ]

-- the block has its sum, and just one place
pub record IsMade (b : StagedBlock) : Type 0 where
  pub sum : sha256 b.bytes ≡ b.bp.sum
  pub count : b.bp.count ≡ 1
  pub place : Place
  pub others : List Place
  pub places : b.bp.places ≡ place ∷ others

-- blocks that are made of some entries are made
made_of : {E : Type 0} (make : E → StagedBlock) → ((e : E) → IsMade (make e)) → (entries : List E) (blocks : List StagedBlock) → blocks ≡ map make entries → (b : StagedBlock) → Has blocks b → IsMade b
made_of make all entries blocks are b here =
    let from = has-map make entries b (subst (λ (bs : List StagedBlock). Has bs b) are here) in
    subst IsMade from.2 (all from.0)

-- so is each block of a transaction group
pub all_made : (g : Graph) (txg : Txg) (blocks : List StagedBlock) → AreStagedBlocks g txg blocks → (b : StagedBlock) → Has blocks b → IsMade b
all_made [] txg blocks are b here = absurd (subst (λ (bs : List StagedBlock). Has bs b) are here)
all_made (d ∷ ds) txg blocks are b here =
    elim (has_append are.0 are.1 b (subst (λ (bs : List StagedBlock). Has bs b) are.2 here)) as (λ _. IsMade b) [
      | inl own ↦ made_of (block_of (over (pointers_of are.0) (bp_at d.entries)) txg.txg) (λ e. record { sum = refl; count = refl; place = e.place; others = no_place ∷ no_place ∷ []; places = refl }) _ are.0 are.3 b own
      | inr rest ↦ all_made ds txg are.1 are.4 b rest
    ]

-- each block of a transaction group has its sum
pub have_sums : (g : Graph) (txg : Txg) (blocks : List StagedBlock) → AreStagedBlocks g txg blocks → (b : StagedBlock) → Has blocks b → sha256 b.bytes ≡ b.bp.sum
have_sums g txg blocks are b here = (all_made g txg blocks are b here).sum

-- an item is that of one of these blocks
abbrev IsOneOf : List StagedBlock → Item → Type 0
IsOneOf blocks i = (b : StagedBlock) × Has blocks b × (i ≡ item_of b.bp)

-- the items of some blocks are each that of one
ones : (all blocks : List StagedBlock) → ((b : StagedBlock) → Has blocks b → Has all b) → All (IsOneOf all) (map (λ (c : Key × Bp). item_of c.1) (pointers_of blocks))
ones all [] within = All-nil (IsOneOf all)
ones all (b ∷ bs) within = All-cons (IsOneOf all) (item_of b.bp) (map (λ (c : Key × Bp). item_of c.1) (pointers_of bs)) (b, within b (inl refl), refl) (ones all bs (λ x h. within x (inr h)))

-- what is in a list has what all in it have
has_all : (P : Item → Type 0) (items : List Item) (i : Item) → All P items → Has items i → P i
has_all P [] i all here = absurd here
has_all P (x ∷ xs) i all (inl is) = subst P is (All-head P x xs all)
has_all P (x ∷ xs) i all (inr here) = has_all P xs i (All-tail P x xs all) here

-- blocks with the pointers of which these are the items were written
pub were_written : (width : ℕ) (blocks : List StagedBlock) (pointers : List (Key × Bp)) (marks : Marks) (items : List Item) (before after : Journals)
    → pointers_of blocks ≡ pointers → PutsBlocks width blocks marks.places before after → marks.failed ≡ 0 → AreItemsOf pointers items → WereWritten width marks items before after
were_written width blocks pointers marks items before after named puts none are = record {
  blocks = blocks;
  born = λ i here. has_all (IsOneOf blocks) (map (λ (c : Key × Bp). item_of c.1) (pointers_of blocks)) i (ones blocks blocks (λ b h. h))
      (subst (λ (ps : List (Key × Bp)). Has (map (λ (c : Key × Bp). item_of c.1) ps) i) (sym named) (are.each i here));
  puts = puts;
  none_failed = none;
}

-- a block that lies in the room and has its sum can be written on the devices
writable : (v : CoreView) (count : ℕ) (devices : ℕ → DeviceView) (b : StagedBlock) → IsSafe v → AreDevicesOf v.shape count devices → sha256 b.bytes ≡ b.bp.sum
    → IsBlockInRoom (room_in v.shape v.end_sector 0) b → IsWritable count v.shape.width b devices
writable v count devices b safe are sum inside = record {
  sum = sum;
  placed = inside.placed;
  first = first_mirror v 0 (item_of b.bp) inside.lies;
  lies = subst (λ (n : ℕ). IsMirror count v.shape.width (item_of b.bp).piece.place n devices) (sym inside.size) (lies_on v count devices 0 (item_of b.bp) safe.shaped are inside.lies);
}

-- so can those of a transaction group
pub all_writable : (v : CoreView) (count : ℕ) (devices : ℕ → DeviceView) (g : Graph) (txg : Txg) (blocks : List StagedBlock) → IsSafe v → AreDevicesOf v.shape count devices
    → AreStagedBlocks g txg blocks → AreInRoom (room_in v.shape v.end_sector 0) blocks → AreWritable count v.shape.width blocks devices
all_writable v count devices g txg blocks safe devs are within b here = writable v count devices b safe devs (have_sums g txg blocks are b here) (within b here)

-- blocks that can be written, and were, put the blocks of their sync
pub puts_blocks : (count width : ℕ) (devices : ℕ → DeviceView) (room : Room) (blocks : List StagedBlock) (places : List ℕ) (old new : Journals) → AreWritable count width blocks devices
    → AreInRoom room blocks → AreApart blocks → PutsAt width blocks places old new → PutsBlocks width blocks places old new
puts_blocks count width devices room blocks places old new writable within apart puts = record {
  sums = λ b here. (writable b here).sum;
  sizes = λ b here. (within b here).size;
  placed = λ b here. (writable b here).placed;
  not_empty = λ b here. (within b here).lies.some;
  mirror = λ b here. (writable b here).first;
  apart = apart;
  gains = puts.gains;
  last = puts.last;
  none = puts.none;
  others = puts.others;
}

-- an event of a sync's data that goes with its blocks, and then one that leaves the devices alone
pub went_written : (old mid new : PoolView) (marks : Marks) (blocks : List StagedBlock) (before after : Journals) (mask : ℕ) (answer : Reply) (applies : AppliesGroup marks old mid)
    → AddsEvent 0 (steps.Committed mask) answer mid.history new.history → mid.core.shape ≡ old.core.shape → new.core.shape ≡ mid.core.shape → marks.failed ≡ 0
    → pointers_of blocks ≡ old.core.pointers → PutsBlocks old.core.shape.width blocks marks.places before after → Went old new before after []
went_written old mid new marks blocks before after mask answer applies committed same still none named puts =
    went_after old mid new before after after []
    (went_one 0 (steps.EndData old.core.state.online marks applies.items) replies.Nothing old mid before after applies.event same
    (were_written old.core.shape.width blocks old.core.pointers marks applies.items before after named puts none applies.are_items))
    (went_one 0 (steps.Committed mask) answer mid new after after committed still refl)

-- the journals went on by the writes
pub puts_longer : (width : ℕ) (blocks : List StagedBlock) (places : List ℕ) (old new : Journals) → PutsBlocks width blocks places old new → AreLonger old new
puts_longer width blocks places old new puts dev = elim (cases_lt dev width) [
  | inl below ↦ (data_marks blocks, puts.gains dev below)
  | inr above ↦ ([], (puts.others dev above).0 ∙ gains_none (old dev))
]

-- a sync whose data were not applied stops, and so does one that was not committed
pub stops_unapplied : {T E : Type 0} (old new : PoolView) (marks : Marks) (blocks : List StagedBlock) (online : ℕ) (why : CommitFault) (before after : Journals) (r : Result T E)
    → AddsEvent 0 (steps.Suspend online why) replies.Nothing old.history new.history → new.core.shape ≡ old.core.shape
    → PutsBlocks old.core.shape.width blocks marks.places before after → Stops old new before after r
stops_unapplied old new marks blocks online why before after r event shape puts =
    stops_so old new before after r (passes_event 0 (steps.Suspend online why) old new before after r refl event shape refl (puts_longer old.core.shape.width blocks marks.places before after puts))

pub stops_uncommitted : {T E : Type 0} (old mid new : PoolView) (marks : Marks) (blocks : List StagedBlock) (online : ℕ) (why : CommitFault) (before after : Journals) (r : Result T E)
    (applies : AppliesGroup marks old mid) → AddsEvent 0 (steps.Suspend online why) replies.Nothing mid.history new.history → mid.core.shape ≡ old.core.shape → new.core.shape ≡ mid.core.shape
    → marks.failed ≡ 0 → pointers_of blocks ≡ old.core.pointers → PutsBlocks old.core.shape.width blocks marks.places before after → Stops old new before after r
stops_uncommitted old mid new marks blocks online why before after r applies event same still none named puts =
    stops_so old new before after r (passes_went old new before after r
    (silent_adds 0 (steps.Suspend online why) mid.history new.history event ∙ silent_adds 0 (steps.EndData old.core.state.online marks applies.items) old.history mid.history applies.event)
    (went_after old mid new before after after []
    (went_one 0 (steps.EndData old.core.state.online marks applies.items) replies.Nothing old mid before after applies.event same
    (were_written old.core.shape.width blocks old.core.pointers marks applies.items before after named puts none applies.are_items))
    (went_one 0 (steps.Suspend online why) replies.Nothing mid new after after event still refl)))

-- the steps of a sync that was committed
pub ends_sync : (old mid new : List Event) (online mask : ℕ) (marks : Marks) (items : List Item) (answer reply : Reply) → AddsEvent 0 (steps.EndData online marks items) answer old mid → AddsEvent 0 (steps.Committed mask) reply mid new → EndsSync (line_steps old) (line_steps new)
ends_sync old mid new online mask marks items answer reply first second =
    go (line_steps old) (goes_behind 0 (steps.EndData online marks items) answer old mid first refl refl) (goes_behind 0 (steps.Committed mask) reply mid new second refl refl)
  where
    go : (ss : List Step) → line_steps mid ≡ put_behind ss (steps.EndData online marks items) → line_steps new ≡ put_behind (line_steps mid) (steps.Committed mask) → EndsSync ss (line_steps new)
    go [] one two = two ∙ ap (λ (l : List Step). put_behind l (steps.Committed mask)) one
    go (s ∷ ss) one two = (online, marks, items, mask, two ∙ (ap (λ (l : List Step). put_behind l (steps.Committed mask)) one ∙ append_assoc (s ∷ ss) (steps.EndData online marks items ∷ []) (steps.Committed mask ∷ [])))

-- a sync that was begun and committed is one more
pub adds_sync : (old mid new : List Event) (answer : Reply) → AddsEvent 0 steps.BeginSync answer old mid → EndsSync (line_steps mid) (line_steps new) → AddsSync (line_steps old) (line_steps new)
adds_sync old mid new answer begun ends =
    go (line_steps old) (subst (λ (l : List Step). EndsSync l (line_steps new)) (continues 0 steps.BeginSync answer old mid begun refl) ends)
  where
    go : (ss : List Step) → EndsSync (ss ++ steps.BeginSync ∷ []) (line_steps new) → AddsSync ss (line_steps new)
    go [] e = record { made = line_steps new; tells = subst TellsSync (sym e.4) tt; is = refl }
    go (s ∷ ss) e = record {
      made = steps.BeginSync ∷ steps.EndData e.0 e.1 e.2 ∷ steps.Committed e.3 ∷ [];
      tells = tt;
      is = e.4 ∙ append_assoc (s ∷ ss) (steps.BeginSync ∷ []) (steps.EndData e.0 e.1 e.2 ∷ steps.Committed e.3 ∷ []);
    }

-- one that was refused is too
pub adds_refused : (old new : List Event) (answer : Reply) → AddsEvent 0 steps.BeginSync answer old new → AddsSync (line_steps old) (line_steps new)
adds_refused old new answer is = record { made = steps.BeginSync ∷ []; tells = tt; is = continues 0 steps.BeginSync answer old new is refl }

-- a sync was begun, its blocks were written and it was committed
pub went_synced : (old mid new : PoolView) (blocks : List StagedBlock) (marks : Marks) (before after : Journals) (answer : Reply) → AddsEvent 0 steps.BeginSync answer old.history mid.history
    → mid.core.shape ≡ old.core.shape → mid.core.pointers ≡ pointers_of blocks → PutsBlocks mid.core.shape.width blocks marks.places before after → Commits marks mid new
    → Went old new before after []
went_synced old mid new blocks marks before after answer begun same pointers puts commits =
    went_after old mid new before before after []
    (went_one 0 steps.BeginSync answer old mid before before begun same refl)
    (commits blocks before after (sym pointers) puts)

-- the sync that makes a pool writes no block
pub puts_none : (width : ℕ) (places : List ℕ) (js : Journals) → ((dev : ℕ) → slice_index_or places dev nowhere ≡ nowhere) → PutsBlocks width [] places js js
puts_none width places js none = record {
  sums = λ b here. absurd here;
  sizes = λ b here. absurd here;
  placed = λ b here. absurd here;
  not_empty = λ b here. absurd here;
  mirror = λ b here. absurd here;
  apart = tt;
  gains = λ dev lt. gains_none (js dev);
  last = λ dev lt some. absurd (some refl);
  none = λ is dev. none dev;
  others = λ dev le. (refl, none dev);
}

pub went_made : (marks : Marks) (old new : PoolView) → old.core.pointers ≡ [] → ((dev : ℕ) → slice_index_or marks.places dev nowhere ≡ nowhere) → Commits marks old new → WentAlone old new []
went_made marks old new none nowhere commits js = commits [] js js (sym none) (puts_none old.core.shape.width marks.places js nowhere)

-- and leaves the pool ready for a line
pub ready_made : (p : PoolView) (old : List Event) → IsUp p → line_steps old ≡ [] → EndsSync (line_steps old) (line_steps p.history) → IsReady p
ready_made p old up fresh ends = record { between = up.between; up = up.up; unread = up.unread; fresh = subst (λ (ss : List Step). EndsSync ss (line_steps p.history)) fresh ends }
