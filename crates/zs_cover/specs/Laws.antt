-- The laws of coverage: each event, with its change of the graph and of the scan state, and each turn of the walk,
-- keeps a graph valid, a state sound, and the state with what was examined covering. A scan starts so, and may finish.
use Rattle.std.specs.Prelude.{◌≡◌, ◌≢◌, ◌≤◌, ◌+◌, ℕ, Bool, false, List, [], Option, IsTrue}
use Rattle.zs_ids.specs.declared.key.Key.{Key}
use Rattle.zs_ids.specs.declared.block.Bp.{Bp}
use Rattle.zs_ids.specs.declared.block.Piece.{Piece}
use Rattle.zs_ids.specs.declared.dataset.DsId.{DsId}
use Rattle.zs_ids.specs.declared.dataset.Name.{Name}
use Rattle.zs_ids.specs.Graph.{Has, Dataset, Graph, pieces_of, IsLive}
use Rattle.zs_ids.specs.GraphTree.{IsHomeOf}
use Rattle.zs_ids.specs.GraphValid.{Room, Valid, origin}
use Rattle.zs_ids.specs.GraphChange.{cloned, with_fs, with_snapshot, destroyed, swapped, applied, MayClone, MaySnapshot, MayDestroy, MaySwap, MayApply}
use Rattle.zs_graph.specs.Climbing.{IsFoundFrom}
use Rattle.zs_ranges.specs.declared.set.Interval.{Interval}
use Rattle.zs_phys.specs.declared.scope.Scope.{Scope}
use Rattle.zs_phys.specs.declared.scope.Kind.TheVariants.{Idle, Resilver}
use Rattle.zs_phys.specs.declared.phys.Phys.{Phys}
use Rattle.zs_phys.specs.declared.phys.At.TheVariants.{Nowhere}
use Rattle.zs_phys.specs.declared.phys.Status.TheVariants.{Scanning, Finished}
use Rattle.zs_phys.specs.Scope.{in_scope}
use Rattle.zs_phys.specs.Ahead.{Covers, claims}
use Rattle.zs_phys.specs.Sound.{Sound, IsAtRest, first_todo}
use Rattle.zs_phys.specs.Handlers.{Handled, Event as events}
use Rattle.zs_phys.specs.Turn.{Turn}

-- a graph that is valid up to n, with a state that is sound for h and covers, where h is the transaction group whose
-- tasks come next
pub record IsCovered (room : Room) (g : Graph) (n h : ℕ) (scope : Scope) (s : Phys) (done : Piece → Bool) : Type 0 where
  pub early : n ≤ h
  pub valid : Valid room g n
  pub sound : Sound g h scope s
  pub covers : Covers g scope s done

-- what was done of the pieces that are live still stays done; the others may leave
abbrev pub StaysDone : Graph → (Piece → Bool) → (Piece → Bool) → Type 0
StaysDone g done more = (p : Piece) → IsLive g p → IsTrue (done p) → IsTrue (more p)

-- the piece is at home in this dataset and in this entry alone
abbrev pub IsOnlyHome : Graph → DsId → Key × Bp → Piece → Type 0
IsOnlyHome g id e p = (id' : DsId) (e' : Key × Bp) → IsHomeOf g id' e' p → (id' ≡ id) × (e' ≡ e)

-- each entry with the piece, of whatever dataset, is this one, and its home is found by climbing from there
abbrev pub IsFoundByClimbing : Graph → DsId → Key × Bp → Piece → Type 0
IsFoundByClimbing g id e p = (d : Dataset) (f : Key × Bp) → Has g d → Has d.entries f → Has (pieces_of f.1) p → (f ≡ e) × IsFoundFrom g id e d

-- each live piece of a valid graph has an entry at home, in one dataset and at one key, and it is found by climbing
-- from any dataset that holds the piece
abbrev pub HomeLaw : Type 0
HomeLaw =
    (room : Room) (g : Graph) (n : ℕ) (p : Piece) → Valid room g n → IsLive g p
    → (id : DsId) × (e : Key × Bp) × IsHomeOf g id e p × IsOnlyHome g id e p × IsFoundByClimbing g id e p

-- a filesystem is made
abbrev pub FsLaw : Type 0
FsLaw =
    (room : Room) (g : Graph) (n h : ℕ) (scope : Scope) (s : Phys) (done more : Piece → Bool) (id : DsId) (name : Name)
    → IsCovered room g n h scope s done → MayClone g origin id name → StaysDone (with_fs g id name) done more
    → IsCovered room (with_fs g id name) h h scope s more

-- a clone is made
abbrev pub CloneLaw : Type 0
CloneLaw =
    (room : Room) (g : Graph) (n h : ℕ) (scope : Scope) (s : Phys) (done more : Piece → Bool) (snap : Dataset) (id : DsId) (name : Name)
    → IsCovered room g n h scope s done → MayClone g snap id name → StaysDone (cloned g snap id name) done more
    → IsCovered room (cloned g snap id name) h h scope s more

-- a snapshot of a head is taken at h
abbrev pub SnapshotLaw : Type 0
SnapshotLaw =
    (room : Room) (g : Graph) (n h : ℕ) (scope : Scope) (s t : Phys) (done more : Piece → Bool) (head : Dataset) (id : DsId) (label : Name)
    → IsCovered room g n h scope s done → MaySnapshot g head id label h → Handled s (events.snapshot_taken head.id id) t
    → StaysDone (with_snapshot g head id label h) done more → IsCovered room (with_snapshot g head id label h) h h scope t more

-- a dataset is destroyed: a head, or a snapshot with at most one child
abbrev pub DestroyLaw : Type 0
DestroyLaw =
    (room : Room) (g : Graph) (n h : ℕ) (scope : Scope) (s t : Phys) (done more : Piece → Bool) (gone : Dataset) (next : Option DsId)
    → IsCovered room g n h scope s done → MayDestroy g gone next → Handled s (events.destroyed gone.id next) t
    → StaysDone (destroyed g gone) done more → IsCovered room (destroyed g gone) h h scope t more

-- two heads are swapped
abbrev pub SwapLaw : Type 0
SwapLaw =
    (room : Room) (g : Graph) (n h : ℕ) (scope : Scope) (s t : Phys) (done more : Piece → Bool) (a b : Dataset) → IsCovered room g n h scope s done
    → MaySwap g a b → Handled s (events.swapped a.id b.id) t → StaysDone (swapped g a b) done more → IsCovered room (swapped g a b) h h scope t more

-- a device goes offline
abbrev pub AwayLaw : Type 0
AwayLaw =
    (room : Room) (g : Graph) (n h : ℕ) (scope : Scope) (s t : Phys) (done more : Piece → Bool) (dev : ℕ) → IsCovered room g n h scope s done
    → Handled s (events.went_away dev) t → StaysDone g done more → IsCovered room g n h scope t more

-- blocks that were written in h are applied to a head
abbrev pub ApplyLaw : Type 0
ApplyLaw =
    (room : Room) (g : Graph) (n h : ℕ) (scope : Scope) (s : Phys) (done more : Piece → Bool) (head : Dataset) (changes : List (Key × Bp))
    → IsCovered room g n h scope s done → MayApply room g head changes h → StaysDone (applied g head changes) done more
    → IsCovered room (applied g head changes) h h scope s more

-- one turn of the walk, in a scan whose scope ends by h; what it puts is done
abbrev pub TurnLaw : Type 0
TurnLaw =
    (room : Room) (g : Graph) (n h : ℕ) (scope : Scope) (s t : Phys) (done more : Piece → Bool) (put : List Piece) → IsCovered room g n h scope s done
    → scope.max ≤ h → Turn g scope done s t put → StaysDone g done more → ((p : Piece) → Has put p → IsTrue (more p))
    → IsCovered room g n h scope t more

-- a scan of this scope may start at h: it is a scrub or a resilver, its scope ends by the next transaction group, and
-- only a resilver has a transaction group in a log
pub record MayStart (h : ℕ) (scope : Scope) : Type 0 where
  pub runs : scope.kind ≢ Idle
  pub ends : scope.max ≤ h + 1
  pub logs : scope.kind ≢ Resilver → (log : List Interval) → Has scope.dirty0 log → log ≡ []

-- the state of a scan that has just started, while these devices are offline
abbrev pub started : ℕ → Phys
started away = record { status = Scanning; paused = false; away = away; at = Nowhere; curmin = 0; curmax = 0; again = false; todo = first_todo }

-- a scan starts: whatever was done, all that is live is ahead
abbrev pub StartLaw : Type 0
StartLaw =
    (room : Room) (g : Graph) (n h : ℕ) (scope : Scope) (away : ℕ) (done : Piece → Bool) → n ≤ h → Valid room g n → MayStart h scope
    → IsCovered room g n h scope (started away) done

-- a scan that has nothing ahead has done each live piece in scope
abbrev pub RestLaw : Type 0
RestLaw =
    (room : Room) (g : Graph) (n h : ℕ) (scope : Scope) (s : Phys) (done : Piece → Bool) → IsCovered room g n h scope s done
    → IsTrue (claims s.status) → s.at ≡ Nowhere → s.todo ≡ [] → (p : Piece) → IsLive g p → IsTrue (in_scope scope p) → IsTrue (done p)

-- later transaction groups come, and more is done
abbrev pub LaterLaw : Type 0
LaterLaw =
    (room : Room) (g : Graph) (n h k : ℕ) (scope : Scope) (s : Phys) (done more : Piece → Bool) → IsCovered room g n h scope s done → h ≤ k
    → StaysDone g done more → IsCovered room g n k scope s more

-- a scan that is at rest finishes
abbrev pub EndLaw : Type 0
EndLaw =
    (room : Room) (g : Graph) (n h : ℕ) (scope : Scope) (s : Phys) (done : Piece → Bool) → IsCovered room g n h scope s done → s.status ≡ Scanning
    → IsAtRest s → IsCovered room g n h scope (record s { status = Finished }) done
