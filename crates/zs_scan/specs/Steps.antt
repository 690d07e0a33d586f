-- What each call makes of a scan.
use Rattle.std.specs.Prelude.{◌≡◌, ℕ, ◌+◌, ◌==◌, ◌&&◌, Bool, true, false, not, List, [], ◌∷◌, ◌++◌, length, map, filter, replicate, Some, None, if◌then◌else◌}
use Rattle.zs_ids.specs.declared.block.Piece.{Piece}
use Rattle.zs_ids.specs.declared.block.Item.{Item}
use Rattle.zs_ids.specs.Graph.{Has}
use Rattle.zs_ledger.specs.declared.entry.Entry.{Entry}
use Rattle.zs_phys.specs.declared.scope.Scope.{Scope}
use Rattle.zs_ranges.specs.declared.set.Interval.{Interval}
use Rattle.zs_phys.specs.declared.scope.Kind.{Kind}
use Rattle.zs_phys.specs.declared.scope.Kind.TheVariants.{Idle, Scrub, Resilver}
use Rattle.zs_phys.specs.Handlers.{idle}
use Rattle.zs_cover.specs.Laws.{started}
use Rattle.zs_walk.specs.Walking.{runs}
use Rattle.zs_phys.specs.declared.phys.At.TheVariants.{Nowhere}
use Rattle.zs_phys.specs.declared.phys.Phys.{Phys}
use Rattle.zs_phys.specs.declared.phys.Status.TheVariants.{Scanning, Finished, Canceled}
use Rattle.std.specs.List.{list_any}
use Rattle.std.specs.List.Sorted.{IsStrictlySortedBy}
use Rattle.zs_ids.specs.Piece.{piece_cmp}
use Rattle.zs_queue.specs.Waiting.{without}
use Rattle.zs_scan.specs.declared.batch.Batch.{Batch}
use Rattle.zs_scan.specs.View.{Mark, ScanView, is_same, mark_of, flies_in, MarksAs, pieces_in, has_item}

-- the scan is a scrub
abbrev pub is_scrub : Kind → Bool
is_scrub Idle = false
is_scrub Scrub = true
is_scrub Resilver = false

-- the scope of a pool on so many devices that never had a scan: no device lacks a copy
abbrev pub no_scope : ℕ → ℕ → Scope
no_scope devices width = record { kind = Idle; min = 0; max = 0; width = width; dirty0 = replicate devices [] }

-- a scan as it was kept: both states are the kept one, all its entries are stored, and nothing waits or flies
abbrev pub opened_scan : Scope → Phys → List Entry → ℕ → ℕ → ℕ → ℕ → ScanView
opened_scan scope kept entries limit saved every room = record {
  scope = scope;
  run = kept;
  kept = kept;
  stored = length entries;
  saved = saved;
  every = every;
  checked = entries;
  room = room;
  waiting = [];
  limit = limit;
  marks = [];
  flight = [];
  batches = 0;
}

-- a scan that never ran
abbrev pub blank_scan : ℕ → ℕ → ℕ → ℕ → ℕ → ScanView
blank_scan devices width limit every room = opened_scan (no_scope devices width) idle [] limit 0 every room

-- as many sets as these, each of them empty
abbrev pub emptied : List (List Interval) → List (List Interval)
emptied sets = map (λ _. []) sets

-- the scope of a scrub that starts in a transaction group, on the devices of the scope before: no device lacks a copy
abbrev pub scrub_scope : Scope → ℕ → Scope
scrub_scope old t = record { kind = Scrub; min = 0; max = t; width = old.width; dirty0 = emptied old.dirty0 }

-- a scrub starts: nothing is checked, waits or flies; the batches in flight stay there, and get no entries. A crash leaves
-- a scrub that has just started
abbrev pub scrub_started : ℕ → ℕ → ScanView → ScanView
scrub_started t away v = record v {
  scope = scrub_scope v.scope t;
  run = started away;
  kept = started away;
  stored = 0;
  saved = t;
  checked = [];
  waiting = [];
  marks = [];
}

-- a scrub is running, paused or not
abbrev pub is_scrubbing : ScanView → Bool
is_scrubbing v = runs v.run.status && is_scrub v.scope.kind

-- the state paused, or not
abbrev pub paused_as : Bool → Phys → Phys
paused_as paused s = record s { paused = paused }

-- a scan is paused or goes on, before a crash and after it; what waits and flies stays
abbrev pub with_paused : Bool → ScanView → ScanView
with_paused paused v = record v { run = paused_as paused v.run; kept = paused_as paused v.kept }

-- a scan is running that is not a paused scrub
abbrev pub is_busy : ScanView → Bool
is_busy v = runs v.run.status && not (v.run.paused && is_scrub v.scope.kind)

-- a scrub starts, or one that is paused is resumed
abbrev pub after_start : ℕ → ℕ → ScanView → ScanView
after_start t away v = if runs v.run.status then with_paused false v else scrub_started t away v

-- a batch was taken: its pieces no longer wait, and fly in it
pub record Taken (old : ScanView) (b : Batch) (new : ScanView) : Type 0 where
  pub rest :
      new ≡ record old {
        waiting = without old.waiting (pieces_in b.items);
        marks = new.marks;
        flight = old.flight ++ b ∷ [];
        batches = old.batches + 1;
        room = new.room;
      }
  pub marks : (q : Piece) → mark_of new.marks q ≡ (if has_item b.items q then Some (Some b.number) else mark_of old.marks q)

-- the entries are those of the items, one for each, in order
abbrev pub AreOf : List Item → List Entry → Type 0
AreOf [] [] = Unit {0}
AreOf (i ∷ is) (e ∷ es) = (e.piece ≡ i.piece) × (e.sectors ≡ i.sectors) × (e.sum ≡ i.sum) × AreOf is es
AreOf [] (e ∷ es) = ⊥
AreOf (i ∷ is) [] = ⊥

-- a batch of that number is in flight, and the entries are of its items
pub record IsVerdict (v : ScanView) (number : ℕ) (entries : List Entry) : Type 0 where
  pub batch : Batch
  pub here : Has v.flight batch
  pub named : batch.number ≡ number
  pub of_items : AreOf batch.items entries

-- the entries are of pieces in strictly rising order of address
abbrev pub AreRising : List Entry → Type 0
AreRising entries = IsStrictlySortedBy piece_cmp (map (λ e. e.piece) entries)

-- an entry is of the piece
abbrev pub has_entry : List Entry → Piece → Bool
has_entry entries p = list_any (λ e. is_same e.piece p) entries

-- of the entries of a batch those of pieces that still fly in it
abbrev pub still_flying : List (Piece × Mark) → ℕ → List Entry → List Entry
still_flying marks number entries = filter (λ e. flies_in number (mark_of marks e.piece)) entries

-- a batch has its verdict: each of its pieces that still flies is checked, and the batch is no longer in flight
pub record Judged (old : ScanView) (number : ℕ) (entries : List Entry) (new : ScanView) : Type 0 where
  pub rest :
      new ≡ record old {
        checked = old.checked ++ still_flying old.marks number entries;
        marks = new.marks;
        flight = filter (λ b. not (b.number == number)) old.flight;
        room = new.room;
      }
  pub marks : (q : Piece) → mark_of new.marks q ≡ (if flies_in number (mark_of old.marks q) then None else mark_of old.marks q)

-- a piece was freed: it neither waits nor flies
pub record Freed (old : ScanView) (piece : Piece) (new : ScanView) : Type 0 where
  pub rest : new ≡ record old { waiting = without old.waiting (piece ∷ []); marks = new.marks; room = new.room }
  pub marks : MarksAs old.marks new.marks piece None

-- the scan is complete: it runs and is not paused, its walk is at its end, and nothing waits or is in flight
pub record IsComplete (v : ScanView) : Type 0 where
  pub scans : v.run.status ≡ Scanning
  pub goes_on : v.run.paused ≡ false
  pub nowhere : v.run.at ≡ Nowhere
  pub walked : v.run.todo ≡ []
  pub drained : v.waiting ≡ []
  pub landed : v.flight ≡ []

-- the scan is over in this state, before a crash and after it, with all its entries stored
abbrev pub over : Phys → ScanView → ScanView
over s v = record v { run = s; kept = s; stored = length v.checked }

-- the scan has finished
abbrev pub finished : ScanView → ScanView
finished v = over (record v.run { status = Finished }) v

-- the state of a scan that was stopped: nothing is left to walk
abbrev pub canceled : Phys → Phys
canceled s = record s { status = Canceled; paused = false; at = Nowhere; curmin = 0; curmax = 0; again = false; todo = [] }

-- the scan was stopped: what waited and flew is given up; the batches in flight stay there, and get no entries
abbrev pub stopped : ScanView → ScanView
stopped v = record (over (canceled v.run) v) { waiting = []; marks = [] }

-- nothing waits, and no batch is in flight
pub record IsDrained (v : ScanView) : Type 0 where
  pub drained : v.waiting ≡ []
  pub landed : v.flight ≡ []

-- a checkpoint was made in a transaction group: a crash leaves the scan as it is
abbrev pub checkpointed : ℕ → ScanView → ScanView
checkpointed t v = record v { kept = v.run; stored = length v.checked; saved = t }
