-- A scrub that starts is the datasets' own.
use Rattle.std.proofs.Common.{◌≡◌, ◌≤◌, ℕ, List, [], ◌∷◌, inl, inr, sym, subst, arith}
use Rattle.std.specs.Prelude.{Some, None}
use Rattle.zs_ids.specs.Graph.{Graph, Has}
use Rattle.zs_ids.specs.GraphValid.{Room}
use Rattle.zs_ranges.specs.declared.set.Interval.{Interval}
use Rattle.zs_phys.specs.declared.scope.Scope.{Scope}
use Rattle.zs_phys.specs.declared.scope.Kind.TheVariants.{Idle, Scrub}
use Rattle.zs_cover.specs.Laws.{MayStart}
use Rattle.zs_cover.proofs.Starts.{start_keeps}
use Rattle.zs_scan.specs.View.{ScanView, is_done, is_stored}
use Rattle.zs_scan.specs.Covered.{IsScanOf}
use Rattle.zs_scan.specs.Steps.{emptied, scrub_scope, scrub_started}

-- a call keeps the scan the datasets' own where the transaction group t is not after the one that comes next
abbrev KeepsFrom : ℕ → ScanView → ScanView → Type 0
KeepsFrom t old new = (own : Room) (g : Graph) (n h : ℕ) → t ≤ h → IsScanOf own g n h old → IsScanOf own g n h new

scrub≢idle : Scrub ≡ Idle → ⊥
scrub≢idle e = cc

-- each of the sets that were emptied is empty
all_empty : (sets : List (List Interval)) (log : List Interval) → Has (emptied sets) log → log ≡ []
all_empty [] log none = absurd none
all_empty (s ∷ sets) log here = elim here [ inl is ↦ sym is | inr later ↦ all_empty sets log later ]

-- a scrub of what is born before t may start
scrub_may : (old : Scope) (t h : ℕ) → t ≤ h → MayStart h (scrub_scope old t)
scrub_may old t h by = record { runs = scrub≢idle; ends = omega (arith, by); logs = λ kind log here. all_empty old.dirty0 log here }

-- a scrub that starts is the datasets' own
scrub_keeps : (v : ScanView) (t away room : ℕ) → KeepsFrom t v (record (scrub_started t away v) { room = room })
scrub_keeps v t away room own g n h by is = record {
  covered = start_keeps own g n h (scrub_scope v.scope t) away (is_done (record (scrub_started t away v) { room = room })) is.covered.early is.covered.valid (scrub_may v.scope t h by);
  stored = start_keeps own g n h (scrub_scope v.scope t) away (is_stored (record (scrub_started t away v) { room = room })) is.covered.early is.covered.valid (scrub_may v.scope t h by);
  live = record { waiting = λ e none. absurd none; flying = λ b i here item (flies : None ≡ Some (Some b.number)). cc };
  in_room = is.in_room;
}

-- the same, where what the call leaves is told by an equation
pub begun_keeps : (old new : ScanView) (t away : ℕ) → new ≡ record (scrub_started t away old) { room = new.room } → KeepsFrom t old new
begun_keeps old new t away is = subst (λ (o : ScanView). KeepsFrom t old o) (sym is) (scrub_keeps old t away new.room)
