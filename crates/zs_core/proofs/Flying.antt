-- What a history tells to be in flight, as events are added to it.
use Rattle.std.specs.Prelude.{◌≡◌, ◌==◌, ◌≤◌, ℕ, Bool, true, false, List, [], ◌∷◌, ◌++◌, filter, fold, length, map, not, refl}
use Rattle.std.proofs.Common.{sym, ◌∙◌, ap, subst, inl, inr, arith}
use Rattle.std.proofs.lemmas.List.Sums.{fold-append}
use Rattle.std.proofs.lemmas.List.{map-append}
use Rattle.zs_ids.specs.declared.block.Piece.{Piece}
use Rattle.zs_ids.specs.Graph.{Has}
use Rattle.zs_ledger.specs.declared.entry.Entry.{Entry}
use Rattle.zs_scan.specs.declared.batch.Batch.{Batch}
use Rattle.zs_ids.specs.declared.block.Item.{Item}
use Rattle.zs_scan.specs.View.{ScanView, pieces_in}
use Rattle.zs_scan.specs.Steps.{Taken, AreOf, IsVerdict, Judged}
use Rattle.zs_graph.proofs.Lists.{has-map, from-filter}
use Rattle.zs_machine.specs.declared.event.Event.{Event}
use Rattle.zs_machine.specs.declared.event.Step.{Step}
use Rattle.zs_machine.specs.declared.event.Step.TheVariants as step
use Rattle.zs_machine.specs.Flight.{Flying, flying_after, in_flight, with_batch, without_batch, landed, IsOfFlight}
use Rattle.zs_core.specs.FlightTold.{FlyAsTold, flying_of}

-- one event more is one step more
pub flight_push : (es : List Event) (e : Event) → in_flight (es ++ e ∷ []) ≡ flying_after (in_flight es) e.step
flight_push es e = fold-append (λ flying x. flying_after flying x.step) [] es (e ∷ [])

-- what is in flight after a step flies as the history with its event tells
pub fly_on : (old new_flight : List Batch) (es new : List Event) (e : Event) → new ≡ es ++ e ∷ [] → FlyAsTold old es → map flying_of new_flight ≡ flying_after (map flying_of old) e.step → FlyAsTold new_flight new
fly_on old new_flight es new e is fly after = record {
  are = after ∙ (ap (λ (f : List Flying). flying_after f e.step) fly.are ∙ (sym (flight_push es e) ∙ ap in_flight (sym is)));
}

-- so it is where the step takes and lands no batch, and the flight stays
pub fly_still : (old new_flight : List Batch) (es new : List Event) (e : Event) → new ≡ es ++ e ∷ [] → FlyAsTold old es → new_flight ≡ old → flying_after (map flying_of old) e.step ≡ map flying_of old → FlyAsTold new_flight new
fly_still old new_flight es new e is fly same other = fly_on old new_flight es new e is fly (ap (map flying_of) same ∙ sym other)

-- a batch that was taken flies; an empty one does not
pub taken_after : (b : Batch) (flight : List Batch) → 1 ≤ length b.items → map flying_of (flight ++ b ∷ []) ≡ with_batch (map flying_of flight) b.number b.online (pieces_in b.items)
taken_after b flight some = by b.items refl some
  where
    by : (items : List Item) → b.items ≡ items → 1 ≤ length items → map flying_of (flight ++ b ∷ []) ≡ with_batch (map flying_of flight) b.number b.online (pieces_in b.items)
    by [] is none = absurd (omega (arith, none))
    by (i ∷ is) same many =
        map-append flying_of flight (b ∷ [])
        ∙ (ap (λ (l : List Item). map flying_of flight ++ record { number = b.number; online = b.online; pieces = pieces_in l } ∷ []) same
        ∙ sym (ap (λ (l : List Item). with_batch (map flying_of flight) b.number b.online (pieces_in l)) same))

none_after : (flying : List Flying) (number online : ℕ) (items : List Item) → items ≡ [] → with_batch flying number online (pieces_in items) ≡ flying
none_after flying number online items is = ap (λ (l : List Item). with_batch flying number online (pieces_in l)) is

-- after a batch was taken, or none
pub held_after : (old new : ScanView) (b : Batch) → (1 ≤ length b.items → Taken old b new) → (length b.items ≡ 0 → new ≡ record old { room = new.room }) → map flying_of new.flight ≡ with_batch (map flying_of old.flight) b.number b.online (pieces_in b.items)
held_after old new b taken none = by b.items refl
  where
    by : (items : List Item) → b.items ≡ items → map flying_of new.flight ≡ with_batch (map flying_of old.flight) b.number b.online (pieces_in b.items)
    by [] is = ap (λ (v : ScanView). map flying_of v.flight) (none (ap (λ (l : List Item). length l) is)) ∙ sym (none_after (map flying_of old.flight) b.number b.online b.items is)
    by (i ∷ is) some =
        let many : length b.items ≡ length (i ∷ is) = ap (λ (l : List Item). length l) some in
        let one : 1 ≤ length b.items = omega (arith, many) in
        ap (λ (v : ScanView). map flying_of v.flight) (taken one).rest ∙ taken_after b old.flight one

-- each batch has pieces
abbrev pub HavePieces : List Flying → Type 0
HavePieces flying = (b : Flying) → Has flying b → 1 ≤ length b.pieces

landed_some : (flying : List Flying) (number : ℕ) (pieces : List Piece) → HavePieces flying → HavePieces (landed flying number pieces)
landed_some flying number [] some = some
landed_some flying number (p ∷ ps) some = λ b h. some b (from-filter (λ (x : Flying). not (x.number == number)) flying b h).0

one_more : (flying : List Flying) (last : Flying) → 1 ≤ length last.pieces → HavePieces flying → HavePieces (flying ++ last ∷ [])
one_more [] last many some = λ b h. elim h [ inl is ↦ subst (λ (x : Flying). 1 ≤ length x.pieces) is many | inr none ↦ absurd none ]
one_more (f ∷ fs) last many some =
    let rest = one_more fs last many (λ b h. some b (inr h)) in
    λ b h. elim h [ inl is ↦ some b (inl is) | inr more ↦ rest b more ]

taken_some : (flying : List Flying) (number online : ℕ) (pieces : List Piece) → HavePieces flying → HavePieces (with_batch flying number online pieces)
taken_some flying number online [] some = some
taken_some flying number online (p ∷ ps) some = one_more flying (record { number = number; online = online; pieces = p ∷ ps }) (omega arith) some

-- so it is after one more step
after_some : (flying : List Flying) (s : Step) → HavePieces flying → HavePieces (flying_after flying s)
after_some flying (step.Hold number vdev online pieces) some = taken_some flying number online pieces some
after_some flying (step.Verdict number pieces entries) some = landed_some flying number pieces some
after_some flying (step.Command c) some = some
after_some flying (step.Line c) some = some
after_some flying (step.Walk turn) some = some
after_some flying step.BeginSync some = some
after_some flying (step.EndData online marks items) some = some
after_some flying (step.Committed online) some = some
after_some flying (step.Suspend online why) some = some
after_some flying (step.ReadBegin c planned) some = some
after_some flying (step.ReadEnd p places) some = some
after_some flying (step.Made c) some = some

all_some : (es : List Event) (flying : List Flying) → HavePieces flying → HavePieces (fold (λ f e. flying_after f e.step) flying es)
all_some [] flying some = some
all_some (e ∷ es) flying some = all_some es (flying_after flying e.step) (after_some flying e.step some)

-- and in each history
pub flight_some : (es : List Event) → HavePieces (in_flight es)
flight_some es = all_some es [] (λ b h. absurd h)

-- batches in flight, seen as a history tells of them
flying_here : (flight : List Batch) (b : Batch) → Has flight b → Has (map flying_of flight) (flying_of b)
flying_here flight b h = has-map flying_of flight b h

-- those that are left after a verdict, seen so
left_after : (flight : List Batch) (number : ℕ) → map flying_of (filter (λ (b : Batch). not (b.number == number)) flight) ≡ without_batch (map flying_of flight) number
left_after [] number = refl
left_after (b ∷ bs) number = by (not (b.number == number)) refl (left_after bs number)
  where
    by : (k : Bool) → not (b.number == number) ≡ k → map flying_of (filter (λ (x : Batch). not (x.number == number)) bs) ≡ without_batch (map flying_of bs) number → map flying_of (filter (λ (x : Batch). not (x.number == number)) (b ∷ bs)) ≡ without_batch (map flying_of (b ∷ bs)) number
    by true is rest = rw is (ap (λ (l : List Flying). flying_of b ∷ l) rest)
    by false is rest = rw is rest

-- the entries of items are of their pieces
pub pieces_of_entries : (items : List Item) (entries : List Entry) → AreOf items entries → map (λ (e : Entry). e.piece) entries ≡ pieces_in items
pieces_of_entries [] [] are = refl
pieces_of_entries [] (e ∷ es) are = absurd are
pieces_of_entries (i ∷ is) [] are = absurd are
pieces_of_entries (i ∷ is) (e ∷ es) are = ap (λ (p : Piece). p ∷ map (λ (x : Entry). x.piece) es) are.0 ∙ ap (λ (l : List Piece). i.piece ∷ l) (pieces_of_entries is es are.3)

-- the batch of a verdict is in flight, with the pieces of its entries
pub is_of_flight : (flight : List Batch) (es : List Event) (v : ScanView) (number : ℕ) (entries made : List Entry) → v.flight ≡ flight → FlyAsTold flight es → IsVerdict v number entries → IsOfFlight (in_flight es) number (map (λ (e : Entry). e.piece) entries) made
is_of_flight flight es v number entries made same fly is =
    let told : Has (map flying_of flight) (flying_of is.batch) = flying_here flight is.batch (subst (λ (l : List Batch). Has l is.batch) same is.here) in
    let told_so : Has (in_flight es) (flying_of is.batch) = subst (λ (l : List Flying). Has l (flying_of is.batch)) fly.are told in
    inl ((is.batch).online, rw (pieces_of_entries (is.batch).items entries is.of_items, ← is.named) told_so)

-- a verdict takes its batch out of the flight
pub judged_after : (old new : ScanView) (es : List Event) (number : ℕ) (entries : List Entry) → FlyAsTold old.flight es → IsVerdict old number entries → Judged old number entries new → map flying_of new.flight ≡ landed (map flying_of old.flight) number (map (λ (e : Entry). e.piece) entries)
judged_after old new es number entries fly is judged =
    let told : Has (map flying_of old.flight) (flying_of is.batch) = flying_here old.flight is.batch is.here in
    let some : 1 ≤ length (pieces_in (is.batch).items) = flight_some es (flying_of is.batch) (subst (λ (l : List Flying). Has l (flying_of is.batch)) fly.are told) in
    by (map (λ (e : Entry). e.piece) entries) (subst (λ (l : List Piece). 1 ≤ length l) (sym (pieces_of_entries (is.batch).items entries is.of_items)) some)
  where
    by : (pieces : List Piece) → 1 ≤ length pieces → map flying_of new.flight ≡ landed (map flying_of old.flight) number pieces
    by [] none = absurd (omega (arith, none))
    by (p ∷ ps) many = ap (λ (v : ScanView). map flying_of v.flight) judged.rest ∙ left_after old.flight number
