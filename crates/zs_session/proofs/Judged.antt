-- The verdict of a batch in flight.
use Rattle.std.proofs.Common.{◌≡◌, ℕ, ◌==◌, ◌<◌, ◌+◌, Bool, true, false, cond, not, List, [], ◌∷◌, length, filter, map, refl, sym, ◌∙◌, ap, subst, inl, inr, arith, eq-eqb}
use Rattle.std.specs.Prelude.{Option, Some, None}
use Rattle.zs_ids.specs.declared.block.Piece.{Piece}
use Rattle.zs_ids.specs.Graph.{Has}
use Rattle.zs_ledger.specs.declared.entry.Entry.{Entry}
use Rattle.zs_graph.proofs.Lists.{has-map}
use Rattle.zs_queue.specs.Lists.{passing-cons}
use Rattle.zs_scan.specs.declared.batch.Batch.{Batch}
use Rattle.zs_scan.specs.Flight.{first_of}
use Rattle.zs_scan.specs.View.{ScanView, pieces_in, flies_in, mark_of}
use Rattle.zs_scan.specs.Steps.{AreOf, Taken, Judged, still_flying}
use Rattle.zs_scan.proofs.AllFly.{all_fly, of_pieces}
use Rattle.zs_scan.proofs.Batches.{has-last}
use Rattle.zs_core.specs.declared.pool.Verdicts.{Verdicts}
use Rattle.zs_core.specs.Judging.{HasVerdict, IsJudged, entries_in, pieces_in as told_in}
use Rattle.zs_core.specs.View.{PoolView}
use Rattle.zs_machine.specs.History.{AddsEvent}
use Rattle.zs_machine.specs.declared.event.Step.TheVariants as step
use Rattle.zs_script.specs.declared.reply.Reply.TheVariants as reply
use Rattle.zs_session.specs.Devices.{Journals}
use Rattle.zs_session.specs.Plays.{AreChecks, Went}
use Rattle.zs_machine.specs.Flight.{Flying, in_flight}
use Rattle.zs_core.specs.FlightTold.{FlyAsTold, flying_of}
use Rattle.zs_session.specs.Batches.{HadVerdict}
use Rattle.zs_session.proofs.Checks.{are_of}
use Rattle.zs_session.proofs.Histories.{went_one}

-- a batch that is in flight, with entries of its items, has its verdict
pub had : (by many : ℕ) (old new : PoolView) (b : Batch) (v : Verdicts) → HasVerdict by old v many new → Has old.core.scan.flight b → v.number ≡ b.number → AreOf b.items v.entries → HadVerdict by old b many new
had by many old new b v verdict here same are = go verdict.made verdict.judged verdict.counted verdict.event
  where
    go : (made : Option (List Entry)) → IsJudged old.core.scan v.number v.entries made new.core.scan → many ≡ length (entries_in made) → AddsEvent by (step.Verdict v.number (told_in made v.entries) (entries_in made)) reply.Nothing old.history new.history → HadVerdict by old b many new
    go None judged counted event = absurd (judged.0 (record { batch = b; here = here; named = sym same; of_items = are }))
    go (Some made) judged counted event = record {
      entries = v.entries;
      of_items = are;
      made = made;
      which = judged.1 ∙ ap (λ (n : ℕ). still_flying old.core.scan.marks n v.entries) same;
      judged = subst (λ (n : ℕ). Judged old.core.scan n v.entries new.core.scan) same judged.2;
      counted = counted;
      event = subst (λ (ps : List Piece). AddsEvent by (step.Verdict b.number ps made) reply.Nothing old.history new.history) (of_pieces b.items v.entries are)
          (subst (λ (n : ℕ). AddsEvent by (step.Verdict n (map (λ e. e.piece) v.entries) made) reply.Nothing old.history new.history) same event);
    }

-- a batch that was just taken has an entry for each piece then
pub whole_of : (by many : ℕ) (before : ScanView) (old new : PoolView) (b : Batch) (verdict : HadVerdict by old b many new) → Taken before b old.core.scan → map (λ e. e.piece) verdict.made ≡ pieces_in b.items
whole_of by many before old new b verdict taken =
    ap (λ (es : List Entry). map (λ e. e.piece) es) (verdict.which ∙ all_fly before old.core.scan b verdict.entries taken verdict.of_items) ∙ of_pieces b.items verdict.entries verdict.of_items

-- the entries that were made are those of checks of the batch's pieces
pub went_judged : (by many n : ℕ) (old new : PoolView) (b : Batch) (v : Verdicts) (before after : Journals) → HasVerdict by old v many new → Has old.core.scan.flight b → v.number ≡ b.number
    → AreChecks n b.online b.items before v.entries after → n ≡ old.core.shape.width → new.core.shape ≡ old.core.shape → FlyAsTold old.core.scan.flight old.history
    → Went old new before after []
went_judged by many n old new b v before after verdict here same checks width shape fly = go verdict.made verdict.judged verdict.event
  where
    are : AreOf b.items v.entries
    are = are_of n b.online b.items v.entries before after checks

    pieces : map (λ e. e.piece) v.entries ≡ pieces_in b.items
    pieces = of_pieces b.items v.entries are

    taken : Has (in_flight old.history) (record { number = v.number; online = b.online; pieces = map (λ e. e.piece) v.entries })
    taken = subst (λ (n : ℕ). Has (in_flight old.history) (record { number = n; online = b.online; pieces = map (λ e. e.piece) v.entries })) (sym same)
        (subst (λ (ps : List Piece). Has (in_flight old.history) (record { number = b.number; online = b.online; pieces = ps })) (sym pieces)
        (subst (λ (fs : List Flying). Has fs (flying_of b)) fly.are (has-map flying_of old.core.scan.flight b here)))

    go : (made : Option (List Entry)) → IsJudged old.core.scan v.number v.entries made new.core.scan → AddsEvent by (step.Verdict v.number (told_in made v.entries) (entries_in made)) reply.Nothing old.history new.history → Went old new before after []
    go None judged event = absurd (judged.0 (record { batch = b; here = here; named = sym same; of_items = are }))
    go (Some made) judged event = went_one by (step.Verdict v.number (map (λ e. e.piece) v.entries) made) reply.Nothing old new before after event shape (record {
      online = b.online;
      taken = taken;
      items = b.items;
      found = v.entries;
      of_pieces = pieces;
      checks = subst (λ (w : ℕ). AreChecks w b.online b.items before v.entries after) width checks;
      kept = λ (x : Entry). flies_in v.number (mark_of old.core.scan.marks x.piece);
      among = judged.1;
    })

module _ {A : Type 0} where
  -- at most as many pass as there are
  few_pass : (p : A → Bool) (xs : List A) → length (filter p xs) < length xs + 1
  few_pass p [] = omega arith
  few_pass p (x ∷ xs) = elim (p x) as (λ b. length (cond b (x ∷ filter p xs) (filter p xs)) < length (x ∷ xs) + 1) [ true ↦ omega (arith, few_pass p xs) | false ↦ omega (arith, few_pass p xs) ]

  -- fewer pass where one does not
  pub fewer_pass : (p : A → Bool) (xs : List A) (x : A) → Has xs x → p x ≡ false → length (filter p xs) < length xs
  fewer_pass p [] x h fails = absurd h
  fewer_pass p (y ∷ ys) x h fails = elim h [
    | inl is ↦ let out : p y ≡ false = ap p is ∙ fails in omega (arith, few_pass p ys, passing-cons p y ys ∙ ap (λ b. length (filter p ys) + cond b 1 0) out)
    | inr later ↦ elim (p y) as (λ b. length (cond b (y ∷ filter p ys) (filter p ys)) < length (y ∷ ys)) [ true ↦ omega (arith, fewer_pass p ys x later fails) | false ↦ omega (arith, fewer_pass p ys x later fails) ]
  ]

-- a batch of the number is out
out : (b : Batch) (number : ℕ) → b.number ≡ number → not (b.number == number) ≡ false
out b number is = ap not (eq-eqb b.number number is)

-- fewer batches are in flight after the verdict of one
pub fewer_fly : (old new : ScanView) (number : ℕ) (entries : List Entry) (b : Batch) → Has old.flight b → b.number ≡ number → Judged old number entries new → length new.flight < length old.flight
fewer_fly old new number entries b here named judged =
    rw (ap (λ (v : ScanView). v.flight) judged.rest) (fewer_pass (λ (x : Batch). not (x.number == number)) old.flight b here (out b number named))

-- the batch that was taken first is in flight
pub first_flies : (flight : List Batch) (b : Batch) → Some b ≡ first_of flight → Has flight b
first_flies [] b is = cc
first_flies (c ∷ bs) b is = inl cc

-- where there is none nothing is in flight
pub none_flies : (flight : List Batch) → None ≡ first_of flight → flight ≡ []
none_flies [] is = refl
none_flies (c ∷ bs) is = cc

-- where just the batch was in flight, nothing is after its verdict
pub nothing_flies : (flight new : List Batch) (b : Batch) → flight ≡ b ∷ [] → new ≡ filter (λ (x : Batch). not (x.number == b.number)) flight → new ≡ []
nothing_flies flight new b one is =
    is ∙ (ap (λ (bs : List Batch). filter (λ (x : Batch). not (x.number == b.number)) bs) one ∙ ap (λ t. cond t (b ∷ []) []) (out b b.number refl))

-- a batch that was taken is in flight
pub flies : (old new : ScanView) (b : Batch) → Taken old b new → Has new.flight b
flies old new b taken = subst (λ (v : ScanView). Has v.flight b) (sym taken.rest) (has-last old.flight b)

-- what waits stays at a verdict
pub waiting_stays : (by many : ℕ) (old new : PoolView) (b : Batch) → HadVerdict by old b many new → new.core.scan.waiting ≡ old.core.scan.waiting
waiting_stays by many old new b verdict = ap (λ (v : ScanView). v.waiting) verdict.judged.rest

-- fewer batches are in flight after the verdict of the first
pub fewer_land : (by many : ℕ) (old new : PoolView) (b : Batch) → HadVerdict by old b many new → Some b ≡ first_of old.core.scan.flight → length new.core.scan.flight < length old.core.scan.flight
fewer_land by many old new b verdict is = fewer_fly old.core.scan new.core.scan b.number verdict.entries b (first_flies old.core.scan.flight b is) refl verdict.judged
