-- How far a `finish` has come, as events are added to a history.
use Rattle.std.proofs.Common.{◌≡◌, ℕ, ◌≤◌, Bool, true, false, cond, List, [], ◌∷◌, length, refl, sym, ◌∙◌, ap, subst, arith, eq-eqb}
use Rattle.std.specs.Prelude.{fold}
use Rattle.std.proofs.lemmas.List.Sums.{fold-append}
use Rattle.zs_ids.specs.declared.block.Piece.{Piece}
use Rattle.zs_ledger.specs.declared.entry.Entry.{Entry}
use Rattle.zs_script.specs.declared.reply.Reply.{Reply}
use Rattle.zs_machine.specs.declared.event.Event.{Event}
use Rattle.zs_machine.specs.declared.event.Step.{Step}
use Rattle.zs_machine.specs.declared.event.Step.TheVariants as steps
use Rattle.zs_machine.specs.Finishing.{Phase, phase_of, phase_after, is_through, held}
use Rattle.zs_machine.specs.Finishing.Phase.{landing, walking, issuing, drained, closing, ended, strayed}
use Rattle.zs_machine.specs.Told.{is_of_line, line_steps, TellsSync}
use Rattle.zs_machine.specs.History.{AddsEvent}
use Rattle.zs_ids.specs.declared.block.Item.{Item}
use Rattle.zs_ids.specs.declared.block.Marks.{Marks}
use Rattle.zs_session.specs.Finish.{phase_at, Round, in_round, MayGo, MayHold, AddsSync, EndsRound, EndsSync}
use Rattle.zs_session.specs.Finish.Round.{first, second}
use Rattle.zs_session.proofs.LineSteps.{continues}

-- after one step more
pub phase_next : (by : ℕ) (s : Step) (answer : Reply) (old new : List Event) → AddsEvent by s answer old new → is_of_line s ≡ true → phase_at new ≡ phase_after (phase_at old) s
phase_next by s answer old new is going = ap phase_of (continues by s answer old new is going) ∙ fold-append phase_after landing (line_steps old) (s ∷ [])

-- a verdict of a batch that was in flight
pub lands : (by number : ℕ) (pieces : List Piece) (made : List Entry) (answer : Reply) (old new : List Event) → AddsEvent by (steps.Verdict number pieces made) answer old new → phase_at old ≡ landing → phase_at new ≡ landing
lands by number pieces made answer old new is was =
    phase_next by (steps.Verdict number pieces made) answer old new is refl ∙ ap (λ (p : Phase). phase_after p (steps.Verdict number pieces made)) was

-- a step in a round leads where it would lead in the first
round_step : (r : Round) (p : Phase) (s : Step) → phase_after (in_round r p) s ≡ in_round r (phase_after p s)
round_step first p s = refl
round_step second p s = refl

-- the walk may go on once all in flight has landed
pub walks_landed : (p : Phase) → p ≡ landing → MayGo first p
walks_landed p is = subst (MayGo first) (sym is) (record { walk = λ turn. refl; hold = λ number online pieces. refl })

-- or once the first sync was committed
pub walks_again_after : (p : Phase) → p ≡ ended → MayGo second p
walks_again_after p is = subst (MayGo second) (sym is) (record { walk = λ turn. refl; hold = λ number online pieces. refl })

-- or after a turn
pub walks_on : (r : Round) (p : Phase) → p ≡ in_round r walking → MayGo r p
walks_on first p is = subst (MayGo first) (sym is) (record { walk = λ turn. refl; hold = λ number online pieces. refl })
walks_on second p is = subst (MayGo second) (sym is) (record { walk = λ turn. refl; hold = λ number online pieces. refl })

-- or once nothing waits any more, where the walk was not over
pub walks_again : (r : Round) (p : Phase) (least : ℕ) → p ≡ in_round r (drained false least) → MayGo r p
walks_again first p least is = subst (MayGo first) (sym is) (record { walk = λ turn. refl; hold = λ number online pieces. refl })
walks_again second p least is = subst (MayGo second) (sym is) (record { walk = λ turn. refl; hold = λ number online pieces. refl })

-- a batch may be taken where the walk is over
pub holds_over : (r : Round) (p : Phase) → p ≡ in_round r (issuing true 0) → MayHold r true p
holds_over first p is = subst (MayHold first true) (sym is) (λ number online pieces. refl)
holds_over second p is = subst (MayHold second true) (sym is) (λ number online pieces. refl)

-- or where one was taken and checked
pub holds_on : (r : Round) (p : Phase) (over : Bool) → p ≡ in_round r (issuing over 0) → MayHold r over p
holds_on first p over is = subst (MayHold first over) (sym is) (λ number online pieces. refl)
holds_on second p over is = subst (MayHold second over) (sym is) (λ number online pieces. refl)

-- a batch was taken, and none waited
pub held_none : (by number online : ℕ) (pieces : List Piece) (answer : Reply) (old new : List Event) → AddsEvent by (steps.Hold number 0 online pieces) answer old new → length pieces ≡ 0 → (r : Round) (over : Bool) → MayHold r over (phase_at old) → phase_at new ≡ in_round r (drained over 1)
held_none by number online pieces answer old new is none r over may =
    phase_next by (steps.Hold number 0 online pieces) answer old new is refl ∙ (may number online pieces ∙ ap (in_round r) (go pieces none))
  where
    go : (ps : List Piece) → length ps ≡ 0 → held over 0 number ps ≡ drained over 1
    go [] empty = refl
    go (p ∷ ps) empty = absurd (omega (arith, empty))

-- a batch was taken and checked
pub held_some : (by number m online : ℕ) (pieces checked : List Piece) (made : List Entry) (answer reply : Reply) (old mid new : List Event) → AddsEvent by (steps.Hold number 0 online pieces) answer old mid → AddsEvent by (steps.Verdict m checked made) reply mid new → m ≡ number → 1 ≤ length pieces → (r : Round) (over : Bool) → MayHold r over (phase_at old) → phase_at new ≡ in_round r (issuing over 0)
held_some by number m online pieces checked made answer reply old mid new one two same some r over may =
    phase_next by (steps.Verdict m checked made) reply mid new two refl
    ∙ (ap (λ (p : Phase). phase_after p (steps.Verdict m checked made)) (phase_next by (steps.Hold number 0 online pieces) answer old mid one refl ∙ may number online pieces)
    ∙ (round_step r (held over 0 number pieces) (steps.Verdict m checked made) ∙ ap (in_round r) (go pieces some)))
  where
    go : (ps : List Piece) → 1 ≤ length ps → phase_after (held over 0 number ps) (steps.Verdict m checked made) ≡ issuing over 0
    go [] none = absurd (omega (arith, none))
    go (p ∷ ps) here = ap (λ b. cond b (issuing over 0) strayed) (eq-eqb m number same)

-- a sync more, once all is drained
through_from : (r : Round) (over : Bool) (least : ℕ) (ss : List Step) → TellsSync ss → is_through (fold phase_after (in_round r (drained over least)) ss) ≡ true
through_from first true least (steps.BeginSync ∷ []) tells = refl
through_from first false least (steps.BeginSync ∷ []) tells = refl
through_from first true least (steps.BeginSync ∷ steps.EndData online marks items ∷ steps.Committed mask ∷ []) tells = refl
through_from first false least (steps.BeginSync ∷ steps.EndData online marks items ∷ steps.Committed mask ∷ []) tells = refl
through_from second true least (steps.BeginSync ∷ []) tells = refl
through_from second false least (steps.BeginSync ∷ []) tells = refl
through_from second true least (steps.BeginSync ∷ steps.EndData online marks items ∷ steps.Committed mask ∷ []) tells = refl
through_from second false least (steps.BeginSync ∷ steps.EndData online marks items ∷ steps.Committed mask ∷ []) tells = refl
through_from r over least ss tells = absurd tells

pub through : (old new : List Event) (r : Round) (over : Bool) (least : ℕ) → AddsSync (line_steps old) (line_steps new) → phase_at old ≡ in_round r (drained over least) → is_through (phase_at new) ≡ true
through old new r over least adds was =
    ap (λ (ss : List Step). is_through (phase_of ss)) adds.is
    ∙ (ap is_through (fold-append phase_after landing (line_steps old) adds.made)
    ∙ (ap (λ (p : Phase). is_through (fold phase_after p adds.made)) was ∙ through_from r over least adds.made adds.tells))

-- where it was committed, the round has ended
pub ends_round : (old mid new : List Event) (answer : Reply) → AddsEvent 0 steps.BeginSync answer old mid → EndsSync (line_steps mid) (line_steps new) → EndsRound old new
ends_round old mid new answer begun ends r over least was = go (line_steps mid) refl ends (phase_next 0 steps.BeginSync answer old mid begun refl ∙ ap (λ (p : Phase). phase_after p steps.BeginSync) was ∙ closes r over)
  where
    closes : (r : Round) (over : Bool) → phase_after (in_round r (drained over least)) steps.BeginSync ≡ in_round r closing
    closes first true = refl
    closes first false = refl
    closes second true = refl
    closes second false = refl

    not_landing : (r : Round) → landing ≡ in_round r closing → ⊥
    not_landing first is = cc
    not_landing second is = cc

    ended_from : (r : Round) (online mask : ℕ) (marks : Marks) (items : List Item) → fold phase_after (in_round r closing) (steps.EndData online marks items ∷ steps.Committed mask ∷ []) ≡ in_round r ended
    ended_from first online mask marks items = refl
    ended_from second online mask marks items = refl

    go : (ss : List Step) → line_steps mid ≡ ss → EndsSync ss (line_steps new) → phase_at mid ≡ in_round r closing → phase_at new ≡ in_round r ended
    go [] is none closed = absurd (not_landing r (sym (ap phase_of is) ∙ closed))
    go (s ∷ ss) is made closed =
        ap phase_of made.4
        ∙ (fold-append phase_after landing (s ∷ ss) (steps.EndData made.0 made.1 made.2 ∷ steps.Committed made.3 ∷ [])
        ∙ (ap (λ (p : Phase). fold phase_after p (steps.EndData made.0 made.1 made.2 ∷ steps.Committed made.3 ∷ [])) (sym (ap phase_of is) ∙ closed) ∙ ended_from r made.0 made.3 made.1 made.2))
