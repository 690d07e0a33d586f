-- The steps of a line, as events are added to a history.
use Rattle.std.proofs.Common.{◌≡◌, ◌≢◌, ℕ, ◌+◌, ◌≤◌, true, false, cond, List, [], ◌∷◌, ◌++◌, length, map, refl, sym, ◌∙◌, ap, subst, arith}
use Rattle.std.specs.Prelude.{fold, flat_map}
use Rattle.std.proofs.lemmas.List.Sums.{fold-append}
use Rattle.std.proofs.lemmas.List.{append-nil}
use Rattle.std.proofs.lemmas.Grind.{flat_map-append}
use Rattle.zs_ids.specs.declared.block.Piece.{Piece}
use Rattle.zs_ledger.specs.declared.entry.Entry.{Entry}
use Rattle.zs_scan.specs.declared.batch.Turn.{Turn}
use Rattle.zs_scan.specs.declared.batch.Turn.TheVariants as turns
use Rattle.zs_script.specs.declared.reply.IssuedPiece.{IssuedPiece}
use Rattle.zs_script.specs.declared.reply.LandedPiece.{LandedPiece}
use Rattle.zs_script.specs.declared.reply.Reply.{Reply}
use Rattle.zs_machine.specs.declared.event.Event.{Event}
use Rattle.zs_machine.specs.declared.event.Stage.TheVariants.{Between}
use Rattle.zs_machine.specs.declared.event.Step.{Step}
use Rattle.zs_machine.specs.declared.event.Step.TheVariants as step
use Rattle.zs_machine.specs.Told.{is_of_line, is_of_sync, put_behind, with_step, line_steps, turns_made, made_by, shown_by, issued_of, landed_of, AreTurns, TellsHold, TellsIssue, TellsLand, AreVerdictsFrom}
use Rattle.zs_core.specs.View.{PoolView}
use Rattle.zs_machine.specs.History.{AddsEvent}
use Rattle.zs_session.specs.Session.{IsReady}
use Rattle.zs_session.specs.Verdicts.{next_number}

-- an event that was added
abbrev added : ℕ → Step → Reply → Event
added by s answer = record { by = by; step = s; reply = answer }

-- one event more is one step more
pub steps_push : (es : List Event) (e : Event) → line_steps (es ++ e ∷ []) ≡ with_step (line_steps es) e
steps_push es e = fold-append with_step [] es (e ∷ [])

-- the steps of a line after one event more
pub steps_after : (by : ℕ) (s : Step) (answer : Reply) (old new : List Event) → AddsEvent by s answer old new → line_steps new ≡ with_step (line_steps old) (added by s answer)
steps_after by s answer old new is = ap line_steps is ∙ steps_push old (added by s answer)

-- an event that is of no line and of no sync closes the line
pub closes : (by : ℕ) (s : Step) (answer : Reply) (old new : List Event) → AddsEvent by s answer old new → is_of_line s ≡ false → is_of_sync s ≡ false → line_steps new ≡ []
closes by s answer old new is closing other =
    steps_after by s answer old new is
    ∙ (ap (λ b. cond b (line_steps old ++ s ∷ []) (cond (is_of_sync s) (put_behind (line_steps old) s) [])) closing
    ∙ ap (λ b. cond b (put_behind (line_steps old) s) []) other)

-- another is one more of its steps
pub continues : (by : ℕ) (s : Step) (answer : Reply) (old new : List Event) → AddsEvent by s answer old new → is_of_line s ≡ true → line_steps new ≡ line_steps old ++ s ∷ []
continues by s answer old new is going =
    steps_after by s answer old new is
    ∙ ap (λ b. cond b (line_steps old ++ s ∷ []) (cond (is_of_sync s) (put_behind (line_steps old) s) [])) going

-- the end of a sync's data and its commit stand behind the others
pub goes_behind : (by : ℕ) (s : Step) (answer : Reply) (old new : List Event) → AddsEvent by s answer old new → is_of_line s ≡ false → is_of_sync s ≡ true → line_steps new ≡ put_behind (line_steps old) s
goes_behind by s answer old new is apart behind =
    steps_after by s answer old new is
    ∙ (ap (λ b. cond b (line_steps old ++ s ∷ []) (cond (is_of_sync s) (put_behind (line_steps old) s) [])) apart
    ∙ ap (λ b. cond b (put_behind (line_steps old) s) []) behind)

-- a pool is ready after an event that is of no line and of no sync
pub ready_after : (p : PoolView) (by : ℕ) (s : Step) (answer : Reply) (old : List Event) → AddsEvent by s answer old p.history → is_of_line s ≡ false → is_of_sync s ≡ false → p.core.state.stage ≡ Between → p.core.state.suspended ≡ false → p.core.state.reads ≡ [] → IsReady p
ready_after p by s answer old is closing other between up unread = record { between = between; up = up; unread = unread; fresh = closes by s answer old p.history is closing other }

-- turns, and one more
turns_push : (ss : List Step) (n : ℕ) (turn : Turn) → AreTurns ss n → AreTurns (ss ++ step.Walk turn ∷ []) (fold (λ k x. k + turns_made x) 0 (ss ++ step.Walk turn ∷ []))
turns_push [] n turn are = ((tt, tt), refl)
turns_push (s ∷ ss) n turn are = let rest = turns_push ss (fold (λ k x. k + turns_made x) 0 ss) turn (are.0.1, refl) in ((are.0.0, rest.0), refl)

-- so many turns were made, and so many by one more
turns_and : (ss : List Step) (n k : ℕ) (turn : Turn) → turns_made (step.Walk turn) ≡ k → AreTurns ss n → AreTurns (ss ++ step.Walk turn ∷ []) (n + k)
turns_and ss n k turn made are = (
  (turns_push ss n turn are).0,
  ap (λ m. m + k) are.1 ∙ (ap (λ m. fold (λ j x. j + turns_made x) 0 ss + m) (sym made) ∙ sym (fold-append (λ j x. j + turns_made x) 0 ss (step.Walk turn ∷ []))),
)

-- a turn that found something to walk is one
made_one : (turn : Turn) → turn ≢ turns.Nothing → turns_made (step.Walk turn) ≡ 1
made_one turns.Nothing some = absurd (some refl)
made_one turns.Skip some = refl
made_one turns.Enter some = refl
made_one turns.At some = refl
made_one turns.End some = refl

-- the line's turns are one more after such a turn
pub one_more : (by : ℕ) (turn : Turn) (answer : Reply) (old new : List Event) → AddsEvent by (step.Walk turn) answer old new → turn ≢ turns.Nothing → (n : ℕ) → AreTurns (line_steps old) n → AreTurns (line_steps new) (n + 1)
one_more by turn answer old new is some n are =
    subst (λ (ss : List Step). AreTurns ss (n + 1)) (sym (continues by (step.Walk turn) answer old new is refl)) (turns_and (line_steps old) n 1 turn (made_one turn some) are)

-- and as many after one that found nothing
pub none_more : (by : ℕ) (turn : Turn) (answer : Reply) (old new : List Event) → AddsEvent by (step.Walk turn) answer old new → turn ≡ turns.Nothing → (n : ℕ) → AreTurns (line_steps old) n → AreTurns (line_steps new) n
none_more by turn answer old new is nothing n are =
    subst (λ (ss : List Step). AreTurns ss n) (sym (continues by (step.Walk turn) answer old new is refl))
    (subst (λ (m : ℕ). AreTurns (line_steps old ++ step.Walk turn ∷ []) m) (omega arith) (turns_and (line_steps old) n 0 turn (ap (λ (t : Turn). turns_made (step.Walk t)) nothing) are))

-- a batch was taken, and nothing else was done
pub was_held : (by number vdev online n : ℕ) (pieces : List Piece) (sectors : List ℕ) (answer : Reply) (old new : List Event) → line_steps old ≡ [] → AddsEvent by (step.Hold number vdev online pieces) answer old new → length pieces ≤ n → sectors ≡ map (λ p. p.place.sector) pieces → TellsHold (line_steps new) vdev n sectors
was_held by number vdev online n pieces sectors answer old new fresh is few same =
    subst (λ (ss : List Step). TellsHold ss vdev n sectors) (sym (continues by (step.Hold number vdev online pieces) answer old new is refl ∙ ap (λ ss. ss ++ step.Hold number vdev online pieces ∷ []) fresh)) (refl, few, same)

-- an empty batch was taken
pub none_issued : (by number vdev online n : ℕ) (pieces : List Piece) (answer : Reply) (old new : List Event) → line_steps old ≡ [] → AddsEvent by (step.Hold number vdev online pieces) answer old new → pieces ≡ [] → TellsIssue (line_steps new) vdev n []
none_issued by number vdev online n pieces answer old new fresh is none =
    subst (λ (ss : List Step). TellsIssue ss vdev n []) (sym (continues by (step.Hold number vdev online pieces) answer old new is refl ∙ ap (λ ss. ss ++ step.Hold number vdev online pieces ∷ []) fresh)) (refl, none, refl)

-- a batch was taken and had its verdict
pub was_issued : (by number vdev online n m : ℕ) (pieces checked : List Piece) (entries : List Entry) (shown : List IssuedPiece) (answer reply : Reply) (old mid new : List Event) → line_steps old ≡ [] → AddsEvent by (step.Hold number vdev online pieces) answer old mid → AddsEvent by (step.Verdict m checked entries) reply mid new → length pieces ≤ n → m ≡ number → map (λ e. e.piece) entries ≡ pieces → shown ≡ map issued_of entries → TellsIssue (line_steps new) vdev n shown
was_issued by number vdev online n m pieces checked entries shown answer reply old mid new fresh held judged few same all is =
    let first : line_steps mid ≡ step.Hold number vdev online pieces ∷ [] = continues by (step.Hold number vdev online pieces) answer old mid held refl ∙ ap (λ ss. ss ++ step.Hold number vdev online pieces ∷ []) fresh in
    let both : line_steps new ≡ step.Hold number vdev online pieces ∷ step.Verdict m checked entries ∷ [] = continues by (step.Verdict m checked entries) reply mid new judged refl ∙ ap (λ ss. ss ++ step.Verdict m checked entries ∷ []) first in
    subst (λ (ss : List Step). TellsIssue ss vdev n shown) (sym both) (refl, few, same, all, is)

-- verdicts, and one more of a later batch
later_push : (ss : List Step) (least number : ℕ) (p : Piece) (ps : List Piece) (entries : List Entry) → AreVerdictsFrom least ss → next_number least ss ≤ number → AreVerdictsFrom least (ss ++ step.Verdict number (p ∷ ps) entries ∷ [])
later_push [] least number p ps entries are later = (later, tt)
later_push (step.Verdict m (q ∷ qs) es ∷ ss) least number p ps entries are later = (are.0, later_push ss (m + 1) number p ps entries are.1 later)
later_push (step.Verdict m [] es ∷ ss) least number p ps entries are later = absurd are
later_push (s ∷ ss) least number p ps entries are later = absurd are

-- the next number is then one more than that batch's
next_push : (ss : List Step) (least number : ℕ) (pieces : List Piece) (entries : List Entry) → next_number least (ss ++ step.Verdict number pieces entries ∷ []) ≡ number + 1
next_push [] least number pieces entries = refl
next_push (step.Verdict m checked es ∷ ss) least number pieces entries = next_push ss (m + 1) number pieces entries
next_push (s ∷ ss) least number pieces entries = next_push ss least number pieces entries

-- the same of a history
pub next_landed : (by number : ℕ) (pieces : List Piece) (entries : List Entry) (answer : Reply) (old new : List Event) → AddsEvent by (step.Verdict number pieces entries) answer old new → next_number 0 (line_steps new) ≡ number + 1
next_landed by number pieces entries answer old new is =
    ap (next_number 0) (continues by (step.Verdict number pieces entries) answer old new is refl) ∙ next_push (line_steps old) 0 number pieces entries

-- a batch with pieces may come behind verdicts of earlier ones
land_push : (ss : List Step) (number : ℕ) (pieces : List Piece) (entries : List Entry) → AreVerdictsFrom 0 ss → next_number 0 ss ≤ number → 1 ≤ length pieces → AreVerdictsFrom 0 (ss ++ step.Verdict number pieces entries ∷ [])
land_push ss number [] entries are later some = absurd (omega (arith, some))
land_push ss number (p ∷ ps) entries are later some = later_push ss 0 number p ps entries are later

-- what was landed, and one batch more
pub was_landed : (by number many : ℕ) (pieces : List Piece) (entries : List Entry) (answer : Reply) (old new : List Event) (made : ℕ) (shown more : List LandedPiece) → AddsEvent by (step.Verdict number pieces entries) answer old new → next_number 0 (line_steps old) ≤ number → 1 ≤ length pieces → many ≡ length entries → more ≡ shown ++ map (landed_of entries) pieces → TellsLand (line_steps old) made shown → TellsLand (line_steps new) (made + many) more
was_landed by number many pieces entries answer old new made shown more is later some count same told =
    let ss = line_steps old in
    let v = step.Verdict number pieces entries in
    subst (λ (l : List Step). TellsLand l (made + many) more) (sym (continues by v answer old new is refl)) (
      land_push ss number pieces entries told.0 later some,
      ap (λ m. m + many) told.1 ∙ (ap (λ m. fold (λ k x. k + made_by x) 0 ss + m) count ∙ sym (fold-append (λ k x. k + made_by x) 0 ss (v ∷ []))),
      same ∙ (ap (λ l. l ++ map (landed_of entries) pieces) told.2 ∙ (ap (λ l. flat_map shown_by ss ++ l) (sym (append-nil (map (landed_of entries) pieces))) ∙ sym (flat_map-append shown_by ss (v ∷ [])))),
    )
