-- What the events of a session did to its devices' journals bears out what they claim.
use Rattle.std.proofs.Common.{◌≡◌, ◌≢◌, inl, inr, ℕ, ◌≤◌, ◌<◌, List, [], ◌∷◌, ◌++◌, length, flat_map, append_assoc, append-nil, sym, ◌∙◌, ap, subst, arith}
use Rattle.std.specs.Prelude.{IsSome}
use Rattle.std.proofs.lemmas.Bool.{cases_eq}
use Rattle.std.proofs.lemmas.Grind.{flat_map-append}
use Rattle.zs_lane.specs.declared.mark.Mark.{Mark}
use Rattle.zs_script.specs.declared.command.Command.{Command}
use Rattle.zs_script.specs.declared.command.Command.TheVariants as commands
use Rattle.zs_script.specs.declared.refusal.Refusal.TheVariants.{DeviceFault}
use Rattle.zs_script.specs.declared.reply.Reply.{Reply}
use Rattle.zs_script.specs.declared.reply.Reply.TheVariants as replies
use Rattle.zs_machine.specs.declared.event.Event.{Event}
use Rattle.zs_machine.specs.declared.event.Step.{Step}
use Rattle.zs_machine.specs.declared.event.Step.TheVariants as steps
use Rattle.zs_machine.specs.Flight.{in_flight}
use Rattle.zs_machine.specs.Matches.{Call, calls_of, BearsOut, AllBorneOut, Matches}
use Rattle.zs_session.specs.Devices.{Journals, marks_of, AreLonger}
use Rattle.zs_session.specs.Plays.{PlaysLine, PlaysOne, Plays}
use Rattle.zs_session.proofs.Sets.{longer_twice}
use Rattle.zs_session.proofs.Marking.{AllLonger, all_longer, all_grown}
use Rattle.zs_session.proofs.CallsMade.{AreMade, none_made, both_made}
use Rattle.zs_session.proofs.CheckedCalls.{GainsSome, gains_same}
use Rattle.zs_session.proofs.CheckedEntries.{longer_same, batch_longer, batch_borne, batch_made}
use Rattle.zs_session.proofs.Growing.{all_matches, matches_longer}
use Rattle.zs_session.proofs.OnMirror.{AreTold, told_longer}
use Rattle.zs_session.proofs.ReadCalls.{read_adds, read_borne, read_made}
use Rattle.zs_session.proofs.WrittenCalls.{data_adds, data_borne, data_made}

-- where the journal of one device gains marks and the others are as they were, all are longer
one_longer : (dev : ℕ) (old new : Journals) → GainsSome (old dev) (new dev) → ((e : ℕ) → e ≢ dev → new e ≡ old e) → AreLonger old new
one_longer dev old new gains others e = elim (cases_eq e dev) [
  | inl is ↦ subst (λ (d : ℕ). GainsSome (old d) (new d)) (sym is) gains
  | inr else ↦ gains_same (old e) (new e) (others e else)
]

-- what a line marks by itself only adds marks
line_longer : (c : Command) (answer : Reply) (old new : Journals) → PlaysLine c answer old new → AreLonger old new
line_longer (commands.Rot dev sector count) (replies.Rotted d first many) old new (rots, others) = one_longer dev old new (_, rots.gains) others
line_longer (commands.Rot dev sector count) (replies.Refused DeviceFault) old new (part, others) = one_longer dev old new (_, part.1) others
line_longer c answer old new same = longer_same old new same

-- what an event marked only adds marks
step_longer : (width : ℕ) (before : List Event) (by : ℕ) (s : Step) (answer : Reply) (old new : Journals)
    → PlaysOne width before (record { by = by; step = s; reply = answer }) old new → AreLonger old new
step_longer width before by (steps.Verdict number pieces entries) answer old new plays = batch_longer width (in_flight before) number pieces entries old new plays
step_longer width before by (steps.EndData online marks items) answer old new plays = data_adds width online marks items old new plays
step_longer width before by (steps.ReadEnd p places) answer old new plays = read_adds width p places answer old new plays
step_longer width before by (steps.Line c) answer old new plays = line_longer c answer old new plays
step_longer width before by _ answer old new same = longer_same old new same

-- what it claims is borne out
step_borne : (width : ℕ) (before : List Event) (by : ℕ) (s : Step) (answer : Reply) (old new : Journals) → AreTold width old
    → PlaysOne width before (record { by = by; step = s; reply = answer }) old new → BearsOut width (marks_of new) before (record { by = by; step = s; reply = answer })
step_borne width before by (steps.Verdict number pieces entries) answer old new told plays = batch_borne width (in_flight before) number pieces entries old new plays told
step_borne width before by (steps.EndData online marks items) answer old new told plays = data_borne width online marks items old new plays told
step_borne width before by (steps.ReadEnd p places) answer old new told plays = read_borne width p places answer old new told plays
step_borne width before by _ answer old new told plays = tt

-- the calls that it names were made
step_made : (width : ℕ) (before : List Event) (by : ℕ) (s : Step) (answer : Reply) (old new : Journals) → AreTold width old
    → PlaysOne width before (record { by = by; step = s; reply = answer }) old new → AreMade (marks_of old) (marks_of new) (calls_of width s)
step_made width before by (steps.Verdict number pieces entries) answer old new told plays = batch_made width (in_flight before) number pieces entries old new plays told
step_made width before by (steps.EndData online marks items) answer old new told plays = data_made width online marks items old new plays told
step_made width before by (steps.ReadEnd p places) answer old new told plays = read_made width p places answer old new told plays
step_made width before by _ answer old new told plays = none_made (marks_of old) (marks_of new)

-- events only add marks
pub plays_longer : (width : ℕ) (before es : List Event) (old new : Journals) → Plays width before es old new → AreLonger old new
plays_longer width before [] old new same = longer_same old new same
plays_longer width before (e ∷ es) old new (mid, one, rest) =
    longer_twice old mid new (step_longer width before e.by e.step e.reply old mid one) (plays_longer width (before ++ e ∷ []) es mid new rest)

-- what is borne out of some events, and of one behind them, is borne out of all
borne_push : (width : ℕ) (journals : ℕ → List Mark) (before es : List Event) (e : Event) → AllBorneOut width journals before es
    → BearsOut width journals (before ++ es) e → AllBorneOut width journals before (es ++ e ∷ [])
borne_push width journals before [] e all one = (subst (λ (l : List Event). BearsOut width journals l e) (append-nil before) one, tt)
borne_push width journals before (x ∷ xs) e (first, rest) one = (
  first,
  borne_push width journals (before ++ x ∷ []) xs e rest
      (subst (λ (l : List Event). BearsOut width journals l e) (sym (append_assoc before (x ∷ []) xs)) one),
)

-- the calls of the events of a history
abbrev calls_in : ℕ → List Event → List Call
calls_in width es = flat_map (λ (e : Event). calls_of width e.step) es

-- the calls of a history with one more event
calls_push : (width : ℕ) (es : List Event) (e : Event) → calls_in width (es ++ e ∷ []) ≡ calls_in width es ++ calls_of width e.step
calls_push width es e =
    flat_map-append (λ (x : Event). calls_of width x.step) es (e ∷ []) ∙ ap (λ (l : List Call). calls_in width es ++ l) (append-nil (calls_of width e.step))

-- the claims of a history with one more event are borne out
match_one : (width : ℕ) (began : ℕ → List Mark) (es : List Event) (e : Event) (old new : Journals) → AreTold width old
    → ((dev : ℕ) → length (began dev) ≤ length (marks_of old dev)) → Matches width began (marks_of old) es → PlaysOne width es e old new
    → Matches width began (marks_of new) (es ++ e ∷ [])
match_one width began es e old new told began_in it plays = record {
  each = borne_push width (marks_of new) [] es e grown.each (step_borne width es e.by e.step e.reply old new told plays);
  once = made.once;
  since = made.since;
  marked = made.marked;
}
  where
    longer : AllLonger (marks_of old) (marks_of new)
    longer = all_longer old new (step_longer width es e.by e.step e.reply old new plays)

    grown : Matches width began (marks_of new) es
    grown = all_matches width began (marks_of old) (marks_of new) es longer it

    made : AreMade began (marks_of new) (calls_in width (es ++ e ∷ []))
    made = rw (calls_push width es e) (both_made began (marks_of old) (marks_of new) (calls_in width es) (calls_of width e.step) began_in
        (all_grown (marks_of old) (marks_of new) longer) (record { once = it.once; since = it.since; marked = it.marked })
        (step_made width es e.by e.step e.reply old new told plays))

-- the claims of a history stay borne out as events mark the journals, and so are those of these events
pub matches_on : (width : ℕ) (began : ℕ → List Mark) (es more : List Event) (old new : Journals) → ((k : ℕ) → k < width → IsSome (old k))
    → ((dev : ℕ) → length (began dev) ≤ length (marks_of old dev)) → Matches width began (marks_of old) es → Plays width es more old new
    → Matches width began (marks_of new) (es ++ more)
matches_on width began es [] old new told began_in it same =
    rw (append-nil es) (matches_longer width began old new es (longer_same old new same) it)
matches_on width began es (e ∷ more) old new told began_in it (mid, one, rest) =
    subst (λ (l : List Event). Matches width began (marks_of new) l) (append_assoc es (e ∷ []) more)
    (matches_on width began (es ++ e ∷ []) more mid new (told_longer width old mid longer told) (λ dev. after dev)
    (match_one width began es e old mid told began_in it one) rest)
  where
    longer : AreLonger old mid
    longer = step_longer width es e.by e.step e.reply old mid one

    after : (dev : ℕ) → length (began dev) ≤ length (marks_of mid dev)
    after dev = omega (arith, began_in dev, all_grown (marks_of old) (marks_of mid) (all_longer old mid longer) dev)
