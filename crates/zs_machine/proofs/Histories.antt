-- A history goes on by one event.
use Rattle.std.specs.Prelude.{◌≡◌, List, [], ◌∷◌, ◌++◌, refl}
use Rattle.std.proofs.Common.{sym, ◌∙◌, ap, subst, append_assoc, append-nil}
use Rattle.zs_machine.specs.declared.event.Event.{Event}
use Rattle.zs_machine.specs.Machine.{PoolState}
use Rattle.zs_machine.specs.Steps.{Steps}
use Rattle.std.proofs.lemmas.Grind.{flat_map-append}
use Rattle.zs_script.specs.Texts.{reply_text}
use Rattle.zs_machine.specs.History.{Full, FullSteps, Run, IsHistory, kept_after, text_of}
use Rattle.zs_machine.specs.Told.{Tells, AreTold}

pub run_push : (s t u : Full) (es : List Event) (e : Event) → Run s es t → FullSteps t e u → Run s (es ++ e ∷ []) u
run_push s t u [] e run step = (u, subst (λ (x : Full). FullSteps x e u) run step, refl)
run_push s t u (d ∷ es) e run step = (run.0, run.1, run_push run.0 t u es e run.2 step)

told_push : (before es : List Event) (e : Event) → AreTold before es → Tells (before ++ es) e → AreTold before (es ++ e ∷ [])
told_push before [] e told tells = (subst (λ (l : List Event). Tells l e) (append-nil before) tells, tt)
told_push before (x ∷ xs) e told tells =
    (told.0, told_push (before ++ x ∷ []) xs e told.1 (subst (λ (l : List Event). Tells l e) (sym (append_assoc before (x ∷ []) xs)) tells))

-- after one more step of the machine, with a reply that tells of the events before it, the history with the event is one
pub history_on : (s t : PoolState) (es new : List Event) (e : Event) → new ≡ es ++ e ∷ [] → IsHistory es s → Steps s e t → Tells es e → IsHistory new t
history_on s t es new e is h step tells = record {
  first = h.first;
  others = h.others ++ e ∷ [];
  is = is ∙ ap (λ l. l ++ e ∷ []) h.is;
  start = h.start;
  begins = h.begins;
  kept = kept_after e.step s h.kept;
  run = run_push _ _ _ h.others e h.run (step, refl);
  told = subst (λ (l : List Event). AreTold [] l) (sym is) (told_push [] es e h.told tells);
}

-- an event that was added to a list was added to an equal one
pub event_added : (new kept old : List Event) (e : Event) → new ≡ kept ++ e ∷ [] → kept ≡ old → new ≡ old ++ e ∷ []
event_added new kept old e added same = added ∙ ap (λ (l : List Event). l ++ e ∷ []) same

-- so a history with one more step is one
pub history_is : (s t : PoolState) (es : List Event) (e : Event) → IsHistory es s → Steps s e t → Tells es e → IsHistory (es ++ e ∷ []) t
history_is s t es e h step tells = history_on s t es (es ++ e ∷ []) e refl h step tells

-- the text of two stretches is that of the one and then that of the other
pub text_is : (es fs : List Event) → text_of (es ++ fs) ≡ text_of es ++ text_of fs
text_is es fs = flat_map-append (λ (e : Event). reply_text e.by e.reply) es fs
