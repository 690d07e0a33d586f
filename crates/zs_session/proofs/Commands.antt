-- The commands of a history are those of the lines that were run.
use Rattle.std.proofs.Common.{◌≡◌, ℕ, zero, suc, ◌+◌, ◌<◌, List, [], ◌∷◌, ◌++◌, length, take, get_or, sym, ◌∙◌, ap, subst, arith}
use Rattle.std.proofs.lemmas.List.{append-nil, take_more, take_all, take-map, map-append}
use Rattle.std.proofs.lemmas.Grind.{flat_map-append}
use Rattle.zs_script.specs.declared.command.Command.{Command}
use Rattle.zs_script.specs.declared.command.Line.{Line}
use Rattle.zs_machine.specs.declared.event.Event.{Event}
use Rattle.zs_machine.specs.Commands.{command_in, commands_of}
use Rattle.zs_core.specs.View.{PoolView}
use Rattle.zs_session.specs.Devices.{Journals}
use Rattle.zs_session.specs.Plays.{Went, Halts}
use Rattle.zs_session.specs.Session.{Continues, HaltsPart, AreFirst, commands_in}
use Rattle.zs_session.proofs.Histories.{goes_of, went_twice, halts_of, halts_twice, halts_after}

-- the commands of one line more
taken : (lines : List Line) (i : ℕ) (d : Line) → i < length lines → commands_in (take (i + 1) lines) ≡ commands_in (take i lines) ++ (get_or lines i d).command ∷ []
taken lines i d below = ap commands_in (take_more lines i d below) ∙ map-append (λ (line : Line). line.command) (take i lines) (get_or lines i d ∷ [])

-- the first lines were run, and then the next
pub went_next : (old mid new : PoolView) (before between after : Journals) (lines : List Line) (i : ℕ) (d : Line) → i < length lines
    → Went old mid before between (commands_in (take i lines)) → Went mid new between after ((get_or lines i d).command ∷ [])
    → Went old new before after (commands_in (take (i + 1) lines))
went_next old mid new before between after lines i d below first second =
    subst (λ (cs : List Command). Went old new before after cs) (sym (taken lines i d below))
    (went_twice old mid new before between after (commands_in (take i lines)) ((get_or lines i d).command ∷ []) first second)

-- the first lines were run, which is a part of all
first_lines : (old new : PoolView) (before after : Journals) (lines : List Line) (i : ℕ) → Halts old new before after (commands_in (take i lines))
    → HaltsPart old new before after (commands_in lines)
first_lines old new before after lines i halts =
    record { many = i; part = subst (λ (cs : List Command). Halts old new before after cs) (sym (take-map (λ (line : Line). line.command) i lines)) halts }

-- the first lines were run, and the next was begun
pub part_of_lines : (old mid new : PoolView) (before between after : Journals) (lines : List Line) (i : ℕ) (d : Line) → i < length lines
    → Went old mid before between (commands_in (take i lines)) → HaltsPart mid new between after ((get_or lines i d).command ∷ [])
    → HaltsPart old new before after (commands_in lines)
part_of_lines old mid new before between after lines i d below first second = go second.many second.part
  where
    done : Halts mid new between after ((get_or lines i d).command ∷ []) → HaltsPart old new before after (commands_in lines)
    done part = first_lines old new before after lines (i + 1)
        (subst (λ (cs : List Command). Halts old new before after cs) (sym (taken lines i d below))
        (halts_twice old mid new before between after (commands_in (take i lines)) ((get_or lines i d).command ∷ []) first part))

    go : (many : ℕ) → Halts mid new between after (take many ((get_or lines i d).command ∷ [])) → HaltsPart old new before after (commands_in lines)
    go zero part = first_lines old new before after lines i
        (subst (λ (cs : List Command). Halts old new before after cs) (append-nil (commands_in (take i lines)))
        (halts_twice old mid new before between after (commands_in (take i lines)) [] first part))
    go (suc zero) part = done part
    go (suc (suc n)) part = done part

-- a part of the commands came behind none
pub part_after : (old mid new : PoolView) (before between after : Journals) (cs : List Command) → Went old mid before between [] → HaltsPart mid new between after cs
    → HaltsPart old new before after cs
part_after old mid new before between after cs first second =
    record { many = second.many; part = halts_after old mid new before between after (take second.many cs) first second.part }

-- all of them are a part
pub part_whole : (old new : PoolView) (before after : Journals) (cs : List Command) → Went old new before after cs → HaltsPart old new before after cs
part_whole old new before after cs went =
    record { many = length cs; part = subst (λ (xs : List Command). Halts old new before after xs) (sym (take_all (length cs) cs (omega arith))) (halts_of old new before after cs went) }

-- all commands of a history that went on
commands_on : (old new : List Event) (first cs : List Command) → commands_of old ≡ first → Continues old new cs → commands_of new ≡ first ++ cs
commands_on old new first cs is goes =
    ap commands_of goes.is
    ∙ (flat_map-append (λ (e : Event). command_in e.step) old goes.more
    ∙ (ap (λ (xs : List Command). xs ++ commands_of goes.more) is ∙ ap (λ (xs : List Command). first ++ xs) goes.has))

-- the first line made the pool, and the others were run
pub all_commands : (old new : PoolView) (before after : Journals) (first : Line) (others lines : List Line) → lines ≡ first ∷ others
    → commands_of old.history ≡ first.command ∷ [] → Went old new before after (commands_in others) → commands_of new.history ≡ commands_in lines
all_commands old new before after first others lines split made went =
    commands_on old.history new.history (first.command ∷ []) (commands_in others) made (goes_of old new before after (commands_in others) went) ∙ ap commands_in (sym split)

-- or a part of them was
pub first_commands : (old new : PoolView) (before after : Journals) (first : Line) (others lines : List Line) → lines ≡ first ∷ others
    → commands_of old.history ≡ first.command ∷ [] → HaltsPart old new before after (commands_in others) → AreFirst (commands_of new.history) (commands_in lines)
first_commands old new before after first others lines split made halts = record {
  many = suc halts.many;
  first = commands_on old.history new.history (first.command ∷ []) (take halts.many (commands_in others)) made
      (goes_of old new before halts.part.mid (take halts.many (commands_in others)) halts.part.went)
      ∙ ap (λ (ls : List Line). take (suc halts.many) (commands_in ls)) (sym split);
}
