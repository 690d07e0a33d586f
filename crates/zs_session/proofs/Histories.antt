-- How a pool goes on, alone and with its devices.
use Rattle.std.proofs.Common.{◌≡◌, ℕ, List, [], ◌∷◌, ◌++◌, subst, ap, refl, sym, ◌∙◌, append_assoc, append-nil}
use Rattle.std.proofs.lemmas.Grind.{flat_map-append}
use Rattle.std.specs.Prelude.{Result, Ok, Err, OnErr}
use Rattle.std.proofs.lemmas.Result.{on_err_weaker}
use Rattle.zs_io.specs.declared.fault.BayFault.{BayFault}
use Rattle.zs_io.specs.declared.fault.BayFault.TheVariants.{Memory}
use Rattle.zs_lane.specs.Children.{DeviceView}
use Rattle.zs_script.specs.declared.command.Command.{Command}
use Rattle.zs_script.specs.declared.reply.Reply.{Reply}
use Rattle.zs_script.specs.declared.reply.Reply.TheVariants as replies
use Rattle.zs_script.specs.Texts.{reply_text, reply_lines}
use Rattle.zs_machine.specs.declared.event.Event.{Event}
use Rattle.zs_machine.specs.declared.event.Step.{Step}
use Rattle.zs_machine.specs.declared.shape.Shape.{Shape}
use Rattle.zs_core.specs.View.{PoolView}
use Rattle.zs_machine.specs.History.{AddsEvent, text_of}
use Rattle.zs_machine.specs.Commands.{command_in, commands_of}
use Rattle.zs_session.specs.Devices.{Journals, AreDevicesOf, AreLonger}
use Rattle.zs_session.specs.Session.{Continues, Passes, Stops, StopsLine, HaltsPart, WantsMemory}
use Rattle.zs_session.specs.Plays.{PlaysOne, Plays, Went, WentAlone, Halts}
use Rattle.zs_session.proofs.Sets.{longer_none}

-- nothing came since
pub stays : (es : List Event) → Continues es es []
stays es = record { more = []; is = sym (append-nil es); has = refl }

-- one event came since
pub adds : (by : ℕ) (s : Step) (answer : Reply) (old new : List Event) → AddsEvent by s answer old new → Continues old new (command_in s)
adds by s answer old new is = record { more = record { by = by; step = s; reply = answer } ∷ []; is = is; has = append-nil (command_in s) }

-- it went on twice
pub twice : (old mid new : List Event) (cs ds : List Command) → Continues old mid cs → Continues mid new ds → Continues old new (cs ++ ds)
twice old mid new cs ds first second = record {
  more = first.more ++ second.more;
  is = second.is ∙ (ap (λ es. es ++ second.more) first.is ∙ append_assoc old first.more second.more);
  has = flat_map-append (λ e. command_in e.step) first.more second.more ∙ (ap (λ xs. xs ++ commands_of second.more) first.has ∙ ap (λ xs. cs ++ xs) second.has);
}

-- it went on, and then as another history that is the same
pub from_same : (old mid new : List Event) (cs : List Command) → old ≡ mid → Continues mid new cs → Continues old new cs
from_same old mid new cs is goes = subst (λ (es : List Event). Continues es new cs) (sym is) goes

-- nothing happened to a pool and its devices
pub went_none : (p : PoolView) (js : Journals) → Went p p js js []
went_none p js = record { more = []; is = sym (append-nil p.history); has = refl; plays = refl; shape = refl }

-- nor to one that is as it was
pub went_same : (old new : PoolView) (js : Journals) → new ≡ old → Went old new js js []
went_same old new js is = subst (λ (p : PoolView). Went old p js js []) (sym is) (went_none old js)

-- one event happened, with what it marked
pub went_one : (by : ℕ) (s : Step) (answer : Reply) (old new : PoolView) (before after : Journals) → AddsEvent by s answer old.history new.history
    → new.core.shape ≡ old.core.shape → PlaysOne old.core.shape.width old.history (record { by = by; step = s; reply = answer }) before after
    → Went old new before after (command_in s)
went_one by s answer old new before after event shape plays = record {
  more = record { by = by; step = s; reply = answer } ∷ [];
  is = event;
  has = append-nil (command_in s);
  plays = (after, plays, refl);
  shape = shape;
}

-- one event happened that leaves the devices alone
pub went_adds : (by : ℕ) (s : Step) (answer : Reply) (old new : PoolView) → AddsEvent by s answer old.history new.history → new.core.shape ≡ old.core.shape
    → ((js : Journals) → PlaysOne old.core.shape.width old.history (record { by = by; step = s; reply = answer }) js js) → WentAlone old new (command_in s)
went_adds by s answer old new event shape plays js = went_one by s answer old new js js event shape (plays js)

-- what some events marked, and then others
pub plays_twice : (width : ℕ) (start es fs : List Event) (before mid after : Journals) → Plays width start es before mid → Plays width (start ++ es) fs mid after
    → Plays width start (es ++ fs) before after
plays_twice width start [] fs before mid after first second =
    subst (λ (j : Journals). Plays width start fs j after) first (subst (λ (s : List Event). Plays width s fs mid after) (append-nil start) second)
plays_twice width start (e ∷ es) fs before mid after first second = (
  first.0,
  first.1,
  plays_twice width (start ++ e ∷ []) es fs first.0 mid after first.2
      (subst (λ (s : List Event). Plays width s fs mid after) (sym (append_assoc start (e ∷ []) es)) second),
)

-- a pool went on twice with its devices
pub went_twice : (old mid new : PoolView) (before between after : Journals) (cs ds : List Command) → Went old mid before between cs → Went mid new between after ds
    → Went old new before after (cs ++ ds)
went_twice old mid new before between after cs ds first second = record {
  more = first.more ++ second.more;
  is = second.is ∙ (ap (λ es. es ++ second.more) first.is ∙ append_assoc old.history first.more second.more);
  has = flat_map-append (λ e. command_in e.step) first.more second.more ∙ (ap (λ xs. xs ++ commands_of second.more) first.has ∙ ap (λ xs. cs ++ xs) second.has);
  plays = plays_twice old.core.shape.width old.history first.more second.more before between after first.plays
      (subst (λ (h : List Event). Plays old.core.shape.width h second.more between after) first.is
      (subst (λ (s : Shape). Plays s.width mid.history second.more between after) first.shape second.plays));
  shape = second.shape ∙ first.shape;
}

-- its history went on as such
pub goes_of : (old new : PoolView) (before after : Journals) (cs : List Command) → Went old new before after cs → Continues old.history new.history cs
goes_of old new before after cs went = record { more = went.more; is = went.is; has = went.has }

-- its devices are still those of its shape
pub devices_after : (old new : PoolView) (before after : Journals) (cs : List Command) (count : ℕ) (devices : ℕ → DeviceView) → Went old new before after cs
    → AreDevicesOf old.core.shape count devices → AreDevicesOf new.core.shape count devices
devices_after old new before after cs count devices went are = subst (λ (s : Shape). AreDevicesOf s count devices) (sym went.shape) are

-- the same of journals that are as those
pub went_over : (old new : PoolView) (before after b a : Journals) (cs : List Command) → Went old new before after cs → b ≡ before → a ≡ after → Went old new b a cs
went_over old new before after b a cs went is_before is_after =
    subst (λ (x : Journals). Went old new x a cs) (sym is_before) (subst (λ (x : Journals). Went old new before x cs) (sym is_after) went)

-- no reply has no text
no_text : (by : ℕ) → reply_text by replies.Nothing ≡ []
unfolding reply_text reply_lines
no_text by = refl

-- so has an event without one
pub silent_adds : (by : ℕ) (s : Step) (old new : List Event) → AddsEvent by s replies.Nothing old new → text_of new ≡ text_of old
silent_adds by s old new is =
    ap text_of is
    ∙ (flat_map-append (λ e. reply_text e.by e.reply) old (record { by = by; step = s; reply = replies.Nothing } ∷ [])
    ∙ (ap (λ (text : List ℕ). text_of old ++ (text ++ [])) (no_text by) ∙ append-nil (text_of old)))

-- a pool went on alone with no command, and then on alone
pub alone_after : (old mid new : PoolView) (cs : List Command) → WentAlone old mid [] → WentAlone mid new cs → WentAlone old new cs
alone_after old mid new cs first second js = went_twice old mid new js js js [] cs (first js) (second js)

-- a pool went on with no command, and then on, with its devices
pub went_after : (old mid new : PoolView) (before between after : Journals) (cs : List Command) → Went old mid before between [] → Went mid new between after cs → Went old new before after cs
went_after old mid new before between after cs first second = went_twice old mid new before between after [] cs first second

-- or it went on alone then
pub alone_after_went : (old mid new : PoolView) (before between : Journals) (cs : List Command) → Went old mid before between [] → WentAlone mid new cs → Went old new before between cs
alone_after_went old mid new before between cs first second = went_after old mid new before between between cs first (second between)

-- first alone
pub went_after_alone : (old mid new : PoolView) (before after : Journals) (cs : List Command) → WentAlone old mid [] → Went mid new before after cs → Went old new before after cs
went_after_alone old mid new before after cs first second = went_after old mid new before before after cs (first before) second

-- what holds anyway holds where an error is handed on
pub handed : {T E P : Type 0} (r : Result T E) → P → OnErr r P
handed (Ok x) p = tt
handed (Err e) p = p

-- a pool that is as it was, and calls of which no event tells
pub halts_same : (old new : PoolView) (before after : Journals) → new ≡ old → AreLonger before after → Halts old new before after []
halts_same old new before after is longer = record { mid = before; went = went_same old new before is; further = longer }

-- a pool whose history and shape are as they were
pub went_still : (old new : PoolView) (js : Journals) → new.history ≡ old.history → new.core.shape ≡ old.core.shape → Went old new js js []
went_still old new js same shape = record { more = []; is = same ∙ sym (append-nil old.history); has = refl; plays = refl; shape = shape }

-- it went on, and no call came after
pub halts_of : (old new : PoolView) (before after : Journals) (cs : List Command) → Went old new before after cs → Halts old new before after cs
halts_of old new before after cs went = record { mid = after; went = went; further = longer_none after }

-- it went on, and then as far as it did
pub halts_twice : (old mid new : PoolView) (before between after : Journals) (cs ds : List Command) → Went old mid before between cs → Halts mid new between after ds
    → Halts old new before after (cs ++ ds)
halts_twice old mid new before between after cs ds first halts =
    record { mid = halts.mid; went = went_twice old mid new before between halts.mid cs ds first halts.went; further = halts.further }

pub halts_after : (old mid new : PoolView) (before between after : Journals) (cs : List Command) → Went old mid before between [] → Halts mid new between after cs → Halts old new before after cs
halts_after old mid new before between after cs first halts = halts_twice old mid new before between after [] cs first halts

-- one event without a command happened, and then calls of which none tells
pub halts_adds : (by : ℕ) (s : Step) (answer : Reply) (old new : PoolView) (before after : Journals) → command_in s ≡ [] → AddsEvent by s answer old.history new.history
    → new.core.shape ≡ old.core.shape → PlaysOne old.core.shape.width old.history (record { by = by; step = s; reply = answer }) before before → AreLonger before after
    → Halts old new before after []
halts_adds by s answer old new before after none event shape plays longer = record {
  mid = before;
  went = subst (λ (cs : List Command). Went old new before before cs) none (went_one by s answer old new before before event shape plays);
  further = longer;
}

-- with none of the commands yet, and with the one command
pub part_none : (old new : PoolView) (before after : Journals) (cs : List Command) → Halts old new before after [] → HaltsPart old new before after cs
part_none old new before after cs halts = record { many = 0; part = halts }

pub part_one : (old new : PoolView) (before after : Journals) (c : Command) → Halts old new before after (c ∷ []) → HaltsPart old new before after (c ∷ [])
part_one old new before after c halts = record { many = 1; part = halts }

-- what has no reply and no command passes
pub passes_of : {T E : Type 0} (r : Result T E) (old new : PoolView) (before after : Journals) → text_of new.history ≡ text_of old.history → Halts old new before after [] → Passes old new before after r
passes_of r old new before after quiet halts = record { silent = quiet; went_on = handed r halts }

-- a pool that is as it was has passed
pub passes_same : {T E : Type 0} (r : Result T E) (old new : PoolView) (before after : Journals) → new ≡ old → AreLonger before after → Passes old new before after r
passes_same r old new before after same longer = passes_of r old new before after (ap (λ (p : PoolView). text_of p.history) same) (halts_same old new before after same longer)

-- so has one whose history and shape are
pub passes_still : {T E : Type 0} (r : Result T E) (old new : PoolView) (before after : Journals) → new.history ≡ old.history → new.core.shape ≡ old.core.shape → AreLonger before after
    → Passes old new before after r
passes_still r old new before after same shape longer =
    passes_of r old new before after (ap text_of same) (record { mid = before; went = went_still old new before same shape; further = longer })

-- what passes behind what passed
pub passes_after : {T U E F : Type 0} {e : F} (old mid new : PoolView) (before between after : Journals) (r : Result T E) → Went old mid before between []
    → text_of mid.history ≡ text_of old.history → Passes {T = U} mid new between after (Err e) → Passes old new before after r
passes_after old mid new before between after r went quiet passes =
    passes_of r old new before after (passes.silent ∙ quiet) (halts_after old mid new before between after [] went passes.went_on)

-- so does the last part of a line
pub stops_after : {T E : Type 0} (old mid new : PoolView) (before between after : Journals) (r : Result T E) → Went old mid before between []
    → text_of mid.history ≡ text_of old.history → Stops mid new between after r → Stops old new before after r
stops_after old mid new before between after r went quiet stops = record {
  silent = on_err_weaker r (λ (is : text_of new.history ≡ text_of mid.history). is ∙ quiet) stops.silent;
  went_on = on_err_weaker r (halts_after old mid new before between after [] went) stops.went_on;
}

-- what passes stops as such
pub stops_so : {T E : Type 0} (old new : PoolView) (before after : Journals) (r : Result T E) → Passes old new before after r → Stops old new before after r
stops_so old new before after r passes = record { silent = handed r passes.silent; went_on = passes.went_on }

-- a line that ends in a call without devices, behind parts that passed
pub line_after : {T : Type 0} (old mid new : PoolView) (before between : Journals) (r : Result T BayFault) → Went old mid before between [] → WantsMemory mid new r
    → StopsLine old new before between r
line_after old mid new before between r went wants = record { went_on = on_err_weaker r (halts_after old mid new before between between [] went) (wants.went_on between) }

-- a line whose last part stops, behind parts that went on
pub line_halts : {T : Type 0} (old mid new : PoolView) (before between after : Journals) (r : Result T BayFault) → Went old mid before between [] → Halts mid new between after []
    → StopsLine old new before after r
line_halts old mid new before between after r went halts = record { went_on = handed r (halts_after old mid new before between after [] went halts) }

-- a line that stops only for want of memory
pub line_wants : {T : Type 0} (old new : PoolView) (before after : Journals) (r : Result T BayFault) → r ≡ Err Memory → Halts old new before after [] → StopsLine old new before after r
line_wants old new before after r memory halts = record { went_on = handed r halts }

-- one event without a reply and a command passes, and calls of which no event tells
pub passes_event : {T E : Type 0} (by : ℕ) (s : Step) (old new : PoolView) (before after : Journals) (r : Result T E) → command_in s ≡ []
    → AddsEvent by s replies.Nothing old.history new.history → new.core.shape ≡ old.core.shape
    → PlaysOne old.core.shape.width old.history (record { by = by; step = s; reply = replies.Nothing }) before before → AreLonger before after
    → Passes old new before after r
passes_event by s old new before after r none event shape plays longer =
    passes_of r old new before after (silent_adds by s old.history new.history event) (halts_adds by s replies.Nothing old new before after none event shape plays longer)

-- and then a pool that is the same
pub passes_kept : {T E : Type 0} (by : ℕ) (s : Step) (old mid new : PoolView) (before after : Journals) (r : Result T E) → command_in s ≡ []
    → AddsEvent by s replies.Nothing old.history mid.history → mid.core.shape ≡ old.core.shape
    → PlaysOne old.core.shape.width old.history (record { by = by; step = s; reply = replies.Nothing }) before before → new ≡ mid → AreLonger before after
    → Passes old new before after r
passes_kept by s old mid new before after r none event shape plays same longer =
    subst (λ (p : PoolView). Passes old p before after r) (sym same) (passes_event by s old mid before after r none event shape plays longer)

-- what went on with no command, as a part that passes
pub passes_went : {T E : Type 0} (old new : PoolView) (before after : Journals) (r : Result T E) → text_of new.history ≡ text_of old.history → Went old new before after [] → Passes old new before after r
passes_went old new before after r quiet went = passes_of r old new before after quiet (halts_of old new before after [] went)

-- a part of a line that stops behind such an event
pub stops_behind : {T E : Type 0} (by : ℕ) (s : Step) (old mid new : PoolView) (before between after : Journals) (r : Result T E) → command_in s ≡ []
    → AddsEvent by s replies.Nothing old.history mid.history → mid.core.shape ≡ old.core.shape
    → PlaysOne old.core.shape.width old.history (record { by = by; step = s; reply = replies.Nothing }) before before
    → AreLonger before between → OnErr r (text_of new.history ≡ text_of mid.history) → OnErr r (Halts mid new before after []) → Stops old new before after r
stops_behind by s old mid new before between after r none event shape plays longer quiet halts = record {
  silent = on_err_weaker r (λ (is : text_of new.history ≡ text_of mid.history). is ∙ silent_adds by s old.history mid.history event) quiet;
  went_on = on_err_weaker r (halts_after old mid new before before after []
      (subst (λ (cs : List Command). Went old mid before before cs) none (went_one by s replies.Nothing old mid before before event shape plays))) halts;
}
