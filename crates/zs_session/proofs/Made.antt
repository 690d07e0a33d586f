-- A pool that was made, and what its whole history marked.
use Rattle.std.proofs.Common.{◌≡◌, ℕ, ◌/◌, ◌<◌, List, [], ◌∷◌, ap, length, refl, slice_index, subst, sym, ◌∙◌, arith}
use Rattle.std.specs.Prelude.{IsSome}
use Rattle.zs_io.specs.declared.device.Device.{Ghosts}
use Rattle.zs_lane.specs.Lane.{LaneView}
use Rattle.zs_script.specs.declared.command.Command.{Command}
use Rattle.zs_script.specs.declared.reply.Reply.{Reply}
use Rattle.zs_machine.specs.declared.event.Event.{Event}
use Rattle.zs_machine.specs.declared.event.Step.TheVariants as steps
use Rattle.zs_machine.specs.declared.shape.Shape.{Shape}
use Rattle.zs_machine.specs.Commands.{commands_of}
use Rattle.zs_machine.specs.Steps.{blank_state}
use Rattle.zs_machine.specs.History.{AddsEvent}
use Rattle.zs_machine.specs.Matches.{Matches}
use Rattle.zs_core.specs.View.{PoolView}
use Rattle.zs_session.specs.Devices.{AreDevicesOf, Journals, marks_of}
use Rattle.zs_session.specs.Images.{Unwritten, of_each, views_of}
use Rattle.zs_session.specs.Making.{MakesPool}
use Rattle.zs_session.specs.Plays.{IsMade, Plays, Went, Halts}
use Rattle.zs_session.proofs.Growing.{matches_longer, matches_none}
use Rattle.zs_session.proofs.Heads.{size_is}
use Rattle.zs_session.proofs.Histories.{plays_twice}
use Rattle.zs_session.proofs.LineSteps.{closes}
use Rattle.zs_session.proofs.Matching.{matches_on}

-- a pool of which nothing is told but the making was made
pub is_made : (p : PoolView) (line : Command) (answer : Reply) (width devices : ℕ) → AddsEvent 0 (steps.Made line) answer [] p.history
    → p.core.state ≡ blank_state width devices → p.core.pointers ≡ [] → IsMade p
is_made p line answer width devices event state pointers = record {
  writing = ap (λ s. s.stage) state;
  up = ap (λ s. s.suspended) state;
  unread = ap (λ s. s.reads) state;
  empty = pointers;
  fresh = closes 0 (steps.Made line) answer [] p.history event refl refl;
  alone = λ js. subst (λ (es : List Event). Plays p.core.shape.width [] es js js) (sym event) (js, refl, refl);
}

-- its whole history marked what its lines marked
pub plays_whole : (made now : PoolView) (start after : Journals) (cs : List Command) → IsMade made → Went made now start after cs → Plays now.core.shape.width [] now.history start after
plays_whole made now start after cs is went =
    subst (λ (shape : Shape). Plays shape.width [] now.history start after) (sym went.shape)
    (subst (λ (es : List Event). Plays made.core.shape.width [] es start after) (sym went.is)
    (plays_twice made.core.shape.width [] made.history went.more start start after (is.alone start) went.plays))

-- so its claims are borne out, also by journals that went on further
pub matches_whole : (made now : PoolView) (start after : Journals) (cs : List Command) → IsMade made → ((k : ℕ) → k < made.core.shape.width → IsSome (start k))
    → Halts made now start after cs → Matches now.core.shape.width (λ k. []) (marks_of after) now.history
matches_whole made now start after cs is told halts =
    matches_longer now.core.shape.width (λ k. []) halts.mid after now.history halts.further
    (matches_on now.core.shape.width (λ k. []) [] now.history start halts.mid
    (λ k lt. told k (subst (λ (shape : Shape). k < shape.width) halts.went.shape lt)) (λ k. omega arith)
    (matches_none now.core.shape.width (λ k. []) (marks_of start)) (plays_whole made now start halts.mid cs is halts.went))

-- the devices of which a pool was made are those of its shape
pub are_devices : {D : Type 0} (dev : Ghosts D) (shape s : Shape) (old new : List (LaneView D)) → shape ≡ s → length old ≡ s.devices → length new ≡ length old
    → of_each dev.size new ≡ of_each dev.size old → ((k : ℕ) → k < length old → slice_index s.sectors k ≡ slice_index (of_each dev.size old) k / 512)
    → AreDevicesOf shape (length new) (views_of dev new)
are_devices dev shape s old new is count same sizes sectors = subst (λ (x : Shape). AreDevicesOf x (length new) (views_of dev new)) (sym is) (record {
  count_is = same ∙ count;
  sectors = λ k lt. sectors k (omega (arith, lt, same)) ∙ ap (λ (n : ℕ). n / 512) (ap (λ (ss : List ℕ). slice_index ss k) (sym sizes) ∙ sym (size_is dev new k));
})

-- a pool that was made of images that fit is one of these devices
pub makes_pool : {D : Type 0} (dev : Ghosts D) (p : PoolView) (command line : Command) (answer : Reply) (s : Shape) (old new : List (LaneView D)) → command ≡ line
    → AddsEvent 0 (steps.Made line) answer [] p.history → p.core.state ≡ blank_state s.width s.devices → p.core.shape ≡ s → p.core.pointers ≡ [] → Unwritten dev old new
    → length old ≡ s.devices → s.devices ≡ s.width → ((k : ℕ) → k < length old → slice_index s.sectors k ≡ slice_index (of_each dev.size old) k / 512) → MakesPool dev command new p
makes_pool dev p command line answer s old new is event state shape pointers kept count mirror sectors = record {
  commands = ap commands_of event ∙ ap (λ (x : Command). x ∷ []) (sym is);
  made = is_made p line answer s.width s.devices event state pointers;
  devices = are_devices dev p.core.shape s old new shape count kept.set.count kept.sizes sectors;
  width = kept.set.count ∙ (count ∙ (mirror ∙ ap (λ (x : Shape). x.width) (sym shape)));
}
