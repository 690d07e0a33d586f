-- A pool that is suspended in its sync keeps its history, the room for more events, and what the history tells to fly.
use Rattle.std.proofs.Common.{◌≡◌, ◌≤◌, ◌+◌, ◌++◌, ◌∷◌, [], ℕ, List, false, refl, ap, arith}
use Rattle.zs_objset.specs.declared.block.CommitFault.TheVariants.{Memory}
use Rattle.zs_script.specs.declared.reply.Reply.TheVariants as reply
use Rattle.zs_machine.specs.declared.event.Event.{Event}
use Rattle.zs_machine.specs.declared.event.Stage.{Stage}
use Rattle.zs_machine.specs.declared.event.Stage.TheVariants.{Between, Labelling, Writing}
use Rattle.zs_machine.specs.declared.event.Step.TheVariants as step
use Rattle.zs_machine.specs.History.{IsHistory}
use Rattle.zs_machine.specs.Steps.{IsSyncing}
use Rattle.zs_machine.proofs.Histories.{history_on}
use Rattle.zs_core.specs.Calls.{events_due}
use Rattle.zs_core.specs.FlightTold.{FlyAsTold}
use Rattle.zs_core.specs.Safe.{IsHaltedCore}
use Rattle.zs_core.specs.View.{CoreView}
use Rattle.zs_core.proofs.Flying.{fly_still}

-- the event of a pool that was suspended for want of memory
abbrev suspended_with : ℕ → Event
suspended_with online = record { by = 0; step = step.Suspend online Memory; reply = reply.Nothing }

room_left : (stage now : Stage) (len cap later same : ℕ) → IsSyncing stage → len + events_due stage ≤ cap → later ≡ len + 1 → same ≡ cap → now ≡ Between → later + events_due now ≤ same
room_left Between now len cap later same syncing fits longer kept between = absurd syncing
room_left Writing now len cap later same syncing fits longer kept between = let due : events_due now ≡ 0 = ap events_due between in omega (arith, fits, longer, kept, due)
room_left Labelling now len cap later same syncing fits longer kept between = let due : events_due now ≡ 0 = ap events_due between in omega (arith, fits, longer, kept, due)

pub halted_on : (old new : CoreView) (online : ℕ) (es now : List Event) (len cap later same : ℕ) → now ≡ es ++ suspended_with online ∷ [] → later ≡ len + 1 → same ≡ cap
    → IsHistory es old.state × (len + events_due old.state.stage ≤ cap) × FlyAsTold old.scan.flight es → old.state.suspended ≡ false → online ≡ old.state.online → IsSyncing old.state.stage → IsHaltedCore old new
    → IsHistory now new.state × (later + events_due new.state.stage ≤ same) × FlyAsTold new.scan.flight now
halted_on old new online es now len cap later same is longer kept was up mask syncing halted = (
  history_on old.state new.state es now (suspended_with online) is was.0 (refl, up, mask, syncing, halted.state) tt,
  room_left old.state.stage new.state.stage len cap later same syncing was.1 longer kept (halted.state).between,
  fly_still old.scan.flight new.scan.flight es now (suspended_with online) is was.2 halted.flight refl,
)

-- a sync whose data are applied has room for the event that ends it
pub applied_room : (stage now : Stage) (len cap later same : ℕ) → stage ≡ Writing → len + events_due stage ≤ cap → later ≡ len + 1 → same ≡ cap → now ≡ Labelling → later + events_due now ≤ same
applied_room stage now len cap later same writing fits longer kept labelling =
    let was : events_due stage ≡ 2 = ap events_due writing in
    let due : events_due now ≡ 1 = ap events_due labelling in
    omega (arith, fits, longer, kept, was, due)
