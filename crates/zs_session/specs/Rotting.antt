-- What a `rot` leaves of the journals.
use Rattle.std.specs.Prelude.{◌≡◌, ◌≢◌, ℕ, List, [], ◌∷◌, ◌++◌}
use Rattle.zs_io.specs.Faults.{Rose}
use Rattle.zs_machine.specs.declared.event.Event.{Event}
use Rattle.zs_script.specs.declared.refusal.Refusal.TheVariants.{DeviceFault}
use Rattle.zs_script.specs.declared.reply.Reply.TheVariants as replies
use Rattle.zs_session.specs.Devices.{Journals}
use Rattle.zs_session.specs.Plays.{Rots, RotsPart}

-- the range of a device was complemented, and no other device was called
pub record RotsOn (dev at len : ℕ) (old new : Journals) : Type 0 where
  pub rots : Rots at len (old dev) (new dev)
  pub others : (e : ℕ) → e ≢ dev → new e ≡ old e

-- a call on the device failed, and no other device was called
pub record StopsOn (dev : ℕ) (old new : Journals) : Type 0 where
  pub stops : RotsPart (old dev) (new dev)
  pub others : (e : ℕ) → e ≢ dev → new e ≡ old e

-- where the line was refused for a fault of the device, its count rose
abbrev pub TellsFault : List Event → List Event → ℕ → ℕ → Type 0
TellsFault old new before now = (e : Event) → new ≡ old ++ e ∷ [] → e.reply ≡ replies.Refused DeviceFault → Rose before now
