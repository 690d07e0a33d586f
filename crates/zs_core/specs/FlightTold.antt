-- The batches that a scan has in flight are those that the history tells of.
use Rattle.std.specs.Prelude.{◌≡◌, List, map}
use Rattle.zs_scan.specs.declared.batch.Batch.{Batch}
use Rattle.zs_scan.specs.View.{pieces_in}
use Rattle.zs_machine.specs.declared.event.Event.{Event}
use Rattle.zs_machine.specs.Flight.{Flying, in_flight}

-- a batch of a scan as a history tells of it
abbrev pub flying_of : Batch → Flying
flying_of b = record { number = b.number; online = b.online; pieces = pieces_in b.items }

-- what a history tells to be in flight is what the scan has in flight
pub record FlyAsTold (flight : List Batch) (es : List Event) : Type 0 where
  pub are : map flying_of flight ≡ in_flight es
