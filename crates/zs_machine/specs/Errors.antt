-- The damaged pieces, as `errors` tells them.
use Rattle.std.specs.Prelude.{◌≡◌, false, true, List, filter, map}
use Rattle.std.specs.List.Sorted.{IsPermutation, IsSortedByKey, IsStableByKey}
use Rattle.zs_ids.specs.Piece.{piece_cmp}
use Rattle.zs_ledger.specs.declared.entry.Entry.{Entry}
use Rattle.zs_ledger.specs.Entry.{has_error}
use Rattle.zs_script.specs.declared.refusal.Refusal.TheVariants.{Suspended}
use Rattle.zs_script.specs.declared.reply.ErrorPiece.{ErrorPiece}
use Rattle.zs_script.specs.declared.reply.Reply.{Reply}
use Rattle.zs_script.specs.declared.reply.Reply.TheVariants as reply
use Rattle.zs_machine.specs.Machine.{PoolState}
use Rattle.zs_machine.specs.Told.{letter_of}

-- these are the entries with an error, in order of mirror, sector and birth; of one piece in order of checking
pub record AreErrors (checked errors : List Entry) : Type 0 where
  pub all : IsPermutation (filter has_error checked) errors
  pub sorted : IsSortedByKey (λ e. e.piece) piece_cmp errors
  pub stable : IsStableByKey (λ e. e.piece) piece_cmp (filter has_error checked) errors

-- a damaged piece, as a reply tells it
abbrev pub error_of : Entry → ErrorPiece
error_of e = record { vdev = e.piece.place.vdev; sector = e.piece.place.sector; birth = e.piece.birth; letters = map letter_of e.copies }

-- the reply to `errors`: the entries of the scan with an error
abbrev pub TellsErrors : PoolState → Reply → Type 0
TellsErrors s (reply.Refused Suspended) = s.suspended ≡ true
TellsErrors s (reply.Errors pieces) = (s.suspended ≡ false) × (errors : List Entry) × AreErrors s.scan.checked errors × (pieces ≡ map error_of errors)
TellsErrors s _ = ⊥
