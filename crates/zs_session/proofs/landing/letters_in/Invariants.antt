use Rattle.std.proofs.Common.{◌≡◌, drop}
use Rattle.std.specs.Prelude.{find}
use Rattle.zs_ids.specs.Piece.{is_piece}
use Rattle.zs_session.proofs.landing.letters_in.Given as goal

abbrev pub invariant-loop-entry : goal.invariant-loop-entry
invariant-loop-entry l = find (λ e. is_piece l.piece e.piece) l.entries ≡ find (λ e. is_piece l.piece e.piece) (drop l.entry-index l.entries)
