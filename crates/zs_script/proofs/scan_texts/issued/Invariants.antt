-- What is put so far, and then the pieces that are left, is what was there and all the pieces.
use Rattle.std.proofs.Common.{◌≡◌, ◌++◌, drop}
use Rattle.std.specs.List.{flat_map}
use Rattle.zs_script.specs.Texts.{issued_text}
use Rattle.zs_script.proofs.scan_texts.issued.Given as goal

abbrev pub invariant-loop-piece : goal.invariant-loop-piece
invariant-loop-piece l = l.out.items ++ flat_map issued_text (drop l.piece-index l.pieces) ≡ l.initial.out.items ++ flat_map issued_text l.pieces
