-- What is put so far, and then the pieces that are left, is what was there and all the pieces.
use Rattle.std.proofs.Common.{◌≡◌, ◌++◌, drop}
use Rattle.std.specs.List.{flat_map}
use Rattle.zs_script.specs.Texts.{error_line}
use Rattle.zs_script.proofs.scan_texts.errors.Given as goal

abbrev pub invariant-loop-piece : goal.invariant-loop-piece
invariant-loop-piece l = l.out.items ++ flat_map error_line (drop l.piece-index l.pieces) ≡ l.initial.out.items ++ flat_map error_line l.pieces
