use Rattle.std.proofs.Common.{◌≡◌, map, vec_len, vec_capacity, take}
use Rattle.zs_core.proofs.pool.pieces_judged.Given as goal

abbrev pub invariant-loop-entry : goal.invariant-loop-entry
invariant-loop-entry l = record {
  pieces : l.pieces.items ≡ map (λ e. e.piece) (take l.entry-index l.entries);
  len : vec_len l.pieces ≡ l.entry-index;
  room : vec_capacity l.pieces ≡ vec_capacity l.fn.pieces;
}
