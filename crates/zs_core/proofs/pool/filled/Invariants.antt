use Rattle.std.proofs.Common.{◌≡◌, vec_len, vec_capacity, take}
use Rattle.zs_scan.specs.View.{pieces_in}
use Rattle.zs_core.proofs.pool.filled.Given as goal

abbrev pub invariant-loop-item : goal.invariant-loop-item
invariant-loop-item l = record {
  pieces : l.pieces.items ≡ pieces_in (take l.item-index l.items);
  len : vec_len l.pieces ≡ l.item-index;
  room : vec_capacity l.pieces ≡ vec_capacity l.fn.pieces;
}
