-- What is left without the rest of the batch is what was there without all of it.
use Rattle.std.proofs.Common.{◌≡◌, map, drop}
use Rattle.zs_queue.specs.Waiting.{without}
use Rattle.zs_queue.proofs.plain.PlainQueueWaiting.take.Given as goal

abbrev pub invariant-loop-item : goal.invariant-loop-item
invariant-loop-item l = record {
  rest : without l.self.map.entries (map (λ i. i.piece) (drop l.item-index l.item-items)) ≡ without l.fn.self.map.entries (map (λ i. i.piece) l.item-items);
  limit : l.self.limit ≡ l.fn.self.limit;
}
