use Rattle.std.proofs.Common.{ap, Some, ◌≡◌, List, ℕ, take, drop, length, arith}
use Rattle.std.proofs.lemmas.Grind.{common_steps}
use Rattle.zs_io.proofs.Bytes.{next_and_rest}
use Rattle.zs_io.proofs.memory_stream.MemSourceSource.read.Goals as goal

pub returns-clause-next : goal.returns-clause-next
returns-clause-next c =
    let front : List ℕ = c.copy_from_slice.new.self in
    let copied : front ≡ take c.min-n.result (drop c.args.self.now.taken c.args.self.now.bytes.items) = grind (arith, common_steps) in
    let long : length front ≡ c.min-n.result = grind (arith, common_steps) in
    ap (λ l. Some l) (next_and_rest c.args.self.now.bytes.items front (drop c.min-n.result c.args.buf.now) c.args.self.now.taken c.min-n.result copied long)
