use Rattle.std.proofs.Common.{◌≤◌, ◌<◌, length, arith}
use Rattle.std.proofs.lemmas.Grind.{common_steps}
use Rattle.zs_queue.proofs.plain.PlainQueueWaiting.count.Goals as goal

pub overflow_cast-result : goal.overflow_cast-result
overflow_cast-result c =
    let few : length c.args.self.now.map.entries ≤ c.args.self.now.limit = c.args.self.now.kept.within in
    let bounded : c.args.self.now.limit < 4294967296 = c.args.self.now.kept.bounded in
    grind (arith, common_steps)
