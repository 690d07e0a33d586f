use Rattle.std.proofs.Common.{rules, tests}
use Rattle.std.proofs.lemmas.Iterator.{YieldsList-from_map, YieldsList-from_take, items_from_collect}
use Rattle.std.proofs.lemmas.Iterator.Search.{YieldsList-from_take_while}
use Rattle.std.proofs.lemmas.Iterator.Consumers.{YieldsList-at, YieldsList-from_rest}
use Rattle.zs_queue.specs.Waiting.{is_of}
use Rattle.zs_queue.proofs.plain.run_of.Goals as goal

pub returns : goal.returns
returns c =
    items_from_collect _ c.collect.ensures.ran
    (YieldsList-from_map _ (λ e. e.1)
    (YieldsList-at c.map.ensures.source
    (YieldsList-from_take c.args.n
    (YieldsList-at c.take.ensures.source
    (YieldsList-from_take_while _ (is_of c.args.vdev)
    (YieldsList-at c.take_while.ensures.source (YieldsList-from_rest _ (c.range.ensures.between tt)))
    c.take_while.ensures.closure c.take_while.ensures.done (λ x b q k. search (rules, tests))))
    c.take.ensures.count))
    c.map.ensures.closure (λ x r q k. search (rules, tests)))
