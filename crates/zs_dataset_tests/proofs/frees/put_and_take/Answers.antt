-- With a snapshot the datasets go on to hold roots alone.
use Rattle.std.proofs.Common.{◌+◌}
use Rattle.zs_dataset_tests.proofs.Roots.{roots_taken}
use Rattle.zs_dataset_tests.proofs.frees.put_and_take.Goals as goal

pub returns : goal.returns
returns c =
    roots_taken c.put.new.graph c.snapshot.new.self _ _ c.in_ok-id.id (c.args.sector + 8) c.args.t c.in_ok-put.ensures c.in_ok-id.ensures.made
