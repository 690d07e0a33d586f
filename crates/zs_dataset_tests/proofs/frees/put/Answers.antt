-- A root may be put where the datasets hold roots alone.
use Rattle.zs_dataset_tests.proofs.Roots.{root_allowed, root_made}
use Rattle.zs_dataset_tests.proofs.frees.put.Goals as goal

pub apply-requires : goal.apply-requires
apply-requires c =
    record { may = root_allowed c.args.graph.now c.facts.ensures _ c.args.sector c.args.t c.requires c.root.result c.root.ensures }

pub returns : goal.returns
returns c =
    root_made c.args.graph.now c.apply.new.self c.facts.ensures _ c.args.sector c.args.t c.requires c.root.result c.root.ensures c.in_ok-freed.freed c.in_ok-freed.ensures.made
