use Rattle.std.proofs.Common.{◌≡◌, find, None, arith}
use Rattle.zs_ids.specs.Graph.{Dataset}
use Rattle.zs_ids.specs.GraphTree.{start_of}
use Rattle.zs_plain.specs.Tests.{is_own}
use Rattle.zs_plain.proofs.Held.{own_here, own_not, none_own}
use Rattle.zs_plain.proofs.Passed.{passed_all}
use Rattle.zs_plain.proofs.graph.home.Goals as goal

pub returns-in-Some : goal.returns-in-Some
returns-in-Some c =
    own_here c.args.g.now c.loop-dataset.dataset-index c.dataset-item.result (record { id = c.dataset.inside.id; head = c.dataset.inside.head; owner = c.dataset.inside.owner; label = c.dataset.inside.label; parent = c.dataset.inside.parent; creation = c.dataset.inside.creation; entries = c.dataset.inside.entries }) c.start_of-start.result c.as_slice.result.now c.args.piece c.own_entry.result (omega arith) c.dataset-item.is c.dataset.view_is c.start_of-start.ensures c.as_slice.ensures c.own_entry.ensures c.in-Some.entry c.in-Some.is

pub loop-dataset-preserved : goal.loop-dataset-preserved
loop-dataset-preserved c =
    own_not c.args.g.now c.loop-dataset.dataset-index c.dataset-item.result (record { id = c.dataset.inside.id; head = c.dataset.inside.head; owner = c.dataset.inside.owner; label = c.dataset.inside.label; parent = c.dataset.inside.parent; creation = c.dataset.inside.creation; entries = c.dataset.inside.entries }) c.start_of-start.result c.as_slice.result.now c.args.piece c.own_entry.result (omega arith) c.dataset-item.is c.dataset.view_is c.start_of-start.ensures c.as_slice.ensures c.own_entry.ensures c.in_default.is c.loop-dataset.invariant

pub returns : goal.returns
returns c =
    none_own c.args.g.now c.args.piece (passed_all (λ (d : Dataset). find (is_own (start_of c.args.g.now d.parent) c.args.piece) d.entries ≡ None) c.args.g.now c.loop-dataset.dataset-index (omega arith) c.loop-dataset.invariant)
