use Rattle.std.proofs.Common.{◌≡◌, ℕ, length, subst, arith}
use Rattle.zs_core.proofs.PutAll.{IsPutUpTo, none_put, put_tended, put_rest, asks_may, asks_allowed, goes_on, has_put, bring_forth}
use Rattle.zs_core.proofs.apply.put_all.Goals as goal

pub loop-own-init : goal.loop-own-init
loop-own-init g c = none_put g.space c.args.txg.now c.args.changes.now c.args.graph.now c.args.scan.now c.requires

pub put_own-requires-clause-may : goal.put_own-requires-clause-may
put_own-requires-clause-may g c =
    asks_may g.space c.args.txg.now c.args.changes.now c.args.graph.now c.args.scan.now c.requires c.loop-own.own-index c.loop-own.graph c.loop-own.scan c.loop-own.invariant c.own-item.result c.loop-own-test.true c.txg-t.result c.txg-t.ensures c.own-item.is

pub put_own-requires-clause-is_head : goal.put_own-requires-clause-is_head
put_own-requires-clause-is_head g c =
    asks_allowed g.space c.args.txg.now c.args.changes.now c.args.graph.now c.args.scan.now c.requires c.loop-own.own-index c.loop-own.graph c.loop-own.scan c.loop-own.invariant c.own-item.result c.loop-own-test.true c.own-item.is

pub returns-in_err-put_own-clause-tended : goal.returns-in_err-put_own-clause-tended
returns-in_err-put_own-clause-tended g c =
    rw (c.in_err-put_own.ensures.err.0, c.in_err-put_own.ensures.err.1) (put_tended g.space c.args.txg.now c.args.changes.now c.args.graph.now c.args.scan.now c.requires c.loop-own.own-index c.loop-own.graph c.loop-own.scan c.loop-own.invariant)

pub returns-in_err-put_own-clause-rest : goal.returns-in_err-put_own-clause-rest
returns-in_err-put_own-clause-rest g c =
    rw c.in_err-put_own.ensures.err.1 (put_rest g.space c.args.txg.now c.args.changes.now c.args.graph.now c.args.scan.now c.requires c.loop-own.own-index c.loop-own.graph c.loop-own.scan c.loop-own.invariant)

pub loop-own-preserved : goal.loop-own-preserved
loop-own-preserved g c =
    goes_on g.space c.args.txg.now c.args.changes.now c.args.graph.now c.args.scan.now c.requires c.loop-own.own-index c.loop-own.graph c.loop-own.scan c.loop-own.invariant c.own-item.result c.loop-own-test.true c.txg-t.result _ _ c.txg-t.ensures c.own-item.is c.in_ok-put_own.ensures.ok

pub returns-clause-ok : goal.returns-clause-ok
returns-clause-ok g c =
    let all : c.loop-own.own-index ≡ length c.args.changes.now = omega arith in
    has_put g.space c.args.txg.now c.args.changes.now c.args.graph.now c.args.scan.now c.requires c.loop-own.graph c.loop-own.scan (subst (λ (i : ℕ). IsPutUpTo g.space c.args.txg.now c.args.changes.now c.args.graph.now c.args.scan.now i c.loop-own.graph c.loop-own.scan) all c.loop-own.invariant)

pub returns-clause-born : goal.returns-clause-born
returns-clause-born g c =
    let all : c.loop-own.own-index ≡ length c.args.changes.now = omega arith in
    bring_forth g.space c.args.txg.now c.args.changes.now c.args.graph.now c.args.scan.now c.requires c.loop-own.graph c.loop-own.scan (subst (λ (i : ℕ). IsPutUpTo g.space c.args.txg.now c.args.changes.now c.args.graph.now c.args.scan.now i c.loop-own.graph c.loop-own.scan) all c.loop-own.invariant)

pub returns-clause-tended : goal.returns-clause-tended
returns-clause-tended g c = put_tended g.space c.args.txg.now c.args.changes.now c.args.graph.now c.args.scan.now c.requires c.loop-own.own-index c.loop-own.graph c.loop-own.scan c.loop-own.invariant

pub returns-clause-rest : goal.returns-clause-rest
returns-clause-rest g c = put_rest g.space c.args.txg.now c.args.changes.now c.args.graph.now c.args.scan.now c.requires c.loop-own.own-index c.loop-own.graph c.loop-own.scan c.loop-own.invariant
