use Rattle.std.proofs.Common.{List, sym, subst}
use Rattle.zs_ids.specs.declared.key.Key.{Key}
use Rattle.zs_ids.specs.declared.block.Bp.{Bp}
use Rattle.zs_graph.specs.Made.{MayPutAt}
use Rattle.zs_core.proofs.PutOwn.{some_blocks, puts_told}
use Rattle.zs_core.proofs.apply.put_own.Goals as goal

pub apply-requires : goal.apply-requires
apply-requires c =
    let some = some_blocks _ _ _ _ c.if-is_empty.false c.is_empty.ensures c.deref.ensures.len c.deref.ensures.value in
    record { may = subst (λ (l : List (Key × Bp)). MayPutAt c.args.graph.now.sets c.args.own.now.ds l c.args.t) (sym c.deref.ensures.value) (c.requires.may some) }

pub returns-in-Ok-clause-ok : goal.returns-in-Ok-clause-ok
returns-in-Ok-clause-ok c =
    let some = some_blocks _ _ _ _ c.if-is_empty.false c.is_empty.ensures c.deref.ensures.len c.deref.ensures.value in
    puts_told c.apply_law.ensures c.args.t c.args.own.now c.args.graph.now _ c.in-Ok.freed c.args.scan.now _ _ _ c.deref.ensures.value c.as_slice.ensures c.in-Ok.ensures.made c.freed_all.ensures.rest c.freed_all.ensures.marks c.freed_all.ensures.keeps some
