use Rattle.std.proofs.Common.{arith, ◌≡◌, ℕ, List, subst}
use Rattle.std.proofs.lemmas.Grind.{common_steps}
use Rattle.zs_session.proofs.Texts.{puts_last}
use Rattle.zs_session.specs.Puts.{PutsLast, fault_line}
use Rattle.zs_session.proofs.step.tell_fault.Goals as goal

pub returns-clause-text : goal.returns-clause-text
returns-clause-text g c =
    let line : c.as_slice.result.now ≡ fault_line c.args.line c.args.why = grind (arith, common_steps) in
    subst (λ (t : List ℕ). PutsLast t c.end_with.result.status (g.K.Sink.told c.args.out.now) (g.K.Sink.told c.end_with.new.out)) line
    (puts_last _ 2 c.end_with.result.status _ _ c.end_with.ensures.status (λ seven. omega (arith, seven)) c.end_with.ensures.whole c.end_with.ensures.part)
