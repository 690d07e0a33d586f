use Rattle.std.proofs.Common.{arith, ◌≡◌, ℕ, List, subst}
use Rattle.std.proofs.lemmas.Grind.{common_steps}
use Rattle.zs_session.proofs.Refusals.{refuses_with}
use Rattle.zs_session.proofs.Texts.{puts_last}
use Rattle.zs_session.specs.Ending.{code}
use Rattle.zs_session.specs.Puts.{PutsLast, refused_line}
use Rattle.zs_session.proofs.session.refuse.Goals as goal

pub returns-clause-text : goal.returns-clause-text
returns-clause-text g c =
    let line : c.as_slice.result.now ≡ refused_line c.args.refusal = grind (arith, common_steps) in
    subst (λ (t : List ℕ). PutsLast t c.end_with.result.status (g.K.Sink.told c.args.out.now) (g.K.Sink.told c.end_with.new.out)) line
    (puts_last _ (code c.args.end) c.end_with.result.status _ _ c.end_with.ensures.status (refuses_with c.args.end c.requires) c.end_with.ensures.whole c.end_with.ensures.part)
