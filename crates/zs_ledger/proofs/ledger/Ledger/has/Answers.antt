use Rattle.std.proofs.Common.{rules, ◌≡◌, ◌∙◌, sym}
use Rattle.zs_ledger.specs.Kept.{has_piece}
use Rattle.zs_ledger.proofs.Agrees.{found, finds}
use Rattle.zs_ledger.proofs.ledger.Ledger.has.Goals as goal

pub returns-clause-member : goal.returns-clause-member
returns-clause-member c =
    let test : c.contains.result ≡ has_piece c.args.self.now.entries c.args.piece = search rules in
    (λ yes. found _ _ (sym test ∙ yes), λ has. test ∙ finds _ _ has)
