use Rattle.std.proofs.Common.{rules}
use Rattle.zs_scan.proofs.Ends.{walk_left}
use Rattle.zs_scan.proofs.Putting.{wanted_if}
use Rattle.zs_scan.proofs.Turns.{walked_keeps}
use Rattle.zs_scan.proofs.scan.Scan.make_turn.Goals as goal

pub put_if-requires : goal.put_if-requires
put_if-requires g c = wanted_if _ c.args.self.now _ _ c.item_put-item.ensures.item c.requires.comes

pub returns-clause-left : goal.returns-clause-left
returns-clause-left g c = λ moves.
    walk_left _ c.args.self.now (record c.put_if.new.self { run = c.advance.new.phys }) c.turn_of.result c.requires.may (search rules) moves

pub returns-clause-keeps : goal.returns-clause-keeps
returns-clause-keeps g c = λ room n h one by was. walked_keeps room _ n h c.args.self.now _ c.turn_of.result (search rules) one by was
