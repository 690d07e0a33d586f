-- The dataset's blocks and their pointers stand behind those that there were.
use Rattle.std.proofs.Common.{◌∙◌, sym, ap}
use Rattle.zs_objset.specs.Staged.{pointers_of}
use Rattle.zs_core.proofs.Closing.{by_id}
use Rattle.zs_core.proofs.present.add_staged.Goals as goal

pub returns : goal.returns
returns c = λ d at. record {
  own = c.in_ok-own.own.items;
  made = c.in_ok-own.ensures d at;
  change = record { ds = c.args.ds; blocks = c.in_ok-pointers.pointers };
  named = sym (by_id c.args.graph.now.sets c.args.ds d at);
  pointers = c.in_ok-pointers.ensures ∙ ap (λ l. pointers_of l) c.deref.ensures.value;
  blocks_are = c.in_ok-append.ensures.items;
  changes_are = c.in_ok-push.ensures.items;
}
