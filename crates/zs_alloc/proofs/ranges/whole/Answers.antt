use Rattle.std.proofs.Common.{◌∙◌}
use Rattle.zs_alloc.proofs.Split.{split_blank}
use Rattle.zs_alloc.proofs.Halves.{blank_count, none_long}
use Rattle.zs_alloc.proofs.ranges.whole.Goals as goal

pub returns : goal.returns
returns c =
    let set = rw (c.in_ok-free.ensures).flags at c.set.ensures.set in
    record { split = split_blank _ _ _ (blank_count _ _ _ set); summed = c.set.ensures.summed; len = set.len ∙ none_long c.args.end }
