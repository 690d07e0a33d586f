-- The keys of the three changes rise.
use Rattle.std.proofs.Common.{refl}
use Rattle.std.specs.List.Sorted.{IsStrictlySortedBy}
use Rattle.zs_dataset_tests.proofs.flat.takes_many_changes_at_once.Goals as goal

pub replace_all-requires : goal.replace_all-requires
unfolding IsStrictlySortedBy
replace_all-requires g c = record { rise = rw (c.record.ensures, c.record-2.ensures) ((refl, (refl, tt)), ((refl, tt), (tt, tt))) }
