-- What is put so far, and then the lines of the datasets that are left, is the lines of all.
use Rattle.std.proofs.Common.{◌≡◌, ◌++◌, drop}
use Rattle.std.specs.List.{flat_map}
use Rattle.zs_script.specs.Texts.{listed_line}
use Rattle.zs_script.proofs.texts.listed.Given as goal

abbrev pub invariant-loop-dataset : goal.invariant-loop-dataset
invariant-loop-dataset l = l.out.items ++ flat_map listed_line (drop l.dataset-index l.datasets) ≡ flat_map listed_line l.datasets
