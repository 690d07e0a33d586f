use Rattle.zs_cover.proofs.Clones.{fs_keeps}
use Rattle.zs_cover.proofs.laws.fs_law.Goals as goal

pub returns : goal.returns
returns c = fs_keeps
