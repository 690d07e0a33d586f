use Rattle.std.proofs.Common.{◌∙◌, ap}
use Rattle.zs_io.specs.Calls.{bytes_of}
use Rattle.zs_io.proofs.disk.Disk.into_bytes.Goals as goal

pub returns : goal.returns
unfolding bytes_of
returns c = c.self.invariant ∙ ap bytes_of c.self.view_is
