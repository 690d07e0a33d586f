use Rattle.std.proofs.Common.{◌∙◌, ap, length}
use Rattle.zs_io.specs.Calls.{bytes_of}
use Rattle.zs_io.specs.CallLaws.{length-bytes_of}
use Rattle.zs_io.proofs.disk.Disk.bytes.Goals as goal

pub returns-clause-now : goal.returns-clause-now
unfolding bytes_of
returns-clause-now c = c.deref.ensures.value ∙ c.self.invariant ∙ ap bytes_of c.self.view_is

pub returns-clause-size : goal.returns-clause-size
returns-clause-size c = ap length (returns-clause-now c) ∙ length-bytes_of c.args.self.now
