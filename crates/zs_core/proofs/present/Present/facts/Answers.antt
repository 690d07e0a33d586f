-- The facts of the parts are what callers may rely on.
use Rattle.std.proofs.Common.{refl}
use Rattle.zs_core.specs.Kept.{Facts}
use Rattle.zs_core.proofs.present.Present.facts.Goals as goal

pub returns : goal.returns
returns c =
    let f : Facts c.self.inside = c.self.invariant in
    rw (← c.self.view_is) (record {
      shaped = record { shape = f.shape; devices = refl; online = f.online; width = f.width; end = f.end; begun = f.begun; space = f.space };
      machine = refl;
      blocks = f.blocks;
      scanned = f.scan;
      orderly = c.facts.ensures;
      limit = f.may_wait;
      every = f.due;
    })
