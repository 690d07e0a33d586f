use Rattle.std.specs.Option.{option_copied}
use Rattle.zs_session.proofs.OpenReads.{ended}
use Rattle.zs_session.proofs.lines.end_read.Goals as goal

pub returns : goal.returns
returns c =
    let both = ended c.args.by c.args.plan (option_copied c.args.got) c.args.places.now c.args.pool.now c.read_end.new.self c.in_ok-read_end.field-0 c.requires.begun c.in_ok-read_end.ensures.event c.in_ok-read_end.ensures.ended c.read_end.ensures.rest in
    record { ready = both.1; ended = both.0; memory = tt; err = tt }
