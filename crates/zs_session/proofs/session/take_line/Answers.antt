use Rattle.std.proofs.Common.{arith}
use Rattle.std.proofs.lemmas.Grind.{common_steps}
use Rattle.zs_machine.specs.History.{text_of}
use Rattle.zs_session.proofs.Commands.{part_whole}
use Rattle.zs_session.proofs.Histories.{goes_of}
use Rattle.zs_session.proofs.Running.{calls_put}
use Rattle.zs_session.proofs.Texts.{part_all, part_before, part_rest, puts_rest}
use Rattle.zs_session.proofs.session.take_line.Goals as goal

-- a device stopped the line, and all that it replied before was put
pub returns-in-Ok-put_events-clause-text : goal.returns-in-Ok-put_events-clause-text
returns-in-Ok-put_events-clause-text g c =
    let old = c.args.pool.now.history in
    let new = c.run_line.new.pool.history in
    let before = g.K.Sink.told c.args.out.now in
    let after = g.K.Sink.told c.put_events.new.out in
    let goes = goes_of _ _ _ _ _ c.in-Err-Failed.ensures.stops.went_on.part.went in
    record {
      told = tt;
      part = λ start was. part_all start after (text_of new)
          (puts_rest start before after old new _ _ goes (grind (arith, common_steps)) was c.in-Ok-put_events.ensures.told);
      whole = λ is start was. puts_rest start before after old new _ _ goes (grind (arith, common_steps)) was c.in-Ok-put_events.ensures.told;
    }

-- a device stopped the line, and not all that it replied before could be put
pub returns-in-Err-clause-text : goal.returns-in-Err-clause-text
returns-in-Err-clause-text g c = record {
  told = tt;
  part = λ start was. part_rest start (g.K.Sink.told c.args.out.now) (g.K.Sink.told c.put_events.new.out) c.args.pool.now.history c.run_line.new.pool.history _ _
      (goes_of _ _ _ _ _ c.in-Err-Failed.ensures.stops.went_on.part.went) (grind (arith, common_steps)) was c.in-Err.ensures.part;
  whole = λ is. absurd (c.in-Err.ensures.cause.only is);
}

pub returns-in-Err-clause-calls : goal.returns-in-Err-clause-calls
returns-in-Err-clause-calls g c = calls_put _ _ _ _ _ _ _ c.in-Err-Failed.ensures.calls.set c.in-Err.ensures.cause

pub returns-in-Err-Memory-clause-text : goal.returns-in-Err-Memory-clause-text
returns-in-Err-Memory-clause-text g c =
    let goes = c.in-Err-Memory.ensures.stops.went_on.part.went in
    record {
      told = tt;
      part = λ start was. part_before start (g.K.Sink.told c.args.out.now) c.args.pool.now.history goes.more c.run_line.new.pool.history goes.is was;
      whole = λ is start was. cc;
    }

pub returns-in-Ok-put_events-2-clause-text : goal.returns-in-Ok-put_events-2-clause-text
returns-in-Ok-put_events-2-clause-text g c = record {
  told = λ start was. puts_rest start (g.K.Sink.told c.args.out.now) (g.K.Sink.told c.put_events-2.new.out) c.args.pool.now.history c.run_line.new.pool.history _ _
      (goes_of _ _ _ _ _ c.in-Ok.ensures.goes_on) (grind (arith, common_steps)) was c.in-Ok-put_events-2.ensures.told;
  part = tt;
  whole = λ is start was. cc;
}

pub returns-in-Err-put_events-clause-text : goal.returns-in-Err-put_events-clause-text
returns-in-Err-put_events-clause-text g c = record {
  told = tt;
  part = λ start was. part_rest start (g.K.Sink.told c.args.out.now) (g.K.Sink.told c.put_events-2.new.out) c.args.pool.now.history c.run_line.new.pool.history _ _
      (goes_of _ _ _ _ _ c.in-Ok.ensures.goes_on) (grind (arith, common_steps)) was c.in-Err-put_events.ensures.part;
  whole = λ is. absurd (c.in-Err-put_events.ensures.cause.only is);
}

pub returns-in-Err-put_events-clause-went_on : goal.returns-in-Err-put_events-clause-went_on
returns-in-Err-put_events-clause-went_on g c = part_whole _ _ _ _ _ c.in-Ok.ensures.goes_on
