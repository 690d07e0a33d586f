use Rattle.std.proofs.Common.{rules}
use Rattle.zs_session.proofs.Sets.{longer_none}
use Rattle.zs_session.proofs.Histories.{handed, halts_same}
use Rattle.zs_session.proofs.lines.end_marked.Goals as goal

pub returns-in_err-line-clause-stops : goal.returns-in_err-line-clause-stops
returns-in_err-line-clause-stops c = record {
  memory = search rules;
  went_on = λ js. handed c.from_residual.result (halts_same c.args.pool.now c.line.new.self js js c.in_err-line.ensures.err (longer_none js));
}
