use Rattle.std.proofs.Common.{refl, ap, ◌∙◌, map, length, List, None, rules}
use Rattle.std.proofs.lemmas.List.{length-map}
use Rattle.zs_ids.specs.declared.block.Item.{Item}
use Rattle.zs_scan.specs.declared.batch.Batch.{Batch}
use Rattle.zs_core.specs.View.{CoreView}
use Rattle.zs_session.proofs.LineSteps.{was_held}
use Rattle.zs_session.proofs.Histories.{went_adds, went_twice, handed, halts_of, halts_after, went_still}
use Rattle.zs_session.proofs.Draining.{few_held, same_sectors}
use Rattle.zs_session.proofs.Outcomes.{where_ok}
use Rattle.zs_session.proofs.Taking.{took_all, took_still, took_lowest, took_on}
use Rattle.std.proofs.lemmas.Result.{on_err_weaker}
use Rattle.zs_session.proofs.batches.hold.Goals as goal

pub end_line-requires-clause-reply : goal.end_line-requires-clause-reply
end_line-requires-clause-reply c = record {
  step = (ap (λ (v : CoreView). v.state.suspended) c.in_ok-batch.ensures.core ∙ c.requires.ready.up, refl);
  told = was_held _ _ _ _ _ _ _ _ _ _ c.requires.ready.fresh c.in_ok-batch.ensures.event
      (few_held c.in_ok-batch.batch c.args.pool.now.core.scan.waiting c.args.vdev c.args.pieces (ap (λ (b : Batch). b.items) c.in_ok-batch.ensures.batch))
      (c.in_ok-sectors.ensures ∙ (ap (λ (items : List Item). map (λ (i : Item). i.piece.place.sector) items) c.as_slice.ensures ∙ same_sectors c.in_ok-batch.batch.items));
  none = tt;
  pool = took_still c.hold.new.self.core.scan c.hold.new.self.core.scan c.args.vdev c.args.pieces (length c.in_ok-batch.batch.items) _
      (took_all c.args.pool.now.core.scan c.hold.new.self.core.scan c.in_ok-batch.batch c.args.vdev c.args.pieces c.facts.ensures.safe.orderly c.requires.some (ap (λ (b : Batch). b.items) c.in_ok-batch.ensures.batch) c.in_ok-batch.ensures.taken c.in_ok-batch.ensures.none)
      refl (ap length c.in_ok-sectors.ensures ∙ (length-map c.as_slice.result.now (λ (i : Item). i.piece.place.sector) ∙ ap length c.as_slice.ensures));
}

pub returns-clause-goes_on : goal.returns-clause-goes_on
returns-clause-goes_on c =
    where_ok c.end_line.result
    (λ alone js. went_twice _ _ _ js js js _ _ (went_adds _ _ _ _ _ c.in_ok-batch.ensures.event (ap (λ (v : CoreView). v.shape) c.in_ok-batch.ensures.core) (λ same. refl) js) (alone js))
    c.end_line.ensures.goes_on

pub returns-clause-batch : goal.returns-clause-batch
returns-clause-batch c =
    where_ok c.end_line.result
    (λ alone. took_on _ _ _ _ _ (λ e. None) (λ e. None) _ (took_lowest _ _ _ _ _ c.in_ok-batch.batch.items _ _ c.in_ok-batch.ensures.event (ap (λ (b : Batch). b.items) c.in_ok-batch.ensures.batch)) (alone (λ e. None)))
    c.end_line.ensures.goes_on

pub returns-in_err-batch-clause-stops : goal.returns-in_err-batch-clause-stops
returns-in_err-batch-clause-stops c = record {
  memory = search rules;
  went_on = λ js. handed _ (halts_of _ _ js js _ (went_still _ _ js c.in_err-batch.ensures.err.0 (ap (λ (v : CoreView). v.shape) c.hold.ensures.core)));
}

pub returns-in_err-sectors-clause-stops : goal.returns-in_err-sectors-clause-stops
returns-in_err-sectors-clause-stops c = record {
  memory = search rules;
  went_on = λ js. handed _ (halts_of _ _ js js _ (went_adds _ _ _ _ _ c.in_ok-batch.ensures.event (ap (λ (v : CoreView). v.shape) c.hold.ensures.core) (λ same. refl) js));
}

pub returns-clause-stops : goal.returns-clause-stops
returns-clause-stops c = record {
  memory = c.end_line.ensures.stops.memory;
  went_on = λ js. on_err_weaker _ (halts_after _ _ _ js js js _ (went_adds _ _ _ _ _ c.in_ok-batch.ensures.event (ap (λ (v : CoreView). v.shape) c.hold.ensures.core) (λ same. refl) js)) (c.end_line.ensures.stops.went_on js);
}
