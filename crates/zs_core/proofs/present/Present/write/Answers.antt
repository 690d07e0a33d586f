-- A record is staged in a head; nothing else that is kept has changed.
use Rattle.std.proofs.Common.{◌≡◌, ◌≢◌, ◌∙◌, ◌≤◌, ◌<◌, ◌+◌, sym, ap, subst, arith, ℕ, None}
use Rattle.zs_ids.specs.GraphTree.{dataset_at}
use Rattle.zs_ids.specs.declared.limits.TheConstants.{TXG_END}
use Rattle.zs_machine.specs.declared.event.Stage.TheVariants.{Writing}
use Rattle.zs_machine.specs.Machine.{record_sectors}
use Rattle.zs_machine.specs.Replies.{write_refusal}
use Rattle.zs_machine.specs.Shapes.{data_start}
use Rattle.zs_core.specs.Kept.{Facts, IsAtStage, sectors_to_stage, view_of}
use Rattle.zs_core.specs.Staging.{IsHeadNamed}
use Rattle.zs_core.specs.View.{CoreView, txg_of}
use Rattle.zs_core.proofs.Allowed.{write_step, has_space, has_none, takes, not_refused}
use Rattle.zs_core.proofs.StagedMore.{kept_write}
use Rattle.zs_core.proofs.present.Present.write.Goals as goal

-- what is true of the state stays
pub invariant_of-self-2 : goal.invariant_of-self-2
invariant_of-self-2 c =
    let f : Facts c.self.inside = c.self.invariant in
    let calm : c.self.inside.stage ≢ Writing = λ is. c.requires.open (ap (λ v. v.state.stage) (sym c.self.view_is) ∙ is) in
    let allowed : write_refusal (view_of c.self.inside).state c.args.ds.now c.args.object c.args.leaf ≡ None = ap (λ v. write_refusal v.state c.args.ds.now c.args.object c.args.leaf) c.self.view_is ∙ c.in-Ok.ensures.0 in
    let head : IsHeadNamed (view_of c.self.inside).state c.args.ds.now c.in-Ok.id = subst (λ (v : CoreView). IsHeadNamed v.state c.args.ds.now c.in-Ok.id) (sym c.self.view_is) c.in-Ok.ensures.1 in
    let size : c.record_sectors-sectors.result ≡ record_sectors (view_of c.self.inside).state head.head c.args.object =
    c.record_sectors-sectors.ensures head.head (ap (λ v. dataset_at v.state.graph c.in-Ok.id) (sym c.self.view_is) ∙ head.here) ∙ ap (λ v. record_sectors v.state head.head c.args.object) (sym c.self.view_is) in
    let kept = kept_write c.self.inside f calm c.args.ds.now c.args.object c.args.fill c.in-Ok.id head c.args.leaf c.record_sectors-sectors.result allowed size in
    let fits : c.self.inside.next_sector + c.sectors_needed-needed.result ≤ c.self.inside.end_sector = omega arith in
    record {
      shape = f.shape;
      online = f.online;
      end = f.end;
      width = f.width;
      begun = let from : data_start c.self.inside.shape.blocks ≤ c.self.inside.next_sector = f.begun in omega (arith, from);
      space = fits;
      datasets = rw (c.in_ok-stage_record.ensures.staged, c.sectors_needed-needed.ensures.needed) kept.0;
      since = f.since;
      one_staged = rw c.in_ok-stage_record.ensures.staged kept.1;
      blocks = f.blocks;
      scan = f.scan;
      range = f.range;
      may_wait = f.may_wait;
      due = f.due;
      at_stage = λ up. subst (λ (n : ℕ). IsAtStage c.self.inside.graph.sets c.self.inside.applied n c.self.inside.closed c.self.inside.stage) (sym (ap (λ o. o.txg) c.in_ok-stage_record.ensures.kept)) (f.at_stage up);
      limit = subst (λ (n : ℕ). n ≤ TXG_END) (sym (ap (λ o. o.txg) c.in_ok-stage_record.ensures.kept)) f.limit;
    }

-- it is a step of the machine
pub returns-clause-step : goal.returns-clause-step
returns-clause-step c =
    let allowed : write_refusal (view_of c.self.inside).state c.args.ds.now c.args.object c.args.leaf ≡ None = ap (λ v. write_refusal v.state c.args.ds.now c.args.object c.args.leaf) c.self.view_is ∙ c.in-Ok.ensures.0 in
    let head : IsHeadNamed (view_of c.self.inside).state c.args.ds.now c.in-Ok.id = subst (λ (v : CoreView). IsHeadNamed v.state c.args.ds.now c.in-Ok.id) (sym c.self.view_is) c.in-Ok.ensures.1 in
    let size : c.record_sectors-sectors.result ≡ record_sectors (view_of c.self.inside).state head.head c.args.object =
    c.record_sectors-sectors.ensures head.head (ap (λ v. dataset_at v.state.graph c.in-Ok.id) (sym c.self.view_is) ∙ head.here) ∙ ap (λ v. record_sectors v.state head.head c.args.object) (sym c.self.view_is) in
    let group = ap txg_of c.in_ok-stage_record.ensures.kept ∙ ap (λ l. record (txg_of c.self.inside.open) { staged = l }) c.in_ok-stage_record.ensures.staged in
    rw (← c.self.view_is) (write_step (view_of c.self.inside) c.args.ds.now c.args.object c.in-Ok.id head c.args.fill c.self.inside.next_sector c.txg.result (txg_of c.stage_record.new.txg) (c.txg.ensures ∙ ap (λ o. o.txg) c.in_ok-stage_record.ensures.kept) c.args.leaf c.record_sectors-sectors.result allowed size group)

-- there was no space
pub returns-then-self-needed-clause-space : goal.returns-then-self-needed-clause-space
returns-then-self-needed-clause-space c =
    let head : IsHeadNamed (view_of c.self.inside).state c.args.ds.now c.in-Ok.id = subst (λ (v : CoreView). IsHeadNamed v.state c.args.ds.now c.in-Ok.id) (sym c.self.view_is) c.in-Ok.ensures.1 in
    let size : c.record_sectors-sectors.result ≡ record_sectors (view_of c.self.inside).state head.head c.args.object =
    c.record_sectors-sectors.ensures head.head (ap (λ v. dataset_at v.state.graph c.in-Ok.id) (sym c.self.view_is) ∙ head.here) ∙ ap (λ v. record_sectors v.state head.head c.args.object) (sym c.self.view_is) in
    let count = c.sectors_needed-needed.ensures.needed ∙ ap (λ n. sectors_to_stage c.self.inside.open.staged c.in-Ok.id c.args.object n) size in
    let full : c.self.inside.end_sector < c.self.inside.next_sector + c.sectors_needed-needed.result = omega arith in
    rw (← c.self.view_is) (has_none (view_of c.self.inside) _ c.args.ds.now c.args.object c.sectors_needed-needed.result (λ d. record_sectors (view_of c.self.inside).state d c.args.object) c.in-Ok.id head count full)

-- there was space
pub returns-clause-space : goal.returns-clause-space
returns-clause-space c =
    let head : IsHeadNamed (view_of c.self.inside).state c.args.ds.now c.in-Ok.id = subst (λ (v : CoreView). IsHeadNamed v.state c.args.ds.now c.in-Ok.id) (sym c.self.view_is) c.in-Ok.ensures.1 in
    let size : c.record_sectors-sectors.result ≡ record_sectors (view_of c.self.inside).state head.head c.args.object =
    c.record_sectors-sectors.ensures head.head (ap (λ v. dataset_at v.state.graph c.in-Ok.id) (sym c.self.view_is) ∙ head.here) ∙ ap (λ v. record_sectors v.state head.head c.args.object) (sym c.self.view_is) in
    let count = c.sectors_needed-needed.ensures.needed ∙ ap (λ n. sectors_to_stage c.self.inside.open.staged c.in-Ok.id c.args.object n) size in
    let fits : c.self.inside.next_sector + c.sectors_needed-needed.result ≤ c.self.inside.end_sector = omega arith in
    rw (← c.self.view_is) (has_space (view_of c.self.inside) _ c.args.ds.now c.args.object c.sectors_needed-needed.result (λ d. record_sectors (view_of c.self.inside).state d c.args.object) c.in-Ok.id head count _ (not_refused _ _ _ _) fits)

-- the next sector lies behind what was staged
pub returns-clause-next : goal.returns-clause-next
returns-clause-next c =
    let head : IsHeadNamed (view_of c.self.inside).state c.args.ds.now c.in-Ok.id = subst (λ (v : CoreView). IsHeadNamed v.state c.args.ds.now c.in-Ok.id) (sym c.self.view_is) c.in-Ok.ensures.1 in
    let size : c.record_sectors-sectors.result ≡ record_sectors (view_of c.self.inside).state head.head c.args.object =
    c.record_sectors-sectors.ensures head.head (ap (λ v. dataset_at v.state.graph c.in-Ok.id) (sym c.self.view_is) ∙ head.here) ∙ ap (λ v. record_sectors v.state head.head c.args.object) (sym c.self.view_is) in
    let count = c.sectors_needed-needed.ensures.needed ∙ ap (λ n. sectors_to_stage c.self.inside.open.staged c.in-Ok.id c.args.object n) size in
    rw (← c.self.view_is) (takes (view_of c.self.inside) None c.args.ds.now c.args.object c.sectors_needed-needed.result (λ d. record_sectors (view_of c.self.inside).state d c.args.object) c.in-Ok.id head count)
