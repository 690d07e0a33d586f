-- The closed transaction group is applied as the machine asks, and what is kept stays true.
use Rattle.std.proofs.Common.{◌≡◌, ◌∙◌, ℕ, true, refl, sym, ap, subst, Some}
use Rattle.std.proofs.lemmas.Bool.{true≢false}
use Rattle.zs_scan.proofs.FreedPieces.{freed_complete}
use Rattle.zs_machine.specs.declared.event.Stage.TheVariants.{Between, Labelling}
use Rattle.zs_machine.specs.Replies.{after_tasks, task_answers}
use Rattle.zs_core.specs.Applying.{IsReady, Space, space_in}
use Rattle.zs_core.specs.Kept.{Facts, view_of}
use Rattle.zs_core.specs.Running.{HaveRun}
use Rattle.zs_scan.specs.Steps.{IsComplete}
use Rattle.zs_core.specs.View.{closed_of, data_of, scan_of, tasks_in, txg_of}
use Rattle.zs_core.proofs.Drained.{freed_drained, ran_drained, ran_none, tasks_none}
use Rattle.zs_core.specs.Ending.{EndsWith}
use Rattle.zs_core.specs.Synced.{EndsIfComplete}
use Rattle.zs_core.proofs.Ended.{end_step, ended_if_complete, ended_never, ended_rest, ended_saved}
use Rattle.zs_core.proofs.PutGroup.{put_data}
use Rattle.zs_core.proofs.Ready.{ready, space_of}
use Rattle.zs_core.proofs.RunsOn.{rest_both}
use Rattle.zs_core.proofs.Tended.{closed_over, facts_after}
use Rattle.zs_core.proofs.present.Present.apply.Goals as goal

pub apply_group-applied-requires : goal.apply_group-applied-requires
apply_group-applied-requires g c =
    let f : Facts c.self.inside = c.self.invariant in
    let there : c.self.inside.closed ≡ Some c.in-Some.closed = sym c.replace.ensures.value ∙ c.in-Some.is in
    let over = closed_over c.self.inside f c.in-Some.closed there (ap (λ v. v.state.suspended) c.self.view_is ∙ c.requires.1.0) (ap (λ v. v.state.stage) c.self.view_is ∙ c.requires.1.1) in
    let space : g.space ≡ space_of c.self.inside = c.requires.0 ∙ ap space_in (sym c.self.view_is) in (
      subst (λ (s : Space). IsReady s c.in-Some.closed.txg c.in-Some.closed.changes.items c.self.inside.graph.sets c.self.inside.scan) (sym space) (ready c.self.inside f c.in-Some.closed there over),
      c.new-answers.ensures.items,
    )

-- memory was wanting
pub invariant_of-self : goal.invariant_of-self
invariant_of-self g c =
    rw c.replace.ensures.after (facts_after c.self.inside c.self.invariant c.in-Some.closed (sym c.replace.ensures.value ∙ c.in-Some.is) (ap (λ v. v.state.suspended) c.self.view_is ∙ c.requires.1.0) (ap (λ v. v.state.stage) c.self.view_is ∙ c.requires.1.1) g.space (c.requires.0 ∙ ap space_in (sym c.self.view_is))
    c.apply_group-applied.new.graph c.apply_group-applied.new.scan c.apply_group-applied.new.scan c.txg-self-inside.result Between true c.self.inside.finished c.self.inside.answers c.txg-self-inside.ensures c.apply_group-applied.ensures.tended
    (λ room sets n h s. s) c.apply_group-applied.ensures.rest (λ up. absurd (true≢false up)))

pub invariant_of-self-2 : goal.invariant_of-self-2
invariant_of-self-2 g c =
    rw c.replace.ensures.after (facts_after c.self.inside c.self.invariant c.in-Some.closed (sym c.replace.ensures.value ∙ c.in-Some.is) (ap (λ v. v.state.suspended) c.self.view_is ∙ c.requires.1.0) (ap (λ v. v.state.stage) c.self.view_is ∙ c.requires.1.1) g.space (c.requires.0 ∙ ap space_in (sym c.self.view_is))
    c.apply_group-applied.new.graph c.apply_group-applied.new.scan c.end_scan-self-inside.new.scan c.txg-self-inside.result Labelling c.self.inside.suspended c.end_scan-self-inside.result c.apply_group-applied.new.answers c.txg-self-inside.ensures c.apply_group-applied.ensures.tended
    c.end_scan-self-inside.ensures.keeps (rest_both _ _ _ c.apply_group-applied.ensures.rest (ended_rest _ _ _ _ c.end_scan-self-inside.ensures)) (λ up. refl))

pub returns-clause-step : goal.returns-clause-step
returns-clause-step g c =
    let there : c.self.inside.closed ≡ Some c.in-Some.closed = sym c.replace.ensures.value ∙ c.in-Some.is in
    let done = c.in-Ok.ensures.ok in
    let on = put_data c.in-Some.closed.txg c.self.inside.graph c.self.inside.scan done.mid done.freed done.put in
    rw (← c.self.view_is) (record {
      txg = txg_of c.in-Some.closed.txg;
      was_closed = ap closed_of there;
      graph = done.mid.sets;
      written = (done.put).written;
      ended = rw (c.txg-self-inside.ensures, c.replace.ensures.after) (end_step (view_of c.self.inside).state (txg_of c.in-Some.closed.txg) (record { graph = done.mid.sets; next_id = c.self.inside.graph.next; scan = scan_of c.self.inside.scan }) g.space
          c.apply_group-applied.new.graph c.apply_group-applied.new.scan c.end_scan-self-inside.new.scan c.apply_group-applied.new.answers.items c.end_scan-self-inside.result
          (ap (λ x. after_tasks c.in-Some.closed.txg.txg x c.in-Some.closed.txg.tasks) (sym on) ∙ sym done.ran) (done.answered ∙ ap (λ x. task_answers c.in-Some.closed.txg.txg x c.in-Some.closed.txg.tasks) on) c.apply_group-applied.ensures.tended
          (subst (λ (n : ℕ). EndsWith n c.apply_group-applied.new.scan c.end_scan-self-inside.result c.end_scan-self-inside.new.scan) c.txg-self-inside.ensures c.end_scan-self-inside.ensures));
      born = done.born;
    })

pub returns-clause-complete : goal.returns-clause-complete
returns-clause-complete g c = λ was untasked.
    let there : c.self.inside.closed ≡ Some c.in-Some.closed = sym c.replace.ensures.value ∙ c.in-Some.is in
    let done = c.in-Ok.ensures.ok in
    let lost = (done.put).lost in
    let freed = freed_complete c.self.inside.scan done.freed lost.pieces (lost.freed).rest (rw (← c.self.view_is) at was) in
    let none = tasks_none _ _ there (ap (λ v. tasks_in v.state.closed) c.self.view_is ∙ untasked) in
    c.end_scan-self-inside.ensures.complete.1 (ran_none _ _ c.in-Some.closed.txg.tasks done.freed c.apply_group-applied.new.scan IsComplete none done.seen freed)

pub returns-clause-saved : goal.returns-clause-saved
returns-clause-saved g c = λ was running.
    let done = c.in-Ok.ensures.ok in
    let lost = (done.put).lost in
    let freed = freed_drained c.self.inside.scan done.freed lost.pieces (lost.freed).rest (rw (← c.self.view_is) at was) in
    let ran = ran_drained c.in-Some.closed.txg.txg _ c.in-Some.closed.txg.tasks done.freed c.apply_group-applied.new.scan done.seen freed in
    ended_saved _ _ _ _ c.end_scan-self-inside.ensures ran running

pub returns-clause-scan : goal.returns-clause-scan
returns-clause-scan g c =
    let there : c.self.inside.closed ≡ Some c.in-Some.closed = sym c.replace.ensures.value ∙ c.in-Some.is in
    let done = c.in-Ok.ensures.ok in
    rw (← c.self.view_is) (record {
      txg = txg_of c.in-Some.closed.txg;
      was_closed = ap closed_of there;
      graph = done.mid.sets;
      written = (done.put).written;
      freed_scan = done.freed;
      freed = (done.put).lost;
      ran_scan = c.apply_group-applied.new.scan;
      ran = subst (λ (n : ℕ). HaveRun c.in-Some.closed.txg.txg (record { graph = done.mid.sets; next_id = n; scan = scan_of done.freed }) c.in-Some.closed.txg.tasks done.freed c.apply_group-applied.new.scan) (done.put).next done.seen;
      ends = subst (λ (n : ℕ). EndsIfComplete n c.apply_group-applied.new.scan c.end_scan-self-inside.new.scan) c.txg-self-inside.ensures (ended_if_complete _ _ _ _ c.end_scan-self-inside.ensures);
    })

pub returns-clause-flight : goal.returns-clause-flight
returns-clause-flight g c = rw (← c.self.view_is) ((ended_rest _ _ _ _ c.end_scan-self-inside.ensures).flight ∙ c.apply_group-applied.ensures.rest.flight)

pub returns-clause-never : goal.returns-clause-never
returns-clause-never g c = ended_never _ _ _ _ c.end_scan-self-inside.ensures
