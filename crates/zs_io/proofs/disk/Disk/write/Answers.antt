use Rattle.std.proofs.Common.{◌∙◌, ◌∷◌, ◌++◌, [], ℕ, List, length, take, sym, ap, arith, length-take}
use Rattle.zs_io.specs.Calls.{Kept, overlaid, after_calls}
use Rattle.zs_io.specs.CallLaws.{after_calls-length, after_calls-push, overlaid_over}
use Rattle.zs_io.specs.declared.disk.Call.TheVariants.{Wrote}
use Rattle.zs_io.proofs.More.{pushed, time_after, wrote, wrote_torn, wrote_whole, wrote_part}
use Rattle.zs_io.proofs.disk.Disk.write.Goals as goal

pub put-requires : goal.put-requires
put-requires c =
    let long = after_calls-length c.self.inside.calls.items c.self.inside.first.value.items in
    let same = ap length c.self.invariant ∙ long ∙ ap (λ (k : Kept). length k.first) c.self.view_is in
    omega (arith, same, c.requires.fits, length-take c.args.kept c.args.bytes.now)

pub invariant_of-self-2 : goal.invariant_of-self-2
invariant_of-self-2 c =
    let long = after_calls-length c.self.inside.calls.items c.self.inside.first.value.items in
    let same = ap length c.self.invariant ∙ long ∙ ap (λ (k : Kept). length k.first) c.self.view_is in
    let call = Wrote c.args.at c.args.bytes.now c.args.kept in
    let is = c.in_ok-push.ensures.items ∙ ap (λ (l : List ℕ). c.self.inside.calls.items ++ Wrote c.args.at l c.args.kept ∷ []) c.in_ok-copy.ensures.items in
    c.put.ensures
    ∙ sym (overlaid_over c.args.at (take c.args.kept c.args.bytes.now) c.self.inside.bytes.items (omega (arith, same, c.requires.fits, length-take c.args.kept c.args.bytes.now)))
    ∙ ap (λ (l : List ℕ). overlaid c.args.at (take c.args.kept c.args.bytes.now) l) c.self.invariant
    ∙ sym (after_calls-push c.self.inside.calls.items call c.self.inside.first.value.items)
    ∙ ap (λ l. after_calls l c.self.inside.first.value.items) (sym is)

pub returns-clause-torn : goal.returns-clause-torn
returns-clause-torn c =
    let is = c.in_ok-push.ensures.items ∙ ap (λ (l : List ℕ). c.self.inside.calls.items ++ Wrote c.args.at l c.args.kept ∷ []) c.in_ok-copy.ensures.items in
    wrote_torn c.args.self.now _ c.args.at c.args.bytes.now c.args.kept (pushed _ _ _ (Wrote c.args.at c.args.bytes.now c.args.kept) c.args.self.now is c.self.view_is)

pub returns-clause-whole : goal.returns-clause-whole
returns-clause-whole c =
    let is = c.in_ok-push.ensures.items ∙ ap (λ (l : List ℕ). c.self.inside.calls.items ++ Wrote c.args.at l c.args.kept ∷ []) c.in_ok-copy.ensures.items in
    wrote_whole c.args.self.now _ c.args.at c.args.bytes.now c.args.kept (pushed _ _ _ (Wrote c.args.at c.args.bytes.now c.args.kept) c.args.self.now is c.self.view_is) c.requires.fits

pub returns-clause-crash : goal.returns-clause-crash
returns-clause-crash c =
    let is = c.in_ok-push.ensures.items ∙ ap (λ (l : List ℕ). c.self.inside.calls.items ++ Wrote c.args.at l c.args.kept ∷ []) c.in_ok-copy.ensures.items in
    wrote c.args.self.now _ c.args.at c.args.bytes.now c.args.kept (pushed _ _ _ (Wrote c.args.at c.args.bytes.now c.args.kept) c.args.self.now is c.self.view_is)

pub returns-clause-time : goal.returns-clause-time
returns-clause-time c =
    let is = c.in_ok-push.ensures.items ∙ ap (λ (l : List ℕ). c.self.inside.calls.items ++ Wrote c.args.at l c.args.kept ∷ []) c.in_ok-copy.ensures.items in
    time_after c.args.self.now _ (Wrote c.args.at c.args.bytes.now c.args.kept) (pushed _ _ _ (Wrote c.args.at c.args.bytes.now c.args.kept) c.args.self.now is c.self.view_is)

pub returns-clause-part : goal.returns-clause-part
returns-clause-part c =
    let is = c.in_ok-push.ensures.items ∙ ap (λ (l : List ℕ). c.self.inside.calls.items ++ Wrote c.args.at l c.args.kept ∷ []) c.in_ok-copy.ensures.items in
    wrote_part c.args.self.now _ c.args.at c.args.bytes.now c.args.kept (pushed _ _ _ (Wrote c.args.at c.args.bytes.now c.args.kept) c.args.self.now is c.self.view_is) c.requires.fits
