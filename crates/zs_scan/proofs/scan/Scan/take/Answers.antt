use Rattle.std.proofs.Common.{rules, ◌≡◌, ◌≤◌, ◌∙◌, ◌++◌, [], ◌∷◌, List, length, arith, true, refl, subst, sym, ap}
use Rattle.std.specs.Prelude.{Some, None}
use Rattle.std.specs.List.Sorted.{IsStrictlySortedBy}
use Rattle.zs_ids.specs.declared.block.Piece.{Piece}
use Rattle.zs_ids.specs.declared.block.Item.{Item}
use Rattle.zs_ids.specs.Piece.{piece_cmp}
use Rattle.zs_queue.specs.Waiting.{lowest}
use Rattle.zs_queue.specs.Lowest.{lowest_is_batch}
use Rattle.zs_scan.specs.View.{mark_of, has_item, pieces_in}
use Rattle.zs_queue.specs.Waiting.{without}
use Rattle.zs_scan.specs.declared.batch.Batch.{Batch}
use Rattle.zs_scan.proofs.Orderly.{items_wait, lowest_few, taken_is}
use Rattle.zs_scan.proofs.Takes.{taken_from}
use Rattle.zs_scan.proofs.scan.Scan.take.Goals as goal

pub fly_all-requires-clause-wait : goal.fly_all-requires-clause-wait
fly_all-requires-clause-wait c =
    let is : c.deref.result.now ≡ lowest c.self.inside.queue.map.entries c.args.vdev c.args.n = c.deref.ensures.value ∙ c.in_ok-items.ensures.batch in
    let batch = lowest_is_batch c.self.inside.queue.map.entries c.args.vdev c.args.n c.self.inside.queue.kept.named c.self.inside.queue.kept.ordered in
    subst (λ (l : List Item). (q : Piece) → has_item l q ≡ true → mark_of c.self.inside.marks q ≡ Some None) (sym is) (items_wait _ (lowest c.self.inside.queue.map.entries c.args.vdev c.args.n) c.self.invariant batch.waiting)

pub fly_all-requires-clause-rising : goal.fly_all-requires-clause-rising
fly_all-requires-clause-rising c =
    let is : c.deref.result.now ≡ lowest c.self.inside.queue.map.entries c.args.vdev c.args.n = c.deref.ensures.value ∙ c.in_ok-items.ensures.batch in
    let batch = lowest_is_batch c.self.inside.queue.map.entries c.args.vdev c.args.n c.self.inside.queue.kept.named c.self.inside.queue.kept.ordered in
    subst (λ (l : List Item). IsStrictlySortedBy piece_cmp (pieces_in l)) (sym is) batch.rising

pub filled-copy-requires-clause-room : goal.filled-copy-requires-clause-room
filled-copy-requires-clause-room c =
    let is : c.deref-2.result.now ≡ lowest c.self.inside.queue.map.entries c.args.vdev c.args.n = c.deref-2.ensures.value ∙ c.in_ok-items.ensures.batch in
    let few = lowest_few c.self.inside.queue.map.entries c.args.vdev c.args.n in
    let same : length c.deref-2.result.now ≡ length (lowest c.self.inside.queue.map.entries c.args.vdev c.args.n) = ap (λ (l : List Item). length l) is in
    let asked : length (lowest c.self.inside.queue.map.entries c.args.vdev c.args.n) ≤ c.args.n = few.0 in
    let there : length (lowest c.self.inside.queue.map.entries c.args.vdev c.args.n) ≤ length c.self.inside.queue.map.entries = few.1 in
    omega (arith, same, asked, there, c.count.ensures, c.min-most.ensures, c.in_ok-reserve.ensures.ok)

pub invariant_of-self-2 : goal.invariant_of-self-2
invariant_of-self-2 c =
    let is : c.deref.result.now ≡ lowest c.self.inside.queue.map.entries c.args.vdev c.args.n = c.deref.ensures.value ∙ c.in_ok-items.ensures.batch in
    let few = lowest_few c.self.inside.queue.map.entries c.args.vdev c.args.n in
    let same : length c.deref.result.now ≡ length (lowest c.self.inside.queue.map.entries c.args.vdev c.args.n) = ap (λ (l : List Item). length l) is in
    let asked : length (lowest c.self.inside.queue.map.entries c.args.vdev c.args.n) ≤ c.args.n = few.0 in
    let there : length (lowest c.self.inside.queue.map.entries c.args.vdev c.args.n) ≤ length c.self.inside.queue.map.entries = few.1 in
    taken_is _ _ c.deref.result.now c.args.vdev c.args.n _ _ _ _ _ _ _ c.self.invariant (record { ordered = c.take.new.self.kept.ordered; named = c.take.new.self.kept.named; within = c.take.new.self.kept.within }) refl is
    (c.from_vec.ensures ∙ c.filled-copy.ensures ∙ c.deref-2.ensures.value ∙ sym c.deref.ensures.value) c.in_ok-reserve-3.ensures.entries
    (c.in_ok-items.ensures.rest ∙ ap (λ (l : List Item). without c.self.inside.queue.map.entries (pieces_in l)) (sym c.deref.ensures.value)) c.fly_all.ensures.marks
    (c.push_batch.ensures ∙ ap (λ (l : List Batch). l ++ record { number = c.self.inside.batches; vdev = c.args.vdev; online = c.args.online; items = c.from_vec.result } ∷ []) c.reserve-2.ensures.items) refl
    (omega (arith, same, asked, there, c.count.ensures, c.min-most.ensures, c.in_ok-reserve-3.ensures.ok, c.fly_all.ensures.flying, c.flying-flying.ensures))

pub returns-clause-keeps : goal.returns-clause-keeps
returns-clause-keeps c =
    let is : c.from_vec.result ≡ lowest c.self.inside.queue.map.entries c.args.vdev c.args.n = c.from_vec.ensures ∙ c.filled-copy.ensures ∙ c.deref-2.ensures.value ∙ c.in_ok-items.ensures.batch in
    taken_from _ _ _ (record { number = c.self.inside.batches; vdev = c.args.vdev; online = c.args.online; items = c.from_vec.result }) c.args.vdev c.args.n c.self.view_is c.self.invariant refl is (search rules)
