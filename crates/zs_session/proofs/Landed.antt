-- Batches that land one after another, the one that was taken first always next.
use Rattle.std.proofs.Common.{◌≡◌, ◌≤◌, ◌<◌, ◌+◌, ◌==◌, ◌++◌, ℕ, true, false, not, List, [], ◌∷◌, length, filter, map, refl, sym, ◌∙◌, ap, subst, inl, inr, arith, eq-eqb}
use Rattle.std.specs.Prelude.{fold, Some}
use Rattle.zs_ids.specs.declared.block.Piece.{Piece}
use Rattle.zs_ids.specs.Graph.{Has}
use Rattle.zs_queue.specs.Lists.{has-filter}
use Rattle.zs_scan.specs.declared.batch.Batch.{Batch}
use Rattle.zs_scan.specs.Flight.{first_of}
use Rattle.zs_scan.specs.Kept.{RisesTo, IsOrderly}
use Rattle.zs_scan.specs.View.{ScanView, pieces_in}
use Rattle.zs_scan.proofs.Batches.{from-last}
use Rattle.zs_machine.specs.declared.event.Event.{Event}
use Rattle.zs_machine.specs.declared.event.Step.{Step}
use Rattle.zs_machine.specs.declared.event.Step.TheVariants as step
use Rattle.zs_machine.specs.Flight.{Flying, in_flight, flying_after, with_batch, landed}
use Rattle.zs_core.specs.FlightTold.{flying_of, FlyAsTold}
use Rattle.zs_machine.specs.Told.{TellsLand, line_steps, landed_of}
use Rattle.zs_core.specs.View.{PoolView}
use Rattle.zs_script.specs.declared.reply.LandedPiece.{LandedPiece}
use Rattle.zs_session.specs.Batches.{LandsFirst, HasLanded}
use Rattle.zs_session.specs.Verdicts.{next_number}
use Rattle.zs_session.proofs.LineSteps.{was_landed, next_landed}
use Rattle.zs_session.proofs.Judged.{first_flies}

-- each of these has a piece
abbrev HavePieces : List Flying → Type 0
HavePieces flying = (f : Flying) → Has flying f → 1 ≤ length f.pieces

-- a batch more, if it is not empty
have_more : (flying : List Flying) (number online : ℕ) (pieces : List Piece) → HavePieces flying → HavePieces (with_batch flying number online pieces)
have_more flying number online [] have = have
have_more flying number online (p ∷ ps) have = λ f here. elim (from-last flying (record { number = number; online = online; pieces = p ∷ ps }) f here) [
  | inl old ↦ have f old
  | inr new ↦ subst (λ (g : Flying). 1 ≤ length g.pieces) new (omega arith)
]

-- or fewer
have_fewer : (flying : List Flying) (number : ℕ) (pieces : List Piece) → HavePieces flying → HavePieces (landed flying number pieces)
have_fewer flying number [] have = have
have_fewer flying number (p ∷ ps) have = λ f here. have f (has-filter (λ (b : Flying). not (b.number == number)) flying f here).0

-- after one more step
have_after : (flying : List Flying) (s : Step) → HavePieces flying → HavePieces (flying_after flying s)
have_after flying (step.Hold number vdev online pieces) have = have_more flying number online pieces have
have_after flying (step.Verdict number pieces entries) have = have_fewer flying number pieces have
have_after flying s have = have

-- each batch that a history tells to be in flight has a piece
all_have : (flying : List Flying) (es : List Event) → HavePieces flying → HavePieces (fold (λ found e. flying_after found e.step) flying es)
all_have flying [] have = have
all_have flying (e ∷ es) have = all_have (flying_after flying e.step) es (have_after flying e.step have)

-- what a list has, the list of what is made of it has
into_map : {A B : Type 0} (f : A → B) (xs : List A) (x : A) → Has xs x → Has (map f xs) (f x)
into_map f [] x here = absurd here
into_map f (y ∷ ys) x (inl is) = inl (ap f is)
into_map f (y ∷ ys) x (inr later) = inr (into_map f ys x later)

-- so a batch in flight has one
some_pieces : (flight : List Batch) (es : List Event) (b : Batch) → FlyAsTold flight es → Has flight b → 1 ≤ length (pieces_in b.items)
some_pieces flight es b told here =
    all_have [] es (λ f none. absurd none) (flying_of b) (subst (λ (fs : List Flying). Has fs (flying_of b)) told.are (into_map flying_of flight b here))

-- those that stay in flight were taken later than the first
later_than : (next : ℕ) (flight : List Batch) (b c : Batch) → RisesTo next flight → Some b ≡ first_of flight → Has (filter (λ (x : Batch). not (x.number == b.number)) flight) c → b.number < c.number
later_than next [] b c rises first here = absurd here
later_than next (d ∷ ds) b c rises first here = go (has-filter (λ (x : Batch). not (x.number == b.number)) (d ∷ ds) c here)
  where
    same : b ≡ d
    same = cc

    go : Has (d ∷ ds) c × (not (c.number == b.number) ≡ true) → b.number < c.number
    go both = elim both.0 [
      | inl is ↦
          let equal : (c.number == b.number) ≡ true = eq-eqb c.number b.number (ap (λ (x : Batch). x.number) (sym is ∙ sym same)) in
          let apart : false ≡ true = sym (ap not equal) ∙ both.1 in
          cc
      | inr behind ↦ subst (λ (x : Batch). x.number < c.number) (sym same) (rises.1 c behind)
    ]

-- the batch that was taken first landed, and what is left was taken later
pub landed_more : (by made many : ℕ) (shown more : List LandedPiece) (old new : PoolView) (lands : LandsFirst by old many new) → IsOrderly old.core.scan → FlyAsTold old.core.scan.flight old.history → HasLanded old made shown
    → more ≡ shown ++ map (landed_of lands.verdict.made) (pieces_in lands.batch.items) → HasLanded new (made + many) more
landed_more by made many shown more old new lands orderly told so_far same = record {
  told = was_landed by lands.batch.number many (pieces_in lands.batch.items) lands.verdict.made _ old.history new.history made shown more lands.verdict.event (so_far.later lands.batch flies) (some_pieces old.core.scan.flight old.history lands.batch told flies) lands.verdict.counted same so_far.told;
  later = λ c here.
      let left : Has (filter (λ (x : Batch). not (x.number == lands.batch.number)) old.core.scan.flight) c = subst (λ (v : ScanView). Has v.flight c) lands.verdict.judged.rest here in
      let low : lands.batch.number < c.number = later_than old.core.scan.batches old.core.scan.flight lands.batch c orderly.numbers lands.first left in
      let next : next_number 0 (line_steps new.history) ≡ lands.batch.number + 1 = next_landed by lands.batch.number (pieces_in lands.batch.items) lands.verdict.made _ old.history new.history lands.verdict.event in
      omega (arith, low, next);
}
  where
    flies : Has old.core.scan.flight lands.batch
    flies = first_flies old.core.scan.flight lands.batch lands.first

-- nothing landed yet in a line that begins
pub none_landed : (p : PoolView) → line_steps p.history ≡ [] → HasLanded p 0 []
none_landed p fresh = record {
  told = subst (λ (ss : List Step). TellsLand ss 0 []) (sym fresh) (tt, refl, refl);
  later = λ b here. subst (λ (ss : List Step). next_number 0 ss ≤ b.number) (sym fresh) (omega arith);
}

-- where nothing flies none is told to
pub none_flying : (flight : List Batch) (es : List Event) → FlyAsTold flight es → flight ≡ [] → in_flight es ≡ []
none_flying flight es told none = sym told.are ∙ ap (map flying_of) none
