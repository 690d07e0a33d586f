-- A batch of the lowest pieces of a mirror that wait: as many as were asked for, or nothing of the mirror waits any more.
use Rattle.std.proofs.Common.{◌≡◌, ℕ, zero, suc, ◌≤◌, ◌⊎◌, ◌||◌, Bool, true, false, cond, not, List, [], ◌∷◌, ◌++◌, length, filter, take, map, refl, sym, ◌∙◌, ap, subst, inl, inr, arith, append_assoc}
use Rattle.std.specs.List.{list_any}
use Rattle.std.specs.Ordering.{is_eq}
use Rattle.std.proofs.lemmas.List.{length-map, nil_from_length}
use Rattle.zs_ids.specs.declared.block.Piece.{Piece}
use Rattle.zs_ids.specs.declared.block.Item.{Item}
use Rattle.zs_ids.specs.Graph.{Has}
use Rattle.zs_queue.specs.Lists.{has-filter}
use Rattle.zs_ids.specs.Piece.{piece_cmp}
use Rattle.zs_queue.specs.Waiting.{is_of, lowest, without}
use Rattle.zs_ledger.specs.declared.entry.Entry.{Entry}
use Rattle.zs_scan.specs.declared.batch.Batch.{Batch}
use Rattle.zs_scan.specs.Kept.{IsOrderly}
use Rattle.zs_scan.specs.Steps.{Taken}
use Rattle.zs_scan.specs.View.{ScanView, pieces_in}
use Rattle.zs_scan.proofs.Batches.{into-filter}
use Rattle.zs_scan.proofs.Pieces.{same_itself}
use Rattle.zs_machine.specs.declared.event.Event.{Event}
use Rattle.zs_core.specs.Line.{TookAll}
use Rattle.zs_machine.specs.Told.{issued_of}
use Rattle.zs_core.specs.View.{PoolView}
use Rattle.zs_machine.specs.History.{AddsEvent}
use Rattle.zs_machine.specs.declared.event.Step.TheVariants as step
use Rattle.zs_script.specs.declared.command.Command.{Command}
use Rattle.zs_script.specs.declared.reply.IssuedPiece.{IssuedPiece}
use Rattle.zs_script.specs.declared.reply.Reply.TheVariants as reply
use Rattle.zs_session.specs.Batches.{TookLowest}
use Rattle.zs_session.specs.Devices.{Journals}
use Rattle.zs_session.specs.Plays.{Went}

module _ {A : Type 0} where
  -- a test that none passes leaves nothing
  none_pass : (p : A → Bool) (xs : List A) → ((x : A) → Has xs x → p x ≡ true → ⊥) → filter p xs ≡ []
  none_pass p [] none = refl
  none_pass p (x ∷ xs) none = elim (p x) as (λ b. p x ≡ b → cond b (x ∷ filter p xs) (filter p xs) ≡ []) [
    | true ↦ λ is. absurd (none x (inl refl) is)
    | false ↦ λ is. none_pass p xs (λ y h. none y (inr h))
  ] refl

-- an item of a list is among the list's pieces
among : (xs : List (Piece × Item)) (e : Piece × Item) → Has xs e → e.1.piece ≡ e.0 → list_any (λ p. is_eq (piece_cmp p e.0)) (pieces_in (map (λ (x : Piece × Item). x.1) xs)) ≡ true
among [] e here named = absurd here
among (x ∷ xs) e here named = elim here [
  | inl is ↦ first (is_eq (piece_cmp x.1.piece e.0)) (ap (λ (p : Piece). is_eq (piece_cmp p e.0)) (ap (λ (y : Piece × Item). y.1.piece) is ∙ named) ∙ same_itself e.0)
  | inr later ↦ second (is_eq (piece_cmp x.1.piece e.0)) (among xs e later named)
]
  where
    rest : Bool
    rest = list_any (λ p. is_eq (piece_cmp p e.0)) (pieces_in (map (λ (x : Piece × Item). x.1) xs))

    first : (b : Bool) → b ≡ true → (b || rest) ≡ true
    first b is = ap (λ t. t || rest) is

    second : (b : Bool) → rest ≡ true → (b || rest) ≡ true
    second true is = refl
    second false is = is

-- nothing of the mirror waits any more where all of it was taken
none_left : (waiting : List (Piece × Item)) (vdev : ℕ) → ((e : Piece × Item) → Has waiting e → e.1.piece ≡ e.0) → filter (is_of vdev) (without waiting (pieces_in (map (λ (x : Piece × Item). x.1) (filter (is_of vdev) waiting)))) ≡ []
none_left waiting vdev named = none_pass (is_of vdev) (without waiting taken) (λ e here of. out e here of)
  where
    taken : List Piece
    taken = pieces_in (map (λ (x : Piece × Item). x.1) (filter (is_of vdev) waiting))

    out : (e : Piece × Item) → Has (without waiting taken) e → is_of vdev e ≡ true → ⊥
    out e here of =
        let both = has-filter (λ (x : Piece × Item). not (list_any (λ p. is_eq (piece_cmp p x.0)) taken)) waiting e here in
        let there : list_any (λ p. is_eq (piece_cmp p e.0)) taken ≡ true = among (filter (is_of vdev) waiting) e (into-filter (is_of vdev) waiting e both.0 of) (named e both.0) in
        let apart : false ≡ true = sym (ap not there) ∙ both.1 in
        cc

-- as many are taken from a list as are asked for, or all
take_most : {A : Type 0} (n : ℕ) (xs : List A) → (length (take n xs) ≡ n) ⊎ (take n xs ≡ xs)
take_most zero xs = inl refl
take_most (suc n) [] = inr refl
take_most (suc n) (x ∷ xs) = elim (take_most n xs) [ inl many ↦ inl (ap suc many) | inr all ↦ inr (ap (λ ys. x ∷ ys) all) ]

-- so many items are taken, or nothing of the mirror waits any more
took : (waiting : List (Piece × Item)) (vdev n : ℕ) → ((e : Piece × Item) → Has waiting e → e.1.piece ≡ e.0)
    → (length (lowest waiting vdev n) ≡ n) ⊎ (filter (is_of vdev) (without waiting (pieces_in (lowest waiting vdev n))) ≡ [])
took waiting vdev n named = elim (take_most n (filter (is_of vdev) waiting)) [
  | inl many ↦ inl (length-map (take n (filter (is_of vdev) waiting)) (λ (e : Piece × Item). e.1) ∙ many)
  | inr all ↦ inr (subst (λ (xs : List (Piece × Item)). filter (is_of vdev) (without waiting (pieces_in (map (λ (e : Piece × Item). e.1) xs))) ≡ []) (sym all) (none_left waiting vdev named))
]

-- where none is taken of at least one that is asked for, nothing of the mirror waits
none_waited : (waiting : List (Piece × Item)) (vdev n : ℕ) → 1 ≤ n → length (lowest waiting vdev n) ≡ 0 → filter (is_of vdev) waiting ≡ []
none_waited waiting vdev n some none =
    let few : length (take n (filter (is_of vdev) waiting)) ≡ 0 = sym (length-map (take n (filter (is_of vdev) waiting)) (λ (e : Piece × Item). e.1)) ∙ none in
    elim (take_most n (filter (is_of vdev) waiting)) [
      | inl many ↦ absurd (omega (arith, some, many, few))
      | inr all ↦ nil_from_length (filter (is_of vdev) waiting) (sym (ap length all) ∙ few)
    ]

-- a batch of the lowest that wait was taken
pub took_all : (old new : ScanView) (b : Batch) (vdev n : ℕ) → IsOrderly old → 1 ≤ n → b.items ≡ lowest old.waiting vdev n → (1 ≤ length b.items → Taken old b new) → (length b.items ≡ 0 → new ≡ record old { room = new.room }) → TookAll new vdev n (length b.items)
took_all old new b vdev n orderly some items taken none = go (length b.items) refl
  where
    go : (k : ℕ) → length b.items ≡ k → TookAll new vdev n (length b.items)
    go zero is = inr (ap (λ (v : ScanView). filter (is_of vdev) v.waiting) (none is) ∙ none_waited old.waiting vdev n some (sym (ap length items) ∙ is))
    go (suc k) is =
        let rest : new.waiting ≡ without old.waiting (pieces_in b.items) = ap (λ (v : ScanView). v.waiting) (taken (omega (arith, is))).rest in
        elim (took old.waiting vdev n orderly.named) [
          | inl many ↦ inl (ap length items ∙ many)
          | inr left ↦ inr (ap (filter (is_of vdev)) (rest ∙ ap (λ (is : List Item). without old.waiting (pieces_in is)) items) ∙ left)
        ]

-- so it was while the same pieces wait, told by as many results
pub took_still : (old new : ScanView) (vdev n many told : ℕ) → TookAll old vdev n many → new.waiting ≡ old.waiting → told ≡ many → TookAll new vdev n told
took_still old new vdev n many told all waiting same = elim all [
  | inl enough ↦ inl (same ∙ enough)
  | inr none ↦ inr (ap (filter (is_of vdev)) waiting ∙ none)
]

-- an entry for each item is a result for each
pub as_many_shown : (shown : List IssuedPiece) (entries : List Entry) (items : List Item) → shown ≡ map issued_of entries → map (λ e. e.piece) entries ≡ pieces_in items → length shown ≡ length items
as_many_shown shown entries items is whole =
    ap length is ∙ (length-map entries issued_of ∙ (sym (length-map entries (λ (e : Entry). e.piece)) ∙ (ap length whole ∙ length-map items (λ (i : Item). i.piece))))

-- the event that took it is the first that came since
pub took_lowest : (by number online vdev n : ℕ) (items : List Item) (old new : PoolView) → AddsEvent by (step.Hold number vdev online (pieces_in items)) reply.Nothing old.history new.history → items ≡ lowest old.core.scan.waiting vdev n → TookLowest old new vdev n
took_lowest by number online vdev n items old new event lowest_items = record {
  by = by;
  number = number;
  online = online;
  rest = [];
  is = subst (λ (is : List Item). AddsEvent by (step.Hold number vdev online (pieces_in is)) reply.Nothing old.history new.history) lowest_items event;
}

-- it stays the first, whatever comes then
pub took_on : (old mid new : PoolView) (vdev n : ℕ) (before after : Journals) (cs : List Command) → TookLowest old mid vdev n → Went mid new before after cs → TookLowest old new vdev n
took_on old mid new vdev n before after cs first went = record {
  by = first.by;
  number = first.number;
  online = first.online;
  rest = first.rest ++ went.more;
  is = went.is ∙ (ap (λ (es : List Event). es ++ went.more) first.is ∙ append_assoc old.history (taker ∷ first.rest) went.more);
}
  where
    taker : Event
    taker = record { by = first.by; step = step.Hold first.number vdev first.online (pieces_in (lowest old.core.scan.waiting vdev n)); reply = reply.Nothing }
