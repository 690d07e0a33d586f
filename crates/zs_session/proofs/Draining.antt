-- What waits, of a pool of one mirror.
use Rattle.std.proofs.Common.{◌≡◌, ℕ, zero, suc, ◌<◌, ◌≤◌, ◌||◌, Bool, true, cond, not, List, [], ◌∷◌, length, filter, take, map, refl, sym, ◌∙◌, ap, subst, inl, inr, arith, eq-eqb}
use Rattle.std.specs.List.{list_any}
use Rattle.std.specs.Ordering.{is_eq}
use Rattle.zs_ids.specs.declared.block.Piece.{Piece}
use Rattle.zs_ids.specs.declared.block.Item.{Item}
use Rattle.zs_ids.specs.Graph.{Has}
use Rattle.zs_queue.specs.Lists.{has-filter}
use Rattle.zs_ids.specs.Piece.{piece_cmp}
use Rattle.zs_queue.specs.Waiting.{is_of, lowest, without}
use Rattle.zs_scan.specs.View.{ScanView, pieces_in}
use Rattle.zs_scan.specs.declared.batch.Batch.{Batch}
use Rattle.zs_scan.specs.Kept.{IsOrderly}
use Rattle.zs_scan.proofs.Pieces.{same_itself}
use Rattle.zs_core.specs.Safe.{IsSafe}
use Rattle.zs_core.specs.View.{CoreView}
use Rattle.zs_session.proofs.Judged.{fewer_pass}

-- each waiting piece is of the one mirror
of_mirror : (v : CoreView) (e : Piece × Item) → IsSafe v → Has v.scan.waiting e → is_of 0 e ≡ true
of_mirror v e safe here =
    let block = safe.scanned.live.waiting e here in
    let lies = safe.scanned.covered.valid.within.places block.holder block.is_dataset block.at block.is_entry e.1.piece block.is_piece in
    let named : e.1.piece ≡ e.0 = safe.orderly.named e here in
    let low : e.1.piece.place.vdev < 1 = lies.mirror in
    let vdev : e.0.place.vdev ≡ 0 = sym (ap (λ (p : Piece). p.place.vdev) named) ∙ omega (arith, low) in
    eq-eqb e.0.place.vdev 0 vdev

-- a test that all pass takes nothing out
all_pass : {A : Type 0} (p : A → Bool) (xs : List A) → ((x : A) → Has xs x → p x ≡ true) → filter p xs ≡ xs
all_pass p [] all = refl
all_pass p (x ∷ xs) all = ap (λ b. cond b (x ∷ filter p xs) (filter p xs)) (all x (inl refl)) ∙ ap (λ ys. x ∷ ys) (all_pass p xs (λ y h. all y (inr h)))

-- no batch is taken from a list only where it is empty
none_taken : {A B : Type 0} (f : A → B) (n : ℕ) (xs : List A) → 0 < n → length (map f (take n xs)) ≡ 0 → xs ≡ []
none_taken f zero xs some none = absurd (omega (arith, some))
none_taken f (suc n) [] some none = refl
none_taken f (suc n) (x ∷ xs) some none = absurd (omega (arith, none))

-- nothing waits where an empty batch was taken
pub none_waits : (v : CoreView) (n : ℕ) (items : List Item) → IsSafe v → 0 < n → items ≡ lowest v.scan.waiting 0 n → length items ≡ 0 → v.scan.waiting ≡ []
none_waits v n items safe some is none =
    sym (all_pass (is_of 0) v.scan.waiting (λ e h. of_mirror v e safe h))
    ∙ none_taken (λ (e : Piece × Item). e.1) n (filter (is_of 0) v.scan.waiting) some (ap length (sym is) ∙ none)

-- nor where just the room for entries changed then
pub none_left : (v : CoreView) (now : ScanView) (n : ℕ) (items : List Item) → IsSafe v → 0 < n → now ≡ record v.scan { room = now.room } → items ≡ lowest v.scan.waiting 0 n → length items ≡ 0 → now.waiting ≡ []
none_left v now n items safe some same is none = ap (λ (s : ScanView). s.waiting) same ∙ none_waits v n items safe some is none

-- the first of a batch waited, and is one of its pieces
pub record IsTaken (waiting : List (Piece × Item)) (items : List Item) : Type 0 where
  pub entry : Piece × Item
  pub here : Has waiting entry
  pub taken : list_any (λ p. is_eq (piece_cmp p entry.1.piece)) (pieces_in items) ≡ true

some_taken : (waiting : List (Piece × Item)) (n vdev : ℕ) → 0 < length (lowest waiting vdev n) → IsTaken waiting (lowest waiting vdev n)
some_taken waiting zero vdev some = absurd (omega (arith, some))
some_taken waiting (suc n) vdev some = go (filter (is_of vdev) waiting) refl some
  where
    go : (found : List (Piece × Item)) → filter (is_of vdev) waiting ≡ found → 0 < length (map (λ (e : Piece × Item). e.1) (take (suc n) found)) → IsTaken waiting (map (λ (e : Piece × Item). e.1) (take (suc n) found))
    go [] is some = absurd (omega (arith, some))
    go (e ∷ es) is some = record {
      entry = e;
      here = (has-filter (is_of vdev) waiting e (subst (λ (xs : List (Piece × Item)). Has xs e) (sym is) (inl refl))).0;
      taken = ap (λ b. b || list_any (λ p. is_eq (piece_cmp p e.1.piece)) (pieces_in (map (λ (x : Piece × Item). x.1) (take n es)))) (same_itself e.1.piece);
    }

-- fewer wait where a batch was taken
pub fewer_wait : (v : ScanView) (n vdev : ℕ) (items : List Item) (new : List (Piece × Item)) → IsOrderly v → items ≡ lowest v.waiting vdev n → 0 < length items → new ≡ without v.waiting (pieces_in items) → length new < length v.waiting
fewer_wait v n vdev items new orderly is some left =
    let taken : IsTaken v.waiting items = subst (λ (l : List Item). IsTaken v.waiting l) (sym is) (some_taken v.waiting n vdev (subst (λ (l : List Item). 0 < length l) is some)) in
    let named : taken.entry.1.piece ≡ taken.entry.0 = orderly.named taken.entry taken.here in
    let out : list_any (λ p. is_eq (piece_cmp p taken.entry.0)) (pieces_in items) ≡ true = subst (λ (q : Piece). list_any (λ p. is_eq (piece_cmp p q)) (pieces_in items) ≡ true) named taken.taken in
    rw left (fewer_pass (λ (e : Piece × Item). not (list_any (λ p. is_eq (piece_cmp p e.0)) (pieces_in items))) v.waiting taken.entry taken.here (ap not out))

-- as many are taken as are asked for, or fewer
pub few_taken : (waiting : List (Piece × Item)) (vdev n : ℕ) → length (pieces_in (lowest waiting vdev n)) ≤ n
few_taken waiting vdev n = go n (filter (is_of vdev) waiting)
  where
    go : (k : ℕ) (xs : List (Piece × Item)) → length (map (λ (i : Item). i.piece) (map (λ (e : Piece × Item). e.1) (take k xs))) ≤ k
    go zero xs = omega arith
    go (suc k) [] = omega arith
    go (suc k) (x ∷ xs) = omega (arith, go k xs)

-- the sectors of a batch's items are those of its pieces
pub same_sectors : (items : List Item) → map (λ (i : Item). i.piece.place.sector) items ≡ map (λ (p : Piece). p.place.sector) (pieces_in items)
same_sectors [] = refl
same_sectors (i ∷ is) = ap (λ l. i.piece.place.sector ∷ l) (same_sectors is)

-- the same, of a batch that was taken
pub few_held : (b : Batch) (waiting : List (Piece × Item)) (vdev n : ℕ) → b.items ≡ lowest waiting vdev n → length (pieces_in b.items) ≤ n
few_held b waiting vdev n is = subst (λ (items : List Item). length (pieces_in items) ≤ n) (sym is) (few_taken waiting vdev n)
