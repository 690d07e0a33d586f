-- How the plain queue's parts keep together over its calls.
use Rattle.std.proofs.Common.{◌≡◌, ℕ, ◌+◌, ◌-◌, ◌<◌, ◌≤◌, ◌==◌, ◌||◌, true, false, not, cond, List, [], ◌∷◌, map, filter, length, refl, sym, ◌∙◌, ap, subst, inl, inr, arith, is_some, slice_set, get_or, drop, drop-cons, add-one, get_or-set_same, get_or-set_other, add-zero, eq-eqb, eqb-true}
use Rattle.std.specs.Prelude.{Some}
use Rattle.std.proofs.lemmas.List.{drop_all}
use Rattle.std.proofs.lemmas.List.Sums.{length-filter, count_by-le-length}
use Rattle.std.specs.List.{list_any, AllByRecursion}
use Rattle.std.specs.List.Sorted.{IsStrictlySortedBy}
use Rattle.std.specs.Ordering.{is_eq, match_ordering}
use Rattle.std.specs.declared.cmp.Ordering.{Ordering}
use Rattle.std.specs.declared.cmp.Ordering.TheVariants.{Less, Equal, Greater}
use Rattle.std.specs.Map.{lookup, remove_entry, keys_of}
use Rattle.std.specs.BTreeMap.{insert_entry, is_at}
use Rattle.zs_ids.specs.Graph.{Has}
use Rattle.zs_ids.specs.declared.block.Piece.{Piece}
use Rattle.zs_ids.specs.declared.block.Item.{Item}
use Rattle.zs_ids.specs.Piece.{piece_cmp}
use Rattle.zs_queue.specs.Waiting.{is_of, waits, with_item, without}
use Rattle.zs_queue.specs.Kept.{IsKept}
use Rattle.zs_queue.specs.Order.{equal_pieces, tests_equal}
use Rattle.zs_queue.proofs.Entries.{passing-insert, has-insert, passing-remove, has-remove, length-remove, none_left}

length-insert : (cmp : Piece → Piece → Ordering) (es : List (Piece × Item)) (k : Piece) (v : Item) → length (insert_entry cmp es k v) ≤ length es + 1
length-insert cmp [] k v = omega arith
length-insert cmp (e ∷ es) k v = elim (cmp k e.0) as (λ o. length (match_ordering o ((k, v) ∷ e ∷ es) ((e.0, v) ∷ es) (e ∷ insert_entry cmp es k v)) ≤ length (e ∷ es) + 1) [
  | Less ↦ omega arith
  | Equal ↦ omega arith
  | Greater ↦ omega (arith, length-insert cmp es k v)
]

-- a count that is set at one place
tally : (counts : List ℕ) (i new : ℕ) (total : ℕ → ℕ) → i < length counts → new ≡ total i → ((w : ℕ) → w < 256 → (i == w) ≡ false → get_or counts w 0 ≡ total w)
    → (v : ℕ) → v < 256 → get_or (slice_set counts i new) v 0 ≡ total v
tally counts i new total i_in at others v v_in = elim (i == v) as (λ b. (i == v) ≡ b → get_or (slice_set counts i new) v 0 ≡ total v) [
  | true ↦ λ is. subst (λ (w : ℕ). get_or (slice_set counts i new) w 0 ≡ total w) (eqb-true i v is) (get_or-set_same counts i new 0 i_in ∙ at)
  | false ↦ λ is. get_or-set_other counts i v new 0 (λ same. let test = eq-eqb i v (sym same) in cc) ∙ others v v_in is
] refl

pub kept_empty : (counts : List ℕ) (limit : ℕ) → limit < 4294967296 → ((v : ℕ) → v < 256 → get_or counts v 0 ≡ 0) → IsKept [] counts limit
unfolding IsStrictlySortedBy
kept_empty counts limit bounded zero_each = record { ordered = tt; named = λ e has. absurd has; within = omega arith; bounded = bounded; tallied = zero_each }

pub kept_put : (es : List (Piece × Item)) (counts : List ℕ) (limit : ℕ) (item : Item) (after : List (Piece × Item)) → length counts ≡ 256 → item.piece.place.vdev < 256 → length es < limit
    → waits es item.piece ≡ false → after ≡ with_item es item → IsStrictlySortedBy piece_cmp (keys_of after) → IsKept es counts limit
    → IsKept after (slice_set counts item.piece.place.vdev (get_or counts item.piece.place.vdev 0 + 1)) limit
kept_put es counts limit item after length_is vdev_in room absent is ordered kept = record {
  ordered = ordered;
  named = λ e has. elim (has-insert piece_cmp es item.piece item e absent (subst (λ (l : List (Piece × Item)). Has l e) is has)) [
    | inl new ↦ subst (λ (x : Piece × Item). x.1.piece ≡ x.0) new refl
    | inr old ↦ kept.named e old
  ];
  within = rw is (omega (arith, length-insert piece_cmp es item.piece item));
  bounded = kept.bounded;
  tallied =
      let i = item.piece.place.vdev in
      let adds : (w : ℕ) → length (filter (is_of w) after) ≡ length (filter (is_of w) es) + cond (item.piece.place.vdev == w) 1 0 =
      λ w. ap (λ (l : List (Piece × Item)). length (filter (is_of w) l)) is ∙ passing-insert piece_cmp (is_of w) es item.piece item absent in
      tally counts item.piece.place.vdev (get_or counts item.piece.place.vdev 0 + 1) (λ w. length (filter (is_of w) after)) (rw length_is vdev_in)
      (rw (adds item.piece.place.vdev, eq-eqb item.piece.place.vdev item.piece.place.vdev refl) (ap (λ k. k + 1) (kept.tallied item.piece.place.vdev vdev_in)))
      (λ w w_in other. rw (adds w, other) (kept.tallied w w_in ∙ sym (add-zero _)));
}

-- a mirror's count, where a piece that waits goes
drops : (es : List (Piece × Item)) (piece : Piece) (after : List (Piece × Item)) → waits es piece ≡ true → after ≡ remove_entry (is_at (piece_cmp piece)) es
    → (w : ℕ) → length (filter (is_of w) after) + cond (piece.place.vdev == w) 1 0 ≡ length (filter (is_of w) es)
drops es piece after there is w =
    ap (λ (l : List (Piece × Item)). length (filter (is_of w) l) + cond (piece.place.vdev == w) 1 0) is
    ∙ passing-remove (is_at (piece_cmp piece)) (is_of w) (piece.place.vdev == w) es (λ e passes. ap (λ (p : Piece). p.place.vdev == w) (sym (equal_pieces piece e.0 (tests_equal _ passes)))) there

-- the entries without a piece that waits
pub kept_drop : (es : List (Piece × Item)) (counts : List ℕ) (limit : ℕ) (piece : Piece) (after : List (Piece × Item)) → length counts ≡ 256 → piece.place.vdev < 256
    → waits es piece ≡ true → after ≡ remove_entry (is_at (piece_cmp piece)) es → IsStrictlySortedBy piece_cmp (keys_of after) → IsKept es counts limit
    → IsKept after (slice_set counts piece.place.vdev (get_or counts piece.place.vdev 0 - 1)) limit
kept_drop es counts limit piece after length_is vdev_in there is ordered kept = record {
  ordered = ordered;
  named = λ e has. kept.named e (has-remove (is_at (piece_cmp piece)) es e (subst (λ (l : List (Piece × Item)). Has l e) is has));
  within = rw is (omega (arith, length-remove (is_at (piece_cmp piece)) es, kept.within));
  bounded = kept.bounded;
  tallied =
      let at : length (filter (is_of piece.place.vdev) after) + 1 ≡ length (filter (is_of piece.place.vdev) es) =
      ap (λ b. length (filter (is_of piece.place.vdev) after) + cond b 1 0) (sym (eq-eqb piece.place.vdev piece.place.vdev refl)) ∙ drops es piece after there is piece.place.vdev in
      tally counts piece.place.vdev (get_or counts piece.place.vdev 0 - 1) (λ w. length (filter (is_of w) after)) (rw length_is vdev_in)
      (omega (arith, at, kept.tallied piece.place.vdev vdev_in))
      (λ w w_in other. kept.tallied w w_in ∙ sym (drops es piece after there is w) ∙ ap (λ b. length (filter (is_of w) after) + cond b 1 0) other ∙ add-zero _);
}

-- a piece that waits is counted
pub counted : (es : List (Piece × Item)) (counts : List ℕ) (limit : ℕ) (piece : Piece) → piece.place.vdev < 256 → waits es piece ≡ true → IsKept es counts limit → 1 ≤ get_or counts piece.place.vdev 0
counted es counts limit piece vdev_in there kept =
    let at : length (filter (is_of piece.place.vdev) (remove_entry (is_at (piece_cmp piece)) es)) + 1 ≡ length (filter (is_of piece.place.vdev) es) =
    ap (λ b. length (filter (is_of piece.place.vdev) (remove_entry (is_at (piece_cmp piece)) es)) + cond b 1 0) (sym (eq-eqb piece.place.vdev piece.place.vdev refl)) ∙ drops es piece _ there refl piece.place.vdev in
    omega (arith, at, kept.tallied piece.place.vdev vdev_in)

-- no piece after one that is equal to `piece`, where they rise
none_after : (piece k : Piece) (ks : List Piece) → is_eq (piece_cmp piece k) ≡ true → AllByRecursion (λ q. piece_cmp k q ≡ Less) ks → AllByRecursion (λ q. is_eq (piece_cmp piece q) ≡ false) ks
none_after piece k [] equal above = tt
none_after piece k (q ∷ ks) equal above =
    let same : piece ≡ k = equal_pieces piece k (tests_equal _ equal) in
    (ap (λ (p : Piece). is_eq (piece_cmp p q)) same ∙ ap is_eq above.0, none_after piece k ks equal above.1)

-- a removal is what is left without the piece
pub remove_is : (es : List (Piece × Item)) (piece : Piece) → IsStrictlySortedBy piece_cmp (keys_of es) → remove_entry (is_at (piece_cmp piece)) es ≡ without es (piece ∷ [])
unfolding IsStrictlySortedBy
remove_is [] piece ordered = refl
remove_is (e ∷ es) piece ordered = elim (is_eq (piece_cmp piece e.0)) as (λ b. is_eq (piece_cmp piece e.0) ≡ b → cond b es (e ∷ remove_entry (is_at (piece_cmp piece)) es) ≡ cond (not (b || false)) (e ∷ without es (piece ∷ [])) (without es (piece ∷ []))) [
  | true ↦ λ equal. sym (none_left (is_at (piece_cmp piece)) es (none_after piece e.0 (keys_of es) equal ordered.0))
  | false ↦ λ _. ap (λ (l : List (Piece × Item)). e ∷ l) (remove_is es piece ordered.1)
] refl

-- a piece that does not wait takes nothing
pub absent_is : (es : List (Piece × Item)) (piece : Piece) → waits es piece ≡ false → es ≡ without es (piece ∷ [])
absent_is [] piece absent = refl
absent_is (e ∷ es) piece absent = elim (is_eq (piece_cmp piece e.0)) as (λ b. is_some (cond b (Some e.1) (lookup (is_at (piece_cmp piece)) es)) ≡ false → e ∷ es ≡ cond (not (b || false)) (e ∷ without es (piece ∷ [])) (without es (piece ∷ []))) [
  | true ↦ λ there. cc
  | false ↦ λ out. ap (λ (l : List (Piece × Item)). e ∷ l) (absent_is es piece out)
] absent

-- without one, and then without the others
pub without-cons : (es : List (Piece × Item)) (piece : Piece) (pieces : List Piece) → without (without es (piece ∷ [])) pieces ≡ without es (piece ∷ pieces)
without-cons [] piece pieces = refl
without-cons (e ∷ es) piece pieces = elim (is_eq (piece_cmp piece e.0)) as (λ b. without (cond (not (b || false)) (e ∷ without es (piece ∷ [])) (without es (piece ∷ []))) pieces
    ≡ cond (not (b || list_any (λ p. is_eq (piece_cmp p e.0)) pieces)) (e ∷ without es (piece ∷ pieces)) (without es (piece ∷ pieces))) [
      | true ↦ without-cons es piece pieces
      | false ↦ ap (λ (l : List (Piece × Item)). cond (not (list_any (λ p. is_eq (piece_cmp p e.0)) pieces)) (e ∷ l) l) (without-cons es piece pieces)
    ]

-- without none
pub without-none : (es : List (Piece × Item)) → without es [] ≡ es
without-none [] = refl
without-none (e ∷ es) = ap (λ (l : List (Piece × Item)). e ∷ l) (without-none es)

-- a mirror's count is at most that of all
pub count_few : (es : List (Piece × Item)) (counts : List ℕ) (limit vdev : ℕ) → vdev < 256 → IsKept es counts limit → get_or counts vdev 0 ≤ length es
count_few es counts limit vdev vdev_in kept = rw (kept.tallied vdev vdev_in) (rw (length-filter (is_of vdev) es) (count_by-le-length (is_of vdev) es))

-- one more of a batch goes
pub one_less : (old new after : List (Piece × Item)) (items : List Item) (i : ℕ) (d : Item) → i < length items → new ≡ without old ((get_or items i d).piece ∷ [])
    → without old (map (λ (j : Item). j.piece) (drop i items)) ≡ after → without new (map (λ (j : Item). j.piece) (drop (i + 1) items)) ≡ after
one_less old new after items i d below takes so_far =
    let x = get_or items i d in
    let tail : drop i items ≡ get_or items i d ∷ drop (i + 1) items = rw add-one (drop-cons items i d below) in
    ap (λ (l : List (Piece × Item)). without l (map (λ (j : Item). j.piece) (drop (i + 1) items))) takes
    ∙ without-cons old (get_or items i d).piece (map (λ (j : Item). j.piece) (drop (i + 1) items))
    ∙ ap (λ (l : List Item). without old (map (λ (j : Item). j.piece) l)) (sym tail) ∙ so_far

-- all of the batch went
pub all_gone : (left after : List (Piece × Item)) (items : List Item) (i : ℕ) → length items ≤ i → without left (map (λ (j : Item). j.piece) (drop i items)) ≡ after → left ≡ after
all_gone left after items i all so_far = sym (without-none left) ∙ ap (λ (l : List Item). without left (map (λ (j : Item). j.piece) l)) (sym (drop_all i items all)) ∙ so_far
