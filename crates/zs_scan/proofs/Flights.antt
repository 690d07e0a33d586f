-- What it leaves of the marks that the pieces of a batch fly, or that some are freed.
use Rattle.std.proofs.Common.{◌≡◌, ℕ, ◌<◌, ◌||◌, ◌++◌, Bool, true, false, cond, List, [], ◌∷◌, take, length, refl, sym, ◌∙◌, ap, get_or}
use Rattle.std.specs.Prelude.{Option, Some, None}
use Rattle.std.proofs.lemmas.List.Folds.{list_any-append}
use Rattle.zs_ids.specs.declared.block.Piece.{Piece}
use Rattle.zs_ids.specs.declared.block.Item.{Item}
use Rattle.std.specs.List.Sorted.{IsStrictlySortedBy}
use Rattle.zs_ids.specs.Piece.{piece_cmp}
use Rattle.zs_scan.specs.View.{Mark, is_same, mark_of, has_item, pieces_in, MarksAs}
use Rattle.zs_scan.proofs.Pieces.{rising_apart, among_all}

-- the marks are as they were, but that the pieces of these items have this one
abbrev pub HaveMark : List (Piece × Mark) → List (Piece × Mark) → Option Mark → List Item → Type 0
HaveMark old new mark items = (q : Piece) → mark_of new q ≡ cond (has_item items q) mark (mark_of old q)

-- the marks are as they were, but that the pieces of these items fly in the batch
abbrev pub HaveFlown : List (Piece × Mark) → List (Piece × Mark) → ℕ → List Item → Type 0
HaveFlown old new number items = HaveMark old new (Some (Some number)) items

after_one : {A : Type 0} (h s : Bool) (x y : A) → cond s x (cond h x y) ≡ cond (h || (s || false)) x y
after_one true true x y = refl
after_one true false x y = refl
after_one false true x y = refl
after_one false false x y = refl

pub mark_next : (old now new : List (Piece × Mark)) (mark : Option Mark) (items : List Item) (i : Item) → HaveMark old now mark items → MarksAs now new i.piece mark → HaveMark old new mark (items ++ i ∷ [])
mark_next old now new mark items i so_far step q =
    step q ∙ ap (λ m. cond (is_same i.piece q) mark m) (so_far q) ∙ after_one (has_item items q) (is_same i.piece q) mark (mark_of old q)
    ∙ ap (λ b. cond b mark (mark_of old q)) (sym (list_any-append (λ (x : Item). is_same x.piece q) items (i ∷ [])))

pub fly_marks : (old now new : List (Piece × Mark)) (number : ℕ) (items : List Item) (i : Item) → HaveFlown old now number items → MarksAs now new i.piece (Some (Some number)) → HaveFlown old new number (items ++ i ∷ [])
fly_marks old now new number items i so_far step = mark_next old now new (Some (Some number)) items i so_far step

-- the next item still waits
pub waits_still : (old now : List (Piece × Mark)) (number : ℕ) (items : List Item) (i : ℕ) (d : Item) → HaveFlown old now number (take i items) → IsStrictlySortedBy piece_cmp (pieces_in items)
    → ((q : Piece) → has_item items q ≡ true → mark_of old q ≡ Some None) → i < length items → mark_of now (get_or items i d).piece ≡ Some None
waits_still old now number items i d so_far rising wait below =
    so_far (get_or items i d).piece ∙ ap (λ b. cond b (Some (Some number)) (mark_of old (get_or items i d).piece)) (rising_apart (λ (x : Item). x.piece) items i d rising below)
    ∙ wait (get_or items i d).piece (among_all (λ (x : Item). x.piece) items i d below)
