-- Marks and waiting pieces, looked up piece by piece.
use Rattle.std.proofs.Common.{◌≡◌, ◌||◌, Bool, true, false, not, cond, List, [], ◌∷◌, refl, sym, ◌∙◌, ap, is_some}
use Rattle.std.specs.Prelude.{Some, None}
use Rattle.std.specs.List.{list_any}
use Rattle.std.specs.Map.{lookup}
use Rattle.std.specs.BTreeMap.{is_at}
use Rattle.zs_ids.specs.declared.block.Piece.{Piece}
use Rattle.zs_ids.specs.declared.block.Item.{Item}
use Rattle.zs_ids.specs.Piece.{piece_cmp}
use Rattle.zs_queue.specs.Waiting.{waits, without}
use Rattle.zs_scan.specs.View.{Mark, is_same, mark_of, pieces_in, has_item, MarksAs}
use Rattle.zs_scan.proofs.Pieces.{same_is, same_itself}

-- where no piece has a mark, there are none
pub none_marked_at : (marks : List (Piece × Mark)) → ((q : Piece) → mark_of marks q ≡ None) → marks ≡ []
none_marked_at [] none = refl
none_marked_at (e ∷ es) none =
    let here : mark_of (e ∷ es) e.0 ≡ Some e.1 = ap (λ b. cond b (Some e.1) (mark_of es e.0)) (same_itself e.0) in
    let no_way : Some e.1 ≡ None = sym here ∙ none e.0 in cc

-- a mark that is there after one was taken away was there before, and is of another piece
pub kept_mark : (old new : List (Piece × Mark)) (piece p : Piece) (m : Mark) → MarksAs old new piece None → mark_of new p ≡ Some m → mark_of old p ≡ Some m
kept_mark old new piece p m marks is = go (is_same piece p) (sym (marks p) ∙ is)
  where
    go : (b : Bool) → cond b None (mark_of old p) ≡ Some m → mark_of old p ≡ Some m
    go true e = cc
    go false e = e

-- a piece waits without some others where it waited and is none of them
pub waits_without : (es : List (Piece × Item)) (ps : List Piece) (p : Piece) → waits (without es ps) p ≡ cond (list_any (λ x. is_same x p) ps) false (waits es p)
waits_without [] ps p = go (list_any (λ x. is_same x p) ps)
  where
    go : (b : Bool) → false ≡ cond b false false
    go true = refl
    go false = refl
waits_without (e ∷ es) ps p = at (waits_without es ps p) (is_same p e.0) (list_any (λ x. is_same x e.0) ps) refl refl
  where
    moved : is_same p e.0 ≡ true → list_any (λ x. is_same x e.0) ps ≡ list_any (λ x. is_same x p) ps
    moved same = ap (λ (q : Piece). list_any (λ x. is_same x q) ps) (sym (same_is p e.0 same))

    at : waits (without es ps) p ≡ cond (list_any (λ x. is_same x p) ps) false (waits es p) → (here gone : Bool) → is_same p e.0 ≡ here → list_any (λ x. is_same x e.0) ps ≡ gone → waits (cond (not gone) (e ∷ without es ps) (without es ps)) p ≡ cond (list_any (λ x. is_same x p) ps) false (is_some (cond here (Some e.1) (lookup (is_at (piece_cmp p)) es)))
    at rest true true same out = rest ∙ ap (λ b. cond b false (waits es p)) (sym (moved same) ∙ out) ∙ sym (ap (λ b. cond b false true) (sym (moved same) ∙ out))
    at rest true false same out = ap (λ b. is_some (cond b (Some e.1) (lookup (is_at (piece_cmp p)) (without es ps)))) same ∙ sym (ap (λ b. cond b false true) (sym (moved same) ∙ out))
    at rest false true same out = rest
    at rest false false same out = ap (λ b. is_some (cond b (Some e.1) (lookup (is_at (piece_cmp p)) (without es ps)))) same ∙ rest

-- the pieces of some items, tested item by item
pub items_any : (items : List Item) (p : Piece) → list_any (λ x. is_same x p) (pieces_in items) ≡ has_item items p
items_any [] p = refl
items_any (i ∷ is) p = ap (λ b. is_same i.piece p || b) (items_any is p)
