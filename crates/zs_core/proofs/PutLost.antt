-- What a scan loses by one change of the datasets after another.
use Rattle.std.specs.Prelude.{◌≡◌, ◌⊎◌, ◌||◌, ℕ, Bool, true, false, not, cond, List, [], ◌∷◌, ◌++◌, Option, None, refl}
use Rattle.std.proofs.Common.{sym, ◌∙◌, ap, subst, inl, inr}
use Rattle.std.proofs.Math.Bool.{or-true}
use Rattle.std.proofs.lemmas.Bool.{true≢false}
use Rattle.zs_ids.specs.declared.block.Item.{Item}
use Rattle.zs_ids.specs.declared.block.Piece.{Piece}
use Rattle.zs_ids.specs.Graph.{Graph, Has, IsLive, IsOfBlock}
use Rattle.zs_ids.specs.GraphChange.{AreFreed}
use Rattle.zs_queue.specs.Waiting.{without}
use Rattle.zs_graph.proofs.Lists.{from-map}
use Rattle.zs_scan.specs.View.{Mark, ScanView, is_same, mark_of, has_item, pieces_in}
use Rattle.zs_scan.proofs.Pieces.{same_is, same_itself}
use Rattle.zs_core.specs.Freeing.{is_one_of, AreGone, FreesAll, HasLost}

-- what the test finds is in the list, and the other way round
pub has_one : (ps : List Piece) (p : Piece) → is_one_of ps p ≡ true → Has ps p
has_one [] p is = absurd (true≢false (sym is))
has_one (q ∷ ps) p is = go (is_same q p) refl is (λ r. has_one ps p r)
  where
    go : (b : Bool) → is_same q p ≡ b → (b || is_one_of ps p) ≡ true → (is_one_of ps p ≡ true → Has ps p) → Has (q ∷ ps) p
    go true same h rest = inl (same_is q p same)
    go false apart h rest = inr (rest h)

pub is_one : (ps : List Piece) (p : Piece) → Has ps p → is_one_of ps p ≡ true
is_one [] p h = absurd h
is_one (q ∷ ps) p (inl is) = ap (λ b. b || is_one_of ps p) (subst (λ (x : Piece). is_same q x ≡ true) is (same_itself q))
is_one (q ∷ ps) p (inr h) = ap (λ b. is_same q p || b) (is_one ps p h) ∙ or-true (is_same q p)

-- a piece of two lists is one of the first or of the second
one_of_both : (ps qs : List Piece) (p : Piece) → is_one_of (ps ++ qs) p ≡ (is_one_of ps p || is_one_of qs p)
one_of_both [] qs p = refl
one_of_both (x ∷ xs) qs p = go (is_same x p) (one_of_both xs qs p)
  where
    go : (b : Bool) → is_one_of (xs ++ qs) p ≡ (is_one_of xs p || is_one_of qs p) → (b || is_one_of (xs ++ qs) p) ≡ ((b || is_one_of xs p) || is_one_of qs p)
    go true rest = refl
    go false rest = rest

one_left : (ps qs : List Piece) (p : Piece) → is_one_of ps p ≡ true → is_one_of (ps ++ qs) p ≡ true
one_left ps qs p is = one_of_both ps qs p ∙ ap (λ b. b || is_one_of qs p) is

one_right : (ps qs : List Piece) (p : Piece) → is_one_of qs p ≡ true → is_one_of (ps ++ qs) p ≡ true
one_right ps qs p is = one_of_both ps qs p ∙ ap (λ b. is_one_of ps p || b) is ∙ or-true (is_one_of ps p)

from_both : (ps qs : List Piece) (p : Piece) → is_one_of (ps ++ qs) p ≡ true → (is_one_of ps p ≡ true) ⊎ (is_one_of qs p ≡ true)
from_both ps qs p is = go (is_one_of ps p) refl (sym (one_of_both ps qs p) ∙ is)
  where
    go : (b : Bool) → is_one_of ps p ≡ b → (b || is_one_of qs p) ≡ true → (is_one_of ps p ≡ true) ⊎ (is_one_of qs p ≡ true)
    go true one h = inl one
    go false other h = inr h

-- the test on items is that on their pieces
pub items_one : (items : List Item) (p : Piece) → has_item items p ≡ is_one_of (pieces_in items) p
items_one [] p = refl
items_one (i ∷ is) p = ap (λ b. is_same i.piece p || b) (items_one is p)

-- without some pieces, and then without others
without_both : (l : List (Piece × Item)) (ps qs : List Piece) → without (without l ps) qs ≡ without l (ps ++ qs)
without_both [] ps qs = refl
without_both (e ∷ es) ps qs = go (is_one_of ps e.0) (is_one_of qs e.0) (is_one_of (ps ++ qs) e.0) (one_of_both ps qs e.0) refl (without_both es ps qs)
  where
    go : (a b c : Bool) → c ≡ (a || b) → is_one_of qs e.0 ≡ b → without (without es ps) qs ≡ without es (ps ++ qs) → without (cond (not a) (e ∷ without es ps) (without es ps)) qs ≡ cond (not c) (e ∷ without es (ps ++ qs)) (without es (ps ++ qs))
    go true b c is q rest = rest ∙ sym (ap (λ (x : Bool). cond (not x) (e ∷ without es (ps ++ qs)) (without es (ps ++ qs))) is)
    go false b c is q rest =
        ap (λ (x : Bool). cond (not x) (e ∷ without (without es ps) qs) (without (without es ps) qs)) q
        ∙ ap (λ (l : List (Piece × Item)). cond (not b) (e ∷ l) l) rest
        ∙ sym (ap (λ (x : Bool). cond (not x) (e ∷ without es (ps ++ qs)) (without es (ps ++ qs))) is)

without_none : (l : List (Piece × Item)) → l ≡ without l []
without_none [] = refl
without_none (e ∷ es) = ap (λ (l : List (Piece × Item)). e ∷ l) (without_none es)

-- nothing was freed yet
pub frees_none : (v : ScanView) → FreesAll [] v v
frees_none v = record { rest = ap (λ (l : List (Piece × Item)). record v { waiting = l }) (without_none v.waiting); marks = λ q. refl }

marks_both : (a b : Bool) (m : Option Mark) → cond b None (cond a None m) ≡ cond (a || b) None m
marks_both true true m = refl
marks_both true false m = refl
marks_both false true m = refl
marks_both false false m = refl

-- some pieces were freed, and then others
pub frees_both : (ps qs : List Piece) (u v w : ScanView) → FreesAll ps u v → FreesAll qs v w → FreesAll (ps ++ qs) u w
frees_both ps qs u v w first second = record {
  rest =
      second.rest
      ∙ ap (λ (x : ScanView). record x { waiting = without x.waiting qs; marks = w.marks; room = w.room }) first.rest
      ∙ ap (λ (l : List (Piece × Item)). record u { waiting = l; marks = w.marks; room = w.room }) (without_both u.waiting ps qs);
  marks = λ q.
      second.marks q
      ∙ ap (λ (m : Option Mark). cond (is_one_of qs q) None m) (first.marks q)
      ∙ marks_both (is_one_of ps q) (is_one_of qs q) (mark_of u.marks q)
      ∙ sym (ap (λ (b : Bool). cond b None (mark_of u.marks q)) (one_of_both ps qs q));
}

-- the pieces were live and are not any more; each other one that was live is live still
pub record HaveLeft (pieces : List Piece) (old new : Graph) : Type 0 where
  pub gone : (p : Piece) → is_one_of pieces p ≡ true → IsLive old p × (IsLive new p → ⊥)
  pub rest : (p : Piece) → IsLive old p → (is_one_of pieces p ≡ true) ⊎ IsLive new p

pub left_none : (g : Graph) → HaveLeft [] g g
left_none g = record { gone = λ p one. absurd (true≢false (sym one)); rest = λ p live. inr live }

pub are_gone : (pieces : List Piece) (old new : Graph) → HaveLeft pieces old new → AreGone pieces old new
are_gone pieces old new left = record {
  gone = left.gone;
  all = λ p live dead. elim (left.rest p live) [ inl one ↦ one | inr still ↦ absurd (dead still) ];
}

pub block_live : (g : Graph) (p : Piece) (sectors : ℕ) (sum : List ℕ) → IsOfBlock g p sectors sum → IsLive g p
block_live g p sectors sum b = record { holder = b.holder; is_dataset = b.is_dataset; holds = record { entry = b.at; is_entry = b.is_entry; is_piece = b.is_piece } }

-- after some pieces others left, where none of the first came back and all of the others had been live from the start
pub left_both : (ps : List Piece) (items : List Item) (old mid new : Graph) → HaveLeft ps old mid → AreFreed mid new items → ((p : Piece) → IsLive old p → IsLive new p → IsLive mid p) → ((p : Piece) → IsLive mid p → (IsLive new p → ⊥) → IsLive old p) → HaveLeft (ps ++ pieces_in items) old new
left_both ps items old mid new left freed back before = record { gone = gone; rest = rest }
  where
    later : (p : Piece) → is_one_of (pieces_in items) p ≡ true → IsLive old p × (IsLive new p → ⊥)
    later p one =
        let r = from-map (λ (i : Item). i.piece) items p (has_one (pieces_in items) p one) in
        let dead : IsLive new p → ⊥ = subst (λ (q : Piece). IsLive new q → ⊥) r.2 (freed.is_gone r.0 r.1) in
        let live : IsLive mid p = subst (λ (q : Piece). IsLive mid q) r.2 (block_live mid (r.0).piece (r.0).sectors (r.0).sum (freed.was_live r.0 r.1)) in
        (before p live dead, dead)

    gone : (p : Piece) → is_one_of (ps ++ pieces_in items) p ≡ true → IsLive old p × (IsLive new p → ⊥)
    gone p one = elim (from_both ps (pieces_in items) p one) [
      | inl first ↦ (let l = left.gone p first in (l.0, λ live. l.1 (back p l.0 live)))
      | inr second ↦ later p second
    ]

    still : (p : Piece) → IsLive mid p → (is_one_of (ps ++ pieces_in items) p ≡ true) ⊎ IsLive new p
    still p live =
        let e = (live.holds).entry in
        elim (freed.rest p e.1.sectors e.1.sum (record { holder = live.holder; is_dataset = live.is_dataset; at = e; is_entry = (live.holds).is_entry; is_piece = (live.holds).is_piece; size = refl; same_sum = refl })) [
          | inl one ↦ inl (one_right ps (pieces_in items) p (is_one (pieces_in items) p one))
          | inr block ↦ inr (block_live new p e.1.sectors e.1.sum block)
        ]

    rest : (p : Piece) → IsLive old p → (is_one_of (ps ++ pieces_in items) p ≡ true) ⊎ IsLive new p
    rest p live = elim (left.rest p live) [ inl one ↦ inl (one_left ps (pieces_in items) p one) | inr is ↦ still p is ]

-- what one change frees is lost at once
pub lost_at_once : (old new : Graph) (items : List Item) (before after : ScanView) → AreFreed old new items
    → after ≡ record before { waiting = without before.waiting (pieces_in items); marks = after.marks; room = after.room }
    → ((q : Piece) → mark_of after.marks q ≡ cond (has_item items q) None (mark_of before.marks q)) → HasLost old new before after
lost_at_once old new items before after freed rest marks = record {
  pieces = pieces_in items;
  gone = are_gone (pieces_in items) old new (left_both [] items old old new (left_none old) freed (λ p live still. live) (λ p live dead. live));
  freed = record { rest = rest; marks = λ q. marks q ∙ ap (λ (b : Bool). cond b None (mark_of before.marks q)) (items_one items q) };
}
