-- The entries that a verdict adds may be added: each is of a live block in scope that has none.
use Rattle.std.proofs.Common.{◌≡◌, ℕ, ◌||◌, ◌++◌, Bool, true, false, List, [], ◌∷◌, refl, sym, ◌∙◌, ap, subst, inl, inr, eqb-true}
use Rattle.std.specs.Prelude.{Option, Some, None}
use Rattle.std.proofs.lemmas.List.Folds.{list_any-append}
use Rattle.zs_ids.specs.declared.block.Piece.{Piece}
use Rattle.zs_ids.specs.declared.block.Item.{Item}
use Rattle.zs_ids.specs.Graph.{Graph, Has, pieces_of}
use Rattle.zs_ledger.specs.declared.entry.Entry.{Entry}
use Rattle.zs_ledger.specs.Entry.{HaveCopies}
use Rattle.zs_ids.specs.Piece.{is_piece}
use Rattle.zs_ledger.specs.Kept.{has_piece}
use Rattle.zs_phys.specs.declared.scope.Scope.{Scope}
use Rattle.zs_queue.specs.Lists.{has-filter}
use Rattle.zs_scan.specs.View.{Mark, ScanView, mark_of, flies_in}
use Rattle.zs_scan.specs.Kept.{IsOrderly, AreOnce}
use Rattle.zs_scan.specs.Covered.{AreLive, MayBeChecked, MayAllBeChecked}
use Rattle.zs_scan.specs.Steps.{AreOf, IsVerdict, still_flying}
use Rattle.zs_scan.proofs.Pieces.{same_both}
use Rattle.zs_scan.proofs.Judging.{piece_same, rising_once, verdict_rising}

-- the item that an entry is of
record IsOfItem (items : List Item) (e : Entry) : Type 0 where
  pub item : Item
  pub here : Has items item
  pub piece : e.piece ≡ item.piece
  pub size : e.sectors ≡ item.sectors
  pub same_sum : e.sum ≡ item.sum

of_item : (items : List Item) (entries : List Entry) (e : Entry) → AreOf items entries → Has entries e → IsOfItem items e
of_item [] [] e are h = absurd h
of_item [] (x ∷ es) e are h = absurd are
of_item (i ∷ is) [] e are h = absurd h
of_item (i ∷ is) (x ∷ es) e are h = elim h [
  | inl one ↦ subst (λ (y : Entry). IsOfItem (i ∷ is) y) one (record { item = i; here = inl refl; piece = are.0; size = are.1; same_sum = are.2 })
  | inr later ↦ let rest = of_item is es e are.3 later in record { item = rest.item; here = inr rest.here; piece = rest.piece; size = rest.size; same_sum = rest.same_sum }
]

-- an entry is not of the piece of another, where no two are of one
apart : (e f : Entry) (es : List Entry) → has_piece es e.piece ≡ false → Has es f → is_piece f.piece e.piece ≡ false
apart e f [] none h = absurd h
apart e f (x ∷ es) none h = elim h [
  | inl one ↦ subst (λ (y : Entry). is_piece (y.piece) e.piece ≡ false) one (turned x.piece (first (is_piece e.piece x.piece) (has_piece es e.piece) none))
  | inr later ↦ apart e f es (second (is_piece e.piece x.piece) (has_piece es e.piece) none) later
]
  where
    first : (a b : Bool) → (a || b) ≡ false → a ≡ false
    first true b out = cc
    first false b out = refl

    second : (a b : Bool) → (a || b) ≡ false → b ≡ false
    second true b out = cc
    second false b out = out

    turned : (q : Piece) → is_piece e.piece q ≡ false → is_piece q e.piece ≡ false
    turned q out = piece_same q e.piece ∙ same_both q e.piece ∙ sym (piece_same e.piece q) ∙ out

-- entries of different pieces, each of which may be added, may be added one after another
all_may : (g : Graph) (scope : Scope) (checked es : List Entry) → AreOnce es → ((e : Entry) → Has es e → MayBeChecked g scope checked e) → MayAllBeChecked g scope checked es
all_may g scope checked [] once each = tt
all_may g scope checked (e ∷ es) once each = (each e (inl refl), all_may g scope (checked ++ e ∷ []) es once.1 (λ f h. let may = each f (inr h) in record { block = may.block; wanted = may.wanted; unchecked = still f may.unchecked (apart e f es once.0 h); copies = may.copies }))
  where
    still : (f : Entry) → has_piece checked f.piece ≡ false → is_piece f.piece e.piece ≡ false → has_piece (checked ++ e ∷ []) f.piece ≡ false
    still f none other = list_any-append (λ (x : Entry). is_piece f.piece x.piece) checked (e ∷ []) ∙ rw (none, other) refl

-- the entries that a verdict adds may be added
pub made_may : (v now : ScanView) (number : ℕ) (entries : List Entry) → v ≡ now → IsOrderly v → IsVerdict now number entries → HaveCopies now.scope.width entries → (g : Graph) → AreLive g now → MayAllBeChecked g now.scope now.checked (still_flying now.marks number entries)
made_may v now number entries same orderly verdict have g live = all_may g now.scope now.checked (still_flying now.marks number entries) (rising_once now.marks number entries (verdict_rising now number entries kept verdict)) (λ e h. one e (has-filter (λ (x : Entry). flies_in number (mark_of now.marks x.piece)) entries e h))
  where
    kept : IsOrderly now
    kept = subst IsOrderly same orderly

    marked : (m : Option Mark) → flies_in number m ≡ true → m ≡ Some (Some number)
    marked None flew = cc
    marked (Some None) flew = cc
    marked (Some (Some c)) flew = ap (λ k. Some (Some k)) (eqb-true c number flew)

    one : (e : Entry) → Has entries e × (flies_in number (mark_of now.marks e.piece) ≡ true) → MayBeChecked g now.scope now.checked e
    one e h =
        let it = of_item (verdict.batch).items entries e verdict.of_items h.0 in
        let mark : mark_of now.marks e.piece ≡ Some (Some number) = marked (mark_of now.marks e.piece) h.1 in
        let there : mark_of now.marks (it.item).piece ≡ Some (Some (verdict.batch).number) = ap (λ (p : Piece). mark_of now.marks p) (sym it.piece) ∙ mark ∙ ap (λ k. Some (Some k)) (sym verdict.named) in
        let block = live.flying verdict.batch it.item verdict.here it.here there in
        record {
          block = record { holder = block.holder; is_dataset = block.is_dataset; at = block.at; is_entry = block.is_entry; is_piece = subst (λ (p : Piece). Has (pieces_of block.at.1) p) (sym it.piece) block.is_piece; size = it.size ∙ block.size; same_sum = it.same_sum ∙ block.same_sum };
          wanted = kept.scoped e.piece (Some number) mark;
          unchecked = kept.unchecked e.piece (Some number) mark;
          copies = have e h.0;
        }
