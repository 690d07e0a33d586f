-- Right after a batch was taken all of its pieces fly, so its verdict makes an entry for each.
use Rattle.std.proofs.Common.{◌≡◌, Bool, true, cond, List, [], ◌∷◌, map, refl, sym, ◌∙◌, ap, subst, inl, inr}
use Rattle.std.proofs.Math.Bool.{or-true}
use Rattle.std.proofs.lemmas.Bool.{eq-eqb}
use Rattle.std.specs.Prelude.{Option, Some}
use Rattle.zs_ids.specs.declared.block.Piece.{Piece}
use Rattle.zs_ids.specs.declared.block.Item.{Item}
use Rattle.zs_ids.specs.Graph.{Has}
use Rattle.zs_ledger.specs.declared.entry.Entry.{Entry}
use Rattle.zs_scan.specs.declared.batch.Batch.{Batch}
use Rattle.zs_scan.specs.View.{Mark, ScanView, is_same, mark_of, flies_in, pieces_in, has_item}
use Rattle.zs_scan.specs.Steps.{Taken, AreOf, still_flying}
use Rattle.zs_scan.proofs.Pieces.{same_itself}

-- an item of a list is found in it by its piece
has_self : (items : List Item) (i : Item) → Has items i → has_item items i.piece ≡ true
has_self [] i h = absurd h
has_self (x ∷ xs) i (inl is) = subst (λ (y : Item). has_item (x ∷ xs) y.piece ≡ true) is (rw (same_itself x.piece) refl)
has_self (x ∷ xs) i (inr h) = rw (has_self xs i h) (or-true (is_same x.piece i.piece))

pub all_fly : (old now : ScanView) (b : Batch) (entries : List Entry) → Taken old b now → AreOf b.items entries → still_flying now.marks b.number entries ≡ entries
all_fly old now b entries taken of_items = go b.items entries (λ i h. h) of_items
  where
    flown : (p : Piece) → has_item b.items p ≡ true → flies_in b.number (mark_of now.marks p) ≡ true
    flown p there =
        ap (λ (m : Option Mark). flies_in b.number m) (taken.marks p ∙ ap (λ (x : Bool). cond x (Some (Some b.number)) (mark_of old.marks p)) there)
        ∙ eq-eqb b.number b.number refl

    go : (items : List Item) (es : List Entry) → ((i : Item) → Has items i → Has b.items i) → AreOf items es → still_flying now.marks b.number es ≡ es
    go [] [] sub of = refl
    go [] (e ∷ es) sub of = absurd of
    go (i ∷ is) [] sub of = absurd of
    go (i ∷ is) (e ∷ es) sub of =
        let flies : flies_in b.number (mark_of now.marks e.piece) ≡ true = flown e.piece (subst (λ (p : Piece). has_item b.items p ≡ true) (sym of.0) (has_self b.items i (sub i (inl refl)))) in
        ap (λ (x : Bool). cond x (e ∷ still_flying now.marks b.number es) (still_flying now.marks b.number es)) flies
        ∙ ap (λ (l : List Entry). e ∷ l) (go is es (λ j h. sub j (inr h)) of.3)

-- entries of some items are of the items' pieces
pub of_pieces : (items : List Item) (entries : List Entry) → AreOf items entries → map (λ e. e.piece) entries ≡ pieces_in items
of_pieces [] [] of = refl
of_pieces [] (e ∷ es) of = absurd of
of_pieces (i ∷ is) [] of = absurd of
of_pieces (i ∷ is) (e ∷ es) of = ap (λ (p : Piece). p ∷ map (λ (x : Entry). x.piece) es) of.0 ∙ ap (λ (l : List Piece). i.piece ∷ l) (of_pieces is es of.3)
