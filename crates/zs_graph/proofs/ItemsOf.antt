-- The items of blocks: which pieces they have, and that none stands twice where no two blocks share one.
use Rattle.std.proofs.Common.{◌≡◌, ◌≢◌, ℕ, Bool, true, false, cond, List, [], ◌∷◌, ◌++◌, map, take, refl, sym, ap, subst, ◌∙◌}
use Rattle.std.specs.Prelude.{filter, flat_map}
use Rattle.std.proofs.lemmas.List.{map-append}
use Rattle.std.specs.List.Sorted.{IsStrictlySortedBy}
use Rattle.zs_ids.specs.declared.key.Key.{Key}
use Rattle.zs_ids.specs.declared.block.Bp.{Bp}
use Rattle.zs_ids.specs.declared.block.Place.{Place}
use Rattle.zs_ids.specs.declared.block.Piece.{Piece}
use Rattle.zs_ids.specs.declared.block.Item.{Item}
use Rattle.zs_ids.specs.Blocks.{IsInKeyOrder}
use Rattle.zs_ids.specs.Graph.{Has, pieces_of}
use Rattle.zs_graph.specs.Frees.{IsPieceOf}
use Rattle.zs_graph.specs.Freeing.{item_of, items_of}
use Rattle.zs_graph.proofs.Lists.{has-map, from-map, has-left, has-right, from-append, from-filter}
use Rattle.zs_graph.proofs.KeyCases.{key_rises}
use Rattle.zs_graph.proofs.UsedPlaces.{AreOnce}
use mathlib.Core.Logic.{inl, inr}

abbrev pub pieces_in : List Item → List Piece
pieces_in items = map (λ (i : Item). i.piece) items

abbrev piece_at : Bp → Place → Piece
piece_at bp p = record { place = p; birth = bp.birth }

-- the pieces of a block's items are those of the block
pub block_pieces : (bp : Bp) → pieces_in (items_of bp) ≡ pieces_of bp
block_pieces bp = go (take bp.count bp.places)
  where
    go : (places : List Place) → pieces_in (map (item_of bp) places) ≡ map (λ (p : Place). piece_at bp p) places
    go [] = refl
    go (p ∷ ps) = ap (λ (l : List Piece). piece_at bp p ∷ l) (go ps)

-- an item of a block is one of its pieces, with its size and sum
pub from_block : (e : Key × Bp) (i : Item) → Has (items_of e.1) i → IsPieceOf e i.piece i.sectors i.sum
from_block e i h =
    let r = from-map (item_of e.1) (take e.1.count e.1.places) i h in
    record {
      is_piece = subst (λ (l : List Piece). Has l i.piece) (block_pieces e.1) (has-map (λ (x : Item). x.piece) (items_of e.1) i h);
      size = ap (λ (x : Item). x.sectors) (sym r.2);
      same_sum = ap (λ (x : Item). x.sum) (sym r.2);
    }

abbrev made : Piece → ℕ → List ℕ → Item
made piece sectors sum = record { piece = piece; sectors = sectors; sum = sum }

-- and the other way round
pub to_block : (e : Key × Bp) (i : Item) → IsPieceOf e i.piece i.sectors i.sum → Has (items_of e.1) i
to_block e i of =
    let r = from-map (λ (p : Place). piece_at e.1 p) (take e.1.count e.1.places) i.piece of.is_piece in
    let same : item_of e.1 r.0 ≡ i = ap (λ (p : Piece). made p e.1.sectors e.1.sum) r.2 ∙ ap (λ (n : ℕ). made i.piece n e.1.sum) (sym of.size) ∙ ap (λ (s : List ℕ). made i.piece i.sectors s) (sym of.same_sum) in
    subst (λ (x : Item). Has (items_of e.1) x) same (has-map (item_of e.1) (take e.1.count e.1.places) r.0 r.1)

-- what the lists of some elements have together
pub from-flat : {A B : Type 0} (f : A → List B) (xs : List A) (y : B) → Has (flat_map f xs) y → (x : A) × Has xs x × Has (f x) y
from-flat f [] y h = absurd h
from-flat f (x ∷ xs) y h = elim (from-append (f x) (flat_map f xs) y h) [
  | inl here ↦ (x, inl refl, here)
  | inr more ↦ let r = from-flat f xs y more in (r.0, inr r.1, r.2)
]

pub has-flat : {A B : Type 0} (f : A → List B) (xs : List A) (x : A) (y : B) → Has xs x → Has (f x) y → Has (flat_map f xs) y
has-flat f [] x y h i = absurd h
has-flat {A} {B} f (z ∷ xs) x y (inl is) i = has-left (f z) (flat_map f xs) y (subst (λ (w : A). Has (f w) y) (sym is) i)
has-flat f (z ∷ xs) x y (inr h) i = has-right (f z) (flat_map f xs) y (has-flat f xs x y h i)

-- two lists that share no piece
once-append : (xs ys : List Piece) → AreOnce xs → AreOnce ys → ((p : Piece) → Has xs p → Has ys p → ⊥) → AreOnce (xs ++ ys)
once-append [] ys once more apart = more
once-append (x ∷ xs) ys once more apart = (
  λ h. elim (from-append xs ys x h) [ inl own ↦ once.0 own | inr other ↦ apart x (inl refl) other ],
  once-append xs ys once.1 more (λ p h k. apart p (inr h) k),
)

-- no key stands twice
abbrev pub AreKeysOnce : List (Key × Bp) → Type 0
AreKeysOnce [] = Unit {0}
AreKeysOnce (e ∷ es) = ((f : Key × Bp) → Has es f → f.0 ≢ e.0) × AreKeysOnce es

pub keys_once : (es : List (Key × Bp)) → IsInKeyOrder es → AreKeysOnce es
unfolding IsStrictlySortedBy
keys_once [] o = tt
keys_once (e ∷ es) o = (key_rises e es o, keys_once es o.1)

pub keys_once-filter : (test : Key × Bp → Bool) (es : List (Key × Bp)) → AreKeysOnce es → AreKeysOnce (filter test es)
keys_once-filter test [] once = tt
keys_once-filter test (e ∷ es) once = go (test e) (keys_once-filter test es once.1)
  where
    go : (b : Bool) → AreKeysOnce (filter test es) → AreKeysOnce (cond b (e ∷ filter test es) (filter test es))
    go true rest = (λ f h. once.0 f (from-filter test es f h).0, rest)
    go false rest = rest

-- items that elements of different keys give: no piece stands twice, where none does within an element's own, and elements
-- that share a piece have one key
pub once-flat : (f : Key × Bp → List Item) (es : List (Key × Bp)) → AreKeysOnce es → ((e : Key × Bp) → Has es e → AreOnce (pieces_in (f e))) → ((c d : Key × Bp) (p : Piece) → Has es c → Has es d → Has (pieces_in (f c)) p → Has (pieces_in (f d)) p → c.0 ≡ d.0) → AreOnce (pieces_in (flat_map f es))
once-flat f [] keys each share = tt
once-flat f (e ∷ es) keys each share =
    subst AreOnce (sym (map-append (λ (i : Item). i.piece) (f e) (flat_map f es))) (once-append (pieces_in (f e)) (pieces_in (flat_map f es)) (each e (inl refl)) (once-flat f es keys.1 (λ d h. each d (inr h)) (λ c d p h k. share c d p (inr h) (inr k))) apart)
  where
    apart : (p : Piece) → Has (pieces_in (f e)) p → Has (pieces_in (flat_map f es)) p → ⊥
    apart p own other =
        let i = from-map (λ (x : Item). x.piece) (flat_map f es) p other in
        let r = from-flat f es i.0 i.1 in
        let there : Has (pieces_in (f r.0)) p = subst (λ (q : Piece). Has (pieces_in (f r.0)) q) i.2 (has-map (λ (x : Item). x.piece) (f r.0) i.0 r.2) in
        keys.0 r.0 r.1 (share r.0 e p (inr r.1) (inl refl) there own)
