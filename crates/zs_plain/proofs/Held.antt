-- What the lists of this crate's loops hold: live pieces, and homes.
use Rattle.std.proofs.Common.{◌≡◌, ◌<◌, ◌↔◌, ℕ, List, [], ◌∷◌, refl, sym, ap, subst, ◌∙◌, Option, Some, None, find, flat_map, nat_lt, length, get_or, take, ◌+◌}
use Rattle.std.proofs.lemmas.Bool.{and_parts, and_from, ltb-true, lt-ltb, true≢false}
use Rattle.zs_ids.specs.declared.key.Key.{Key}
use Rattle.zs_ids.specs.declared.block.Bp.{Bp}
use Rattle.zs_ids.specs.declared.block.Piece.{Piece}
use Rattle.zs_ids.specs.declared.dataset.DsId.{DsId}
use Rattle.zs_ids.specs.Graph.{Has, Dataset, Graph, IsLive, pieces_of}
use Rattle.zs_ids.specs.GraphTree.{IsHomeOf, start_of}
use Rattle.zs_graph.proofs.Lists.{has-left, has-right, from-append, from-find, none-find}
use Rattle.zs_plain.specs.Tests.{has_piece, is_own, pieces_held}
use Rattle.zs_plain.proofs.Decide.{has_piece-is}
use Rattle.zs_plain.proofs.Passed.{has_at, passed_more}
use mathlib.Core.Logic.{inl, inr}

module _ {A B : Type 0} (f : A → List B) where
  pub from-flat : (xs : List A) (y : B) → Has (flat_map f xs) y → (x : A) × Has xs x × Has (f x) y
  from-flat [] y h = absurd h
  from-flat (x ∷ xs) y h = elim (from-append (f x) (flat_map f xs) y h) [
    | inl l ↦ (x, inl refl, l)
    | inr r ↦ let s = from-flat xs y r in (s.0, inr s.1, s.2)
  ]

  pub has-flat : (xs : List A) (x : A) (y : B) → Has xs x → Has (f x) y → Has (flat_map f xs) y
  has-flat [] x y h i = absurd h
  has-flat (z ∷ xs) x y (inl e) i =
      has-left (f z) (flat_map f xs) y (subst (λ (w : A). Has (f w) y) (sym e) i)
  has-flat (z ∷ xs) x y (inr h) i = has-right (f z) (flat_map f xs) y (has-flat xs x y h i)

-- the pieces of the entries of all datasets are the live ones
pub live_is : (g : Graph) (out : List Piece) → out ≡ flat_map (λ (d : Dataset). pieces_held d.entries) g → (p : Piece) → Has out p ↔ IsLive g p
live_is g out is p = (to, from)
  where
    to : Has out p → IsLive g p
    to h =
        let d = from-flat (λ (d : Dataset). pieces_held d.entries) g p (subst (λ (l : List Piece). Has l p) is h) in
        let e = from-flat (λ (e : Key × Bp). pieces_of e.1) (d.0).entries p d.2 in
        record { holder = d.0; is_dataset = d.1; holds = record { entry = e.0; is_entry = e.1; is_piece = e.2 } }

    from : IsLive g p → Has out p
    from live =
        subst (λ (l : List Piece). Has l p) (sym is) (has-flat (λ (d : Dataset). pieces_held d.entries) g live.holder p live.is_dataset (has-flat (λ (e : Key × Bp). pieces_of e.1) (live.holder).entries live.holds.entry p live.holds.is_entry live.holds.is_piece))

-- an own entry with the piece is its home
pub own_is : (g : Graph) (d : Dataset) (p : Piece) (e : Key × Bp) → Has g d → find (is_own (start_of g d.parent) p) d.entries ≡ Some e → IsHomeOf g d.id e p
own_is g d p e here is =
    let r = from-find (is_own (start_of g d.parent) p) d.entries e is in
    let t = and_parts (nat_lt (start_of g d.parent) e.1.birth) (has_piece (pieces_of e.1) p) r.1 in
    record { holder = d; named = refl; home = record { here = here; holds = r.0; born = ltb-true (start_of g d.parent) e.1.birth t.0 }; is_piece = (has_piece-is (pieces_of e.1) p).0 t.1 }

-- where no dataset has an own entry with the piece, it has no home
pub none_own : (g : Graph) (p : Piece) → ((d : Dataset) → Has g d → find (is_own (start_of g d.parent) p) d.entries ≡ None) → (id : DsId) (e : Key × Bp) → IsHomeOf g id e p → ⊥
none_own g p none id e home =
    let h = home.home in
    let fails = none-find (is_own (start_of g (home.holder).parent) p) (home.holder).entries e (none home.holder h.here) h.holds in
    let passes = and_from (nat_lt (start_of g (home.holder).parent) e.1.birth) (has_piece (pieces_of e.1) p) (lt-ltb (start_of g (home.holder).parent) e.1.birth h.born) ((has_piece-is (pieces_of e.1) p).1 home.is_piece) in
    true≢false (sym passes ∙ fails)

-- as the loop has it
module _ (g : Graph) (i : ℕ) (x v : Dataset) (start : ℕ) (entries : List (Key × Bp)) (p : Piece) (r : Option (Key × Bp)) (within : i < length g) (is : x ≡ get_or g i x) (view : v ≡ x) (starts : start ≡ start_of g v.parent) (holds : entries ≡ v.entries) (found : r ≡ find (is_own start p) entries) where
  own : r ≡ find (is_own (start_of g x.parent) p) x.entries
  own =
      found ∙ ap (λ (n : ℕ). find (is_own n p) entries) (starts ∙ ap (λ (d : Dataset). start_of g d.parent) view) ∙ ap (λ (es : List (Key × Bp)). find (is_own (start_of g x.parent) p) es) (holds ∙ ap (λ (d : Dataset). d.entries) view)

  pub own_here : (e : Key × Bp) → r ≡ Some e → IsHomeOf g v.id e p
  own_here e some =
      subst (λ (d : Dataset). IsHomeOf g d.id e p) (sym view) (own_is g x p e (has_at g i x within is) (sym own ∙ some))

  pub own_not : r ≡ None → ((d : Dataset) → Has (take i g) d → find (is_own (start_of g d.parent) p) d.entries ≡ None) → (d : Dataset) → Has (take (i + 1) g) d → find (is_own (start_of g d.parent) p) d.entries ≡ None
  own_not none so_far =
      passed_more (λ (d : Dataset). find (is_own (start_of g d.parent) p) d.entries ≡ None) g i x within is so_far (sym own ∙ none)
