-- Tests that decide facts: on numbers, ids, pieces and lists.
use Rattle.std.proofs.Common.{◌≡◌, ◌≤◌, ℕ, Bool, true, false, not, ◌||◌, ◌&&◌, List, [], ◌∷◌, refl, sym, ap, subst, ◌∙◌}
use Rattle.std.specs.Prelude.{nat_le, ◌==◌}
use Rattle.std.specs.Bool.{Decides}
use Rattle.std.specs.List.{list_any, list_all}
use Rattle.std.proofs.lemmas.Bool.{true≢false, or_cases, or_left, or_right, and_parts, and_from, leb-true, le-leb, eqb-true, eq-eqb}
use Rattle.zs_ids.specs.declared.block.Place.{Place}
use Rattle.zs_ids.specs.declared.block.Piece.{Piece}
use Rattle.zs_ids.specs.declared.dataset.DsId.{DsId}
use Rattle.zs_ids.specs.Graph.{Has}
use Rattle.zs_ids.specs.GraphTree.{is_id}
use Rattle.zs_graph.proofs.Graphs.{id_is, is_id-same}
use Rattle.zs_ids.specs.Piece.{is_piece}
use Rattle.zs_plain.specs.Tests.{has_id, has_piece}
use mathlib.Core.Logic.{inl, inr}

-- a test that decides a fact decides an equal one
pub like : {P Q : Type 0} (r : Bool) → Decides r P → (P → Q) → (Q → P) → Decides r Q
like r d to from = (λ e. to (d.0 e), λ q. d.1 (from q))

-- a test decides that it is true
pub itself : (r : Bool) → Decides r (r ≡ true)
itself r = (λ e. e, λ e. e)

pub implies : {P Q : Type 0} (a b : Bool) → Decides a P → Decides b Q → Decides (not a || b) (P → Q)
implies true b p q = (λ e h. q.0 e, λ f. q.1 (f (p.0 refl)))
implies false b p q = (λ e h. absurd (true≢false (sym (p.1 h))), λ f. refl)

pub at_most : (a b : ℕ) → Decides (nat_le a b) (a ≤ b)
at_most a b = (leb-true a b, le-leb a b)

module _ {A : Type 0} (f : A → Bool) (P : A → Type 0) (each : (x : A) → Decides (f x) (P x)) where
  any-has : (xs : List A) → list_any f xs ≡ true → (x : A) × Has xs x × P x
  any-has [] e = absurd (true≢false (sym e))
  any-has (x ∷ xs) e = elim (or_cases (f x) (list_any f xs) e) [
    | inl a ↦ (x, inl refl, (each x).0 a)
    | inr r ↦ let h = any-has xs r in (h.0, inr h.1, h.2)
  ]

  has-any : (xs : List A) (x : A) → Has xs x → P x → list_any f xs ≡ true
  has-any [] x h p = absurd h
  has-any (y ∷ ys) x (inl e) p = or_left (f y) (list_any f ys) ((each y).1 (subst P (sym e) p))
  has-any (y ∷ ys) x (inr h) p = or_right (f y) (list_any f ys) (has-any ys x h p)

  -- some element passes
  pub some-of : (xs : List A) → Decides (list_any f xs) ((x : A) × Has xs x × P x)
  some-of xs = (any-has xs, λ h. has-any xs h.0 h.1 h.2)

  all-each : (xs : List A) → list_all f xs ≡ true → (x : A) → Has xs x → P x
  all-each [] e x h = absurd h
  all-each (y ∷ ys) e x (inl s) = subst P s ((each y).0 (and_parts (f y) (list_all f ys) e).0)
  all-each (y ∷ ys) e x (inr h) = all-each ys (and_parts (f y) (list_all f ys) e).1 x h

  each-all : (xs : List A) → ((x : A) → Has xs x → P x) → list_all f xs ≡ true
  each-all [] h = refl
  each-all (y ∷ ys) h = and_from (f y) (list_all f ys) ((each y).1 (h y (inl refl))) (each-all ys (λ x i. h x (inr i)))

  -- each element passes
  pub each-of : (xs : List A) → Decides (list_all f xs) ((x : A) → Has xs x → P x)
  each-of xs = (all-each xs, each-all xs)

-- a list has what some element of it is
pub has-of : {A : Type 0} (f : A → Bool) (a : A) → ((x : A) → Decides (f x) (x ≡ a)) → (xs : List A) → Decides (list_any f xs) (Has xs a)
has-of {A} f a each xs =
    like (list_any f xs) (some-of f (λ (x : A). x ≡ a) each xs) (λ h. subst (λ (x : A). Has xs x) h.2 h.1) (λ h. (a, h, refl))

pub same_id : (a b : DsId) → Decides (is_id a b) (a ≡ b)
same_id a b = (id_is a b, is_id-same a b)

pub has_id-is : (ids : List DsId) (id : DsId) → Decides (has_id ids id) (Has ids id)
has_id-is ids id = has-of (λ (x : DsId). is_id x id) id (λ x. same_id x id) ids

abbrev place : ℕ → ℕ → Place
place vdev sector = record { vdev = vdev; sector = sector }

abbrev piece : Place → ℕ → Piece
piece at birth = record { place = at; birth = birth }

pub same_piece : (p q : Piece) → Decides (is_piece p q) (p ≡ q)
same_piece p q = (is, from)
  where
    is : is_piece p q ≡ true → p ≡ q
    is e =
        let parts = and_parts (p.place.vdev == q.place.vdev) (p.place.sector == q.place.sector && p.birth == q.birth) e in
        let rest = and_parts (p.place.sector == q.place.sector) (p.birth == q.birth) parts.1 in
        let v = eqb-true p.place.vdev q.place.vdev parts.0 in
        let s = eqb-true p.place.sector q.place.sector rest.0 in
        let b = eqb-true p.birth q.birth rest.1 in
        ap (λ (n : ℕ). piece (place n p.place.sector) p.birth) v ∙ ap (λ (n : ℕ). piece (place q.place.vdev n) p.birth) s ∙ ap (λ (n : ℕ). piece q.place n) b

    from : p ≡ q → is_piece p q ≡ true
    from e =
        and_from (p.place.vdev == q.place.vdev) (p.place.sector == q.place.sector && p.birth == q.birth) (eq-eqb p.place.vdev q.place.vdev (ap (λ (x : Piece). x.place.vdev) e))
        (and_from (p.place.sector == q.place.sector) (p.birth == q.birth) (eq-eqb p.place.sector q.place.sector (ap (λ (x : Piece). x.place.sector) e)) (eq-eqb p.birth q.birth (ap (λ (x : Piece). x.birth) e)))

pub has_piece-is : (ps : List Piece) (p : Piece) → Decides (has_piece ps p) (Has ps p)
has_piece-is ps p = has-of (λ (q : Piece). is_piece q p) p (λ q. same_piece q p) ps
