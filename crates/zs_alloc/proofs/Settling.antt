-- The taken ranges settled one after another.
use Rattle.std.proofs.Common.{◌≡◌, ◌≤◌, ◌<◌, ◌+◌, ◌∙◌, ℕ, Bool, true, false, true≢false, ◌&&◌, ◌||◌, ◌==◌, cond, List, [], ◌∷◌, length, map, arith, refl, ap, sym, subst, take, get_or}
use Rattle.std.specs.Prelude.{not, nat_le}
use Rattle.std.specs.Ordering.{nat_cmp, is_eq}
use Rattle.std.proofs.lemmas.Bool.Decides.{nat_tests}
use Rattle.std.proofs.lemmas.List.Folds.{list_any_more}
use Rattle.std.proofs.Math.Bool.{or-false}
use Rattle.zs_alloc.specs.declared.taken.Taken.{Taken}
use Rattle.zs_alloc.specs.declared.taken.Freed.{Freed}
use Rattle.zs_alloc.specs.declared.taken.Freed.TheVariants.{Not, In, Settled}
use Rattle.zs_alloc.specs.declared.mirror.Freeing.{Freeing}
use Rattle.std.proofs.lemmas.List.{take_all}
use Rattle.zs_alloc.specs.Space.{MirrorView, changed, is_from, settled, settled_by, settled_all, still_taken, is_over, is_settled}
use Rattle.zs_alloc.specs.Kept.{IsListed, AreListed, AreKept, settled_if, is_due}
use Rattle.zs_alloc.proofs.Changes.{still_same}
use Rattle.zs_alloc.proofs.Listing.{any_weaker, and_first, and_second, same_number}

twice_by : (t : ℕ) (f : Freed) → settled_by t (settled_by t f) ≡ settled_by t f
twice_by t Not = refl
twice_by t (In u) = go (nat_le u t) refl
  where
    go : (b : Bool) → nat_le u t ≡ b → settled_by t (cond b Settled (In u)) ≡ cond b Settled (In u)
    go true is = refl
    go false is = ap (λ (b : Bool). cond b Settled (In u)) is
twice_by t Settled = refl

over_stays : (t pins : ℕ) (f : Freed) → (is_settled f && pins == 0) ≡ true → (is_settled (settled_by t f) && pins == 0) ≡ true
over_stays t pins Not h = absurd (true≢false (sym h))
over_stays t pins (In u) h = absurd (true≢false (sym h))
over_stays t pins Settled h = h

-- a range before others, where it is not over
abbrev put : ℕ → Taken → List (ℕ × Taken) → List (ℕ × Taken)
put first x rest = cond (not (is_over x)) ((first, x) ∷ rest) rest

abbrev made : Taken → Freed → Taken
made e f = record e { freed = f }

module _ (t k : ℕ) (p q : ℕ → Bool) (with_ : (s : ℕ) → q s ≡ (p s || is_eq (nat_cmp k s))) where
  before : ℕ × Taken → Taken
  before e = cond (p e.0) (settled t e.1) e.1

  by : (e : Taken) (b c : Bool) → cond c (settled t (cond b (settled t e) e)) (cond b (settled t e) e) ≡ cond (b || c) (settled t e) e
  by e true true = ap (λ (f : Freed). made e f) (twice_by t e.freed)
  by e true false = refl
  by e false c = refl

  over_by : (x : Taken) (c : Bool) → is_over x ≡ true → is_over (cond c (settled t x) x) ≡ true
  over_by x true h = over_stays t x.pins x.freed h
  over_by x false h = h

  pub one_more : (es : List (ℕ × Taken)) → still_taken (changed k (settled t) (settled_if p t es)) ≡ settled_if q t es
  one_more [] = refl
  one_more (e ∷ es) = go (is_over (cond (p e.0) (settled t e.1) e.1)) refl (one_more es)
    where
      then_ : cond (is_from k e) (settled t (cond (p e.0) (settled t e.1) e.1)) (cond (p e.0) (settled t e.1) e.1) ≡ cond (q e.0) (settled t e.1) e.1
      then_ = by e.1 (p e.0) (is_from k e) ∙ ap (λ (b : Bool). cond b (settled t e.1) e.1) (sym (with_ e.0))

      go : (b : Bool) → is_over (cond (p e.0) (settled t e.1) e.1) ≡ b → still_taken (changed k (settled t) (settled_if p t es)) ≡ settled_if q t es → still_taken (changed k (settled t) (cond (not b) ((e.0, cond (p e.0) (settled t e.1) e.1) ∷ settled_if p t es) (settled_if p t es))) ≡ put e.0 (cond (q e.0) (settled t e.1) e.1) (settled_if q t es)
      go true is rest =
          let over : is_over (cond (q e.0) (settled t e.1) e.1) ≡ true = ap is_over (sym then_) ∙ over_by (cond (p e.0) (settled t e.1) e.1) (is_from k e) is in
          rest ∙ sym (ap (λ (b : Bool). cond (not b) ((e.0, cond (q e.0) (settled t e.1) e.1) ∷ settled_if q t es) (settled_if q t es)) over)
      go false is rest = ap (λ (x : Taken). put e.0 x (still_taken (changed k (settled t) (settled_if p t es)))) then_ ∙ ap (λ l. put e.0 (cond (q e.0) (settled t e.1) e.1) l) rest

pub none_settled : (t : ℕ) (es : List (ℕ × Taken)) → AreKept es → settled_if (λ _. false) t es ≡ es
none_settled t es kept = ap still_taken (same es) ∙ still_same es kept
  where
    same : (es : List (ℕ × Taken)) → map (λ (e : ℕ × Taken). (e.0, e.1)) es ≡ es
    same [] = refl
    same (e ∷ es) = ap (λ (l : List (ℕ × Taken)). e ∷ l) (same es)

-- what is not due stays as it is
stays : (waiting : List Freeing) (t s : ℕ) (f : Freed) → IsListed waiting s f → is_due waiting t s ≡ false → f ≡ settled_by t f
stays waiting t s Not listed due = refl
stays waiting t s (In u) listed due = go (nat_le u t) refl
  where
    both : (a b : Bool) → a ≡ true → b ≡ true → (a && b) ≡ true
    both a b x y = rw (x, y) refl

    go : (b : Bool) → nat_le u t ≡ b → In u ≡ cond b Settled (In u)
    go true is = absurd (true≢false (sym (any_weaker (λ w. is_eq (nat_cmp w.sector s) && w.txg == u) (λ w. nat_le w.txg t && is_eq (nat_cmp w.sector s)) waiting (λ w h. both (nat_le w.txg t) (is_eq (nat_cmp w.sector s)) (ap (λ n. nat_le n t) (same_number w.txg u (and_second (is_eq (nat_cmp w.sector s)) (w.txg == u) h)) ∙ is) (and_first (is_eq (nat_cmp w.sector s)) (w.txg == u) h)) listed) ∙ due))
    go false is = refl
stays waiting t s Settled listed due = refl

pub all_settled : (waiting : List Freeing) (t : ℕ) (es : List (ℕ × Taken)) → AreListed waiting es → settled_if (is_due waiting t) t es ≡ settled_all t es
all_settled waiting t es all = ap still_taken (same es all)
  where
    one : (e : ℕ × Taken) (b : Bool) → is_due waiting t e.0 ≡ b → IsListed waiting e.0 e.1.freed → cond b (settled t e.1) e.1 ≡ settled t e.1
    one e true is listed = refl
    one e false is listed = ap (λ (f : Freed). made e.1 f) (stays waiting t e.0 e.1.freed listed is)

    same : (es : List (ℕ × Taken)) → AreListed waiting es → map {B = ℕ × Taken} (λ (e : ℕ × Taken). (e.0, cond (is_due waiting t e.0) (settled t e.1) e.1)) es ≡ map {B = ℕ × Taken} (λ (e : ℕ × Taken). (e.0, settled t e.1)) es
    same [] all = refl
    same (e ∷ es) all = ap (λ (x : Taken). (e.0, x) ∷ map {B = ℕ × Taken} (λ (y : ℕ × Taken). (y.0, cond (is_due waiting t y.0) (settled t y.1) y.1)) es) (one e (is_due waiting t e.0) refl all.0) ∙ ap (λ (l : List (ℕ × Taken)). (e.0, settled t e.1) ∷ l) (same es all.1)

-- one range more of the list, which is due or not
pub due_more : (waiting : List Freeing) (t i : ℕ) (d : Freeing) (es : List (ℕ × Taken)) → i < length waiting → nat_le (get_or waiting i d).txg t ≡ true → still_taken (changed (get_or waiting i d).sector (settled t) (settled_if (is_due (take i waiting) t) t es)) ≡ settled_if (is_due (take (i + 1) waiting) t) t es
due_more waiting t i d es lt due = one_more t (get_or waiting i d).sector (is_due (take i waiting) t) (is_due (take (i + 1) waiting) t) (λ s. list_any_more (λ (w : Freeing). nat_le w.txg t && is_eq (nat_cmp w.sector s)) waiting i d lt ∙ ap (λ (b : Bool). is_due (take i waiting) t s || (b && is_eq (nat_cmp (get_or waiting i d).sector s))) due) es

pub due_not : (waiting : List Freeing) (t i : ℕ) (d : Freeing) (es : List (ℕ × Taken)) → i < length waiting → nat_le (get_or waiting i d).txg t ≡ false → settled_if (is_due (take i waiting) t) t es ≡ settled_if (is_due (take (i + 1) waiting) t) t es
due_not waiting t i d es lt due =
    let same : (s : ℕ) → is_due (take i waiting) t s ≡ is_due (take (i + 1) waiting) t s = λ s. sym (list_any_more (λ (w : Freeing). nat_le w.txg t && is_eq (nat_cmp w.sector s)) waiting i d lt ∙ ap (λ (b : Bool). is_due (take i waiting) t s || (b && is_eq (nat_cmp (get_or waiting i d).sector s))) due ∙ or-false (is_due (take i waiting) t s)) in
    λ j. settled_if (λ s. same s j) t es

abbrev with_list : MirrorView → List (ℕ × Taken) → MirrorView
with_list m l = record m { taken = l }

abbrev settled_from : MirrorView → ℕ → ℕ → MirrorView
settled_from m k t = record m { taken = still_taken (changed k (settled t) m.taken) }

pub step_due : (m now next : MirrorView) (waiting : List Freeing) (t i : ℕ) (d : Freeing) → now ≡ record m { taken = settled_if (is_due (take i waiting) t) t m.taken } → next ≡ record now { taken = still_taken (changed (get_or waiting i d).sector (settled t) now.taken) } → i < length waiting → (get_or waiting i d).txg ≤ t → next ≡ record m { taken = settled_if (is_due (take (i + 1) waiting) t) t m.taken }
step_due m now next waiting t i d is then_ lt due = then_ ∙ ap (λ x. settled_from x (get_or waiting i d).sector t) is ∙ ap (λ l. with_list m l) (due_more waiting t i d m.taken lt (at_most (get_or waiting i d).txg t due))
  where
    at_most : (a b : ℕ) → a ≤ b → nat_le a b ≡ true
    at_most a b h = grind (arith, nat_tests)

pub step_not : (m now : MirrorView) (waiting : List Freeing) (t i : ℕ) (d : Freeing) → now ≡ record m { taken = settled_if (is_due (take i waiting) t) t m.taken } → i < length waiting → t < (get_or waiting i d).txg → now ≡ record m { taken = settled_if (is_due (take (i + 1) waiting) t) t m.taken }
step_not m now waiting t i d is lt due = is ∙ ap (λ l. with_list m l) (due_not waiting t i d m.taken lt (over (get_or waiting i d).txg t due))
  where
    over : (a b : ℕ) → b < a → nat_le a b ≡ false
    over a b h = grind (arith, nat_tests)

pub start_is : (m : MirrorView) (t : ℕ) → AreKept m.taken → m ≡ record m { taken = settled_if (λ _. false) t m.taken }
start_is m t kept = ap (λ l. with_list m l) (sym (none_settled t m.taken kept))

pub end_is : (m now : MirrorView) (waiting : List Freeing) (t i : ℕ) → length waiting ≤ i → now ≡ record m { taken = settled_if (is_due (take i waiting) t) t m.taken } → now ≡ record m { taken = settled_if (is_due waiting t) t m.taken }
end_is m now waiting t i le is = subst (λ w. now ≡ record m { taken = settled_if (is_due w t) t m.taken }) (take_all i waiting le) is

pub settle_is : (m now : MirrorView) (waiting : List Freeing) (t : ℕ) → AreListed waiting m.taken → now ≡ record m { taken = settled_if (is_due waiting t) t m.taken } → now ≡ record m { taken = settled_all t m.taken }
settle_is m now waiting t listed is = is ∙ ap (λ l. with_list m l) (all_settled waiting t m.taken listed)
