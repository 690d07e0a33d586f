-- What waits to be settled is in the list, whatever a call does.
use Rattle.std.proofs.Common.{◌≡◌, ◌∙◌, ℕ, Bool, true, false, true≢false, ◌&&◌, ◌||◌, ◌==◌, cond, List, [], ◌∷◌, ◌++◌, map, filter, arith, refl, ap, sym}
use Rattle.std.specs.Prelude.{not, nat_le, nat_lt}
use Rattle.std.specs.List.{list_any}
use Rattle.std.specs.Ordering.{nat_cmp, is_eq, match_ordering}
use Rattle.std.specs.declared.cmp.Ordering.{Ordering}
use Rattle.std.specs.declared.cmp.Ordering.TheVariants.{Less, Equal, Greater}
use Rattle.std.proofs.lemmas.Bool.Decides.{nat_tests}
use Rattle.std.proofs.lemmas.List.Folds.{list_any-append}
use Rattle.std.proofs.Math.Bool.{or-true}
use Rattle.zs_alloc.specs.declared.taken.Taken.{Taken}
use Rattle.zs_alloc.specs.declared.taken.Freed.{Freed}
use Rattle.zs_alloc.specs.declared.taken.Freed.TheVariants.{Not, In, Settled}
use Rattle.zs_alloc.specs.declared.mirror.Freeing.{Freeing}
use Rattle.zs_alloc.specs.Space.{with_range, without_range, fresh, changed, is_from, freed_in, settled, settled_by, settled_all, still_taken, is_over}
use Rattle.zs_alloc.specs.Kept.{IsListed, AreListed}

fresh_step : (waiting : List Freeing) (k n : ℕ) (e : ℕ × Taken) (es : List (ℕ × Taken)) (r : Ordering) → AreListed waiting (e ∷ es) → AreListed waiting (with_range es k (fresh n)) → AreListed waiting (match_ordering r ((k, fresh n) ∷ e ∷ es) ((e.0, fresh n) ∷ es) (e ∷ with_range es k (fresh n)))
fresh_step waiting k n e es Less all ih = (tt, all)
fresh_step waiting k n e es Equal all ih = (tt, all.1)
fresh_step waiting k n e es Greater all ih = (all.0, ih)

pub listed_fresh : (waiting : List Freeing) (es : List (ℕ × Taken)) (k n : ℕ) → AreListed waiting es → AreListed waiting (with_range es k (fresh n))
listed_fresh waiting [] k n all = (tt, tt)
listed_fresh waiting (e ∷ es) k n all = fresh_step waiting k n e es (nat_cmp k e.0) all (listed_fresh waiting es k n all.1)

without_step : (waiting : List Freeing) (k : ℕ) (e : ℕ × Taken) (es : List (ℕ × Taken)) (b : Bool) → AreListed waiting (e ∷ es) → AreListed waiting (without_range es k) → AreListed waiting (cond b es (e ∷ without_range es k))
without_step waiting k e es true all ih = all.1
without_step waiting k e es false all ih = (all.0, ih)

pub listed_without : (waiting : List Freeing) (es : List (ℕ × Taken)) (k : ℕ) → AreListed waiting es → AreListed waiting (without_range es k)
listed_without waiting [] k all = tt
listed_without waiting (e ∷ es) k all = without_step waiting k e es (is_eq (nat_cmp k e.0)) all (listed_without waiting es k all.1)

pub listed_changed : (waiting : List Freeing) (es : List (ℕ × Taken)) (k : ℕ) (f : Taken → Taken) → ((e : Taken) → (f e).freed ≡ e.freed) → AreListed waiting es → AreListed waiting (changed k f es)
listed_changed waiting [] k f same all = tt
listed_changed waiting (e ∷ es) k f same all = (listed (is_from k e), listed_changed waiting es k f same all.1)
  where
    listed : (b : Bool) → IsListed waiting e.0 (cond b (f e.1) e.1).freed
    listed true = rw (same e.1) all.0
    listed false = all.0

pub listed_still : (waiting : List Freeing) (es : List (ℕ × Taken)) → AreListed waiting es → AreListed waiting (still_taken es)
listed_still waiting [] all = tt
listed_still waiting (e ∷ es) all = kept (is_over e.1) (listed_still waiting es all.1)
  where
    kept : (b : Bool) → AreListed waiting (still_taken es) → AreListed waiting (cond (not b) (e ∷ still_taken es) (still_taken es))
    kept true rest = rest
    kept false rest = (all.0, rest)

more : (waiting : List Freeing) (w : Freeing) (s : ℕ) (f : Freed) → IsListed waiting s f → IsListed (waiting ++ w ∷ []) s f
more waiting w s Not h = tt
more waiting w s (In t) h = list_any-append (λ (x : Freeing). is_eq (nat_cmp x.sector s) && x.txg == t) waiting (w ∷ []) ∙ ap (λ (b : Bool). b || list_any (λ (x : Freeing). is_eq (nat_cmp x.sector s) && x.txg == t) (w ∷ [])) h
more waiting w s Settled h = tt

same_txg : (t : ℕ) → (t == t) ≡ true
same_txg t = grind (arith, nat_tests)

pub listed_freed : (waiting : List Freeing) (es : List (ℕ × Taken)) (k t : ℕ) → AreListed waiting es → AreListed (waiting ++ record { txg = t; sector = k } ∷ []) (changed k (freed_in t) es)
listed_freed waiting [] k t all = tt
listed_freed waiting (e ∷ es) k t all = (listed (is_from k e) refl, listed_freed waiting es k t all.1)
  where
    listed : (b : Bool) → is_from k e ≡ b → IsListed (waiting ++ record { txg = t; sector = k } ∷ []) e.0 (cond b (freed_in t e.1) e.1).freed
    listed true is =
        let last : (is_eq (nat_cmp k e.0) && t == t) ≡ true = rw (is, same_txg t) refl in
        list_any-append (λ (x : Freeing). is_eq (nat_cmp x.sector e.0) && x.txg == t) waiting (record { txg = t; sector = k } ∷ [])
        ∙ ap (λ (b : Bool). list_any (λ (x : Freeing). is_eq (nat_cmp x.sector e.0) && x.txg == t) waiting || (b || false)) last
        ∙ or-true (list_any (λ (x : Freeing). is_eq (nat_cmp x.sector e.0) && x.txg == t) waiting)
    listed false is = more waiting (record { txg = t; sector = k }) e.0 e.1.freed all.0

-- a test that is found among those that pass another
any_among : (p q : Freeing → Bool) (ws : List Freeing) → ((w : Freeing) → p w ≡ true → q w ≡ true) → list_any p ws ≡ true → list_any p (filter q ws) ≡ true
any_among p q [] up h = h
any_among p q (w ∷ ws) up h = go (p w) refl (q w) refl h (any_among p q ws up)
  where
    go : (b : Bool) → p w ≡ b → (c : Bool) → q w ≡ c → (b || list_any p ws) ≡ true → (list_any p ws ≡ true → list_any p (filter q ws) ≡ true) → list_any p (cond c (w ∷ filter q ws) (filter q ws)) ≡ true
    go true is true at h rest = ap (λ (b : Bool). b || list_any p (filter q ws)) is
    go true is false at h rest = absurd (true≢false (sym (up w is) ∙ at))
    go false is true at h rest = ap (λ (b : Bool). b || list_any p (filter q ws)) is ∙ rest h
    go false is false at h rest = rest h

pub any_weaker : (p q : Freeing → Bool) (ws : List Freeing) → ((w : Freeing) → p w ≡ true → q w ≡ true) → list_any p ws ≡ true → list_any q ws ≡ true
any_weaker p q [] up h = h
any_weaker p q (w ∷ ws) up h = go (p w) refl h (any_weaker p q ws up)
  where
    go : (b : Bool) → p w ≡ b → (b || list_any p ws) ≡ true → (list_any p ws ≡ true → list_any q ws ≡ true) → (q w || list_any q ws) ≡ true
    go true is h rest = ap (λ (b : Bool). b || list_any q ws) (up w is)
    go false is h rest = ap (λ (b : Bool). q w || b) (rest h) ∙ or-true (q w)

pub and_second : (a b : Bool) → (a && b) ≡ true → b ≡ true
and_second true b h = h
and_second false b h = absurd (true≢false (sym h))

pub and_first : (a b : Bool) → (a && b) ≡ true → a ≡ true
and_first true b h = refl
and_first false b h = absurd (true≢false (sym h))

later : (u t : ℕ) → nat_le u t ≡ false → nat_lt t u ≡ true
later u t h = grind (arith, nat_tests)

pub same_number : (a b : ℕ) → (a == b) ≡ true → a ≡ b
same_number a b h = grind (arith, nat_tests)

left : (waiting : List Freeing) (t s : ℕ) (f : Freed) → IsListed waiting s f → IsListed (filter (λ w. nat_lt t w.txg) waiting) s (settled_by t f)
left waiting t s Not h = tt
left waiting t s (In u) h = go (nat_le u t) refl
  where
    go : (b : Bool) → nat_le u t ≡ b → IsListed (filter (λ w. nat_lt t w.txg) waiting) s (cond b Settled (In u))
    go true is = tt
    go false is = any_among (λ w. is_eq (nat_cmp w.sector s) && w.txg == u) (λ w. nat_lt t w.txg) waiting (λ w p. ap (λ n. nat_lt t n) (same_number w.txg u (and_second (is_eq (nat_cmp w.sector s)) (w.txg == u) p)) ∙ later u t is) h
left waiting t s Settled h = tt

pub listed_settled : (waiting : List Freeing) (es : List (ℕ × Taken)) (t : ℕ) → AreListed waiting es → AreListed (filter (λ w. nat_lt t w.txg) waiting) (settled_all t es)
listed_settled waiting es t all = listed_still (filter (λ w. nat_lt t w.txg) waiting) (map (λ e. (e.0, settled t e.1)) es) (each es all)
  where
    each : (es : List (ℕ × Taken)) → AreListed waiting es → AreListed (filter (λ w. nat_lt t w.txg) waiting) (map (λ e. (e.0, settled t e.1)) es)
    each [] all = tt
    each (e ∷ es) all = (left waiting t e.0 e.1.freed all.0, each es all.1)
