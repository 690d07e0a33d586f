-- What is found at a key in entries in order of key, and what is left behind the first entry that is found.
use Rattle.std.proofs.Common.{◌≡◌, ◌+◌, ℕ, Bool, true, false, cond, List, [], ◌∷◌, Option, refl, sym, ap, subst, ◌∙◌, arith}
use Rattle.std.specs.Prelude.{filter, find, nat_lt, Some, None}
use Rattle.std.specs.List.Sorted.{IsStrictlySortedBy}
use Rattle.std.specs.Cmp.{IsTotalOrder}
use Rattle.std.specs.Ordering.{is_eq, is_gt, is_le, ordering_reverse}
use Rattle.std.specs.declared.cmp.Ordering.{Ordering}
use Rattle.std.specs.declared.cmp.Ordering.TheVariants.{Less, Equal, Greater}
use Rattle.std.proofs.lemmas.Bool.{true≢false}
use Rattle.std.proofs.lemmas.Cmp.{nat_cmp_total, on_total, then_total, upto}
use Rattle.zs_ids.specs.declared.key.Key.{Key}
use Rattle.zs_ids.specs.declared.block.Bp.{Bp}
use Rattle.zs_ids.specs.Key.{key_cmp}
use Rattle.zs_ids.specs.Blocks.{bp_at, first_from, IsInKeyOrder}
use Rattle.zs_ids.specs.Graph.{Has}
use Rattle.zs_graph.specs.Freeing.{blocks_from}
use Rattle.zs_graph.proofs.Lists.{some_is, some≢none}
use Rattle.zs_graph.proofs.Keys.{is_less, is_equal, key_equal, deeper, one_key, above_first, found_from}
use Rattle.zs_graph.proofs.KeyCases.{key_self}
use mathlib.Core.Logic.{inl, inr}

tied : (o : Ordering) → is_eq o ≡ true → o ≡ Equal
tied Less e = absurd (true≢false (sym e))
tied Equal e = refl
tied Greater e = absurd (true≢false (sym e))

-- what is found at a key is there
pub at_some : (es : List (Key × Bp)) (k : Key) (bp : Bp) → bp_at es k ≡ Some bp → Has es (k, bp)
at_some [] k bp is = absurd (some≢none bp (sym is))
at_some (x ∷ xs) k bp is = go (is_eq (key_cmp k x.0)) refl is (λ r. at_some xs k bp r)
  where
    go : (b : Bool) → is_eq (key_cmp k x.0) ≡ b → cond b (Some x.1) (bp_at xs k) ≡ Some bp → (bp_at xs k ≡ Some bp → Has xs (k, bp)) → Has (x ∷ xs) (k, bp)
    go true same found rest =
        let key : x.0 ≡ k = sym (key_equal k x.0 (tied (key_cmp k x.0) same)) in
        let value : x.1 ≡ bp = some_is x.1 bp found in
        inl (ap (λ (y : Key). let z : Key × Bp = (y, x.1) in z) key ∙ ap (λ (b : Bp). let z : Key × Bp = (k, b) in z) value)
    go false other found rest = inr (rest found)

-- at the key of an entry something is found
some_at : (es : List (Key × Bp)) (e : Key × Bp) → Has es e → bp_at es e.0 ≡ None → ⊥
some_at [] e h none = h
some_at (x ∷ xs) e h none = go (is_eq (key_cmp e.0 x.0)) refl h none (λ i r. some_at xs e i r)
  where
    go : (b : Bool) → is_eq (key_cmp e.0 x.0) ≡ b → Has (x ∷ xs) e → cond b (Some x.1) (bp_at xs e.0) ≡ None → (Has xs e → bp_at xs e.0 ≡ None → ⊥) → ⊥
    go true same i found rest = some≢none x.1 found
    go false other (inl first) found rest =
        true≢false (sym (ap is_eq (key_self e.0)) ∙ subst (λ (y : Key × Bp). is_eq (key_cmp e.0 y.0) ≡ false) first other)
    go false other (inr more) found rest = rest more found

-- and where the keys rise it is the entry
pub entry_at : (es : List (Key × Bp)) (e : Key × Bp) (k : Key) → IsInKeyOrder es → Has es e → k ≡ e.0 → bp_at es k ≡ Some e.1
entry_at es e k order h same = ap (λ (x : Key). bp_at es x) same ∙ go (bp_at es e.0) refl
  where
    go : (found : Option Bp) → bp_at es e.0 ≡ found → found ≡ Some e.1
    go None is = absurd (some_at es e h is)
    go (Some bp) is = ap (λ (x : Key × Bp). Some x.1) (one_key es order (e.0, bp) e (at_some es e.0 bp is) h refl)

key_total : IsTotalOrder key_cmp
key_total =
    then_total (on_total (λ (k : Key). k.object) nat_cmp_total) (then_total (on_total (λ (k : Key). k.rank) nat_cmp_total) (then_total (on_total (λ (k : Key). k.leaf) nat_cmp_total) (on_total (λ (k : Key). k.depth) nat_cmp_total)))

abbrev born_after : ℕ → Key × Bp → Bool
born_after after e = nat_lt after e.1.birth

abbrev at_or_after : Key → List (Key × Bp) → List (Key × Bp)
at_or_after from es = filter (λ e. is_le (key_cmp from e.0)) es

abbrev pub next_key : Key → Key
next_key k = record k { depth = k.depth + 1 }

-- where one key is not above another it is less, or the same
not_above : (a b c : Key) → is_le (key_cmp a b) ≡ true → is_le (key_cmp b c) ≡ true → is_le (key_cmp a c) ≡ true
not_above a b c first second =
    le_from (key_cmp a c) (upto key_total a b c (gt_from (key_cmp a b) first) (gt_from (key_cmp b c) second))
  where
    gt_from : (o : Ordering) → is_le o ≡ true → is_gt o ≡ false
    gt_from Less e = refl
    gt_from Equal e = refl
    gt_from Greater e = absurd (true≢false (sym e))

    le_from : (o : Ordering) → is_gt o ≡ false → is_le o ≡ true
    le_from Less e = refl
    le_from Equal e = refl
    le_from Greater e = absurd (true≢false e)

-- a key is below the one behind it
below_next : (k : Key) → key_cmp k (next_key k) ≡ Less
below_next k =
    rw (is_equal k.object k.object refl, is_equal k.rank k.rank refl, is_equal k.leaf k.leaf refl) (is_less k.depth (k.depth + 1) (omega arith))

-- a key that is not above another is before the one behind that
before_next : (k x : Key) → is_le (key_cmp x k) ≡ true → is_le (key_cmp (next_key k) x) ≡ false
before_next k x low = go (is_le (key_cmp (next_key k) x)) refl
  where
    go : (b : Bool) → is_le (key_cmp (next_key k) x) ≡ b → b ≡ false
    go true at =
        absurd (true≢false (sym (not_above (next_key k) x k at low) ∙ ap is_le (key_total.antisymm (next_key k) k ∙ ap ordering_reverse (below_next k))))
    go false at = refl

-- a list in order whose keys are all above one
all_above : (k : Key) (es : List (Key × Bp)) → ((f : Key × Bp) → Has es f → is_le (key_cmp k f.0) ≡ true) → at_or_after k es ≡ es
all_above k [] each = refl
all_above k (e ∷ es) each =
    subst (λ (b : Bool). cond b (e ∷ at_or_after k es) (at_or_after k es) ≡ (e ∷ es)) (sym (each e (inl refl))) (ap (λ (l : List (Key × Bp)). e ∷ l) (all_above k es (λ f h. each f (inr h))))

-- where nothing is found, nothing is left
pub none_left : (es : List (Key × Bp)) (from : Key) (start : ℕ) → first_from es from start ≡ None → blocks_from es from start ≡ []
none_left es from start is = go (at_or_after from es) is
  where
    go : (xs : List (Key × Bp)) → find (born_after start) xs ≡ None → filter (born_after start) xs ≡ []
    go [] none = refl
    go (x ∷ xs) none = at (born_after start x) none (go xs)
      where
        at : (b : Bool) → cond b (Some x) (find (born_after start) xs) ≡ None → (find (born_after start) xs ≡ None → filter (born_after start) xs ≡ []) → cond b (x ∷ filter (born_after start) xs) (filter (born_after start) xs) ≡ []
        at true found rest = absurd (some≢none x found)
        at false found rest = rest found

-- what is found is the first of what is left, and behind it is left what is at or after the key behind its own
pub first_left : (es : List (Key × Bp)) (from : Key) (start : ℕ) (e : Key × Bp) → IsInKeyOrder es → first_from es from start ≡ Some e → blocks_from es from start ≡ (e ∷ blocks_from es (next_key e.0) start)
unfolding IsStrictlySortedBy
first_left [] from start e order is = absurd (some≢none e (sym is))
first_left (x ∷ xs) from start e order is =
    go (is_le (key_cmp from x.0)) refl is (λ i. first_left xs from start e order.1 i)
  where
    rest : Key → List (Key × Bp)
    rest k = at_or_after k xs

    -- the first entry is not born after the start, or its key is before the one that is looked from
    passed : (a : Bool) → born_after start x ≡ false → filter (born_after start) (cond a (x ∷ rest (next_key e.0)) (rest (next_key e.0))) ≡ filter (born_after start) (rest (next_key e.0))
    passed true old = ap (λ (b : Bool). cond b (x ∷ filter (born_after start) (rest (next_key e.0))) (filter (born_after start) (rest (next_key e.0)))) old
    passed false old = refl

    later : find (born_after start) (rest from) ≡ Some e → is_le (key_cmp (next_key e.0) x.0) ≡ false
    later i = before_next e.0 x.0 (ap is_le (above_first x.0 xs e order.0 (found_from xs from start e i).0))

    -- it is the one that is found
    found : is_le (key_cmp from x.0) ≡ true → x ≡ e → (x ∷ filter (born_after start) (rest from)) ≡ (e ∷ filter (born_after start) (at_or_after (next_key e.0) (x ∷ xs)))
    found at same = subst (λ (y : Key × Bp). (x ∷ filter (born_after start) (rest from)) ≡ (y ∷ filter (born_after start) (at_or_after (next_key y.0) (x ∷ xs)))) same (ap (λ (l : List (Key × Bp)). x ∷ filter (born_after start) l) (from_all ∙ sym next_all))
      where
        from_all : rest from ≡ xs
        from_all = all_above from xs (λ f h. not_above from x.0 f.0 at (ap is_le (above_first x.0 xs f order.0 h)))

        next_all : at_or_after (next_key x.0) (x ∷ xs) ≡ xs
        next_all =
            ap (λ (b : Bool). cond b (x ∷ rest (next_key x.0)) (rest (next_key x.0))) (before_next x.0 x.0 (ap is_le (key_self x.0))) ∙ all_above (next_key x.0) xs (λ f h. deeper x.0 f.0 (above_first x.0 xs f order.0 h))

    test : (c : Bool) → born_after start x ≡ c → is_le (key_cmp from x.0) ≡ true → cond c (Some x) (find (born_after start) (rest from)) ≡ Some e → (find (born_after start) (rest from) ≡ Some e → filter (born_after start) (rest from) ≡ (e ∷ filter (born_after start) (rest (next_key e.0)))) → cond c (x ∷ filter (born_after start) (rest from)) (filter (born_after start) (rest from)) ≡ (e ∷ filter (born_after start) (at_or_after (next_key e.0) (x ∷ xs)))
    test true young at i more = found at (some_is x e i)
    test false old at i more = more i ∙ ap (λ (l : List (Key × Bp)). e ∷ l) (sym (passed (is_le (key_cmp (next_key e.0) x.0)) old))

    go : (b : Bool) → is_le (key_cmp from x.0) ≡ b → find (born_after start) (cond b (x ∷ rest from) (rest from)) ≡ Some e → (find (born_after start) (rest from) ≡ Some e → filter (born_after start) (rest from) ≡ (e ∷ filter (born_after start) (rest (next_key e.0)))) → filter (born_after start) (cond b (x ∷ rest from) (rest from)) ≡ (e ∷ filter (born_after start) (at_or_after (next_key e.0) (x ∷ xs)))
    go true at i more = test (born_after start x) refl at i more
    go false at i more =
        more i ∙ ap (λ (l : List (Key × Bp)). e ∷ filter (born_after start) l) (sym (ap (λ (b : Bool). cond b (x ∷ rest (next_key e.0)) (rest (next_key e.0))) (later i)))
