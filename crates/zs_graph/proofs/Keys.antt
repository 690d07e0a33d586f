-- The order of keys, and the first entry at or after a key.
use Rattle.std.proofs.Common.{◌≡◌, ◌⊎◌, ◌<◌, ◌≤◌, ◌+◌, ℕ, Bool, true, false, cond, List, [], ◌∷◌, refl, sym, ap, subst, ◌∙◌, arith}
use Rattle.std.specs.Prelude.{filter, find, IsTrue, Some, None, nat_lt, ◌==◌}
use Rattle.std.specs.Ordering.{is_le, nat_cmp, ordering_then}
use Rattle.std.specs.declared.cmp.Ordering.{Ordering}
use Rattle.std.specs.declared.cmp.Ordering.TheVariants.{Less, Equal, Greater}
use Rattle.std.specs.List.Sorted.{IsStrictlySortedBy}
use Rattle.std.specs.Map.{keys_of}
use Rattle.std.specs.List.{AllByRecursion}
use Rattle.std.proofs.lemmas.Bool.{true≢false, ltb-true, lt-ltb, le-ltb, eqb-true, eq-eqb, cases_lt, cases_order}
use Rattle.zs_ids.specs.declared.key.Key.{Key}
use Rattle.zs_ids.specs.declared.block.Bp.{Bp}
use Rattle.zs_ids.specs.Key.{key_cmp, root_key}
use Rattle.zs_ids.specs.Blocks.{first_from, IsInKeyOrder}
use Rattle.zs_ids.specs.Graph.{Has}
use Rattle.zs_graph.proofs.Lists.{some_is, none-find, from-find, from-filter, has-filter}
use mathlib.Core.Logic.{inl, inr}

-- an ordering as a number, to tell them apart
abbrev pub rank : Ordering → ℕ
rank Less = 0
rank Equal = 1
rank Greater = 2

pub less≢greater : Greater ≡ Less → ⊥
less≢greater e = let n : 2 ≡ 0 = ap rank e in omega (arith, n)

-- the first of two orderings decides, or the second where the first finds no difference
then_less : (x y : Ordering) → ordering_then x y ≡ Less → (x ≡ Less) ⊎ ((x ≡ Equal) × (y ≡ Less))
then_less Less y e = inl refl
then_less Equal y e = inr (refl, e)
then_less Greater y e = absurd (less≢greater e)

le_then : (x y : Ordering) → (x ≡ Less) ⊎ ((x ≡ Equal) × IsTrue (is_le y)) → IsTrue (is_le (ordering_then x y))
le_then x y (inl e) = subst (λ (o : Ordering). IsTrue (is_le (ordering_then o y))) (sym e) refl
le_then x y (inr h) = subst (λ (o : Ordering). IsTrue (is_le (ordering_then o y))) (sym h.0) h.1

pub number_less : (a b : ℕ) → nat_cmp a b ≡ Less → a < b
number_less a b e = go (nat_lt a b) refl (a == b) e
  where
    go : (t : Bool) → nat_lt a b ≡ t → (u : Bool) → cond t Less (cond u Equal Greater) ≡ Less → a < b
    go true is u e2 = ltb-true a b is
    go false is u e2 = absurd (rest u e2)
      where
        rest : (v : Bool) → cond v Equal Greater ≡ Less → ⊥
        rest true e3 = let n : 1 ≡ 0 = ap rank e3 in omega (arith, n)
        rest false e3 = less≢greater e3

pub number_equal : (a b : ℕ) → nat_cmp a b ≡ Equal → a ≡ b
number_equal a b e = go (nat_lt a b) (a == b) refl e
  where
    go : (t u : Bool) → (a == b) ≡ u → cond t Less (cond u Equal Greater) ≡ Equal → a ≡ b
    go true u is e2 = let n : 0 ≡ 1 = ap rank e2 in absurd (omega (arith, n))
    go false true is e2 = eqb-true a b is
    go false false is e2 = let n : 2 ≡ 1 = ap rank e2 in absurd (omega (arith, n))

pub is_less : (a b : ℕ) → a < b → nat_cmp a b ≡ Less
is_less a b l = ap (λ (t : Bool). cond t Less (cond (a == b) Equal Greater)) (lt-ltb a b l)

pub is_equal : (a b : ℕ) → a ≡ b → nat_cmp a b ≡ Equal
is_equal a b e =
    let same : b ≤ a = omega (arith, e) in
    ap (λ (t : Bool). cond t Less (cond (a == b) Equal Greater)) (le-ltb a b same) ∙ ap (λ (t : Bool). cond t Equal Greater) (eq-eqb a b e)

number_le : (a b : ℕ) → a ≤ b → IsTrue (is_le (nat_cmp a b))
number_le a b l = elim (cases_order a b) [ inl e ↦ rw (is_equal a b e) refl | inr o ↦ elim o [ inl less ↦ rw (is_less a b less) refl | inr more ↦ absurd (omega (arith, l, more)) ] ]

number_zero : (b : ℕ) → (nat_cmp 0 b ≡ Less) ⊎ (nat_cmp 0 b ≡ Equal)
number_zero b = elim (cases_lt 0 b) [ inl l ↦ inl (is_less 0 b l) | inr z ↦ inr (is_equal 0 b (omega (arith, z))) ]

-- the parts of a key in which it is below another
module _ (a b : Key) where
  abbrev by_depth : Ordering
  by_depth = nat_cmp a.depth b.depth

  abbrev by_leaf : Ordering
  by_leaf = ordering_then (nat_cmp a.leaf b.leaf) by_depth

  abbrev by_rank : Ordering
  by_rank = ordering_then (nat_cmp a.rank b.rank) by_leaf

-- the root is the least key
zero_first : (x : ℕ) (y : Ordering) → IsTrue (is_le y) → IsTrue (is_le (ordering_then (nat_cmp 0 x) y))
zero_first x y h = le_then (nat_cmp 0 x) y (elim (number_zero x) [ inl l ↦ inl l | inr e ↦ inr (e, h) ])

pub root_first : (k : Key) → IsTrue (is_le (key_cmp root_key k))
root_first k =
    zero_first k.object (by_rank root_key k) (zero_first k.rank (by_leaf root_key k) (zero_first k.leaf (by_depth root_key k) (number_le 0 k.depth (omega arith))))

-- keys between which the order finds no difference are one
pub then_equal : (x y : Ordering) → ordering_then x y ≡ Equal → (x ≡ Equal) × (y ≡ Equal)
then_equal Less y e = let n : 0 ≡ 1 = ap rank e in absurd (omega (arith, n))
then_equal Equal y e = (refl, e)
then_equal Greater y e = let n : 2 ≡ 1 = ap rank e in absurd (omega (arith, n))

pub key_equal : (a b : Key) → key_cmp a b ≡ Equal → a ≡ b
key_equal a b e =
    let o = then_equal (nat_cmp a.object b.object) (by_rank a b) e in
    let r = then_equal (nat_cmp a.rank b.rank) (by_leaf a b) o.1 in
    let l = then_equal (nat_cmp a.leaf b.leaf) (by_depth a b) r.1 in
    ap (λ (x : ℕ). record a { object = x }) (number_equal a.object b.object o.0) ∙ ap (λ (x : ℕ). record b { rank = x; leaf = a.leaf; depth = a.depth }) (number_equal a.rank b.rank r.0) ∙ ap (λ (x : ℕ). record b { leaf = x; depth = a.depth }) (number_equal a.leaf b.leaf l.0) ∙ ap (λ (x : ℕ). record b { depth = x }) (number_equal a.depth b.depth l.1)

-- the key one deeper than one below another is not above that
pub deeper : (a b : Key) → key_cmp a b ≡ Less → IsTrue (is_le (key_cmp (record a { depth = a.depth + 1 }) b))
deeper a b less =
    keep (nat_cmp a.object b.object) (by_rank a b) (by_rank (record a { depth = a.depth + 1 }) b) less (λ r. keep (nat_cmp a.rank b.rank) (by_leaf a b) (by_leaf (record a { depth = a.depth + 1 }) b) r (λ l. keep (nat_cmp a.leaf b.leaf) (by_depth a b) (by_depth (record a { depth = a.depth + 1 }) b) l (λ d. number_le (a.depth + 1) b.depth (next d))))
  where
    next : nat_cmp a.depth b.depth ≡ Less → a.depth + 1 ≤ b.depth
    next d = let l : a.depth < b.depth = number_less a.depth b.depth d in omega (arith, l)

    keep : (x y z : Ordering) → ordering_then x y ≡ Less → (y ≡ Less → IsTrue (is_le z)) → IsTrue (is_le (ordering_then x z))
    keep x y z e rest = le_then x z (elim (then_less x y e) [ inl l ↦ inl l | inr h ↦ inr (h.0, rest h.1) ])

-- an entry behind the first of a list in order of key is above it
abbrev pub AllBelow : Key → List (Key × Bp) → Type 0
AllBelow k es = AllByRecursion (λ y. key_cmp k y ≡ Less) (keys_of es)

pub above_first : (k : Key) (es : List (Key × Bp)) (f : Key × Bp) → AllBelow k es → Has es f → key_cmp k f.0 ≡ Less
above_first k [] f all h = absurd h
above_first k (e ∷ es) f all (inl same) = subst (λ (x : Key × Bp). key_cmp k x.0 ≡ Less) same all.0
above_first k (e ∷ es) f all (inr h) = above_first k es f all.1 h

abbrev born_after : ℕ → Key × Bp → Bool
born_after after e = nat_lt after e.1.birth

abbrev at_or_after : Key → List (Key × Bp) → List (Key × Bp)
at_or_after from es = filter (λ e. is_le (key_cmp from e.0)) es

-- of the entries at or after a key that are born after a group, `first_from` gives the first: each other one is above
pub first_of : (es : List (Key × Bp)) (from : Key) (after : ℕ) (e f : Key × Bp) → IsInKeyOrder es → first_from es from after ≡ Some e → Has es f → IsTrue (is_le (key_cmp from f.0)) → after < f.1.birth → (f ≡ e) ⊎ (key_cmp e.0 f.0 ≡ Less)
unfolding IsStrictlySortedBy
first_of [] from after e f o is h at born = absurd h
first_of (x ∷ xs) from after e f o is h at born =
    go (is_le (key_cmp from x.0)) refl is (λ i r. first_of xs from after e f o.1 i r at born)
  where
    -- not the first, so among the others
    among : (find (born_after after) (at_or_after from xs) ≡ Some e → Has xs f → (f ≡ e) ⊎ (key_cmp e.0 f.0 ≡ Less)) → find (born_after after) (at_or_after from xs) ≡ Some e → (x ≡ f → ⊥) → (f ≡ e) ⊎ (key_cmp e.0 f.0 ≡ Less)
    among more i ne = elim h [ inl same ↦ absurd (ne same) | inr r ↦ more i r ]

    -- the first is the one
    first : x ≡ e → (f ≡ e) ⊎ (key_cmp e.0 f.0 ≡ Less)
    first is_x = elim h [ inl same ↦ inl (sym same ∙ is_x) | inr r ↦ inr (subst (λ (y : Key × Bp). key_cmp y.0 f.0 ≡ Less) is_x (above_first x.0 xs f o.0 r)) ]

    test : (c : Bool) → nat_lt after x.1.birth ≡ c → cond c (Some x) (find (born_after after) (at_or_after from xs)) ≡ Some e → (find (born_after after) (at_or_after from xs) ≡ Some e → Has xs f → (f ≡ e) ⊎ (key_cmp e.0 f.0 ≡ Less)) → (f ≡ e) ⊎ (key_cmp e.0 f.0 ≡ Less)
    test true ci i more = first (some_is x e i)
    test false ci i more =
        among more i (λ same. true≢false (sym (lt-ltb after x.1.birth (subst (λ (y : Key × Bp). after < y.1.birth) (sym same) born)) ∙ ci))

    go : (b : Bool) → is_le (key_cmp from x.0) ≡ b → find (born_after after) (cond b (x ∷ at_or_after from xs) (at_or_after from xs)) ≡ Some e → (find (born_after after) (at_or_after from xs) ≡ Some e → Has xs f → (f ≡ e) ⊎ (key_cmp e.0 f.0 ≡ Less)) → (f ≡ e) ⊎ (key_cmp e.0 f.0 ≡ Less)
    go true bi i more = test (nat_lt after x.1.birth) refl i more
    go false bi i more =
        among more i (λ same. true≢false (sym (subst (λ (y : Key × Bp). is_le (key_cmp from y.0) ≡ true) (sym same) at) ∙ bi))

-- where `first_from` gives nothing, no entry at or after the key is born after the group
pub none_from : (es : List (Key × Bp)) (from : Key) (after : ℕ) (f : Key × Bp) → first_from es from after ≡ None → Has es f → IsTrue (is_le (key_cmp from f.0)) → after < f.1.birth → ⊥
none_from es from after f is h at born =
    true≢false (sym (lt-ltb after f.1.birth born) ∙ none-find (born_after after) (at_or_after from es) f is (has-filter (λ (e : Key × Bp). is_le (key_cmp from e.0)) es f h at))

-- what `first_from` gives is an entry born after the group
pub found_from : (es : List (Key × Bp)) (from : Key) (after : ℕ) (e : Key × Bp) → first_from es from after ≡ Some e → Has es e × IsTrue (is_le (key_cmp from e.0)) × (after < e.1.birth)
found_from es from after e is =
    let r = from-find (born_after after) (at_or_after from es) e is in
    let s = from-filter (λ (y : Key × Bp). is_le (key_cmp from y.0)) es e r.0 in
    (s.0, s.1, ltb-true after e.1.birth r.1)

-- no key is below itself
not_below_itself : (a : Key) → key_cmp a a ≡ Less → ⊥
not_below_itself a less =
    let o = is_equal a.object a.object refl in
    let r = is_equal a.rank a.rank refl in
    let l = is_equal a.leaf a.leaf refl in
    let d = is_equal a.depth a.depth refl in
    let same : key_cmp a a ≡ Equal = rw (o, r, l) d in
    let e : Less ≡ Equal = sym less ∙ same in
    let n : 0 ≡ 1 = ap rank e in
    omega (arith, n)

-- in entries in order of key, a key is that of one entry
pub one_key : (es : List (Key × Bp)) → IsInKeyOrder es → (e f : Key × Bp) → Has es e → Has es f → e.0 ≡ f.0 → e ≡ f
unfolding IsStrictlySortedBy
one_key [] o e f h i same = absurd h
one_key (x ∷ xs) o e f (inl a) (inl b) same = sym a ∙ b
one_key (x ∷ xs) o e f (inl a) (inr b) same =
    absurd (not_below_itself x.0 (subst (λ (k : Key). key_cmp x.0 k ≡ Less) (sym same ∙ ap (λ (y : Key × Bp). y.0) (sym a)) (above_first x.0 xs f o.0 b)))
one_key (x ∷ xs) o e f (inr a) (inl b) same =
    absurd (not_below_itself x.0 (subst (λ (k : Key). key_cmp x.0 k ≡ Less) (same ∙ ap (λ (y : Key × Bp). y.0) (sym b)) (above_first x.0 xs e o.0 a)))
one_key (x ∷ xs) o e f (inr a) (inr b) same = one_key xs o.1 e f a b same
