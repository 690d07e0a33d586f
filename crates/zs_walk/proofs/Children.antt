-- The datasets that stand on one, asked for one behind the other.
use Rattle.std.proofs.Common.{◌≡◌, ◌<◌, ◌≤◌, ◌+◌, ◌++◌, ℕ, Bool, true, false, cond, List, [], ◌∷◌, refl, sym, ap, subst, ◌∙◌, arith}
use Rattle.std.specs.Prelude.{map, filter, find, length, IsTrue, Option, Some, None, nat_lt}
use Rattle.std.proofs.lemmas.Bool.{ltb-true, lt-ltb, le-ltb}
use Rattle.std.proofs.lemmas.List.{length-map, length-append, append_assoc}
use Rattle.zs_ids.specs.declared.dataset.DsId.{DsId}
use Rattle.zs_ids.specs.Graph.{Has, Dataset, Graph}
use Rattle.zs_ids.specs.GraphTree.{children_of, stands_on, is_above}
use Rattle.zs_ids.specs.GraphValid.{IsInIdOrder}
use Rattle.zs_phys.specs.declared.todos.Todo.{Todo}
use Rattle.zs_phys.specs.Turn.{entry}
use Rattle.zs_graph.proofs.Lists.{from-map, from-find, some_is, some≢none}
use Rattle.zs_graph.proofs.Graphs.{in_order-filter}
use mathlib.Core.Logic.{inl, inr}

-- the ids rise
abbrev pub Rising : List DsId → Type 0
Rising [] = Unit {0}
Rising (x ∷ xs) = ((y : DsId) → Has xs y → x.0 < y.0) × Rising xs

ids_rise : (ds : Graph) → IsInIdOrder ds → Rising (map (λ (d : Dataset). d.id) ds)
ids_rise [] o = tt
ids_rise (d ∷ ds) o =
    (λ y h. let r = from-map (λ (x : Dataset). x.id) ds y h in subst (λ (i : DsId). d.id.0 < i.0) r.2 (o.0 r.0 r.1), ids_rise ds o.1)

pub children_rise : (g : Graph) (id : DsId) → IsInIdOrder g → Rising (children_of g id)
children_rise g id o =
    ids_rise (filter (λ (d : Dataset). stands_on id d.parent) g) (in_order-filter (λ (d : Dataset). stands_on id d.parent) g o)

-- a test that all pass takes nothing out
pub filter-all : (test : DsId → Bool) (xs : List DsId) → ((x : DsId) → Has xs x → IsTrue (test x)) → filter test xs ≡ xs
filter-all test [] all = refl
filter-all test (x ∷ xs) all =
    ap (λ (b : Bool). cond b (x ∷ filter test xs) (filter test xs)) (all x (inl refl)) ∙ ap (λ (l : List DsId). x ∷ l) (filter-all test xs (λ y h. all y (inr h)))

-- what is above an id that is above another is above that
above_more : (after : Option DsId) (x y : DsId) → IsTrue (is_above after x) → x.0 < y.0 → IsTrue (is_above after y)
above_more None x y t l = refl
above_more (Some a) x y t l = let low : a.0 < x.0 = ltb-true a.0 x.0 t in lt-ltb a.0 y.0 (omega (arith, low, l))

-- of rising ids the first above another, with those above it, is all that is above the other
pub first_above : (after : Option DsId) (xs : List DsId) (c : DsId) → Rising xs → find (is_above after) xs ≡ Some c → filter (is_above after) xs ≡ c ∷ filter (is_above (Some c)) xs
first_above after [] c rise e = absurd (some≢none c (sym e))
first_above after (x ∷ xs) c rise e = go (is_above after x) refl e (λ i. first_above after xs c rise.1 i)
  where
    front : x ≡ c → IsTrue (is_above after x) → x ∷ filter (is_above after) xs ≡ c ∷ filter (is_above (Some c)) (x ∷ xs)
    front is t =
        let low : c.0 ≤ c.0 = omega arith in
        let off : nat_lt c.0 x.0 ≡ false = subst (λ (y : DsId). nat_lt c.0 y.0 ≡ false) (sym is) (le-ltb c.0 c.0 low) in
        let all : filter (is_above after) xs ≡ xs = filter-all (is_above after) xs (λ y h. above_more after x y t (rise.0 y h)) in
        let rest : filter (is_above (Some c)) xs ≡ xs = filter-all (is_above (Some c)) xs (λ y h. lt-ltb c.0 y.0 (subst (λ (z : DsId). z.0 < y.0) is (rise.0 y h))) in
        let tail : filter (is_above (Some c)) (x ∷ xs) ≡ xs = ap (λ (b : Bool). cond b (x ∷ filter (is_above (Some c)) xs) (filter (is_above (Some c)) xs)) off ∙ rest in
        ap (λ (l : List DsId). x ∷ l) all ∙ ap (λ (y : DsId). y ∷ xs) is ∙ ap (λ (l : List DsId). c ∷ l) (sym tail)

    behind : find (is_above after) xs ≡ Some c → filter (is_above after) xs ≡ c ∷ filter (is_above (Some c)) xs → filter (is_above after) xs ≡ c ∷ filter (is_above (Some c)) (x ∷ xs)
    behind i more =
        let f = from-find (is_above after) xs c i in
        let up : x.0 < c.0 = rise.0 c f.0 in
        let off : nat_lt c.0 x.0 ≡ false = le-ltb c.0 x.0 (omega (arith, up)) in
        more ∙ ap (λ (b : Bool). c ∷ cond b (x ∷ filter (is_above (Some c)) xs) (filter (is_above (Some c)) xs)) (sym off)

    go : (b : Bool) → is_above after x ≡ b → cond b (Some x) (find (is_above after) xs) ≡ Some c → (find (is_above after) xs ≡ Some c → filter (is_above after) xs ≡ c ∷ filter (is_above (Some c)) xs) → cond b (x ∷ filter (is_above after) xs) (filter (is_above after) xs) ≡ c ∷ filter (is_above (Some c)) (x ∷ xs)
    go true is i more = front (some_is x c i) is
    go false is i more = behind i (more i)

-- where none is found, none passes
none_above : (test : DsId → Bool) (xs : List DsId) → find test xs ≡ None → filter test xs ≡ []
none_above test [] e = refl
none_above test (x ∷ xs) e = go (test x) e (λ i. none_above test xs i)
  where
    go : (b : Bool) → cond b (Some x) (find test xs) ≡ None → (find test xs ≡ None → filter test xs ≡ []) → cond b (x ∷ filter test xs) (filter test xs) ≡ []
    go true i more = absurd (some≢none x i)
    go false i more = more i

-- what the queue has got so far and what is left to put into it is all
abbrev pub IsQueued : ℕ → List DsId → List Todo → Option DsId → List Todo → Type 0
IsQueued least kids start after todo =
    todo ++ map (entry least) (filter (is_above after) kids) ≡ start ++ map (entry least) kids

pub queue_none : (least : ℕ) (kids : List DsId) (start : List Todo) → IsQueued least kids start None start
queue_none least kids start =
    ap (λ (l : List DsId). start ++ map (entry least) l) (filter-all (is_above None) kids (λ x h. refl))

module _ (least : ℕ) (kids : List DsId) (start : List Todo) (after : Option DsId) (c : DsId) (todo : List Todo) (rise : Rising kids) (found : find (is_above after) kids ≡ Some c) where
  left : filter (is_above after) kids ≡ c ∷ filter (is_above (Some c)) kids
  left = first_above after kids c rise found

  -- one more is put
  pub queue_more : IsQueued least kids start after todo → IsQueued least kids start (Some c) (todo ++ entry least c ∷ [])
  queue_more so_far =
      append_assoc todo (entry least c ∷ []) (map (entry least) (filter (is_above (Some c)) kids)) ∙ ap (λ (l : List DsId). todo ++ map (entry least) l) (sym left) ∙ so_far

  -- there is room for it
  pub queue_room : IsQueued least kids start after todo → length start + length kids ≤ 255 → length todo < 255
  queue_room so_far room =
      let all : length (todo ++ map (entry least) (filter (is_above after) kids)) ≡ length (start ++ map (entry least) kids) = ap length so_far in
      let one : length (filter (is_above after) kids) ≡ length (c ∷ filter (is_above (Some c)) kids) = ap length left in
      let a = length-append todo (map (entry least) (filter (is_above after) kids)) in
      let b = length-append start (map (entry least) kids) in
      let x = length-map (filter (is_above after) kids) (entry least) in
      let y = length-map kids (entry least) in
      omega (arith, all, one, a, b, x, y, room)

  -- fewer are left
  pub queue_less : length (filter (is_above (Some c)) kids) < length (filter (is_above after) kids)
  queue_less =
      let one : length (filter (is_above after) kids) ≡ length (c ∷ filter (is_above (Some c)) kids) = ap length left in
      omega (arith, one)

-- where none is left, all are in the queue
pub queue_done : (least : ℕ) (kids : List DsId) (start : List Todo) (after : Option DsId) (todo : List Todo) → find (is_above after) kids ≡ None → IsQueued least kids start after todo → todo ≡ start ++ map (entry least) kids
queue_done least kids start after todo none so_far =
    sym (append_nil todo) ∙ ap (λ (l : List DsId). todo ++ map (entry least) l) (sym (none_above (is_above after) kids none)) ∙ so_far
  where
    append_nil : (l : List Todo) → l ++ [] ≡ l
    append_nil [] = refl
    append_nil (x ∷ xs) = ap (λ (m : List Todo). x ∷ m) (append_nil xs)
