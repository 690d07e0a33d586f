-- A walk over the blocks of a map, each looked for behind the one before, and one over some changes.
use Rattle.std.proofs.Common.{◌≡◌, ◌<◌, ◌+◌, ℕ, suc, List, ◌∷◌, ◌++◌, length, get_or, drop, append_assoc, append-nil, sym, ap, ◌∙◌, arith}
use Rattle.std.specs.Prelude.{flat_map, Some, None}
use Rattle.std.proofs.lemmas.List.{drop_more}
use Rattle.zs_ids.specs.declared.key.Key.{Key}
use Rattle.zs_ids.specs.declared.block.Bp.{Bp}
use Rattle.zs_ids.specs.declared.block.Item.{Item}
use Rattle.zs_ids.specs.Blocks.{first_from, IsInKeyOrder}
use Rattle.zs_ids.specs.Graph.{Has, Dataset, Graph}
use Rattle.zs_ids.specs.GraphValid.{IsBlock, IsObjectKey, IsValid}
use Rattle.zs_ids.specs.GraphValid.IsBlock.{root, dnodes, inner, leaf}
use Rattle.zs_graph.specs.Freeing.{AreShallow, blocks_from, items_from, items_unheld}
use Rattle.zs_graph.proofs.Keys.{found_from}
use Rattle.zs_graph.proofs.Found.{next_key, first_left, none_left}

-- one more element's own are done
pub one_done : {A B : Type 0} (f : A → List B) (xs : List A) (i : ℕ) (d : A) (done new all : List B) → i < length xs → done ++ flat_map f (drop i xs) ≡ all → new ≡ done ++ f (get_or xs i d) → new ++ flat_map f (drop (i + 1) xs) ≡ all
one_done {A} {B} f xs i d done new all within so_far is =
    ap (λ (l : List B). l ++ flat_map f (drop (i + 1) xs)) is ∙ append_assoc done (f (get_or xs i d)) (flat_map f (drop (i + 1) xs)) ∙ ap (λ (l : List A). done ++ flat_map f l) (sym (drop_more xs i d within)) ∙ so_far

-- the keys of a valid graph's blocks end at those of records
pub shallow : (g : Graph) (n : ℕ) → IsValid g n → (d : Dataset) → Has g d → AreShallow d.entries
shallow g n valid d i e h =
    let b = valid.holds d i in
    by (b.levels e.0.object) (b.size e.0.object) (b.blocks e h)
  where
    object : (levels level : ℕ) → IsObjectKey levels level e.0 → e.0.depth < 4
    object levels level k = let whole : e.0.depth + level ≡ 3 = k.depth in omega (arith, whole)

    by : (levels size : ℕ) → IsBlock levels size e → e.0.depth < 4
    by levels size block = elim block [
      | root k f ↦ let at : e.0.depth ≡ 0 = ap (λ (x : Key). x.depth) k in omega (arith, at)
      | dnodes j lt k f ↦ let at : e.0.depth ≡ 1 = ap (λ (x : Key). x.depth) k in omega (arith, at)
      | inner level up below k f ↦ object levels level k
      | leaf some k f ↦ object levels 0 k
    ]

module _ (es : List (Key × Bp)) (from : Key) (start : ℕ) (e : Key × Bp) (is : first_from es from start ≡ Some e) where
  -- the next block is one of the map
  pub next_shallow : AreShallow es → e.0.depth < 4
  next_shallow shallow = shallow e (found_from es from start e is).0

  module _ (order : IsInKeyOrder es) (behind : Key) (next : behind ≡ next_key e.0) where
    left : blocks_from es from start ≡ (e ∷ blocks_from es behind start)
    left = first_left es from start e order is ∙ ap (λ (k : Key). e ∷ blocks_from es k start) (sym next)

    -- behind it fewer are left
    pub next_fewer : length (blocks_from es behind start) < length (blocks_from es from start)
    next_fewer = let long : length (blocks_from es from start) ≡ suc (length (blocks_from es behind start)) = ap (λ (l : List (Key × Bp)). length l) left in omega (arith, long)

    -- with its items done, those that are left are the rest
    pub next_done : (held : List (Key × Bp)) (done new all : List Item) → done ++ items_from es from start held ≡ all → new ≡ done ++ items_unheld held e → new ++ items_from es behind start held ≡ all
    next_done held done new all so_far items =
        ap (λ (l : List Item). l ++ items_from es behind start held) items ∙ append_assoc done (items_unheld held e) (items_from es behind start held) ∙ ap (λ (l : List (Key × Bp)). done ++ flat_map (items_unheld held) l) (sym left) ∙ so_far

-- at the end all are done
pub all_done : (es : List (Key × Bp)) (from : Key) (start : ℕ) (held : List (Key × Bp)) (done all : List Item) → first_from es from start ≡ None → done ++ items_from es from start held ≡ all → done ≡ all
all_done es from start held done all is so_far =
    sym (ap (λ (l : List (Key × Bp)). done ++ flat_map (items_unheld held) l) (none_left es from start is) ∙ append-nil done) ∙ so_far
