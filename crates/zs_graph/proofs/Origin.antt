-- The graph of just the origin is valid.
use Rattle.std.proofs.Common.{List, ◌≡◌, ◌∷◌, [], refl, sym, ap, subst, ◌∙◌, arith}
use Rattle.std.specs.List.Sorted.{IsStrictlySortedBy}
use Rattle.std.proofs.lemmas.Bool.{true≢false}
use Rattle.zs_ids.specs.declared.key.Key.{Key}
use Rattle.zs_ids.specs.declared.block.Bp.{Bp}
use Rattle.zs_ids.specs.Graph.{Has, Dataset, Graph}
use Rattle.zs_ids.specs.GraphValid.{origin, IsTree, HasBlocks, IsValid}
use Rattle.zs_graph.specs.View.{IsGraph}
use Rattle.zs_graph.proofs.Lists.{some≢none}
use mathlib.Core.Logic.{inl, inr}

abbrev alone : Graph
alone = origin ∷ []

pub is_origin : (d : Dataset) → Has alone d → origin ≡ d
is_origin d (inl e) = e
is_origin d (inr none) = absurd none

no_blocks : HasBlocks origin 1
unfolding IsStrictlySortedBy
no_blocks = record {
  in_order = tt;
  births = λ e h. absurd h;
  levels = λ object. 1;
  at_most_four = λ object. omega arith;
  size = λ object. 1;
  is_size = λ object. inl refl;
  blocks = λ e h. absurd h;
  parents = λ e h. absurd h;
}

pub nothing_held : (d : Dataset) (e : Key × Bp) → Has alone d → Has d.entries e → ⊥
nothing_held d e i h = subst (λ (x : Dataset). Has x.entries e) (sym (is_origin d i)) h

tree : IsTree alone 1
tree = record {
  root = inl refl;
  stands = λ d h. inl (sym (is_origin d h));
  in_order = (λ x h. absurd h, tt);
  few = omega arith;
  names = λ a b i j heads owners labels. ap (λ (x : Dataset). x.id) (sym (is_origin a i) ∙ is_origin b j);
  created = λ d h. let c : 1 ≡ d.creation = ap (λ (x : Dataset). x.creation) (is_origin d h) in omega (arith, c);
  heads = λ d h is. absurd (true≢false (sym is ∙ ap (λ (x : Dataset). x.head) (sym (is_origin d h))));
}

pub origin_is_valid : IsValid alone 1
origin_is_valid = record {
  tree = tree;
  holds = λ d h. subst (λ (x : Dataset). HasBlocks x 1) (is_origin d h) no_blocks;
  shares = λ d parent i j is. absurd (some≢none parent.id (sym is ∙ ap (λ (x : Dataset). x.parent) (sym (is_origin d i))));
  apart = λ c d e f hc hd o. absurd (nothing_held c e hc.here hc.holds);
}

pub origin_graph : IsGraph (record { sets = alone; next = 1 })
origin_graph = record {
  last = 1;
  valid = origin_is_valid;
  below = λ d h. let c : 0 ≡ d.id.0 = ap (λ (x : Dataset). x.id.0) (is_origin d h) in omega (arith, c);
}

-- also where its entries are empty by an equation
pub origin_with : (es : List (Key × Bp)) → es ≡ [] → IsGraph (record { sets = record origin { entries = es } ∷ []; next = 1 })
origin_with es e = subst (λ (l : List (Key × Bp)). IsGraph (record { sets = record origin { entries = l } ∷ []; next = 1 })) (sym e) origin_graph
