-- At the end the items of all places are added.
use Rattle.std.proofs.Common.{◌≡◌, ◌++◌, ◌∷◌, [], ℕ, List, Bor, map, take, refl, ap, ◌∙◌}
use Rattle.std.proofs.lemmas.Iterator.{YieldsList-from_slice, YieldsList-from_take}
use Rattle.std.proofs.lemmas.Iterator.Consumers.{YieldsList-at, YieldsList-end}
use Rattle.zs_ids.specs.declared.block.Bp.{Bp}
use Rattle.zs_ids.specs.declared.block.Item.{Item}
use Rattle.zs_ids.specs.declared.block.Place.{Place}
use Rattle.zs_graph.specs.Freeing.{item_of, items_of}
use Rattle.zs_graph.proofs.freeing.add_items.Goals as goal

seen : (bp : Bp) (ys : List (Bor Place)) → map (λ (y : Bor Place). item_of bp y.now) ys ≡ map (item_of bp) (map (λ (y : Bor Place). y.now) ys)
seen bp [] = refl
seen bp (y ∷ ys) = ap (λ (l : List Item). item_of bp y.now ∷ l) (seen bp ys)

all : (bp : Bp) (old new : List Item) (n : ℕ) (ys : List (Bor Place)) → new ≡ old ++ map (λ (y : Bor Place). item_of bp y.now) ys → map (λ (y : Bor Place). y.now) ys ≡ take n bp.places → n ≡ bp.count → new ≡ old ++ items_of bp
all bp old new n ys is places count =
    is ∙ ap (λ (l : List Item). old ++ l) (seen bp ys ∙ ap (λ (l : List Place). map (item_of bp) l) (places ∙ ap (λ (k : ℕ). take k bp.places) count))

pub returns : goal.returns
returns c =
    let chain = YieldsList-at c.into_iter-place-iterator.ensures.into_iter_gives (YieldsList-from_take c.from.result (YieldsList-at c.take-place-items.ensures.source (YieldsList-from_slice c.args.bp.now.places c.iter.ensures.rest)) c.take-place-items.ensures.count) in
    let end = YieldsList-end chain c.loop-place.yielded _ c.loop-place.yielded_by _ _ c.in-None.is c.next.ensures.steps in
    all c.args.bp.now c.args.items.now.items c.loop-place.items.items c.from.result c.loop-place.yielded c.loop-place.invariant end.0 c.from.ensures
