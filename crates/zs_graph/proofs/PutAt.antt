-- A dataset of the code's list changed at its index, as contracts see it.
use Rattle.std.proofs.Common.{◌≡◌, ◌≢◌, ◌<◌, ◌++◌, false, Option, ℕ, suc, zero, List, [], ◌∷◌, length, get_or, refl, sym, ap, ◌∙◌, arith, Some}
use Rattle.std.specs.Prelude.{map, slice_get, slice_set, Result, Ok, Err, OnErr}
use Rattle.std.specs.List.{remove}
use Rattle.std.proofs.lemmas.List.{length-map, map-set}
use Rattle.zs_ids.specs.declared.key.Key.{Key}
use Rattle.zs_ids.specs.declared.block.Bp.{Bp}
use Rattle.zs_ids.specs.Blocks.{entries_with}
use Rattle.zs_ids.specs.Graph.{Dataset, Graph}
use Rattle.zs_graph.specs.declared.graph.Set.{Set}
use Rattle.zs_graph.specs.View.{dataset_of}
use Rattle.zs_ids.specs.declared.dataset.DsId.{DsId}
use Rattle.zs_ids.specs.declared.dataset.Name.{Name}
use Rattle.zs_graph.specs.ByIndex.{adopted_at, applied_at, below_at, removed_at, swapped_at}
use Rattle.zs_graph.proofs.Lists.{some≢none, some_is}
use Rattle.zs_graph.proofs.Seen.{read_at}

-- what is so is so after an error
pub on_err : {A E P : Type 0} (r : Result A E) → P → OnErr r P
on_err (Ok a) p = tt
on_err (Err e) p = p

module _ {A : Type 0} where
  -- an element put where it stands
  pub set_same : (xs : List A) (i : ℕ) (x : A) → slice_get xs i ≡ Some x → slice_set xs i x ≡ xs
  set_same [] i x e = absurd (some≢none x (sym e))
  set_same (y ∷ xs) zero x e = ap (λ (z : A). z ∷ xs) (sym (some_is y x e))
  set_same (y ∷ xs) (suc i) x e = ap (λ (zs : List A). y ∷ zs) (set_same xs i x e)

  set_twice : (xs : List A) (i : ℕ) (a b : A) → slice_set (slice_set xs i a) i b ≡ slice_set xs i b
  set_twice [] i a b = refl
  set_twice (x ∷ xs) zero a b = refl
  set_twice (x ∷ xs) (suc i) a b = ap (λ (zs : List A). x ∷ zs) (set_twice xs i a b)

  -- of two elements put at one index the later one stays
  set_over : (xs : List A) (i j : ℕ) (a b c : A) → i ≢ j → slice_set (slice_set (slice_set xs i a) j b) i c ≡ slice_set (slice_set xs j b) i c
  set_over [] i j a b c ne = refl
  set_over (x ∷ xs) zero zero a b c ne = absurd (ne refl)
  set_over (x ∷ xs) zero (suc j) a b c ne = refl
  set_over (x ∷ xs) (suc i) zero a b c ne = ap (λ (zs : List A). b ∷ zs) (set_twice xs i a c)
  set_over (x ∷ xs) (suc i) (suc j) a b c ne = ap (λ (zs : List A). x ∷ zs) (set_over xs i j a b c (λ e. ne (ap suc e)))

  get_set : (xs : List A) (i : ℕ) (a d : A) → i < length xs → get_or (slice_set xs i a) i d ≡ a
  get_set [] i a d l = absurd (omega (arith, l))
  get_set (x ∷ xs) zero a d l = refl
  get_set (x ∷ xs) (suc i) a d l = get_set xs i a d (omega (arith, l))

  get_other : (xs : List A) (i j : ℕ) (a d : A) → i ≢ j → get_or (slice_set xs i a) j d ≡ get_or xs j d
  get_other [] i j a d ne = refl
  get_other (x ∷ xs) zero zero a d ne = absurd (ne refl)
  get_other (x ∷ xs) zero (suc j) a d ne = refl
  get_other (x ∷ xs) (suc i) zero a d ne = refl
  get_other (x ∷ xs) (suc i) (suc j) a d ne = get_other xs i j a d (λ e. ne (ap suc e))

  -- an element of the first of two lists
  get_left : (xs ys : List A) (i : ℕ) (d : A) → i < length xs → get_or (xs ++ ys) i d ≡ get_or xs i d
  get_left [] ys i d l = absurd (omega (arith, l))
  get_left (x ∷ xs) ys zero d l = refl
  get_left (x ∷ xs) ys (suc i) d l = get_left xs ys i d (omega (arith, l))

  get_any : (xs : List A) (i : ℕ) (d e : A) → i < length xs → get_or xs i d ≡ get_or xs i e
  get_any [] i d e l = absurd (omega (arith, l))
  get_any (x ∷ xs) zero d e l = refl
  get_any (x ∷ xs) (suc i) d e l = get_any xs i d e (omega (arith, l))

  set_left : (xs ys : List A) (i : ℕ) (a : A) → i < length xs → slice_set (xs ++ ys) i a ≡ slice_set xs i a ++ ys
  set_left [] ys i a l = absurd (omega (arith, l))
  set_left (x ∷ xs) ys zero a l = refl
  set_left (x ∷ xs) ys (suc i) a l = ap (λ (zs : List A). x ∷ zs) (set_left xs ys i a (omega (arith, l)))

map-remove : {A B : Type 0} (f : A → B) (xs : List A) (i : ℕ) → map f (remove xs i) ≡ remove (map f xs) i
map-remove f [] zero = refl
map-remove f [] (suc i) = refl
map-remove f (x ∷ xs) zero = refl
map-remove f (x ∷ xs) (suc i) = ap (λ ys. f x ∷ ys) (map-remove f xs i)

map-append : {A B : Type 0} (xs ys : List A) (f : A → B) → map f (xs ++ ys) ≡ map f xs ++ map f ys
map-append [] ys f = refl
map-append (x ∷ xs) ys f = ap (λ zs. f x ∷ zs) (map-append xs ys f)

module _ {T : Type 0} (entries : T → List (Key × Bp)) (items : List (Set T)) where
  abbrev seen : Graph
  seen = map (dataset_of entries) items

  there : (i : ℕ) (x : Set T) → x ≡ get_or items i x → i < length items → slice_get seen i ≡ Some (dataset_of entries x)
  there i x is l = read_at (dataset_of entries) items i x is (let n : length seen ≡ length items = length-map items (dataset_of entries) in omega (arith, l, n))

  -- other blocks in one dataset
  pub put_at : (i : ℕ) (x : Set T) → x ≡ get_or items i x → i < length items → (m : T) (changes : List (Key × Bp)) → entries m ≡ entries_with (entries x.map) changes → map (dataset_of entries) (slice_set items i (record x { map = m })) ≡ applied_at seen i changes
  put_at i x is l m changes e =
      map-set (dataset_of entries) items i (record x { map = m }) ∙ rw (there i x is l) (ap (λ (es : List (Key × Bp)). slice_set seen i (record (dataset_of entries x) { entries = es })) e)

  -- a map with the same blocks
  pub same_at : (i : ℕ) (x : Set T) → x ≡ get_or items i x → i < length items → (m : T) → entries m ≡ entries x.map → map (dataset_of entries) (slice_set items i (record x { map = m })) ≡ seen
  same_at i x is l m e =
      map-set (dataset_of entries) items i (record x { map = m }) ∙ ap (λ (es : List (Key × Bp)). slice_set seen i (record (dataset_of entries x) { entries = es })) e ∙ set_same seen i (dataset_of entries x) (there i x is l)

  -- two datasets with each other's map
  pub swap_at : (i j : ℕ) (x y z : Set T) (m1 m2 m3 : T) → i < length items → j < length items → i ≢ j → x ≡ get_or items i x → y ≡ get_or (slice_set items i (record x { map = m1 })) j y → z ≡ get_or (slice_set (slice_set items i (record x { map = m1 })) j (record y { map = m2 })) i z → m2 ≡ x.map → m3 ≡ y.map → map (dataset_of entries) (slice_set (slice_set (slice_set items i (record x { map = m1 })) j (record y { map = m2 })) i (record z { map = m3 })) ≡ swapped_at seen i j
  swap_at i j x y z m1 m2 m3 in_i in_j ne xi yi zi e2 e3 =
      let yj : y ≡ get_or items j y = yi ∙ get_other items i j (record x { map = m1 }) y ne in
      let zx : z ≡ record x { map = m1 } = zi ∙ get_other (slice_set items i (record x { map = m1 })) j i (record y { map = m2 }) z (λ e. ne (sym e)) ∙ get_set items i (record x { map = m1 }) z in_i in
      let last : record z { map = m3 } ≡ record x { map = y.map } = ap (λ (s : Set T). record s { map = m3 }) zx ∙ ap (λ (m : T). record x { map = m }) e3 in
      ap (λ (s : Set T). map (dataset_of entries) (slice_set (slice_set (slice_set items i (record x { map = m1 })) j (record y { map = m2 })) i s)) last
      ∙ ap (λ (l : List (Set T)). map (dataset_of entries) l) (set_over items i j (record x { map = m1 }) (record y { map = m2 }) (record x { map = y.map }) ne)
      ∙ map-set (dataset_of entries) (slice_set items j (record y { map = m2 })) i (record x { map = y.map })
      ∙ ap (λ (g : Graph). slice_set g i (dataset_of entries (record x { map = y.map }))) (map-set (dataset_of entries) items j (record y { map = m2 }))
      ∙ rw (there i x xi in_i, there j y yj in_j) (ap (λ (m : T). slice_set (slice_set seen j (dataset_of entries (record y { map = m }))) i (dataset_of entries (record x { map = y.map }))) e2)

  -- a dataset put on another parent
  pub adopt_at : (i : ℕ) (x : Set T) → x ≡ get_or items i x → i < length items → (parent : Option DsId) → map (dataset_of entries) (slice_set items i (record x { parent = parent })) ≡ adopted_at seen (Some i) parent
  adopt_at i x is l parent = map-set (dataset_of entries) items i (record x { parent = parent }) ∙ rw (there i x is l) refl

  -- and one taken out after that
  pub take_at : (i : ℕ) (x : Set T) → x ≡ get_or items i x → i < length items → (child : Option ℕ) (ys zs : List (Set T)) → map (dataset_of entries) ys ≡ adopted_at seen child x.parent → zs ≡ remove ys i → map (dataset_of entries) zs ≡ removed_at seen i child
  take_at i x is l child ys zs adopted taken =
      ap (λ (l : List (Set T)). map (dataset_of entries) l) taken ∙ map-remove (dataset_of entries) ys i ∙ ap (λ (g : Graph). remove g i) adopted ∙ rw (there i x is l) refl

  -- a snapshot behind the others, and the dataset on it
  pub below_put : (i : ℕ) (x y s : Set T) → x ≡ get_or items i x → i < length items → y ≡ get_or (items ++ s ∷ []) i y → (id : DsId) (label : Name) (t : ℕ) (es : List (Key × Bp)) → dataset_of entries s ≡ record { id = id; head = false; owner = x.owner; label = label; parent = x.parent; creation = t; entries = es } → map (dataset_of entries) (slice_set (items ++ s ∷ []) i (record y { parent = Some id })) ≡ below_at seen i id label t es
  below_put i x y s is l yi id label t es snap =
      let same : y ≡ x = yi ∙ get_left items (s ∷ []) i y l ∙ get_any items i y x l ∙ sym is in
      ap (λ (z : Set T). map (dataset_of entries) (slice_set (items ++ s ∷ []) i (record z { parent = Some id }))) same
      ∙ map-set (dataset_of entries) (items ++ s ∷ []) i (record x { parent = Some id })
      ∙ ap (λ (g : Graph). slice_set g i (record (dataset_of entries x) { parent = Some id })) (map-append items (s ∷ []) (dataset_of entries))
      ∙ set_left seen (dataset_of entries s ∷ []) i (record (dataset_of entries x) { parent = Some id }) (let n : length seen ≡ length items = length-map items (dataset_of entries) in omega (arith, l, n))
      ∙ ap (λ (d : Dataset). slice_set seen i (record (dataset_of entries x) { parent = Some id }) ++ d ∷ []) snap
      ∙ rw (there i x is l) refl
