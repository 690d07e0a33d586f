-- The tests of a dataset's blocks, and of what it shares with its parent, decide them.
use Rattle.std.proofs.Common.{◌≡◌, ◌⊎◌, ◌<◌, ◌≤◌, ◌+◌, ◌-◌, ◌*◌, ◌%◌, ◌/◌, ◌^◌, ℕ, zero, suc, Bool, true, false, not, ◌&&◌, ◌||◌, cond, List, [], ◌∷◌, refl, sym, ap, subst, ◌∙◌, Option, Some, None, find, arith}
use Rattle.std.specs.Prelude.{nat_le, nat_lt, ◌==◌, bytes_eq, take, unwrap_or}
use Rattle.std.specs.Bool.{Decides}
use Rattle.std.specs.List.{list_any, list_all, AllByRecursion}
use Rattle.std.specs.List.Sorted.{IsStrictlySortedBy}
use Rattle.std.specs.Map.{keys_of}
use Rattle.std.specs.Ordering.{is_lt}
use Rattle.std.specs.declared.cmp.Ordering.{Ordering}
use Rattle.std.specs.declared.cmp.Ordering.TheVariants.{Less, Equal, Greater}
use Rattle.std.specs.Cmp.Lexicographic.{pointwise}
use Rattle.std.proofs.lemmas.Bool.{true≢false}
use Rattle.std.proofs.lemmas.Bool.Decides.{Decides-and, Decides-or, Decides-eqb, Decides-ltb}
use Rattle.std.proofs.lemmas.Slice.Eq.{bytes_eq-Decides, slice_eq-Decides}
use Rattle.zs_ids.specs.declared.key.Key.{Key}
use Rattle.zs_ids.specs.declared.block.Bp.{Bp}
use Rattle.zs_ids.specs.declared.block.Place.{Place}
use Rattle.zs_ids.specs.Key.{key_cmp, root_key, dnode_key, parent_of}
use Rattle.zs_ids.specs.Blocks.{IsInKeyOrder}
use Rattle.zs_ids.specs.Graph.{Has, Dataset}
use Rattle.zs_ids.specs.GraphValid.{last_birth, record_sizes, ShareSector, ArePlacesApart, HasForm, IsObjectKey, IsBlock, HasBlock, HasBlocks, Shares}
use Rattle.zs_ids.specs.GraphValid.IsBlock.{root, dnodes, inner, leaf}
use Rattle.zs_graph.proofs.Lists.{some_is, some≢none}
use Rattle.zs_plain.specs.TreeTests.{is_key}
use Rattle.zs_plain.specs.BlockTests.{keys_rise, share_sector, are_places_apart, has_places, has_form, is_object_key, is_dnodes_key, is_inner, is_leaf, is_block, has_block, has_parent, is_in_order, fits_object, fits_levels, level_counts, has_levels, has_blocks, is_place, is_pointer, is_entry, does_share}
use Rattle.zs_plain.proofs.Decide.{like, itself, implies, at_most, some-of, each-of, has-of}
use Rattle.zs_plain.proofs.SoundDecides.{fails}
use Rattle.zs_plain.proofs.TreeDecides.{key_is}
use mathlib.Core.Logic.{inl, inr}

abbrev rank : Ordering → ℕ
rank Less = 0
rank Equal = 1
rank Greater = 2

less_is : (o : Ordering) → Decides (is_lt o) (o ≡ Less)
less_is Less = (λ e. refl, λ e. refl)
less_is Equal = fails (λ e. let n : 1 ≡ 0 = ap rank e in omega (arith, n))
less_is Greater = fails (λ e. let n : 2 ≡ 0 = ap rank e in omega (arith, n))

above_is : (k : Key) (es : List (Key × Bp)) → Decides (list_all (λ (f : Key × Bp). is_lt (key_cmp k f.0)) es) (AllByRecursion (λ (x : Key). key_cmp k x ≡ Less) (keys_of es))
above_is k [] = (λ e. tt, λ h. refl)
above_is k (f ∷ es) =
    Decides-and (is_lt (key_cmp k f.0)) (list_all (λ (x : Key × Bp). is_lt (key_cmp k x.0)) es) (less_is (key_cmp k f.0)) (above_is k es)

rise_is : (es : List (Key × Bp)) → Decides (keys_rise es) (IsInKeyOrder es)
unfolding IsStrictlySortedBy
rise_is [] = (λ e. tt, λ h. refl)
rise_is (e ∷ es) =
    Decides-and (list_all (λ (f : Key × Bp). is_lt (key_cmp e.0 f.0)) es) (keys_rise es) (above_is e.0 es) (rise_is es)

sharing_is : (sectors : ℕ) (p q : Place) → Decides (share_sector sectors p q) (ShareSector sectors p q)
sharing_is sectors p q =
    like (share_sector sectors p q) (Decides-and (p.vdev == q.vdev) (nat_lt p.sector (q.sector + sectors) && nat_lt q.sector (p.sector + sectors)) (Decides-eqb p.vdev q.vdev) (Decides-and (nat_lt p.sector (q.sector + sectors)) (nat_lt q.sector (p.sector + sectors)) (Decides-ltb p.sector (q.sector + sectors)) (Decides-ltb q.sector (p.sector + sectors)))) (λ w. record { vdev = w.0; before = w.1.0; behind = w.1.1 }) (λ s. (s.vdev, (s.before, s.behind)))

denied : {P : Type 0} (r : Bool) → Decides r P → Decides (not r) (P → ⊥)
denied true d = (λ e p. true≢false (sym e), λ f. absurd (f (d.0 refl)))
denied false d = (λ e p. true≢false (sym (d.1 p)), λ f. refl)

apart_is : (sectors : ℕ) (ps : List Place) → Decides (are_places_apart sectors ps) (ArePlacesApart sectors ps)
apart_is sectors [] = (λ e. tt, λ h. refl)
apart_is sectors (p ∷ ps) =
    Decides-and (list_all (λ (q : Place). not (share_sector sectors p q)) ps) (are_places_apart sectors ps) (each-of (λ (q : Place). not (share_sector sectors p q)) (λ (q : Place). ShareSector sectors p q → ⊥) (λ q. denied (share_sector sectors p q) (sharing_is sectors p q)) ps) (apart_is sectors ps)

places_is : (bp : Bp) → Decides (has_places bp) ((1 ≤ bp.count) × ((bp.count ≤ 3) × ArePlacesApart bp.sectors (take bp.count bp.places)))
places_is bp =
    Decides-and (nat_le 1 bp.count) (nat_le bp.count 3 && are_places_apart bp.sectors (take bp.count bp.places)) (at_most 1 bp.count) (Decides-and (nat_le bp.count 3) (are_places_apart bp.sectors (take bp.count bp.places)) (at_most bp.count 3) (apart_is bp.sectors (take bp.count bp.places)))

form_is : (bp : Bp) (sectors level : ℕ) → Decides (has_form bp sectors level) (HasForm bp sectors level)
form_is bp sectors level =
    like (has_form bp sectors level) (Decides-and (bp.sectors == sectors) (bp.level == level && has_places bp) (Decides-eqb bp.sectors sectors) (Decides-and (bp.level == level) (has_places bp) (Decides-eqb bp.level level) (places_is bp))) (λ w. record { size = w.0; height = w.1.0; some = w.1.1.0; few = w.1.1.1.0; apart = w.1.1.1.1 }) (λ f. (f.size, (f.height, (f.some, (f.few, f.apart)))))

object_is : (levels level span leaves : ℕ) (k : Key) → span ≡ 64 ^ level → leaves ≡ 64 ^ (levels - 1) → Decides (is_object_key span leaves level k) (IsObjectKey levels level k)
object_is levels level span leaves k spans many =
    like (is_object_key span leaves level k) (Decides-and (nat_le 1 k.object && nat_le k.object 2047) (k.rank == 1 && (k.leaf % span == 0 && (nat_lt k.leaf leaves && k.depth + level == 3))) (Decides-and (nat_le 1 k.object) (nat_le k.object 2047) (at_most 1 k.object) (at_most k.object 2047)) (Decides-and (k.rank == 1) (k.leaf % span == 0 && (nat_lt k.leaf leaves && k.depth + level == 3)) (Decides-eqb k.rank 1) (Decides-and (k.leaf % span == 0) (nat_lt k.leaf leaves && k.depth + level == 3) (Decides-eqb (k.leaf % span) 0) (Decides-and (nat_lt k.leaf leaves) (k.depth + level == 3) (Decides-ltb k.leaf leaves) (Decides-eqb (k.depth + level) 3))))) (λ w. record { from_one = w.0.0; to_last = w.0.1; rank = w.1.0; first_leaf = subst (λ (x : ℕ). k.leaf % x ≡ 0) spans w.1.1.0; below_end = subst (λ (x : ℕ). k.leaf < x) many w.1.1.1.0; depth = w.1.1.1.1 }) (λ o. ((o.from_one, o.to_last), (o.rank, (subst (λ (x : ℕ). k.leaf % x ≡ 0) (sym spans) o.first_leaf, (subst (λ (x : ℕ). k.leaf < x) (sym many) o.below_end, o.depth)))))

abbrev keyed : ℕ → ℕ → ℕ → ℕ → Key
keyed o r l d = record { object = o; rank = r; leaf = l; depth = d }

-- the key of the dnodes from object 32j on
no_rest : (j : ℕ) → 32 * j - 32 * j % 32 ≡ 32 * j
no_rest j = omega arith

thirds : (n : ℕ) → n % 32 ≡ 0 → 32 * (n / 32) ≡ n
thirds n e = omega (arith, e)

dnodes_is : (k : Key) → Decides (is_dnodes_key k) ((j : ℕ) × (j < 64) × (k ≡ dnode_key (32 * j)))
dnodes_is k =
    like (is_dnodes_key k) (Decides-and (k.object % 32 == 0 && nat_lt k.object 2048) (k.rank == 0 && (k.leaf == 0 && k.depth == 1)) (Decides-and (k.object % 32 == 0) (nat_lt k.object 2048) (Decides-eqb (k.object % 32) 0) (Decides-ltb k.object 2048)) (Decides-and (k.rank == 0) (k.leaf == 0 && k.depth == 1) (Decides-eqb k.rank 0) (Decides-and (k.leaf == 0) (k.depth == 1) (Decides-eqb k.leaf 0) (Decides-eqb k.depth 1)))) to from
  where
    to : ((k.object % 32 ≡ 0) × (k.object < 2048)) × ((k.rank ≡ 0) × ((k.leaf ≡ 0) × (k.depth ≡ 1))) → (j : ℕ) × (j < 64) × (k ≡ dnode_key (32 * j))
    to w =
        let whole : k.object % 32 ≡ 0 = w.0.0 in
        let small : k.object < 2048 = w.0.1 in
        let first : k.object ≡ 32 * (k.object / 32) - 32 * (k.object / 32) % 32 = sym (thirds k.object whole) ∙ sym (no_rest (k.object / 32)) in
        (k.object / 32, omega (arith, whole, small), ap (λ (x : ℕ). keyed x k.rank k.leaf k.depth) first ∙ ap (λ (x : ℕ). keyed (32 * (k.object / 32) - 32 * (k.object / 32) % 32) x k.leaf k.depth) w.1.0 ∙ ap (λ (x : ℕ). keyed (32 * (k.object / 32) - 32 * (k.object / 32) % 32) 0 x k.depth) w.1.1.0 ∙ ap (λ (x : ℕ). keyed (32 * (k.object / 32) - 32 * (k.object / 32) % 32) 0 0 x) w.1.1.1)

    from : ((j : ℕ) × (j < 64) × (k ≡ dnode_key (32 * j))) → ((k.object % 32 ≡ 0) × (k.object < 2048)) × ((k.rank ≡ 0) × ((k.leaf ≡ 0) × (k.depth ≡ 1)))
    from w =
        let object : k.object ≡ 32 * w.0 = ap (λ (x : Key). x.object) w.2 ∙ no_rest w.0 in
        let small : w.0 < 64 = w.1 in
        ((omega (arith, object), omega (arith, object, small)), (ap (λ (x : Key). x.rank) w.2, (ap (λ (x : Key). x.leaf) w.2, ap (λ (x : Key). x.depth) w.2)))

module _ (levels size : ℕ) (e : Key × Bp) where
  inner_is : (level : ℕ) → Decides (is_inner levels level e) ((0 < level) × ((level < levels) × (IsObjectKey levels level e.0 × HasForm e.1 8 level)))
  inner_is level =
      Decides-and (nat_lt 0 level) (nat_lt level levels && (is_object_key (64 ^ level) (64 ^ (levels - 1)) level e.0 && has_form e.1 8 level)) (Decides-ltb 0 level) (Decides-and (nat_lt level levels) (is_object_key (64 ^ level) (64 ^ (levels - 1)) level e.0 && has_form e.1 8 level) (Decides-ltb level levels) (Decides-and (is_object_key (64 ^ level) (64 ^ (levels - 1)) level e.0) (has_form e.1 8 level) (object_is levels level (64 ^ level) (64 ^ (levels - 1)) e.0 refl refl) (form_is e.1 8 level)))

  leaf_is : Decides (is_leaf levels size e) ((0 < levels) × (IsObjectKey levels 0 e.0 × HasForm e.1 size 0))
  leaf_is =
      Decides-and (nat_lt 0 levels) (is_object_key 1 (64 ^ (levels - 1)) 0 e.0 && has_form e.1 size 0) (Decides-ltb 0 levels) (Decides-and (is_object_key 1 (64 ^ (levels - 1)) 0 e.0) (has_form e.1 size 0) (object_is levels 0 1 (64 ^ (levels - 1)) e.0 refl refl) (form_is e.1 size 0))

  abbrev Kinds : Type 0
  Kinds = (((e.0 ≡ root_key) × HasForm e.1 8 1) ⊎ (((j : ℕ) × (j < 64) × (e.0 ≡ dnode_key (32 * j))) × HasForm e.1 8 0)) ⊎ (((0 < 3 - e.0.depth) × ((3 - e.0.depth < levels) × (IsObjectKey levels (3 - e.0.depth) e.0 × HasForm e.1 8 (3 - e.0.depth)))) ⊎ ((0 < levels) × (IsObjectKey levels 0 e.0 × HasForm e.1 size 0)))

  kinds_is : Decides (is_block levels size e) Kinds
  kinds_is =
      Decides-or ((is_key e.0 root_key && has_form e.1 8 1) || (is_dnodes_key e.0 && has_form e.1 8 0)) (is_inner levels (3 - e.0.depth) e || is_leaf levels size e) (Decides-or (is_key e.0 root_key && has_form e.1 8 1) (is_dnodes_key e.0 && has_form e.1 8 0) (Decides-and (is_key e.0 root_key) (has_form e.1 8 1) (key_is e.0 root_key) (form_is e.1 8 1)) (Decides-and (is_dnodes_key e.0) (has_form e.1 8 0) (dnodes_is e.0) (form_is e.1 8 0))) (Decides-or (is_inner levels (3 - e.0.depth) e) (is_leaf levels size e) (inner_is (3 - e.0.depth)) leaf_is)

  to_block : Kinds → IsBlock levels size e
  to_block (inl (inl r)) = root r.0 r.1
  to_block (inl (inr d)) = dnodes d.0.0 d.0.1 d.0.2 d.1
  to_block (inr (inl i)) = inner (3 - e.0.depth) i.0 i.1.0 i.1.1.0 i.1.1.1
  to_block (inr (inr l)) = leaf l.0 l.1.0 l.1.1

  at_level : (level : ℕ) → level ≡ 3 - e.0.depth → 0 < level → level < levels → IsObjectKey levels level e.0 → HasForm e.1 8 level → Kinds
  at_level level is positive below k f =
      subst (λ (x : ℕ). (((e.0 ≡ root_key) × HasForm e.1 8 1) ⊎ (((j : ℕ) × (j < 64) × (e.0 ≡ dnode_key (32 * j))) × HasForm e.1 8 0)) ⊎ (((0 < x) × ((x < levels) × (IsObjectKey levels x e.0 × HasForm e.1 8 x))) ⊎ ((0 < levels) × (IsObjectKey levels 0 e.0 × HasForm e.1 size 0)))) is (inr (inl (positive, (below, (k, f)))))

  from_block : IsBlock levels size e → Kinds
  from_block (root k f) = inl (inl (k, f))
  from_block (dnodes j small k f) = inl (inr ((j, small, k), f))
  from_block (inner level positive below k f) =
      let three : e.0.depth + level ≡ 3 = k.depth in
      at_level level (omega (arith, three)) positive below k f
  from_block (leaf positive k f) = inr (inr (positive, (k, f)))

  pub block_is : Decides (is_block levels size e) (IsBlock levels size e)
  block_is = like (is_block levels size e) kinds_is to_block from_block

module _ (d : Dataset) where
  has_block_is : (k : Key) (birth : ℕ) → Decides (has_block d.entries k birth) (HasBlock d k birth)
  has_block_is k birth =
      like (has_block d.entries k birth) (some-of (λ (e : Key × Bp). is_key e.0 k && nat_le birth e.1.birth) (λ (e : Key × Bp). (e.0 ≡ k) × (birth ≤ e.1.birth)) (λ e. Decides-and (is_key e.0 k) (nat_le birth e.1.birth) (key_is e.0 k) (at_most birth e.1.birth)) d.entries) (λ w. record { entry = w.0; is_entry = w.1; is_key = w.2.0; later = w.2.1 }) (λ b. (b.entry, b.is_entry, (b.is_key, b.later)))

  parent_is : (birth : ℕ) (o : Option Key) → Decides (has_parent d.entries birth o) ((k : Key) → o ≡ Some k → HasBlock d k birth)
  parent_is birth None = (λ e k is. absurd (some≢none k (sym is)), λ h. refl)
  parent_is birth (Some k) =
      like (has_block d.entries k birth) (has_block_is k birth) (λ b x is. subst (λ (y : Key). HasBlock d y birth) (some_is k x is) b) (λ f. f k refl)

  abbrev InOrder : ℕ → ℕ → Key × Bp → Type 0
  InOrder levels size e = IsBlock levels size e × ((k : Key) → parent_of e.0 levels ≡ Some k → HasBlock d k e.1.birth)

  in_order_is : (levels size : ℕ) (e : Key × Bp) → Decides (is_in_order d.entries levels size e) (InOrder levels size e)
  in_order_is levels size e =
      Decides-and (is_block levels size e) (has_parent d.entries e.1.birth (parent_of e.0 levels)) (block_is levels size e) (parent_is e.1.birth (parent_of e.0 levels))

  abbrev Fits : ℕ → ℕ → ℕ → Type 0
  Fits object levels size = (e : Key × Bp) → Has d.entries e → e.0.object ≡ object → InOrder levels size e

  fits_is : (object levels size : ℕ) → Decides (fits_object d.entries object levels size) (Fits object levels size)
  fits_is object levels size =
      each-of (λ (e : Key × Bp). not (e.0.object == object) || is_in_order d.entries levels size e) (λ (e : Key × Bp). e.0.object ≡ object → InOrder levels size e) (λ e. implies (e.0.object == object) (is_in_order d.entries levels size e) (Decides-eqb e.0.object object) (in_order_is levels size e)) d.entries

-- what a search finds passes its test, where any does, and stands in the list
found_passes : (f : ℕ → Bool) (xs : List ℕ) (n : ℕ) → list_any f xs ≡ true → f (unwrap_or (find f xs) n) ≡ true
found_passes f [] n e = absurd (true≢false (sym e))
found_passes f (x ∷ xs) n e = go (f x) refl e (found_passes f xs n)
  where
    go : (b : Bool) → f x ≡ b → (b || list_any f xs) ≡ true → (list_any f xs ≡ true → f (unwrap_or (find f xs) n) ≡ true) → f (unwrap_or (cond b (Some x) (find f xs)) n) ≡ true
    go true is e2 rest = is
    go false is e2 rest = rest e2

found_there : (f : ℕ → Bool) (all xs : List ℕ) (n : ℕ) → Has all n → ((x : ℕ) → Has xs x → Has all x) → Has all (unwrap_or (find f xs) n)
found_there f all [] n h sub = h
found_there f all (x ∷ xs) n h sub = go (f x) (found_there f all xs n h (λ y i. sub y (inr i)))
  where
    go : (b : Bool) → Has all (unwrap_or (find f xs) n) → Has all (unwrap_or (cond b (Some x) (find f xs)) n)
    go true rest = sub x (inl refl)
    go false rest = rest

-- the numbers of levels
few_levels : (n : ℕ) → Has level_counts n → n ≤ 4
few_levels n (inl e) = omega (arith, e)
few_levels n (inr (inl e)) = omega (arith, e)
few_levels n (inr (inr (inl e))) = omega (arith, e)
few_levels n (inr (inr (inr (inl e)))) = omega (arith, e)
few_levels n (inr (inr (inr (inr (inl e))))) = omega (arith, e)
few_levels n (inr (inr (inr (inr (inr h))))) = absurd h

level_there : (n : ℕ) → n ≤ 4 → Has level_counts n
level_there zero le = inl refl
level_there (suc zero) le = inr (inl refl)
level_there (suc (suc zero)) le = inr (inr (inl refl))
level_there (suc (suc (suc zero))) le = inr (inr (inr (inl refl)))
level_there (suc (suc (suc (suc zero)))) le = inr (inr (inr (inr (inl refl))))
level_there (suc (suc (suc (suc (suc n))))) le = absurd (omega (arith, le))

module _ (d : Dataset) (n : ℕ) where
  abbrev levels_of : ℕ → ℕ
  levels_of object = unwrap_or (find (λ (levels : ℕ). fits_levels d.entries object levels) level_counts) 0

  abbrev size_of : ℕ → ℕ
  size_of object = unwrap_or (find (λ (size : ℕ). fits_object d.entries object (levels_of object) size) record_sizes) 1

  chosen : (e : Key × Bp) → has_levels d.entries e.0.object ≡ true → Has d.entries e → InOrder d (levels_of e.0.object) (size_of e.0.object) e
  chosen e has h =
      let levels = found_passes (λ (l : ℕ). fits_levels d.entries e.0.object l) level_counts 0 has in
      let sizes = found_passes (λ (s : ℕ). fits_object d.entries e.0.object (levels_of e.0.object) s) record_sizes 1 levels in
      (fits_is d e.0.object (levels_of e.0.object) (size_of e.0.object)).0 sizes e h refl

  to_blocks : IsInKeyOrder d.entries → ((e : Key × Bp) → Has d.entries e → e.1.birth ≤ last_birth d n) → ((e : Key × Bp) → Has d.entries e → has_levels d.entries e.0.object ≡ true) → HasBlocks d n
  to_blocks order births has = record {
    in_order = order;
    births = births;
    levels = levels_of;
    at_most_four = λ o. few_levels (levels_of o) (found_there (λ (l : ℕ). fits_levels d.entries o l) level_counts level_counts 0 (inl refl) (λ x i. i));
    size = size_of;
    is_size = λ o. found_there (λ (s : ℕ). fits_object d.entries o (levels_of o) s) record_sizes record_sizes 1 (inl refl) (λ x i. i);
    blocks = λ e h. (chosen e (has e h) h).0;
    parents = λ e h. (chosen e (has e h) h).1;
  }

  from_blocks : (b : HasBlocks d n) → (e : Key × Bp) → Has d.entries e → has_levels d.entries e.0.object ≡ true
  from_blocks b e h =
      (some-of (λ (l : ℕ). fits_levels d.entries e.0.object l) (λ (l : ℕ). fits_levels d.entries e.0.object l ≡ true) (λ l. itself (fits_levels d.entries e.0.object l)) level_counts).1 (b.levels e.0.object, level_there (b.levels e.0.object) (b.at_most_four e.0.object), sized)
    where
      all : Fits d e.0.object (b.levels e.0.object) (b.size e.0.object)
      all f i same =
          subst (λ (o : ℕ). InOrder d (b.levels o) (b.size o) f) same (b.blocks f i, b.parents f i)

      sized : fits_levels d.entries e.0.object (b.levels e.0.object) ≡ true
      sized =
          (some-of (λ (s : ℕ). fits_object d.entries e.0.object (b.levels e.0.object) s) (λ (s : ℕ). fits_object d.entries e.0.object (b.levels e.0.object) s ≡ true) (λ s. itself (fits_object d.entries e.0.object (b.levels e.0.object) s)) record_sizes).1 (b.size e.0.object, b.is_size e.0.object, (fits_is d e.0.object (b.levels e.0.object) (b.size e.0.object)).1 all)

  pub blocks_is : Decides (has_blocks d n) (HasBlocks d n)
  blocks_is =
      like (has_blocks d n) (Decides-and (keys_rise d.entries) (list_all (λ (e : Key × Bp). nat_le e.1.birth (last_birth d n)) d.entries && list_all (λ (e : Key × Bp). has_levels d.entries e.0.object) d.entries) (rise_is d.entries) (Decides-and (list_all (λ (e : Key × Bp). nat_le e.1.birth (last_birth d n)) d.entries) (list_all (λ (e : Key × Bp). has_levels d.entries e.0.object) d.entries) (each-of (λ (e : Key × Bp). nat_le e.1.birth (last_birth d n)) (λ (e : Key × Bp). e.1.birth ≤ last_birth d n) (λ e. at_most e.1.birth (last_birth d n)) d.entries) (each-of (λ (e : Key × Bp). has_levels d.entries e.0.object) (λ (e : Key × Bp). has_levels d.entries e.0.object ≡ true) (λ e. itself (has_levels d.entries e.0.object)) d.entries))) (λ w. to_blocks w.0 w.1.0 w.1.1) (λ b. (b.in_order, (b.births, from_blocks b)))

-- entries that are one by the test are one
abbrev placed : ℕ → ℕ → Place
placed vdev sector = record { vdev = vdev; sector = sector }

place_is : (a b : Place) → Decides (is_place a b) (a ≡ b)
place_is a b =
    like (is_place a b) (Decides-and (a.vdev == b.vdev) (a.sector == b.sector) (Decides-eqb a.vdev b.vdev) (Decides-eqb a.sector b.sector)) (λ h. ap (λ (x : ℕ). placed x a.sector) h.0 ∙ ap (λ (x : ℕ). placed b.vdev x) h.1) (λ e. (ap (λ (x : Place). x.vdev) e, ap (λ (x : Place). x.sector) e))

abbrev pointing : ℕ → List Place → ℕ → ℕ → ℕ → List ℕ → Bp
pointing count places sectors birth level sum =
    record { count = count; places = places; sectors = sectors; birth = birth; level = level; sum = sum }

pointer_is : (a b : Bp) → Decides (is_pointer a b) (a ≡ b)
pointer_is a b =
    like (is_pointer a b) (Decides-and (a.count == b.count) (pointwise is_place a.places b.places && (a.sectors == b.sectors && (a.birth == b.birth && (a.level == b.level && bytes_eq a.sum b.sum)))) (Decides-eqb a.count b.count) (Decides-and (pointwise is_place a.places b.places) (a.sectors == b.sectors && (a.birth == b.birth && (a.level == b.level && bytes_eq a.sum b.sum))) (slice_eq-Decides place_is a.places b.places (pointwise is_place a.places b.places) refl) (Decides-and (a.sectors == b.sectors) (a.birth == b.birth && (a.level == b.level && bytes_eq a.sum b.sum)) (Decides-eqb a.sectors b.sectors) (Decides-and (a.birth == b.birth) (a.level == b.level && bytes_eq a.sum b.sum) (Decides-eqb a.birth b.birth) (Decides-and (a.level == b.level) (bytes_eq a.sum b.sum) (Decides-eqb a.level b.level) (bytes_eq-Decides a.sum b.sum)))))) (λ h. ap (λ (x : ℕ). pointing x a.places a.sectors a.birth a.level a.sum) h.0 ∙ ap (λ (x : List Place). pointing b.count x a.sectors a.birth a.level a.sum) h.1.0 ∙ ap (λ (x : ℕ). pointing b.count b.places x a.birth a.level a.sum) h.1.1.0 ∙ ap (λ (x : ℕ). pointing b.count b.places b.sectors x a.level a.sum) h.1.1.1.0 ∙ ap (λ (x : ℕ). pointing b.count b.places b.sectors b.birth x a.sum) h.1.1.1.1.0 ∙ ap (λ (x : List ℕ). pointing b.count b.places b.sectors b.birth b.level x) h.1.1.1.1.1) (λ e. (ap (λ (x : Bp). x.count) e, (ap (λ (x : Bp). x.places) e, (ap (λ (x : Bp). x.sectors) e, (ap (λ (x : Bp). x.birth) e, (ap (λ (x : Bp). x.level) e, ap (λ (x : Bp). x.sum) e))))))

abbrev entry : Key → Bp → Key × Bp
entry k bp = (k, bp)

entry_is : (e f : Key × Bp) → Decides (is_entry e f) (e ≡ f)
entry_is e f =
    like (is_entry e f) (Decides-and (is_key e.0 f.0) (is_pointer e.1 f.1) (key_is e.0 f.0) (pointer_is e.1 f.1)) (λ h. ap (λ (k : Key). entry k e.1) h.0 ∙ ap (λ (bp : Bp). entry f.0 bp) h.1) (λ s. (ap (λ (x : Key × Bp). x.0) s, ap (λ (x : Key × Bp). x.1) s))

pub share_is : (d parent : Dataset) → Decides (does_share d parent) (Shares d parent)
share_is d parent =
    like (does_share d parent) (Decides-and (list_all (λ (e : Key × Bp). has_block d.entries e.0 0) parent.entries) (list_all (λ (e : Key × Bp). not (nat_le e.1.birth parent.creation) || list_any (λ (f : Key × Bp). is_entry f e) parent.entries) d.entries) (each-of (λ (e : Key × Bp). has_block d.entries e.0 0) (λ (e : Key × Bp). HasBlock d e.0 0) (λ e. has_block_is d e.0 0) parent.entries) (each-of (λ (e : Key × Bp). not (nat_le e.1.birth parent.creation) || list_any (λ (f : Key × Bp). is_entry f e) parent.entries) (λ (e : Key × Bp). e.1.birth ≤ parent.creation → Has parent.entries e) (λ e. implies (nat_le e.1.birth parent.creation) (list_any (λ (f : Key × Bp). is_entry f e) parent.entries) (at_most e.1.birth parent.creation) (has-of (λ (f : Key × Bp). is_entry f e) e (λ f. entry_is f e) parent.entries)) d.entries)) (λ w. record { keys = w.0; shared = w.1 }) (λ s. (s.keys, s.shared))
