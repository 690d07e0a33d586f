-- One more block is made, of an entry whose key is below those of the blocks made so far.
use Rattle.std.proofs.Common.{◌≡◌, ◌∙◌, sym, ap, refl, subst, ℕ, cond, List, [], ◌∷◌, ◌++◌, length, map, reverse, append_assoc, append-nil, Option, Some, None}
use Rattle.std.specs.declared.cmp.Ordering.TheVariants.{Less}
use Rattle.std.specs.Ordering.{ordering_reverse, is_eq, match_ordering}
use Rattle.std.specs.Cmp.{IsTotalOrder}
use Rattle.std.proofs.lemmas.Cmp.{nat_cmp_total, on_total, then_total}
use Rattle.std.proofs.lemmas.List.{reverse-append}
use Rattle.std.specs.Map.{lookup}
use Rattle.std.specs.BTreeMap.{insert_entry, is_at}
use Rattle.std.specs.List.{AllByRecursion}
use Rattle.std.specs.List.Sorted.{IsStrictlySortedBy}
use Rattle.zs_ids.specs.declared.key.Key.{Key}
use Rattle.zs_ids.specs.declared.block.Bp.{Bp}
use Rattle.zs_ids.specs.Key.{key_cmp}
use Rattle.zs_txg.specs.declared.staged.StagedEntry.{StagedEntry}
use Rattle.zs_txg.specs.Txg.{IsInKeyOrder}
use Rattle.zs_objset.specs.declared.block.StagedBlock.{StagedBlock}
use Rattle.zs_objset.specs.Staged.{pointer_of, staged_bytes, size_of, block_of, pointers_of, or_else, over, AreBlocksOf, IsSized, AreSized}
use Rattle.zs_objset.specs.Done.{AreDone}
use Rattle.zs_objset.proofs.Below.{AreSameAbove, block_same}

pub key_total : IsTotalOrder key_cmp
key_total = then_total (on_total (λ (k : Key). k.object) nat_cmp_total) (then_total (on_total (λ (k : Key). k.rank) nat_cmp_total) (then_total (on_total (λ (k : Key). k.leaf) nat_cmp_total) (on_total (λ (k : Key). k.depth) nat_cmp_total)))

abbrev pub keys_in : List StagedEntry → List Key
keys_in entries = map (λ e. e.key) entries

-- a pointer that is put over others is not seen above its key
over_above : (ps : List (Key × Bp)) (get : Key → Option Bp) (k : Key) (bp : Bp) (c : Key) → key_cmp k c ≡ Less → over ps get c ≡ over ((k, bp) ∷ ps) get c
over_above ps get k bp c h =
    sym (ap (λ r. or_else (cond (is_eq r) (Some bp) (lookup (is_at (key_cmp c)) ps)) (get c)) (key_total.antisymm c k ∙ ap ordering_reverse h))

bytes_same : (g h : Key → Option Bp) (k : Key) (sectors : ℕ) (fill : Option ℕ) → AreSameAbove g h k → staged_bytes g k sectors fill ≡ staged_bytes h k sectors fill
bytes_same g h k sectors (Some fill) s = refl
bytes_same g h k sectors None s = block_same g h k s

block_is_same : (g h : Key → Option Bp) (t : ℕ) (e : StagedEntry) → AreSameAbove g h e.key → block_of g t e ≡ block_of h t e
block_is_same g h t e s =
    ap (λ bytes. record { ds = e.ds; key = e.key; bp = pointer_of t e bytes; bytes = bytes }) (bytes_same g h e.key e.sectors e.fill s)

blocks_same : (g h : Key → Option Bp) (t : ℕ) (k : Key) (es : List StagedEntry) → AreSameAbove g h k → AllByRecursion (λ x. key_cmp k x ≡ Less) (keys_in es) → map (block_of g t) es ≡ map (block_of h t) es
blocks_same g h t k [] s a = refl
blocks_same g h t k (e ∷ es) s a =
    ap (λ b. b ∷ map (block_of g t) es) (block_is_same g h t e (λ c l. s c (key_total.trans k e.key c a.0 l)))
    ∙ ap (λ l. block_of h t e ∷ l) (blocks_same g h t k es s a.1)

insert_front : (k : Key) (bp : Bp) (p : Key × Bp) (ps : List (Key × Bp)) → key_cmp k p.0 ≡ Less → insert_entry key_cmp (p ∷ ps) k bp ≡ (k, bp) ∷ p ∷ ps
insert_front k bp p ps h = ap (λ r. match_ordering r ((k, bp) ∷ p ∷ ps) ((p.0, bp) ∷ ps) (p ∷ insert_entry key_cmp ps k bp)) h

insert_below : (g : Key → Option Bp) (t : ℕ) (k : Key) (bp : Bp) (es : List StagedEntry) → AllByRecursion (λ x. key_cmp k x ≡ Less) (keys_in es) → insert_entry key_cmp (pointers_of (map (block_of g t) es)) k bp ≡ (k, bp) ∷ pointers_of (map (block_of g t) es)
insert_below g t k bp [] a = refl
insert_below g t k bp (e ∷ es) a = insert_front k bp (e.key, (block_of g t e).bp) (pointers_of (map (block_of g t) es)) a.0

-- the keys after one are above it
above_mid : (xs : List StagedEntry) (e : StagedEntry) (es : List StagedEntry) → IsInKeyOrder (xs ++ (e ∷ es)) → AllByRecursion (λ x. key_cmp e.key x ≡ Less) (keys_in es)
unfolding IsStrictlySortedBy
above_mid [] e es s = s.0
above_mid (x ∷ xs) e es s = above_mid xs e es s.1

reverse_end : (blocks : List StagedBlock) (b : StagedBlock) → reverse (blocks ++ b ∷ []) ≡ b ∷ reverse blocks
reverse_end blocks b = reverse-append blocks (b ∷ [])

made_more : (get : Key → Option Bp) (t : ℕ) (e : StagedEntry) (rest : List StagedEntry) (made : List StagedBlock) → AllByRecursion (λ x. key_cmp e.key x ≡ Less) (keys_in rest) → AreBlocksOf get t rest made → AreBlocksOf get t (e ∷ rest) (block_of (over (pointers_of made) get) t e ∷ made)
made_more get t e rest made a h =
    let g : Key → Option Bp = over (pointers_of made) get in
    let b : StagedBlock = block_of g t e in
    let s : AreSameAbove g (over ((e.key, b.bp) ∷ pointers_of made) get) e.key = over_above (pointers_of made) get e.key b.bp in
    ap (λ x. x ∷ made) (block_is_same g (over ((e.key, b.bp) ∷ pointers_of made) get) t e s)
    ∙ ap (λ l. block_of (over ((e.key, b.bp) ∷ pointers_of made) get) t e ∷ l) (h ∙ blocks_same g (over ((e.key, b.bp) ∷ pointers_of made) get) t e.key rest s a)

listed_more : (get : Key → Option Bp) (t : ℕ) (k : Key) (bp : Bp) (rest : List StagedEntry) (made : List StagedBlock) → AllByRecursion (λ x. key_cmp k x ≡ Less) (keys_in rest) → AreBlocksOf get t rest made → insert_entry key_cmp (pointers_of made) k bp ≡ (k, bp) ∷ pointers_of made
listed_more get t k bp rest made a h =
    subst (λ (m : List StagedBlock). insert_entry key_cmp (pointers_of m) k bp ≡ (k, bp) ∷ pointers_of m) (sym h) (insert_below (over (pointers_of made) get) t k bp rest a)

pub done_more : (get : Key → Option Bp) (t : ℕ) (all before todo : List StagedEntry) (e : StagedEntry) (ps now : List (Key × Bp)) (blocks made : List StagedBlock) → IsInKeyOrder all → before ≡ todo ++ e ∷ [] → AreDone get t all before ps blocks → made ≡ blocks ++ block_of (over ps get) t e ∷ [] → IsSized e (block_of (over ps get) t e) → now ≡ insert_entry key_cmp ps e.key (block_of (over ps get) t e).bp → AreDone get t all todo now made
done_more get t all before todo e ps now blocks made order is d m size n =
    let split : todo ++ (e ∷ d.rest) ≡ all = sym (append_assoc todo (e ∷ []) d.rest) ∙ ap (λ l. l ++ d.rest) (sym is) ∙ d.split in
    let a : AllByRecursion (λ x. key_cmp e.key x ≡ Less) (keys_in d.rest) = above_mid todo e d.rest (subst (λ (l : List StagedEntry). IsInKeyOrder l) (sym split) order) in
    let b : StagedBlock = block_of (over ps get) t e in
    let r : reverse made ≡ b ∷ reverse blocks = ap reverse m ∙ reverse_end blocks b in
    let q : b ≡ block_of (over (pointers_of (reverse blocks)) get) t e = ap (λ l. block_of (over l get) t e) d.listed in
    record {
      rest = e ∷ d.rest;
      split = split;
      made = subst (λ (l : List StagedBlock). AreBlocksOf get t (e ∷ d.rest) l) (sym (r ∙ ap (λ x. x ∷ reverse blocks) q)) (made_more get t e d.rest (reverse blocks) a d.made);
      sized = ap (λ (l : List StagedBlock). map (λ (x : StagedBlock). length x.bytes) l) r ∙ ap (λ (k : ℕ). k ∷ map (λ (x : StagedBlock). length x.bytes) (reverse blocks)) size ∙ ap (λ (ks : List ℕ). size_of e.sectors e.fill ∷ ks) d.sized;
      listed = n ∙ ap (λ l. insert_entry key_cmp l e.key b.bp) d.listed ∙ listed_more get t e.key b.bp d.rest (reverse blocks) a d.made ∙ ap pointers_of (sym r);
    }

pub done_begins : (get : Key → Option Bp) (t : ℕ) (all : List StagedEntry) (ps : List (Key × Bp)) (blocks : List StagedBlock) → ps ≡ [] → blocks ≡ [] → AreDone get t all all ps blocks
done_begins get t all ps blocks p b = record {
  rest = [];
  split = append-nil all;
  made = subst (λ (l : List StagedBlock). AreBlocksOf get t [] (reverse l)) (sym b) refl;
  sized = subst (λ (l : List StagedBlock). AreSized [] (reverse l)) (sym b) refl;
  listed = p ∙ ap (λ l. pointers_of (reverse l)) (sym b);
}

pub done_all : (get : Key → Option Bp) (t : ℕ) (all todo : List StagedEntry) (ps : List (Key × Bp)) (blocks : List StagedBlock) → AreDone get t all todo ps blocks → todo ≡ [] → AreBlocksOf get t all (reverse blocks)
done_all get t all todo ps blocks d e =
    subst (λ (l : List StagedEntry). AreBlocksOf get t l (reverse blocks)) (ap (λ l. l ++ d.rest) (sym e) ∙ d.split) d.made

pub done_sized : (get : Key → Option Bp) (t : ℕ) (all todo : List StagedEntry) (ps : List (Key × Bp)) (blocks : List StagedBlock) → AreDone get t all todo ps blocks → todo ≡ [] → AreSized all (reverse blocks)
done_sized get t all todo ps blocks d e =
    subst (λ (l : List StagedEntry). AreSized l (reverse blocks)) (ap (λ l. l ++ d.rest) (sym e) ∙ d.split) d.sized
