-- The bytes of a block are made of the pointers at greater keys alone.
use Rattle.std.proofs.Common.{◌≡◌, ◌∙◌, sym, ap, refl, ℕ, zero, suc, ◌+◌, ◌-◌, ◌*◌, ◌^◌, ◌<◌, ◌==◌, arith, lt-ltb, eqb-true, Bool, true, false, cond, not, ◌&&◌, List, [], ◌∷◌, ◌++◌, Option, Some, None, is_some, find, flat_map, replicate}
use Rattle.std.specs.declared.cmp.Ordering.{Ordering}
use Rattle.std.specs.declared.cmp.Ordering.TheVariants.{Less, Equal, Greater}
use Rattle.std.specs.Ordering.{nat_cmp, ordering_then}
use Rattle.std.proofs.lemmas.Cmp.{tied_itself, nat_cmp_total}
use Rattle.zs_ids.specs.declared.key.Key.{Key}
use Rattle.zs_ids.specs.declared.block.Bp.{Bp}
use Rattle.zs_ids.specs.Key.{key_cmp}
use Rattle.zs_objset.specs.Bytes.{upto, is_key, found_at, pointer_bytes, child_of, first_block, top_depth, record_exponent, dnode_with, dnode_bytes, block_bytes_of}

-- g and h have the same pointers at the keys above k
abbrev pub AreSameAbove : (Key → Option Bp) → (Key → Option Bp) → Key → Type 0
AreSameAbove g h k = (c : Key) → key_cmp k c ≡ Less → g c ≡ h c

less : (a b : ℕ) → a < b → nat_cmp a b ≡ Less
less a b l = ap (λ t. cond t Less (cond (a == b) Equal Greater)) (lt-ltb a b l)

level : (a : ℕ) → nat_cmp a a ≡ Equal
level a = tied_itself nat_cmp_total a

add_none : (a : ℕ) → a ≡ a + zero
add_none a = omega arith

add_more : (a i : ℕ) → a < a + suc i
add_more a i = omega arith

-- a number that does not fall, and then a lesser one
then_less : (a i : ℕ) (o : Ordering) → o ≡ Less → ordering_then (nat_cmp a (a + i)) o ≡ Less
then_less a zero o h = ap (λ b. ordering_then (nat_cmp a b) o) (sym (add_none a)) ∙ ap (λ r. ordering_then r o) (level a) ∙ h
then_less a (suc i) o h = ap (λ r. ordering_then r o) (less a (a + suc i) (add_more a i))

same_then : (a : ℕ) (o : Ordering) → o ≡ Less → ordering_then (nat_cmp a a) o ≡ Less
same_then a o h = ap (λ r. ordering_then r o) (level a) ∙ h

next_less : (d : ℕ) → nat_cmp d (d + 1) ≡ Less
next_less d = less d (d + 1) (omega arith)

-- a child is above its block
child_by : (k : Key) (i : ℕ) (b : Bool) → key_cmp k (cond b (record k { object = k.object + 32 * i; depth = k.depth + 1 }) (record k { leaf = k.leaf + i * 64 ^ (2 - k.depth); depth = k.depth + 1 })) ≡ Less
child_by k i true = then_less k.object (32 * i) _ (same_then k.rank _ (same_then k.leaf _ (next_less k.depth)))
child_by k i false = same_then k.object _ (same_then k.rank _ (then_less k.leaf (i * 64 ^ (2 - k.depth)) _ (next_less k.depth)))

child_above : (k : Key) (i : ℕ) → key_cmp k (child_of k i) ≡ Less
child_above k i = child_by k i (k.rank == 0)

rank_less : (r : ℕ) → (r == 0) ≡ true → r < 1
rank_less r h = let e : r ≡ 0 = eqb-true r 0 h in omega arith

-- the blocks of the objects in a block of dnodes are above it
object_above : (k : Key) (i d : ℕ) → (k.rank == 0) ≡ true → key_cmp k (first_block (k.object + i) d) ≡ Less
object_above k i d r = then_less k.object i _ (ap (λ o. ordering_then o (ordering_then (nat_cmp k.leaf 0) (nat_cmp k.depth d))) (less k.rank 1 (rank_less k.rank r)))

found_same : (g h : Key → Option Bp) (k c : Key) → AreSameAbove g h k → key_cmp k c ≡ Less → found_at g c ≡ found_at h c
found_same g h k c s l = ap (λ x. cond (is_key c) x None) (s c l)

flat_same : (f e : ℕ → List ℕ) (xs : List ℕ) → ((i : ℕ) → f i ≡ e i) → flat_map f xs ≡ flat_map e xs
flat_same f e [] h = refl
flat_same f e (x ∷ xs) h = ap (λ l. l ++ flat_map f xs) (h x) ∙ ap (λ l. e x ++ l) (flat_same f e xs h)

find_same : (p q : ℕ → Bool) (xs : List ℕ) → ((i : ℕ) → p i ≡ q i) → find p xs ≡ find q xs
find_same p q [] h = refl
find_same p q (x ∷ xs) h = ap (λ b. cond b (Some x) (find p xs)) (h x) ∙ ap (λ o. cond (q x) (Some x) o) (find_same p q xs h)

with_same : (g h : Key → Option Bp) (n : ℕ) → ((d : ℕ) → found_at g (first_block n d) ≡ found_at h (first_block n d)) → (o : Option ℕ) → dnode_with g n o ≡ dnode_with h n o
with_same g h n s None = refl
with_same g h n s (Some d) =
    ap (λ r. (4 - d) ∷ record_exponent r ∷ replicate 62 0 ++ pointer_bytes (found_at g (first_block n d))) (s 3)
    ∙ ap (λ r. (4 - d) ∷ record_exponent (found_at h (first_block n 3)) ∷ replicate 62 0 ++ pointer_bytes r) (s d)

dnode_same : (g h : Key → Option Bp) (n : ℕ) → ((d : ℕ) → found_at g (first_block n d) ≡ found_at h (first_block n d)) → dnode_bytes g n ≡ dnode_bytes h n
unfolding dnode_bytes
dnode_same g h n s =
    ap (λ o. dnode_with g n o) (find_same (λ d. is_some (found_at g (first_block n d))) (λ d. is_some (found_at h (first_block n d))) (0 ∷ 1 ∷ 2 ∷ 3 ∷ []) (λ d. ap is_some (s d)))
    ∙ with_same g h n s (top_depth h n)

block_by : (g h : Key → Option Bp) (k : Key) (a b : Bool) → (k.rank == 0) ≡ a → AreSameAbove g h k → cond (a && b) (flat_map (λ i. dnode_bytes g (k.object + i)) (upto 32)) (flat_map (λ i. pointer_bytes (found_at g (child_of k i))) (upto 64)) ≡ cond (a && b) (flat_map (λ i. dnode_bytes h (k.object + i)) (upto 32)) (flat_map (λ i. pointer_bytes (found_at h (child_of k i))) (upto 64))
block_by g h k true true e s = flat_same (λ i. dnode_bytes g (k.object + i)) (λ i. dnode_bytes h (k.object + i)) (upto 32) (λ i. dnode_same g h (k.object + i) (λ d. found_same g h k (first_block (k.object + i) d) s (object_above k i d e)))
block_by g h k true false e s = flat_same (λ i. pointer_bytes (found_at g (child_of k i))) (λ i. pointer_bytes (found_at h (child_of k i))) (upto 64) (λ i. ap pointer_bytes (found_same g h k (child_of k i) s (child_above k i)))
block_by g h k false b e s = flat_same (λ i. pointer_bytes (found_at g (child_of k i))) (λ i. pointer_bytes (found_at h (child_of k i))) (upto 64) (λ i. ap pointer_bytes (found_same g h k (child_of k i) s (child_above k i)))

pub block_same : (g h : Key → Option Bp) (k : Key) → AreSameAbove g h k → block_bytes_of g k ≡ block_bytes_of h k
unfolding block_bytes_of
block_same g h k s = block_by g h k (k.rank == 0) (not (k.depth == 0)) refl s
