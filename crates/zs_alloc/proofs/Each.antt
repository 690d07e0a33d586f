-- A list whose first elements are changed, one after another.
use Rattle.std.proofs.Common.{◌≡◌, ◌<◌, ◌≤◌, ◌+◌, ◌∙◌, ℕ, zero, suc, List, [], ◌∷◌, ◌++◌, length, map, take, drop, get_or, set, arith, refl, ap}
use Rattle.zs_alloc.specs.Space.{MirrorView}

set_each : (f : MirrorView → MirrorView) (old : List MirrorView) (i : ℕ) (new d : MirrorView) → i < length old → new ≡ f (get_or old i d) → set (map f (take i old) ++ drop i old) i new ≡ map f (take (suc i) old) ++ drop (suc i) old
set_each f [] i new d lt is = absurd (omega arith)
set_each f (x ∷ old) zero new d lt is = ap (λ y. y ∷ old) is
set_each f (x ∷ old) (suc i) new d lt is = ap (λ l. f x ∷ l) (set_each f old i new d (omega arith) is)

get_each : (f : MirrorView → MirrorView) (old : List MirrorView) (i : ℕ) (d : MirrorView) → i < length old → get_or (map f (take i old) ++ drop i old) i d ≡ get_or old i d
get_each f [] i d lt = absurd (omega arith)
get_each f (x ∷ old) zero d lt = refl
get_each f (x ∷ old) (suc i) d lt = get_each f old i d (omega arith)

pub each_more : (f : MirrorView → MirrorView) (old now : List MirrorView) (i : ℕ) (m new : MirrorView) → now ≡ map f (take i old) ++ drop i old → i < length old → m ≡ get_or now i m → new ≡ f m → set now i new ≡ map f (take (i + 1) old) ++ drop (i + 1) old
each_more f old now i m new is lt at done =
    let next : suc i ≡ i + 1 = omega arith in
    let read : m ≡ get_or old i m = at ∙ ap (λ l. get_or l i m) is ∙ get_each f old i m lt in
    ap (λ l. set l i new) is ∙ set_each f old i new m lt (done ∙ ap f read) ∙ ap (λ n. map f (take n old) ++ drop n old) next

length_each : (f : MirrorView → MirrorView) (old : List MirrorView) (i : ℕ) → length (map f (take i old) ++ drop i old) ≡ length old
length_each f [] zero = refl
length_each f [] (suc i) = refl
length_each f (x ∷ old) zero = refl
length_each f (x ∷ old) (suc i) = let rest = length_each f old i in omega arith

pub same_length : (f : MirrorView → MirrorView) (old now : List MirrorView) (i : ℕ) → now ≡ map f (take i old) ++ drop i old → length now ≡ length old
same_length f old now i is = ap length is ∙ length_each f old i

all_each : (f : MirrorView → MirrorView) (old : List MirrorView) (i : ℕ) → length old ≤ i → map f (take i old) ++ drop i old ≡ map f old
all_each f [] zero le = refl
all_each f [] (suc i) le = refl
all_each f (x ∷ old) zero le = absurd (omega arith)
all_each f (x ∷ old) (suc i) le = ap (λ l. f x ∷ l) (all_each f old i (omega arith))

pub each_done : (f : MirrorView → MirrorView) (old now : List MirrorView) (i : ℕ) → now ≡ map f (take i old) ++ drop i old → length old ≤ i → now ≡ map f old
each_done f old now i is le = is ∙ all_each f old i le
