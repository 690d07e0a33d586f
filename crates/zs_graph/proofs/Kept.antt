-- What stays of a valid graph where datasets keep what they hold.
use Rattle.std.proofs.Common.{◌≡◌, ◌≤◌, ℕ, Bool, true, false, cond, List, refl, sym, ap, subst, ◌∙◌, arith}
use Rattle.std.specs.Prelude.{Option, if◌then◌else◌}
use Rattle.zs_ids.specs.declared.key.Key.{Key}
use Rattle.zs_ids.specs.declared.block.Bp.{Bp}
use Rattle.zs_ids.specs.declared.block.Piece.{Piece}
use Rattle.zs_ids.specs.declared.dataset.DsId.{DsId}
use Rattle.zs_ids.specs.Blocks.{IsInKeyOrder}
use Rattle.zs_ids.specs.Graph.{Has, Dataset, Graph, IsLive}
use Rattle.zs_ids.specs.GraphTree.{IsHome}
use Rattle.zs_ids.specs.GraphValid.{last_birth, HasBlocks, Shares, Room, IsWithin, AreApart}

-- the same dataset, but for its parent
pub record IsSame (x y : Dataset) : Type 0 where
  pub id : x.id ≡ y.id
  pub head : x.head ≡ y.head
  pub owner : x.owner ≡ y.owner
  pub label : x.label ≡ y.label
  pub creation : x.creation ≡ y.creation
  pub entries : x.entries ≡ y.entries

pub same : (x : Dataset) → IsSame x x
same x = record { id = refl; head = refl; owner = refl; label = refl; creation = refl; entries = refl }

-- a dataset under a test, put on another parent or not, is the same but for its parent
pub same_or_moved : (b : Bool) (parent : Option DsId) (d : Dataset) → IsSame (if b then record d { parent = parent } else d) d
same_or_moved true parent d = record { id = refl; head = refl; owner = refl; label = refl; creation = refl; entries = refl }
same_or_moved false parent d = same d

-- the last birth is that of the same dataset, at a later group not below
pub last_same : (x y : Dataset) (n m : ℕ) → x.head ≡ y.head → x.creation ≡ y.creation → n ≤ m → last_birth y n ≤ last_birth x m
last_same x y n m head creation le =
    subst (λ (b : Bool). last_birth y n ≤ cond b m x.creation) (sym head) (subst (λ (c : ℕ). last_birth y n ≤ cond y.head m c) (sym creation) (go y.head))
  where
    go : (b : Bool) → cond b n y.creation ≤ cond b m y.creation
    go true = le
    go false = omega arith

-- a dataset that holds what another one held, and may hold it as long, has its blocks in order
pub blocks_kept : (x y : Dataset) (n m : ℕ) → x.entries ≡ y.entries → last_birth y n ≤ last_birth x m → HasBlocks y n → HasBlocks x m
blocks_kept x y n m is le b = record {
  in_order = subst IsInKeyOrder (sym is) b.in_order;
  births = λ e i. let low : e.1.birth ≤ last_birth y n = b.births e (subst (λ (l : List (Key × Bp)). Has l e) is i) in omega (arith, low, le);
  levels = b.levels;
  at_most_four = b.at_most_four;
  size = b.size;
  is_size = b.is_size;
  blocks = λ e i. b.blocks e (subst (λ (l : List (Key × Bp)). Has l e) is i);
  parents = λ e i k up. let q = b.parents e (subst (λ (l : List (Key × Bp)). Has l e) is i) k up in record { entry = q.entry; is_entry = subst (λ (l : List (Key × Bp)). Has l q.entry) (sym is) q.is_entry; is_key = q.is_key; later = q.later };
}

-- datasets that hold what others held share what those shared
pub shares_kept : (x p y q : Dataset) → x.entries ≡ y.entries → p.entries ≡ q.entries → p.creation ≡ q.creation → Shares y q → Shares x p
shares_kept x p y q xe pe pc s = record {
  keys = λ e i. let b = s.keys e (subst (λ (l : List (Key × Bp)). Has l e) pe i) in record { entry = b.entry; is_entry = subst (λ (l : List (Key × Bp)). Has l b.entry) (sym xe) b.is_entry; is_key = b.is_key; later = b.later };
  shared = λ e i old. subst (λ (l : List (Key × Bp)). Has l e) (sym pe) (s.shared e (subst (λ (l : List (Key × Bp)). Has l e) xe i) (subst (λ (c : ℕ). e.1.birth ≤ c) pc old));
}

-- a dataset shares all with one that holds the same
pub shares_all : (x p : Dataset) → x.entries ≡ p.entries → Shares x p
shares_all x p is = record {
  keys = λ e i. record { entry = e; is_entry = subst (λ (l : List (Key × Bp)). Has l e) (sym is) i; is_key = refl; later = omega arith };
  shared = λ e i old. subst (λ (l : List (Key × Bp)). Has l e) is i;
}

-- what each dataset holds one held before
abbrev pub Holds : Graph → Graph → Type 0
Holds old new = (x : Dataset) → Has new x → (y : Dataset) × Has old y × (x.entries ≡ y.entries)

-- what is live was live
pub live_before : (g g' : Graph) → Holds g g' → (p : Piece) → IsLive g' p → IsLive g p
live_before g g' holds p live =
    let f = holds live.holder live.is_dataset in
    record { holder = f.0; is_dataset = f.1; holds = record { entry = (live.holds).entry; is_entry = subst (λ (l : List (Key × Bp)). Has l (live.holds).entry) f.2 (live.holds).is_entry; is_piece = (live.holds).is_piece } }

-- the blocks stay in the room of the pool
pub within_kept : (room : Room) (g g' : Graph) → Holds g g' → IsWithin room g → IsWithin room g'
within_kept room g g' holds w = record {
  places = λ d i e ie p piece. let f = holds d i in w.places f.0 f.1 e (subst (λ (l : List (Key × Bp)). Has l e) f.2 ie) p piece;
  few = record { all = (w.few).all; few = (w.few).few; each = λ p live. (w.few).each p (live_before g g' holds p live) };
}

-- an entry at home was at home in a dataset that has this place now
pub record WasHome (g : Graph) (place : DsId → DsId) (x : Dataset) (e : Key × Bp) : Type 0 where
  pub holder : Dataset
  pub home : IsHome g holder e
  pub placed : x.id ≡ place holder.id

-- entries at home stay apart
pub apart_kept : (g g' : Graph) (place : DsId → DsId) → ((x : Dataset) (e : Key × Bp) → IsHome g' x e → WasHome g place x e) → AreApart g → AreApart g'
apart_kept g g' place back apart = λ c d e f hc hd meet.
    let a = back c e hc in
    let b = back d f hd in
    let one = apart a.holder b.holder e f a.home b.home meet in
    (a.placed ∙ ap place one.0 ∙ sym b.placed, one.1)
