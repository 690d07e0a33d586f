-- The tests of a tree, and of blocks that lie apart in a room, decide them.
use Rattle.std.proofs.Common.{◌≡◌, ◌⊎◌, ◌<◌, ◌≤◌, ◌+◌, ◌↔◌, ℕ, Bool, true, false, not, ◌&&◌, ◌||◌, cond, List, [], ◌∷◌, length, refl, sym, ap, subst, ◌∙◌, Option, Some, None, filter, arith}
use Rattle.std.specs.Prelude.{nat_le, nat_lt, ◌==◌, bytes_eq, slice_index}
use Rattle.std.specs.Bool.{Decides}
use Rattle.std.specs.List.{list_any, list_all}
use Rattle.std.proofs.lemmas.Bool.{true≢false, false_from_ne_true, not_from_false, not_from_true}
use Rattle.std.proofs.lemmas.Bool.Decides.{Decides-and, Decides-or, Decides-eqb, Decides-ltb}
use Rattle.std.proofs.lemmas.Slice.Eq.{bytes_eq-Decides}
use Rattle.zs_ids.specs.declared.key.Key.{Key}
use Rattle.zs_ids.specs.declared.block.Bp.{Bp}
use Rattle.zs_ids.specs.declared.block.Piece.{Piece}
use Rattle.zs_ids.specs.declared.dataset.DsId.{DsId}
use Rattle.zs_ids.specs.declared.dataset.Name.{Name}
use Rattle.zs_ids.specs.declared.dataset.TheConstants.DsId.{ORIGIN}
use Rattle.zs_ids.specs.declared.dataset.TheConstants.Name.{EMPTY}
use Rattle.zs_ids.specs.Graph.{Has, Dataset, Graph, IsLive, pieces_of}
use Rattle.zs_ids.specs.GraphTree.{is_id, start_of, stands_on}
use Rattle.zs_ids.specs.GraphValid.{origin, IsInIdOrder, StandsOnSnapshot, IsTree, Overlap, AreApart, Room, LiesIn, HasAtMost}
use Rattle.zs_graph.proofs.Lists.{some≢none, has-filter}
use Rattle.zs_graph.proofs.Graphs.{stands_on-is, stands_on-from}
use Rattle.zs_ids.specs.Piece.{is_piece}
use Rattle.zs_plain.specs.Tests.{has_piece}
use Rattle.zs_plain.specs.TreeTests.{is_name, is_same, has_no_parent, is_origin, is_under, rise, are_named_apart, is_placed, is_tree, is_key, do_meet, do_overlap, is_apart, is_apart_from, lies_apart, are_apart, lies_in, do_lie_in, each_once}
use Rattle.zs_plain.proofs.Decide.{like, itself, implies, at_most, some-of, each-of, has-of, same_id, same_piece, has_piece-is}
use Rattle.zs_plain.proofs.Passed.{fewer}
use Rattle.zs_plain.proofs.SoundDecides.{unless, denies, empty_is, fails}
use mathlib.Core.Logic.{inl, inr}

abbrev named : ℕ → List ℕ → Name
named len bytes = record { len = len; bytes = bytes }

pub name_is : (a b : Name) → Decides (is_name a b) (a ≡ b)
name_is a b =
    like (is_name a b) (Decides-and (a.len == b.len) (bytes_eq a.bytes b.bytes) (Decides-eqb a.len b.len) (bytes_eq-Decides a.bytes b.bytes)) (λ h. ap (λ (n : ℕ). named n a.bytes) h.0 ∙ ap (λ (l : List ℕ). named b.len l) h.1) (λ e. (ap (λ (x : Name). x.len) e, ap (λ (x : Name). x.bytes) e))

same_is : (a b : Bool) → Decides (is_same a b) (a ≡ b)
same_is true true = (λ e. refl, λ e. refl)
same_is true false = (λ e. absurd (true≢false (sym e)), λ e. absurd (true≢false e))
same_is false true = (λ e. absurd (true≢false (sym e)), λ e. absurd (true≢false (sym e)))
same_is false false = (λ e. refl, λ e. refl)

no_parent_is : (p : Option DsId) → Decides (has_no_parent p) (p ≡ None)
no_parent_is None = (λ e. refl, λ e. refl)
no_parent_is (Some a) = fails (λ e. some≢none a e)

abbrev made : DsId → Bool → Name → Name → Option DsId → ℕ → List (Key × Bp) → Dataset
made id head owner label parent creation entries =
    record { id = id; head = head; owner = owner; label = label; parent = parent; creation = creation; entries = entries }

origin_is : (d : Dataset) → Decides (is_origin d) (d ≡ origin)
origin_is d =
    like (is_origin d) (Decides-and (is_id d.id ORIGIN && (not d.head && (is_name d.owner EMPTY && is_name d.label EMPTY))) (has_no_parent d.parent && (d.creation == 1 && length d.entries == 0)) (Decides-and (is_id d.id ORIGIN) (not d.head && (is_name d.owner EMPTY && is_name d.label EMPTY)) (same_id d.id ORIGIN) (Decides-and (not d.head) (is_name d.owner EMPTY && is_name d.label EMPTY) (denies d.head) (Decides-and (is_name d.owner EMPTY) (is_name d.label EMPTY) (name_is d.owner EMPTY) (name_is d.label EMPTY)))) (Decides-and (has_no_parent d.parent) (d.creation == 1 && length d.entries == 0) (no_parent_is d.parent) (Decides-and (d.creation == 1) (length d.entries == 0) (Decides-eqb d.creation 1) (empty_is d.entries)))) (λ h. ap (λ (x : DsId). made x d.head d.owner d.label d.parent d.creation d.entries) h.0.0 ∙ ap (λ (x : Bool). made ORIGIN x d.owner d.label d.parent d.creation d.entries) h.0.1.0 ∙ ap (λ (x : Name). made ORIGIN false x d.label d.parent d.creation d.entries) h.0.1.1.0 ∙ ap (λ (x : Name). made ORIGIN false EMPTY x d.parent d.creation d.entries) h.0.1.1.1 ∙ ap (λ (x : Option DsId). made ORIGIN false EMPTY EMPTY x d.creation d.entries) h.1.0 ∙ ap (λ (x : ℕ). made ORIGIN false EMPTY EMPTY None x d.entries) h.1.1.0 ∙ ap (λ (x : List (Key × Bp)). made ORIGIN false EMPTY EMPTY None 1 x) h.1.1.1) (λ e. ((ap (λ (x : Dataset). x.id) e, (ap (λ (x : Dataset). x.head) e, (ap (λ (x : Dataset). x.owner) e, ap (λ (x : Dataset). x.label) e))), (ap (λ (x : Dataset). x.parent) e, (ap (λ (x : Dataset). x.creation) e, ap (λ (x : Dataset). x.entries) e))))

pub stands_is : (below : DsId) (parent : Option DsId) → Decides (stands_on below parent) (parent ≡ Some below)
stands_is below parent = (stands_on-is below parent, stands_on-from below parent)

rise_is : (g : Graph) → Decides (rise g) (IsInIdOrder g)
rise_is [] = (λ e. tt, λ h. refl)
rise_is (d ∷ ds) =
    Decides-and (list_all (λ (x : Dataset). nat_lt d.id.0 x.id.0) ds) (rise ds) (each-of (λ (x : Dataset). nat_lt d.id.0 x.id.0) (λ (x : Dataset). d.id.0 < x.id.0) (λ x. Decides-ltb d.id.0 x.id.0) ds) (rise_is ds)

module _ (g : Graph) (n : ℕ) where
  under_is : (d below : Dataset) → Decides (is_under d below) ((d.parent ≡ Some below.id) × ((below.head ≡ false) × (d.head ≡ false → below.creation < d.creation)))
  under_is d below =
      Decides-and (stands_on below.id d.parent) (not below.head && (d.head || nat_lt below.creation d.creation)) (stands_is below.id d.parent) (Decides-and (not below.head) (d.head || nat_lt below.creation d.creation) (denies below.head) (unless d.head (nat_lt below.creation d.creation) (Decides-ltb below.creation d.creation)))

  on_snapshot_is : (d : Dataset) → Decides (list_any (λ (below : Dataset). is_under d below) g) (StandsOnSnapshot g d)
  on_snapshot_is d =
      like (list_any (λ (below : Dataset). is_under d below) g) (some-of (λ (below : Dataset). is_under d below) (λ (below : Dataset). (d.parent ≡ Some below.id) × ((below.head ≡ false) × (d.head ≡ false → below.creation < d.creation))) (λ below. under_is d below) g) (λ w. record { below = w.0; here = w.1; is_parent = w.2.0; is_snapshot = w.2.1.0; rises = w.2.1.1 }) (λ s. (s.below, s.here, (s.is_parent, (s.is_snapshot, s.rises))))

  abbrev IsPlaced : Dataset → Type 0
  IsPlaced d = ((d ≡ origin) ⊎ StandsOnSnapshot g d) × ((d.creation ≤ n) × (d.head ≡ true → (d.creation ≡ 0) × (d.label ≡ EMPTY)))

  placed_is : (d : Dataset) → Decides (is_placed g n d) (IsPlaced d)
  placed_is d =
      Decides-and (is_origin d || list_any (λ (below : Dataset). is_under d below) g) (nat_le d.creation n && (not d.head || (d.creation == 0 && is_name d.label EMPTY))) (Decides-or (is_origin d) (list_any (λ (below : Dataset). is_under d below) g) (origin_is d) (on_snapshot_is d)) (Decides-and (nat_le d.creation n) (not d.head || (d.creation == 0 && is_name d.label EMPTY)) (at_most d.creation n) (implies d.head (d.creation == 0 && is_name d.label EMPTY) (itself d.head) (Decides-and (d.creation == 0) (is_name d.label EMPTY) (Decides-eqb d.creation 0) (name_is d.label EMPTY))))

  abbrev AreNamedApart : Dataset → Dataset → Type 0
  AreNamedApart a b = a.head ≡ b.head → a.owner ≡ b.owner → a.label ≡ b.label → a.id ≡ b.id

  named_is : (a b : Dataset) → Decides (are_named_apart a b) (AreNamedApart a b)
  named_is a b =
      implies (is_same a.head b.head) (not (is_name a.owner b.owner) || (not (is_name a.label b.label) || is_id a.id b.id)) (same_is a.head b.head) (implies (is_name a.owner b.owner) (not (is_name a.label b.label) || is_id a.id b.id) (name_is a.owner b.owner) (implies (is_name a.label b.label) (is_id a.id b.id) (name_is a.label b.label) (same_id a.id b.id)))

  names_is : Decides (list_all (λ (a : Dataset). list_all (λ (b : Dataset). are_named_apart a b) g) g) ((a : Dataset) → Has g a → (b : Dataset) → Has g b → AreNamedApart a b)
  names_is =
      each-of (λ (a : Dataset). list_all (λ (b : Dataset). are_named_apart a b) g) (λ (a : Dataset). (b : Dataset) → Has g b → AreNamedApart a b) (λ a. each-of (λ (b : Dataset). are_named_apart a b) (λ (b : Dataset). AreNamedApart a b) (λ b. named_is a b) g) g

  pub tree_is : Decides (is_tree g n) (IsTree g n)
  tree_is =
      like (is_tree g n) (Decides-and (list_any (λ (d : Dataset). is_origin d) g && list_all (λ (d : Dataset). is_placed g n d) g) (rise g && (nat_le (length g) 255 && list_all (λ (a : Dataset). list_all (λ (b : Dataset). are_named_apart a b) g) g)) (Decides-and (list_any (λ (d : Dataset). is_origin d) g) (list_all (λ (d : Dataset). is_placed g n d) g) (has-of (λ (d : Dataset). is_origin d) origin (λ d. origin_is d) g) (each-of (λ (d : Dataset). is_placed g n d) (λ (d : Dataset). IsPlaced d) (λ d. placed_is d) g)) (Decides-and (rise g) (nat_le (length g) 255 && list_all (λ (a : Dataset). list_all (λ (b : Dataset). are_named_apart a b) g) g) (rise_is g) (Decides-and (nat_le (length g) 255) (list_all (λ (a : Dataset). list_all (λ (b : Dataset). are_named_apart a b) g) g) (at_most (length g) 255) names_is))) (λ w. record { root = w.0.0; stands = λ d h. (w.0.1 d h).0; in_order = w.1.0; few = w.1.1.0; names = λ a b ha hb. w.1.1.1 a ha b hb; created = λ d h. (w.0.1 d h).1.0; heads = λ d h. (w.0.1 d h).1.1 }) (λ t. ((t.root, λ d h. (t.stands d h, (t.created d h, t.heads d h))), (t.in_order, (t.few, λ a ha b hb. t.names a b ha hb))))

abbrev keyed : ℕ → ℕ → ℕ → ℕ → Key
keyed object rank leaf depth = record { object = object; rank = rank; leaf = leaf; depth = depth }

pub key_is : (a b : Key) → Decides (is_key a b) (a ≡ b)
key_is a b =
    like (is_key a b) (Decides-and (a.object == b.object) (a.rank == b.rank && (a.leaf == b.leaf && a.depth == b.depth)) (Decides-eqb a.object b.object) (Decides-and (a.rank == b.rank) (a.leaf == b.leaf && a.depth == b.depth) (Decides-eqb a.rank b.rank) (Decides-and (a.leaf == b.leaf) (a.depth == b.depth) (Decides-eqb a.leaf b.leaf) (Decides-eqb a.depth b.depth)))) (λ h. ap (λ (x : ℕ). keyed x a.rank a.leaf a.depth) h.0 ∙ ap (λ (x : ℕ). keyed b.object x a.leaf a.depth) h.1.0 ∙ ap (λ (x : ℕ). keyed b.object b.rank x a.depth) h.1.1.0 ∙ ap (λ (x : ℕ). keyed b.object b.rank b.leaf x) h.1.1.1) (λ e. (ap (λ (x : Key). x.object) e, (ap (λ (x : Key). x.rank) e, (ap (λ (x : Key). x.leaf) e, ap (λ (x : Key). x.depth) e))))

module _ (a b : Bp) where
  abbrev Meet : Piece → Piece → Type 0
  Meet p q = (p.place.vdev ≡ q.place.vdev) × ((p.place.sector < q.place.sector + b.sectors) × (q.place.sector < p.place.sector + a.sectors))

  meet_is : (p q : Piece) → Decides (do_meet a.sectors b.sectors p q) (Meet p q)
  meet_is p q =
      Decides-and (p.place.vdev == q.place.vdev) (nat_lt p.place.sector (q.place.sector + b.sectors) && nat_lt q.place.sector (p.place.sector + a.sectors)) (Decides-eqb p.place.vdev q.place.vdev) (Decides-and (nat_lt p.place.sector (q.place.sector + b.sectors)) (nat_lt q.place.sector (p.place.sector + a.sectors)) (Decides-ltb p.place.sector (q.place.sector + b.sectors)) (Decides-ltb q.place.sector (p.place.sector + a.sectors)))

  overlap_is : Decides (do_overlap a b) (Overlap a b)
  overlap_is =
      like (do_overlap a b) (some-of (λ (p : Piece). list_any (λ (q : Piece). do_meet a.sectors b.sectors p q) (pieces_of b)) (λ (p : Piece). (q : Piece) × Has (pieces_of b) q × Meet p q) (λ p. some-of (λ (q : Piece). do_meet a.sectors b.sectors p q) (λ (q : Piece). Meet p q) (λ q. meet_is p q) (pieces_of b)) (pieces_of a)) (λ w. record { first = w.0; second = w.2.0; is_first = w.1; is_second = w.2.1; vdev = w.2.2.0; before = w.2.2.1.0; behind = w.2.2.1.1 }) (λ o. (o.first, o.is_first, (o.second, o.is_second, (o.vdev, (o.before, o.behind)))))

module _ (g : Graph) where
  apart_is : (c : DsId) (e : Key × Bp) (d : DsId) (f : Key × Bp) → Decides (is_apart c e d f) (Overlap e.1 f.1 → (c ≡ d) × (e.0 ≡ f.0))
  apart_is c e d f =
      implies (do_overlap e.1 f.1) (is_id c d && is_key e.0 f.0) (overlap_is e.1 f.1) (Decides-and (is_id c d) (is_key e.0 f.0) (same_id c d) (key_is e.0 f.0))

  abbrev ApartFrom : DsId → Key × Bp → Dataset → Type 0
  ApartFrom c e d = (f : Key × Bp) → Has d.entries f → start_of g d.parent < f.1.birth → Overlap e.1 f.1 → (c ≡ d.id) × (e.0 ≡ f.0)

  apart_from_is : (c : DsId) (e : Key × Bp) (d : Dataset) → Decides (is_apart_from c e (start_of g d.parent) d) (ApartFrom c e d)
  apart_from_is c e d =
      each-of (λ (f : Key × Bp). not (nat_lt (start_of g d.parent) f.1.birth) || is_apart c e d.id f) (λ (f : Key × Bp). start_of g d.parent < f.1.birth → Overlap e.1 f.1 → (c ≡ d.id) × (e.0 ≡ f.0)) (λ f. implies (nat_lt (start_of g d.parent) f.1.birth) (is_apart c e d.id f) (Decides-ltb (start_of g d.parent) f.1.birth) (apart_is c e d.id f)) d.entries

  abbrev LiesApart : Dataset → Type 0
  LiesApart c = (e : Key × Bp) → Has c.entries e → start_of g c.parent < e.1.birth → (d : Dataset) → Has g d → ApartFrom c.id e d

  lies_apart_is : (c : Dataset) → Decides (lies_apart g (start_of g c.parent) c) (LiesApart c)
  lies_apart_is c =
      each-of (λ (e : Key × Bp). not (nat_lt (start_of g c.parent) e.1.birth) || list_all (λ (d : Dataset). is_apart_from c.id e (start_of g d.parent) d) g) (λ (e : Key × Bp). start_of g c.parent < e.1.birth → (d : Dataset) → Has g d → ApartFrom c.id e d) (λ e. implies (nat_lt (start_of g c.parent) e.1.birth) (list_all (λ (d : Dataset). is_apart_from c.id e (start_of g d.parent) d) g) (Decides-ltb (start_of g c.parent) e.1.birth) (each-of (λ (d : Dataset). is_apart_from c.id e (start_of g d.parent) d) (λ (d : Dataset). ApartFrom c.id e d) (λ d. apart_from_is c.id e d) g)) c.entries

  pub are_apart_is : Decides (are_apart g) (AreApart g)
  are_apart_is =
      like (are_apart g) (each-of (λ (c : Dataset). lies_apart g (start_of g c.parent) c) (λ (c : Dataset). LiesApart c) (λ c. lies_apart_is c) g) (λ w c d e f he hf over. w c he.here e he.holds he.born d hf.here f hf.holds hf.born over) (λ a c hc e he be d hd f hf bf over. a c d e f (record { here = hc; holds = he; born = be }) (record { here = hd; holds = hf; born = bf }) over)

module _ (room : Room) where
  lies_is : (sectors : ℕ) (p : Piece) → Decides (lies_in room sectors p) (LiesIn room p.place sectors)
  lies_is sectors p =
      like (lies_in room sectors p) (Decides-and (nat_lt p.place.vdev (length room.ends)) (nat_le room.start p.place.sector && nat_le (p.place.sector + sectors) (slice_index room.ends p.place.vdev)) (Decides-ltb p.place.vdev (length room.ends)) (Decides-and (nat_le room.start p.place.sector) (nat_le (p.place.sector + sectors) (slice_index room.ends p.place.vdev)) (at_most room.start p.place.sector) (at_most (p.place.sector + sectors) (slice_index room.ends p.place.vdev)))) (λ w. record { mirror = w.0; from = w.1.0; to = w.1.1 }) (λ l. (l.mirror, (l.from, l.to)))

  abbrev pub DoLieIn : List (Key × Bp) → Type 0
  DoLieIn entries = (e : Key × Bp) → Has entries e → (p : Piece) → Has (pieces_of e.1) p → LiesIn room p.place e.1.sectors

  do_lie_is : (entries : List (Key × Bp)) → Decides (do_lie_in room entries) (DoLieIn entries)
  do_lie_is entries =
      each-of (λ (e : Key × Bp). list_all (λ (p : Piece). lies_in room e.1.sectors p) (pieces_of e.1)) (λ (e : Key × Bp). (p : Piece) → Has (pieces_of e.1) p → LiesIn room p.place e.1.sectors) (λ e. each-of (λ (p : Piece). lies_in room e.1.sectors p) (λ (p : Piece). LiesIn room p.place e.1.sectors) (λ p. lies_is e.1.sectors p) (pieces_of e.1)) entries

  pub all_lie_is : (g : Graph) → Decides (list_all (λ (d : Dataset). do_lie_in room d.entries) g) ((d : Dataset) → Has g d → DoLieIn d.entries)
  all_lie_is g =
      each-of (λ (d : Dataset). do_lie_in room d.entries) (λ (d : Dataset). DoLieIn d.entries) (λ d. do_lie_is d.entries) g

-- a list that has each piece once
from-once : (ps : List Piece) (p : Piece) → Has (each_once ps) p → Has ps p
from-once [] p h = absurd h
from-once (q ∷ ps) p h = go (has_piece ps q) h (from-once ps p)
  where
    go : (b : Bool) → Has (cond b (each_once ps) (q ∷ each_once ps)) p → (Has (each_once ps) p → Has ps p) → Has (q ∷ ps) p
    go true i rest = inr (rest i)
    go false (inl e) rest = inl e
    go false (inr i) rest = inr (rest i)

has-once : (ps : List Piece) (p : Piece) → Has ps p → Has (each_once ps) p
has-once [] p h = absurd h
has-once (q ∷ ps) p h = go (has_piece ps q) refl h (has-once ps p)
  where
    go : (b : Bool) → has_piece ps q ≡ b → Has (q ∷ ps) p → (Has ps p → Has (each_once ps) p) → Has (cond b (each_once ps) (q ∷ each_once ps)) p
    go true is (inl e) rest = rest (subst (λ (x : Piece). Has ps x) e ((has_piece-is ps q).0 is))
    go true is (inr i) rest = rest i
    go false is (inl e) rest = inl e
    go false is (inr i) rest = inr (rest i)

all_kept : (ps : List Piece) → filter (λ (p : Piece). true) ps ≡ ps
all_kept [] = refl
all_kept (p ∷ ps) = ap (λ (l : List Piece). p ∷ l) (all_kept ps)

-- no list that has all of them is shorter
once_fewest : (ps all : List Piece) → ((p : Piece) → Has (each_once ps) p → Has all p) → length (each_once ps) ≤ length all
once_fewest [] all sub = omega arith
once_fewest (q ∷ ps) all sub = go (has_piece ps q) refl sub (λ rest more. once_fewest ps rest more)
  where
    go : (b : Bool) → has_piece ps q ≡ b → ((p : Piece) → Has (cond b (each_once ps) (q ∷ each_once ps)) p → Has all p) → ((rest : List Piece) → ((p : Piece) → Has (each_once ps) p → Has rest p) → length (each_once ps) ≤ length rest) → length (cond b (each_once ps) (q ∷ each_once ps)) ≤ length all
    go true is all_of ih = ih all all_of
    go false is all_of ih =
        let others : List Piece = filter (λ (x : Piece). not (is_piece x q)) all in
        let fits : length (each_once ps) ≤ length others = ih others (λ p h. has-filter (λ (x : Piece). not (is_piece x q)) all p (all_of p (inr h)) (not_from_false (is_piece p q) (false_from_ne_true (is_piece p q) (λ t. true≢false (sym ((has_piece-is ps q).1 (subst (λ (x : Piece). Has ps x) ((same_piece p q).0 t) (from-once ps p h))) ∙ is))))) in
        let less : length others < length (filter (λ (x : Piece). true) all) = fewer (λ (x : Piece). true) (λ (x : Piece). not (is_piece x q)) (λ x t. refl) all q (all_of q (inl refl)) refl (not_from_true (is_piece q q) ((same_piece q q).1 refl)) in
        let same : length (filter (λ (x : Piece). true) all) ≡ length all = ap length (all_kept all) in
        omega (arith, fits, less, same)

-- how many live pieces there are
pub few_is : (g : Graph) (live : List Piece) → ((p : Piece) → Has live p ↔ IsLive g p) → (most : ℕ) → Decides (nat_le (length (each_once live)) most) (HasAtMost g most)
few_is g live is most =
    like (nat_le (length (each_once live)) most) (at_most (length (each_once live)) most) (λ le. record { all = each_once live; few = le; each = λ p l. has-once live p ((is p).1 l) }) (λ h. let fits : length (each_once live) ≤ length h.all = once_fewest live h.all (λ p i. h.each p ((is p).0 (from-once live p i))) in let few : length h.all ≤ most = h.few in omega (arith, fits, few))
