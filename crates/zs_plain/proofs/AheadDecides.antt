-- The tests of what is ahead, and of what a state covers, decide it.
use Rattle.std.proofs.Common.{◌≡◌, ◌⊎◌, ◌<◌, ◌≤◌, ◌↔◌, ℕ, Bool, true, not, ◌&&◌, ◌||◌, List, sym, ap, subst, ◌∙◌, nat_lt, IsTrue}
use Rattle.std.specs.Prelude.{nat_le}
use Rattle.std.specs.Bool.{Decides}
use Rattle.std.specs.List.{list_any, list_all}
use Rattle.std.specs.Ordering.{is_le}
use Rattle.std.proofs.lemmas.Bool.{true≢false, and_parts, and_from, ltb-true, lt-ltb, leb-true, le-leb}
use Rattle.std.proofs.lemmas.Bool.Decides.{Decides-and, Decides-or, Decides-ltb}
use Rattle.zs_ids.specs.declared.key.Key.{Key}
use Rattle.zs_ids.specs.declared.block.Bp.{Bp}
use Rattle.zs_ids.specs.declared.block.Piece.{Piece}
use Rattle.zs_ids.specs.declared.dataset.DsId.{DsId}
use Rattle.zs_ids.specs.Key.{key_cmp}
use Rattle.zs_ids.specs.Graph.{Has, Dataset, Graph, pieces_of}
use Rattle.zs_ids.specs.GraphTree.{is_id, start_of}
use Rattle.zs_phys.specs.declared.scope.Scope.{Scope}
use Rattle.zs_phys.specs.declared.phys.Phys.{Phys}
use Rattle.zs_phys.specs.declared.phys.At.{At}
use Rattle.zs_phys.specs.declared.phys.At.TheVariants.{Nowhere, Destroyed}
use Rattle.zs_phys.specs.declared.phys.At.TheVariants as ats
use Rattle.zs_phys.specs.declared.todos.Todo.{Todo}
use Rattle.zs_phys.specs.Scope.{in_scope}
use Rattle.zs_phys.specs.Handlers.{is_on}
use Rattle.zs_phys.specs.Ahead.{IsLater, Ahead, Covers, claims, pending}
use Rattle.zs_phys.specs.Ahead.Ahead.{later, queued, passing, again}
use Rattle.zs_cover.proofs.States.{at≢nowhere, at≢destroyed, at_id, at_key}
use Rattle.zs_plain.specs.Tests.{has_id, has_piece}
use Rattle.zs_plain.specs.Below.{IsBelow}
use Rattle.zs_plain.specs.AheadTests.{is_queued, is_passing, is_ahead, is_covered_entry, is_covered_dataset, is_covering}
use Rattle.zs_plain.proofs.Decide.{like, itself, implies, some-of, each-of, same_id, has_id-is}
use mathlib.Core.Logic.{inl, inr}

-- the state is at the dataset
pub is_on-is : (at : At) (id : DsId) → Decides (is_on at id) ((k : Key) × (at ≡ ats.Dataset id k))
is_on-is Nowhere id = (λ e. absurd (true≢false (sym e)), λ h. absurd (at≢nowhere id h.0 (sym h.1)))
is_on-is Destroyed id = (λ e. absurd (true≢false (sym e)), λ h. absurd (at≢destroyed id h.0 (sym h.1)))
is_on-is (ats.Dataset here k) id =
    like (is_id here id) (same_id here id) (λ e. (k, ap (λ (x : DsId). ats.Dataset x k) e)) (λ h. at_id here id k h.0 h.1)

-- the pass is in the dataset, at or before the entry, which is born in its range
abbrev Passes : At → ℕ → ℕ → DsId → Key × Bp → Type 0
Passes at least most id e = (k : Key) × (at ≡ ats.Dataset id k) × IsTrue (is_le (key_cmp k e.0)) × (least < e.1.birth) × (e.1.birth ≤ most)

passing_is : (at : At) (least most : ℕ) (id : DsId) (e : Key × Bp) → Decides (is_passing at least most id e) (Passes at least most id e)
passing_is Nowhere least most id e =
    (λ t. absurd (true≢false (sym t)), λ h. absurd (at≢nowhere id h.0 (sym h.1)))
passing_is Destroyed least most id e =
    (λ t. absurd (true≢false (sym t)), λ h. absurd (at≢destroyed id h.0 (sym h.1)))
passing_is (ats.Dataset here k) least most id e = (to, from)
  where
    to : is_passing (ats.Dataset here k) least most id e ≡ true → Passes (ats.Dataset here k) least most id e
    to t =
        let a = and_parts (is_id here id) (is_le (key_cmp k e.0) && (nat_lt least e.1.birth && nat_le e.1.birth most)) t in
        let b = and_parts (is_le (key_cmp k e.0)) (nat_lt least e.1.birth && nat_le e.1.birth most) a.1 in
        let c = and_parts (nat_lt least e.1.birth) (nat_le e.1.birth most) b.1 in
        (k, ap (λ (x : DsId). ats.Dataset x k) ((same_id here id).0 a.0), b.0, ltb-true least e.1.birth c.0, leb-true e.1.birth most c.1)

    from : Passes (ats.Dataset here k) least most id e → is_passing (ats.Dataset here k) least most id e ≡ true
    from h =
        and_from (is_id here id) (is_le (key_cmp k e.0) && (nat_lt least e.1.birth && nat_le e.1.birth most)) ((same_id here id).1 (at_id here id k h.0 h.1)) (and_from (is_le (key_cmp k e.0)) (nat_lt least e.1.birth && nat_le e.1.birth most) (subst (λ (x : Key). IsTrue (is_le (key_cmp x e.0))) (sym (at_key here id k h.0 h.1)) h.2) (and_from (nat_lt least e.1.birth) (nat_le e.1.birth most) (lt-ltb least e.1.birth h.3) (le-leb e.1.birth most h.4)))

module _ (g : Graph) (s : Phys) (ids : List DsId) (is_later : (id : DsId) → Has ids id ↔ IsLater g s id) where
  later_is : (id : DsId) → Decides (has_id ids id) (IsLater g s id)
  later_is id = like (has_id ids id) (has_id-is ids id) (is_later id).0 (is_later id).1

  queued_is : (id : DsId) (birth : ℕ) → Decides (list_any (is_queued id birth) s.todo) ((q : Todo) × Has s.todo q × ((q.id ≡ id) × (q.min < birth)))
  queued_is id birth =
      some-of (is_queued id birth) (λ (q : Todo). (q.id ≡ id) × (q.min < birth)) (λ q. Decides-and (is_id q.id id) (nat_lt q.min birth) (same_id q.id id) (Decides-ltb q.min birth)) s.todo

  again_is : (id : DsId) (birth : ℕ) → Decides (is_on s.at id && (s.again && nat_lt s.curmax birth)) (((k : Key) × (s.at ≡ ats.Dataset id k)) × ((s.again ≡ true) × (s.curmax < birth)))
  again_is id birth =
      Decides-and (is_on s.at id) (s.again && nat_lt s.curmax birth) (is_on-is s.at id) (Decides-and s.again (nat_lt s.curmax birth) (itself s.again) (Decides-ltb s.curmax birth))

  module _ (id : DsId) (e : Key × Bp) where
    -- the test in its parts
    parts_is : Decides (is_ahead ids s id e) ((IsLater g s id ⊎ ((q : Todo) × Has s.todo q × ((q.id ≡ id) × (q.min < e.1.birth)))) ⊎ (Passes s.at s.curmin s.curmax id e ⊎ (((k : Key) × (s.at ≡ ats.Dataset id k)) × ((s.again ≡ true) × (s.curmax < e.1.birth)))))
    parts_is =
        Decides-or (has_id ids id || list_any (is_queued id e.1.birth) s.todo) (is_passing s.at s.curmin s.curmax id e || (is_on s.at id && (s.again && nat_lt s.curmax e.1.birth))) (Decides-or (has_id ids id) (list_any (is_queued id e.1.birth) s.todo) (later_is id) (queued_is id e.1.birth)) (Decides-or (is_passing s.at s.curmin s.curmax id e) (is_on s.at id && (s.again && nat_lt s.curmax e.1.birth)) (passing_is s.at s.curmin s.curmax id e) (again_is id e.1.birth))

    found : is_ahead ids s id e ≡ true → Ahead g s id e
    found t = elim (parts_is.0 t) [
      | inl l ↦ elim l [ inl a ↦ later a | inr q ↦ queued q.0 q.1 q.2.0 q.2.1 ]
      | inr r ↦ elim r [ inl p ↦ passing p.0 p.1 p.2 p.3 p.4 | inr a ↦ again a.0.0 a.0.1 a.1.0 a.1.1 ]
    ]

    tests : Ahead g s id e → is_ahead ids s id e ≡ true
    tests (later a) = parts_is.1 (inl (inl a))
    tests (queued q h n b) = parts_is.1 (inl (inr (q, h, (n, b))))
    tests (passing k at le lo hi) = parts_is.1 (inr (inl (k, at, le, lo, hi)))
    tests (again k at on b) = parts_is.1 (inr (inr ((k, at), (on, b))))

    pub ahead_is : Decides (is_ahead ids s id e) (Ahead g s id e)
    ahead_is = (found, tests)

  module _ (scope : Scope) (done : List Piece) where
    covered_entry : (id : DsId) (e : Key × Bp) → Decides (is_covered_entry ids scope s done id e) ((p : Piece) → Has (pieces_of e.1) p → IsTrue (in_scope scope p) → IsTrue (has_piece done p) ⊎ Ahead g s id e)
    covered_entry id e =
        each-of (λ (p : Piece). not (in_scope scope p) || (has_piece done p || is_ahead ids s id e)) (λ (p : Piece). IsTrue (in_scope scope p) → IsTrue (has_piece done p) ⊎ Ahead g s id e) (λ p. implies (in_scope scope p) (has_piece done p || is_ahead ids s id e) (itself (in_scope scope p)) (Decides-or (has_piece done p) (is_ahead ids s id e) (itself (has_piece done p)) (ahead_is id e))) (pieces_of e.1)

    abbrev CoversEntry : Dataset → Key × Bp → Type 0
    CoversEntry d e = start_of g d.parent < e.1.birth → (p : Piece) → Has (pieces_of e.1) p → IsTrue (in_scope scope p) → IsTrue (has_piece done p) ⊎ Ahead g s d.id e

    covered_dataset : (d : Dataset) → Decides (is_covered_dataset ids scope s done (start_of g d.parent) d) ((e : Key × Bp) → Has d.entries e → CoversEntry d e)
    covered_dataset d =
        each-of (λ (e : Key × Bp). not (nat_lt (start_of g d.parent) e.1.birth) || is_covered_entry ids scope s done d.id e) (λ (e : Key × Bp). CoversEntry d e) (λ e. implies (nat_lt (start_of g d.parent) e.1.birth) (is_covered_entry ids scope s done d.id e) (Decides-ltb (start_of g d.parent) e.1.birth) (covered_entry d.id e)) d.entries

    all_covered : Decides (list_all (λ (d : Dataset). is_covered_dataset ids scope s done (start_of g d.parent) d) g) ((d : Dataset) → Has g d → (e : Key × Bp) → Has d.entries e → CoversEntry d e)
    all_covered =
        each-of (λ (d : Dataset). is_covered_dataset ids scope s done (start_of g d.parent) d) (λ (d : Dataset). (e : Key × Bp) → Has d.entries e → CoversEntry d e) (λ d. covered_dataset d) g

    pub covering_is : Decides (is_covering ids g scope s done) (Covers g scope s (has_piece done))
    covering_is =
        like (is_covering ids g scope s done) (implies (claims s.status) (list_all (λ (d : Dataset). is_covered_dataset ids scope s done (start_of g d.parent) d) g) (itself (claims s.status)) all_covered) (λ f. record { covered = λ c d e p home has within. f c d home.here e home.holds home.born p has within }) (λ cov c d here e holds born p has within. cov.covered c d e p (record { here = here; holds = holds; born = born }) has within)

-- as the functions have it
pub ahead_from : (g : Graph) (s : Phys) (ids slice : List DsId) (id : DsId) (e : Key × Bp) (r : Bool) → ((x : DsId) → Has ids x ↔ IsLater g s x) → slice ≡ ids → r ≡ is_ahead slice s id e → Decides r (Ahead g s id e)
ahead_from g s ids slice id e r is same eq =
    let at = subst (λ (l : List DsId). (x : DsId) → Has l x ↔ IsLater g s x) (sym same) is in
    let d = ahead_is g s slice at id e in
    (λ t. d.0 (sym eq ∙ t), λ a. eq ∙ d.1 a)

pub covering_from : (g : Graph) (scope : Scope) (s : Phys) (ids slice : List DsId) (done : List Piece) (r : Bool) → ((x : DsId) → Has ids x ↔ IsLater g s x) → slice ≡ ids → r ≡ is_covering slice g scope s done → Decides r (Covers g scope s (has_piece done))
covering_from g scope s ids slice done r is same eq =
    let at = subst (λ (l : List DsId). (x : DsId) → Has l x ↔ IsLater g s x) (sym same) is in
    let d = covering_is g s slice at scope done in
    (λ t. d.0 (sym eq ∙ t), λ a. eq ∙ d.1 a)

pub later_from : (g : Graph) (s : Phys) (roots slice found : List DsId) → roots ≡ pending s → slice ≡ roots → ((x : DsId) → Has found x ↔ IsBelow g slice x) → (x : DsId) → Has found x ↔ IsLater g s x
later_from g s roots slice found is same below x =
    let at = subst (λ (l : List DsId). Has found x ↔ IsBelow g l x) (same ∙ is) (below x) in
    (λ h. let b = at.0 h in record { ancestor = b.root; is_pending = b.is_root; above = b.above }, λ l. at.1 (record { root = l.ancestor; is_root = l.is_pending; above = l.above }))
