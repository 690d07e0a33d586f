-- The turn that meets a block.
use Rattle.std.proofs.Common.{◌≡◌, ◌⊎◌, ◌<◌, ◌≤◌, ◌+◌, ◌&&◌, ℕ, Bool, false, not, List, [], ◌++◌, refl, sym, ap, subst, ◌∙◌}
use Rattle.std.specs.Prelude.{filter, IsTrue, Some, if◌then◌else◌}
use Rattle.std.proofs.lemmas.Bool.{cases_Bool, and_from, le-leb, not_from_false}
use Rattle.zs_ids.specs.declared.key.Key.{Key}
use Rattle.zs_ids.specs.declared.block.Bp.{Bp}
use Rattle.zs_ids.specs.declared.block.Piece.{Piece}
use Rattle.zs_ids.specs.declared.dataset.DsId.{DsId}
use Rattle.std.specs.Ordering.{is_le}
use Rattle.zs_ids.specs.Key.{key_cmp}
use Rattle.zs_ids.specs.Blocks.{first_from}
use Rattle.zs_ids.specs.Graph.{Has, Dataset, Graph, pieces_of}
use Rattle.zs_ids.specs.GraphTree.{IsHome}
use Rattle.zs_ids.specs.GraphValid.{IsValid}
use Rattle.zs_phys.specs.declared.scope.Scope.{Scope}
use Rattle.zs_phys.specs.declared.phys.Phys.{Phys}
use Rattle.zs_phys.specs.declared.phys.At.{At}
use Rattle.zs_phys.specs.declared.phys.At.TheVariants as ats
use Rattle.zs_phys.specs.declared.step.Step.TheVariants as steps
use Rattle.zs_phys.specs.Scope.{in_scope}
use Rattle.zs_phys.specs.Ahead.{pending, ids_at, Ahead}
use Rattle.zs_phys.specs.Ahead.Ahead.{later, queued, passing, again}
use Rattle.zs_phys.specs.Sound.{AreDistinct, Sound}
use Rattle.zs_phys.specs.Turn.{behind, put_by}
use Rattle.zs_graph.proofs.Lists.{has-filter}
use Rattle.zs_graph.proofs.Graphs.{one_dataset}
use Rattle.zs_graph.proofs.Keys.{first_of, deeper}
use Rattle.zs_cover.proofs.States.{ids, at_id, at_key, Places, among}
use mathlib.Core.Logic.{inl, inr}

module _ (g : Graph) (n h : ℕ) (scope : Scope) (s : Phys) (valid : IsValid g n) (sound : Sound g h scope s) (d : Dataset) (k : Key) (e : Key × Bp) (here : Has g d) (at : s.at ≡ ats.Dataset d.id k) (found : first_from d.entries k s.curmin ≡ Some e) where
  -- the state after it
  abbrev met : Phys
  met = record s { at = behind s.at e.0 }

  next_at : behind s.at e.0 ≡ ats.Dataset d.id (record e.0 { depth = e.0.depth + 1 })
  next_at = ap (λ (a : At). behind a e.0) at

  same_pending : pending (record s { at = behind s.at e.0 }) ≡ pending s
  same_pending = ap (λ (a : At). ids_at a ++ ids s.todo) next_at ∙ sym (ap (λ (a : At). ids_at a ++ ids s.todo) at)

  pub meet-places : Places g h scope met
  meet-places =
      among g h scope s met sound (λ x i. subst (λ (l : List DsId). Has l x) same_pending i) (subst AreDistinct (sym same_pending) sound.once) (λ q i. i) (λ c l i there. let name : d.id ≡ c.id = at_id d.id c.id (record e.0 { depth = e.0.depth + 1 }) l (sym next_at ∙ there) in let p = sound.pass c k i (at ∙ ap (λ (x : DsId). ats.Dataset x k) name) in record { in_range = p.in_range; in_snapshot = p.in_snapshot; whole = p.whole }) (λ none. absurd (subst (λ (l : List DsId). Has l d.id) (sym (ap ids_at next_at) ∙ none) (inl refl)))

  put_has : (done : Piece → Bool) (p : Piece) → e.1.birth ≤ s.curmax → Has (pieces_of e.1) p → IsTrue (in_scope scope p) → done p ≡ false → Has (put_by scope done s (steps.At e.0 e.1)) p
  put_has done p old piece in_range off =
      subst (λ (b : Bool). Has (if b then filter (λ (x : Piece). in_scope scope x && not (done x)) (pieces_of e.1) else []) p) (sym (le-leb e.1.birth s.curmax old)) (has-filter (λ (x : Piece). in_scope scope x && not (done x)) (pieces_of e.1) p piece (and_from (in_scope scope p) (not (done p)) in_range (not_from_false (done p) off)))

  pub meet-ahead : (done more : Piece → Bool) (c : Dataset) (f : Key × Bp) (p : Piece) → (IsTrue (done p) → IsTrue (more p)) → (Has (put_by scope done s (steps.At e.0 e.1)) p → IsTrue (more p)) → IsHome g c f → Has (pieces_of f.1) p → IsTrue (in_scope scope p) → Ahead g s c.id f → IsTrue (more p) ⊎ Ahead g met c.id f
  meet-ahead done more c f p stays puts home piece in_range ahead = elim ahead [
    | later l ↦ inr (later (record { ancestor = l.ancestor; is_pending = subst (λ (x : List DsId). Has x l.ancestor) (sym same_pending) l.is_pending; above = l.above }))
    | queued q i name born ↦ inr (queued q i name born)
    | passing l there key born old ↦ pass l there key born old
    | again l there on born ↦ inr (again (record e.0 { depth = e.0.depth + 1 }) (next_at ∙ ap (λ (x : DsId). ats.Dataset x (record e.0 { depth = e.0.depth + 1 })) (at_id d.id c.id k l (sym at ∙ there))) on born)
  ]
    where
      met_one : f ≡ e → f.1.birth ≤ s.curmax → IsTrue (more p)
      met_one is old = elim (cases_Bool (done p)) [
        | inl on ↦ stays on
        | inr off ↦ puts (put_has done p (subst (λ (x : Key × Bp). x.1.birth ≤ s.curmax) is old) (subst (λ (x : Key × Bp). Has (pieces_of x.1) p) is piece) in_range off)
      ]

      pass : (l : Key) → s.at ≡ ats.Dataset c.id l → IsTrue (is_le (key_cmp l f.0)) → s.curmin < f.1.birth → f.1.birth ≤ s.curmax → IsTrue (more p) ⊎ Ahead g met c.id f
      pass l there key born old =
          let name : d.id ≡ c.id = at_id d.id c.id k l (sym at ∙ there) in
          let same : c ≡ d = one_dataset g valid.tree.in_order c d home.here here (sym name) in
          let from : l ≡ k = sym (at_key d.id c.id k l (sym at ∙ there)) in
          let holds : Has d.entries f = subst (λ (x : Dataset). Has x.entries f) same home.holds in
          elim (first_of d.entries k s.curmin e f ((valid.holds d here).in_order) found holds (subst (λ (x : Key). IsTrue (is_le (key_cmp x f.0))) from key) born) [
            | inl is ↦ inl (met_one is old)
            | inr less ↦ inr (passing (record e.0 { depth = e.0.depth + 1 }) (next_at ∙ ap (λ (x : DsId). ats.Dataset x (record e.0 { depth = e.0.depth + 1 })) name) (deeper e.0 f.0 less) born old)
          ]
