-- Datasets of which some are written stay formed, lie where they should, and apart.
use Rattle.std.specs.Prelude.{◌≡◌, ◌⊎◌, ◌<◌, ◌+◌, ◌==◌, ℕ, List, [], take, Option, refl}
use Rattle.std.specs.List.Sorted.{IsStrictlySortedBy}
use Rattle.std.proofs.Common.{sym, ◌∙◌, ap, subst, inl, inr, arith}
use Rattle.std.proofs.lemmas.Bool.{eqb-true}
use Rattle.zs_ids.specs.declared.key.Key.{Key}
use Rattle.zs_ids.specs.declared.block.Bp.{Bp}
use Rattle.zs_ids.specs.declared.block.Piece.{Piece}
use Rattle.zs_ids.specs.declared.block.Place.{Place}
use Rattle.zs_ids.specs.declared.dataset.DsId.{DsId}
use Rattle.zs_ids.specs.Graph.{Dataset, Graph, Has, IsOfBlock, pieces_of}
use Rattle.zs_ids.specs.GraphTree.{IsHome, start_of}
use Rattle.zs_ids.specs.GraphValid.{AreApart, Overlap}
use Rattle.zs_graph.proofs.Lists.{from-filter}
use Rattle.zs_txg.specs.declared.staged.Staging.{Staging}
use Rattle.zs_txg.specs.Txg.{Open, Slot, staged_for}
use Rattle.zs_core.specs.declared.parts.Changes.{Changes}
use Rattle.zs_core.specs.Placed.{AreFormed, Meet, LiesBetween}
use Rattle.zs_core.specs.Datasets.{AreDatasets, IsFormedWith}
use Rattle.zs_core.specs.Kept.{AreChangesOf}
use Rattle.zs_core.proofs.Carried.{none_staged}
use Rattle.zs_core.proofs.PutEntries.{from_all, IsChangeOf, AreMade, are_made}
use Rattle.zs_core.proofs.PutFormed.{formed_after}
use Rattle.zs_core.proofs.PutOver.{put_over, from_over, start_over, IsPut, IsPutOn}

-- what is staged for a dataset is staged, and for it
pub staged_is : (staged : List (Slot × Staging)) (id : DsId) (s : Slot × Staging) → Has (staged_for staged id) s → Has staged s × (s.0.0 ≡ id)
staged_is staged id s h =
    let r = from-filter (λ (e : Slot × Staging). e.0.0.0 == id.0) staged s h in
    (r.0, ap (λ (n : ℕ). let d : DsId = record { 0 = n } in d) (eqb-true s.0.0.0 id.0 r.1))

-- datasets that are formed and placed are so without what is staged
pub without_staged : (g : Graph) (t start next : ℕ) → ((d : Dataset) → Has g d → (size : ℕ → ℕ) × AreFormed size t d.entries) → ((p : Piece) (sectors : ℕ) (sum : List ℕ) → IsOfBlock g p sectors sum → LiesBetween start next p.place sectors) → AreDatasets g t start next []
unfolding IsStrictlySortedBy
without_staged g t start next formed live = record {
  in_order = tt;
  heads = λ e h. absurd h;
  formed = λ d h. let f = formed d h in record { size = f.0; formed = f.1; staged = none_staged f.0 d.id };
  live = live;
  new = λ e h. absurd h;
  new_apart = λ e f h i meet. absurd h;
  between = λ e p sectors sum h b meet. absurd h;
}

-- an entry of a dataset of which some were written: the dataset had it, or it is the pointer of a block that was staged for it
pub record Origin (g : Graph) (o : Open) (x : Dataset) (e : Key × Bp) : Type 0 where
  pub of : Dataset
  pub here : Has g of
  pub same : x.id ≡ of.id
  pub parent : x.parent ≡ of.parent
  pub from : Has of.entries e ⊎ ((s : Slot × Staging) × Has (staged_for o.staged of.id) s × IsChangeOf o.txg s e)

-- an old block is one of the old datasets
pub old_block : (g : Graph) (d : Dataset) (e : Key × Bp) (p : Piece) → Has g d → Has d.entries e → Has (pieces_of e.1) p → IsOfBlock g p e.1.sectors e.1.sum
old_block g d e p h i is = record { holder = d; is_dataset = h; at = e; is_entry = i; is_piece = is; size = refl; same_sum = refl }

module _ (g : Graph) (o : Open) (changes : List Changes) (start next : ℕ) (datasets : AreDatasets g o.txg start next o.staged) (are : AreChangesOf g o changes) (i : ℕ) where
  -- where an entry comes from
  pub origin : (x : Dataset) (e : Key × Bp) → Has (put_over g (take i changes)) x → Has x.entries e → Origin g o x e
  origin x e h has = let r = from_over g o changes i are x h in go r.0 r.1 r.2
    where
      written : (d : Dataset) → Has g d → (p : IsPutOn o d x) → Origin g o x e
      written d here p =
          let f : IsFormedWith o.txg d (staged_for o.staged d.id) = datasets.formed d here in
          let m : AreMade o.txg (staged_for o.staged d.id) p.changes = are_made f.size d.id d.entries (staged_for o.staged d.id) o.txg p.changes f.staged p.are in
          record {
            of = d;
            here = here;
            same = ap (λ (y : Dataset). y.id) p.is;
            parent = ap (λ (y : Dataset). y.parent) p.is;
            from = elim (from_all d.entries p.changes e f.formed.in_order (subst (λ (y : Dataset). Has y.entries e) p.is has)) [
              | inl new ↦ inr (m.from e new)
              | inr old ↦ inl old.0
            ];
          }

      go : (d : Dataset) → Has g d → IsPut o d x → Origin g o x e
      go d here (inl is) =
          record { of = d; here = here; same = ap (λ (y : Dataset). y.id) is; parent = ap (λ (y : Dataset). y.parent) is; from = inl (subst (λ (y : Dataset). Has y.entries e) is has) }
      go d here (inr p) = written d here p

  -- each dataset is formed
  formed_over : (x : Dataset) → Has (put_over g (take i changes)) x → (size : ℕ → ℕ) × AreFormed size o.txg x.entries
  formed_over x h = let r = from_over g o changes i are x h in go r.0 r.1 r.2
    where
      go : (d : Dataset) → Has g d → IsPut o d x → (size : ℕ → ℕ) × AreFormed size o.txg x.entries
      go d here (inl is) = let f = datasets.formed d here in (f.size, subst (λ (y : Dataset). AreFormed f.size o.txg y.entries) (sym is) f.formed)
      go d here (inr p) =
          let f = datasets.formed d here in
          (f.size, subst (λ (y : Dataset). AreFormed f.size o.txg y.entries) (sym p.is) (formed_after f.size d.id o.txg d.entries p.changes (staged_for o.staged d.id) f.formed f.staged p.are))

  -- each block lies where it should
  live_over : (p : Piece) (sectors : ℕ) (sum : List ℕ) → IsOfBlock (put_over g (take i changes)) p sectors sum → LiesBetween start next p.place sectors
  live_over p sectors sum b = let r = origin b.holder b.at b.is_dataset b.is_entry in go r.of r.here r.from
    where
      go : (d : Dataset) → Has g d → Has d.entries b.at ⊎ ((s : Slot × Staging) × Has (staged_for o.staged d.id) s × IsChangeOf o.txg s b.at) → LiesBetween start next p.place sectors
      go d here (inl old) = datasets.live p sectors sum (record { holder = d; is_dataset = here; at = b.at; is_entry = old; is_piece = b.is_piece; size = b.size; same_sum = b.same_sum })
      go d here (inr new) =
          subst (λ (m : ℕ). LiesBetween start next p.place m) (sym (b.size ∙ (new.2).sectors)) (subst (λ (q : Place). LiesBetween start next q (new.0).1.sectors) (sym ((new.2).piece p b.is_piece)) (datasets.new new.0 (staged_is o.staged d.id new.0 new.1).0))

  -- the datasets are formed and placed, and nothing is staged then
  pub datasets_over : AreDatasets (put_over g (take i changes)) o.txg start next []
  datasets_over = without_staged (put_over g (take i changes)) o.txg start next formed_over live_over

  -- new blocks lie as what was staged
  meet_staged : (x y : Key × Bp) (r s : Slot × Staging) → IsChangeOf o.txg r x → IsChangeOf o.txg s y → Overlap x.1 y.1 → Meet r.1.place r.1.sectors s.1.place s.1.sectors
  meet_staged x y r s is also over =
      let a : (over.first).place ≡ r.1.place = is.piece over.first over.is_first in
      let b : (over.second).place ≡ s.1.place = also.piece over.second over.is_second in
      let m : x.1.sectors ≡ r.1.sectors = is.sectors in
      let k : y.1.sectors ≡ s.1.sectors = also.sectors in
      let f : (over.first).place.sector ≡ r.1.place.sector = ap (λ (q : Place). q.sector) a in
      let j : (over.second).place.sector ≡ s.1.place.sector = ap (λ (q : Place). q.sector) b in
      let before : (over.first).place.sector < (over.second).place.sector + y.1.sectors = over.before in
      let behind : (over.second).place.sector < (over.first).place.sector + x.1.sectors = over.behind in
      record { mirror = ap (λ (q : Place). q.vdev) (sym a) ∙ over.vdev ∙ ap (λ (q : Place). q.vdev) b; before = omega (arith, before, f, j, k); behind = omega (arith, behind, f, j, m) }

  meet_live : (x y : Key × Bp) (s : Slot × Staging) (p q : Piece) → IsChangeOf o.txg s x → Has (pieces_of x.1) p → p.place.vdev ≡ q.place.vdev → p.place.sector < q.place.sector + y.1.sectors → q.place.sector < p.place.sector + x.1.sectors → Meet s.1.place s.1.sectors q.place y.1.sectors
  meet_live x y s p q is first mirror before behind =
      let a : p.place ≡ s.1.place = is.piece p first in
      let m : x.1.sectors ≡ s.1.sectors = is.sectors in
      let j : p.place.sector ≡ s.1.place.sector = ap (λ (w : Place). w.sector) a in
      record { mirror = ap (λ (w : Place). w.vdev) (sym a) ∙ mirror; before = omega (arith, before, j); behind = omega (arith, behind, j, m) }

  -- the old home of an entry that a dataset had
  home_before : (x d : Dataset) (e : Key × Bp) → IsHome (put_over g (take i changes)) x e → Has g d → x.parent ≡ d.parent → Has d.entries e → IsHome g d e
  home_before x d e home here parent old =
      record { here = here; holds = old; born = subst (λ (n : ℕ). n < e.1.birth) (start_over g (take i changes) x.parent ∙ ap (λ (p : Option DsId). start_of g p) parent) home.born }

  -- no two blocks meet
  pub apart_over : AreApart g → AreApart (put_over g (take i changes))
  apart_over apart x y e f home also over =
      let r = origin x e home.here home.holds in
      let s = origin y f also.here also.holds in
      go r s r.from s.from
    where
      go : (r : Origin g o x e) (s : Origin g o y f) → Has r.of.entries e ⊎ ((a : Slot × Staging) × Has (staged_for o.staged r.of.id) a × IsChangeOf o.txg a e) → Has s.of.entries f ⊎ ((b : Slot × Staging) × Has (staged_for o.staged s.of.id) b × IsChangeOf o.txg b f) → (x.id ≡ y.id) × (e.0 ≡ f.0)
      go r s (inl old) (inl was) =
          let two = apart r.of s.of e f (home_before x r.of e home r.here r.parent old) (home_before y s.of f also s.here s.parent was) over in
          (r.same ∙ two.0 ∙ sym s.same, two.1)
      go r s (inl old) (inr new) =
          absurd (datasets.between new.0 over.first e.1.sectors e.1.sum (staged_is o.staged s.of.id new.0 new.1).0 (old_block g r.of e over.first r.here old over.is_first) (meet_live f e new.0 over.second over.first new.2 over.is_second (sym over.vdev) over.behind over.before))
      go r s (inr new) (inl was) =
          absurd (datasets.between new.0 over.second f.1.sectors f.1.sum (staged_is o.staged r.of.id new.0 new.1).0 (old_block g s.of f over.second s.here was over.is_second) (meet_live e f new.0 over.first over.second new.2 over.is_first over.vdev over.before over.behind))
      go r s (inr new) (inr also_new) =
          let a = staged_is o.staged r.of.id new.0 new.1 in
          let b = staged_is o.staged s.of.id also_new.0 also_new.1 in
          let slot : (new.0).0 ≡ (also_new.0).0 = datasets.new_apart new.0 also_new.0 a.0 b.0 (meet_staged e f new.0 also_new.0 new.2 also_new.2 over) in
          (r.same ∙ sym a.1 ∙ ap (λ (z : Slot). z.0) slot ∙ b.1 ∙ sym s.same, (new.2).key ∙ ap (λ (z : Slot). z.1) slot ∙ sym (also_new.2).key)
