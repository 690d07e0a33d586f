-- Each live piece has one entry at home: it is found by climbing from any dataset that holds the piece.
use Rattle.std.proofs.Common.{◌≡◌, ◌<◌, ◌+◌, ℕ, suc, zero, Some, refl, sym, subst, ◌∙◌, arith}
use Rattle.std.proofs.lemmas.Bool.{cases_lt}
use Rattle.zs_ids.specs.declared.key.Key.{Key}
use Rattle.zs_ids.specs.declared.block.Bp.{Bp}
use Rattle.zs_ids.specs.declared.block.Piece.{Piece}
use Rattle.zs_ids.specs.Graph.{Has, Dataset, Graph, pieces_of}
use Rattle.zs_ids.specs.declared.dataset.DsId.{DsId}
use Rattle.zs_ids.specs.GraphTree.{IsHome, IsParent, Above}
use Rattle.zs_ids.specs.GraphTree.Above.{direct, up}
use Rattle.zs_ids.specs.GraphValid.{StandsOnSnapshot, IsBlock, record_sizes, IsValid, Overlap}
use Rattle.zs_ids.specs.GraphValid.IsBlock.{root, dnodes, inner, leaf}
use Rattle.zs_graph.specs.Climbing.{AtOrAbove, IsFoundFrom}
use Rattle.zs_graph.proofs.Graphs.{one_dataset, start_is, parent_is, acyclic, above-above}
use Rattle.zs_graph.proofs.Keys.{one_key}
use Rattle.zs_graph.proofs.Lists.{some_is}
use mathlib.Core.Logic.{inl, inr}

-- a record has a sector at least
some_size : (size : ℕ) → Has record_sizes size → 0 < size
some_size size h = elim h [ inl e ↦ omega (arith, e) | inr a ↦ elim a [ inl e ↦ omega (arith, e) | inr b ↦ elim b [ inl e ↦ omega (arith, e) | inr c ↦ elim c [ inl e ↦ omega (arith, e) | inr d ↦ elim d [ inl e ↦ omega (arith, e) | inr f ↦ elim f [ inl e ↦ omega (arith, e) | inr i ↦ elim i [ inl e ↦ omega (arith, e) | inr j ↦ elim j [ inl e ↦ omega (arith, e) | inr k ↦ elim k [ inl e ↦ omega (arith, e) | inr none ↦ absurd none ] ] ] ] ] ] ] ] ]

-- and so has each block
some_sectors : (levels size : ℕ) (e : Key × Bp) → 0 < size → IsBlock levels size e → 0 < e.1.sectors
some_sectors levels size e pos block = elim block [
  | root k f ↦ let s : e.1.sectors ≡ 8 = f.size in omega (arith, s)
  | dnodes j lt k f ↦ let s : e.1.sectors ≡ 8 = f.size in omega (arith, s)
  | inner l positive below k f ↦ let s : e.1.sectors ≡ 8 = f.size in omega (arith, s)
  | leaf some k f ↦ let s : e.1.sectors ≡ size = f.size in omega (arith, s, pos)
]

module _ (g : Graph) (n : ℕ) (valid : IsValid g n) where
  pub sectors_of : (d : Dataset) (e : Key × Bp) → Has g d → Has d.entries e → 0 < e.1.sectors
  sectors_of d e i h =
      let b = valid.holds d i in
      some_sectors (b.levels e.0.object) (b.size e.0.object) e (some_size (b.size e.0.object) (b.is_size e.0.object)) (b.blocks e h)

  -- a dataset is found from itself
  at_home : (d : Dataset) (e : Key × Bp) → Has g d → Has d.entries e → IsFoundFrom g d.id e d
  at_home d e i h = record { upward = inl refl; way = λ x j down to. subst (λ (y : Dataset). Has y.entries e) (sym (same x j down to)) h }
    where
      no_cycle : (a : DsId) → Above g a a → ⊥
      no_cycle = acyclic g n valid.tree

      same : (x : Dataset) → Has g x → AtOrAbove g d.id x.id → AtOrAbove g x.id d.id → x ≡ d
      same x j down (inl is) = one_dataset g (valid.tree).in_order x d j i is
      same x j (inl is) (inr above) = absurd (no_cycle d.id (subst (λ (a : DsId). Above g a d.id) (sym is) above))
      same x j (inr below) (inr above) = absurd (no_cycle d.id (above-above g d.id x.id d.id below above))

  -- what is found from a dataset's parent is found from the dataset, if this holds the entry
  from_parent : (home : DsId) (e : Key × Bp) (d below : Dataset) → Has g d → d.parent ≡ Some below.id → Has d.entries e → IsFoundFrom g home e below
      → IsFoundFrom g home e d
  from_parent home e d below i is h found = record { upward = higher found.upward; way = way }
    where
      parent : IsParent g below.id d.id
      parent = record { child = d; here = i; named = refl; stands = is }

      higher : AtOrAbove g home below.id → AtOrAbove g home d.id
      higher (inl same) = inr (subst (λ (a : DsId). Above g a d.id) (sym same) (direct d.id parent))
      higher (inr above) = inr (up d.id below.id parent above)

      the_parent : (a c : DsId) → IsParent g a c → c ≡ d.id → a ≡ below.id
      the_parent a c p named = some_is a below.id (sym (parent_is g n valid.tree a c p d i (sym named)) ∙ is)

      lower : (a c : DsId) → Above g a c → c ≡ d.id → AtOrAbove g a below.id
      lower a _ (direct c p) named = inl (the_parent a c p named)
      lower a _ (up c m p above) named = inr (subst (λ (x : DsId). Above g a x) (the_parent m c p named) above)

      way : (x : Dataset) → Has g x → AtOrAbove g home x.id → AtOrAbove g x.id d.id → Has x.entries e
      way x j down (inl same) = subst (λ (y : Dataset). Has y.entries e) (sym (one_dataset g (valid.tree).in_order x d j i same)) h
      way x j down (inr above) = found.way x j down (lower x.id d.id above refl)

  -- from a dataset that holds an entry up to the one where it is at home
  climb : (fuel : ℕ) (d : Dataset) (e : Key × Bp) → Has g d → Has d.entries e → (s : StandsOnSnapshot g d) → s.below.creation < fuel
      → (x : Dataset) × IsHome g x e × IsFoundFrom g x.id e d
  climb zero d e i h s less = absurd (omega (arith, less))
  climb (suc fuel) d e i h s less = elim (cases_lt s.below.creation e.1.birth) [
    | inl born ↦
        let start = sym (start_is g (valid.tree).in_order s.below d.parent s.here s.is_parent) in
        (d, record { here = i; holds = h; born = subst (λ (k : ℕ). k < e.1.birth) start born }, at_home d e i h)
    | inr old ↦
        let held : Has s.below.entries e = (valid.shares d s.below i s.here s.is_parent).shared e h old in
        elim ((valid.tree).stands s.below s.here) [
          | inl o ↦ absurd (subst (λ (x : Dataset). Has x.entries e) o held)
          | inr t ↦
              let rises : t.below.creation < s.below.creation = t.rises s.is_snapshot in
              let rest = climb fuel s.below e s.here held t (omega (arith, rises, less)) in
              (rest.0, rest.1, from_parent (rest.0).id e d s.below i s.is_parent h rest.2)
        ]
  ]

  pub has_home : (d : Dataset) (e : Key × Bp) → Has g d → Has d.entries e → (x : Dataset) × IsHome g x e × IsFoundFrom g x.id e d
  has_home d e i h = elim ((valid.tree).stands d i) [
    | inl o ↦ absurd (subst (λ (x : Dataset). Has x.entries e) o h)
    | inr s ↦ climb (s.below.creation + 1) d e i h s (omega arith)
  ]

  -- two entries at home with one piece are one
  pub one_home : (c d : Dataset) (e f : Key × Bp) (p : Piece) → IsHome g c e → IsHome g d f → Has (pieces_of e.1) p → Has (pieces_of f.1) p → (d.id ≡ c.id) × (f ≡ e)
  one_home c d e f p hc hd pe pf =
      let se : 0 < e.1.sectors = sectors_of c e hc.here hc.holds in
      let sf : 0 < f.1.sectors = sectors_of d f hd.here hd.holds in
      let meet : Overlap e.1 f.1 = record { first = p; second = p; is_first = pe; is_second = pf; vdev = refl; before = omega (arith, sf); behind = omega (arith, se) } in
      let both = valid.apart c d e f hc hd meet in
      let same : d ≡ c = one_dataset g (valid.tree).in_order d c hd.here hc.here (sym both.0) in
      (sym both.0, one_key c.entries ((valid.holds c hc.here).in_order) f e (subst (λ (x : Dataset). Has x.entries f) same hd.holds) hc.holds (sym both.1))
