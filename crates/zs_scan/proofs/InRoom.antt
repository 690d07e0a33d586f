-- The item of a live block lies in the room of a pool.
use Rattle.std.proofs.Common.{◌≡◌, ℕ, ◌≤◌, ◌&&◌, Bool, true, false, List, [], ◌∷◌, nat_le, refl, sym, subst, inl, inr, arith}
use Rattle.std.specs.List.{list_all}
use Rattle.zs_ids.specs.declared.key.Key.{Key}
use Rattle.zs_ids.specs.declared.block.Bp.{Bp}
use Rattle.zs_ids.specs.Graph.{Has}
use Rattle.zs_ids.specs.GraphValid.{LiesIn, IsBlock, record_sizes}
use Rattle.zs_ids.specs.GraphValid.IsBlock.{root, dnodes, inner, leaf}
use Rattle.zs_scan.specs.Covered.{RoomLaw}

-- a size of a block
abbrev IsSize : ℕ → Type 0
IsSize sectors = (1 ≤ sectors) × (sectors ≤ 256)

both : (a b : Bool) → (a && b) ≡ true → (a ≡ true) × (b ≡ true)
both true b h = (refl, h)
both false b h = cc

-- what holds of each of a list holds of one that it has
of_all : (p : ℕ → Bool) (xs : List ℕ) (x : ℕ) → list_all p xs ≡ true → Has xs x → p x ≡ true
of_all p [] x all h = absurd h
of_all p (y ∷ ys) x all h =
    let parts = both (p y) (list_all p ys) all in
    elim h [ inl is ↦ subst (λ (z : ℕ). p z ≡ true) is parts.0 | inr later ↦ of_all p ys x parts.1 later ]

-- a record size is one
record_is : (size : ℕ) → Has record_sizes size → IsSize size
record_is size h =
    let parts = both (nat_le 1 size) (nat_le size 256) (of_all (λ s. nat_le 1 s && nat_le s 256) record_sizes size refl h) in
    (at_least parts.0, at_most parts.1)
  where
    at_least : nat_le 1 size ≡ true → 1 ≤ size
    at_least t = grind arith

    at_most : nat_le size 256 ≡ true → size ≤ 256
    at_most t = grind arith

-- and so is the size of each block
block_is : (levels size : ℕ) (e : Key × Bp) → IsSize size → IsBlock levels size e → IsSize e.1.sectors
block_is levels size e is block = elim block [
  | root k f ↦ eight f.size
  | dnodes j lt k f ↦ eight f.size
  | inner l up below k f ↦ eight f.size
  | leaf some k f ↦ let same : e.1.sectors ≡ size = f.size in subst IsSize (sym same) is
]
  where
    eight : e.1.sectors ≡ 8 → IsSize e.1.sectors
    eight same = (omega (arith, same), omega (arith, same))

-- the item of a live block lies in the room
pub block_in_room : RoomLaw
block_in_room room g n piece sectors sum valid of =
    let blocks = valid.graph.holds of.holder of.is_dataset in
    let is : IsSize of.at.1.sectors = block_is (blocks.levels of.at.0.object) (blocks.size of.at.0.object) of.at (record_is (blocks.size of.at.0.object) (blocks.is_size of.at.0.object)) (blocks.blocks of.at of.is_entry) in
    let same : IsSize sectors = subst IsSize (sym of.size) is in
    record {
      lies = subst (λ (k : ℕ). LiesIn room piece.place k) (sym of.size) (valid.within.places of.holder of.is_dataset of.at of.is_entry piece of.is_piece);
      some = same.0;
      most = same.1;
    }
