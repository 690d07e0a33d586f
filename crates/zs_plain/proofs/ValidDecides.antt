-- The test of a valid graph decides it.
use Rattle.std.proofs.Common.{◌≡◌, ◌↔◌, ℕ, Bool, not, ◌&&◌, ◌||◌, List, length, sym, ap, ◌∙◌, Some}
use Rattle.std.specs.Prelude.{nat_le}
use Rattle.std.specs.Bool.{Decides}
use Rattle.std.specs.List.{list_all}
use Rattle.std.proofs.lemmas.Bool.Decides.{Decides-and}
use Rattle.zs_ids.specs.declared.block.Piece.{Piece}
use Rattle.zs_ids.specs.Graph.{Has, Dataset, Graph, IsLive}
use Rattle.zs_ids.specs.GraphTree.{stands_on}
use Rattle.zs_ids.specs.GraphValid.{IsTree, HasBlocks, Shares, AreApart, Room, Valid}
use Rattle.zs_plain.specs.TreeTests.{is_tree, are_apart, do_lie_in, each_once}
use Rattle.zs_plain.specs.BlockTests.{has_blocks, does_share}
use Rattle.zs_plain.specs.ValidTests.{do_share, is_valid}
use Rattle.zs_plain.proofs.Decide.{like, implies, each-of}
use Rattle.zs_plain.proofs.TreeDecides.{tree_is, are_apart_is, all_lie_is, few_is, stands_is}
use Rattle.zs_plain.proofs.BlockDecides.{blocks_is, share_is}

module _ (g : Graph) where
  shares_is : (d p : Dataset) → Decides (not (stands_on p.id d.parent) || does_share d p) (d.parent ≡ Some p.id → Shares d p)
  shares_is d p =
      implies (stands_on p.id d.parent) (does_share d p) (stands_is p.id d.parent) (share_is d p)

  do_share_is : Decides (do_share g) ((d : Dataset) → Has g d → (p : Dataset) → Has g p → d.parent ≡ Some p.id → Shares d p)
  do_share_is =
      each-of (λ (d : Dataset). list_all (λ (p : Dataset). not (stands_on p.id d.parent) || does_share d p) g) (λ (d : Dataset). (p : Dataset) → Has g p → d.parent ≡ Some p.id → Shares d p) (λ d. each-of (λ (p : Dataset). not (stands_on p.id d.parent) || does_share d p) (λ (p : Dataset). d.parent ≡ Some p.id → Shares d p) (λ p. shares_is d p) g) g

  module _ (room : Room) (n : ℕ) (live : List Piece) (is : (p : Piece) → Has live p ↔ IsLive g p) where
    graph_is : Decides (is_tree g n && (list_all (λ (d : Dataset). has_blocks d n) g && (do_share g && are_apart g))) (IsTree g n × (((d : Dataset) → Has g d → HasBlocks d n) × (((d : Dataset) → Has g d → (p : Dataset) → Has g p → d.parent ≡ Some p.id → Shares d p) × AreApart g)))
    graph_is =
        Decides-and (is_tree g n) (list_all (λ (d : Dataset). has_blocks d n) g && (do_share g && are_apart g)) (tree_is g n) (Decides-and (list_all (λ (d : Dataset). has_blocks d n) g) (do_share g && are_apart g) (each-of (λ (d : Dataset). has_blocks d n) (λ (d : Dataset). HasBlocks d n) (λ d. blocks_is d n) g) (Decides-and (do_share g) (are_apart g) do_share_is (are_apart_is g)))

    valid_is : Decides (is_valid live room g n) (Valid room g n)
    valid_is =
        like (is_valid live room g n) (Decides-and (is_tree g n && (list_all (λ (d : Dataset). has_blocks d n) g && (do_share g && are_apart g))) (list_all (λ (d : Dataset). do_lie_in room d.entries) g && nat_le (length (each_once live)) room.blocks) graph_is (Decides-and (list_all (λ (d : Dataset). do_lie_in room d.entries) g) (nat_le (length (each_once live)) room.blocks) (all_lie_is room g) (few_is g live is room.blocks))) (λ w. record { graph = record { tree = w.0.0; holds = w.0.1.0; shares = λ d p hd hp e. w.0.1.1.0 d hd p hp e; apart = w.0.1.1.1 }; within = record { places = w.1.0; few = w.1.1 } }) (λ v. ((v.graph.tree, (v.graph.holds, (λ d hd p hp e. v.graph.shares d p hd hp e, v.graph.apart))), (v.within.places, v.within.few)))

    -- as the function has it
    pub valid_from : (slice : List Piece) (r : Bool) → slice ≡ live → r ≡ is_valid slice room g n → Decides r (Valid room g n)
    valid_from slice r same eq =
        let e : r ≡ is_valid live room g n = eq ∙ ap (λ (l : List Piece). is_valid l room g n) same in
        (λ t. valid_is.0 (sym e ∙ t), λ v. e ∙ valid_is.1 v)
