-- The blocks of one dataset were put over its own, where there were any.
use Rattle.std.specs.Prelude.{◌≡◌, ◌≢◌, ◌==◌, ℕ, Bool, false, cond, List, [], length, None, refl, if◌then◌else◌}
use Rattle.std.proofs.Common.{sym, ◌∙◌, ap, subst}
use Rattle.std.proofs.lemmas.Bool.{true≢false, eq-eqb}
use Rattle.zs_ids.specs.declared.key.Key.{Key}
use Rattle.zs_ids.specs.declared.block.Bp.{Bp}
use Rattle.zs_ids.specs.declared.block.Item.{Item}
use Rattle.zs_ids.specs.declared.block.Piece.{Piece}
use Rattle.zs_ids.specs.Graph.{Graph}
use Rattle.zs_ids.specs.GraphValid.{Room, IsWithin}
use Rattle.zs_ids.specs.GraphChange.{AreFreed, applied}
use Rattle.zs_graph.specs.declared.freed.Freed.{Freed}
use Rattle.zs_graph.specs.Made.{IsApplied}
use Rattle.zs_graph.specs.View.{GraphView}
use Rattle.zs_queue.specs.Waiting.{without}
use Rattle.zs_scan.specs.View.{ScanView, mark_of, has_item, pieces_in}
use Rattle.zs_scan.specs.Covered.{IsScanOf, IsScanBut}
use Rattle.zs_scan.specs.Changes.{ApplyLaw, KeepsFreed}
use Rattle.zs_core.specs.declared.parts.Changes.{Changes}
use Rattle.zs_core.specs.Freeing.{FreesAll}
use Rattle.zs_core.specs.Applying.{PutsOwn}
use Rattle.zs_core.proofs.PutLost.{items_one}

-- there were none
pub puts_none : (t : ℕ) (own : Changes) (g : GraphView) (v : ScanView) → own.blocks.items ≡ [] → PutsOwn t own g v g v
puts_none t own g v is = record { none = λ none. (refl, refl); some = λ some. absurd (some is) }

module _ (law : ApplyLaw) (t : ℕ) (own : Changes) (old new : GraphView) (freed : Freed) (before after : ScanView) (are : IsApplied old own.ds own.blocks.items t freed new) (rest : after ≡ record before { waiting = without before.waiting (pieces_in freed.items); marks = after.marks; room = after.room }) (marks : (q : Piece) → mark_of after.marks q ≡ (if has_item freed.items q then None else mark_of before.marks q)) (keeps : KeepsFreed freed.items before after) where
  sets : new.sets ≡ applied old.sets are.to own.blocks.items
  sets = ap (λ (x : GraphView). x.sets) are.now

  scanned : (room : Room) → IsWithin room new.sets → IsScanOf room old.sets t t before → IsScanOf room new.sets t t after
  scanned room within scan =
      let but : IsScanBut (pieces_in freed.items) room (applied old.sets are.to own.blocks.items) t t before = law room old.sets t t before are.to own.blocks.items freed.items scan (record { put = are.may; within = subst (λ (g : Graph). IsWithin room g) sets within }) (subst (λ (g : Graph). AreFreed old.sets g freed.items) sets are.items) in
      keeps room new.sets t t (subst (λ (g : Graph). IsScanBut (pieces_in freed.items) room g t t before) (sym sets) but)

  lost : FreesAll (pieces_in freed.items) before after
  lost = record { rest = rest; marks = λ q. marks q ∙ ap (λ (b : Bool). cond b None (mark_of before.marks q)) (items_one freed.items q) }

  -- there were some
  pub puts_some : own.blocks.items ≢ [] → PutsOwn t own old before new after
  puts_some some = record {
    none = λ none. absurd (some none);
    some = λ more. record { freed = freed; applied = are; lost = lost; scanned = scanned };
  }

-- where the test says so there are some
pub some_blocks : (blocks seen : List (Key × Bp)) (n : ℕ) (empty : Bool) → empty ≡ false → empty ≡ (n == 0) → length seen ≡ n → seen ≡ blocks → blocks ≢ []
some_blocks blocks seen n empty not_empty is long same none =
    true≢false (sym (eq-eqb n 0 (sym long ∙ ap (λ (l : List (Key × Bp)). length l) (same ∙ none))) ∙ sym is ∙ not_empty)

-- there were some, of which the graph and the scan were told
pub puts_told : ApplyLaw → (t : ℕ) (own : Changes) (old new : GraphView) (freed : Freed) (before after : ScanView) (blocks : List (Key × Bp)) (items : List Item) → blocks ≡ own.blocks.items → items ≡ freed.items → IsApplied old own.ds blocks t freed new → after ≡ record before { waiting = without before.waiting (pieces_in items); marks = after.marks; room = after.room } → ((q : Piece) → mark_of after.marks q ≡ (if has_item items q then None else mark_of before.marks q)) → KeepsFreed items before after → own.blocks.items ≢ [] → PutsOwn t own old before new after
puts_told law t own old new freed before after blocks items same is are rest marks keeps some =
    puts_some law t own old new freed before after
    (subst (λ (l : List (Key × Bp)). IsApplied old own.ds l t freed new) same are)
    (subst (λ (l : List Item). after ≡ record before { waiting = without before.waiting (pieces_in l); marks = after.marks; room = after.room }) is rest)
    (subst (λ (l : List Item). (q : Piece) → mark_of after.marks q ≡ (if has_item l q then None else mark_of before.marks q)) is marks)
    (subst (λ (l : List Item). KeepsFreed l before after) is keeps)
    some
