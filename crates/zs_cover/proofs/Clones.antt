-- A head that is made on a snapshot, and a device that goes offline, keep coverage.
use Rattle.std.proofs.Common.{◌≡◌, ◌≢◌, ◌⊎◌, ◌<◌, ◌≤◌, ◌+◌, ℕ, Bool, [], ◌∷◌, length, refl, sym, ap, subst, ◌∙◌, arith, length-append}
use Rattle.std.specs.Prelude.{Some, bit_or, ◌^◌}
use Rattle.std.proofs.lemmas.Bool.{true≢false}
use Rattle.zs_ids.specs.declared.key.Key.{Key}
use Rattle.zs_ids.specs.declared.block.Bp.{Bp}
use Rattle.zs_ids.specs.declared.block.Piece.{Piece}
use Rattle.zs_ids.specs.declared.dataset.DsId.{DsId}
use Rattle.zs_ids.specs.declared.dataset.Name.{Name}
use Rattle.zs_ids.specs.declared.dataset.TheConstants.Name.{EMPTY}
use Rattle.zs_ids.specs.Graph.{Has, Dataset, Graph}
use Rattle.zs_ids.specs.GraphTree.{IsHome, IsParent, Above, start_of}
use Rattle.zs_ids.specs.GraphTree.Above.{direct, up}
use Rattle.zs_ids.specs.GraphValid.{origin, IsTree, StandsOnSnapshot, last_birth, HasBlocks, Shares, IsValid}
use Rattle.zs_ids.specs.GraphChange.{MayClone, cloned, head_on}
use Rattle.zs_phys.specs.declared.scope.Scope.{Scope}
use Rattle.zs_phys.specs.declared.phys.Phys.{Phys}
use Rattle.zs_phys.specs.Ahead.{pending, Ahead, Covers}
use Rattle.zs_phys.specs.Sound.{Sound}
use Rattle.zs_phys.specs.Sound.EndsBy.{past, started, canceled}
use Rattle.zs_phys.specs.Ahead.Ahead.{later, queued, passing, again}
use Rattle.zs_cover.specs.Laws.{IsCovered, StaysDone, CloneLaw, FsLaw, AwayLaw}
use Rattle.zs_graph.proofs.Lists.{has-left, has-right, from-append, some_is, some≢none}
use Rattle.zs_graph.proofs.Graphs.{one_dataset, start_is, in_order-push}
use Rattle.zs_graph.proofs.Births.{last_in_snapshot}
use Rattle.zs_graph.proofs.Kept.{last_same, blocks_kept, shares_all, Holds, WasHome, apart_kept, within_kept}
use Rattle.zs_cover.proofs.CoversKept.{covers_kept}
use Rattle.zs_cover.proofs.Stays.{above_stays, ahead_stays, sound_stays}
use Rattle.zs_graph.proofs.CloneTree as tree
use mathlib.Core.Logic.{inl, inr}

module _ (g : Graph) (n h : ℕ) (early : n ≤ h) (valid : IsValid g n) (snap : Dataset) (id : DsId) (name : Name) (may : MayClone g snap id name) where
  abbrev new : Graph
  new = cloned g snap id name

  module _ (scope : Scope) (s : Phys) (sound : Sound g h scope s) where
    old_pending : (a : DsId) → Has (pending s) a → a ≢ id
    old_pending a i e = let o = sound.exist a i in tree.not_new g n h early valid snap id name may o.dataset o.here (o.named ∙ e)

    sound_after : Sound new h scope s
    sound_after =
        sound_stays g new h scope s sound (λ a i o. record { dataset = o.dataset; here = tree.has_old g n h early valid snap id name may o.dataset o.here; named = o.named }) (λ a b i j above. tree.above_was g n h early valid snap id name may a b (old_pending b j) above) (λ d hd i. elim (tree.from_new g n h early valid snap id name may d hd) [
          | inl k ↦ record { old = d; here = k; id = refl; head = refl; creation = refl }
          | inr e ↦ absurd (old_pending d.id i (ap (λ (x : Dataset). x.id) (sym e)))
        ])

    covers_after : (done more : Piece → Bool) → Covers g scope s done → StaysDone new done more → Covers new scope s more
    covers_after done more covers stays =
        covers_kept g new scope s s done more covers refl stays (λ x e p home piece in_range claim. let w = tree.was_home g n h early valid snap id name may x e home in (w.holder, w.home, λ ahead. subst (λ (y : DsId). Ahead new s y e) (sym w.placed) (ahead_stays g new s w.holder.id e (λ a above. above_stays g new (tree.parent_stays g n h early valid snap id name may) a w.holder.id above) ahead)))

-- the law of the clone
pub clone_keeps : CloneLaw
clone_keeps room g n h scope s done more snap id name covered may stays =
    let valid = (covered.valid).graph in
    record {
      early = omega arith;
      valid = record { graph = tree.new_valid g n h covered.early valid snap id name may; within = within_kept room g (cloned g snap id name) (tree.holds g n h covered.early valid snap id name may) (covered.valid).within };
      sound = sound_after g n h covered.early valid snap id name may scope s covered.sound;
      covers = covers_after g n h covered.early valid snap id name may scope s covered.sound done more covered.covers stays;
    }

-- the law of the filesystem
pub fs_keeps : FsLaw
fs_keeps room g n h scope s done more id name covered may stays =
    clone_keeps room g n h scope s done more origin id name covered may stays

-- the law of the device that goes offline: nothing but `away` changes, of which no definition speaks
module _ (g : Graph) (h : ℕ) (scope : Scope) (s : Phys) (mask : ℕ) where
  sound_away : Sound g h scope s → Sound g h scope (record s { away = mask })
  sound_away sound = record {
    exist = sound.exist;
    once = sound.once;
    unrelated = sound.unrelated;
    mins = sound.mins;
    ends = elim sound.ends [ past by ↦ past by | started at by todo ↦ started at by todo | canceled at by status ↦ canceled at by status ];
    pass = λ d k i at. let p = sound.pass d k i at in record { in_range = p.in_range; in_snapshot = p.in_snapshot; whole = p.whole };
    rests = λ ne. let r = sound.rests ne in record { nowhere = r.nowhere; empty = r.empty; goes_on = r.goes_on };
    between = λ e. let b = sound.between e in record { no_min = b.no_min; no_max = b.no_max; no_again = b.no_again };
    idle = sound.idle;
    empty = sound.empty;
    scrubs = sound.scrubs;
    logs = sound.logs;
  }

  ahead_away : (id : DsId) (e : Key × Bp) → Ahead g s id e → Ahead g (record s { away = mask }) id e
  ahead_away id e ahead = elim ahead [
    | later l ↦ later (record { ancestor = l.ancestor; is_pending = l.is_pending; above = l.above })
    | queued q i name born ↦ queued q i name born
    | passing k here key born old ↦ passing k here key born old
    | again k here on born ↦ again k here on born
  ]

pub away_keeps : AwayLaw
away_keeps room g n h scope s t done more dev covered handled stays =
    subst (λ (x : Phys). IsCovered room g n h scope x more) (sym handled) (record {
      early = covered.early;
      valid = covered.valid;
      sound = sound_away g h scope s (bit_or s.away (2 ^ dev)) covered.sound;
      covers = covers_kept g g scope s (record s { away = bit_or s.away (2 ^ dev) }) done more covered.covers refl stays (λ x e p home piece in_range claim. (x, home, λ ahead. ahead_away g h scope s (bit_or s.away (2 ^ dev)) x.id e ahead));
    })
