-- At a dataset the keys rise: the bookmark moves behind each block, and what the walk meets is not before the bookmark.
use Rattle.std.proofs.Common.{◌≡◌, ◌<◌, ◌≤◌, ◌+◌, ℕ, refl, sym, ap, subst, ◌∙◌, arith}
use Rattle.std.specs.Prelude.{IsTrue}
use Rattle.std.specs.Ordering.{is_le, nat_cmp, ordering_then}
use Rattle.std.specs.Cmp.{nat_cmp_is}
use Rattle.std.specs.declared.cmp.Ordering.{Ordering}
use Rattle.std.specs.declared.cmp.Ordering.TheVariants.{Less, Equal, Greater}
use Rattle.std.proofs.lemmas.Bool.{true≢false}
use Rattle.std.proofs.lemmas.Map.Keys.{le_from_is_le}
use Rattle.zs_ids.specs.declared.key.Key.{Key}
use Rattle.zs_ids.specs.declared.dataset.DsId.{DsId}
use Rattle.zs_ids.specs.Key.{key_cmp}
use Rattle.zs_ids.specs.Graph.{Graph}
use Rattle.zs_phys.specs.declared.scope.Scope.{Scope}
use Rattle.zs_phys.specs.declared.phys.Phys.{Phys}
use Rattle.zs_phys.specs.declared.phys.At.{At}
use Rattle.zs_phys.specs.declared.phys.At.TheVariants as ats
use Rattle.zs_phys.specs.declared.step.Step.{Step}
use Rattle.zs_phys.specs.declared.step.Step.TheVariants as steps
use Rattle.zs_phys.specs.Turn.{Comes, behind}
use Rattle.zs_phys.specs.Turn.Comes.{rests, leaves, skips, enters, meets, ends}
use Rattle.zs_graph.proofs.Keys.{found_from}
use Rattle.zs_cover.proofs.States.{at_key}
use Rattle.zs_walk.specs.Laws.{RisesLaw}

-- the key right behind another at its place
abbrev deeper : Key → Key
deeper k = record k { depth = k.depth + 1 }

-- what is not below one ordering's answer is above another's
climb : (x y z : Ordering) → (IsTrue (is_le y) → z ≡ Less) → IsTrue (is_le (ordering_then x y)) → ordering_then x z ≡ Less
climb Less y z more t = refl
climb Equal y z more t = more t
climb Greater y z more t = absurd (true≢false (sym t))

-- a key that is not before the one behind another is above that
pub above_deeper : (a b : Key) → IsTrue (is_le (key_cmp (deeper a) b)) → key_cmp a b ≡ Less
above_deeper a b t =
    climb (nat_cmp a.object b.object) _ _ (climb (nat_cmp a.rank b.rank) _ _ (climb (nat_cmp a.leaf b.leaf) _ _ depth)) t
  where
    depth : IsTrue (is_le (nat_cmp (a.depth + 1) b.depth)) → nat_cmp a.depth b.depth ≡ Less
    depth u =
        let le : a.depth + 1 ≤ b.depth = le_from_is_le (a.depth + 1) b.depth u in
        let less : a.depth < b.depth = omega (arith, le) in
        sym (nat_cmp_is a.depth b.depth Less less)

-- no key is before itself
same : (n : ℕ) → nat_cmp n n ≡ Equal
same n = sym (nat_cmp_is n n Equal refl)

not_before : (a : Key) → IsTrue (is_le (key_cmp a a))
not_before a = rw (same a.object, same a.rank, same a.leaf, same a.depth) refl

-- what a turn that meets a block shows
abbrev IsReached : At → Step → Type 0
IsReached at (steps.At k bp) = (id : DsId) (from : Key) → at ≡ ats.Dataset id from → IsTrue (is_le (key_cmp from k))
IsReached at steps.Nothing = Unit {0}
IsReached at steps.Skip = Unit {0}
IsReached at (steps.Enter id least) = Unit {0}
IsReached at (steps.End id) = Unit {0}

reached : (g : Graph) (scope : Scope) (s : Phys) (step : Step) → Comes g scope s step → IsReached s.at step
reached g scope s _ (rests no_work) = tt
reached g scope s _ (leaves w at) = tt
reached g scope s _ (skips q qs w at todo over) = tt
reached g scope s _ (enters q qs w at todo under) = tt
reached g scope s _ (meets d k e w here at found) =
    λ id from there. let f = found_from d.entries k s.curmin e found in subst (λ (x : Key). IsTrue (is_le (key_cmp x e.0))) (at_key d.id id k from (sym at ∙ there)) f.1
reached g scope s _ (ends d k w here at none) = tt

-- the law of the rising keys
pub keys_rise : RisesLaw
keys_rise g scope s t id from k bp at comes is =
    let next_at : t.at ≡ ats.Dataset id (deeper k) = ap (λ (x : Phys). x.at) is ∙ ap (λ (a : At). behind a k) at in
    record {
      reached = reached g scope s (steps.At k bp) comes id from at;
      left_behind = λ there next e. subst (λ (x : Key). key_cmp k x ≡ Less) (at_key id there (deeper k) next (sym next_at ∙ e)) (above_deeper k (deeper k) (not_before (deeper k)));
      above = λ next c after. above_deeper k next (reached g scope t (steps.At next c) after id (deeper k) next_at);
    }
