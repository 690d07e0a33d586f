-- Calls that were made between two states of the journals: each stands in a journal once, behind what stood there before.
use Rattle.std.proofs.Common.{◌≡◌, ◌≢◌, ◌⊎◌, inl, inr, ℕ, suc, ◌+◌, ◌≤◌, ◌<◌, ◌==◌, Bool, true, false, not, cond, List, [], ◌∷◌, ◌++◌, length, refl, sym, ◌∙◌, ap, arith, eq-eqb}
use Rattle.std.proofs.lemmas.Bool.{false≢true}
use Rattle.std.specs.Prelude.{slice_index_or}
use Rattle.zs_ids.specs.Graph.{Has}
use Rattle.zs_lane.specs.declared.mark.Mark.{Mark}
use Rattle.zs_lane.proofs.GoingOn.{in_either}
use Rattle.zs_mirror.specs.Mirror.{nowhere}
use Rattle.zs_machine.specs.Matches.{Call, calls_from, AreOnce}
use Rattle.zs_session.proofs.Marking.{AllGrown}

-- the calls stand once, from the old marks on and within the new ones
pub record AreMade (old new : ℕ → List Mark) (calls : List Call) : Type 0 where
  pub once : AreOnce calls
  pub since : (c : Call) → Has calls c → length (old c.device) ≤ c.place
  pub marked : (c : Call) → Has calls c → c.place < length (new c.device)

-- no calls
pub none_made : (old new : ℕ → List Mark) → AreMade old new []
none_made old new = record { once = tt; since = λ c h. absurd h; marked = λ c h. absurd h }

-- two lists of calls that share none stand once together
once_both : (a b : List Call) → AreOnce a → AreOnce b → ((c : Call) → Has a c → Has b c → ⊥) → AreOnce (a ++ b)
once_both [] b one two apart = two
once_both (x ∷ xs) b one two apart = (out, once_both xs b one.1 two (λ c h. apart c (inr h)))
  where
    out : Has (xs ++ b) x → ⊥
    out h = elim (in_either xs b x h) [ inl here ↦ one.0 here | inr there ↦ apart x (inl refl) there ]

-- the calls that were made and then others
pub both_made : (old mid new : ℕ → List Mark) (a b : List Call) → AllGrown old mid → AllGrown mid new → AreMade old mid a → AreMade mid new b → AreMade old new (a ++ b)
both_made old mid new a b before after one two = record {
  once = once_both a b one.once two.once apart;
  since = λ c h. since c (in_either a b c h);
  marked = λ c h. marked c (in_either a b c h);
}
  where
    apart : (c : Call) → Has a c → Has b c → ⊥
    apart c h i =
        let low : c.place < length (mid c.device) = one.marked c h in
        let high : length (mid c.device) ≤ c.place = two.since c i in
        absurd (omega arith)

    since : (c : Call) → Has a c ⊎ Has b c → length (old c.device) ≤ c.place
    since c (inl h) = one.since c h
    since c (inr h) =
        let high : length (mid c.device) ≤ c.place = two.since c h in
        omega (arith, before c.device)

    marked : (c : Call) → Has a c ⊎ Has b c → c.place < length (new c.device)
    marked c (inl h) =
        let low : c.place < length (mid c.device) = one.marked c h in
        omega (arith, after c.device)
    marked c (inr h) = two.marked c h

-- calls of which the first are left out
pub made_since : (old mid new : ℕ → List Mark) (calls : List Call) → AllGrown old mid → AreMade mid new calls → AreMade old new calls
made_since old mid new calls before made = record {
  once = made.once;
  since = λ c h.
      let high : length (mid c.device) ≤ c.place = made.since c h in
      omega (arith, before c.device);
  marked = made.marked;
}

-- a call that a list of places names, from that device on
record IsNamed (dev : ℕ) (places : List ℕ) (c : Call) : Type 0 where
  index : ℕ
  device_is : c.device ≡ dev + index
  place_is : c.place ≡ slice_index_or places index nowhere
  there : c.place ≢ nowhere

-- a place before others puts each of them one copy on
put_before : (dev p : ℕ) (ps : List ℕ) (c : Call) → IsNamed (dev + 1) ps c → IsNamed dev (p ∷ ps) c
put_before dev p ps c it = record { index = suc it.index; device_is = omega (arith, it.device_is); place_is = it.place_is; there = it.there }

-- each call of places is one that they name
named : (dev : ℕ) (places : List ℕ) (c : Call) → Has (calls_from dev places) c → IsNamed dev places c
named dev [] c h = absurd h
named dev (p ∷ ps) c h = go (p == nowhere) refl h (λ i. put_before dev p ps c (named (dev + 1) ps c i))
  where
    go : (b : Bool) → (p == nowhere) ≡ b → Has (cond (not b) (record { device = dev; place = p } ∷ []) [] ++ calls_from (dev + 1) ps) c
        → (Has (calls_from (dev + 1) ps) c → IsNamed dev (p ∷ ps) c) → IsNamed dev (p ∷ ps) c
    go true is h later = later h
    go false is (inl same) later = record {
      index = 0;
      device_is = omega (arith, ap (λ (d : Call). d.device) same);
      place_is = sym (ap (λ (d : Call). d.place) same);
      there = λ at. false≢true (sym is ∙ eq-eqb p nowhere (ap (λ (d : Call). d.place) same ∙ at));
    }
    go false is (inr h) later = later h

-- no call of places stands twice: each is on another device
once_from : (dev : ℕ) (places : List ℕ) → AreOnce (calls_from dev places)
once_from dev [] = tt
once_from dev (p ∷ ps) = go (p == nowhere) (once_from (dev + 1) ps)
  where
    out : Has (calls_from (dev + 1) ps) (record { device = dev; place = p }) → ⊥
    out h = absurd (omega (arith, (named (dev + 1) ps (record { device = dev; place = p }) h).device_is))

    go : (b : Bool) → AreOnce (calls_from (dev + 1) ps) → AreOnce (cond (not b) (record { device = dev; place = p } ∷ []) [] ++ calls_from (dev + 1) ps)
    go true rest = rest
    go false rest = (out, rest)

-- the calls of places that are behind the old marks and within the new ones
pub made_from : (dev : ℕ) (places : List ℕ) (old new : ℕ → List Mark)
    → ((k : ℕ) → slice_index_or places k nowhere ≢ nowhere
    → (length (old (dev + k)) ≤ slice_index_or places k nowhere) × (slice_index_or places k nowhere < length (new (dev + k))))
    → AreMade old new (calls_from dev places)
made_from dev places old new within = record {
  once = once_from dev places;
  since = λ c h. at_since c (named dev places c h);
  marked = λ c h. at_marked c (named dev places c h);
}
  where
    at : (c : Call) (it : IsNamed dev places c) → (length (old (dev + it.index)) ≤ slice_index_or places it.index nowhere)
        × (slice_index_or places it.index nowhere < length (new (dev + it.index)))
    at c it = within it.index (λ none. it.there (it.place_is ∙ none))

    at_since : (c : Call) → IsNamed dev places c → length (old c.device) ≤ c.place
    at_since c it = rw (it.device_is, it.place_is) ((at c it).0)

    at_marked : (c : Call) → IsNamed dev places c → c.place < length (new c.device)
    at_marked c it = rw (it.device_is, it.place_is) ((at c it).1)
