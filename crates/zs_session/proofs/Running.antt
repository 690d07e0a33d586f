-- How a session ends, by what its lines left of the pool and its lanes.
use Rattle.std.proofs.Common.{◌≡◌, ◌≢◌, ◌⊎◌, inl, inr, ℕ, zero, suc, ◌<◌, replicate, List, [], ◌∷◌, length, Option, None, Some, refl, sym, ◌∙◌, ap, subst, arith}
use Rattle.std.specs.Prelude.{IsSome, IfSome, is_some, Ok, Err, IsErrOf, slice_index_or}
use Rattle.zs_io.specs.Faults.{Rose}
use Rattle.zs_io.specs.declared.device.Device.{Ghosts}
use Rattle.zs_ids.specs.declared.block.Marks.{Marks}
use Rattle.zs_lane.specs.Children.{DeviceView}
use Rattle.zs_mirror.specs.Mirror.{nowhere}
use Rattle.zs_lane.specs.Lane.{LaneView}
use Rattle.zs_machine.specs.Commands.{commands_of}
use Rattle.zs_machine.specs.History.{text_of}
use Rattle.zs_script.specs.declared.refusal.Refusal.TheVariants.{NotBlank}
use Rattle.zs_script.specs.declared.command.Line.{Line}
use Rattle.zs_core.specs.View.{PoolView}
use Rattle.zs_session.specs.declared.session.Ended.{Ended}
use Rattle.zs_session.specs.declared.session.Session.{Session}
use Rattle.zs_session.specs.declared.stop.Stop.{Stop}
use Rattle.zs_session.specs.Devices.{Journals, SetGoesOn, SomeRose, journals}
use Rattle.zs_session.specs.Images.{AreFresh, AreNew, HasFailed, ReadsHeads, Unwritten, of_each, views_of}
use Rattle.zs_session.specs.Finish.{Commits}
use Rattle.zs_session.specs.Plays.{IsMade, Went, WentAlone}
use Rattle.zs_session.specs.Session.{HaltsPart, HasSinkReason, LineCalls, AreFirst, commands_in}
use Rattle.zs_session.specs.Puts.{Puts, PutsPart, PutsLast, refused_line}
use Rattle.zs_session.specs.Ending.{CountFaults, CountsCalls, CountsSink, IsBorneOut, KeepsLanes, KeepsPool, PlaysOn, RefusesImages, RunsOn, RunsAll, StayLawful, UsesImages}
use Rattle.zs_session.specs.Ending.{history_in, journals_in, lanes_in}
use Rattle.zs_session.specs.Runs.{PutsHistory}
use Rattle.zs_session.proofs.Commands.{all_commands, first_commands, part_whole}
use Rattle.zs_session.proofs.Heads.{sizes_same}
use Rattle.zs_session.proofs.Histories.{halts_same, part_none}
use Rattle.zs_session.proofs.Keeping.{counts_new, counts_on, failed_of, fresh_new, heads_read, journals_are, stay_lawful, stay_twice, told_in}
use Rattle.zs_session.proofs.Made.{matches_whole, plays_whole}
use Rattle.zs_session.proofs.Sets.{longer_none, set_twice, some_rose}
use Rattle.zs_session.proofs.Texts.{part_all}
use Rattle.zs_session.proofs.Written.{went_made}

module _ {D : Type 0} (dev : Ghosts D) where
  went_lanes : (old new : PoolView) (before after : List (LaneView D)) (lines : List Line) → Went old new (journals (views_of dev before)) (journals (views_of dev after)) (commands_in lines)
      → Went old new (journals_in before) (journals_in after) (commands_in lines)
  went_lanes old new before after lines went =
      subst (λ (j : Journals). Went old new j (journals_in after) (commands_in lines)) (journals_are dev before)
      (subst (λ (j : Journals). Went old new (journals (views_of dev before)) j (commands_in lines)) (journals_are dev after) went)

  halts_lanes : (old new : PoolView) (before after : List (LaneView D)) (lines : List Line) → HaltsPart old new (journals (views_of dev before)) (journals (views_of dev after)) (commands_in lines)
      → HaltsPart old new (journals_in before) (journals_in after) (commands_in lines)
  halts_lanes old new before after lines halts =
      subst (λ (j : Journals). HaltsPart old new j (journals_in after) (commands_in lines)) (journals_are dev before)
      (subst (λ (j : Journals). HaltsPart old new (journals (views_of dev before)) j (commands_in lines)) (journals_are dev after) halts)

  -- all lines were run
  pub runs_all : (began now : Session D) (lines : List Line) (e : Ended D) → e.session ≡ Some now
      → Went began.pool now.pool (journals (views_of dev began.lanes.items)) (journals (views_of dev now.lanes.items)) (commands_in lines) → RunsOn began lines e
  runs_all began now lines e is goes =
      let went = went_lanes began.pool now.pool began.lanes.items now.lanes.items lines goes in
      record {
        all = λ zero. subst (λ (o : Option (Session D)). IfSome o (λ s. Went began.pool s.pool (journals_in began.lanes.items) (journals_in s.lanes.items) (commands_in lines))) (sym is) went;
        part = subst (λ (o : Option (Session D)). IfSome o (λ s. HaltsPart began.pool s.pool (journals_in began.lanes.items) (journals_in s.lanes.items) (commands_in lines))) (sym is)
            (part_whole began.pool now.pool (journals_in began.lanes.items) (journals_in now.lanes.items) (commands_in lines) went);
      }

  -- or the first of them
  pub runs_part : (began now : Session D) (lines : List Line) (e : Ended D) → e.session ≡ Some now → e.status ≢ 0
      → HaltsPart began.pool now.pool (journals (views_of dev began.lanes.items)) (journals (views_of dev now.lanes.items)) (commands_in lines) → RunsOn began lines e
  runs_part began now lines e is other halts = record {
    all = λ zero. absurd (other zero);
    part = subst (λ (o : Option (Session D)). IfSome o (λ s. HaltsPart began.pool s.pool (journals_in began.lanes.items) (journals_in s.lanes.items) (commands_in lines))) (sym is)
        (halts_lanes began.pool now.pool began.lanes.items now.lanes.items lines halts);
  }

  -- or none
  pub runs_none : (began : Session D) (lines : List Line) (e : Ended D) → e.session ≡ Some began → e.status ≢ 0 → RunsOn began lines e
  runs_none began lines e is other = runs_part began began lines e is other
      (part_none began.pool began.pool _ _ (commands_in lines) (halts_same began.pool began.pool _ _ refl (longer_none (journals (views_of dev began.lanes.items)))))

  -- the lanes of the session are those with which it began
  pub keeps_run : (began : List (LaneView D)) (now : Session D) (e : Ended D) → e.session ≡ Some now
      → SetGoesOn (length began) (length now.lanes.items) (views_of dev began) (views_of dev now.lanes.items) → KeepsLanes dev.size dev.told began e
  keeps_run began now e is set = record {
    sizes = subst (λ (o : Option (Session D)). of_each dev.size (lanes_in o e.lanes.items) ≡ of_each dev.size began) (sym is) (sizes_same dev began now.lanes.items set);
    contents = λ none. let no_way = sym is ∙ none in cc;
    lawful = subst (λ (o : Option (Session D)). StayLawful dev.told began (lanes_in o e.lanes.items)) (sym is) (stay_lawful dev began now.lanes.items set);
  }

  -- and their counts tell of its calls
  pub counts_run : (began : List (LaneView D)) (now : Session D) (e : Ended D) → e.session ≡ Some now
      → SetGoesOn (length began) (length now.lanes.items) (views_of dev began) (views_of dev now.lanes.items) → CountFaults dev.faults began
      → (e.status ≢ 0 → e.status ≢ 4 → e.status ≢ 6 → e.status ≢ 7 → ⊥) → (e.status ≡ 4 → SomeRose (views_of dev began) (views_of dev now.lanes.items)) → CountsCalls dev.faults e
  counts_run began now e is set counted ends rose = rw is (record {
    failed = λ four. failed_of dev began now.lanes.items (rose four);
    fresh = λ zero four six seven. absurd (ends zero four six seven);
    counted = counts_on dev began now.lanes.items set counted;
  })

  -- where there is no pool they are those that were tested
  pub keeps_tested : (began lanes : List (LaneView D)) (e : Ended D) → e.session ≡ None → e.lanes.items ≡ lanes → Unwritten dev began lanes → KeepsLanes dev.size dev.told began e
  keeps_tested began lanes e none same kept = record {
    sizes = subst (λ (o : Option (Session D)). of_each dev.size (lanes_in o e.lanes.items) ≡ of_each dev.size began) (sym none) (ap (of_each dev.size) same ∙ kept.sizes);
    contents = λ is. ap (of_each dev.told) same ∙ kept.told;
    lawful = subst (λ (o : Option (Session D)). StayLawful dev.told began (lanes_in o e.lanes.items)) (sym none)
        (subst (λ (ls : List (LaneView D)). StayLawful dev.told began ls) (sym same) (stay_lawful dev began lanes kept.set));
  }

  -- the lanes were tested, and then a session was run with them
  pub keeps_twice : (began mid : List (LaneView D)) (e : Ended D) → Unwritten dev began mid → IsSome e.session → KeepsLanes dev.size dev.told mid e → KeepsLanes dev.size dev.told began e
  keeps_twice began mid e kept some keeps = record {
    sizes = keeps.sizes ∙ kept.sizes;
    contents = λ none. keeps.contents none ∙ kept.told;
    lawful = stay_twice dev.told began mid (lanes_in e.session e.lanes.items) (stay_lawful dev began mid kept.set) keeps.lawful;
  }

module _ {D : Type 0} where
  -- the first line made the pool, and a session ran the others
  pub runs_script : (made : Session D) (first : Line) (others lines : List Line) (e : Ended D) → IsSome e.session → lines ≡ first ∷ others
      → commands_of made.pool.history ≡ first.command ∷ [] → RunsOn made others e → RunsAll lines e
  runs_script made first others lines e some split one runs = record {
    all = λ zero. all e.session some (runs.all zero);
    first = λ is. part e.session some runs.part;
  }
    where
      all : (o : Option (Session D)) → IsSome o → IfSome o (λ s. Went made.pool s.pool (journals_in made.lanes.items) (journals_in s.lanes.items) (commands_in others))
          → commands_of (history_in o) ≡ commands_in lines
      all None is went = absurd cc
      all (Some s) is went = all_commands made.pool s.pool (journals_in made.lanes.items) (journals_in s.lanes.items) first others lines split one went

      part : (o : Option (Session D)) → IsSome o → IfSome o (λ s. HaltsPart made.pool s.pool (journals_in made.lanes.items) (journals_in s.lanes.items) (commands_in others))
          → AreFirst (commands_of (history_in o)) (commands_in lines)
      part None is halts = absurd cc
      part (Some s) is halts = first_commands made.pool s.pool (journals_in made.lanes.items) (journals_in s.lanes.items) first others lines split one halts

  -- its claims are borne out
  pub borne_out : (made : Session D) (lines : List Line) (e : Ended D) → IsMade made.pool → length made.lanes.items ≡ made.pool.core.shape.width → RunsOn made lines e
      → IfSome e.session (λ s. IsBorneOut s)
  borne_out made lines e is width runs = go e.session runs.part
    where
      go : (o : Option (Session D)) → IfSome o (λ s. HaltsPart made.pool s.pool (journals_in made.lanes.items) (journals_in s.lanes.items) (commands_in lines)) → IfSome o (λ s. IsBorneOut s)
      go None part = tt
      go (Some s) part = matches_whole made.pool s.pool (journals_in made.lanes.items) (journals_in s.lanes.items) _ is
          (λ k lt. told_in made.lanes.items k (omega (arith, lt, width))) part.part

  -- the lanes have the reads of the heads, and then the marks of its events
  pub plays_on : (dev : Ghosts D) (began : List (LaneView D)) (made : Session D) (lines : List Line) (e : Ended D) → IsMade made.pool → AreNew dev.faults began
      → ReadsHeads (length began) (views_of dev began) (views_of dev made.lanes.items) → of_each dev.size (lanes_in e.session e.lanes.items) ≡ of_each dev.size began
      → RunsOn made lines e → e.status ≡ 0 → IfSome e.session (λ s. PlaysOn dev.size s)
  plays_on dev began made lines e is new heads sizes runs done = go e.session sizes (runs.all done)
    where
      go : (o : Option (Session D)) → of_each dev.size (lanes_in o e.lanes.items) ≡ of_each dev.size began
          → IfSome o (λ s. Went made.pool s.pool (journals_in made.lanes.items) (journals_in s.lanes.items) (commands_in lines)) → IfSome o (λ s. PlaysOn dev.size s)
      go None same went = tt
      go (Some s) same went = record {
        start = journals_in made.lanes.items;
        heads = heads_read dev began made.lanes.items s.lanes.items new heads same;
        plays = plays_whole made.pool s.pool (journals_in made.lanes.items) (journals_in s.lanes.items) (commands_in lines) is went;
      }

-- nothing was run with a pool
pub nothing_run : (pool : PoolView) (js : Journals) (lines : List Line) → HaltsPart pool pool js js (commands_in lines)
nothing_run pool js lines = part_none pool pool js js (commands_in lines) (halts_same pool pool js js refl (longer_none js))

-- lines were run, and each reply was put
pub lines_done : {T : Type 0} (x : T) (n m : ℕ) (old new : ℕ → DeviceView) (before now : ℕ) → SetGoesOn n m old new → now ≡ before → LineCalls n m old new before now (Ok x)
lines_done x n m old new before now set same = record { set = set; cause = record { ok = same; device = λ h. cc; sink = λ h. cc; memory = λ h. cc } }

same_stop : {A B : Type 0} {x z : Stop} → IsErrOf {T = A} {E = Stop} (Err x) z → IsErrOf {T = B} {E = Stop} (Err x) z
same_stop h = cc

-- lines were run, and one stopped
pub lines_stop : {T U : Type 0} (stop : Stop) (n m l : ℕ) (old mid new : ℕ → DeviceView) (start before now : ℕ) → SetGoesOn n m old mid → before ≡ start
    → LineCalls {T = T} m l mid new before now (Err stop) → LineCalls {T = U} n l old new start now (Err stop)
lines_stop stop n m l old mid new start before now set same calls = record {
  set = set_twice n m l old mid new set calls.set;
  cause = record {
    ok = tt;
    device = λ h. (some_rose n m old mid new set (calls.cause.device (same_stop h)).0, (calls.cause.device (same_stop h)).1 ∙ same);
    sink = λ h. subst (λ (k : ℕ). Rose k now) same (calls.cause.sink (same_stop h));
    memory = λ h. calls.cause.memory (same_stop h) ∙ same;
  };
}

-- its replies could not be put
pub calls_put : {T U : Type 0} (stop : Stop) (n m : ℕ) (old new : ℕ → DeviceView) (before now : ℕ) → SetGoesOn n m old new → HasSinkReason {T = T} before now (Err stop)
    → LineCalls {T = U} n m old new before now (Err stop)
calls_put stop n m old new before now set cause = record {
  set = set;
  cause = record {
    ok = tt;
    device = λ h. absurd (cause.only (same_stop h));
    sink = λ h. cause.sink (same_stop h);
    memory = λ h. cause.memory (same_stop h);
  };
}

-- no call is marked at any place
pub no_places : (n dev : ℕ) → slice_index_or (replicate n nowhere) dev nowhere ≡ nowhere
no_places zero zero = refl
no_places zero (suc dev) = refl
no_places (suc n) zero = refl
no_places (suc n) (suc dev) = no_places n dev

-- the marks of no call
abbrev no_calls : Marks
no_calls = record { failed = 0; places = replicate 16 nowhere }

-- the sync that makes a pool, with the marks of no call
pub made_by : (old new : PoolView) → IsMade old → Commits no_calls old new → WentAlone old new []
made_by old new is commits = went_made no_calls old new is.empty (no_places 16) commits

module _ {D : Type 0} (now : Session D) (e : Ended D) (before after : Option (List ℕ)) (is : e.session ≡ Some now) where
  puts_run : (e.status ≡ 0 → Puts (text_of now.pool.history) before after) → (e.status ≡ 4 → Puts (text_of now.pool.history) before after)
      → PutsPart (text_of now.pool.history) before after → e.status ≢ 5 → PutsHistory before after e
  puts_run whole stopped part other = record {
    whole = λ done. subst (λ (o : Option (Session D)). Puts (text_of (history_in o)) before after) (sym is) (whole done);
    stopped = λ four some. subst (λ (o : Option (Session D)). Puts (text_of (history_in o)) before after) (sym is) (stopped four);
    part = λ some. subst (λ (o : Option (Session D)). PutsPart (text_of (history_in o)) before after) (sym is) part;
    silent = λ ends. elim ends [ inl five ↦ absurd (other five) | inr want ↦ absurd (there (sym is ∙ want.1)) ];
  }
    where
      there : ◌≡◌ {A = Option (Session D)} (Some now) None → ⊥
      there h = cc

  -- all that the history has to tell was put
  pub puts_done : e.status ≡ 0 → Puts (text_of now.pool.history) before after → PutsHistory before after e
  puts_done done put = puts_run (λ h. put) (λ h. put) (part_all before after (text_of now.pool.history) put) (λ five. omega (arith, done, five))

  pub puts_stopped : e.status ≡ 4 → Puts (text_of now.pool.history) before after → PutsHistory before after e
  puts_stopped four put = puts_run (λ h. put) (λ h. put) (part_all before after (text_of now.pool.history) put) (λ five. omega (arith, four, five))

  -- a beginning of it was
  pub puts_cut : (n : ℕ) → 5 < n → e.status ≡ n → PutsPart (text_of now.pool.history) before after → PutsHistory before after e
  puts_cut n more at part =
      puts_run (λ done. absurd (omega (arith, done, at, more))) (λ four. absurd (omega (arith, four, at, more))) part (λ five. omega (arith, five, at, more))

-- the sink did not fail, or it did
pub sink_kept : (status n before now : ℕ) → status ≡ n → n ≢ 6 → now ≡ before → CountsSink status before now
sink_kept status n before now is other same = record { failed = λ six. absurd (other (sym is ∙ six)); kept = λ h. same }

pub sink_rose : (status before now : ℕ) → status ≡ 6 → Rose before now → CountsSink status before now
sink_rose status before now six rose = record { failed = λ h. rose; kept = λ other. absurd (other six) }

module _ {D : Type 0} (dev : Ghosts D) (lines : List Line) (before now : Option (List ℕ)) (e : Ended D) where
  -- a session that has a pool refuses no images
  pub refuses_made : KeepsPool e → RefusesImages lines dev.size dev.told dev.faults before now e
  refuses_made pool = record {
    none = λ three. absurd (pool.ran three);
    unfit = λ three. absurd (pool.ran three);
    unread = λ four none. absurd (there none);
    cut = λ none. absurd (there none);
  }
    where
      there : e.session ≡ None → ⊥
      there none = let some = sym (ap is_some none) ∙ pool.made in cc

  -- one without, where a head can't be read, tells that
  pub refuses_unread : (e.status ≡ 4) ⊎ ((e.status ≡ 6) ⊎ (e.status ≡ 7)) → HasFailed (of_each dev.faults e.lanes.items) → PutsLast (refused_line NotBlank) e.status before now
      → RefusesImages lines dev.size dev.told dev.faults before now e
  refuses_unread ends failed puts = record {
    none = λ three. absurd (other three);
    unfit = λ three. absurd (other three);
    unread = λ four none. (failed, puts.whole (λ six. omega (arith, four, six)) (λ seven. omega (arith, four, seven)));
    cut = λ none. record { fault = NotBlank; part = puts.part };
  }
    where
      other : e.status ≡ 3 → ⊥
      other three = grind arith

  -- one without a pool uses none of the images
  pub uses_none : (lanes : List (LaneView D)) → e.session ≡ None → KeepsLanes dev.size dev.told lanes e → UsesImages lines dev.size dev.told lanes e
  uses_none lanes none keeps = record {
    fit = λ some. absurd (there some);
    kept = keeps;
    matches = subst (λ (o : Option (Session D)). IfSome o (λ s. IsBorneOut s)) (sym none) tt;
    plays = λ done. subst (λ (o : Option (Session D)). IfSome o (λ s. PlaysOn dev.size s)) (sym none) tt;
  }
    where
      there : IsSome e.session → ⊥
      there some = let is = sym (ap is_some none) ∙ some in cc

module _ {D : Type 0} (dev : Ghosts D) (began lanes : List (LaneView D)) (e : Ended D) (none : e.session ≡ None) (same : e.lanes.items ≡ lanes) (kept : Unwritten dev began lanes)
    (new : AreNew dev.faults began) where
  counted : CountFaults dev.faults (lanes_in e.session e.lanes.items)
  counted = subst (λ (o : Option (Session D)). CountFaults dev.faults (lanes_in o e.lanes.items)) (sym none)
      (subst (λ (ls : List (LaneView D)). CountFaults dev.faults ls) (sym same) (counts_on dev began lanes kept.set (counts_new dev.faults began new)))

  -- where no call failed
  pub counts_tested : e.status ≢ 4 → of_each dev.faults lanes ≡ of_each dev.faults began → CountsCalls dev.faults e
  counts_tested other counts = record {
    failed = λ four. absurd (other four);
    fresh = λ a b d f. subst (λ (o : Option (Session D)). AreFresh (of_each dev.faults (lanes_in o e.lanes.items))) (sym none)
        (subst (λ (ls : List (LaneView D)). AreFresh (of_each dev.faults ls)) (sym same) (subst AreFresh (sym counts) (fresh_new dev.faults began new)));
    counted = counted;
  }

  -- where a head could not be read
  pub counts_unread : (e.status ≡ 4) ⊎ ((e.status ≡ 6) ⊎ (e.status ≡ 7)) → SomeRose (views_of dev began) (views_of dev lanes) → CountsCalls dev.faults e
  counts_unread ends rose = record {
    failed = λ four. subst (λ (o : Option (Session D)). HasFailed (of_each dev.faults (lanes_in o e.lanes.items))) (sym none)
        (subst (λ (ls : List (LaneView D)). HasFailed (of_each dev.faults ls)) (sym same) (failed_of dev began lanes rose));
    fresh = λ a b d f. absurd (other e.status ends b d f);
    counted = counted;
  }
    where
      other : (status : ℕ) → (status ≡ 4) ⊎ ((status ≡ 6) ⊎ (status ≡ 7)) → status ≢ 4 → status ≢ 6 → status ≢ 7 → ⊥
      other status at four six seven = grind arith
