-- How a run ends, by what was read of its script.
use Rattle.std.proofs.Common.{Bool, ◌≡◌, ◌≢◌, ◌⊎◌, ◌<◌, inl, inr, ℕ, List, [], ◌++◌, length, map, take, ap, Option, None, Some, refl, Ok, Err, true, option_map, sym, ◌∙◌, subst, arith}
use Rattle.std.specs.Prelude.{IsSome, IfSome, is_some}
use Rattle.std.proofs.lemmas.List.{length-map}
use Rattle.zs_machine.specs.Commands.{commands_of}
use Rattle.zs_io.specs.Faults.{Rose}
use Rattle.zs_io.specs.Told.{Told}
use Rattle.zs_lane.specs.Lane.{LaneView}
use Rattle.zs_script.specs.declared.command.Line.{Line}
use Rattle.zs_script.specs.declared.command.ScriptFault.TheVariants.{Bad}
use Rattle.zs_script.specs.declared.command.Why.{Why}
use Rattle.zs_script.specs.declared.refusal.Refusal.{Refusal}
use Rattle.zs_script.specs.Script.{parsed_script}
use Rattle.zs_session.specs.declared.session.Ended.{Ended}
use Rattle.zs_session.specs.declared.session.Session.{Session}
use Rattle.zs_session.specs.Session.{AreFitFor, AreUnfitFor, AreFirst, commands_in}
use Rattle.zs_session.specs.Puts.{Puts, PutsPart, PutsRefusal, fault_line, refused_line}
use Rattle.zs_session.specs.Ending.{IsSessionStatus, CountFaults, CountsCalls, IsBorneOut, PlaysOn, UsesImages, RefusesImages, history_in, lanes_in}
use Rattle.zs_session.specs.Images.{AreFirstOf, AreFresh, AreNew, AsksFirst, devices_of, of_each}
use Rattle.zs_session.specs.Step.{read_of, lines_in}
use Rattle.zs_session.specs.Runs.{CountsDevices, EndsInFault, IsUnread, HadImages, HasAskedFor, IsUntouched, EndsRefused, EndsUnmade, AreImages, AreLawful, HandsBack, RunsLines}
use Rattle.zs_session.proofs.Fetching.{are_named, are_images, each_devices}
use Rattle.zs_session.proofs.Keeping.{counts_new, fresh_new, lawful_new, lawful_on}
use Rattle.zs_session.proofs.Refusals.{refusal_none}
use Rattle.zs_session.proofs.Scripts.{faulty, sound, lines_are, fault_is, fetched}

apart : (status : ℕ) → (status ≡ 2) ⊎ ((status ≡ 6) ⊎ (status ≡ 7)) → (status ≡ 0) ⊎ ((status ≡ 3) ⊎ (status ≡ 4)) → ⊥
apart status here there = grind arith

-- a session does not end as a run without one
pub ends_otherwise : (status : ℕ) → IsSessionStatus status → (status ≢ 5) × (status ≢ 2)
ends_otherwise status is = (λ five. grind arith, λ two. grind arith)

-- a run whose script was read as lines tells no fault
pub no_fault : (form : Bool) (source : Option (List ℕ)) (items : List ℕ) (lines : List Line) (status : ℕ) (before now : Option (List ℕ)) → status ≢ 2 → Told source (λ script. items ≡ read_of script) → parsed_script items ≡ Ok lines → EndsInFault form source status before now
no_fault form source items lines status before now other was parsed =
    record {
      only = λ two. absurd (other two);
      none = λ ends script told. sound items script lines (was script told) parsed;
      line = λ two. absurd (other two);
      cut = λ is script told bad. let no_way = sym bad ∙ sound items script lines (was script told) parsed in cc;
    }

-- a run whose script has a fault tells it
pub some_fault : (form : Bool) (source : Option (List ℕ)) (items : List ℕ) (number : ℕ) (why : Why) (status : ℕ) (before now : Option (List ℕ)) → (status ≡ 2) ⊎ ((status ≡ 6) ⊎ (status ≡ 7)) → Told source (λ script. items ≡ read_of script) → parsed_script items ≡ Err (Bad number why) → (status ≢ 6 → status ≢ 7 → Puts (fault_line number why) before now) → PutsPart (fault_line number why) before now → EndsInFault form source status before now
some_fault form source items number why status before now ends was parsed whole part =
    record {
      only = λ two script told. faulty items script (Bad number why) (was script told) parsed;
      none = λ others. absurd (apart status ends others);
      line = λ two script told. subst (λ (t : List ℕ). Puts t before now) (fault_is items script number why (was script told) parsed) (whole (λ six. omega (arith, two, six)) (λ seven. omega (arith, two, seven)));
      cut = λ is script told bad. subst (λ (t : List ℕ). PutsPart t before now) (fault_is items script number why (was script told) parsed) part;
    }

-- where the words are of the form and the script was read as lines, the bay may be touched
pub may_touch : {B : Type 0} (form : Bool) (source : Option (List ℕ)) (items : List ℕ) (lines : List Line) (status : ℕ) (old new : B) → form ≡ true → status ≢ 5 → status ≢ 2 → Told source (λ script. items ≡ read_of script) → parsed_script items ≡ Ok lines → IsUntouched form source status old new
may_touch form source items lines status old new is unread faulty was parsed =
    record {
      usage = λ other. let no_way = sym other ∙ is in cc;
      unread = λ five. absurd (unread five);
      faulty = λ two. absurd (faulty two);
      fault = λ script told bad. let no_way = sym bad ∙ sound items script lines (was script told) parsed in cc;
    }

-- a run that put nothing tells no refusal
pub refuses_none : {D : Type 0} (form : Bool) (source : Option (List ℕ)) (size : D → ℕ) (told : D → Option (List ℕ)) (before now : Option (List ℕ)) (e : Ended D) → e.status ≢ 3 → now ≡ before → EndsRefused form source size told before now e
refuses_none form source size told before now e other same =
    record {
      unfit = λ three. absurd (other three);
      cut = λ is none script at well. subst (λ (t : Option (List ℕ)). PutsRefusal before t) (sym same) (refusal_none before);
    }

-- nor does one whose script has a fault
pub refuses_not : {D : Type 0} (form : Bool) (source : Option (List ℕ)) (size : D → ℕ) (told : D → Option (List ℕ)) (items : List ℕ) (number : ℕ) (why : Why) (before now : Option (List ℕ)) (e : Ended D) → e.status ≢ 3 → Told source (λ script. items ≡ read_of script) → parsed_script items ≡ Err (Bad number why) → EndsRefused form source size told before now e
refuses_not form source size told items number why before now e other was parsed =
    record {
      unfit = λ three. absurd (other three);
      cut = λ is none script at well. let no_way = sym (faulty items script (Bad number why) (was script at) parsed) ∙ well in cc;
    }

-- one whose session refuses the images does
pub refuses : {D : Type 0} (form : Bool) (source : Option (List ℕ)) (size : D → ℕ) (told : D → Option (List ℕ)) (items : List ℕ) (lines run : List Line) (before now : Option (List ℕ)) (e : Ended D) → Told source (λ script. items ≡ read_of script) → parsed_script items ≡ Ok lines → run ≡ lines → (e.status ≡ 3 → (fault : Refusal) × AreUnfitFor run (of_each size e.lanes.items) (of_each told e.lanes.items) fault × Puts (refused_line fault) before now) → (e.session ≡ None → PutsRefusal before now) → EndsRefused form source size told before now e
refuses form source size told items lines run before now e was parsed same unfit cut =
    record {
      unfit = λ three script at. let why = unfit three in (
        why.0,
        subst (λ (l : List Line). AreUnfitFor l (of_each size e.lanes.items) (of_each told e.lanes.items) why.0) (same ∙ sym (lines_are items script lines (was script at) parsed)) why.1,
        why.2,
      );
      cut = λ is none script at well. cut none;
    }

-- a session runs the lines of the script
pub runs_lines : {D : Type 0} (source : Option (List ℕ)) (items : List ℕ) (lines run : List Line) (e : Ended D) → Told source (λ script. items ≡ read_of script) → parsed_script items ≡ Ok lines → run ≡ lines → (e.status ≡ 0 → commands_of (history_in e.session) ≡ commands_in run) → (IsSome e.session → AreFirst (commands_of (history_in e.session)) (commands_in run)) → RunsLines source e
runs_lines source items lines run e was parsed same all first =
    record {
      all = λ zero script at. subst (λ (l : List Line). commands_of (history_in e.session) ≡ commands_in l) (same ∙ sym (lines_are items script lines (was script at) parsed)) (all zero);
      first = λ some script at. subst (λ (l : List Line). AreFirst (commands_of (history_in e.session)) (commands_in l)) (same ∙ sym (lines_are items script lines (was script at) parsed)) (first some);
    }

module _ {D : Type 0} where
  -- a session that uses its images hands them back
  pub hands_back : (source : Option (List ℕ)) (size : D → ℕ) (told : D → Option (List ℕ)) (faults : D → ℕ) (n : ℕ) (start mid : Option (List D)) (lanes : List (LaneView D))
      (items : List ℕ) (lines run : List Line) (e : Ended D) → Told source (λ script. items ≡ read_of script) → parsed_script items ≡ Ok lines → run ≡ lines
      → start ≡ option_map (λ rest. devices_of lanes ++ rest) mid → AreFirstOf start (devices_of lanes) → AreNew faults lanes → length lanes ≡ n
      → UsesImages run size told lanes e → (e.status ≡ 3 → e.session ≡ None) → HandsBack source size told n start e
  hands_back source size told faults n start mid lanes items lines run e was parsed same left first new long uses none =
      record {
        fit = λ some script at images is. fit (uses.fit some) script at images is;
        session = λ some. are_named size n start mid lanes (lanes_in e.session e.lanes.items) left long uses.kept.sizes;
        refused = λ three. (none three, without (none three));
        unread = λ stops. without stops.1;
        matches = uses.matches;
        plays = uses.plays;
        lawful = λ images is. lawful_on told images lanes (lanes_in e.session e.lanes.items) uses.kept.lawful (lawful_new told faults start lanes new first images is);
      }
    where
      without : e.session ≡ None → AreImages size told n start e.lanes.items
      without is = are_images size told n start mid lanes e.lanes.items left long (rw is at uses.kept.sizes) (uses.kept.contents is)

      fit : AreFitFor run (of_each size lanes) (of_each told lanes) → (script : List ℕ) → source ≡ Some script → (images : List D) → start ≡ Some images
          → AreFitFor (lines_in script) (map size (take n images)) (map told (take n images))
      fit fits script at images is =
          subst (λ (ds : List D). AreFitFor (lines_in script) (map size ds) (map told ds)) (fetched n start mid (devices_of lanes) images left (length-map lanes (λ (l : LaneView D). l.device) ∙ long) is)
          (subst (λ (ts : List (Option (List ℕ))). AreFitFor (lines_in script) (map size (devices_of lanes)) ts) (each_devices told lanes)
          (subst (λ (ss : List ℕ). AreFitFor (lines_in script) ss (of_each told lanes)) (each_devices size lanes)
          (subst (λ (l : List Line). AreFitFor l (of_each size lanes) (of_each told lanes)) (same ∙ sym (lines_are items script lines (was script at) parsed)) fits)))

  -- a run that came to no session hands back the lanes that it had
  pub hands_none : (source : Option (List ℕ)) (size : D → ℕ) (told : D → Option (List ℕ)) (faults : D → ℕ) (n : ℕ) (start : Option (List D)) (lanes : List (LaneView D)) (e : Ended D)
      → e.session ≡ None → e.lanes.items ≡ lanes → e.status ≢ 3 → (IsUnread n e → ⊥) → AreFirstOf start (devices_of lanes) → AreNew faults lanes → HandsBack source size told n start e
  hands_none source size told faults n start lanes e none same other read first new =
      record {
        fit = λ some. absurd (nothing some);
        session = λ some. absurd (nothing some);
        refused = λ three. absurd (other three);
        unread = λ stops. absurd (read stops);
        matches = subst (λ (o : Option (Session D)). IfSome o (λ s. IsBorneOut s)) (sym none) tt;
        plays = λ zero. subst (λ (o : Option (Session D)). IfSome o (λ s. PlaysOn size s)) (sym none) tt;
        lawful = λ images is. subst (λ (o : Option (Session D)). AreLawful told images (lanes_in o e.lanes.items)) (sym none)
            (subst (λ (ls : List (LaneView D)). AreLawful told images ls) (sym same) (lawful_new told faults start lanes new first images is));
      }
    where
      nothing : IsSome e.session → ⊥
      nothing some = let is = sym (ap is_some none) ∙ some in cc

-- its counts tell that no call failed
pub counts_none : {D : Type 0} (faults : D → ℕ) (before now : ℕ) (lanes : List (LaneView D)) (e : Ended D) → e.session ≡ None → e.lanes.items ≡ lanes → AreNew faults lanes
    → (e.status ≡ 4 → Rose before now) → (e.status ≢ 4 → now ≡ before) → CountsDevices faults before now e
counts_none faults before now lanes e none same new rose kept = record {
  failed = λ four. inl (rose four);
  bay_kept = kept;
  fresh = λ zero four six seven. subst (λ (o : Option _). AreFresh (of_each faults (lanes_in o e.lanes.items))) (sym none)
      (subst (λ (ls : List (LaneView _)). AreFresh (of_each faults ls)) (sym same) (fresh_new faults lanes new));
  counted = subst (λ (o : Option _). CountFaults faults (lanes_in o e.lanes.items)) (sym none)
      (subst (λ (ls : List (LaneView _)). CountFaults faults ls) (sym same) (counts_new faults lanes new));
}

-- those of a session tell of its calls
pub counts_some : {D : Type 0} (faults : D → ℕ) (before now : ℕ) (e : Ended D) → CountsCalls faults e → now ≡ before → CountsDevices faults before now e
counts_some faults before now e calls same = record { failed = λ four. inr (calls.failed four); bay_kept = λ other. same; fresh = calls.fresh; counted = calls.counted }

-- no image was had
pub none_first : {D : Type 0} (bay : Option (List D)) → AreFirstOf bay (devices_of {D = D} [])
none_first bay images is = refl

pub none_new : {D : Type 0} (faults : D → ℕ) → AreNew {D = D} faults []
none_new faults = record { empty = λ l here. absurd here; fresh = λ l here. absurd here }

-- a session without a pool has all the images that were had
handed_all : {D : Type 0} (size : D → ℕ) (told : D → Option (List ℕ)) (lanes : List (LaneView D)) (lines : List Line) (e : Ended D) → UsesImages lines size told lanes e → e.session ≡ None
    → length e.lanes.items ≡ length lanes
handed_all size told lanes lines e uses none =
    sym (length-map e.lanes.items (λ (l : LaneView _). size l.device)) ∙ (ap length (sizes e.session none uses.kept.sizes) ∙ length-map lanes (λ (l : LaneView _). size l.device))
  where
    sizes : (o : Option (Session _)) → o ≡ None → of_each size (lanes_in o e.lanes.items) ≡ of_each size lanes → of_each size e.lanes.items ≡ of_each size lanes
    sizes None is same = same
    sizes (Some s) is same = cc

-- what it tells where it stopped
pub unmade_some : {D : Type 0} (size : D → ℕ) (told : D → Option (List ℕ)) (faults : D → ℕ) (count bay_before bay_now : ℕ) (before now : Option (List ℕ)) (lanes : List (LaneView D)) (lines : List Line) (e : Ended D)
    → length lanes ≡ count → UsesImages lines size told lanes e → RefusesImages lines size told faults before now e → EndsUnmade faults count bay_before bay_now before now e
unmade_some size told faults count bay_before bay_now before now lanes lines e long uses refused = record {
  fetch = λ stops. absurd (omega (arith, long, handed_all size told lanes lines e uses stops.1, stops.2));
  silent = λ stops. absurd (omega (arith, long, handed_all size told lanes lines e uses stops.1, stops.2));
  head = λ stops. (refused.unread stops.0 stops.1).0;
  line = λ stops. (refused.unread stops.0 stops.1).1;
}

-- a run that had fewer images is none that could not read a head
pub read_none : {D : Type 0} (n : ℕ) (lanes : List (LaneView D)) (e : Ended D) → e.lanes.items ≡ lanes → length lanes < n → IsUnread n e → ⊥
read_none n lanes e same few stops = let many = ap length same in omega (arith, many, few, stops.2)

-- and it asked for the first of the names
pub asks_some : {D : Type 0} (names : List (List ℕ)) (n : ℕ) (before now : Option (List (List ℕ))) (lanes : List (LaneView D)) (e : Ended D) → e.status ≢ 3 → e.session ≡ None → e.lanes.items ≡ lanes → length lanes < n
    → AsksFirst names before now → HasAskedFor names n before now e
asks_some names n before now lanes e other none same few first = record { first = first; all = λ had. absurd (never had) }
  where
    never : HadImages n e → ⊥
    never (inl three) = other three
    never (inr (inl some)) = let is = sym (ap is_some none) ∙ some in cc
    never (inr (inr stops)) = read_none n lanes e same few stops
