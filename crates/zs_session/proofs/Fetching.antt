-- What a bay was asked for, and what a run hands back of what it gave.
use Rattle.std.proofs.Common.{◌≡◌, inl, inr, ℕ, ◌+◌, ◌-◌, ◌<◌, List, [], ◌∷◌, ◌++◌, length, map, take, drop, get_or, Option, Some, None, Err, option_map, String, string_bytes, ap, refl, sym, ◌∙◌, subst, append_assoc, arith}
use Rattle.std.specs.declared.alloc.Global.{Global}
use Rattle.std.proofs.lemmas.List.{append-nil, map-append, take-map, take_more, length-map}
use Rattle.zs_ids.specs.Graph.{Has}
use Rattle.zs_lane.specs.Lane.{LaneView}
use Rattle.zs_lane.proofs.GoingOn.{in_either}
use Rattle.zs_io.specs.Asked.{with_name, HasAsked}
use Rattle.zs_io.specs.declared.fault.BayFault.{BayFault}
use Rattle.zs_io.specs.declared.fault.BayFault.TheVariants.{Failed, Memory}
use Rattle.zs_session.specs.Images.{AsksFirst, AreNew, of_each, devices_of}
use Rattle.zs_session.specs.Step.{names_in}
use Rattle.std.proofs.lemmas.Grind.{common_steps}
use Rattle.zs_session.specs.Runs.{AreNamed, AreImages}
use Rattle.zs_session.proofs.Scripts.{fetched}

-- lists of what as many have are as long
pub same_count : {D A : Type 0} (f : D → A) (new old : List (LaneView D)) → of_each f new ≡ of_each f old → length new ≡ length old
same_count f new old same = sym (length-map new (λ (l : LaneView _). f l.device)) ∙ (ap length same ∙ length-map old (λ (l : LaneView _). f l.device))

-- a bay that was asked for some names, and then for others
pub asks_more : (before mid now : Option (List (List ℕ))) (first second : List (List ℕ)) → mid ≡ option_map (λ a. a ++ first) before → now ≡ option_map (λ a. a ++ second) mid → now ≡ option_map (λ a. a ++ (first ++ second)) before
asks_more None mid now first second was is = is ∙ ap (option_map (λ a. a ++ second)) was
asks_more (Some a) mid now first second was is = is ∙ (ap (option_map (λ b. b ++ second)) was ∙ ap Some (append_assoc a first second))

-- a bay that was asked for nothing
pub asks_none : (names : List (List ℕ)) (asked : Option (List (List ℕ))) → AsksFirst names asked asked
asks_none names None = record { many = 0; asked = refl }
asks_none names (Some a) = record { many = 0; asked = ap Some (sym (append-nil a)) }

-- a bay that was asked for the first names, and then for the next
pub asks_next : (names : List (String Global)) (i : ℕ) (d : String Global) (before mid now : Option (List (List ℕ))) → i < length names → mid ≡ option_map (λ a. a ++ map string_bytes (take i names)) before → now ≡ with_name (string_bytes (get_or names i d)) mid → now ≡ option_map (λ a. a ++ map string_bytes (take (i + 1) names)) before
asks_next names i d before mid now lt was is =
    let more : map string_bytes (take (i + 1) names) ≡ map string_bytes (take i names) ++ (string_bytes (get_or names i d) ∷ []) = ap (map string_bytes) (take_more names i d lt) ∙ map-append string_bytes (take i names) (get_or names i d ∷ []) in
    asks_more before mid now (map string_bytes (take i names)) (string_bytes (get_or names i d) ∷ []) was is ∙ ap (λ n. option_map (λ a. a ++ n) before) (sym more)

-- so it was asked for the first of them
pub asks_first : (names : List (String Global)) (n : ℕ) (before now : Option (List (List ℕ))) → now ≡ option_map (λ a. a ++ map string_bytes (take n names)) before → AsksFirst (map string_bytes names) before now
asks_first names n before now is = record { many = n; asked = is ∙ ap (λ l. option_map (λ a. a ++ l) before) (sym (take-map string_bytes n names)) }

-- a fetch that failed for the next name has asked for the first of them
pub asks_failed : {T : Type 0} (names : List (String Global)) (i : ℕ) (e : String Global) (fault : BayFault) (before mid now : Option (List (List ℕ))) → e ≡ get_or names i e → i < length names → mid ≡ option_map (λ a. a ++ map string_bytes (take i names)) before → HasAsked {T = T} (string_bytes e) mid now (Err fault) → AsksFirst (map string_bytes names) before now
asks_failed names i e Failed before mid now at lt was asked =
    asks_first names (i + 1) before now (asks_next names i e before mid now lt was (subst (λ (w : String Global). now ≡ with_name (string_bytes w) mid) at (asked.failed refl)))
asks_failed names i e Memory before mid now at lt was asked =
    asks_first names i before now (asked.memory refl ∙ was)

-- the words behind the first are the names
pub behind_first : (words : List (String Global)) → map string_bytes (take (length words - 1) (drop 1 words)) ≡ names_in words
behind_first words =
    let all : take (length words - 1) (drop 1 words) ≡ drop 1 words = grind (arith, common_steps) in
    ap (map string_bytes) all

-- what is left of a bay when one device more was put into a lane
pub left_next : {D : Type 0} (start mid next : Option (List D)) (lanes new : List (LaneView D)) (lane : LaneView D) → new ≡ lanes ++ lane ∷ []
    → start ≡ option_map (λ rest. devices_of lanes ++ rest) mid → mid ≡ option_map (λ rest. lane.device ∷ rest) next → start ≡ option_map (λ rest. devices_of new ++ rest) next
left_next start mid next lanes new lane more was is =
    was ∙ (ap (option_map (λ rest. devices_of lanes ++ rest)) is ∙ (go next ∙ ap (λ (ls : List (LaneView _)). option_map (λ rest. devices_of ls ++ rest) next) (sym more)))
  where
    go : (o : Option (List _)) → option_map (λ rest. devices_of lanes ++ rest) (option_map (λ rest. lane.device ∷ rest) o) ≡ option_map (λ rest. devices_of (lanes ++ lane ∷ []) ++ rest) o
    go None = refl
    go (Some rest) = ap (λ (ds : List _). Some ds) (sym (append_assoc (devices_of lanes) (lane.device ∷ []) rest)
        ∙ ap (λ (ds : List _). ds ++ rest) (sym (map-append (λ (l : LaneView _). l.device) lanes (lane ∷ []))))

-- a new lane behind new ones
pub new_next : {D : Type 0} (faults : D → ℕ) (lanes new : List (LaneView D)) (lane : LaneView D) → new ≡ lanes ++ lane ∷ [] → AreNew faults lanes → lane.journal ≡ []
    → faults lane.device ≡ 0 → AreNew faults new
new_next faults lanes new lane more are empty fresh = subst (λ (ls : List (LaneView _)). AreNew faults ls) (sym more) (record {
  empty = λ l here. elim (in_either lanes (lane ∷ []) l here) [ inl old ↦ are.empty l old | inr last ↦ subst (λ (x : LaneView _). x.journal ≡ []) (only last) empty ];
  fresh = λ l here. elim (in_either lanes (lane ∷ []) l here) [ inl old ↦ are.fresh l old | inr last ↦ subst (λ (x : LaneView _). faults x.device ≡ 0) (only last) fresh ];
})
  where
    only : {l : LaneView _} → Has (lane ∷ []) l → lane ≡ l
    only (inl is) = is
    only (inr none) = absurd none

-- what lanes' devices have is what the devices have
pub each_devices : {D A : Type 0} (f : D → A) (lanes : List (LaneView D)) → of_each f lanes ≡ map f (devices_of lanes)
each_devices f [] = refl
each_devices f (l ∷ ls) = ap (λ (xs : List _). f l.device ∷ xs) (each_devices f ls)

-- lanes of images that were all fetched are those of the first of the bay
pub are_named : {D : Type 0} (size : D → ℕ) (n : ℕ) (start mid : Option (List D)) (items lanes : List (LaneView D)) → start ≡ option_map (λ rest. devices_of items ++ rest) mid → length items ≡ n
    → of_each size lanes ≡ of_each size items → AreNamed size n start lanes
are_named size n start mid items lanes was long same =
    record {
      many = same_count size lanes items same ∙ long;
      sizes = λ images is. same ∙ (each_devices size items ∙ ap (map size) (fetched n start mid (devices_of items) images was (length-map items (λ (l : LaneView _). l.device) ∙ long) is));
    }

-- and those that tell the same are as they were
pub are_images : {D : Type 0} (size : D → ℕ) (told : D → Option (List ℕ)) (n : ℕ) (start mid : Option (List D)) (items lanes : List (LaneView D))
    → start ≡ option_map (λ rest. devices_of items ++ rest) mid → length items ≡ n → of_each size lanes ≡ of_each size items → of_each told lanes ≡ of_each told items
    → AreImages size told n start lanes
are_images size told n start mid items lanes was long sizes tells =
    record {
      named = are_named size n start mid items lanes was long sizes;
      contents = λ images is. tells ∙ (each_devices told items ∙ ap (map told) (fetched n start mid (devices_of items) images was (length-map items (λ (l : LaneView _). l.device) ∙ long) is));
    }
