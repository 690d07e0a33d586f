-- What is read is in range.
use Rattle.std.proofs.Common.{◌≡◌, ℕ, ◌+◌, ◌%◌, ◌==◌, ◌≤◌, nat_lt, ◌&&◌, ◌||◌, slice_index, Bool, true, false, cond, List, [], ◌∷◌, ◌++◌, length, take, Option, None, Some, Result, Ok, Err, refl, ap, subst}
use Rattle.std.proofs.Math.Nat.{le_antisymm}
use Rattle.std.proofs.lemmas.Bool.{ltb-false, eqb-true}
use Rattle.std.proofs.lemmas.List.Elements.{All-from_recursion}
use Rattle.std.specs.List.{list_all, AllByRecursion}
use Rattle.std.specs.Option.{option_to_list}
use Rattle.std.specs.Int.{is_power_of_two}
use Rattle.zs_ids.specs.declared.dataset.DsName.{DsName}
use Rattle.zs_ids.specs.declared.dataset.Name.{Name}
use Rattle.zs_ids.specs.declared.limits.TheConstants.{SCRIPT_BYTES}
use Rattle.zs_script.specs.Faults.{◌>>=◌}
use Rattle.zs_script.specs.Verbs.{verb_of}
use Rattle.zs_script.specs.Fields.{digits_from, number_of, size_of, blocks_of, name_of, ds_of}
use Rattle.zs_script.specs.Rows.{any_number, object_of, levels_of, leaf_of, turns_of, vdev_of, pieces_of, dev_of, sector_of, sectors_of, pool_with, pool_of, fs_of, snap_of, clone_of, destroy_of, swap_of, make_with, make_of, write_with, write_of, read_of, walk_of, issue_of, hold_of, rot_of, alone_of, command_of}
use Rattle.zs_script.specs.Script.{TextLine, is_skipped, is_text_byte, words_of, is_allowed, with_line, command_at, command_in, at_line, line_with, line_of, lines_from, some_line, lines_of, parsed_script}
use Rattle.zs_script.specs.Lines.{IsPool, IsMake, IsRecord, IsWalk, IsBatch, IsRot, IsFirst, IsLater, IsScript}
use Rattle.zs_script.specs.declared.command.Command.{Command}
use Rattle.zs_script.specs.declared.command.Command.TheVariants as commands
use Rattle.zs_script.specs.declared.command.Line.{Line}
use Rattle.zs_script.specs.declared.command.ScriptFault.TheVariants as faults
use Rattle.zs_script.specs.declared.command.Why.{Why}
use Rattle.zs_script.specs.declared.command.Why.TheVariants as why
use Rattle.zs_script.specs.declared.verb.Verb.{Verb}
use Rattle.zs_script.specs.declared.verb.Verb.TheVariants as verbs

-- what follows a reading that succeeds is of what it read
pub bind_ok : {A B E : Type 0} (r : Result A E) (f : A → Result B E) (y : B) → (r >>= f) ≡ Ok y → (x : A) × (r ≡ Ok x) × (f x ≡ Ok y)
bind_ok (Ok x) f y h = (x, refl, h)
bind_ok (Err e) f y h = cc

-- a test that passed
pub test_ok : {B E : Type 0} (b : Bool) (e : E) (r : Result B E) (y : B) → cond b r (Err e) ≡ Ok y → (b ≡ true) × (r ≡ Ok y)
test_ok true e r y h = (refl, h)
test_ok false e r y h = cc

-- a test that failed
pub guard_ok : {B E : Type 0} (b : Bool) (e : E) (r : Result B E) (y : B) → cond b (Err e) r ≡ Ok y → (b ≡ false) × (r ≡ Ok y)
guard_ok true e r y h = cc
guard_ok false e r y h = (refl, h)

pub or_false : (a b : Bool) → (a || b) ≡ false → (a ≡ false) × (b ≡ false)
or_false true b h = cc
or_false false b h = (refl, h)

pub ok_same : {A E : Type 0} (x y : A) → ◌≡◌ {A = Result A E} (Ok x) (Ok y) → x ≡ y
ok_same x y h = cc

-- a number in a range
pub record InRange (low high n : ℕ) : Type 0 where
  pub low_is : low ≤ n
  pub high_is : n ≤ high

pub ranged : (low high m n : ℕ) → cond (nat_lt m low || nat_lt high m) (Err why.Number) (Ok m) ≡ Ok n → InRange low high n
ranged low high m n h =
    let g = guard_ok (nat_lt m low || nat_lt high m) why.Number (Ok m) n h in
    let o = or_false (nat_lt m low) (nat_lt high m) g.0 in
    let same = ok_same m n g.1 in
    record { low_is = subst (λ x. low ≤ x) same (ltb-false m low o.0); high_is = subst (λ x. x ≤ high) same (ltb-false high m o.1) }

-- a number that is read lies in its range
number_in : (low high n : ℕ) (word : List ℕ) → number_of low high word ≡ Ok n → InRange low high n
unfolding number_of
number_in low high n word h =
    let plain = guard_ok (length word == 0 || nat_lt 1 (length word) && slice_index word 0 == 48) why.Number (digits_from 0 word >>= λ m. cond (nat_lt m low || nat_lt high m) (Err why.Number) (Ok m)) n h in
    let read = bind_ok (digits_from 0 word) (λ m. cond (nat_lt m low || nat_lt high m) (Err why.Number) (Ok m)) n plain.1 in
    ranged low high read.0 n read.2

size_in : (n : ℕ) (word : List ℕ) → size_of word ≡ Ok n → (InRange 512 131072 n) × (is_power_of_two n ≡ true)
unfolding size_of
size_in n word h =
    let read = bind_ok (number_of 512 131072 word) (λ m. cond (is_power_of_two m) (Ok m) (Err why.Number)) n h in
    let fits = test_ok (is_power_of_two read.0) why.Number (Ok read.0) n read.2 in
    let same = ok_same read.0 n fits.1 in
    (subst (λ x. InRange 512 131072 x) same (number_in 512 131072 read.0 word read.1), subst (λ x. is_power_of_two x ≡ true) same fits.0)

blocks_in : (n : ℕ) (word : List ℕ) → blocks_of word ≡ Ok n → (InRange 64 65536 n) × (n % 4 ≡ 0)
unfolding blocks_of
blocks_in n word h =
    let read = bind_ok (number_of 64 65536 word) (λ m. cond (m % 4 == 0) (Ok m) (Err why.Number)) n h in
    let fits = test_ok (read.0 % 4 == 0) why.Number (Ok read.0) n read.2 in
    let same = ok_same read.0 n fits.1 in
    (subst (λ x. InRange 64 65536 x) same (number_in 64 65536 read.0 word read.1), subst (λ x. x % 4 ≡ 0) same (eqb-true (read.0 % 4) 0 fits.0))

pool_fits : (p w l e b : ℕ) (command : Command) → InRange 1 4 w → InRange 1 65536 l → InRange 1 1000 e → (InRange 64 65536 b) × (b % 4 ≡ 0) → ◌≡◌ {A = Result Command Why} (Ok (commands.Pool p w l e b)) (Ok command) → IsFirst command
pool_fits p w l e b command ww ll ee bb is =
    let fit : IsPool w l e b = record { least_width = ww.low_is; most_width = ww.high_is; least_limit = ll.low_is; most_limit = ll.high_is; least_every = ee.low_is; most_every = ee.high_is; least_blocks = bb.0.low_is; most_blocks = bb.0.high_is; whole_blocks = bb.1 } in
    subst IsFirst (ok_same (commands.Pool p w l e b) command is) fit

-- what a `pool` line gives is in range
pool_in : (command : Command) (words : List (List ℕ)) → pool_of words ≡ Ok command → IsFirst command
unfolding pool_of pool_with
pool_in command [] h = cc
pool_in command (a ∷ []) h = cc
pool_in command (a ∷ b ∷ []) h = cc
pool_in command (a ∷ b ∷ c ∷ []) h = cc
pool_in command (a ∷ b ∷ c ∷ d ∷ []) h = cc
pool_in command (a ∷ b ∷ c ∷ d ∷ e ∷ []) h = cc
pool_in command (_ ∷ pool ∷ width ∷ limit ∷ every ∷ blocks ∷ []) h =
    let kb : ℕ → ℕ → ℕ → ℕ → ℕ → Result Command Why = λ p w l e b. Ok (commands.Pool p w l e b) in
    let ke : ℕ → ℕ → ℕ → ℕ → Result Command Why = λ p w l e. blocks_of blocks >>= kb p w l e in
    let kl : ℕ → ℕ → ℕ → Result Command Why = λ p w l. number_of 1 1000 every >>= ke p w l in
    let kw : ℕ → ℕ → Result Command Why = λ p w. number_of 1 65536 limit >>= kl p w in
    let kp : ℕ → Result Command Why = λ p. number_of 1 4 width >>= kw p in
    let p = bind_ok (any_number pool) kp command h in
    let w = bind_ok (number_of 1 4 width) (kw p.0) command p.2 in
    let l = bind_ok (number_of 1 65536 limit) (kl p.0 w.0) command w.2 in
    let e = bind_ok (number_of 1 1000 every) (ke p.0 w.0 l.0) command l.2 in
    let b = bind_ok (blocks_of blocks) (kb p.0 w.0 l.0 e.0) command e.2 in
    pool_fits p.0 w.0 l.0 e.0 b.0 command (number_in 1 4 w.0 width w.1) (number_in 1 65536 l.0 limit l.1) (number_in 1 1000 e.0 every e.1) (blocks_in b.0 blocks b.1) b.2
pool_in command (a ∷ b ∷ c ∷ d ∷ e ∷ f ∷ g ∷ rest) h = cc

make_fits : (d : DsName) (o l s f : ℕ) (command : Command) → InRange 1 2047 o → InRange 1 1 l → (InRange 512 131072 s) × (is_power_of_two s ≡ true) → ◌≡◌ {A = Result Command Why} (Ok (commands.Make d o l s f)) (Ok command) → IsLater command
make_fits d o l s f command oo ll ss is =
    let fit : IsMake o l s = record { least_object = oo.low_is; most_object = oo.high_is; levels = le_antisymm ll.high_is ll.low_is; least_size = ss.0.low_is; most_size = ss.0.high_is; power = ss.1 } in
    subst IsLater (ok_same (commands.Make d o l s f) command is) fit

-- what a `make` line gives is in range
make_in : (command : Command) (words : List (List ℕ)) → make_of words ≡ Ok command → IsLater command
unfolding make_of make_with
make_in command [] h = cc
make_in command (a ∷ []) h = cc
make_in command (a ∷ b ∷ []) h = cc
make_in command (a ∷ b ∷ c ∷ []) h = cc
make_in command (a ∷ b ∷ c ∷ d ∷ []) h = cc
make_in command (a ∷ b ∷ c ∷ d ∷ e ∷ []) h = cc
make_in command (_ ∷ ds ∷ object ∷ levels ∷ size ∷ fill ∷ []) h =
    let kf : DsName → ℕ → ℕ → ℕ → ℕ → Result Command Why = λ d o l s f. Ok (commands.Make d o l s f) in
    let ks : DsName → ℕ → ℕ → ℕ → Result Command Why = λ d o l s. any_number fill >>= kf d o l s in
    let kl : DsName → ℕ → ℕ → Result Command Why = λ d o l. size_of size >>= ks d o l in
    let ko : DsName → ℕ → Result Command Why = λ d o. levels_of levels >>= kl d o in
    let kd : DsName → Result Command Why = λ d. object_of object >>= ko d in
    let d = bind_ok (ds_of ds) kd command h in
    let o = bind_ok (object_of object) (ko d.0) command d.2 in
    let l = bind_ok (levels_of levels) (kl d.0 o.0) command o.2 in
    let s = bind_ok (size_of size) (ks d.0 o.0 l.0) command l.2 in
    let f = bind_ok (any_number fill) (kf d.0 o.0 l.0 s.0) command s.2 in
    make_fits d.0 o.0 l.0 s.0 f.0 command (number_in 1 2047 o.0 object o.1) (number_in 1 1 l.0 levels l.1) (size_in s.0 size s.1) f.2
make_in command (a ∷ b ∷ c ∷ d ∷ e ∷ f ∷ g ∷ rest) h = cc

write_fits : (d : DsName) (o l f : ℕ) (command : Command) → InRange 1 2047 o → InRange 0 262143 l → ◌≡◌ {A = Result Command Why} (Ok (commands.Write d o l f)) (Ok command) → IsLater command
write_fits d o l f command oo ll is =
    let fit : IsRecord o l = record { least_object = oo.low_is; most_object = oo.high_is; most_leaf = ll.high_is } in
    subst IsLater (ok_same (commands.Write d o l f) command is) fit

-- what a `write` line gives is in range
write_in : (command : Command) (words : List (List ℕ)) → write_of words ≡ Ok command → IsLater command
unfolding write_of write_with
write_in command [] h = cc
write_in command (a ∷ []) h = cc
write_in command (a ∷ b ∷ []) h = cc
write_in command (a ∷ b ∷ c ∷ []) h = cc
write_in command (a ∷ b ∷ c ∷ d ∷ []) h = cc
write_in command (_ ∷ ds ∷ object ∷ leaf ∷ fill ∷ []) h =
    let kf : DsName → ℕ → ℕ → ℕ → Result Command Why = λ d o l f. Ok (commands.Write d o l f) in
    let kl : DsName → ℕ → ℕ → Result Command Why = λ d o l. any_number fill >>= kf d o l in
    let ko : DsName → ℕ → Result Command Why = λ d o. leaf_of leaf >>= kl d o in
    let kd : DsName → Result Command Why = λ d. object_of object >>= ko d in
    let d = bind_ok (ds_of ds) kd command h in
    let o = bind_ok (object_of object) (ko d.0) command d.2 in
    let l = bind_ok (leaf_of leaf) (kl d.0 o.0) command o.2 in
    let f = bind_ok (any_number fill) (kf d.0 o.0 l.0) command l.2 in
    write_fits d.0 o.0 l.0 f.0 command (number_in 1 2047 o.0 object o.1) (number_in 0 262143 l.0 leaf l.1) f.2
write_in command (a ∷ b ∷ c ∷ d ∷ e ∷ f ∷ rest) h = cc

-- what a `read` line gives is in range
read_in : (command : Command) (words : List (List ℕ)) → read_of words ≡ Ok command → IsLater command
unfolding read_of
read_in command [] h = cc
read_in command (a ∷ []) h = cc
read_in command (a ∷ b ∷ []) h = cc
read_in command (a ∷ b ∷ c ∷ []) h = cc
read_in command (_ ∷ ds ∷ object ∷ leaf ∷ []) h =
    let kl : DsName → ℕ → ℕ → Result Command Why = λ d o l. Ok (commands.Read d o l) in
    let ko : DsName → ℕ → Result Command Why = λ d o. leaf_of leaf >>= kl d o in
    let kd : DsName → Result Command Why = λ d. object_of object >>= ko d in
    let d = bind_ok (ds_of ds) kd command h in
    let o = bind_ok (object_of object) (ko d.0) command d.2 in
    let l = bind_ok (leaf_of leaf) (kl d.0 o.0) command o.2 in
    let oo = number_in 1 2047 o.0 object o.1 in
    let ll = number_in 0 262143 l.0 leaf l.1 in
    let fit : IsRecord o.0 l.0 = record { least_object = oo.low_is; most_object = oo.high_is; most_leaf = ll.high_is } in
    subst IsLater (ok_same (commands.Read d.0 o.0 l.0) command l.2) fit
read_in command (a ∷ b ∷ c ∷ d ∷ e ∷ rest) h = cc

fs_in : (command : Command) (words : List (List ℕ)) → fs_of words ≡ Ok command → IsLater command
unfolding fs_of
fs_in command [] h = cc
fs_in command (a ∷ []) h = cc
fs_in command (_ ∷ name ∷ []) h =
    let n = bind_ok (name_of name) (λ n. Ok (commands.Fs n)) command h in
    let fit : IsLater (commands.Fs n.0) = tt in
    subst IsLater (ok_same (commands.Fs n.0) command n.2) fit
fs_in command (a ∷ b ∷ c ∷ rest) h = cc

snap_in : (command : Command) (words : List (List ℕ)) → snap_of words ≡ Ok command → IsLater command
unfolding snap_of
snap_in command [] h = cc
snap_in command (a ∷ []) h = cc
snap_in command (a ∷ b ∷ []) h = cc
snap_in command (_ ∷ head ∷ label ∷ []) h =
    let kl : Name → Name → Result Command Why = λ n l. Ok (commands.Snap n l) in
    let kn : Name → Result Command Why = λ n. name_of label >>= kl n in
    let n = bind_ok (name_of head) kn command h in
    let l = bind_ok (name_of label) (kl n.0) command n.2 in
    let fit : IsLater (commands.Snap n.0 l.0) = tt in
    subst IsLater (ok_same (commands.Snap n.0 l.0) command l.2) fit
snap_in command (a ∷ b ∷ c ∷ d ∷ rest) h = cc

clone_in : (command : Command) (words : List (List ℕ)) → clone_of words ≡ Ok command → IsLater command
unfolding clone_of
clone_in command [] h = cc
clone_in command (a ∷ []) h = cc
clone_in command (a ∷ b ∷ []) h = cc
clone_in command (_ ∷ ds ∷ name ∷ []) h =
    let kn : DsName → Name → Result Command Why = λ d n. Ok (commands.Clone d n) in
    let kd : DsName → Result Command Why = λ d. name_of name >>= kn d in
    let d = bind_ok (ds_of ds) kd command h in
    let n = bind_ok (name_of name) (kn d.0) command d.2 in
    let fit : IsLater (commands.Clone d.0 n.0) = tt in
    subst IsLater (ok_same (commands.Clone d.0 n.0) command n.2) fit
clone_in command (a ∷ b ∷ c ∷ d ∷ rest) h = cc

destroy_in : (command : Command) (words : List (List ℕ)) → destroy_of words ≡ Ok command → IsLater command
unfolding destroy_of
destroy_in command [] h = cc
destroy_in command (a ∷ []) h = cc
destroy_in command (_ ∷ ds ∷ []) h =
    let d = bind_ok (ds_of ds) (λ d. Ok (commands.Destroy d)) command h in
    let fit : IsLater (commands.Destroy d.0) = tt in
    subst IsLater (ok_same (commands.Destroy d.0) command d.2) fit
destroy_in command (a ∷ b ∷ c ∷ rest) h = cc

swap_in : (command : Command) (words : List (List ℕ)) → swap_of words ≡ Ok command → IsLater command
unfolding swap_of
swap_in command [] h = cc
swap_in command (a ∷ []) h = cc
swap_in command (a ∷ b ∷ []) h = cc
swap_in command (_ ∷ first ∷ second ∷ []) h =
    let kl : Name → Name → Result Command Why = λ n l. Ok (commands.Swap n l) in
    let kn : Name → Result Command Why = λ n. name_of second >>= kl n in
    let n = bind_ok (name_of first) kn command h in
    let l = bind_ok (name_of second) (kl n.0) command n.2 in
    let fit : IsLater (commands.Swap n.0 l.0) = tt in
    subst IsLater (ok_same (commands.Swap n.0 l.0) command l.2) fit
swap_in command (a ∷ b ∷ c ∷ d ∷ rest) h = cc

-- what a `walk` line gives is in range
walk_in : (command : Command) (words : List (List ℕ)) → walk_of words ≡ Ok command → IsLater command
unfolding walk_of
walk_in command [] h = cc
walk_in command (a ∷ []) h = cc
walk_in command (_ ∷ turns ∷ []) h =
    let t = bind_ok (turns_of turns) (λ t. Ok (commands.Walk t)) command h in
    let range = number_in 1 1000000 t.0 turns t.1 in
    let fit : IsWalk t.0 = record { least_turns = range.low_is; most_turns = range.high_is } in
    subst IsLater (ok_same (commands.Walk t.0) command t.2) fit
walk_in command (a ∷ b ∷ c ∷ rest) h = cc

batch_fits : (v p : ℕ) (vdev pieces : List ℕ) → vdev_of vdev ≡ Ok v → pieces_of pieces ≡ Ok p → IsBatch v p
batch_fits v p vdev pieces vh ph =
    let vv = number_in 0 255 v vdev vh in
    let pp = number_in 1 1024 p pieces ph in
    record { most_vdev = vv.high_is; least_pieces = pp.low_is; most_pieces = pp.high_is }

-- what an `issue` line gives is in range
issue_in : (command : Command) (words : List (List ℕ)) → issue_of words ≡ Ok command → IsLater command
unfolding issue_of
issue_in command [] h = cc
issue_in command (a ∷ []) h = cc
issue_in command (a ∷ b ∷ []) h = cc
issue_in command (_ ∷ vdev ∷ pieces ∷ []) h =
    let kp : ℕ → ℕ → Result Command Why = λ v p. Ok (commands.Issue v p) in
    let kv : ℕ → Result Command Why = λ v. pieces_of pieces >>= kp v in
    let v = bind_ok (vdev_of vdev) kv command h in
    let p = bind_ok (pieces_of pieces) (kp v.0) command v.2 in
    subst IsLater (ok_same (commands.Issue v.0 p.0) command p.2) (batch_fits v.0 p.0 vdev pieces v.1 p.1)
issue_in command (a ∷ b ∷ c ∷ d ∷ rest) h = cc

-- what a `hold` line gives is in range
hold_in : (command : Command) (words : List (List ℕ)) → hold_of words ≡ Ok command → IsLater command
unfolding hold_of
hold_in command [] h = cc
hold_in command (a ∷ []) h = cc
hold_in command (a ∷ b ∷ []) h = cc
hold_in command (_ ∷ vdev ∷ pieces ∷ []) h =
    let kp : ℕ → ℕ → Result Command Why = λ v p. Ok (commands.Hold v p) in
    let kv : ℕ → Result Command Why = λ v. pieces_of pieces >>= kp v in
    let v = bind_ok (vdev_of vdev) kv command h in
    let p = bind_ok (pieces_of pieces) (kp v.0) command v.2 in
    subst IsLater (ok_same (commands.Hold v.0 p.0) command p.2) (batch_fits v.0 p.0 vdev pieces v.1 p.1)
hold_in command (a ∷ b ∷ c ∷ d ∷ rest) h = cc

rot_fits : (d s c : ℕ) (dev sector count : List ℕ) → dev_of dev ≡ Ok d → sector_of sector ≡ Ok s → sectors_of count ≡ Ok c → IsRot d s c
rot_fits d s c dev sector count dh sh ch =
    let dd = number_in 0 255 d dev dh in
    let ss = number_in 0 2097151 s sector sh in
    let ks = number_in 1 65536 c count ch in
    record { most_dev = dd.high_is; most_sector = ss.high_is; least_count = ks.low_is; most_count = ks.high_is }

-- what a `rot` line gives is in range
rot_in : (command : Command) (words : List (List ℕ)) → rot_of words ≡ Ok command → IsLater command
unfolding rot_of
rot_in command [] h = cc
rot_in command (a ∷ []) h = cc
rot_in command (a ∷ b ∷ []) h = cc
rot_in command (a ∷ b ∷ c ∷ []) h = cc
rot_in command (_ ∷ dev ∷ sector ∷ count ∷ []) h =
    let kc : ℕ → ℕ → ℕ → Result Command Why = λ d s c. Ok (commands.Rot d s c) in
    let ks : ℕ → ℕ → Result Command Why = λ d s. sectors_of count >>= kc d s in
    let kd : ℕ → Result Command Why = λ d. sector_of sector >>= ks d in
    let d = bind_ok (dev_of dev) kd command h in
    let s = bind_ok (sector_of sector) (ks d.0) command d.2 in
    let c = bind_ok (sectors_of count) (kc d.0 s.0) command s.2 in
    subst IsLater (ok_same (commands.Rot d.0 s.0 c.0) command c.2) (rot_fits d.0 s.0 c.0 dev sector count d.1 s.1 c.1)
rot_in command (a ∷ b ∷ c ∷ d ∷ e ∷ rest) h = cc

alone_in : (alone command : Command) (words : List (List ℕ)) → alone_of alone words ≡ Ok command → IsLater alone → IsLater command
unfolding alone_of
alone_in alone command [] h fit = cc
alone_in alone command (a ∷ []) h fit = subst IsLater (ok_same alone command h) fit
alone_in alone command (a ∷ b ∷ rest) h fit = cc

-- what may stand where a pool was made, or not
Fits : Bool → Command → Type 0
Fits true command = IsLater command
Fits false command = IsFirst command

command_fits : (verb : Verb) (begun : Bool) (words : List (List ℕ)) (command : Command) → is_allowed begun verb ≡ true → command_of verb words ≡ Ok command → Fits begun command
unfolding command_of Fits
command_fits verbs.Pool true words command may h = cc
command_fits verbs.Pool false words command may h = pool_in command words h
command_fits verbs.Fs false words command may h = cc
command_fits verbs.Fs true words command may h = fs_in command words h
command_fits verbs.Snap false words command may h = cc
command_fits verbs.Snap true words command may h = snap_in command words h
command_fits verbs.Clone false words command may h = cc
command_fits verbs.Clone true words command may h = clone_in command words h
command_fits verbs.Destroy false words command may h = cc
command_fits verbs.Destroy true words command may h = destroy_in command words h
command_fits verbs.Swap false words command may h = cc
command_fits verbs.Swap true words command may h = swap_in command words h
command_fits verbs.Make false words command may h = cc
command_fits verbs.Make true words command may h = make_in command words h
command_fits verbs.Write false words command may h = cc
command_fits verbs.Write true words command may h = write_in command words h
command_fits verbs.Read false words command may h = cc
command_fits verbs.Read true words command may h = read_in command words h
command_fits verbs.Sync false words command may h = cc
command_fits verbs.Sync true words command may h = alone_in commands.Sync command words h tt
command_fits verbs.Scrub false words command may h = cc
command_fits verbs.Scrub true words command may h = alone_in commands.Scrub command words h tt
command_fits verbs.Pause false words command may h = cc
command_fits verbs.Pause true words command may h = alone_in commands.Pause command words h tt
command_fits verbs.Resume false words command may h = cc
command_fits verbs.Resume true words command may h = alone_in commands.Resume command words h tt
command_fits verbs.Stop false words command may h = cc
command_fits verbs.Stop true words command may h = alone_in commands.Stop command words h tt
command_fits verbs.Walk false words command may h = cc
command_fits verbs.Walk true words command may h = walk_in command words h
command_fits verbs.Issue false words command may h = cc
command_fits verbs.Issue true words command may h = issue_in command words h
command_fits verbs.Hold false words command may h = cc
command_fits verbs.Hold true words command may h = hold_in command words h
command_fits verbs.Land false words command may h = cc
command_fits verbs.Land true words command may h = alone_in commands.Land command words h tt
command_fits verbs.Finish false words command may h = cc
command_fits verbs.Finish true words command may h = alone_in commands.Finish command words h tt
command_fits verbs.Rot false words command may h = cc
command_fits verbs.Rot true words command may h = rot_in command words h
command_fits verbs.Errors false words command may h = cc
command_fits verbs.Errors true words command may h = alone_in commands.Errors command words h tt
command_fits verbs.List false words command may h = cc
command_fits verbs.List true words command may h = alone_in commands.List command words h tt
command_fits verbs.Status false words command may h = cc
command_fits verbs.Status true words command may h = alone_in commands.Status command words h tt

-- a line that is passed over, or one whose command may stand there
FoundFits : Bool → Option Line → Type 0
FoundFits begun None = Unit {0}
FoundFits begun (Some line) = Fits begun line.command

-- a line's command that was found is the one that the line commands
at_ok : (number : ℕ) (r : Result Command Why) (command : Command) → at_line number r ≡ Ok command → r ≡ Ok command
at_ok number (Ok c) command h = ap Ok (ok_same c command h)
at_ok number (Err w) command h = cc

words_fit : (begun : Bool) (words : List (List ℕ)) (command : Command) → command_at begun words ≡ Ok command → Fits begun command
unfolding command_at
words_fit begun words command h =
    let v = bind_ok (verb_of words) (λ verb. cond (is_allowed begun verb) (command_of verb words) (Err why.Order)) command h in
    let t = test_ok (is_allowed begun v.0) why.Order (command_of v.0 words) command v.2 in
    command_fits v.0 begun words command t.0 t.1

text_fits : (begun : Bool) (bytes : List ℕ) (command : Command) → command_in begun bytes ≡ Ok command → Fits begun command
unfolding command_in
text_fits begun bytes command h =
    let t = test_ok (list_all is_text_byte bytes) why.Word (command_at begun (words_of bytes)) command h in
    words_fit begun (words_of bytes) command t.1

skipped_fits : (skipped : Bool) (number : ℕ) (begun : Bool) (bytes : List ℕ) (found : Option Line) → cond skipped (Ok None) (at_line number (command_in begun bytes) >>= λ command. Ok (Some (line_with number command))) ≡ Ok found → FoundFits begun found
unfolding FoundFits
skipped_fits true number begun bytes found h = subst (FoundFits begun) (ok_same None found h) tt
skipped_fits false number begun bytes found h =
    let c = bind_ok (at_line number (command_in begun bytes)) (λ command. Ok (Some (line_with number command))) found h in
    let fits : FoundFits begun (Some (line_with number c.0)) = text_fits begun bytes c.0 (at_ok number (command_in begun bytes) c.0 c.1) in
    subst (FoundFits begun) (ok_same (Some (line_with number c.0)) found c.2) fits

line_fits : (number : ℕ) (begun : Bool) (line : TextLine) (found : Option Line) → line_of number begun line ≡ Ok found → FoundFits begun found
unfolding line_of
line_fits number begun line found h =
    let g = guard_ok line.over (faults.Bad number why.Size) (cond (is_skipped line.bytes) (Ok None) (at_line number (command_in begun line.bytes) >>= λ command. Ok (Some (line_with number command)))) found h in
    skipped_fits (is_skipped line.bytes) number begun line.bytes found g.1

-- the lines that may follow
Fit : Bool → List Line → Type 0
Fit true lines = AllByRecursion (λ line. IsLater line.command) lines
Fit false [] = Unit {0}
Fit false (line ∷ lines) = IsFirst line.command × AllByRecursion (λ later. IsLater later.command) lines

joined : (begun : Bool) (found : Option Line) (more : List Line) → FoundFits begun found → Fit (with_line begun found) more → Fit begun (option_to_list found ++ more)
unfolding Fit Fits FoundFits
joined begun None more h rest = rest
joined false (Some line) more h rest = (h, rest)
joined true (Some line) more h rest = (h, rest)

fit_nil : (begun : Bool) → Fit begun []
unfolding Fit
fit_nil true = tt
fit_nil false = tt

lines_fit : (lines : List TextLine) (number : ℕ) (begun : Bool) (all : List Line) → lines_from number begun lines ≡ Ok all → Fit begun all
unfolding lines_from
lines_fit [] number begun all h = subst (Fit begun) (ok_same [] all h) (fit_nil begun)
lines_fit (line ∷ lines) number begun all h =
    let f = bind_ok (line_of number begun line) (λ found. lines_from (number + 1) (with_line begun found) lines >>= λ more. Ok (option_to_list found ++ more)) all h in
    let m = bind_ok (lines_from (number + 1) (with_line begun f.0) lines) (λ more. Ok (option_to_list f.0 ++ more)) all f.2 in
    subst (Fit begun) (ok_same (option_to_list f.0 ++ m.0) all m.2)
    (joined begun f.0 m.0 (line_fits number begun line f.0 f.1) (lines_fit lines (number + 1) (with_line begun f.0) m.0 m.1))

some_fits : (lines all : List Line) → Fit false lines → some_line lines ≡ Ok all → IsScript all
unfolding Fit
some_fits [] all fit h = cc
some_fits (line ∷ lines) all fit h = subst IsScript (ok_same (line ∷ lines) all h) (fit.0, All-from_recursion _ lines fit.1)

-- the lines of a script are a `pool` line and then lines of other commands, each in range
pub script_fits : (bytes : List ℕ) (all : List Line) → parsed_script bytes ≡ Ok all → IsScript all
unfolding parsed_script
script_fits bytes all h =
    let r = bind_ok (lines_from 1 false (lines_of (nat_lt SCRIPT_BYTES (length bytes)) (take SCRIPT_BYTES bytes))) some_line all h in
    some_fits r.0 all (lines_fit _ 1 false r.0 r.1) r.2
