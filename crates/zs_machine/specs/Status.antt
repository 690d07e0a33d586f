-- What `status` tells of a pool, as far as the machine has it.
use Rattle.std.specs.Prelude.{◌≡◌, ℕ, Bool, true, false, if◌then◌else◌, filter, length, min, Option, Some, None, option_map}
use Rattle.zs_ledger.specs.Entry.{has_error}
use Rattle.zs_phys.specs.declared.scope.Kind.{Kind}
use Rattle.zs_phys.specs.declared.scope.Kind.TheVariants as kinds
use Rattle.zs_phys.specs.declared.phys.Status.{Status}
use Rattle.zs_phys.specs.declared.phys.Status.TheVariants as statuses
use Rattle.zs_script.specs.declared.refusal.Refusal.TheVariants.{Suspended}
use Rattle.zs_script.specs.declared.reply.Reply.{Reply}
use Rattle.zs_script.specs.declared.reply.Reply.TheVariants as reply
use Rattle.zs_script.specs.declared.reply.ScanKind.{ScanKind}
use Rattle.zs_script.specs.declared.reply.ScanKind.TheVariants as scan_kinds
use Rattle.zs_script.specs.declared.reply.ScanState.{ScanState as StateWord}
use Rattle.zs_script.specs.declared.reply.ScanState.TheVariants as words
use Rattle.zs_script.specs.declared.reply.ScanStatus.{ScanStatus}
use Rattle.zs_machine.specs.Machine.{PoolState, ScanState, is_running}

-- a count as a reply tells it: it stands still at its type's end
abbrev pub counted : ℕ → ℕ
counted n = min n 4294967295

-- the word for a scan's kind
abbrev pub kind_word : Kind → ScanKind
kind_word kinds.Resilver = scan_kinds.Resilver
kind_word _ = scan_kinds.Scrub

-- the word for how a scan stands, where there was one
abbrev pub state_word : Status → Bool → Option StateWord
state_word statuses.Never paused = None
state_word statuses.Scanning paused = Some (if paused then words.Paused else words.Scanning)
state_word statuses.Finished paused = Some words.Finished
state_word statuses.Canceled paused = Some words.Canceled

-- the range that is told of a scan: that of its scope where it is running, paused or not, and else none
abbrev pub range_told : ScanState → Option (ℕ × ℕ)
range_told scan = if is_running scan then Some (scan.scope.min, scan.scope.max) else None

-- what is told of a scan agrees with what the machine has of it. Where its walk stands is left open
abbrev pub TellsScan : ScanState → Option StateWord → Option ScanStatus → Type 0
TellsScan scan None told = told ≡ None
TellsScan scan (Some word) None = ⊥
TellsScan scan (Some word) (Some told) =
    (told.kind ≡ kind_word scan.scope.kind)
    × (told.state ≡ word)
    × (told.checked ≡ counted (length scan.checked))
    × (told.errors ≡ counted (length (filter has_error scan.checked)))
    × (option_map (λ w. (w.min, w.max)) told.walking ≡ range_told scan)

-- the reply to a `status`: the open transaction group, and how the scan stands, as far as the machine has it
abbrev pub TellsStatus : PoolState → Reply → Type 0
TellsStatus s (reply.Refused Suspended) = s.suspended ≡ true
TellsStatus s (reply.Status txg scan) = (s.suspended ≡ false) × (txg ≡ s.open_txg.txg) × TellsScan s.scan (state_word s.scan.status s.scan.paused) scan
TellsStatus s _ = ⊥
