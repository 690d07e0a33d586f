-- Of the tasks that are left the next one runs.
use Rattle.std.specs.Prelude.{◌≡◌, ◌<◌, ◌+◌, ◌++◌, ℕ, List, [], ◌∷◌, drop, length, Option, refl}
use Rattle.std.proofs.Common.{◌∙◌, sym, ap, subst, get_or, add-one, append_assoc}
use Rattle.zs_scan.specs.View.{ScanView}
use Rattle.zs_core.specs.Running.{HasRun, HaveRun}
use Rattle.std.proofs.Math.Seq.{drop-cons}
use Rattle.zs_txg.specs.declared.task.Task.{Task}
use Rattle.zs_script.specs.declared.refusal.Refusal.{Refusal}
use Rattle.zs_machine.specs.Machine.{Data}
use Rattle.zs_machine.specs.Replies.{task_refusal, after_run, task_answers, after_tasks}

-- the answers of the tasks that are left are that of the next one and those of the others
pub answers_next : (t : ℕ) (d e : Data) (tasks : List (ℕ × Task)) (i : ℕ) (default : ℕ × Task) (refusal : Option Refusal) → i < length tasks → refusal ≡ task_refusal t d (get_or tasks i default).1 → e ≡ after_run t d (get_or tasks i default).1 → task_answers t d (drop i tasks) ≡ refusal ∷ task_answers t e (drop (i + 1) tasks)
answers_next t d e tasks i default refusal below refused did = rw (drop-cons tasks i default below, add-one, refused, did) refl

-- the answers so far and those of the tasks that are left are those of all, also after the next one
pub answers_more : (t : ℕ) (d e : Data) (tasks : List (ℕ × Task)) (i : ℕ) (default : ℕ × Task) (before now all : List (Option Refusal)) (refusal : Option Refusal) → i < length tasks → refusal ≡ task_refusal t d (get_or tasks i default).1 → e ≡ after_run t d (get_or tasks i default).1 → now ≡ before ++ refusal ∷ [] → before ++ task_answers t d (drop i tasks) ≡ all → now ++ task_answers t e (drop (i + 1) tasks) ≡ all
answers_more t d e tasks i default before now all refusal below refused did pushed so_far =
    let rest : List (Option Refusal) = task_answers t e (drop (i + 1) tasks) in
    ap (λ (l : List (Option Refusal)). l ++ rest) pushed ∙ append_assoc before (refusal ∷ []) rest ∙ ap (λ (l : List (Option Refusal)). before ++ l) (sym (answers_next t d e tasks i default refusal below refused did)) ∙ so_far

-- what the tasks that are left do is what the next one and the others do
pub after_more : (t : ℕ) (d e all : Data) (tasks : List (ℕ × Task)) (i : ℕ) (default : ℕ × Task) → i < length tasks → e ≡ after_run t d (get_or tasks i default).1 → after_tasks t d (drop i tasks) ≡ all → after_tasks t e (drop (i + 1) tasks) ≡ all
after_more t d e all tasks i default below did so_far = sym next ∙ so_far
  where
    next : after_tasks t d (drop i tasks) ≡ after_tasks t e (drop (i + 1) tasks)
    next = rw (drop-cons tasks i default below, add-one, did) refl

-- the tasks that are left begin with the next one
next_is : (tasks : List (ℕ × Task)) (i : ℕ) (default : ℕ × Task) → i < length tasks → drop i tasks ≡ get_or tasks i default ∷ drop (i + 1) tasks
next_is tasks i default below = rw (drop-cons tasks i default below, add-one) refl

-- what the tasks that are left make of the scan is what the next one and the others make of it
pub seen_more : (t : ℕ) (d e all : Data) (tasks every : List (ℕ × Task)) (i : ℕ) (default : ℕ × Task) (first v mid : ScanView) → i < length tasks
    → HasRun t d (get_or tasks i default).1 v mid → e ≡ after_run t d (get_or tasks i default).1
    → ((w : ScanView) → HaveRun t d (drop i tasks) v w → HaveRun t all every first w) → (w : ScanView) → HaveRun t e (drop (i + 1) tasks) mid w → HaveRun t all every first w
seen_more t d e all tasks every i default first v mid below has did so_far w rest =
    so_far w (subst (λ (l : List (ℕ × Task)). HaveRun t d l v w) (sym (next_is tasks i default below)) (mid, has, subst (λ (x : Data). HaveRun t x (drop (i + 1) tasks) mid w) did rest))
