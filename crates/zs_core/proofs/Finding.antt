-- A search through open reads that has found none of a client with a plan so far.
use Rattle.std.specs.Prelude.{◌≡◌, ◌<◌, ◌+◌, ◌↔◌, ℕ, Bool, false, IsTrue, List, [], ◌∷◌, ◌++◌, length, take, drop, Option, refl}
use Rattle.std.proofs.Common.{sym, ◌∙◌, ap, subst, inl, inr, append_assoc, append-nil, get_or}
use Rattle.std.proofs.lemmas.List.{length-append}
use Rattle.std.proofs.lemmas.Bool.{true≢false}
use Rattle.std.proofs.Math.Seq.{drop-cons, take-append_seam, drop-append_seam, get_or-append_seam}
use native.Mathlib.Numerals.{add-one}
use Rattle.zs_machine.specs.declared.event.ReadPlan.{ReadPlan}
use Rattle.zs_machine.specs.declared.event.OpenRead.{OpenRead}
use Rattle.zs_script.specs.declared.reply.Reply.{Reply}
use Rattle.zs_machine.specs.Machine.{PoolState}
use Rattle.zs_machine.specs.Steps.{IsReadAnswer, ReadEndStep}
use Rattle.zs_core.specs.Reading.{HasNoRead, IsFirstRead, EndsRead, read_reply}

-- none of the first i reads is the client's with the plan
pub record ArePassed (reads : List OpenRead) (by : ℕ) (p : ReadPlan) (i : ℕ) : Type 0 where
  pub before : List OpenRead
  pub is : reads ≡ before ++ drop i reads
  pub many : length before ≡ i
  pub none : HasNoRead before by p

-- of none of the first none is
pub passed_none : (reads : List OpenRead) (by : ℕ) (p : ReadPlan) → ArePassed reads by p 0
passed_none reads by p = record { before = []; is = refl; many = refl; none = λ r h. absurd h }

-- none is in a list with another one in front
none_both : (y : OpenRead) (ys : List OpenRead) (by : ℕ) (p : ReadPlan) → (y.by ≡ by → y.plan ≡ p → ⊥) → HasNoRead ys by p → HasNoRead (y ∷ ys) by p
none_both y ys by p first rest = λ r h b q. elim h [
  | inl is ↦ first (ap (λ (o : OpenRead). o.by) is ∙ b) (ap (λ (o : OpenRead). o.plan) is ∙ q)
  | inr more ↦ rest r more b q
]

-- nor in one with another one behind
none_more : (xs : List OpenRead) (x : OpenRead) (by : ℕ) (p : ReadPlan) → HasNoRead xs by p → (x.by ≡ by → x.plan ≡ p → ⊥) → HasNoRead (xs ++ x ∷ []) by p
none_more [] x by p none other = none_both x [] by p other (λ r h. absurd h)
none_more (y ∷ ys) x by p none other = none_both y (ys ++ x ∷ []) by p (none y (inl refl)) (none_more ys x by p (λ r h. none r (inr h)) other)

-- one more was passed
pub passed_more : (reads : List OpenRead) (by : ℕ) (p : ReadPlan) (i : ℕ) (x : OpenRead) → drop i reads ≡ x ∷ drop (i + 1) reads → (x.by ≡ by → x.plan ≡ p → ⊥) → ArePassed reads by p i → ArePassed reads by p (i + 1)
passed_more reads by p i x next other passed = record {
  before = passed.before ++ x ∷ [];
  is = passed.is ∙ (ap (λ (l : List OpenRead). passed.before ++ l) next ∙ sym (append_assoc passed.before (x ∷ []) (drop (i + 1) reads)));
  many = length-append passed.before (x ∷ []) ∙ ap (λ (n : ℕ). n + 1) passed.many;
  none = none_more passed.before x by p passed.none other;
}

-- the first that is was found
pub passed_found : (reads : List OpenRead) (by : ℕ) (p : ReadPlan) (i : ℕ) (x : OpenRead) → i < length reads → drop i reads ≡ x ∷ drop (i + 1) reads → x.by ≡ by → x.plan ≡ p → ArePassed reads by p i → IsFirstRead reads by p i
passed_found reads by p i x within next client plan passed = record {
  within = within;
  before = passed.before;
  read = x;
  after = drop (i + 1) reads;
  is = passed.is ∙ ap (λ (l : List OpenRead). passed.before ++ l) next;
  many = passed.many;
  client = client;
  same_plan = plan;
  first = passed.none;
}

-- none is, where all were passed
pub passed_all : (reads : List OpenRead) (by : ℕ) (p : ReadPlan) (i : ℕ) → drop i reads ≡ [] → ArePassed reads by p i → HasNoRead reads by p
passed_all reads by p i over passed =
    subst (λ (l : List OpenRead). HasNoRead l by p) (sym (passed.is ∙ (ap (λ (l : List OpenRead). passed.before ++ l) over ∙ append-nil passed.before))) passed.none

-- the read at i, where a test by client and plan says that it is another
pub passed_one : (reads : List OpenRead) (by : ℕ) (p : ReadPlan) (i : ℕ) (d : OpenRead) (test : Bool) → i < length reads → (IsTrue test ↔ ((get_or reads i d).by ≡ by) × ((get_or reads i d).plan ≡ p)) → test ≡ false → ArePassed reads by p i → ArePassed reads by p (i + 1)
passed_one reads by p i d test within means is passed =
    let next : drop i reads ≡ get_or reads i d ∷ drop (i + 1) reads = rw add-one (drop-cons reads i d within) in
    passed_more reads by p i (get_or reads i d) next (λ b q. true≢false (sym (means.1 (b, q)) ∙ is)) passed

-- the list without the element behind the first ones
pub without_one : (before : List OpenRead) (x : OpenRead) (after : List OpenRead) (i : ℕ) (all rest : List OpenRead) → all ≡ before ++ x ∷ after → length before ≡ i → rest ≡ take i all ++ drop (i + 1) all → rest ≡ before ++ after
without_one before x after i all rest is many left =
    let split : all ≡ (before ++ x ∷ []) ++ after = is ∙ sym (append_assoc before (x ∷ []) after) in
    let one : length (before ++ x ∷ []) ≡ i + 1 = length-append before (x ∷ []) ∙ ap (λ (n : ℕ). n + 1) many in
    let first : take i all ≡ before = ap (take i) is ∙ (ap (λ (n : ℕ). take n (before ++ x ∷ after)) (sym many) ∙ take-append_seam before (x ∷ after)) in
    let last : drop (i + 1) all ≡ after = ap (drop (i + 1)) split ∙ (ap (λ (n : ℕ). drop n ((before ++ x ∷ []) ++ after)) (sym one) ∙ drop-append_seam (before ++ x ∷ []) after) in
    left ∙ (ap (λ (l : List OpenRead). l ++ drop (i + 1) all) first ∙ ap (λ (l : List OpenRead). before ++ l) last)

-- the element behind them
pub the_one : (before : List OpenRead) (x : OpenRead) (after : List OpenRead) (i : ℕ) (all : List OpenRead) (d y : OpenRead) → all ≡ before ++ x ∷ after → length before ≡ i → y ≡ get_or all i d → y ≡ x
the_one before x after i all d y is many got =
    got ∙ (ap (λ (l : List OpenRead). get_or l i d) is ∙ (ap (λ (n : ℕ). get_or (before ++ x ∷ after) n d) (sym many) ∙ get_or-append_seam before x after d))

-- the first open read of a client with a plan was taken out, and answered
pub ends_read : (reads rest : List OpenRead) (by : ℕ) (p : ReadPlan) (got : Option (List ℕ)) (i : ℕ) (y d : OpenRead) (answer : Reply) → IsFirstRead reads by p i → y ≡ get_or reads i d → rest ≡ take i reads ++ drop (i + 1) reads → answer ≡ read_reply y y.plan got → EndsRead by p got reads answer rest
ends_read reads rest by p got i y d answer first is left reply =
    let same : y ≡ first.read = the_one first.before first.read first.after i reads d y first.is first.many is in
    record {
      before = first.before;
      read = first.read;
      after = first.after;
      were = first.is;
      client = first.client;
      same_plan = first.same_plan;
      first = first.first;
      reply = reply ∙ (ap (λ (r : OpenRead). read_reply r r.plan got) same ∙ ap (λ (q : ReadPlan). read_reply first.read q got) first.same_plan);
      are = without_one first.before first.read first.after i reads rest first.is first.many left;
    }

-- so the machine's read ends
pub ends_step : (s t : PoolState) (by : ℕ) (p : ReadPlan) (i : ℕ) (y d : OpenRead) (answer : Reply) (rest : List OpenRead) → IsFirstRead s.reads by p i → y ≡ get_or s.reads i d → rest ≡ take i s.reads ++ drop (i + 1) s.reads → IsReadAnswer y y.plan answer → t ≡ record s { reads = rest } → ReadEndStep s by p answer t
ends_step s t by p i y d answer rest first is left answers now =
    let same : y ≡ first.read = the_one first.before first.read first.after i s.reads d y first.is first.many is in
    record {
      before = first.before;
      read = first.read;
      after = first.after;
      open_reads = first.is;
      client = first.client;
      same_plan = first.same_plan;
      answers = subst (λ (q : ReadPlan). IsReadAnswer first.read q answer) first.same_plan (subst (λ (r : OpenRead). IsReadAnswer r r.plan answer) same answers);
      closed = now ∙ ap (λ (l : List OpenRead). record s { reads = l }) (without_one first.before first.read first.after i s.reads rest first.is first.many left);
    }
