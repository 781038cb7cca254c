-- What a text stands for, or its first fault, is one; and what a source owes by its text.
use Rattle.std.proofs.Common.{◌≡◌, ℕ, ◌<◌, List, Some, None, refl, sym, ap, ◌∙◌, inl, inr, arith, IfOk, IfErr, Ok, Err}
use Rattle.std.specs.Prelude.{Result}
use Rattle.std.proofs.lemmas.Bool.{cases_lt}
use Rattle.text_io.specs.declared.reason.Reason.{Reason}
use Rattle.text_io.specs.TextLines.{lines_of_text}
use Rattle.bc_history.specs.declared.scenario.Scenario.{Scenario}
use Rattle.bc_history.specs.Scenario.LineFaults.{Stands, IsFirstFault, fault_at}
use Rattle.bc_top.specs.Call.{IsSourceWithout, IsTranscriptOf, IsTranscriptOfSource, IsWithout}
use Rattle.bc_top.specs.ReadToEnd.{Reads, IsReadWhole}
use Rattle.bc_top.specs.declared.outcome.NoTranscript.{NoTranscript}
use Rattle.bc_top.specs.declared.outcome.NoTranscript.TheVariants.{Refused, Events, NotDue, NoMemory}
use Rattle.bc_top.specs.declared.words.Command.{Command}
use Rattle.bc_top.specs.declared.words.Command.TheVariants.{Run as By_threads, Gen}

pub one_scenario : (text : List ℕ) (s t : Scenario) → Stands text s → Stands text t → s ≡ t
one_scenario text s t a b = a.said ∙ sym b.said

pub stands-faultless : (text : List ℕ) (s : Scenario) (line : ℕ) (reason : Reason) → Stands text s → IsFirstFault text line reason → ⊥
stands-faultless text s line reason stands fault =
    let both : None ≡ Some reason = sym (stands.faultless fault.index fault.within) ∙ fault.faulty in
    cc

-- of two first faults neither is behind the other
not_behind : (text : List ℕ) (line other : ℕ) (reason further : Reason) (a : IsFirstFault text line reason) (b : IsFirstFault text other further) → a.index < b.index → ⊥
not_behind text line other reason further a b lt =
    let both : None ≡ Some reason = sym (b.least a.index lt) ∙ a.faulty in
    cc

one_index : (text : List ℕ) (line other : ℕ) (reason further : Reason) (a : IsFirstFault text line reason) (b : IsFirstFault text other further) → a.index ≡ b.index
one_index text line other reason further a b = elim (cases_lt a.index b.index) [
  | inl lt ↦ absurd (not_behind text line other reason further a b lt)
  | inr le ↦ elim (cases_lt b.index a.index) [
    | inl lt ↦ absurd (not_behind text other line further reason b a lt)
    | inr ge ↦ omega arith
  ]
]

pub one_line : (text : List ℕ) (line other : ℕ) (reason further : Reason) → IsFirstFault text line reason → IsFirstFault text other further → line ≡ other
one_line text line other reason further a b = let same = one_index text line other reason further a b in omega (arith, same, a.counted, b.counted)

pub one_reason : (text : List ℕ) (line other : ℕ) (reason further : Reason) → IsFirstFault text line reason → IsFirstFault text other further → reason ≡ further
one_reason text line other reason further a b =
    let same : Some reason ≡ Some further = sym a.faulty ∙ (ap (fault_at (lines_of_text text)) (one_index text line other reason further a b) ∙ b.faulty) in
    cc

-- ---- a text that stands

-- of no command such a text has no transcript, but for want of memory
memory-alone : (text : List ℕ) (s : Scenario) (why : NoTranscript) → Stands text s → ((command : Command) → IsWithout command text why) → why ≡ NoMemory
memory-alone text s (Refused line reason) stands without = absurd (stands-faultless text s line reason stands (without By_threads))
memory-alone text s Events stands without = let full = without (Gen 0) in absurd full.events
memory-alone text s (NotDue turn) stands without = let stopped = without By_threads in absurd stopped.undue
memory-alone text s NoMemory stands without = refl

pub if_stands : {X : Type 0} (text : List ℕ) (s : Scenario) (result : Result X NoTranscript) → Stands text s
    → IfErr result (λ why. (command : Command) → IsWithout command text why) → IfErr result (λ why. why ≡ NoMemory)
if_stands text s (Ok x) stands without = tt
if_stands text s (Err why) stands without = memory-alone text s why stands without

-- ---- a source that was read to its end

-- the transcript of its text is owed
pub owed-source : (command : Command) (r : Reads) (text : List ℕ) (made : Result (List ℕ) NoTranscript) → IsReadWhole r text
    → IfOk made (λ out. IsTranscriptOf command text out) → IfOk made (λ out. IsTranscriptOfSource command r out)
owed-source command r text (Ok out) read owed = record { text = text; read = read; transcript = owed }
owed-source command r text (Err why) read owed = tt

-- or it has none
pub excused-source : (command : Command) (r : Reads) (text : List ℕ) (made : Result (List ℕ) NoTranscript) → IsReadWhole r text
    → IfErr made (IsWithout command text) → IfErr made (IsSourceWithout command r)
excused-source command r text (Ok out) read free = tt
excused-source command r text (Err why) read free = record { text = text; read = read; without = free }
