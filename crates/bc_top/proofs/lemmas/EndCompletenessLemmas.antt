-- Where no fault rose and the source tells what is left, the causes leave one end, and want of memory.
use Rattle.std.proofs.Common.{◌≡◌, ℕ, ◌≤◌, List, ◌++◌, length, Option, Some, None, refl, sym, ◌∙◌, ap, subst, inl, inr, arith, length-append}
use Rattle.std.proofs.lemmas.List.{append-nil}
use Rattle.std.specs.Io.KnownBytes.{Consumes, IsAtEnd}
use Rattle.text_io.specs.SourceAndSink.{Rose}
use Rattle.text_io.specs.declared.reason.Reason.{Reason}
use Rattle.ptp_base.specs.declared.limits.TheConstants.{TEXT_MAX}
use Rattle.bc_history.specs.declared.scenario.Scenario.{Scenario}
use Rattle.bc_history.specs.declared.entry.Run.{Run}
use Rattle.bc_history.specs.Scenario.LineFaults.{Stands, IsFirstFault}
use Rattle.bc_history.specs.Run.World.{IsEnd, IsWorld, Finished, Not_due, Events as Too_many}
use Rattle.bc_top.specs.ReadToEnd.{Reads, AreRead, IsReadWhole}
use Rattle.bc_gen.specs.MadeScenario.{made_scenario}
use Rattle.bc_top.specs.Call.{Call, IsOfText, IsOutOfTurn, IsOverfullSource, IsOwed, IsTooLarge, IsTranscriptOfSource}
use Rattle.bc_top.specs.CommandRuns.{IsRunBy, Overflows, StopsAt}
use Rattle.bc_top.specs.EndCauses.{IsCaused}
use Rattle.bc_top.specs.EndCompleteness.{IsEndOfTurns, IsEndOf, IsEndAt, IsEndBy, IsEndOfSource, IsComplete}
use Rattle.bc_top.specs.declared.words.Command.{Command}
use Rattle.bc_top.specs.declared.words.Command.TheVariants.{Replay, Run as By_threads, Gen}
use Rattle.bc_top.specs.declared.outcome.End.{End}
use Rattle.bc_top.specs.declared.outcome.End.TheVariants.{Done, Usage, Refused, ReadFault, WriteFault, Events, NoMemory, NotDue, TooLong}
use Rattle.bc_top.proofs.lemmas.CallLemmas.{one_scenario, stands-faultless, one_line, one_reason}
use Rattle.bc_history.proofs.lemmas.EndLemmas.{one_end}

all_was_read : (after : Option (List ℕ)) (text octets : List ℕ) → Consumes (Some text) after octets → IsAtEnd after → octets ≡ text
all_was_read None text octets given end = absurd given
all_was_read (Some rest) text octets given end = sym (given ∙ (ap (λ l. octets ++ l) end ∙ append-nil octets))

text_is : (r : Reads) (text octets : List ℕ) → r.left ≡ Some text → IsReadWhole r octets → octets ≡ text
text_is r text octets told read = all_was_read r.left_after text octets (rw told at read.read.given) read.end

within_text : (after : Option (List ℕ)) (text octets : List ℕ) → Consumes (Some text) after octets → length octets ≤ length text
within_text None text octets given = absurd given
within_text (Some rest) text octets given = rw (given, length-append octets rest) (omega arith)

octets_within : (r : Reads) (text octets : List ℕ) → r.left ≡ Some text → AreRead r octets → length octets ≤ length text
octets_within r text octets told read = within_text r.left_after text octets (rw told at read.given)

-- ---- the end at a scenario that turns run

-- a scenario that has a run has no other end
finished_not_full : (s : Scenario) (run : Run) → IsWorld s run → IsEnd s Too_many → ⊥
finished_not_full s run world events = let same : Finished run ≡ Too_many = one_end s (Finished run) Too_many world events in cc

finished_not_stopped : (s : Scenario) (run : Run) (turn : ℕ) → IsWorld s run → IsEnd s (Not_due turn) → ⊥
finished_not_stopped s run turn world undue = let same : Finished run ≡ Not_due turn = one_end s (Finished run) (Not_due turn) world undue in cc

-- and one that ends at one event too many does not end at a turn
full_not_stopped : (s : Scenario) (turn : ℕ) → IsEnd s Too_many → IsEnd s (Not_due turn) → ⊥
full_not_stopped s turn events undue = let same : Too_many ≡ Not_due turn = one_end s Too_many (Not_due turn) events undue in cc

-- turns without a step are one
one_turn : (s : Scenario) (turn other : ℕ) → IsEnd s (Not_due turn) → IsEnd s (Not_due other) → NotDue turn ≡ NotDue other
one_turn s turn other first second =
    let same : Not_due turn ≡ Not_due other = one_end s (Not_due turn) (Not_due other) first second in
    let turns : turn ≡ other = cc in
    ap (λ n. NotDue n) turns

finished-of : (s : Scenario) (run : Run) → IsWorld s run → IsEndOfTurns s Done
finished-of s run world = record {
  done = λ other second. inl refl;
  events = λ events. absurd (finished_not_full s run world events);
  not_due = λ turn undue. absurd (finished_not_stopped s run turn world undue);
}

full-of : (s : Scenario) → IsEnd s Too_many → IsEndOfTurns s Events
full-of s events = record {
  done = λ run world. absurd (finished_not_full s run world events);
  events = λ second. inl refl;
  not_due = λ turn undue. absurd (full_not_stopped s turn events undue);
}

stopped-of : (s : Scenario) (turn : ℕ) → IsEnd s (Not_due turn) → IsEndOfTurns s (NotDue turn)
stopped-of s turn undue = record {
  done = λ run world. absurd (finished_not_stopped s run turn world undue);
  events = λ events. absurd (full_not_stopped s turn events undue);
  not_due = λ other second. inl (one_turn s turn other undue second);
}

-- ---- the end at a scenario, by the command

done-of : (command : Command) (s : Scenario) (run : Run) → IsRunBy command s run → IsEndOf command s Done
done-of Replay s run made = finished-of s run made.0
done-of By_threads s run made = inl (inl refl)
done-of (Gen n) s run made = absurd made

events-of : (command : Command) (s : Scenario) → Overflows command s → IsEndOf command s Events
events-of Replay s over = full-of s over
events-of By_threads s over = inr (inl refl)
events-of (Gen n) s over = absurd over

not_due-of : (command : Command) (s : Scenario) (turn : ℕ) → StopsAt command s turn → IsEndOf command s (NotDue turn)
not_due-of Replay s turn undue = stopped-of s turn undue
not_due-of By_threads s turn undue = absurd undue
not_due-of (Gen n) s turn undue = absurd undue

memory-of_turns : (s : Scenario) → IsEndOfTurns s NoMemory
memory-of_turns s = record {
  done = λ run world. inr refl;
  events = λ events. inr refl;
  not_due = λ turn undue. inr refl;
}

memory-of : (command : Command) (s : Scenario) → IsOfText command → IsEndOf command s NoMemory
memory-of Replay s of = memory-of_turns s
memory-of By_threads s of = inl (inr refl)
memory-of (Gen n) s of = absurd of

-- ---- the end at a text that was read whole

-- the end of one scenario that the text stands for is that of the text
scenario-at : (command : Command) (text : List ℕ) (s : Scenario) (end : End) → length text ≤ TEXT_MAX → Stands text s → IsEndOf command s end → IsEndAt command text end
scenario-at command text s end short stands of = record {
  stands = λ few t second. subst (λ u. IsEndOf command u end) (one_scenario text s t stands second) of;
  refused = λ few line reason fault. absurd (stands-faultless text s line reason stands fault);
  too_long = λ long. absurd (omega (arith, long, short));
}

same_refusal : (line other : ℕ) (reason further : Reason) → line ≡ other → reason ≡ further → Refused line reason ≡ Refused other further
same_refusal line other reason further lines reasons = cc

refused-at : (command : Command) (text : List ℕ) (line : ℕ) (reason : Reason) → length text ≤ TEXT_MAX → IsFirstFault text line reason → IsEndAt command text (Refused line reason)
refused-at command text line reason short fault = record {
  stands = λ few s stands. absurd (stands-faultless text s line reason stands fault);
  refused = λ few other further first. inl (same_refusal line other reason further (one_line text line other reason further fault first) (one_reason text line other reason further fault first));
  too_long = λ long. absurd (omega (arith, long, short));
}

memory-at : (command : Command) (text : List ℕ) → IsOfText command → IsEndAt command text NoMemory
memory-at command text of = record {
  stands = λ few s stands. memory-of command s of;
  refused = λ few line reason fault. inr refl;
  too_long = λ long. inr refl;
}

too_long-at : (command : Command) (text : List ℕ) → (length text ≤ TEXT_MAX → ⊥) → IsEndAt command text TooLong
too_long-at command text long = record {
  stands = λ few s stands. absurd (long few);
  refused = λ few line reason fault. absurd (long few);
  too_long = λ far. inl refl;
}

-- ---- the end of a call

-- a call is for one command
one_command : (c : Call) (command other : Command) → c.command ≡ Some command → c.command ≡ Some other → command ≡ other
one_command c command other first second = let same : Some command ≡ Some other = sym first ∙ second in cc

-- what was read whole is the text
at_text : (r : Reads) (command : Command) (text octets : List ℕ) (end : End) → r.left ≡ Some text → IsReadWhole r octets → IsEndAt command octets end → IsEndAt command text end
at_text r command text octets end told read at = subst (λ t. IsEndAt command t end) (text_is r text octets told read) at

-- what a command that is about a text owes
owed-source : (command : Command) (r : Reads) (out : List ℕ) → IsOfText command → IsOwed command r out → IsTranscriptOfSource command r out
owed-source Replay r out of owed = owed
owed-source By_threads r out of owed = owed
owed-source (Gen n) r out of owed = absurd of

large-source : (command : Command) (r : Reads) → IsOfText command → IsTooLarge command r → IsOverfullSource command r
large-source Replay r of large = large
large-source By_threads r of large = large
large-source (Gen n) r of large = absurd of

-- the end at what the source told
due-source : (c : Call) (command : Command) (end : End) → IsOfText command → c.command ≡ Some command → IsCaused c end
    → ¬ (Rose c.writes.faults c.writes.faults_after) → IsEndOfSource command c.reads end
due-source c command Done of by cause no_write no_read text told =
    let same = one_command c cause.command command cause.asked by in
    let o = owed-source command c.reads cause.out of (subst (λ k. IsOwed k c.reads cause.out) same cause.owed) in
    let t = o.transcript in
    at_text c.reads command text o.text Done told o.read (scenario-at command o.text t.scenario Done o.read.short t.stands (done-of command t.scenario t.run t.made))
due-source c command Usage of by cause no_write no_read text told = let none : None ≡ Some command = sym cause.other ∙ by in absurd cc
due-source c command (Refused line reason) of by cause no_write no_read text told =
    at_text c.reads command text cause.text (Refused line reason) told cause.read (refused-at command cause.text line reason cause.read.short cause.fault)
due-source c command ReadFault of by cause no_write no_read text told = absurd (no_read cause.failed.counted.0)
due-source c command WriteFault of by cause no_write no_read text told = absurd (no_write cause.failed.counted.0)
due-source c command Events of by cause no_write no_read text told =
    let same = one_command c cause.command command cause.asked by in
    let o = large-source command c.reads of (subst (λ k. IsTooLarge k c.reads) same cause.overfull) in
    at_text c.reads command text o.text Events told o.read (scenario-at command o.text o.overfull.scenario Events o.read.short o.overfull.stands (events-of command o.overfull.scenario o.overfull.events))
due-source c command (NotDue turn) of by cause no_write no_read text told =
    let same = one_command c cause.command command cause.asked by in
    let o = subst (λ k. IsOutOfTurn k cause.text turn) same cause.out_of_turn in
    at_text c.reads command text cause.text (NotDue turn) told cause.read (scenario-at command cause.text o.scenario (NotDue turn) cause.read.short o.stands (not_due-of command o.scenario turn o.undue))
due-source c command NoMemory of by cause no_write no_read text told = memory-at command text of
due-source c command TooLong of by cause no_write no_read text told =
    let within = octets_within c.reads text cause.far.octets told cause.far.read in
    too_long-at command text (λ short. omega (arith, short, within, cause.far.long))

-- the end at `gen`
due-made : (c : Call) (n : ℕ) (end : End) → c.command ≡ Some (Gen n) → IsCaused c end → ¬ (Rose c.writes.faults c.writes.faults_after) → IsEndOfTurns (made_scenario n) end
due-made c n Done by cause no_write =
    let owed = subst (λ k. IsOwed k c.reads cause.out) (one_command c cause.command (Gen n) cause.asked by) cause.owed in
    finished-of (made_scenario n) owed.1.run owed.1.world
due-made c n Usage by cause no_write = let none : None ≡ Some (Gen n) = sym cause.other ∙ by in absurd cc
due-made c n (Refused line reason) by cause no_write = absurd (subst (λ k. IsOfText k) (one_command c cause.command (Gen n) cause.asked by) cause.of_text)
due-made c n ReadFault by cause no_write = absurd (subst (λ k. IsOfText k) (one_command c cause.command (Gen n) cause.asked by) cause.of_text)
due-made c n WriteFault by cause no_write = absurd (no_write cause.failed.counted.0)
due-made c n Events by cause no_write =
    let large = subst (λ k. IsTooLarge k c.reads) (one_command c cause.command (Gen n) cause.asked by) cause.overfull in
    full-of (made_scenario n) large.1
due-made c n (NotDue turn) by cause no_write =
    let stopped = subst (λ k. IsOutOfTurn k cause.text turn) (one_command c cause.command (Gen n) cause.asked by) cause.out_of_turn in
    absurd stopped.undue
due-made c n NoMemory by cause no_write = memory-of_turns (made_scenario n)
due-made c n TooLong by cause no_write = absurd (subst (λ k. IsOfText k) (one_command c cause.command (Gen n) cause.asked by) cause.of_text)

due-of : (c : Call) (end : End) → IsCaused c end → (command : Command) → c.command ≡ Some command → ¬ (Rose c.writes.faults c.writes.faults_after) → IsEndBy command c.reads end
due-of c end cause Replay by no_write = due-source c Replay end tt by cause no_write
due-of c end cause By_threads by no_write = due-source c By_threads end tt by cause no_write
due-of c end cause (Gen n) by no_write = due-made c n end by cause no_write

pub complete : (c : Call) (end : End) → IsCaused c end → IsComplete c end
complete c end cause = record { due = due-of c end cause }
