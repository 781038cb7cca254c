-- Which line of the schedule a turn is of.
use Rattle.std.proofs.Common.{◌≡◌, ℕ, zero, suc, ◌+◌, ◌-◌, ◌<◌, ◌≤◌, true, false, ltb, refl, ap, subst, ◌∙◌, arith, take_all, List, [], ◌∷◌, take, length, Some, None, slice_get}
use Rattle.std.proofs.lemmas.Bool.{le-ltb, lt-ltb}
use Rattle.std.proofs.lemmas.List.Sums.{sum_by-cons, sum_by_more}
use Rattle.std.proofs.lemmas.Option.{slice_get_within, get_or_from_slice_get}
use Rattle.std.specs.List.{sum_by}
use Rattle.bc_history.specs.declared.scenario.Scenario.{Scenario}
use Rattle.bc_history.specs.declared.scenario.Turns.{Turns}
use Rattle.bc_history.specs.Run.World.{turner_at}
use Rattle.bc_history.specs.Scenario.ScenarioRules.{IsScenario, IsTurnerOf}
use Rattle.bc_replay.specs.ActorLoop.{IsPastSchedule}
use Rattle.bc_replay.specs.ActorTurns.{HasTurns}

-- how many turns lines have
abbrev pub turns_in : List Turns → ℕ
turns_in lines = sum_by (λ (line : Turns). line.count) lines

first-line : (line : Turns) (lines : List Turns) (n : ℕ) → n < line.count → turner_at (line ∷ lines) n ≡ Some line.who
first-line line lines n lt = let now : ltb n line.count ≡ true = lt-ltb n line.count lt in rw now refl

later-line : (line : Turns) (lines : List Turns) (n m : ℕ) → n ≡ line.count + m → turner_at (line ∷ lines) n ≡ turner_at lines m
later-line line lines n m is =
    let later : ltb n line.count ≡ false = le-ltb n line.count (omega (arith, is)) in
    let left : n - line.count ≡ m = omega (arith, is) in
    rw (later, left) refl

-- turns behind those of the lines before
pub turner-of_line : (lines : List Turns) (i k n : ℕ) (line : Turns) → slice_get lines i ≡ Some line → k < line.count → n ≡ turns_in (take i lines) + k → turner_at lines n ≡ Some line.who
turner-of_line [] i k n line there lt at = cc
turner-of_line (first ∷ lines) zero k n line there lt at =
    let same : first ≡ line = cc in
    let few : n < first.count = omega (arith, at, ap (λ (l : Turns). l.count) same, lt) in
    first-line first lines n few ∙ ap (λ (l : Turns). Some l.who) same
turner-of_line (first ∷ lines) (suc i) k n line there lt at =
    let sum = sum_by-cons (λ (l : Turns). l.count) first (take i lines) in
    later-line first lines n (turns_in (take i lines) + k) (omega (arith, at, sum)) ∙ turner-of_line lines i k (turns_in (take i lines) + k) line there lt refl

-- behind all lines there is none
pub turner-past : (lines : List Turns) (n : ℕ) → turns_in lines ≤ n → turner_at lines n ≡ None
turner-past [] n past = refl
turner-past (first ∷ lines) n past =
    let sum = sum_by-cons (λ (l : Turns). l.count) first lines in
    later-line first lines n (n - first.count) (omega (arith, past, sum)) ∙ turner-past lines (n - first.count) (omega (arith, past, sum))

-- so behind the schedule
pub past-schedule : (s : Scenario) (taken i : ℕ) → taken ≡ turns_in (take i s.turns) → length s.turns ≤ i → IsPastSchedule s taken
past-schedule s taken i taken_are all n behind =
    let whole : turns_in (take i s.turns) ≡ turns_in s.turns = ap turns_in (take_all i s.turns all) in
    turner-past s.turns n (omega (arith, behind, taken_are, whole))

-- a line has its turns behind those of the lines before
pub line-turns : (s : Scenario) (taken i : ℕ) (line : Turns) → slice_get s.turns i ≡ Some line → taken ≡ turns_in (take i s.turns) → HasTurns s taken line.who line.count
line-turns s taken i line there taken_are k lt = turner-of_line s.turns i k (taken + k) line there lt (ap (λ n. n + k) taken_are)

-- a line names who is there
pub line-there : (s : Scenario) (i : ℕ) (line : Turns) → IsScenario s → slice_get s.turns i ≡ Some line → IsTurnerOf (length s.clocks) (length s.ports) line.who
line-there s i line rules there =
    let within = slice_get_within s.turns i line there in
    let at = rules.turns i line within in
    subst (λ (l : Turns). IsTurnerOf (length s.clocks) (length s.ports) l.who) (get_or_from_slice_get s.turns i line line there) at.who

-- the turns of one line more
pub turns-more : (lines : List Turns) (i : ℕ) (line : Turns) → slice_get lines i ≡ Some line → turns_in (take (i + 1) lines) ≡ turns_in (take i lines) + line.count
turns-more lines i line there =
    sum_by_more (λ (l : Turns). l.count) lines i line (slice_get_within lines i line there)
    ∙ ap (λ (l : Turns). turns_in (take i lines) + l.count) (get_or_from_slice_get lines i line line there)
