-- Calls, one after another.
use Rattle.std.proofs.Common.{◌≡◌, ℕ, ◌+◌, ◌<◌, ◌≤◌, List, [], ◌∷◌, ◌++◌, length, get_or, set, take, drop, refl, sym, ap, subst, ◌∙◌, append_assoc}
use Rattle.std.proofs.lemmas.List.{at_drop_more, at_drop_all, take_more_set, take_all, append-nil}
use Rattle.notify.specs.declared.calls.Call.{Call}
use Rattle.notify.specs.declared.calls.Answer.{Answer}
use Rattle.notify.specs.RingView.{RingView, RingState, RingRepresents}
use Rattle.notify.specs.RingCalls.{state_after, state_after_all, answer_of, answers_of}

-- the first i calls were made: with what was put by now, the others give the rest
pub record HasRun (state : RingState) (calls : List Call) (i : ℕ) (answers : List Answer) (ring : RingView) : Type 0 where
  pub now : RingState
  pub represents : RingRepresents ring now
  pub said : take i answers ++ answers_of now (drop i calls) ≡ answers_of state calls
  pub after : state_after_all now (drop i calls) ≡ state_after_all state calls

-- none was made
pub run-none : (state : RingState) (calls : List Call) (answers : List Answer) (ring : RingView) → RingRepresents ring state → HasRun state calls 0 answers ring
run-none state calls answers ring is = record { now = state; represents = is; said = refl; after = refl }

-- one more was made
pub run-more : (state : RingState) (calls : List Call) (i : ℕ) (d : Call) (answers : List Answer) (old new : RingView) (y : Answer) →
    i < length calls → i < length answers → HasRun state calls i answers old →
    ((k : RingState) → RingRepresents old k → y ≡ answer_of k (get_or calls i d)) →
    ((k : RingState) → RingRepresents old k → RingRepresents new (state_after k (get_or calls i d))) →
    HasRun state calls (i + 1) (set answers i y) new
run-more state calls i d answers old new y l m run answer next =
    let call = get_or calls i d in
    let now = run.now in
    let step : drop i calls ≡ call ∷ drop (i + 1) calls = at_drop_more (λ (rest : List Call). rest) calls i d l in
    let rest = answers_of (state_after now call) (drop (i + 1) calls) in
    record {
      now = state_after now call;
      represents = next now run.represents;
      said = ap (λ (said : List Answer). said ++ rest) (take_more_set answers i y m)
          ∙ append_assoc (take i answers) (y ∷ []) rest
          ∙ ap (λ (z : Answer). take i answers ++ (z ∷ rest)) (answer now run.represents)
          ∙ sym (ap (λ (others : List Call). take i answers ++ answers_of now others) step)
          ∙ run.said;
      after = sym (ap (state_after_all now) step) ∙ run.after;
    }

-- all were made: their answers
pub run-answers : (state : RingState) (calls : List Call) (i : ℕ) (answers : List Answer) (ring : RingView) →
    length calls ≤ i → length answers ≤ i → HasRun state calls i answers ring → answers ≡ answers_of state calls
run-answers state calls i answers ring l m run =
    sym (take_all i answers m)
    ∙ sym (append-nil (take i answers))
    ∙ sym (at_drop_all (λ (others : List Call). take i answers ++ answers_of run.now others) calls i l)
    ∙ run.said

-- and what the ring then stands for
pub run-represents : (state : RingState) (calls : List Call) (i : ℕ) (answers : List Answer) (ring : RingView) →
    length calls ≤ i → HasRun state calls i answers ring → RingRepresents ring (state_after_all state calls)
run-represents state calls i answers ring l run =
    subst (RingRepresents ring) (sym (at_drop_all (state_after_all run.now) calls i l) ∙ run.after) run.represents
