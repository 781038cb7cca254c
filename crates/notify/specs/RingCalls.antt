-- Calls of a ring, one after another, and what the whole list of notices gives for them (project).
use Rattle.std.specs.Prelude.{List, [], ◌∷◌, fold, Some}
use Rattle.notify.specs.declared.calls.Call.{Call}
use Rattle.notify.specs.declared.calls.Call.TheVariants.{Subscribe, Post, Take}
use Rattle.notify.specs.declared.calls.Answer.{Answer}
use Rattle.notify.specs.declared.calls.Answer.TheVariants.{Subscribed, Posted, Took}
use Rattle.notify.specs.RingView.{RingState, is_subscribed, after_post, taken_of}

-- subscription and notices after a call
abbrev pub state_after : RingState → Call → RingState
state_after state (Subscribe until) = record state { until = Some until }
state_after state (Post at notice) = after_post at notice state
state_after state Take = record state { notices = [] }

-- and after a list of calls
abbrev pub state_after_all : RingState → List Call → RingState
state_after_all state calls = fold state_after state calls

-- the answer of a call
abbrev pub answer_of : RingState → Call → Answer
answer_of state (Subscribe until) = Subscribed
answer_of state (Post at notice) = Posted (is_subscribed state.until at)
answer_of state Take = Took (taken_of state.notices)

-- the answers of a list of calls
abbrev pub answers_of : RingState → List Call → List Answer
answers_of state [] = []
answers_of state (call ∷ calls) = answer_of state call ∷ answers_of (state_after state call) calls
