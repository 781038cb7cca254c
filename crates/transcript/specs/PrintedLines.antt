-- Single lines of a transcript: each is the text of a list of one.
use Rattle.std.specs.Prelude.{ℕ, List, [], ◌∷◌, ◌++◌, codes}
use Rattle.ptp_profile.specs.declared.roles.RoleOrder.{RoleOrder}
use Rattle.bc_history.specs.declared.entry.Sent.{Sent}
use Rattle.bc_history.specs.Run.Transcript.{orders_text, frames_text, answers_text}

unfoldable pub order_text : RoleOrder → List ℕ
order_text order = orders_text (order ∷ [])

-- of a frame that was sent
unfoldable pub frame_text : Sent → List ℕ
frame_text sent = frames_text (sent ∷ [])

unfoldable pub answer_text : List ℕ → List ℕ
answer_text answer = answers_text (answer ∷ [])

-- lines, each behind four spaces
abbrev pub margined : List (List ℕ) → List ℕ
margined [] = []
margined (line ∷ lines) = codes "    " ++ (line ++ margined lines)
