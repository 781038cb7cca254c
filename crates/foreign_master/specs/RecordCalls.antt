-- Calls of Records, one after another, and what the whole list of kept Announces gives for them.
use Rattle.std.specs.Prelude.{◌≡◌, ℕ, List, [], ◌∷◌, fold}
use Rattle.ptp_base.specs.declared.announcement.Announcement.{Announcement}
use Rattle.ptp_base.specs.declared.identity.PortId.{PortId}
use Rattle.ptp_profile.specs.declared.foreign_master.KeptAnnounce.{KeptAnnounce}
use Rattle.ptp_profile.specs.declared.foreign_master.Heard.{Heard}
use Rattle.ptp_profile.specs.declared.foreign_master.Heard.TheVariants.{Kept, Own, Far, Alternate, Crowded}
use Rattle.ptp_profile.specs.Best.ForeignMasters.{hearing_of, erbest}
use Rattle.foreign_master.specs.declared.calls.Call.{Call}
use Rattle.foreign_master.specs.declared.calls.Call.TheVariants.{Hear, Best, Reset}
use Rattle.foreign_master.specs.declared.calls.Answer.{Answer}
use Rattle.foreign_master.specs.declared.calls.Answer.TheVariants.{Became, Found, Forgot}
use Rattle.foreign_master.specs.ForeignMasterTable.{IsReached}

-- the kept Announces after one more was heard, by what became of it
abbrev pub kept_with : ℕ → Announcement → List KeptAnnounce → Heard → List KeptAnnounce
kept_with at a kept Kept = record { at = at; said = a } ∷ kept
kept_with at a kept Own = kept
kept_with at a kept Far = kept
kept_with at a kept Alternate = kept
kept_with at a kept Crowded = kept

-- the kept Announces after a call
abbrev pub kept_after : ℕ → List KeptAnnounce → Call → List KeptAnnounce
kept_after w kept (Hear a at) = kept_with at a kept (hearing_of w at kept a)
kept_after w kept (Best at) = kept
kept_after w kept Reset = []

-- and after a list of calls
abbrev pub kept_after_all : ℕ → List KeptAnnounce → List Call → List KeptAnnounce
kept_after_all w kept calls = fold (kept_after w) kept calls

-- the answer of a call
abbrev pub answer_of : ℕ → List KeptAnnounce → Call → Answer
answer_of w kept (Hear a at) = Became (hearing_of w at kept a)
answer_of w kept (Best at) = Found (erbest w at kept)
answer_of w kept Reset = Forgot

-- the answers of a list of calls
abbrev pub answers_of : ℕ → List KeptAnnounce → List Call → List Answer
answers_of w kept [] = []
answers_of w kept (call ∷ calls) =
    answer_of w kept call ∷ answers_of w (kept_after w kept call) calls

-- an Announce that is heard came to this port
abbrev pub IsHeardBy : PortId → Call → Type 0
IsHeardBy receiver (Hear a at) = a.receiver ≡ receiver
IsHeardBy receiver (Best at) = Unit {0}
IsHeardBy receiver Reset = Unit {0}

-- the moment of the call is not below that of a kept Announce
abbrev pub IsReachedBy : Call → List KeptAnnounce → Type 0
IsReachedBy (Hear a at) kept = IsReached at kept
IsReachedBy (Best at) kept = IsReached at kept
IsReachedBy Reset kept = Unit {0}

-- nor is that of any call of the list
abbrev pub AreInTime : ℕ → List KeptAnnounce → List Call → Type 0
AreInTime w kept [] = Unit {0}
AreInTime w kept (call ∷ calls) = IsReachedBy call kept × AreInTime w (kept_after w kept call) calls
