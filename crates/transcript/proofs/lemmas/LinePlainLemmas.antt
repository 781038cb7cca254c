-- No line has a newline in it.
use Rattle.std.proofs.Common.{◌≡◌, ℕ, ℤ, true, refl, List, Option, Some, None, codes}
use Rattle.std.specs.Prelude.{pos}
use Rattle.std.specs.Fmt.{decimal, signed_decimal}
use Rattle.ptp_base.specs.Floor.{floor_of}
use Rattle.ptp_profile.specs.declared.port_event.Timer.{Timer}
use Rattle.ptp_profile.specs.declared.port_event.Timer.TheVariants.{AnnounceReceipt, Qualification, AnnounceSend, SyncSend, DelayRequest}
use Rattle.ptp_profile.specs.declared.port_event.Fate.{Fate as A_fate}
use Rattle.ptp_profile.specs.declared.port_event.Fate.TheVariants.{Asleep, Dropped, Own, Far, Alternate, Crowded, Kept, Ignored, Waiting, Paired, Matched, Unmatched, Answered}
use Rattle.ptp_profile.specs.declared.message.Reject.{Reject}
use Rattle.ptp_profile.specs.declared.message.Reject.TheVariants.{Short, Version, Domain, Type_, Length, Nanos, TimeRange}
use Rattle.ptp_profile.specs.declared.timing.Action.{Action}
use Rattle.ptp_profile.specs.declared.timing.Action.TheVariants.{Unlocked as Unlocked_action, Jump, Locked}
use Rattle.ptp_profile.specs.declared.roles.Lead.{Lead}
use Rattle.ptp_profile.specs.declared.seats.LogEntry.{LogEntry}
use Rattle.ptp_profile.specs.declared.seats.LogEntry.TheVariants.{Order as An_order, Change as A_change}
use Rattle.ptp_profile.specs.Port.PrintedNames.{◌<>◌, state_name}
use Rattle.ptp_management.specs.declared.query.AskError.{AskError}
use Rattle.ptp_management.specs.declared.query.AskError.TheVariants.{Action as Ask_action, Unknown as Ask_unknown, Target as Ask_target}
use Rattle.bc_history.specs.declared.entry.Input.{Input}
use Rattle.bc_history.specs.declared.entry.Input.TheVariants.{Frame, Timed, Down, Up, Report, Turn, Sampled, Query}
use Rattle.bc_history.specs.declared.entry.Outcome.{Outcome}
use Rattle.bc_history.specs.declared.entry.Outcome.TheVariants.{Unlocked, Changed, Superseded, Spent}
use Rattle.bc_history.specs.declared.entry.Seen.{Seen}
use Rattle.bc_history.specs.Run.FormedRuns.{IsFormedInput}
use Rattle.bc_history.specs.Run.Transcript.{timer_name, drop_name, fate_name, reading_text, seen_text, action_text, outcome_text, input_text, lead_text, asked_name}
use Rattle.transcript.specs.declared.line.Line.{Line}
use Rattle.transcript.specs.declared.line.Line.TheVariants.{Head, Event, Fate, State, Parent, Order, Measure, Sent, Told, Asked, Answer, Printed, Clock, Logged, End}
use Rattle.transcript.specs.ShownLines.{IsLine}
use Rattle.transcript.specs.TranscriptLines.{line_text, logged_text, IsFormedLine}
use Rattle.transcript.specs.TypedLines.{IsTypedLine}
use Rattle.transcript.proofs.lemmas.MarginLemmas.{IsLine as Plain, is_line, line-tested, line-append, line-decimal, line-signed, line-hex, line-port, line-state}
use Rattle.transcript.proofs.lemmas.SplitLemmas.{line_again, query_plain, plain_again}

-- ---- pieces

-- words, and what stands behind them
word : (w rest : List ℕ) → is_line w ≡ true → Plain rest → Plain (w <> rest)
word w rest is plain = line-append w rest (line-tested w is) plain

-- a number, and what stands behind it
num : (n : ℕ) (rest : List ℕ) → Plain rest → Plain (decimal n <> rest)
num n rest plain = line-append (decimal n) rest (line-decimal n) plain

signed : (z : ℤ) (rest : List ℕ) → Plain rest → Plain (signed_decimal z <> rest)
signed z rest plain = line-append (signed_decimal z) rest (line-signed z) plain

-- two numbers with a space between
two_nums : (m n : ℕ) → Plain (decimal m <> codes " " <> decimal n)
two_nums m n = num m _ (word (codes " ") _ refl (line-decimal n))

two_signed : (m n : ℤ) → Plain (signed_decimal m <> codes " " <> signed_decimal n)
two_signed m n = signed m _ (word (codes " ") _ refl (line-signed n))

plain-reading : (seen : Seen) → Plain (reading_text seen)
plain-reading seen = num seen.number _ (word (codes " ") _ refl (two_signed seen.value seen.freq))

plain-seen : (seen : Option Seen) → Plain (seen_text seen)
plain-seen None = tt
plain-seen (Some seen) = word (codes " seen ") _ refl (plain-reading seen)

plain-action : (action : Action) → Plain (action_text action)
plain-action Unlocked_action = line-tested (codes "unlocked") refl
plain-action (Jump step freq) = word (codes "jump ") _ refl (two_signed step freq)
plain-action (Locked freq) = word (codes "locked ") _ refl (line-signed freq)

plain-outcome : (outcome : Outcome) → Plain (outcome_text outcome)
plain-outcome Unlocked = line-tested (codes "none") refl
plain-outcome (Changed number) = word (codes "changed ") _ refl (line-decimal number)
plain-outcome (Superseded newer at) = word (codes "superseded ") _ refl (two_nums newer at)
plain-outcome (Spent at) = word (codes "spent ") _ refl (line-decimal at)

plain-timer : (timer : Timer) → Plain (timer_name timer)
plain-timer AnnounceReceipt = line-tested (codes "announce_receipt") refl
plain-timer Qualification = line-tested (codes "qualification") refl
plain-timer AnnounceSend = line-tested (codes "announce_send") refl
plain-timer SyncSend = line-tested (codes "sync_send") refl
plain-timer DelayRequest = line-tested (codes "delay_request") refl

plain-drop : (reject : Reject) → Plain (drop_name reject)
plain-drop Short = line-tested (codes "short") refl
plain-drop Version = line-tested (codes "version") refl
plain-drop Domain = line-tested (codes "domain") refl
plain-drop Type_ = line-tested (codes "type") refl
plain-drop Length = line-tested (codes "length") refl
plain-drop Nanos = line-tested (codes "nanos") refl
plain-drop TimeRange = line-tested (codes "timerange") refl

plain-fate : (fate : A_fate) → Plain (fate_name fate)
plain-fate Asleep = line-tested (codes "asleep") refl
plain-fate (Dropped reject) = plain-drop reject
plain-fate Own = line-tested (codes "own") refl
plain-fate Far = line-tested (codes "far") refl
plain-fate Alternate = line-tested (codes "alternate") refl
plain-fate Crowded = line-tested (codes "crowded") refl
plain-fate Kept = line-tested (codes "kept") refl
plain-fate Ignored = line-tested (codes "ignored") refl
plain-fate Waiting = line-tested (codes "waiting") refl
plain-fate Paired = line-tested (codes "paired") refl
plain-fate Matched = line-tested (codes "matched") refl
plain-fate Unmatched = line-tested (codes "unmatched") refl
plain-fate Answered = line-tested (codes "answered") refl

plain-asked : (error : AskError) → Plain (asked_name error)
plain-asked Ask_action = line-tested (codes "action") refl
plain-asked Ask_unknown = line-tested (codes "unknown") refl
plain-asked Ask_target = line-tested (codes "target") refl

plain-lead : (lead : Option Lead) → Plain (lead_text lead)
plain-lead None = line-tested (codes "none") refl
plain-lead (Some lead) = two_nums lead.gener lead.source

-- ---- lines

plain-exchange : (action : Action) (outcome : Outcome) → Plain (codes " " <> action_text action <> codes " " <> outcome_text outcome)
plain-exchange action outcome = word (codes " ") _ refl (line-append (action_text action) _ (plain-action action) (word (codes " ") _ refl (plain-outcome outcome)))

plain-input : (input : Input) → IsFormedInput input → Plain (input_text input)
plain-input (Frame port tick octets) formed = word (codes "port ") _ refl (num port _ (word (codes " frame ") _ refl (num tick _ (word (codes " ") _ refl (line-hex octets)))))
plain-input (Timed port tick timer) formed = word (codes "port ") _ refl (num port _ (word (codes " timer ") _ refl (num tick _ (word (codes " ") _ refl (plain-timer timer)))))
plain-input (Down port tick) formed = word (codes "port ") _ refl (num port _ (word (codes " down ") _ refl (line-decimal tick)))
plain-input (Up port tick) formed = word (codes "port ") _ refl (num port _ (word (codes " up ") _ refl (line-decimal tick)))
plain-input (Report port tick gener action outcome) formed =
    word (codes "port ") _ refl (num port _ (word (codes " report ") _ refl (num tick _ (word (codes " ") _ refl (num gener _ (plain-exchange action outcome))))))
plain-input (Turn clock tick) formed = word (codes "clock ") _ refl (num clock _ (word (codes " turn ") _ refl (line-decimal tick)))
plain-input (Sampled clock tick lead theirs own action outcome) formed =
    word (codes "clock ") _ refl (num clock _ (word (codes " sampled ") _ refl (num tick _ (word (codes " ") _ refl (num lead.gener _ (word (codes " ") _ refl (num lead.source _
    (word (codes " theirs ") _ refl (line-append (reading_text theirs) _ (plain-reading theirs) (word (codes " own ") _ refl (line-append (reading_text own) _ (plain-reading own) (plain-exchange action outcome))))))))))))
plain-input (Query tick text) formed = word (codes "query ") _ refl (num tick _ (word (codes " ") _ refl (query_plain text formed)))

plain-logged : (entry : LogEntry) → Plain (logged_text entry)
plain-logged (An_order gener ctrl) = word (codes " order ") _ refl (two_nums gener ctrl)
plain-logged (A_change gener ctrl tick step freq) =
    word (codes " change ") _ refl (num gener _ (word (codes " ") _ refl (num ctrl _ (word (codes " ") _ refl (num tick _ (word (codes " ") _ refl (two_signed step freq)))))))

plain : (line : Line) → IsFormedLine line → IsTypedLine line → Plain (line_text line)
unfolding line_text
plain Head formed within = line-tested (codes "bc-transcript 1") refl
plain (Event number moment input seen) formed within =
    word (codes "event ") _ refl (num number _ (word (codes " ") _ refl (num moment _ (word (codes " ") _ refl (line-append (input_text input) _ (plain-input input formed.0) (plain-seen seen))))))
plain (Fate fate) formed within = word (codes "  fate ") _ refl (plain-fate fate)
plain (State m) formed within = word (codes "  state ") _ refl (num m.port _ (word (codes " ") _ refl (line-append (state_name m.old) _ (line-state m.old) (word (codes " ") _ refl (line-state m.new)))))
plain (Parent parent) formed within = word (codes "  parent ") _ refl (line-port parent)
plain (Order order) formed within = word (codes "  order ") _ refl (num order.clock _ (word (codes " ") _ refl (two_nums order.gener order.ctrl)))
plain (Measure measure gener clock) formed within =
    word (codes "  measure ") _ refl (num gener _ (word (codes " ") _ refl (num clock _ (word (codes " ") _ refl (signed measure.offset _ (word (codes " ") _ refl (two_signed measure.delay measure.local)))))))
plain (Sent sent) formed within = word (codes "  send ") _ refl (num sent.port _ (word (codes " ") _ refl (line-hex sent.octets)))
plain (Told told) formed within = word (codes "  told ") _ refl (line-append (lead_text told.lead) _ (plain-lead told.lead) (word (codes " missed ") _ refl (line-decimal told.missed)))
plain (Asked error) formed within = word (codes "  asked ") _ refl (plain-asked error)
plain (Answer answer) formed within = word (codes "  answer ") _ refl (line-hex answer)
plain (Printed text) formed within = word (codes "    ") _ refl (plain_again text formed within)
plain (Clock clock time drift) formed within = word (codes "clock ") _ refl (num clock _ (word (codes " ") _ refl (two_signed time (floor_of drift (pos 65536)))))
plain (Logged clock number entry) formed within = word (codes "log ") _ refl (num clock _ (word (codes " ") _ refl (num number _ (plain-logged entry))))
plain (End number) formed within = word (codes "end ") _ refl (line-decimal number)

-- a line is one
pub line_plain : (line : Line) → IsFormedLine line → IsTypedLine line → IsLine (line_text line)
line_plain line formed within = line_again (line_text line) (plain line formed within)
