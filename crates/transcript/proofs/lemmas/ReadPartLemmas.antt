-- Parts of lines as they are printed: the words that they are, and what their readers make of these.
use Rattle.std.proofs.Common.{◌≡◌, ℕ, ℤ, true, List, [], ◌∷◌, ◌++◌, codes, Some, refl, ap, ◌∙◌, arith, append_assoc}
use Rattle.std.specs.Fmt.{decimal, signed_decimal}
use Rattle.ptp_base.specs.declared.port_state.PortState.{PortState}
use Rattle.ptp_base.specs.declared.port_state.PortState.TheVariants.{Initializing, Faulty, Disabled, Listening, PreMaster, Master, Passive, Uncalibrated, Slave}
use Rattle.ptp_profile.specs.declared.port_event.Timer.{Timer}
use Rattle.ptp_profile.specs.declared.port_event.Timer.TheVariants.{AnnounceReceipt, Qualification, AnnounceSend, SyncSend, DelayRequest}
use Rattle.ptp_profile.specs.declared.port_event.Fate.{Fate as The_fate}
use Rattle.ptp_profile.specs.declared.port_event.Fate.TheVariants.{Asleep, Dropped, Own, Far, Alternate, Crowded, Kept, Ignored, Waiting, Paired, Matched, Unmatched, Answered}
use Rattle.ptp_profile.specs.declared.message.Reject.TheVariants.{Short, Version, Domain, Type_, Length, Nanos, TimeRange}
use Rattle.ptp_management.specs.declared.query.AskError.{AskError}
use Rattle.ptp_management.specs.declared.query.AskError.TheVariants.{Action as Ask_action, Unknown as Ask_unknown, Target as Ask_target}
use Rattle.ptp_profile.specs.declared.timing.Action.{Action}
use Rattle.ptp_profile.specs.declared.timing.Action.TheVariants.{Unlocked as Unlocked_action, Jump, Locked}
use Rattle.ptp_profile.specs.Port.PrintedNames.{state_name}
use Rattle.ptp_management.specs.ManagementQueries.{words_of}
use Rattle.bc_history.specs.declared.entry.Outcome.{Outcome}
use Rattle.bc_history.specs.declared.entry.Outcome.TheVariants.{Unlocked, Changed, Superseded, Spent}
use Rattle.bc_history.specs.declared.entry.Seen.{Seen}
use Rattle.bc_history.specs.Run.Transcript.{timer_name, fate_name, asked_name, reading_text, action_text, outcome_text}
use Rattle.transcript.specs.declared.names.TheConstants.{TIMERS, FATES, ASK_ERRORS, STATES}
use Rattle.transcript.specs.TypedLines.{IsWithin, IsWithinSigned, IsTypedSeen, IsTypedAction, IsTypedOutcome}
use Rattle.transcript.specs.WordReaders.{number_of, named}
use Rattle.transcript.proofs.lemmas.ReadNumberLemmas.{is_plain, plain-decimal, number-decimal, plain-signed, wider}
use Rattle.transcript.proofs.lemmas.JoinedWordLemmas.{joined_before, are_plain, one_word, first_word, words_before}

-- ---- names

pub timer-reads : (timer : Timer) → named timer_name TIMERS (timer_name timer) ≡ Some timer
timer-reads AnnounceReceipt = refl
timer-reads Qualification = refl
timer-reads AnnounceSend = refl
timer-reads SyncSend = refl
timer-reads DelayRequest = refl

pub plain-timer : (timer : Timer) → is_plain (timer_name timer) ≡ true
plain-timer AnnounceReceipt = refl
plain-timer Qualification = refl
plain-timer AnnounceSend = refl
plain-timer SyncSend = refl
plain-timer DelayRequest = refl

pub fate-reads : (fate : The_fate) → named fate_name FATES (fate_name fate) ≡ Some fate
fate-reads Asleep = refl
fate-reads (Dropped Short) = refl
fate-reads (Dropped Version) = refl
fate-reads (Dropped Domain) = refl
fate-reads (Dropped Type_) = refl
fate-reads (Dropped Length) = refl
fate-reads (Dropped Nanos) = refl
fate-reads (Dropped TimeRange) = refl
fate-reads Own = refl
fate-reads Far = refl
fate-reads Alternate = refl
fate-reads Crowded = refl
fate-reads Kept = refl
fate-reads Ignored = refl
fate-reads Waiting = refl
fate-reads Paired = refl
fate-reads Matched = refl
fate-reads Unmatched = refl
fate-reads Answered = refl

pub plain-fate : (fate : The_fate) → is_plain (fate_name fate) ≡ true
plain-fate Asleep = refl
plain-fate (Dropped Short) = refl
plain-fate (Dropped Version) = refl
plain-fate (Dropped Domain) = refl
plain-fate (Dropped Type_) = refl
plain-fate (Dropped Length) = refl
plain-fate (Dropped Nanos) = refl
plain-fate (Dropped TimeRange) = refl
plain-fate Own = refl
plain-fate Far = refl
plain-fate Alternate = refl
plain-fate Crowded = refl
plain-fate Kept = refl
plain-fate Ignored = refl
plain-fate Waiting = refl
plain-fate Paired = refl
plain-fate Matched = refl
plain-fate Unmatched = refl
plain-fate Answered = refl

pub asked-reads : (error : AskError) → named asked_name ASK_ERRORS (asked_name error) ≡ Some error
asked-reads Ask_action = refl
asked-reads Ask_unknown = refl
asked-reads Ask_target = refl

pub plain-asked : (error : AskError) → is_plain (asked_name error) ≡ true
plain-asked Ask_action = refl
plain-asked Ask_unknown = refl
plain-asked Ask_target = refl

pub state-reads : (state : PortState) → named state_name STATES (state_name state) ≡ Some state
state-reads Initializing = refl
state-reads Faulty = refl
state-reads Disabled = refl
state-reads Listening = refl
state-reads PreMaster = refl
state-reads Master = refl
state-reads Passive = refl
state-reads Uncalibrated = refl
state-reads Slave = refl

pub plain-state : (state : PortState) → is_plain (state_name state) ≡ true
plain-state Initializing = refl
plain-state Faulty = refl
plain-state Disabled = refl
plain-state Listening = refl
plain-state PreMaster = refl
plain-state Master = refl
plain-state Passive = refl
plain-state Uncalibrated = refl
plain-state Slave = refl

-- ---- numbers of each type

pub reads8 : (n : ℕ) → IsWithin 8 n → number_of 8 (decimal n) ≡ Some n
reads8 n within = number-decimal 8 n (omega arith) (omega (arith, within)) within

pub reads16 : (n : ℕ) → IsWithin 16 n → number_of 16 (decimal n) ≡ Some n
reads16 n within = number-decimal 16 n (omega arith) (omega (arith, within)) within

pub reads32 : (n : ℕ) → IsWithin 32 n → number_of 32 (decimal n) ≡ Some n
reads32 n within = number-decimal 32 n (omega arith) (omega (arith, within)) within

pub reads64 : (n : ℕ) → IsWithin 64 n → number_of 64 (decimal n) ≡ Some n
reads64 n within = number-decimal 64 n (omega arith) (omega (arith, within)) within

pub plain8 : (n : ℕ) → IsWithin 8 n → is_plain (decimal n) ≡ true
plain8 n within = plain-decimal n (omega (arith, within))

pub plain16 : (n : ℕ) → IsWithin 16 n → is_plain (decimal n) ≡ true
plain16 n within = plain-decimal n (omega (arith, within))

pub plain32 : (n : ℕ) → IsWithin 32 n → is_plain (decimal n) ≡ true
plain32 n within = plain-decimal n (omega (arith, within))

pub plain64 : (n : ℕ) → IsWithin 64 n → is_plain (decimal n) ≡ true
plain64 n within = plain-decimal n (omega (arith, within))

pub plain63 : (z : ℤ) → IsWithinSigned 63 z → is_plain (signed_decimal z) ≡ true
plain63 z within = plain-signed z (wider z within)

-- ---- parts of several words, before a space or at the end

-- words before a text go on behind it
pub before-append : (words : List (List ℕ)) (text rest : List ℕ) → joined_before words text ++ rest ≡ joined_before words (text ++ rest)
before-append [] text rest = refl
before-append (word ∷ words) text rest =
    append_assoc word (32 ∷ joined_before words text) rest ∙ ap (λ t. word ++ (32 ∷ t)) (before-append words text rest)

-- the words of a text that ends in one word
pub last_words : (words : List (List ℕ)) (word : List ℕ) → are_plain words ≡ true → is_plain word ≡ true → words_of (joined_before words word) ≡ words ++ (word ∷ [])
last_words words word plain one = words_before words word plain ∙ ap (λ ws. words ++ ws) (one_word word one)

-- the same with something behind it
pub inner_words : (words : List (List ℕ)) (word rest : List ℕ) → are_plain words ≡ true → is_plain word ≡ true
    → words_of (joined_before words word ++ (32 ∷ rest)) ≡ words ++ (word ∷ words_of rest)
inner_words words word rest plain one =
    ap words_of (before-append words word (32 ∷ rest)) ∙ words_before words (word ++ (32 ∷ rest)) plain ∙ ap (λ ws. words ++ ws) (first_word word rest one)

abbrev pub reading_words : Seen → List (List ℕ)
reading_words seen = decimal seen.number ∷ signed_decimal seen.value ∷ signed_decimal seen.freq ∷ []

reading_plain : (seen : Seen) → IsTypedSeen seen → are_plain (decimal seen.number ∷ signed_decimal seen.value ∷ []) ≡ true
reading_plain seen (n, v, f) = rw (plain32 seen.number n, plain63 seen.value v) refl

pub reading-before : (seen : Seen) (rest : List ℕ) → IsTypedSeen seen → words_of (reading_text seen ++ (32 ∷ rest)) ≡ reading_words seen ++ words_of rest
reading-before seen rest (n, v, f) = inner_words (decimal seen.number ∷ signed_decimal seen.value ∷ []) (signed_decimal seen.freq) rest (reading_plain seen (n, v, f)) (plain63 seen.freq f)

pub reading-last : (seen : Seen) → IsTypedSeen seen → words_of (reading_text seen) ≡ reading_words seen
reading-last seen (n, v, f) = last_words (decimal seen.number ∷ signed_decimal seen.value ∷ []) (signed_decimal seen.freq) (reading_plain seen (n, v, f)) (plain63 seen.freq f)

abbrev pub action_words : Action → List (List ℕ)
action_words Unlocked_action = codes "unlocked" ∷ []
action_words (Jump step freq) = codes "jump" ∷ signed_decimal step ∷ signed_decimal freq ∷ []
action_words (Locked freq) = codes "locked" ∷ signed_decimal freq ∷ []

pub action-before : (action : Action) (rest : List ℕ) → IsTypedAction action → words_of (action_text action ++ (32 ∷ rest)) ≡ action_words action ++ words_of rest
action-before Unlocked_action rest typed = first_word (codes "unlocked") rest refl
action-before (Jump step freq) rest (s, f) = inner_words (codes "jump" ∷ signed_decimal step ∷ []) (signed_decimal freq) rest (rw (plain63 step s) refl) (plain63 freq f)
action-before (Locked freq) rest typed = inner_words (codes "locked" ∷ []) (signed_decimal freq) rest refl (plain63 freq typed)

abbrev pub outcome_words : Outcome → List (List ℕ)
outcome_words Unlocked = codes "none" ∷ []
outcome_words (Changed number) = codes "changed" ∷ decimal number ∷ []
outcome_words (Superseded newer at) = codes "superseded" ∷ decimal newer ∷ decimal at ∷ []
outcome_words (Spent at) = codes "spent" ∷ decimal at ∷ []

pub outcome-last : (outcome : Outcome) → IsTypedOutcome outcome → words_of (outcome_text outcome) ≡ outcome_words outcome
outcome-last Unlocked typed = refl
outcome-last (Changed number) typed = last_words (codes "changed" ∷ []) (decimal number) refl (plain32 number typed)
outcome-last (Superseded newer at) (n, a) = last_words (codes "superseded" ∷ decimal newer ∷ []) (decimal at) (rw (plain32 newer n) refl) (plain32 at a)
outcome-last (Spent at) typed = last_words (codes "spent" ∷ []) (decimal at) refl (plain32 at typed)
