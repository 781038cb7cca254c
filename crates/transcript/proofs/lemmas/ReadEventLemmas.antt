-- Lines that begin an entry, and are printed, are found again by their words.
use Rattle.std.proofs.Common.{◌≡◌, ℕ, suc, ◌+◌, true, false, nat_eq, List, [], ◌∷◌, ◌++◌, codes, Option, Some, None, is_some, refl, ap, ◌∙◌, arith}
use Rattle.std.specs.Prelude.{option_map}
use Rattle.std.specs.Fmt.{decimal}
use Rattle.std.specs.List.{position_or_len}
use Rattle.std.proofs.lemmas.List.{append-nil}
use Rattle.hex.specs.Hex.{encode_lower}
use Rattle.ptp_profile.specs.declared.port_event.Timer.{Timer}
use Rattle.ptp_profile.specs.declared.timing.Action.{Action}
use Rattle.ptp_profile.specs.declared.timing.Action.TheVariants.{Unlocked as Unlocked_action, Jump, Locked}
use Rattle.ptp_profile.specs.declared.roles.Lead.{Lead}
use Rattle.ptp_management.specs.ManagementQueries.{words_of}
use Rattle.bc_history.specs.declared.entry.Input.{Input}
use Rattle.bc_history.specs.declared.entry.Input.TheVariants.{Frame, Timed, Down, Up, Report, Turn, Sampled, Query}
use Rattle.bc_history.specs.declared.entry.Outcome.{Outcome}
use Rattle.bc_history.specs.declared.entry.Outcome.TheVariants.{Unlocked, Changed, Superseded, Spent}
use Rattle.bc_history.specs.declared.entry.Seen.{Seen}
use Rattle.bc_history.specs.Phases.Inputs.{is_read}
use Rattle.bc_history.specs.Run.Transcript.{timer_name, reading_text, action_text, outcome_text, input_text, seen_text}
use Rattle.transcript.specs.declared.line.Line.TheVariants.{Event}
use Rattle.transcript.specs.TranscriptLines.{line_text}
use Rattle.transcript.specs.TypedLines.{IsWithin, IsTypedSeen, IsTypedReading, IsTypedAction, IsTypedOutcome, IsTypedInput}
use Rattle.transcript.specs.LineReaders.{seen_from, reading_of, lead_from, outcome_of, exchange_from, exchange_of, report_from, sampled_from, readings_from, is_space, behind, input_of, seen_of, event_from, event_with, line_of}
use Rattle.transcript.proofs.lemmas.ReadNumberLemmas.{is_plain, signed-decimal}
use Rattle.transcript.proofs.lemmas.JoinedWordLemmas.{joined_before, are_plain, first_word, words_before, plain-hex}
use Rattle.transcript.proofs.lemmas.ReadPartLemmas.{timer-reads, plain-timer, reads8, reads16, reads32, reads64, plain8, plain16, plain32, plain64, last_words, inner_words, reading_words, reading-before, reading-last, action_words, action-before, outcome_words, outcome-last}
use Rattle.transcript.proofs.lemmas.ReadLineLemmas.{all2_some, all3_some, all4_some, all5_some, octets-read, via_words}

-- ---- what the readers make of the words of parts

reading-reads : (seen : Seen) (rest : List (List ℕ)) → IsTypedSeen seen → reading_of (reading_words seen ++ rest) 0 ≡ Some seen
reading-reads seen rest (n, v, f) = all3_some seen_from _ _ _ seen.number seen.value seen.freq (reads32 seen.number n) (signed-decimal seen.value v) (signed-decimal seen.freq f)

outcome-reads : (outcome : Outcome) → IsTypedOutcome outcome → outcome_of (outcome_words outcome) 0 ≡ Some outcome
outcome-reads Unlocked typed = refl
outcome-reads (Changed number) typed = ap (option_map Changed) (reads32 number typed)
outcome-reads (Superseded newer at) (n, a) = all2_some Superseded _ _ newer at (reads32 newer n) (reads32 at a)
outcome-reads (Spent at) typed = ap (option_map Spent) (reads32 at typed)

exchange-reads : (action : Action) (outcome : Outcome) → IsTypedAction action → IsTypedOutcome outcome → exchange_of (action_words action ++ outcome_words outcome) 0 ≡ Some (exchange_from action outcome)
exchange-reads Unlocked_action outcome typed fine = all2_some exchange_from _ _ Unlocked_action outcome refl (outcome-reads outcome fine)
exchange-reads (Jump step freq) outcome (s, f) fine =
    all2_some exchange_from _ _ (Jump step freq) outcome (all2_some Jump _ _ step freq (signed-decimal step s) (signed-decimal freq f)) (outcome-reads outcome fine)
exchange-reads (Locked freq) outcome typed fine =
    all2_some exchange_from _ _ (Locked freq) outcome (ap (option_map Locked) (signed-decimal freq typed)) (outcome-reads outcome fine)

exchange-words : (action : Action) (outcome : Outcome) → IsTypedAction action → IsTypedOutcome outcome → words_of (action_text action ++ (32 ∷ outcome_text outcome)) ≡ action_words action ++ outcome_words outcome
exchange-words action outcome typed fine = action-before action (outcome_text outcome) typed ∙ ap (λ ws. action_words action ++ ws) (outcome-last outcome fine)

-- ---- inputs

-- the words of an input with its reading, and what the readers make of them behind three others
record IsFound (number moment line : List ℕ) (input : Input) (seen : Option Seen) (words : List (List ℕ)) : Type 0 where
  is : words_of (input_text input ++ seen_text seen) ≡ words
  found : input_of line (codes "event" ∷ number ∷ moment ∷ words) ≡ Some input
  read : seen_of input (codes "event" ∷ number ∷ moment ∷ words) ≡ Some seen

-- words, and then those of a reading
with_seen : (words : List (List ℕ)) (word : List ℕ) (seen : Seen) → are_plain words ≡ true → is_plain word ≡ true → IsTypedSeen seen
    → words_of (joined_before words word ++ seen_text (Some seen)) ≡ words ++ (word ∷ codes "seen" ∷ reading_words seen)
with_seen words word seen plain one typed =
    inner_words words word (codes "seen" ++ (32 ∷ reading_text seen)) plain one
    ∙ ap (λ ws. words ++ (word ∷ ws)) (first_word (codes "seen") (reading_text seen) refl ∙ ap (λ ws. codes "seen" ∷ ws) (reading-last seen typed))

-- words alone
without_seen : (words : List (List ℕ)) (word : List ℕ) → are_plain words ≡ true → is_plain word ≡ true → words_of (joined_before words word ++ []) ≡ words ++ (word ∷ [])
without_seen words word plain one = ap words_of (append-nil (joined_before words word)) ∙ last_words words word plain one

frame_found : (number moment line : List ℕ) (port tick : ℕ) (octets : List ℕ) (seen : Seen) → IsTypedInput (Frame port tick octets) → IsTypedSeen seen
    → IsFound number moment line (Frame port tick octets) (Some seen) (codes "port" ∷ decimal port ∷ codes "frame" ∷ decimal tick ∷ encode_lower octets ∷ codes "seen" ∷ reading_words seen)
frame_found number moment line port tick octets seen (p, t, o) typed = record {
  is = with_seen (codes "port" ∷ decimal port ∷ codes "frame" ∷ decimal tick ∷ []) (encode_lower octets) seen (rw (plain16 port p, plain64 tick t) refl) (plain-hex octets) typed;
  found = all3_some Frame _ _ _ port tick octets (reads16 port p) (reads64 tick t) (octets-read octets o);
  read = ap (option_map Some) (reading-reads seen [] typed);
}

timer_found : (number moment line : List ℕ) (port tick : ℕ) (timer : Timer) (seen : Seen) → IsTypedInput (Timed port tick timer) → IsTypedSeen seen
    → IsFound number moment line (Timed port tick timer) (Some seen) (codes "port" ∷ decimal port ∷ codes "timer" ∷ decimal tick ∷ timer_name timer ∷ codes "seen" ∷ reading_words seen)
timer_found number moment line port tick timer seen (p, t) typed = record {
  is = with_seen (codes "port" ∷ decimal port ∷ codes "timer" ∷ decimal tick ∷ []) (timer_name timer) seen (rw (plain16 port p, plain64 tick t) refl) (plain-timer timer) typed;
  found = all3_some Timed _ _ _ port tick timer (reads16 port p) (reads64 tick t) (timer-reads timer);
  read = ap (option_map Some) (reading-reads seen [] typed);
}

down_found : (number moment line : List ℕ) (port tick : ℕ) → IsTypedInput (Down port tick) → IsFound number moment line (Down port tick) None (codes "port" ∷ decimal port ∷ codes "down" ∷ decimal tick ∷ [])
down_found number moment line port tick (p, t) = record {
  is = without_seen (codes "port" ∷ decimal port ∷ codes "down" ∷ []) (decimal tick) (rw (plain16 port p) refl) (plain64 tick t);
  found = all2_some Down _ _ port tick (reads16 port p) (reads64 tick t);
  read = refl;
}

up_found : (number moment line : List ℕ) (port tick : ℕ) → IsTypedInput (Up port tick) → IsFound number moment line (Up port tick) None (codes "port" ∷ decimal port ∷ codes "up" ∷ decimal tick ∷ [])
up_found number moment line port tick (p, t) = record {
  is = without_seen (codes "port" ∷ decimal port ∷ codes "up" ∷ []) (decimal tick) (rw (plain16 port p) refl) (plain64 tick t);
  found = all2_some Up _ _ port tick (reads16 port p) (reads64 tick t);
  read = refl;
}

turn_found : (number moment line : List ℕ) (clock tick : ℕ) → IsTypedInput (Turn clock tick) → IsFound number moment line (Turn clock tick) None (codes "clock" ∷ decimal clock ∷ codes "turn" ∷ decimal tick ∷ [])
turn_found number moment line clock tick (c, t) = record {
  is = without_seen (codes "clock" ∷ decimal clock ∷ codes "turn" ∷ []) (decimal tick) (rw (plain8 clock c) refl) (plain64 tick t);
  found = all2_some Turn _ _ clock tick (reads8 clock c) (reads64 tick t);
  read = refl;
}

report_found : (number moment line : List ℕ) (port tick gener : ℕ) (action : Action) (outcome : Outcome) → IsTypedInput (Report port tick gener action outcome)
    → IsFound number moment line (Report port tick gener action outcome) None (codes "port" ∷ decimal port ∷ codes "report" ∷ decimal tick ∷ decimal gener ∷ (action_words action ++ outcome_words outcome))
report_found number moment line port tick gener action outcome (p, t, g, a, o) = record {
  is = ap words_of (append-nil (input_text (Report port tick gener action outcome)))
      ∙ words_before (codes "port" ∷ decimal port ∷ codes "report" ∷ decimal tick ∷ decimal gener ∷ []) (action_text action ++ (32 ∷ outcome_text outcome)) (rw (plain16 port p, plain64 tick t, plain32 gener g) refl)
      ∙ ap (λ ws. codes "port" ∷ decimal port ∷ codes "report" ∷ decimal tick ∷ decimal gener ∷ ws) (exchange-words action outcome a o);
  found = all4_some report_from _ _ _ _ port tick gener (exchange_from action outcome) (reads16 port p) (reads64 tick t) (reads32 gener g) (exchange-reads action outcome a o);
  read = refl;
}

sampled_found : (number moment line : List ℕ) (clock tick : ℕ) (lead : Lead) (theirs own : Seen) (action : Action) (outcome : Outcome) → IsTypedInput (Sampled clock tick lead theirs own action outcome)
    → IsFound number moment line (Sampled clock tick lead theirs own action outcome) None
    (codes "clock" ∷ decimal clock ∷ codes "sampled" ∷ decimal tick ∷ decimal lead.gener ∷ decimal lead.source ∷ codes "theirs" ∷ (reading_words theirs ++ (codes "own" ∷ (reading_words own ++ (action_words action ++ outcome_words outcome)))))
sampled_found number moment line clock tick lead theirs own action outcome (c, t, l, th, ow, a, o) = record {
  is = ap words_of (append-nil (input_text (Sampled clock tick lead theirs own action outcome)))
      ∙ words_before (codes "clock" ∷ decimal clock ∷ codes "sampled" ∷ decimal tick ∷ decimal lead.gener ∷ decimal lead.source ∷ codes "theirs" ∷ [])
      (reading_text theirs ++ (32 ∷ (codes "own" ++ (32 ∷ (reading_text own ++ (32 ∷ (action_text action ++ (32 ∷ outcome_text outcome)))))))) (rw (plain8 clock c, plain64 tick t, plain32 lead.gener l.0, plain8 lead.source l.1) refl)
      ∙ ap (λ ws. codes "clock" ∷ decimal clock ∷ codes "sampled" ∷ decimal tick ∷ decimal lead.gener ∷ decimal lead.source ∷ codes "theirs" ∷ ws)
      (reading-before theirs (codes "own" ++ (32 ∷ (reading_text own ++ (32 ∷ (action_text action ++ (32 ∷ outcome_text outcome)))))) th
      ∙ ap (λ ws. reading_words theirs ++ ws) (first_word (codes "own") (reading_text own ++ (32 ∷ (action_text action ++ (32 ∷ outcome_text outcome)))) refl
      ∙ ap (λ ws. codes "own" ∷ ws) (reading-before own (action_text action ++ (32 ∷ outcome_text outcome)) ow ∙ ap (λ ws. reading_words own ++ ws) (exchange-words action outcome a o))));
  found = all5_some sampled_from _ _ _ _ _ clock tick lead (readings_from theirs own) (exchange_from action outcome) (reads8 clock c) (reads64 tick t)
      (all2_some lead_from _ _ lead.gener lead.source (reads32 lead.gener l.0) (reads8 lead.source l.1))
      (all2_some readings_from _ _ theirs own (reading-reads theirs (codes "own" ∷ (reading_words own ++ (action_words action ++ outcome_words outcome))) th) (reading-reads own (action_words action ++ outcome_words outcome) ow))
      (exchange-reads action outcome a o);
  read = refl;
}

-- what stands behind a first word
behind_word : (word rest : List ℕ) → is_plain word ≡ true → behind (word ++ (32 ∷ rest)) ≡ rest
behind_word [] rest plain = refl
behind_word (c ∷ cs) rest plain =
    let no : nat_eq c 32 ≡ false = grind arith in
    let more : behind (cs ++ (32 ∷ rest)) ≡ rest = behind_word cs rest (grind arith) in
    let ahead : 1 + position_or_len is_space (cs ++ (32 ∷ rest)) + 1 ≡ suc (position_or_len is_space (cs ++ (32 ∷ rest)) + 1) = omega arith in
    rw (no, ahead) more

-- the text of a query is what stands behind five words
query_left : (number moment line tick text : List ℕ) → is_plain number ≡ true → is_plain moment ≡ true → is_plain tick ≡ true
    → line ≡ joined_before (codes "event" ∷ number ∷ moment ∷ codes "query" ∷ tick ∷ []) text → behind (behind (behind (behind (behind line)))) ≡ text
query_left number moment line tick text n m t is =
    let one = ap behind is ∙ behind_word (codes "event") _ refl in
    let two = ap behind one ∙ behind_word number _ n in
    let three = ap behind two ∙ behind_word moment _ m in
    let four = ap behind three ∙ behind_word (codes "query") _ refl in
    ap behind four ∙ behind_word tick text t

query_found : (number moment line : List ℕ) (tick : ℕ) (text : List ℕ) → is_plain number ≡ true → is_plain moment ≡ true
    → line ≡ joined_before (codes "event" ∷ number ∷ moment ∷ []) (input_text (Query tick text) ++ []) → IsTypedInput (Query tick text)
    → IsFound number moment line (Query tick text) None (codes "query" ∷ decimal tick ∷ words_of text)
query_found number moment line tick text n m is (t, o) =
    let whole : input_text (Query tick text) ++ [] ≡ joined_before (codes "query" ∷ decimal tick ∷ []) text = append-nil (input_text (Query tick text)) in
    let left : behind (behind (behind (behind (behind line)))) ≡ text = query_left number moment line (decimal tick) text n m (plain64 tick t) (is ∙ ap (λ r. joined_before (codes "event" ∷ number ∷ moment ∷ []) r) whole) in
    record {
      is = ap words_of whole ∙ words_before (codes "query" ∷ decimal tick ∷ []) text (rw (plain64 tick t) refl);
      found = ap (option_map (λ (tick : ℕ). Query tick (behind (behind (behind (behind (behind line))))))) (reads64 tick t) ∙ ap (λ l. Some (Query tick l)) left;
      read = refl;
    }

-- ---- lines

-- an input that is found makes its line
found_line : (number moment : ℕ) (input : Input) (seen : Option Seen) (words : List (List ℕ)) → IsWithin 64 number → IsWithin 64 moment
    → IsFound (decimal number) (decimal moment) (line_text (Event number moment input seen)) input seen words
    → line_of (line_text (Event number moment input seen)) ≡ Some (Event number moment input seen)
unfolding line_text
found_line number moment input seen words n m found =
    via_words (line_text (Event number moment input seen)) (codes "event" ∷ decimal number ∷ decimal moment ∷ words) (Some (Event number moment input seen)) refl
    (words_before (codes "event" ∷ decimal number ∷ decimal moment ∷ []) (input_text input ++ seen_text seen) (rw (plain64 number n, plain64 moment m) refl)
    ∙ ap (λ ws. codes "event" ∷ decimal number ∷ decimal moment ∷ ws) found.is)
    (ap (λ i. event_with i (codes "event" ∷ decimal number ∷ decimal moment ∷ words)) found.found
    ∙ all3_some (λ n m s. event_from n m input s) _ _ _ number moment seen (reads64 number n) (reads64 moment m) found.read)

pub event-line : (number moment : ℕ) (input : Input) (seen : Option Seen) → IsWithin 64 number → IsWithin 64 moment → IsTypedInput input → IsTypedReading seen → is_some seen ≡ is_read input
    → line_of (line_text (Event number moment input seen)) ≡ Some (Event number moment input seen)
unfolding line_text
event-line number moment (Frame port tick octets) (Some seen) n m typed s right = found_line number moment _ _ _ n m (frame_found _ _ _ port tick octets seen typed s)
event-line number moment (Frame port tick octets) None n m typed s right = cc
event-line number moment (Timed port tick timer) (Some seen) n m typed s right = found_line number moment _ _ _ n m (timer_found _ _ _ port tick timer seen typed s)
event-line number moment (Timed port tick timer) None n m typed s right = cc
event-line number moment (Down port tick) None n m typed s right = found_line number moment _ _ _ n m (down_found _ _ _ port tick typed)
event-line number moment (Down port tick) (Some seen) n m typed s right = cc
event-line number moment (Up port tick) None n m typed s right = found_line number moment _ _ _ n m (up_found _ _ _ port tick typed)
event-line number moment (Up port tick) (Some seen) n m typed s right = cc
event-line number moment (Report port tick gener action outcome) None n m typed s right = found_line number moment _ _ _ n m (report_found _ _ _ port tick gener action outcome typed)
event-line number moment (Report port tick gener action outcome) (Some seen) n m typed s right = cc
event-line number moment (Turn clock tick) None n m typed s right = found_line number moment _ _ _ n m (turn_found _ _ _ clock tick typed)
event-line number moment (Turn clock tick) (Some seen) n m typed s right = cc
event-line number moment (Sampled clock tick lead theirs own action outcome) None n m typed s right = found_line number moment _ _ _ n m (sampled_found _ _ _ clock tick lead theirs own action outcome typed)
event-line number moment (Sampled clock tick lead theirs own action outcome) (Some seen) n m typed s right = cc
event-line number moment (Query tick text) None n m typed s right = found_line number moment _ _ _ n m (query_found _ _ _ tick text (plain64 number n) (plain64 moment m) refl typed)
event-line number moment (Query tick text) (Some seen) n m typed s right = cc
