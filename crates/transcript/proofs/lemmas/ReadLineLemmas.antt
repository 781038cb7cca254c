-- Lines that are printed are found again by their words: lines of effects and of logs.
use Rattle.std.proofs.Common.{◌≡◌, ℕ, ℤ, pos, ◌*ℤ◌, ◌<◌, Bool, true, false, nat_eq, nat_lt, lit<, length, List, [], ◌∷◌, ◌++◌, codes, Option, Some, None, refl, sym, ap, ◌∙◌, arith}
use Rattle.std.proofs.lemmas.Int.{ints}
use Rattle.std.specs.Prelude.{option_map}
use Rattle.std.specs.Fmt.{decimal, signed_decimal}
use Rattle.std.specs.List.{starts_with, slice_index}
use Rattle.std.proofs.lemmas.Bool.{ltb-true, ltb-false}
use Rattle.std.proofs.lemmas.List.{get_or_past}
use Rattle.hex.specs.Hex.{encode_lower}
use Rattle.hex.proofs.HexLemmas.{decode_of-encode_lower}
use Rattle.ptp_base.specs.Floor.{floor_of}
use Rattle.ptp_base.specs.declared.identity.PortId.{PortId}
use Rattle.ptp_profile.specs.declared.port_event.Fate.{Fate as The_fate}
use Rattle.ptp_profile.specs.declared.timing.Measure.{Measure as The_measure}
use Rattle.ptp_profile.specs.declared.roles.RoleOrder.{RoleOrder}
use Rattle.ptp_profile.specs.declared.roles.Lead.{Lead}
use Rattle.ptp_profile.specs.declared.seats.LogEntry.TheVariants.{Order as An_order, Change as A_change}
use Rattle.ptp_profile.specs.Port.PrintedNames.{state_name, port_text}
use Rattle.ptp_management.specs.declared.query.AskError.{AskError}
use Rattle.ptp_management.specs.ManagementQueries.{words_of}
use Rattle.bc_history.specs.declared.entry.Moved.{Moved}
use Rattle.bc_history.specs.declared.entry.Sent.{Sent as A_frame}
use Rattle.bc_history.specs.declared.entry.Told.{Told as A_told}
use Rattle.bc_history.specs.Scenario.SectionHeaders.{is_word}
use Rattle.bc_history.specs.Run.Transcript.{fate_name, asked_name, lead_text}
use Rattle.transcript.specs.declared.line.Line.{Line}
use Rattle.transcript.specs.declared.line.Line.TheVariants.{Head, Fate, State, Parent, Order, Measure, Sent, Told, Asked, Answer, Printed, Clock, Logged, End}
use Rattle.transcript.specs.TranscriptLines.{line_text}
use Rattle.transcript.specs.TypedLines.{IsWithin, IsWithinSigned, AreOctets, IsTypedPort, IsTypedOrder, IsTypedMeasure, IsTypedLogEntry, IsTypedLead, IsTypedOptionLead}
use Rattle.transcript.specs.WordReaders.{all2, all3, all4, all5, decoded, word_at, number_of, octets_of, scaled_of}
use Rattle.transcript.specs.LineReaders.{line_in, line_of, moved_from, order_from, measure_from, sent_from, told_from, told_of, lead_from, lead_of}
use Rattle.transcript.proofs.lemmas.ReadNumberLemmas.{plain-signed, integer-signed, signed-decimal, fits_within, number_no_name}
use Rattle.transcript.proofs.lemmas.JoinedWordLemmas.{words_before, plain-hex}
use Rattle.transcript.proofs.lemmas.ReadPartLemmas.{fate-reads, plain-fate, asked-reads, plain-asked, state-reads, plain-state, reads8, reads16, reads32, reads64, plain8, plain16, plain32, plain64, plain63, last_words, inner_words}
use Rattle.transcript.proofs.lemmas.ReadPortLemmas.{port-reads, plain-port}

-- ---- fields that are all there

pub all2_some : {A B C : Type 0} (f : A → B → C) (oa : Option A) (ob : Option B) (a : A) (b : B) → oa ≡ Some a → ob ≡ Some b → all2 f oa ob ≡ Some (f a b)
all2_some f oa ob a b one two = rw (one, two) refl

pub all3_some : {A B C D : Type 0} (f : A → B → C → D) (oa : Option A) (ob : Option B) (oc : Option C) (a : A) (b : B) (c : C) → oa ≡ Some a → ob ≡ Some b → oc ≡ Some c → all3 f oa ob oc ≡ Some (f a b c)
all3_some f oa ob oc a b c one two three = rw (one, two, three) refl

pub all4_some : {A B C D E : Type 0} (f : A → B → C → D → E) (oa : Option A) (ob : Option B) (oc : Option C) (od : Option D) (a : A) (b : B) (c : C) (d : D)
    → oa ≡ Some a → ob ≡ Some b → oc ≡ Some c → od ≡ Some d → all4 f oa ob oc od ≡ Some (f a b c d)
all4_some f oa ob oc od a b c d one two three four = rw (one, two, three, four) refl

pub all5_some : {A B C D E F : Type 0} (f : A → B → C → D → E → F) (oa : Option A) (ob : Option B) (oc : Option C) (od : Option D) (oe : Option E) (a : A) (b : B) (c : C) (d : D) (e : E)
    → oa ≡ Some a → ob ≡ Some b → oc ≡ Some c → od ≡ Some d → oe ≡ Some e → all5 f oa ob oc od oe ≡ Some (f a b c d e)
all5_some f oa ob oc od oe a b c d e one two three four five = rw (one, two, three, four, five) refl

below_by : (octets : List ℕ) → AreOctets octets → (i : ℕ) (under : Bool) → nat_lt i (length octets) ≡ under → slice_index octets i < 256
below_by octets typed i true is = typed i 0 (ltb-true _ _ is)
below_by octets typed i false is = rw (get_or_past octets i 0 (ltb-false _ _ is)) (lit< tt)

-- octets are below 256, and so are the zeros behind them
octets_below : (octets : List ℕ) → AreOctets octets → (i : ℕ) → slice_index octets i < 256
octets_below octets typed i = below_by octets typed i (nat_lt i (length octets)) refl

-- octets are read from their hex digits
pub octets-read : (octets : List ℕ) → AreOctets octets → octets_of (encode_lower octets) ≡ Some octets
octets-read octets typed = ap decoded (decode_of-encode_lower octets (octets_below octets typed))

-- ---- lines

-- a line without a margin is read by its words
pub via_words : (line : List ℕ) (words : List (List ℕ)) (read : Option Line) → starts_with nat_eq line (codes "    ") ≡ false → words_of line ≡ words → line_in line words ≡ read → line_of line ≡ read
unfolding line_of
via_words line words read bare is reads = rw (bare, is) reads

pub head-line : line_of (line_text Head) ≡ Some Head
unfolding line_text
head-line = via_words (line_text Head) (codes "bc-transcript" ∷ codes "1" ∷ []) (Some Head) refl refl refl

pub fate-line : (fate : The_fate) → line_of (line_text (Fate fate)) ≡ Some (Fate fate)
unfolding line_text
fate-line fate =
    via_words (line_text (Fate fate)) ([] ∷ [] ∷ codes "fate" ∷ fate_name fate ∷ []) (Some (Fate fate)) refl
    (last_words ([] ∷ [] ∷ codes "fate" ∷ []) (fate_name fate) refl (plain-fate fate))
    (ap (option_map Fate) (fate-reads fate))

pub asked-line : (error : AskError) → line_of (line_text (Asked error)) ≡ Some (Asked error)
unfolding line_text
asked-line error =
    via_words (line_text (Asked error)) ([] ∷ [] ∷ codes "asked" ∷ asked_name error ∷ []) (Some (Asked error)) refl
    (last_words ([] ∷ [] ∷ codes "asked" ∷ []) (asked_name error) refl (plain-asked error))
    (ap (option_map Asked) (asked-reads error))

pub state-line : (m : Moved) → IsWithin 16 m.port → line_of (line_text (State m)) ≡ Some (State m)
unfolding line_text
state-line m typed =
    via_words (line_text (State m)) ([] ∷ [] ∷ codes "state" ∷ decimal m.port ∷ state_name m.old ∷ state_name m.new ∷ []) (Some (State m)) refl
    (last_words ([] ∷ [] ∷ codes "state" ∷ decimal m.port ∷ state_name m.old ∷ []) (state_name m.new) (rw (plain16 m.port typed, plain-state m.old) refl) (plain-state m.new))
    (all3_some moved_from _ _ _ m.port m.old m.new (reads16 m.port typed) (state-reads m.old) (state-reads m.new))

pub parent-line : (p : PortId) → IsTypedPort p → line_of (line_text (Parent p)) ≡ Some (Parent p)
unfolding line_text
parent-line p typed =
    via_words (line_text (Parent p)) ([] ∷ [] ∷ codes "parent" ∷ port_text p ∷ []) (Some (Parent p)) refl
    (last_words ([] ∷ [] ∷ codes "parent" ∷ []) (port_text p) refl (plain-port p typed))
    (ap (option_map Parent) (port-reads p typed))

pub order-line : (o : RoleOrder) → IsTypedOrder o → line_of (line_text (Order o)) ≡ Some (Order o)
unfolding line_text
order-line o (c, g, t) =
    via_words (line_text (Order o)) ([] ∷ [] ∷ codes "order" ∷ decimal o.clock ∷ decimal o.gener ∷ decimal o.ctrl ∷ []) (Some (Order o)) refl
    (last_words ([] ∷ [] ∷ codes "order" ∷ decimal o.clock ∷ decimal o.gener ∷ []) (decimal o.ctrl) (rw (plain8 o.clock c, plain32 o.gener g) refl) (plain8 o.ctrl t))
    (all3_some order_from _ _ _ o.clock o.gener o.ctrl (reads8 o.clock c) (reads32 o.gener g) (reads8 o.ctrl t))

pub measure-line : (m : The_measure) (gener clock : ℕ) → IsTypedMeasure m → IsWithin 32 gener → IsWithin 8 clock → line_of (line_text (Measure m gener clock)) ≡ Some (Measure m gener clock)
unfolding line_text
measure-line m gener clock (o, d, l) g c =
    via_words (line_text (Measure m gener clock)) ([] ∷ [] ∷ codes "measure" ∷ decimal gener ∷ decimal clock ∷ signed_decimal m.offset ∷ signed_decimal m.delay ∷ signed_decimal m.local ∷ []) (Some (Measure m gener clock)) refl
    (last_words ([] ∷ [] ∷ codes "measure" ∷ decimal gener ∷ decimal clock ∷ signed_decimal m.offset ∷ signed_decimal m.delay ∷ []) (signed_decimal m.local)
    (rw (plain32 gener g, plain8 clock c, plain-signed m.offset o, plain-signed m.delay d) refl) (plain63 m.local l))
    (all5_some measure_from _ _ _ _ _ gener clock m.offset m.delay m.local (reads32 gener g) (reads8 clock c) (integer-signed m.offset o) (integer-signed m.delay d) (signed-decimal m.local l))

pub sent-line : (sent : A_frame) → IsWithin 16 sent.port → AreOctets sent.octets → line_of (line_text (Sent sent)) ≡ Some (Sent sent)
unfolding line_text
sent-line sent typed octets =
    via_words (line_text (Sent sent)) ([] ∷ [] ∷ codes "send" ∷ decimal sent.port ∷ encode_lower sent.octets ∷ []) (Some (Sent sent)) refl
    (last_words ([] ∷ [] ∷ codes "send" ∷ decimal sent.port ∷ []) (encode_lower sent.octets) (rw (plain16 sent.port typed) refl) (plain-hex sent.octets))
    (all2_some sent_from _ _ sent.port sent.octets (reads16 sent.port typed) (octets-read sent.octets octets))

pub answer-line : (answer : List ℕ) → AreOctets answer → line_of (line_text (Answer answer)) ≡ Some (Answer answer)
unfolding line_text
answer-line answer typed =
    via_words (line_text (Answer answer)) ([] ∷ [] ∷ codes "answer" ∷ encode_lower answer ∷ []) (Some (Answer answer)) refl
    (last_words ([] ∷ [] ∷ codes "answer" ∷ []) (encode_lower answer) refl (plain-hex answer))
    (ap (option_map Answer) (octets-read answer typed))

told_none : (missed : ℕ) → IsWithin 32 missed → line_of (line_text (Told (record { lead = None; missed = missed }))) ≡ Some (Told (record { lead = None; missed = missed }))
unfolding line_text
told_none missed typed =
    via_words (line_text (Told (record { lead = None; missed = missed }))) ([] ∷ [] ∷ codes "told" ∷ codes "none" ∷ codes "missed" ∷ decimal missed ∷ []) (Some (Told (record { lead = None; missed = missed }))) refl
    (last_words ([] ∷ [] ∷ codes "told" ∷ codes "none" ∷ codes "missed" ∷ []) (decimal missed) refl (plain32 missed typed))
    (all2_some told_from _ _ None missed refl (reads32 missed typed))

told_choice : (words : List (List ℕ)) → is_word (word_at words 3) (codes "none") ≡ false → told_of words ≡ all2 told_from (option_map Some (lead_of words 3)) (number_of 32 (word_at words 6))
told_choice words other = rw other refl

told_some : (lead : Lead) (missed : ℕ) → IsTypedLead lead → IsWithin 32 missed → line_of (line_text (Told (record { lead = Some lead; missed = missed }))) ≡ Some (Told (record { lead = Some lead; missed = missed }))
unfolding line_text
told_some lead missed l typed =
    via_words (line_text (Told (record { lead = Some lead; missed = missed }))) ([] ∷ [] ∷ codes "told" ∷ decimal lead.gener ∷ decimal lead.source ∷ codes "missed" ∷ decimal missed ∷ []) (Some (Told (record { lead = Some lead; missed = missed }))) refl
    (words_before ([] ∷ [] ∷ codes "told" ∷ []) (lead_text (Some lead) ++ (32 ∷ (codes "missed" ++ (32 ∷ decimal missed)))) refl
    ∙ ap (λ ws. [] ∷ [] ∷ codes "told" ∷ ws)
    (inner_words (decimal lead.gener ∷ []) (decimal lead.source) (codes "missed" ++ (32 ∷ decimal missed)) (rw (plain32 lead.gener l.0) refl) (plain8 lead.source l.1)
    ∙ ap (λ ws. decimal lead.gener ∷ decimal lead.source ∷ ws) (last_words (codes "missed" ∷ []) (decimal missed) refl (plain32 missed typed))))
    (told_choice ([] ∷ [] ∷ codes "told" ∷ decimal lead.gener ∷ decimal lead.source ∷ codes "missed" ∷ decimal missed ∷ []) (number_no_name lead.gener l.0)
    ∙ all2_some told_from _ _ (Some lead) missed (ap (option_map Some) (all2_some lead_from _ _ lead.gener lead.source (reads32 lead.gener l.0) (reads8 lead.source l.1))) (reads32 missed typed))

told_by : (lead : Option Lead) (missed : ℕ) → IsTypedOptionLead lead → IsWithin 32 missed → line_of (line_text (Told (record { lead = lead; missed = missed }))) ≡ Some (Told (record { lead = lead; missed = missed }))
told_by None missed l typed = told_none missed typed
told_by (Some lead) missed l typed = told_some lead missed l typed

pub told-line : (told : A_told) → IsTypedOptionLead told.lead → IsWithin 32 told.missed → line_of (line_text (Told told)) ≡ Some (Told told)
told-line told lead missed = told_by told.lead told.missed lead missed

-- ---- a drift

floor_within : (drift : ℤ) → IsWithinSigned 63 drift → drift ≡ floor_of drift (pos 65536) *ℤ pos 65536 → IsWithinSigned 63 (floor_of drift (pos 65536))
floor_within drift within whole = (omega (arith, ints, within.0, whole), omega (arith, ints, within.1, whole))

scaled_again : (drift ppb : ℤ) → IsWithinSigned 63 drift → IsWithinSigned 63 ppb → drift ≡ ppb *ℤ pos 65536 → scaled_of (signed_decimal ppb) ≡ Some drift
scaled_again drift ppb within small whole =
    rw (signed-decimal ppb small, sym whole, fits_within 63 drift within) refl

pub clock-line : (clock : ℕ) (time drift : ℤ) → IsWithin 8 clock → IsWithinSigned 63 time → IsWithinSigned 63 drift → drift ≡ floor_of drift (pos 65536) *ℤ pos 65536
    → line_of (line_text (Clock clock time drift)) ≡ Some (Clock clock time drift)
unfolding line_text
clock-line clock time drift c t d whole =
    let ppb : IsWithinSigned 63 (floor_of drift (pos 65536)) = floor_within drift d whole in
    via_words (line_text (Clock clock time drift)) (codes "clock" ∷ decimal clock ∷ signed_decimal time ∷ signed_decimal (floor_of drift (pos 65536)) ∷ []) (Some (Clock clock time drift)) refl
    (last_words (codes "clock" ∷ decimal clock ∷ signed_decimal time ∷ []) (signed_decimal (floor_of drift (pos 65536))) (rw (plain8 clock c, plain63 time t) refl) (plain63 (floor_of drift (pos 65536)) ppb))
    (all3_some Clock _ _ _ clock time drift (reads8 clock c) (signed-decimal time t) (scaled_again drift (floor_of drift (pos 65536)) d ppb whole))

pub order_entry-line : (clock number gener ctrl : ℕ) → IsWithin 8 clock → IsWithin 64 number → IsWithin 32 gener → IsWithin 8 ctrl
    → line_of (line_text (Logged clock number (An_order gener ctrl))) ≡ Some (Logged clock number (An_order gener ctrl))
unfolding line_text
order_entry-line clock number gener ctrl c n g t =
    via_words (line_text (Logged clock number (An_order gener ctrl))) (codes "log" ∷ decimal clock ∷ decimal number ∷ codes "order" ∷ decimal gener ∷ decimal ctrl ∷ []) (Some (Logged clock number (An_order gener ctrl))) refl
    (last_words (codes "log" ∷ decimal clock ∷ decimal number ∷ codes "order" ∷ decimal gener ∷ []) (decimal ctrl) (rw (plain8 clock c, plain64 number n, plain32 gener g) refl) (plain8 ctrl t))
    (all3_some Logged _ _ _ clock number (An_order gener ctrl) (reads8 clock c) (reads64 number n) (all2_some An_order _ _ gener ctrl (reads32 gener g) (reads8 ctrl t)))

pub change-line : (clock number gener ctrl tick : ℕ) (step freq : ℤ) → IsWithin 8 clock → IsWithin 64 number → IsTypedLogEntry (A_change gener ctrl tick step freq)
    → line_of (line_text (Logged clock number (A_change gener ctrl tick step freq))) ≡ Some (Logged clock number (A_change gener ctrl tick step freq))
unfolding line_text
change-line clock number gener ctrl tick step freq c n (g, t, k, s, f) =
    via_words (line_text (Logged clock number (A_change gener ctrl tick step freq))) (codes "log" ∷ decimal clock ∷ decimal number ∷ codes "change" ∷ decimal gener ∷ decimal ctrl ∷ decimal tick ∷ signed_decimal step ∷ signed_decimal freq ∷ [])
    (Some (Logged clock number (A_change gener ctrl tick step freq))) refl
    (last_words (codes "log" ∷ decimal clock ∷ decimal number ∷ codes "change" ∷ decimal gener ∷ decimal ctrl ∷ decimal tick ∷ signed_decimal step ∷ []) (signed_decimal freq)
    (rw (plain8 clock c, plain64 number n, plain32 gener g, plain8 ctrl t, plain64 tick k, plain63 step s) refl) (plain63 freq f))
    (all3_some Logged _ _ _ clock number (A_change gener ctrl tick step freq) (reads8 clock c) (reads64 number n)
    (all5_some A_change _ _ _ _ _ gener ctrl tick step freq (reads32 gener g) (reads8 ctrl t) (reads64 tick k) (signed-decimal step s) (signed-decimal freq f)))

pub end-line : (number : ℕ) → IsWithin 64 number → line_of (line_text (End number)) ≡ Some (End number)
unfolding line_text
end-line number typed =
    via_words (line_text (End number)) (codes "end" ∷ decimal number ∷ []) (Some (End number)) refl
    (last_words (codes "end" ∷ []) (decimal number) refl (plain64 number typed))
    (ap (option_map End) (reads64 number typed))

pub printed-line : (text : List ℕ) → line_of (line_text (Printed text)) ≡ Some (Printed text)
unfolding line_text line_of
printed-line text = refl
