-- What the lines of the sections `[records]`, `[queries]` and `[schedule]` may say.
use Rattle.std.proofs.Common.{◌≡◌, ℕ, ◌≤◌, Bool, true, false, cond, ◌&&◌, List, [], ◌∷◌, ◌++◌, length, Option, Some, None, Result, Ok, Err, refl, arith, length-append}
use Rattle.std.specs.Prelude.{nat_lt, nat_le, ◌==◌, codes, option_map, option_and_then}
use Rattle.std.specs.List.{All, AllPairs, join_with_byte}
use Rattle.std.specs.Option.{IfSome}
use Rattle.std.proofs.lemmas.Bool.{and_parts, or_parts, not-false, ltb-false, ltb-true, leb-true, eqb-true, eqb-false}
use Rattle.std.proofs.lemmas.List.Elements.{All-head, All-tail, All-push, All-weaker}
use Rattle.std.proofs.lemmas.List.Quantifiers.{all_pairs_push}
use Rattle.std.proofs.lemmas.List.Sums.{fold-append}
use Rattle.hex.specs.Hex.{decode_of}
use Rattle.hex.specs.declared.error.FromHexError.{FromHexError}
use Rattle.text_io.specs.Numerals.{number_of}
use Rattle.ptp_base.specs.declared.port_conf.PortConf.{PortConf}
use Rattle.model_clock.specs.declared.state.ClockState.{ClockState}
use Rattle.bc_history.specs.declared.scenario.Record.{Record}
use Rattle.bc_history.specs.declared.scenario.Happening.{Happening}
use Rattle.bc_history.specs.declared.scenario.Happening.TheVariants.{Frame, Down, Up}
use Rattle.bc_history.specs.declared.scenario.Asked.{Asked}
use Rattle.bc_history.specs.declared.scenario.Turns.{Turns}
use Rattle.bc_history.specs.declared.scenario.Turner.{Turner}
use Rattle.bc_history.specs.declared.scenario.Turner.TheVariants.{Default, Port, Clock, Queries}
use Rattle.bc_history.specs.Scenario.SectionHeaders.{is_word}
use Rattle.bc_history.specs.Scenario.SectionLines.{is_port, is_follower, frame_of, happening_of, record_in, record_of, former_tick, is_early_record, frame_length, query_of, former_query, is_early_query, count_of, turns_by, turner_of, turns_of}
use Rattle.ptp_base.specs.declared.time.TheConstants.{TICK_MAX}
use Rattle.ptp_base.specs.declared.limits.TheConstants.{FRAME_MAX, QUERY_MAX}
use Rattle.bc_history.specs.Scenario.LineFaults.{is_lost, is_great_record, is_great_query}
use Rattle.bc_history.specs.Scenario.OptionTable.{IsFrom}
use Rattle.bc_history.specs.Scenario.ScenarioRules.{IsHappening, IsRecordOf, IsRecordBefore, IsQuery, IsQueryBefore, IsTurnerOf, AreTurnsOf}
use Rattle.bc_history.specs.Scenario.QueryTexts.{IsWord}
use Rattle.bc_history.proofs.lemmas.ListRuleLemmas.{last_of_push}
use Rattle.bc_history.proofs.lemmas.QueryTextLemmas.{joined_words}

-- ---- records

-- the records so far: also, none of a port is later than what counts as the port's former tick
pub record AreRecords (ports : ℕ) (records : List Record) : Type 0 where
  pub each : All (IsRecordOf ports) records
  pub order : AllPairs IsRecordBefore records
  pub latest : (port : ℕ) → All (λ (r : Record). r.port ≡ port → r.tick ≤ former_tick records port) records

abbrev HasOctets : Happening → Type 0
HasOctets (Frame octets) = 1 ≤ length octets
HasOctets Down = Unit {0}
HasOctets Up = Unit {0}

frame_filled : (word : List ℕ) (r : Result (List ℕ) FromHexError) → decode_of word ≡ r → IfSome (frame_of word) HasOctets
frame_filled word (Ok []) e = rw e tt
frame_filled word (Ok (octet ∷ octets)) e = rw e (omega arith)
frame_filled word (Err error) e = rw e tt

happening_filled : (down up : Bool) (frame : Option Happening) → IfSome frame HasOctets → IfSome (cond down (Some Down) (cond up (Some Up) frame)) HasOctets
happening_filled true up frame h = tt
happening_filled false true frame h = tt
happening_filled false false frame h = h

happening : (what : List ℕ) → IfSome (happening_of what) HasOctets
happening what = happening_filled (is_word what (codes "down")) (is_word what (codes "up")) (frame_of what) (frame_filled what (decode_of what) refl)

short : (w : Happening) → HasOctets w → frame_length w ≤ 1500 → IsHappening w
short (Frame octets) some few = (some, few)
short Down some few = tt
short Up some few = tt

port_there : (ports : List PortConf) (n : ℕ) → is_port ports n ≡ true → IsFrom 1 (length ports) n
port_there ports n e =
    let p : (nat_le 1 n ≡ true) × (nat_le n (length ports) ≡ true) = and_parts (nat_le 1 n) (nat_le n (length ports)) e in
    (leb-true 1 n p.0, leb-true n (length ports) p.1)

-- a record that is of a port that is there, and not early
abbrev pub IsNextRecord : List PortConf → List Record → Record → Type 0
IsNextRecord ports records r = IsRecordOf (length ports) r × (former_tick records r.port ≤ r.tick)

not_early : (there late : Bool) → (there && late) ≡ false → there ≡ true → late ≡ false
not_early true late e there = e
not_early false late e there = cc

found_record : (ports : List PortConf) (records : List Record) (tick port what : List ℕ) (t p : Option ℕ) (w : Option Happening) → number_of tick ≡ t → number_of port ≡ p → IfSome w HasOctets
    → is_early_record ports records (tick ∷ port ∷ what ∷ []) ≡ false → is_lost ports (record_in t p w) ≡ false → is_great_record (record_in t p w) ≡ false
    → IfSome (record_in t p w) (IsNextRecord ports records)
found_record ports records tick port what None p w et ep some early lost great = tt
found_record ports records tick port what (Some t) None w et ep some early lost great = tt
found_record ports records tick port what (Some t) (Some p) None et ep some early lost great = tt
found_record ports records tick port what (Some t) (Some p) (Some w) et ep some early lost great =
    let there : is_port ports p ≡ true = not-false (is_port ports p) lost in
    let late : (is_port ports p && nat_lt t (former_tick records p)) ≡ false = rw (et, ep) at early in
    let few : (nat_lt TICK_MAX t ≡ false) × (nat_lt FRAME_MAX (frame_length w) ≡ false) = or_parts (nat_lt TICK_MAX t) (nat_lt FRAME_MAX (frame_length w)) great in (
      record { port = port_there ports p there; tick = ltb-false TICK_MAX t few.0; what = short w some (ltb-false FRAME_MAX (frame_length w) few.1) },
      ltb-false t (former_tick records p) (not_early (is_port ports p) (nat_lt t (former_tick records p)) late there),
    )

pub next_record : (ports : List PortConf) (records : List Record) (words : List (List ℕ)) → is_early_record ports records words ≡ false → is_lost ports (record_of words) ≡ false → is_great_record (record_of words) ≡ false
    → IfSome (record_of words) (IsNextRecord ports records)
next_record ports records [] early lost great = tt
next_record ports records (a ∷ []) early lost great = tt
next_record ports records (a ∷ b ∷ []) early lost great = tt
next_record ports records (a ∷ b ∷ c ∷ []) early lost great = found_record ports records a b c (number_of a) (number_of b) (happening_of c) refl refl (happening c) early lost great
next_record ports records (a ∷ b ∷ c ∷ d ∷ rest) early lost great = tt

former_push : (records : List Record) (r : Record) (port : ℕ) → former_tick (records ++ r ∷ []) port ≡ cond (r.port == port) r.tick (former_tick records port)
former_push records r port = fold-append (λ former (q : Record). cond (q.port == port) q.tick former) 0 records (r ∷ [])

later_former : (there : Bool) (tick former new : ℕ) → new ≡ cond there tick former → (there ≡ true → former ≤ tick) → former ≤ new
later_former true tick former new e le = omega (arith, e, le refl)
later_former false tick former new e le = omega (arith, e)

own_former : (records : List Record) (r : Record) (port : ℕ) → r.port ≡ port → r.tick ≤ former_tick (records ++ r ∷ []) port
own_former records r port same = own (r.port == port) (former_push records r port) (λ e. eqb-false r.port port e same)
  where
    own : (there : Bool) → former_tick (records ++ r ∷ []) port ≡ cond there r.tick (former_tick records port) → (there ≡ false → ⊥) → r.tick ≤ former_tick (records ++ r ∷ []) port
    own true e not_other = omega (arith, e)
    own false e not_other = absurd (not_other refl)

pub more_records : (ports : ℕ) (records : List Record) (r : Record) → AreRecords ports records → IsRecordOf ports r → former_tick records r.port ≤ r.tick → AreRecords ports (records ++ r ∷ [])
more_records ports records r h one le = record {
  each = All-push (IsRecordOf ports) records r h.each one;
  order = all_pairs_push IsRecordBefore records r h.order (λ k d below same. let before = h.latest r.port k d below same in omega (arith, before, le));
  latest = λ port. All-push (λ (q : Record). q.port ≡ port → q.tick ≤ former_tick (records ++ r ∷ []) port) records r
      (λ k d below same. let before = h.latest port k d below same in
      let grown : former_tick records port ≤ former_tick (records ++ r ∷ []) port = later_former (r.port == port) r.tick (former_tick records port) (former_tick (records ++ r ∷ []) port) (former_push records r port) (λ e. let is : r.port ≡ port = eqb-true r.port port e in rw is at le) in
      omega (arith, before, grown))
      (own_former records r port);
}

pub more_ports : (ports more : ℕ) (records : List Record) → ports ≤ more → AreRecords ports records → AreRecords more records
more_ports ports more records le h = record {
  each = All-weaker (IsRecordOf ports) (IsRecordOf more) (λ r one. record { port = (one.port.0, omega (arith, one.port.1, le)); tick = one.tick; what = one.what }) records h.each;
  order = h.order;
  latest = h.latest;
}

-- ---- queries

pub record AreQueries (queries : List Asked) : Type 0 where
  pub each : All IsQuery queries
  pub order : AllPairs IsQueryBefore queries
  pub latest : All (λ (q : Asked). q.tick ≤ former_query queries) queries

abbrev pub IsNextQuery : List Asked → Asked → Type 0
IsNextQuery queries q = IsQuery q × (former_query queries ≤ q.tick)

join_filled : (word : List ℕ) (words : List (List ℕ)) → 1 ≤ length word → 1 ≤ length (join_with_byte 32 (word ∷ words))
join_filled word [] some = some
join_filled word (next ∷ words) some = omega (arith, some, length-append word (32 ∷ join_with_byte 32 (next ∷ words)))

found_query : (queries : List Asked) (tick word : List ℕ) (words : List (List ℕ)) (t : Option ℕ) → number_of tick ≡ t → All IsWord (word ∷ words) → is_early_query queries (tick ∷ word ∷ words) ≡ false
    → is_great_query (option_map (λ n. record { tick = n; text = join_with_byte 32 (word ∷ words) }) t) ≡ false
    → IfSome (option_map (λ n. record { tick = n; text = join_with_byte 32 (word ∷ words) }) t) (IsNextQuery queries)
found_query queries tick word words None e each early great = tt
found_query queries tick word words (Some t) e each early great =
    let late : nat_lt t (former_query queries) ≡ false = rw e at early in
    let few : (nat_lt TICK_MAX t ≡ false) × (nat_lt QUERY_MAX (length (join_with_byte 32 (word ∷ words))) ≡ false) = or_parts (nat_lt TICK_MAX t) (nat_lt QUERY_MAX (length (join_with_byte 32 (word ∷ words)))) great in
    (record { tick = ltb-false TICK_MAX t few.0; text = (join_filled word words (All-head IsWord word words each).length, ltb-false QUERY_MAX (length (join_with_byte 32 (word ∷ words))) few.1); words = joined_words word words each }, ltb-false t (former_query queries) late)

pub next_query : (queries : List Asked) (words : List (List ℕ)) → All IsWord words → is_early_query queries words ≡ false → is_great_query (query_of words) ≡ false → IfSome (query_of words) (IsNextQuery queries)
next_query queries [] each early great = tt
next_query queries (a ∷ []) each early great = tt
next_query queries (a ∷ b ∷ words) each early great = found_query queries a b words (number_of a) refl (All-tail IsWord a (b ∷ words) each) early great

former_query_push : (queries : List Asked) (q : Asked) → former_query (queries ++ q ∷ []) ≡ q.tick
former_query_push queries q = rw (last_of_push queries q) refl

pub more_queries : (queries : List Asked) (q : Asked) → AreQueries queries → IsQuery q → former_query queries ≤ q.tick → AreQueries (queries ++ q ∷ [])
more_queries queries q h one le =
    let new : former_query (queries ++ q ∷ []) ≡ q.tick = former_query_push queries q in
    record {
      each = All-push IsQuery queries q h.each one;
      order = all_pairs_push IsQueryBefore queries q h.order (λ k d below. let before = h.latest k d below in omega (arith, before, le));
      latest = All-push (λ (a : Asked). a.tick ≤ former_query (queries ++ q ∷ [])) queries q (λ k d below. let before = h.latest k d below in omega (arith, before, le, new)) (omega (arith, new));
    }

-- ---- turns

counted_by : (good : Bool) (k : ℕ) → (nat_le 1 k && nat_le k 1000000) ≡ good → IfSome (cond good (Some k) None) (IsFrom 1 1000000)
counted_by true k e =
    let p : (nat_le 1 k ≡ true) × (nat_le k 1000000 ≡ true) = and_parts (nat_le 1 k) (nat_le k 1000000) e in
    (leb-true 1 k p.0, leb-true k 1000000 p.1)
counted_by false k e = tt

counted : (n : Option ℕ) → IfSome (option_and_then (λ k. cond (nat_le 1 k && nat_le k 1000000) (Some k) None) n) (IsFrom 1 1000000)
counted None = tt
counted (Some k) = counted_by (nat_le 1 k && nat_le k 1000000) k refl

turns_made : (clocks ports : ℕ) (who : Turner) (k : Option ℕ) → IsTurnerOf clocks ports who → IfSome k (IsFrom 1 1000000) → IfSome (option_map (λ n. record { who = who; count = n }) k) (AreTurnsOf clocks ports)
turns_made clocks ports who None there few = tt
turns_made clocks ports who (Some k) there few = record { who = there; count = few }

turns_said : (clocks ports : ℕ) (who : Turner) (count : List ℕ) → IsTurnerOf clocks ports who → IfSome (turns_by who count) (AreTurnsOf clocks ports)
turns_said clocks ports who count there = turns_made clocks ports who (count_of count) there (counted (number_of count))

either : {T : Type 0} (P : T → Type 0) (b : Bool) (x y : Option T) → (b ≡ true → IfSome x P) → IfSome y P → IfSome (cond b x y) P
either P true x y one other = one refl
either P false x y one other = other

turner_there : (ports : List PortConf) (clocks : List ClockState) (name : List ℕ) (number : Option ℕ) → IfSome (option_and_then (λ n. cond (is_word name (codes "port") && is_port ports n) (Some (Port n)) (cond (is_word name (codes "clock") && is_follower clocks n) (Some (Clock n)) None)) number) (IsTurnerOf (length clocks) (length ports))
turner_there ports clocks name None = tt
turner_there ports clocks name (Some n) =
    either (IsTurnerOf (length clocks) (length ports)) (is_word name (codes "port") && is_port ports n) (Some (Port n)) (cond (is_word name (codes "clock") && is_follower clocks n) (Some (Clock n)) None)
    (λ e. port_there ports n (and_parts (is_word name (codes "port")) (is_port ports n) e).1)
    (either (IsTurnerOf (length clocks) (length ports)) (is_word name (codes "clock") && is_follower clocks n) (Some (Clock n)) None
    (λ e. let p : (nat_le 2 (length clocks) ≡ true) × (nat_lt n (length clocks) ≡ true) = and_parts (nat_le 2 (length clocks)) (nat_lt n (length clocks)) (and_parts (is_word name (codes "clock")) (is_follower clocks n) e).1 in
    (leb-true 2 (length clocks) p.0, ltb-true n (length clocks) p.1))
    tt)

placed : (clocks ports : ℕ) (who : Option Turner) (count : List ℕ) → IfSome who (IsTurnerOf clocks ports) → IfSome (option_and_then (λ w. turns_by w count) who) (AreTurnsOf clocks ports)
placed clocks ports None count there = tt
placed clocks ports (Some who) count there = turns_said clocks ports who count there

pub next_turns : (ports : List PortConf) (clocks : List ClockState) (words : List (List ℕ)) → IfSome (turns_of ports clocks words) (AreTurnsOf (length clocks) (length ports))
next_turns ports clocks [] = tt
next_turns ports clocks (a ∷ []) = tt
next_turns ports clocks (a ∷ b ∷ []) =
    either (AreTurnsOf (length clocks) (length ports)) (is_word a (codes "default")) (turns_by Default b) (cond (is_word a (codes "queries")) (turns_by Queries b) None)
    (λ e. turns_said (length clocks) (length ports) Default b tt)
    (either (AreTurnsOf (length clocks) (length ports)) (is_word a (codes "queries")) (turns_by Queries b) None (λ e. turns_said (length clocks) (length ports) Queries b tt) tt)
next_turns ports clocks (a ∷ b ∷ c ∷ []) = placed (length clocks) (length ports) (turner_of ports clocks a b) c (turner_there ports clocks a (number_of b))
next_turns ports clocks (a ∷ b ∷ c ∷ d ∷ rest) = tt

abbrev pub AreTurns : (clocks ports : ℕ) → List Turns → Type 0
AreTurns clocks ports turns = All (AreTurnsOf clocks ports) turns

turner_still : (clocks clocks' ports ports' : ℕ) (who : Turner) → clocks ≤ clocks' → ports ≤ ports' → IsTurnerOf clocks ports who → IsTurnerOf clocks' ports' who
turner_still clocks clocks' ports ports' Default c p there = tt
turner_still clocks clocks' ports ports' (Port n) c p there = (there.0, omega (arith, there.1, p))
turner_still clocks clocks' ports ports' (Clock n) c p there = (omega (arith, there.0, c), omega (arith, there.1, c))
turner_still clocks clocks' ports ports' Queries c p there = tt

pub turns_still : (clocks clocks' ports ports' : ℕ) (turns : List Turns) → clocks ≤ clocks' → ports ≤ ports' → All (AreTurnsOf clocks ports) turns → All (AreTurnsOf clocks' ports') turns
turns_still clocks clocks' ports ports' turns c p h = All-weaker (AreTurnsOf clocks ports) (AreTurnsOf clocks' ports') (λ t one. record { who = turner_still clocks clocks' ports ports' t.who c p one.who; count = one.count }) turns h
