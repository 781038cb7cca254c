-- A made text, from its options to its last record.
use Rattle.std.proofs.Common.{◌≡◌, ℕ, zero, suc, ℤ, pos, negsuc, ◌-ℤ◌, ◌+◌, ◌-◌, ◌%◌, ◌<◌, ◌≤◌, true, ◌&&◌, nat_le, List, [], ◌∷◌, ◌++◌, codes, length, fold, Some, refl, sym, ap, ◌∙◌, subst, arith, append_assoc, append-nil}
use Rattle.std.specs.Prelude.{int_le}
use Rattle.std.specs.List.{flat_map, range_with_len}
use Rattle.std.proofs.lemmas.Bool.{and_from, le-leb}
use Rattle.std.proofs.lemmas.Int.{ints}
use Rattle.std.proofs.lemmas.List.{length_push}
use Rattle.bc_history.specs.declared.section.Section.TheVariants.{Options as In_options, Records as In_records}
use Rattle.bc_history.specs.declared.option.Scope.TheVariants.{Global as The_whole, Clock as A_clock, Port as A_port}
use Rattle.bc_history.specs.declared.scenario.Record.{Record}
use Rattle.bc_history.specs.Scenario.SectionHeaders.{may_follow}
use Rattle.bc_history.specs.Scenario.SectionLines.{is_port, former_tick}
use Rattle.bc_history.specs.Scenario.Draft.{Draft, empty_draft}
use Rattle.bc_history.specs.Scenario.LineFaults.{Stands}
use Rattle.bc_gen.specs.MadeNumbers.{drawn, drift_from, made_drift, made_delay}
use Rattle.bc_gen.specs.MadeRecords.{beginning, made_records}
use Rattle.bc_gen.specs.MadeScenario.{heard_records, made_clock, made_options, made_scenario}
use Rattle.bc_gen.specs.MadeText.{clock_text, clock_texts, global_text, made_text, master_text, master_texts, port_header, port_headers}
use Rattle.bc_gen.proofs.lemmas.HeardRecordLemmas.{master_heard, master_climbs}
use Rattle.bc_gen.proofs.lemmas.NumeralWordLemmas.{IsNear}
use Rattle.bc_gen.proofs.lemmas.RecordTakenLemmas.{former_kept, records_taken, with_records}
use Rattle.bc_gen.proofs.lemmas.SectionTakenLemmas.{clock_taken, port_taken, records_begun, with_clock, with_port}
use Rattle.bc_gen.proofs.lemmas.TakenTextLemmas.{IsTaken, nothing_taken, taken_on, taken_stands}

-- ---- the options

-- what the options of the whole say
abbrev global_draft : Draft
global_draft = record empty_draft { section = Some (In_options The_whole); named = 10 ∷ 17 ∷ []; options = made_options }

global_taken : IsTaken empty_draft global_text global_draft
global_taken = record {
  lines = codes "[global]" ∷ codes "boundary_clock_jbod 1" ∷ codes "duration 640" ∷ [];
  spelled = refl;
  shown = refl;
  lead = (refl, (refl, (refl, refl)));
}

-- ---- the clocks

drift_within : (d : ℕ) → (int_le (negsuc 9999999) (drift_from d) && int_le (drift_from d) (pos 10000000)) ≡ true
drift_within d = grind (arith, ints)

near_from : (m : ℕ) (z : ℤ) → m < 20001 → z ≡ pos m -ℤ pos 10000 → IsNear z
near_from m (pos n) small is = omega (arith, ints, is)
near_from m (negsuc n) small is = omega (arith, ints, is)

pub drift_near : (d : ℕ) → IsNear (drift_from d)
drift_near d = near_from (d % 20001) (drift_from d) (omega arith) refl

-- a draft with clock c of scenario n more
abbrev next_clock : ℕ → Draft → ℕ → Draft
next_clock n d c = with_clock d (made_clock n c)

clocks_taken : (n a k : ℕ) (d : Draft) → may_follow d.section (In_options A_clock) ≡ true → length d.clocks ≡ a → a + k ≤ 16
    → IsTaken d (flat_map (clock_text n) (range_with_len a k)) (fold (next_clock n) d (range_with_len a k))
clocks_taken n a zero d follows count few = nothing_taken d d refl
clocks_taken n a (suc k) d follows count few =
    let next = next_clock n d a in
    let more : length next.clocks ≡ a + 1 = omega (arith, count, length_push d.clocks (made_clock n a)) in
    taken_on d next (fold (next_clock n) next (range_with_len (a + 1) k)) (clock_text n a) (flat_map (clock_text n) (range_with_len (a + 1) k))
    (clock_taken d a (made_drift n a) follows count (omega arith) (drift_near (drawn n (a + 1))) (drift_within (drawn n (a + 1))))
    (clocks_taken n (a + 1) k next refl more (omega arith))

-- ---- the ports

-- a draft with port p more
abbrev next_port : Draft → ℕ → Draft
next_port d p = with_port d (record d.defaults { clock = (p - 1) % 16 })

ports_taken : (a k : ℕ) (d : Draft) → may_follow d.section (In_options A_port) ≡ true → length d.ports + 1 ≡ a → a + k ≤ 33 → length d.clocks ≡ 16 → d.options.boundary_clock_jbod ≡ true
    → IsTaken d (flat_map port_header (range_with_len a k)) (fold next_port d (range_with_len a k))
ports_taken a zero d follows count few clocks jbod = nothing_taken d d refl
ports_taken a (suc k) d follows count few clocks jbod =
    let next = next_port d a in
    let more : length next.ports + 1 ≡ a + 1 = omega (arith, count, length_push d.ports (record d.defaults { clock = (a - 1) % 16 })) in
    taken_on d next (fold next_port next (range_with_len (a + 1) k)) (port_header a) (flat_map port_header (range_with_len (a + 1) k))
    (port_taken d a follows count (omega arith) clocks jbod)
    (ports_taken (a + 1) k next refl more (omega arith) clocks jbod)

-- ---- the masters

masters_taken : (n a k : ℕ) (d : Draft) → d.section ≡ Some In_records → length d.ports ≡ 32 → a + k ≤ 32 → ((p : ℕ) → a < p → former_tick d.records p ≡ 0)
    → IsTaken d (flat_map (master_text n) (range_with_len a k)) (with_records d (flat_map (heard_records n) (range_with_len a k)))
masters_taken n a zero d section count few silent = nothing_taken d (with_records d []) (ap (λ (rs : List Record). record d { records = rs }) (sym (append-nil d.records)))
masters_taken n a (suc k) d section count few silent =
    let next = with_records d (heard_records n a) in
    let rest = flat_map (heard_records n) (range_with_len (a + 1) k) in
    let there : is_port d.ports (a + 1) ≡ true = and_from (nat_le 1 (a + 1)) (nat_le (a + 1) (length d.ports)) (le-leb _ _ (omega arith)) (le-leb _ _ (omega (arith, count))) in
    let heard = master_heard a (made_delay n a) (omega arith) in
    let still : (p : ℕ) → a + 1 < p → former_tick next.records p ≡ 0 =
    λ p more. former_kept (made_records n a) d.records (a + 1) p heard (λ (e : a + 1 ≡ p). omega arith) ∙ silent p (omega arith) in
    let first = records_taken (made_records n a) d (a + 1) (beginning a + 0) section there (omega arith) (omega (arith, silent (a + 1) (omega arith))) (master_climbs a (made_delay n a)) heard in
    let whole = taken_on d next (with_records next rest) (master_text n a) (flat_map (master_text n) (range_with_len (a + 1) k)) first (masters_taken n (a + 1) k next section count (omega arith) still) in
    subst (λ (rs : List Record). IsTaken d (flat_map (master_text n) (range_with_len a (suc k))) (record d { records = rs })) (append_assoc d.records (heard_records n a) rest) whole

-- ---- the whole

-- the drafts behind the clocks, the ports and the header of the records
abbrev clocks_draft : ℕ → Draft
clocks_draft n = fold (next_clock n) global_draft (range_with_len 0 16)

abbrev ports_draft : ℕ → Draft
ports_draft n = fold next_port (clocks_draft n) (range_with_len 1 32)

abbrev records_draft : ℕ → Draft
records_draft n = record (ports_draft n) { section = Some In_records; named = [] }

-- and behind all
abbrev made_draft : ℕ → Draft
made_draft n = with_records (records_draft n) (flat_map (heard_records n) (range_with_len 0 32))

text_taken : (n : ℕ) → IsTaken empty_draft (global_text ++ (clock_texts n ++ (port_headers ++ (codes "[records]\n" ++ master_texts n)))) (made_draft n)
text_taken n =
    taken_on empty_draft global_draft (made_draft n) global_text (clock_texts n ++ (port_headers ++ (codes "[records]\n" ++ master_texts n))) global_taken
    (taken_on global_draft (clocks_draft n) (made_draft n) (clock_texts n) (port_headers ++ (codes "[records]\n" ++ master_texts n)) (clocks_taken n 0 16 global_draft refl refl (omega arith))
    (taken_on (clocks_draft n) (ports_draft n) (made_draft n) port_headers (codes "[records]\n" ++ master_texts n) (ports_taken 1 32 (clocks_draft n) refl refl (omega arith) refl refl)
    (taken_on (ports_draft n) (records_draft n) (made_draft n) (codes "[records]\n") (master_texts n) (records_begun (ports_draft n) refl)
    (masters_taken n 0 32 (records_draft n) refl refl (omega arith) (λ p more. refl)))))

-- the text of each scenario stands for it
pub made_stands : (n : ℕ) → Stands (made_text n) (made_scenario n)
unfolding made_text made_scenario
made_stands n = taken_stands (made_text n) (made_draft n) (made_scenario n) (text_taken n) refl refl
