-- The entry of a query, and the hub after it.
use Rattle.std.proofs.Common.{◌≡◌, ◌∙◌, ℕ, ◌+◌, ◌%◌, max, List, [], ◌∷◌, ◌++◌, map, arith, refl, sym, ap, subst, Option, None}
use Rattle.ptp_profile.specs.declared.seats.LogEntry.{LogEntry}
use Rattle.ptp_management.specs.declared.query.AskError.{AskError}
use Rattle.ptp_management.specs.ManagementQueries.{AnsweringPort, AnsweringSets, asked_by}
use Rattle.bc_history.specs.declared.entry.Entry.{Entry}
use Rattle.bc_history.specs.declared.entry.Input.TheVariants.{Query}
use Rattle.bc_history.specs.declared.scenario.Options.{Options}
use Rattle.bc_history.specs.declared.scenario.Scenario.{Scenario}
use Rattle.bc_history.specs.Phases.EntryEffects.{entry_after}
use Rattle.bc_history.specs.Phases.HubPort.{HubPort}
use Rattle.bc_history.specs.Phases.OpeningState.{local_announcement}
use Rattle.bc_history.specs.Phases.QueryAnswers.{answering_port as answering_port_of, answering_sets, answers_of, counted_by, refusal_of}
use Rattle.bc_history.specs.Phases.State.{Core, State}
use Rattle.bc_history.specs.Phases.Step.{at_moment, state_of}
use Rattle.ptp_profile.specs.Best.MasterData.{Master}
use Rattle.ptp_profile.specs.declared.timing.Measure.{Measure}
use Rattle.bc_ports.specs.declared.boundary_clock.BoundaryClock.{BoundaryClock}
use Rattle.bc_ports.specs.Representation.{ClockRepresents, IsSound, port_set}
use Rattle.data_sets.specs.declared.data_sets.DataSets.{DataSets}
use Rattle.data_sets.specs.declared.port_set.PortSet.{PortSet}
use Rattle.data_sets.specs.DataSetsView.{master_in}
use Rattle.pmc_query.specs.AnsweredSets.{answering, answering_port}
use Rattle.hub_core.specs.EffectParts.{query_entry}
use Rattle.ptp_profile.specs.Best.StateDecision.{bests_of}
use Rattle.ptp_profile.specs.declared.port_best.PortBest.{PortBest}
use Rattle.hub_core.proofs.lemmas.DecisionHistoryLemmas.{bests-stay}
use Rattle.hub_core.specs.HubParts.{PartsRepresent, PartsYield}
use Rattle.hub_core.specs.HubView.{IsHub, history_of}
use Rattle.hub_core.specs.declared.hub.Hub.TheInside.{Inside}
use Rattle.hub_core.specs.declared.reply.Reply.{Reply}
use Rattle.hub_core.proofs.lemmas.HubLemmas.{HasTakenOne}
use Rattle.hub_core.specs.declared.hub_parts.HubParts.{HubParts}
use Rattle.hub_core.proofs.lemmas.NoticeLemmas.{unturned}
use Rattle.hub_core.proofs.lemmas.PortlessEntryLemmas.{machine-followed, portless-entry}

-- ---- the data sets that reply

ports-answer : (hs : List HubPort) → map answering_port (map port_set hs) ≡ map answering_port_of hs
ports-answer [] = refl
ports-answer (h ∷ hs) = ap (λ (ps : List AnsweringPort). answering_port_of h ∷ ps) (ports-answer hs)

same-sets : (d : DataSets) (o : Options) (h : State) → d.own ≡ local_announcement o → d.domain ≡ o.domain_number → master_in d ≡ h.core.master
    → d.offset ≡ (answering_sets o h).offset → d.delay ≡ (answering_sets o h).delay → map answering_port d.ports ≡ (answering_sets o h).ports → answering d ≡ answering_sets o h
same-sets d o h own domain master offset delay ports =
    let S : AnsweringSets = answering_sets o h in
    let with : Master → AnsweringSets = λ m. let x : AnsweringSets = record { own = d.own; domain = d.domain; master = m; offset = d.offset; delay = d.delay; ports = map answering_port d.ports } in x in
    ap with master ∙ rw (own, domain, offset, delay, ports) refl

-- those of the machine are those of the history
pub sets-answer : (o : Options) (n : BoundaryClock) (h : State) → ClockRepresents o n h.core h.measured → answering n.sets ≡ answering_sets o h
sets-answer o n h is =
    same-sets n.sets o h is.core.clock.own is.core.clock.domain is.core.master is.measure.offset is.measure.delay
    (ap (λ (ps : List PortSet). map answering_port ps) is.port_sets ∙ ports-answer h.core.ports)

-- ---- the entry

-- what a query was replied, after a history
pub record IsReplied (s : Scenario) (entries : List Entry) (tick : ℕ) (text : List ℕ) (at : ℕ) (refusal : Option AskError) (made : List (List ℕ)) : Type 0 where
  pub moment : at ≡ max (state_of s entries).core.moment tick
  pub asked : refusal ≡ refusal_of (asked_by text)
  pub answers : made ≡ answers_of (answering_sets s.options (state_of s entries)) (state_of s entries).requests (asked_by text)

same-query : (tick : ℕ) (text : List ℕ) (moment moment' : ℕ) (asked asked' : Option AskError) (answers answers' : List (List ℕ)) → moment ≡ moment' → asked ≡ asked' → answers ≡ answers'
    → query_entry (Query tick text) moment asked answers ≡ query_entry (Query tick text) moment' asked' answers'
same-query tick text moment moment' asked asked' answers answers' a b d = rw (a, b, d) refl

pub query-entry : (s : Scenario) (entries : List Entry) (tick : ℕ) (text : List ℕ) (moment : ℕ) (asked : Option AskError) (answers : List (List ℕ)) → IsReplied s entries tick text moment asked answers
    → query_entry (Query tick text) moment asked answers ≡ entry_after s entries (Query tick text) None
query-entry s entries tick text moment asked answers is =
    same-query tick text _ _ _ _ _ _ is.moment is.asked is.answers ∙ sym (portless-entry s entries (Query tick text) refl)

-- ---- the machine after it

abbrev pub with_core : HubParts → BoundaryClock → HubParts
with_core m core = record { port_clocks = m.port_clocks; core = core; roles = m.roles; states = m.states; notices = m.notices; drafts = m.drafts }

pub query-yields : (s : Scenario) (entries : List Entry) (logs : List (List LogEntry)) (tick : ℕ) (text : List ℕ) (m : HubParts) (core : BoundaryClock) (moment : ℕ) (asked : Option AskError) (answers : List (List ℕ))
    → PartsRepresent s m (state_of s entries) → IsReplied s entries tick text moment asked answers → IsSound core → core.ports.len ≡ m.core.ports.len
    → ClockRepresents s.options core (at_moment tick (state_of s entries).core) (state_of s entries).measured
    → PartsYield s entries logs (Query tick text) (with_core m core) (query_entry (Query tick text) moment asked answers)
query-yields s entries logs tick text m core moment asked answers was is sound ports clock =
    let h = state_of s entries in
    let at : Core = at_moment tick h.core in
    let entry_is = query-entry s entries tick text moment asked answers is in
    let notices = unturned s.options at h.roles (Query tick text) m.notices h.followers (λ k t e. cc) was.notices in
    record {
      entry_is = entry_is;
      machine = subst (λ (x : Entry). PartsRepresent s (with_core m core) (state_of s (x ∷ entries))) (sym entry_is)
          (machine-followed s entries (Query tick text) m core m.notices refl was sound ports clock notices);
    }

-- ---- the hub after it

-- what a hub replied to a query, and what it is after it
pub record HasReplied (i j : Inside) (tick : ℕ) (text : List ℕ) (reply : Reply) (at : ℕ) : Type 0 where
  pub scenario : j.scenario.value ≡ i.scenario.value
  pub windows : j.windows ≡ i.windows
  pub machine : j.machine ≡ with_core i.machine j.machine.core
  pub moment : at ≡ max i.machine.core.moment tick
  pub refused : reply.asked ≡ refusal_of (asked_by text)
  pub answered : (requests : ℕ) → i.sequence ≡ requests % 65536 → reply.answers ≡ answers_of (answering i.machine.core.sets) requests (asked_by text)
  pub next : (query : List ℕ) (requests : ℕ) → reply.asked ≡ refusal_of (asked_by query) → i.sequence ≡ requests % 65536 → j.sequence ≡ counted_by (asked_by query) requests % 65536
  pub counted : j.asked ≡ i.asked + 1
  pub ports : j.machine.core.ports.len ≡ i.machine.core.ports.len
  pub sound : IsSound j.machine.core
  pub clock : (o : Options) (c : Core) (measured : Option Measure) → ClockRepresents o i.machine.core c measured → ClockRepresents o j.machine.core (at_moment tick c) measured
  pub bests : j.machine.core.decider.bests ≡ i.machine.core.decider.bests
  pub entries : j.entries ≡ i.entries ++ query_entry (Query tick text) at reply.asked reply.answers ∷ []

pub query-taken : (i j : Inside) (tick : ℕ) (text : List ℕ) (reply : Reply) (at : ℕ) → IsHub i → HasReplied i j tick text reply at
    → HasTakenOne i j (Query tick text) i.machine.roles.seats.logs (query_entry (Query tick text) at reply.asked reply.answers)
query-taken i j tick text reply at was is =
    let s = i.scenario.value in
    let before = history_of i in
    let h = state_of s before in
    let entry = query_entry (Query tick text) at reply.asked reply.answers in
    let sets = sets-answer s.options i.machine.core h was.machine.core in
    let replied : IsReplied s before tick text at reply.asked reply.answers = record {
      moment = is.moment ∙ ap (λ (n : ℕ). max n tick) was.machine.core.core.moment;
      asked = is.refused;
      answers = is.answered h.requests was.sequence ∙ ap (λ (x : AnsweringSets). answers_of x h.requests (asked_by text)) sets;
    } in
    let yields = query-yields s before i.machine.roles.seats.logs tick text i.machine j.machine.core at reply.asked reply.answers was.machine replied is.sound is.ports
    (is.clock s.options h.core h.measured was.machine.core) in
    let gener = ap (λ (m : HubParts). m.roles.generation.gener) is.machine in
    record {
      scenario = is.scenario;
      windows = is.windows;
      served = subst (λ (m : HubParts). PartsYield s before i.machine.roles.seats.logs (Query tick text) m entry) (sym is.machine) yields;
      entries = is.entries;
      asked = is.counted;
      sequence = λ requests same. is.next text requests is.refused same;
      gener = omega (arith, gener);
      logs_before = refl;
      logs_after = ap (λ (m : HubParts). m.roles.seats.logs) is.machine;
      decided = λ before_it. ap (λ (bests : List PortBest). bests_of bests) is.bests ∙ (before_it ∙ sym (bests-stay s before entry refl));
    }
