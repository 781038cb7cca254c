use Rattle.std.proofs.Common.{◌≡◌, ◌∙◌, ℕ, ◌<◌, ◌≤◌, Bool, List, length, map, get_or, ap, sym, subst, arith, add-one, Option, Some}
use Rattle.std.specs.Prelude.{slice_get, option_map}
use Rattle.std.proofs.lemmas.List.{length-set}
use Rattle.std.proofs.lemmas.Option.{slice_get-map, get_or_from_slice_get}
use Rattle.ptp_base.specs.declared.announcement.Announcement.{Announcement}
use Rattle.ptp_base.specs.declared.code.Code.{Code}
use Rattle.ptp_base.specs.declared.code.Code.TheVariants.{Stay}
use Rattle.ptp_profile.specs.declared.port_event.PortEvent.TheVariants.{Decided}
use Rattle.ptp_profile.specs.Port.Port.{after_event}
use Rattle.bc_history.specs.Phases.DecisionPhase.{with_code, code_with}
use Rattle.bc_history.specs.Phases.HubPort.{HubPort}
use Rattle.bc_ports.specs.Representation.{PortRepresents, PortsRepresent, IsSamePort, Represents}
use Rattle.bc_ports.specs.declared.hub_port.HubPort.{HubPort as KeptPort}
use Rattle.bc_ports.proofs.lemmas.RepresentationLemmas.{PortsRepresent-mapped, PortsRepresent-length, ArePortsOf-set, mapped-all}
use Rattle.bc_ports.proofs.decision.decide_ports.Goals as goal

-- the code at an index
code_at : (own : Announcement) (m : ℕ) (best : Option Announcement) (codes : List Code) (hs : List HubPort) (i : ℕ) (h : HubPort) → codes ≡ map (code_with own m best) hs → slice_get hs i ≡ Some h
    → get_or codes i Stay ≡ code_with own m best h
code_at own m best codes hs i h codes_is found =
    get_or_from_slice_get codes i (code_with own m best h) Stay
    (ap (λ (xs : List Code). slice_get xs i) codes_is ∙ (slice_get-map (code_with own m best) hs i ∙ ap (λ (x : Option HubPort). option_map (code_with own m best) x) found))

pub loop-i-preserved : goal.loop-i-preserved
loop-i-preserved c =
    let q : KeptPort = c.index-ports-i.result in
    let lt : c.loop-i.i < length c.loop-i.ports = omega (arith, c.loop-i.auto.ports, c.loop-i-test.true) in
    let m = c.args.moment in
    record {
      ports = λ n own best parent hs new codes all.
          let f : HubPort → HubPort = with_code own m best parent c.args.steps in
          let E : Code → Bool → HubPort → Type 0 = λ code is_new h. Represents n m c.decide.new.self (after_event m c.args.steps (Decided code) is_new h.port) h.kept in
          let S : HubPort → KeptPort → Type 0 = λ h x. PortRepresents n m x h in
          let stands : (h : HubPort) → slice_get hs c.loop-i.i ≡ Some h → PortRepresents n m q h → PortRepresents n m c.decide.new.self (f h) =
          λ h found s.
          subst (λ (b : Bool). E (code_with own m best h) b h) new
          (subst (λ (code : Code). E code c.args.is_new h) (code_at own m best c.args.codes.now hs c.loop-i.i h codes found)
          (c.decide.ensures.port n h (subst (S h) c.index-ports-i.is s))) in
          rw add-one (PortsRepresent-mapped n m c.loop-i.ports hs c.loop-i.i q c.decide.new.self f lt c.index-ports-i.is stands (c.loop-i.invariant.ports n own best parent hs new codes all));
      of = λ o all.
          let S : KeptPort → Type 0 = λ x. IsSamePort x c.decide.new.self in
          ArePortsOf-set o 1 c.loop-i.ports c.loop-i.i q c.decide.new.self (c.loop-i.invariant.of o all) lt c.index-ports-i.is (subst S (sym c.index-ports-i.is) c.decide.ensures.same);
      length = length-set c.loop-i.ports c.loop-i.i c.decide.new.self ∙ c.loop-i.invariant.length;
    }

pub returns-clause-ports : goal.returns-clause-ports
returns-clause-ports c = λ n own best parent hs new codes all.
    let f : HubPort → HubPort = with_code own c.args.moment best parent c.args.steps in
    let few : length hs ≤ c.loop-i.i = omega (arith, PortsRepresent-length n c.args.moment c.args.ports.now hs all) in
    let P : List HubPort → Type 0 = λ xs. PortsRepresent n c.args.moment c.loop-i.ports xs in
    subst P (mapped-all c.loop-i.i f hs few) (c.loop-i.invariant.ports n own best parent hs new codes all)
