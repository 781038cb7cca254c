use Rattle.std.proofs.Common.{◌≡◌, ◌∙◌, ℕ, suc, ◌+◌, ◌-◌, ◌<◌, List, length, get_or, set, ap, sym, subst, arith, add-one, Some, None}
use Rattle.std.specs.Prelude.{option_map, slice_get}
use Rattle.ptp_base.specs.declared.port_state.PortState.TheVariants.{Initializing}
use Rattle.ptp_base.specs.declared.announcement.Announcement.{Announcement}
use Rattle.ptp_profile.specs.declared.port_best.PortBest.{PortBest}
use Rattle.state_decision.specs.DeciderView.{DeciderView}
use Rattle.bc_ports.proofs.lemmas.SettingLemmas.{next-hears, set-all, set-next, set_so_far, so-far-length}
use Rattle.bc_ports.proofs.decision.set_bests.Goals as goal

pub loop-i-preserved : goal.loop-i-preserved
loop-i-preserved g c =
    let heard : List PortBest = c.args.bests.now in
    let had : List PortBest = c.args.decider.now.bests in
    let i : ℕ = c.loop-i.i in
    let blank : PortBest = record { state = Initializing; best = None } in
    let lt : i < length heard = omega arith in
    let now : c.loop-i.decider.bests ≡ set_so_far i heard had = ap (λ (d : DeciderView). d.bests) c.loop-i.invariant.bests in
    let own = ap (λ (d : DeciderView). d.own) c.loop-i.invariant.bests in
    let index : i + 1 - 1 ≡ i = omega arith in
    let with : List PortBest → DeciderView = λ bs. record { own = c.args.decider.now.own; bests = bs } in
    let D : List PortBest → ℕ → Type 0 = λ bs k. c.set.new.self ≡ record { own = c.loop-i.decider.own; bests = set bs k (get_or heard i blank) } in
    let set_is : c.set.new.self ≡ with (set_so_far (suc i) heard had) =
    subst (λ (k : ℕ). D (set_so_far i heard had) k) index (subst (λ (bs : List PortBest). D bs (i + 1 - 1)) now c.set.ensures.set)
    ∙ (ap (λ (a : Announcement). let d : DeciderView = record { own = a; bests = set (set_so_far i heard had) i (get_or heard i blank) } in d) own
    ∙ ap with (set-next heard had i blank lt c.requires.same_length)) in
    let long = so-far-length heard had (suc i) c.requires.same_length in
    let most = c.set.ensures.counted in
    let before = c.loop-i.invariant.long in
    record {
      bests = rw add-one set_is;
      long = ap (λ (d : DeciderView). length d.bests) set_is ∙ long;
      same_bests = λ same.
          let H : List PortBest → ℕ → Type 0 = λ bs k. option_map (λ (port : PortBest). port.best) (slice_get bs k) ≡ Some (get_or heard i blank).best in
          let has = subst (λ (bs : List PortBest). H bs (i + 1 - 1)) (sym now) (subst (λ (k : ℕ). H (set_so_far i heard had) k) (sym index) (next-hears heard had i blank lt same c.requires.same_length)) in
          c.set.ensures.same_best has ∙ c.loop-i.invariant.same_bests same;
      counted = omega (arith, most, before, c.loop-i.invariant.counted);
    }

pub returns-clause-bests : goal.returns-clause-bests
returns-clause-bests g c =
    let heard : List PortBest = c.args.bests.now in
    let had : List PortBest = c.args.decider.now.bests in
    let end : c.loop-i.i ≡ length heard = omega arith in
    let with : List PortBest → DeciderView = λ bs. record { own = c.args.decider.now.own; bests = bs } in
    c.loop-i.invariant.bests ∙ (ap (λ (k : ℕ). with (set_so_far k heard had)) end ∙ ap with (set-all heard had c.requires.same_length))
