use Rattle.std.proofs.Common.{rules, ◌≡◌, ◌∙◌, ◌-◌, ◌≤◌, List, length, get_or, sym, ap, subst, arith}
use Rattle.std.specs.Prelude.{map, slice_set}
use Rattle.std.proofs.lemmas.Bool.{both_ways}
use Rattle.ptp_profile.specs.declared.port_best.PortBest.{PortBest}
use Rattle.ptp_profile.specs.Best.StateDecision.{wins_by_topology}
use Rattle.state_decision.specs.DeciderView.{DeciderView, HasBest}
use Rattle.state_decision.specs.PassWinners.{winner_up_to, AreWinnersUpTo}
use Rattle.state_decision.proofs.lemmas.PassWinnersLemmas.{winner_entry}
use Rattle.state_decision.proofs.lemmas.DeciderLemmas.{decider-same_best, decider-same_winner, decider-renewed, set-standing, set-winner, had_best}
use Rattle.state_decision.proofs.decider.Decider.set.Goals as goal

pub invariant_of-self : goal.invariant_of-self
invariant_of-self g c =
    let some : 1 ≤ c.from-port.result = omega (arith, c.requires.some, c.from-port.ensures) in
    let there : c.from-port.result ≤ length c.self.inside.bests.items =
    subst (λ (v : DeciderView). c.from-port.result ≤ length v.bests) (sym c.self.view_is) (omega (arith, c.requires.there, c.from-port.ensures)) in
    decider-same_best c.self.inside.own c.self.inside.bests.items c.self.inside.winners.items c.self.inside.own_over_erbest.items c.self.inside.own_over_ebest c.self.inside.by_topology.items
    c.from-port.result c.args.b c.index.result.now c.self.invariant some there (ap (λ p. p.best) (sym c.index.ensures) ∙ c.is_same.ensures.0 c.if-is_same.true)

pub invariant_of-self-then-is_same-2 : goal.invariant_of-self-then-is_same-2
invariant_of-self-then-is_same-2 g c =
    let len : c.len.result ≡ length c.self.inside.bests.items = search rules in
    let some : 1 ≤ c.from-port.result = omega (arith, c.requires.some, c.from-port.ensures) in
    let there : c.from-port.result ≤ length c.self.inside.bests.items =
    subst (λ (v : DeciderView). c.from-port.result ≤ length v.bests) (sym c.self.view_is) (omega (arith, c.requires.there, c.from-port.ensures)) in
    decider-same_winner c.self.inside.own c.self.inside.bests.items c.self.inside.winners.items c.self.inside.own_over_erbest.items c.self.inside.own_over_ebest c.self.inside.by_topology.items
    c.from-port.result c.args.b c.index-then-is_same-2.result.now c.wins_against.result c.wins_by_topology.result c.self.invariant some
    (sym (set-winner c.from-port.result c.self.inside.bests.items c.args.b c.self.inside.winners.items c.index-2.result.now c.winner_after-winner.result some there c.self.invariant.winners c.index-2.ensures c.winner_after-winner.ensures.winner)
    ∙ c.is_same-2.ensures.0 c.if-is_same-2.true
    ∙ winner_entry (length c.self.inside.bests.items) c.from-port.result c.self.inside.bests.items c.self.inside.winners.items c.index-3.result.now c.self.invariant.winners there c.index-3.ensures)
    (subst (λ n. c.index-then-is_same-2.result.now ≡ get_or c.self.inside.winners.items n c.index-then-is_same-2.result.now) len c.index-then-is_same-2.ensures) c.wins_against.ensures.wins c.wins_by_topology.ensures.wins

pub renew_winners-requires-clause-standing : goal.renew_winners-requires-clause-standing
renew_winners-requires-clause-standing g c =
    let some : 1 ≤ c.from-port.result = omega (arith, c.requires.some, c.from-port.ensures) in
    let there : c.from-port.result ≤ length c.self.inside.bests.items =
    subst (λ (v : DeciderView). c.from-port.result ≤ length v.bests) (sym c.self.view_is) (omega (arith, c.requires.there, c.from-port.ensures)) in
    subst (λ (ps : List PortBest). AreWinnersUpTo c.from-port.result ps (slice_set c.self.inside.winners.items c.from-port.result c.winner_after-winner.result)) (sym c.deref.ensures.value)
    (set-standing c.from-port.result c.self.inside.bests.items c.args.b c.self.inside.winners.items c.index-2.result.now c.winner_after-winner.result some there c.self.invariant.entries c.self.invariant.winners c.index-2.ensures c.winner_after-winner.ensures.winner)

pub returns-then-is_same-2-clause-same_best : goal.returns-then-is_same-2-clause-same_best
returns-then-is_same-2-clause-same_best g c = λ has.
    let some : 1 ≤ c.from-port.result = omega (arith, c.requires.some, c.from-port.ensures) in
    let there : c.from-port.result ≤ length c.args.self.now.bests = omega (arith, c.requires.there, c.from-port.ensures) in
    let had = had_best c.from-port.result c.self.inside.own c.args.self.now c.self.inside.bests.items c.args.b c.index.result.now some there c.self.view_is c.index.ensures
    (subst (λ p. HasBest p c.args.self.now.bests c.args.b.best) (sym c.from-port.ensures) has) in
    absurd (both_ways _ c.if-is_same.false (c.is_same.ensures.1 had))

pub returns-clause-same_best : goal.returns-clause-same_best
returns-clause-same_best g c = λ has.
    let some : 1 ≤ c.from-port.result = omega (arith, c.requires.some, c.from-port.ensures) in
    let there : c.from-port.result ≤ length c.args.self.now.bests = omega (arith, c.requires.there, c.from-port.ensures) in
    let had = had_best c.from-port.result c.self.inside.own c.args.self.now c.self.inside.bests.items c.args.b c.index.result.now some there c.self.view_is c.index.ensures
    (subst (λ p. HasBest p c.args.self.now.bests c.args.b.best) (sym c.from-port.ensures) has) in
    absurd (both_ways _ c.if-is_same.false (c.is_same.ensures.1 had))

pub returns-clause-same_winner : goal.returns-clause-same_winner
returns-clause-same_winner g c = λ same.
    let some : 1 ≤ c.from-port.result = omega (arith, c.requires.some, c.from-port.ensures) in
    let there : c.from-port.result ≤ length c.self.inside.bests.items =
    subst (λ (v : DeciderView). c.from-port.result ≤ length v.bests) (sym c.self.view_is) (omega (arith, c.requires.there, c.from-port.ensures)) in
    let made = set-winner c.from-port.result c.self.inside.bests.items c.args.b c.self.inside.winners.items c.index-2.result.now c.winner_after-winner.result some there c.self.invariant.winners c.index-2.ensures c.winner_after-winner.ensures.winner in
    let was = winner_entry (length c.self.inside.bests.items) c.from-port.result c.self.inside.bests.items c.self.inside.winners.items c.index-3.result.now c.self.invariant.winners there c.index-3.ensures in
    let stays : winner_up_to c.from-port.result (slice_set c.self.inside.bests.items (c.from-port.result - 1) c.args.b) ≡ winner_up_to c.from-port.result c.self.inside.bests.items =
    subst (λ p. winner_up_to p (slice_set c.self.inside.bests.items (c.from-port.result - 1) c.args.b) ≡ winner_up_to p c.self.inside.bests.items) (sym c.from-port.ensures)
    (same ∙ sym (ap (λ (v : DeciderView). winner_up_to c.args.port v.bests) c.self.view_is)) in
    absurd (both_ways _ c.if-is_same-2.false (c.is_same-2.ensures.1 (made ∙ stays ∙ sym was)))

pub invariant_of-self-2 : goal.invariant_of-self-2
invariant_of-self-2 g c =
    let len : c.len-2.result ≡ length c.deref.result.now = search rules in
    decider-renewed c.self.inside.own c.self.inside.bests.items c.deref.result.now c.self.inside.winners.items c.renew_winners.new.winners.items c.self.inside.own_over_erbest.items c.self.inside.own_over_ebest c.self.inside.by_topology.items c.renew_topology.new.by_topology.items
    (c.from-port.result - 1) c.args.b c.index-4.result.now c.wins_against.result c.wins_against-self-inside.result c.self.invariant c.deref.ensures.value c.renew_winners.ensures.length c.renew_winners.ensures.winners
    (subst (λ n. c.index-4.result.now ≡ get_or c.renew_winners.new.winners.items n c.index-4.result.now) len c.index-4.ensures) c.wins_against.ensures.wins c.wins_against-self-inside.ensures.wins (c.renew_topology.ensures.topology ∙ ap (map (λ (p : PortBest). wins_by_topology c.index-4.result.now p.best)) (c.deref-2.ensures.value ∙ sym c.deref.ensures.value))
