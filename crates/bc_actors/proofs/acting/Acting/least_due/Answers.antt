use Rattle.std.proofs.Common.{◌≡◌, ◌+◌, ◌∙◌, List, Some, None, slice_get, length, refl, sym, ap, subst, arith}
use Rattle.std.proofs.lemmas.Option.{slice_get_read}
use Rattle.bc_steps.specs.ActorView.{ActorState, due_tick}
use Rattle.bc_actors.specs.ActingState.{ActingState}
use Rattle.bc_actors.specs.LeastDue.{IsLeastDue}
use Rattle.bc_actors.proofs.lemmas.RoundLemmas.{IsLeastDueOf, least-found, least-kept, least-passed, least-taken}
use Rattle.bc_actors.proofs.acting.Acting.least_due.Goals.{in-Some+in-Some-least, in-Some+in_default-least-2, in-Some+in_default-least, in_default}
use Rattle.bc_actors.proofs.acting.Acting.least_due.Goals as goal

pub due-requires : goal.due-requires
due-requires g c =
    let all = c.self.inside.actors.items in
    let a : ActorState = c.actor-item.result in
    let seen = c.deref-actor-items.result.now in
    let value = c.deref-actor-items.ensures.value in
    let there : slice_get all c.actors.actor-index ≡ Some a = ap (λ (xs : List ActorState). slice_get xs c.actors.actor-index) (sym value) ∙ slice_get_read seen (length seen) c.actors.actor-index a refl c.actors-test.true c.actor-item.is in
    record { level = c.self.invariant.all.level c.actors.actor-index a there }

pub actors-preserved : goal.actors-preserved
actors-preserved g c =
    let hub = c.self.inside.hub in
    let all = c.self.inside.actors.items in
    let i = c.actors.actor-index in
    let a : ActorState = c.actor-item.result in
    let seen = c.deref-actor-items.result.now in
    let value = c.deref-actor-items.ensures.value in
    let there : slice_get all i ≡ Some a = ap (λ (xs : List ActorState). slice_get xs i) (sym value) ∙ slice_get_read seen (length seen) i a refl c.actors-test.true c.actor-item.is in
    elim c.match-due.branch [
      | in-Some+in-Some-least w ↦
          let due : due_tick hub a ≡ Some w.in-Some.tick = sym c.due.ensures.tick ∙ w.in-Some.is in
          let former : IsLeastDueOf hub all i (Some w.in-Some-least.former) = subst (IsLeastDueOf hub all i) w.in-Some-least.is c.actors.invariant in
          subst (IsLeastDueOf hub all (i + 1)) (sym w.least-is) (least-kept hub all i w.in-Some.tick w.in-Some-least.former a there due w.if-former-tick.true former)
      | in-Some+in_default-least-2 w ↦
          let due : due_tick hub a ≡ Some w.in-Some.tick = sym c.due.ensures.tick ∙ w.in-Some.is in
          let former : IsLeastDueOf hub all i (Some w.in-Some-least.former) = subst (IsLeastDueOf hub all i) w.in-Some-least.is c.actors.invariant in
          subst (IsLeastDueOf hub all (i + 1)) (sym w.least-is) (least-taken hub all i w.in-Some.tick a (Some w.in-Some-least.former) there due (omega (arith, w.if-former-tick.false)) former)
      | in-Some+in_default-least w ↦
          let due : due_tick hub a ≡ Some w.in-Some.tick = sym c.due.ensures.tick ∙ w.in-Some.is in
          let former : IsLeastDueOf hub all i None = subst (IsLeastDueOf hub all i) w.in_default-least.is c.actors.invariant in
          subst (IsLeastDueOf hub all (i + 1)) (sym w.least-is) (least-taken hub all i w.in-Some.tick a None there due tt former)
      | in_default w ↦
          let none : due_tick hub a ≡ None = sym c.due.ensures.tick ∙ w.in_default.is in
          subst (IsLeastDueOf hub all (i + 1)) (sym w.least-is) (least-passed hub all i a c.actors.least there none c.actors.invariant)
    ]

pub returns : goal.returns
returns g c =
    let hub = c.self.inside.hub in
    let all = c.self.inside.actors.items in
    let long = c.deref-actor-items.ensures.len in
    let value = ap (λ (xs : List ActorState). length xs) c.deref-actor-items.ensures.value in
    subst (λ (a : ActingState). IsLeastDue a.hub a.actors c.actors.least) c.self.view_is
    (least-found hub all c.actors.actor-index c.actors.least (omega (arith, value, c.actors-test.false)) c.actors.invariant)
