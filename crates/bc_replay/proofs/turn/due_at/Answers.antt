use Rattle.std.proofs.Common.{◌≡◌, ℕ, length, slice_get, Some, None, refl, subst, sym, ◌∙◌}
use Rattle.std.proofs.lemmas.Option.{same_Some, slice_get_read}
use Rattle.bc_steps.specs.ActorView.{ActorState, due_tick}
use Rattle.bc_replay.specs.ActorTurns.{IsDueAt}
use Rattle.bc_replay.proofs.turn.due_at.Goals as goal

pub due-requires : goal.due-requires
due-requires c = record { level = c.requires.level c.args.i c.index-actors-i.result (slice_get_read c.args.actors.now (length c.args.actors.now) c.args.i c.index-actors-i.result refl c.requires.there c.index-actors-i.is) }

pub returns-in-Some-clause-at : goal.returns-in-Some-clause-at
returns-in-Some-clause-at c j is =
    let a : ActorState = c.index-actors-i.result in
    let same : c.args.i ≡ j = same_Some c.args.i j is in
    subst (λ (k : ℕ). IsDueAt c.args.hub.now c.args.actors.now k) same
    (record {
      actor = a;
      there = slice_get_read c.args.actors.now (length c.args.actors.now) c.args.i a refl c.requires.there c.index-actors-i.is;
      tick = c.in-Some.field-0;
      due = sym c.due.ensures.tick ∙ c.in-Some.is;
    })

pub returns-in-None-clause-idle : goal.returns-in-None-clause-idle
returns-in-None-clause-idle c none a there =
    let here : slice_get c.args.actors.now c.args.i ≡ Some c.index-actors-i.result =
    slice_get_read c.args.actors.now (length c.args.actors.now) c.args.i c.index-actors-i.result refl c.requires.there c.index-actors-i.is in
    let same : c.index-actors-i.result ≡ a = same_Some c.index-actors-i.result a (sym here ∙ there) in
    subst (λ (x : ActorState). due_tick c.args.hub.now x ≡ None) same (sym c.due.ensures.tick ∙ c.in-None.is)
