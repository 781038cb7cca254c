use Rattle.std.proofs.Common.{◌≡◌, ℕ, ◌++◌, sym, ap, ◌∙◌, subst}
use Rattle.discipline_seat.specs.SeatValue.{SeatValue}
use Rattle.discipline_seat.specs.declared.view.View.{View}
use Rattle.discipline_seat.specs.Rule.SeatLog.{GrewByOthers}
use Rattle.discipline_seat.specs.Rule.Story.{GrewWithoutPages, Story, StoryExtends, page_item, story_of}
use Rattle.discipline_seat.specs.Rule.SeatView.{seen_log}
use Rattle.discipline_seat.specs.SeatCalls.{MeetYields}
use Rattle.discipline_seat.proofs.lemmas.StoryEndLemmas.{quiet_later, quiet_same}
use Rattle.discipline_seat.proofs.lemmas.StoryTruthLemmas.{truth_on, pages_agree}
use Rattle.discipline_seat.proofs.lemmas.SeatEntryLemmas.{keeps_on}
use Rattle.discipline_seat.proofs.lemmas.CallLemmas.{grew_on}
use Rattle.discipline_seat.specs.declared.view.Owner.{Owner}
use Rattle.discipline_seat.proofs.lemmas.MeetLemmas.{orders_on, met_again}
use Rattle.discipline_seat.proofs.table.Seats.meet.Goals as goal

pub returns-clause-met : goal.returns-clause-met
returns-clause-met g c = λ d. subst (λ (p : SeatValue). MeetYields (seen_log c.args.hub.now.view d) (seen_log p.view d) (seen_log c.round.new.hub.view d) (seen_log c.round.new.seat.me.0 d)) c.pass.view_is (met_again _ _ _ _ _ _ (c.bare_round.ensures.met d) (c.round.ensures.met d))

pub returns-clause-before : goal.returns-clause-before
returns-clause-before g c =
    let r = c.bare_round.ensures.round in
    let p : View = c.pass.inside.seat.me.0 in
    let h : View = c.args.hub.now.view in
    subst (λ (q : SeatValue). GrewWithoutPages (story_of h.stories q.view.number) q.view.stories.story) c.pass.view_is
    (quiet_later p.stories.told (story_of h.stories p.number) p.stories.story c.pass.invariant.3 r.told (subst (StoryExtends (story_of h.stories p.number)) r.story r.former))

pub invariant_of-pass : goal.invariant_of-pass
invariant_of-pass g c =
    let a = c.bare_round.ensures.round in
    let b = c.round.ensures.round in
    let s = c.round.ensures.seat in
    let i = c.pass.invariant in
    let v : View = c.pass.inside.seat.me.0 in
    let q : View = c.bare_round.new.seat.me.0 in
    let z : View = c.round.new.seat.me.0 in
    let xs : Story = page_item (g.N.Page.list c.args.page.now) in
    let story : z.stories.story ≡ xs ++ v.stories.story = b.story ∙ ap (λ (l : Story). xs ++ l) a.story in
    let grew : (d : ℕ) → GrewByOthers d v.owner (seen_log v d) (seen_log z d) = λ d. grew_on d v.owner (seen_log v d) (seen_log q d) (seen_log z d) (a.grew d) (subst (λ (o : Owner). GrewByOthers d o (seen_log q d) (seen_log z d)) a.owner (b.grew d)) in
    let opened : z.openings ≡ v.openings = c.round.ensures.pass_table.openings_are ∙ sym (ap (λ (p : SeatValue). p.view.openings) c.pass.view_is ∙ c.requires.pass_table.openings_are) in
    let page = pages_agree v.openings (seen_log z) (g.N.Page.list c.args.page.now) in
    (s.no_slots, s.wide, s.pass, subst (λ (l : Story). GrewWithoutPages l z.stories.story) (sym b.level) (quiet_same z.stories.story), truth_on v z xs (b.owner ∙ a.owner) opened story grew page.0 page.1 page.2 i.4, keeps_on c.pass.inside.entries.items v z xs page.1 story i.5)

pub returns-clause-orders : goal.returns-clause-orders
returns-clause-orders g c = λ d. orders_on _ _ _ (c.bare_round.ensures.orders d) (c.round.ensures.orders d)
