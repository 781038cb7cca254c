use Rattle.std.proofs.Common.{◌≡◌, ◌∙◌, ℕ, ◌<◌, ◌≤◌, List, length, get_or, set, ap, sym, subst, arith}
use Rattle.std.specs.Prelude.{Option, Some, option_map}
use Rattle.ptp_profile.specs.declared.roles.Notice.{Notice}
use Rattle.bc_history.specs.Phases.Inputs.{changed_at}
use Rattle.bc_history.specs.declared.entry.Told.{Told}
use Rattle.bc_history.specs.declared.entry.Input.TheVariants.{Turn}
use Rattle.bc_history.specs.declared.scenario.Options.{Options}
use Rattle.bc_history.specs.Phases.NoticePhase.{after_subscription, after_taking, after_turn, notice_for, told_at}
use Rattle.bc_history.specs.Phases.State.{Follower as HistoryFollower}
use Rattle.bc_notices.specs.declared.follower.Follower.{Follower}
use Rattle.bc_notices.specs.FollowerView.{FollowerRepresents, terms_of}
use Rattle.bc_notices.specs.NoticesView.{FollowersRepresent, NoticesRepresent, NoticesView, most_put}
use Rattle.bc_notices.proofs.lemmas.FollowersLemmas.{FollowersRepresent-at, FollowersRepresent-get, most-get, most-set}
use Rattle.bc_notices.proofs.notices.Notices.turn.Goals as goal

pub turn-requires-clause-few : goal.turn-requires-clause-few
turn-requires-clause-few c =
    let v : NoticesView = c.args.self.now in
    let code : Follower = c.index_mut.result.now in
    let same = ap (λ (x : NoticesView). x.followers) c.self.view_is in
    let is = subst (λ (cs : List Follower). code ≡ get_or cs c.args.clock code) same c.index_mut.ensures.value in
    let least = most-get v.followers c.args.clock code c.requires.there is in
    omega (arith, least, c.requires.few)

pub returns-clause-told : goal.returns-clause-told
returns-clause-told c = λ o fs is.
    let v : NoticesView = c.args.self.now in
    let code : Follower = c.index_mut.result.now in
    let terms = ap (λ (x : NoticesView). x.terms) c.self.view_is ∙ is.terms in
    let same = ap (λ (x : NoticesView). x.followers) c.self.view_is in
    let at = subst (λ (cs : List Follower). code ≡ get_or cs c.args.clock code) same c.index_mut.ensures.value in
    let f = FollowersRepresent-get o v.followers fs c.args.clock code is.followers c.requires.there at in
    ap (option_map (told_at o c.args.moment c.args.tick c.args.notice)) f.1 ∙ sym (ap (λ (t : Told). Some t) (c.turn.ensures.told o f.0 terms f.2))

pub returns-clause-represents : goal.returns-clause-represents
unfolding after_turn
returns-clause-represents c = λ o core r fs is moment notice.
    let v : NoticesView = c.args.self.now in
    let code : Follower = c.index_mut.result.now in
    let new : Follower = c.turn.new.self in
    let terms = ap (λ (x : NoticesView). x.terms) c.self.view_is ∙ is.terms in
    let same = ap (λ (x : NoticesView). x.followers) c.self.view_is in
    let i = c.args.clock in
    let tick = c.args.tick in
    let turned : ℕ → Notice → HistoryFollower → HistoryFollower = λ m n f. after_taking tick (after_subscription o m tick n f) in
    let at = subst (λ (cs : List Follower). code ≡ get_or cs i code) same c.index_mut.ensures.value in
    let done = FollowersRepresent-at o v.followers fs i code new (turned c.args.moment c.args.notice) is.followers c.requires.there at (λ f one. c.turn.ensures.represents o f terms one) in
    let C : List Follower → Type 0 = λ cs. FollowersRepresent o (set cs i new) (changed_at (turned c.args.moment c.args.notice) i fs) in
    let M : ℕ → Type 0 = λ m. FollowersRepresent o (set c.self.inside.followers.items i new) (changed_at (turned m c.args.notice) i fs) in
    let N : Notice → Type 0 = λ n. FollowersRepresent o (set c.self.inside.followers.items i new) (changed_at (turned core.moment n) i fs) in
    record { terms = terms; followers = subst N notice (subst M moment (subst C (sym same) done)) }

pub returns-clause-put : goal.returns-clause-put
returns-clause-put c =
    let same = ap (λ (x : NoticesView). x.followers) c.self.view_is in
    let all = ap most_put same in
    let none = c.turn.ensures.put in
    most-set c.self.inside.followers.items c.args.clock c.turn.new.self (most_put c.args.self.now.followers) (omega (arith, all)) (omega (arith, none))
