-- Each follower after an entry, by that follower before it: there are as many, each took as many turns as its entries have, and it
-- keeps what its own last entry told it to copy.
use Rattle.std.proofs.Common.{◌≡◌, ◌≢◌, ℕ, zero, suc, ◌+◌, Bool, true, false, cond, eqb, refl, sym, ap, ◌∙◌, subst, arith, List, [], ◌∷◌, length, replicate, filter, Option, Some, None}
use Rattle.std.specs.Prelude.{nat_le, option_map, option_and_then, slice_get}
use Rattle.std.proofs.lemmas.Bool.{false≢true, eqb-true, eqb-false}
use Rattle.std.proofs.lemmas.List.{length-replicate}
use Rattle.std.proofs.lemmas.Option.{same_Some}
use Rattle.ptp_profile.specs.declared.roles.Notice.{Notice}
use Rattle.bc_history.specs.declared.entry.Entry.{Entry}
use Rattle.bc_history.specs.declared.entry.Input.{Input}
use Rattle.bc_history.specs.declared.entry.Input.TheVariants.{Frame, Timed, Down, Up, Report, Turn, Sampled, Query}
use Rattle.bc_history.specs.declared.entry.Told.{Told}
use Rattle.bc_history.specs.declared.entry.Who.TheVariants.{Follower as A_follower}
use Rattle.bc_history.specs.declared.scenario.Options.{Options}
use Rattle.bc_history.specs.declared.scenario.Scenario.{Scenario}
use Rattle.bc_history.specs.Phases.EntryEffects.{effects_of, entry_after, told_by}
use Rattle.bc_history.specs.Phases.Inputs.{changed_at, event_of, holds, tick_of}
use Rattle.bc_history.specs.Phases.NoticePhase.{after_posting, after_posting_from, after_subscription, after_taking, after_turn, is_subscription_due, notice_for, told_at, with_notice}
use Rattle.bc_history.specs.Phases.OpeningState.{follower_count, open_follower}
use Rattle.bc_history.specs.Phases.State.{Core, Event, Follower, Roles, State, Subscription, TickLead}
use Rattle.bc_history.specs.Phases.Step.{core_after, followers_after, followers_between, roles_after, state_of, step}
use Rattle.bc_history.specs.Run.Actors.{actor_of, is_by, is_same_actor}
use Rattle.bc_history.specs.Run.FollowerEntries.{is_turn_of, leading_by, led_with, turns_by}
use Rattle.bc_history.specs.Run.History.{Continues, Follows}
use Rattle.bc_history.proofs.lemmas.CoreInvariantLemmas.{length-changed_at, option_map-some, slice_get-changed_at, slice_get-changed_elsewhere}
use Rattle.bc_history.proofs.lemmas.PortEntriesLemmas.{length-if}

-- ---- one follower's part of an entry

-- the follower of clock k after a generation that begins with the entry, or that doesn't
abbrev pub posted : Options → Core → Roles → Roles → ℕ → Follower → Follower
posted o c before r k f = cond (eqb before.gener r.gener) f (after_posting o c.moment (notice_for c r k) f)

-- the follower of clock k after an entry of its own
abbrev pub own_turn : Options → Core → Roles → ℕ → Input → Follower → Follower
own_turn o c r k (Turn clock tick) f = after_taking tick (after_subscription o c.moment tick (notice_for c r k) f)
own_turn o c r k (Sampled clock tick lead theirs own action outcome) f = record f { leading = None }
own_turn o c r k (Frame port tick octets) f = f
own_turn o c r k (Timed port tick timer) f = f
own_turn o c r k (Down port tick) f = f
own_turn o c r k (Up port tick) f = f
own_turn o c r k (Report port tick gener action outcome) f = f
own_turn o c r k (Query tick text) f = f

-- the follower of clock k after an entry's own part
abbrev pub after_own : Options → Core → Roles → ℕ → Input → Follower → Follower
after_own o c r k input f = cond (is_same_actor (A_follower k) (actor_of input)) (own_turn o c r k input f) f

-- the follower of clock k after a generation that may begin with an entry
abbrev pub follower_between : Options → State → Event → ℕ → Follower → Follower
follower_between o h e k f = posted o (core_after o h e) h.roles (roles_after o h e) k f

-- the follower of clock k after an entry
abbrev pub follower_after : Options → State → Event → ℕ → Follower → Follower
follower_after o h e k f =
    after_own o (core_after o h e) (roles_after o h e) k e.input (follower_between o h e k f)

-- ---- lists

-- a function of an option, by one that is the same
option_map-same : {X Y : Type 0} (f g : X → Y) → ((x : X) → f x ≡ g x) → (o : Option X) → option_map f o ≡ option_map g o
option_map-same f g same None = refl
option_map-same f g same (Some x) = ap (λ y. Some y) (same x)

-- an option that nothing is made of
option_map-id : {X : Type 0} (o : Option X) → option_map (λ (x : X). x) o ≡ o
option_map-id None = refl
option_map-id (Some x) = refl

-- two functions of an option, one after the other
option_map-twice : {X Y Z : Type 0} (f : X → Y) (g : Y → Z) (o : Option X)
    → option_map g (option_map f o) ≡ option_map (λ (x : X). g (f x)) o
option_map-twice f g None = refl
option_map-twice f g (Some x) = refl

-- the element of an index where one element is changed
changed-by : {X : Type 0} (change : X → X) (k i : ℕ) (xs : List X) (b : Bool) → eqb i k ≡ b
    → slice_get (changed_at change k xs) i ≡ option_map (λ (x : X). cond b (change x) x) (slice_get xs i)
changed-by {X} change k i xs true is =
    let same : i ≡ k = eqb-true i k is in
    subst (λ (j : ℕ). slice_get (changed_at change k xs) j ≡ option_map change (slice_get xs j)) (sym same)
    (slice_get-changed_at change k xs)
changed-by {X} change k i xs false is =
    let other : i ≢ k = eqb-false i k is in
    slice_get-changed_elsewhere change k i xs (λ e. other (sym e)) ∙ sym (option_map-id (slice_get xs i))

-- a notice to each follower from a clock on is one to each
posting-at : (o : Options) (c : Core) (r : Roles) (clock : ℕ) (fs : List Follower) (i : ℕ)
    → slice_get (after_posting_from o c r clock fs) i
    ≡ option_map (after_posting o c.moment (notice_for c r (clock + i))) (slice_get fs i)
posting-at o c r clock [] i = refl
posting-at o c r clock (f ∷ fs) zero =
    ap (λ (n : ℕ). Some (after_posting o c.moment (notice_for c r n) f)) (let e : clock ≡ clock + 0 = omega arith in e)
posting-at o c r clock (f ∷ fs) (suc i) =
    posting-at o c r (clock + 1) fs i
    ∙ ap (λ (n : ℕ). option_map (after_posting o c.moment (notice_for c r n)) (slice_get fs i))
    (let e : (clock + 1) + i ≡ clock + suc i = omega arith in e)

-- it leaves as many
posting-length : (o : Options) (c : Core) (r : Roles) (clock : ℕ) (fs : List Follower)
    → length (after_posting_from o c r clock fs) ≡ length fs
posting-length o c r clock [] = refl
posting-length o c r clock (f ∷ fs) = ap suc (posting-length o c r (clock + 1) fs)

-- a generation that begins, or that doesn't, for each follower
notices-at : (o : Options) (c : Core) (r : Roles) (fs : List Follower) (i : ℕ) (same : Bool)
    → slice_get (cond same fs (after_posting_from o c r 0 fs)) i
    ≡ option_map (λ (f : Follower). cond same f (after_posting o c.moment (notice_for c r i) f)) (slice_get fs i)
notices-at o c r fs i true = sym (option_map-id (slice_get fs i))
notices-at o c r fs i false =
    posting-at o c r 0 fs i
    ∙ ap (λ (n : ℕ). option_map (after_posting o c.moment (notice_for c r n)) (slice_get fs i))
    (let e : 0 + i ≡ i = omega arith in e)

-- it leaves as many
notices-length : (o : Options) (c : Core) (r : Roles) (fs : List Follower) (same : Bool)
    → length (cond same fs (after_posting_from o c r 0 fs)) ≡ length fs
notices-length o c r fs true = refl
notices-length o c r fs false = posting-length o c r 0 fs

-- an entry's own part, for each follower
turn-at : (o : Options) (c : Core) (r : Roles) (input : Input) (fs : List Follower) (i : ℕ)
    → slice_get (after_turn o c r input fs) i ≡ option_map (after_own o c r i input) (slice_get fs i)
unfolding after_turn
turn-at o c r (Turn clock tick) fs i = by (eqb i clock) refl
  where
    by : (b : Bool) → eqb i clock ≡ b
        → slice_get (changed_at (λ f. after_taking tick (after_subscription o c.moment tick (notice_for c r clock) f)) clock fs) i
        ≡ option_map (λ (f : Follower). cond b (after_taking tick (after_subscription o c.moment tick (notice_for c r i) f)) f) (slice_get fs i)
    by true is =
        subst (λ (k : ℕ). slice_get (changed_at (λ f. after_taking tick (after_subscription o c.moment tick (notice_for c r k) f)) k fs) i
        ≡ option_map (λ (f : Follower). after_taking tick (after_subscription o c.moment tick (notice_for c r i) f)) (slice_get fs i))
        (eqb-true i clock is)
        (slice_get-changed_at (λ f. after_taking tick (after_subscription o c.moment tick (notice_for c r i) f)) i fs)
    by false is =
        changed-by (λ f. after_taking tick (after_subscription o c.moment tick (notice_for c r clock) f)) clock i fs false is
turn-at o c r (Sampled clock tick lead theirs own action outcome) fs i =
    changed-by (λ (f : Follower). record f { leading = None }) clock i fs (eqb i clock) refl
turn-at o c r (Frame port tick octets) fs i = sym (option_map-id (slice_get fs i))
turn-at o c r (Timed port tick timer) fs i = sym (option_map-id (slice_get fs i))
turn-at o c r (Down port tick) fs i = sym (option_map-id (slice_get fs i))
turn-at o c r (Up port tick) fs i = sym (option_map-id (slice_get fs i))
turn-at o c r (Report port tick gener action outcome) fs i = sym (option_map-id (slice_get fs i))
turn-at o c r (Query tick text) fs i = sym (option_map-id (slice_get fs i))

-- it leaves as many
turn-length : (o : Options) (c : Core) (r : Roles) (input : Input) (fs : List Follower)
    → length (after_turn o c r input fs) ≡ length fs
unfolding after_turn
turn-length o c r (Turn clock tick) fs = length-changed_at _ clock fs
turn-length o c r (Sampled clock tick lead theirs own action outcome) fs = length-changed_at _ clock fs
turn-length o c r (Frame port tick octets) fs = refl
turn-length o c r (Timed port tick timer) fs = refl
turn-length o c r (Down port tick) fs = refl
turn-length o c r (Up port tick) fs = refl
turn-length o c r (Report port tick gener action outcome) fs = refl
turn-length o c r (Query tick text) fs = refl

-- ---- the followers after an entry

-- each after a generation that may begin with it
pub between-at : (o : Options) (h : State) (e : Event) (i : ℕ)
    → slice_get (followers_between o h e) i ≡ option_map (follower_between o h e i) (slice_get h.followers i)
between-at o h e i =
    notices-at o (core_after o h e) (roles_after o h e) h.followers i (eqb h.roles.gener (roles_after o h e).gener)

-- each after it
after-at : (o : Options) (h : State) (e : Event) (i : ℕ)
    → slice_get (followers_after o h e) i ≡ option_map (follower_after o h e i) (slice_get h.followers i)
after-at o h e i =
    turn-at o (core_after o h e) (roles_after o h e) e.input (followers_between o h e) i
    ∙ (ap (option_map (after_own o (core_after o h e) (roles_after o h e) i e.input)) (between-at o h e i)
    ∙ option_map-twice (follower_between o h e i) (after_own o (core_after o h e) (roles_after o h e) i e.input)
    (slice_get h.followers i))

-- as many
after-length : (o : Options) (h : State) (e : Event) → length (followers_after o h e) ≡ length h.followers
after-length o h e =
    turn-length o (core_after o h e) (roles_after o h e) e.input (followers_between o h e)
    ∙ notices-length o (core_after o h e) (roles_after o h e) h.followers (eqb h.roles.gener (roles_after o h e).gener)

-- ---- along a history

-- there are as many followers as the scenario has
pub followers-length : (s : Scenario) (entries : List Entry) → length (state_of s entries).followers ≡ follower_count s
unfolding state_of step
followers-length s [] = length-replicate (follower_count s) open_follower
followers-length s (e ∷ before) =
    after-length s.options (state_of s before) (event_of e) ∙ followers-length s before

-- a follower after an entry was there before it
pub follower-before : (s : Scenario) (e : Entry) (before : List Entry) (k : ℕ) (g : Follower)
    → slice_get (state_of s (e ∷ before)).followers k ≡ Some g
    → (f : Follower) × (slice_get (state_of s before).followers k ≡ Some f) × (follower_after s.options (state_of s before) (event_of e) k f ≡ g)
unfolding state_of step
follower-before s e before k g there =
    option_map-some (follower_after s.options (state_of s before) (event_of e) k) (slice_get (state_of s before).followers k) g
    (sym (after-at s.options (state_of s before) (event_of e) k) ∙ there)

-- each element of a list of equal ones
replicate-at : {X : Type 0} (n : ℕ) (x : X) (i : ℕ) (y : X) → slice_get (replicate n x) i ≡ Some y → x ≡ y
replicate-at zero x i y there = cc
replicate-at (suc n) x zero y there = same_Some x y there
replicate-at (suc n) x (suc i) y there = replicate-at n x i y there

-- a follower before the first entry
pub follower-opening : (s : Scenario) (k : ℕ) (g : Follower) → slice_get (state_of s []).followers k ≡ Some g → open_follower ≡ g
unfolding state_of
follower-opening s k g there = replicate-at (follower_count s) open_follower k g there

-- ---- turns

-- a notice is no turn
turns-posting : (b : Bool) (notice : Notice) (f : Follower) → (cond b (with_notice notice f) f).turns ≡ f.turns
turns-posting true notice f = refl
turns-posting false notice f = refl

-- nor is one that comes with a generation, or none
turns-posted : (b c : Bool) (notice : Notice) (f : Follower) → (cond b f (cond c (with_notice notice f) f)).turns ≡ f.turns
turns-posted true c notice f = refl
turns-posted false c notice f = turns-posting c notice f

-- nor is a subscription
turns-subscription : (b : Bool) (notice : Notice) (last : Subscription) (f : Follower)
    → (cond b (with_notice notice (record f { subscribed = Some last })) f).turns ≡ f.turns
turns-subscription true notice last f = refl
turns-subscription false notice last f = refl

-- an entry's own part is a turn or none
turns-own : (o : Options) (c : Core) (r : Roles) (k : ℕ) (input : Input) (f : Follower)
    → (after_own o c r k input f).turns ≡ cond (is_turn_of k input) (f.turns + 1) f.turns
turns-own o c r k (Turn clock tick) f = by (eqb k clock)
  where
    by : (b : Bool) → (cond b (after_taking tick (after_subscription o c.moment tick (notice_for c r k) f)) f).turns ≡ cond b (f.turns + 1) f.turns
    by true =
        ap (λ (n : ℕ). n + 1)
        (turns-subscription (is_subscription_due o tick f) (notice_for c r k) (record { tick = tick; moment = c.moment }) f)
    by false = refl
turns-own o c r k (Sampled clock tick lead theirs own action outcome) f = by (eqb k clock)
  where
    by : (b : Bool) → (cond b (record f { leading = None }) f).turns ≡ f.turns
    by true = refl
    by false = refl
turns-own o c r k (Frame port tick octets) f = refl
turns-own o c r k (Timed port tick timer) f = refl
turns-own o c r k (Down port tick) f = refl
turns-own o c r k (Up port tick) f = refl
turns-own o c r k (Report port tick gener action outcome) f = refl
turns-own o c r k (Query tick text) f = refl

-- one more entry is one more turn of a follower or none
pub turns_by-more : (c : ℕ) (e : Entry) (before : List Entry)
    → turns_by c (e ∷ before) ≡ cond (is_turn_of c e.input) (turns_by c before + 1) (turns_by c before)
turns_by-more c e before =
    length-if (is_turn_of c e.input) e (filter (λ (x : Entry). is_turn_of c x.input) before)

-- a follower took as many turns as its entries have
pub turns-state_of : (s : Scenario) (entries : List Entry) (c : ℕ) (f : Follower)
    → slice_get (state_of s entries).followers c ≡ Some f → f.turns ≡ turns_by c entries
turns-state_of s [] c g there = ap (λ (f : Follower). f.turns) (sym (follower-opening s c g there))
turns-state_of s (e ∷ before) c g there =
    let h = state_of s before in
    let o = s.options in
    let old = follower-before s e before c g there in
    let f = old.0 in
    let x = event_of e in
    let mid = follower_between o h x c f in
    let posted = turns-posted (eqb h.roles.gener (roles_after o h x).gener)
    (holds (λ (last : Subscription). nat_le (core_after o h x).moment (last.moment + o.subscribe_duration)) f.subscribed)
    (notice_for (core_after o h x) (roles_after o h x) c) f in
    let same = posted ∙ turns-state_of s before c f old.1 in
    ap (λ (y : Follower). y.turns) (sym old.2)
    ∙ (turns-own o (core_after o h x) (roles_after o h x) c e.input mid
    ∙ (ap (λ (n : ℕ). cond (is_turn_of c e.input) (n + 1) n) same ∙ sym (turns_by-more c e before)))

-- ---- what the last entry told

-- a notice leaves what the last entry told
leading-posted : (b c : Bool) (notice : Notice) (f : Follower) → (cond b f (cond c (with_notice notice f) f)).leading ≡ f.leading
leading-posted true c notice f = refl
leading-posted false true notice f = refl
leading-posted false false notice f = refl

-- what a follower was told at a tick
abbrev told_with : ℕ → Option Told → Option TickLead
told_with tick told = option_map (λ lead. record { tick = tick; lead = lead }) (option_and_then (λ (x : Told). x.lead) told)

-- an entry of a follower's own tells what the follower then keeps
leading-own : (o : Options) (c : Core) (r : Roles) (k : ℕ) (input : Input) (fs : List Follower) (f : Follower)
    → is_same_actor (A_follower k) (actor_of input) ≡ true → slice_get fs k ≡ Some f
    → (own_turn o c r k input f).leading ≡ told_with (tick_of input) (told_by o c r input fs)
leading-own o c r k (Turn clock tick) fs f is there =
    subst (λ (n : ℕ). (own_turn o c r k (Turn n tick) f).leading ≡ told_with tick (told_by o c r (Turn n tick) fs)) (eqb-true k clock is)
    (ap (λ (x : Option Follower). told_with tick (option_map (told_at o c.moment tick (notice_for c r k)) x)) (sym there))
leading-own o c r k (Sampled clock tick lead theirs own action outcome) fs f is there = refl
leading-own o c r k (Frame port tick octets) fs f is there = absurd (false≢true is)
leading-own o c r k (Timed port tick timer) fs f is there = absurd (false≢true is)
leading-own o c r k (Down port tick) fs f is there = absurd (false≢true is)
leading-own o c r k (Up port tick) fs f is there = absurd (false≢true is)
leading-own o c r k (Report port tick gener action outcome) fs f is there = absurd (false≢true is)
leading-own o c r k (Query tick text) fs f is there = absurd (false≢true is)

-- what an entry that follows tells a follower
told-follower : (s : Scenario) (before : List Entry) (e : Entry) → Follows s before e
    → e.effects.told ≡ told_by s.options (core_after s.options (state_of s before) (event_of e)) (roles_after s.options (state_of s before) (event_of e)) e.input
    (followers_between s.options (state_of s before) (event_of e))
unfolding entry_after effects_of
told-follower s before e f = ap (λ (x : Entry). x.effects.told) f.made

-- a follower keeps what its own last entry told it to copy
pub leading-state_of : (s : Scenario) (entries : List Entry) → Continues s entries → (c : ℕ) (f : Follower)
    → slice_get (state_of s entries).followers c ≡ Some f → f.leading ≡ leading_by c entries
leading-state_of s [] continues c g there = ap (λ (f : Follower). f.leading) (sym (follower-opening s c g there))
leading-state_of s (e ∷ before) (follows, continues) c g there =
    ap (λ (y : Follower). y.leading) (sym old.2) ∙ by (is_by (A_follower c) e) refl (posted-same ∙ leading-state_of s before continues c old.0 old.1)
  where
    h : State
    h = state_of s before

    x : Event
    x = event_of e

    old : (f : Follower) × (slice_get (state_of s before).followers c ≡ Some f) × (follower_after s.options (state_of s before) (event_of e) c f ≡ g)
    old = follower-before s e before c g there

    mid : Follower
    mid = follower_between s.options (state_of s before) (event_of e) c old.0

    posted-same : mid.leading ≡ old.0.leading
    posted-same = leading-posted (eqb (state_of s before).roles.gener (roles_after s.options (state_of s before) (event_of e)).gener)
        (holds (λ (last : Subscription). nat_le (core_after s.options (state_of s before) (event_of e)).moment (last.moment + s.options.subscribe_duration)) old.0.subscribed)
        (notice_for (core_after s.options (state_of s before) (event_of e)) (roles_after s.options (state_of s before) (event_of e)) c) old.0

    by : (b : Bool) → is_by (A_follower c) e ≡ b → mid.leading ≡ leading_by c before
        → (cond b (own_turn s.options (core_after s.options (state_of s before) (event_of e)) (roles_after s.options (state_of s before) (event_of e)) c e.input mid) mid).leading
        ≡ cond b (led_with e) (leading_by c before)
    by true is rest =
        let between = between-at s.options (state_of s before) (event_of e) c
        ∙ ap (option_map (follower_between s.options (state_of s before) (event_of e) c)) old.1 in
        leading-own s.options (core_after s.options (state_of s before) (event_of e)) (roles_after s.options (state_of s before) (event_of e)) c e.input
        (followers_between s.options (state_of s before) (event_of e)) mid is between
        ∙ ap (told_with (tick_of e.input)) (sym (told-follower s before e follows))
    by false is rest = rest
