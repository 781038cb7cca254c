-- The state of a port after an event is the table's, and what the table says of ports that follow.
use Rattle.std.proofs.Common.{◌≡◌, ℕ, ◌⊎◌, Bool, true, false, cond, refl, sym, ap, ◌∙◌, eqb, inl, inr}
use Rattle.std.proofs.lemmas.Bool.{false≢true, eqb-true}
use Rattle.std.specs.Prelude.{Option}
use Rattle.ptp_base.specs.declared.code.Code.{Code}
use Rattle.ptp_base.specs.declared.code.Code.TheVariants.{Stay, S1}
use Rattle.ptp_base.specs.declared.announcement.Announcement.{Announcement}
use Rattle.ptp_base.specs.declared.port_state.PortState.{PortState}
use Rattle.ptp_base.specs.declared.port_state.PortState.TheVariants.{Initializing, Faulty, Disabled, Listening, PreMaster, Master, Passive, Uncalibrated, Slave}
use Rattle.ptp_profile.specs.declared.port_event.PortEvent.{PortEvent}
use Rattle.ptp_profile.specs.declared.port_event.PortEvent.TheVariants.{Decided}
use Rattle.ptp_profile.specs.Port.PortStates.{is_following, next, state_number}
use Rattle.ptp_profile.specs.Best.StateDecision.{code_of, is_received_on, decides_nothing}
use Rattle.ptp_profile.specs.Port.Port.{Port, after_event, after_entering, after_entering_uncalibrated, gets_parent, after_clearing, with_receipt_renewed}
use Rattle.ptp_profile.proofs.lemmas.StateDecisionLemmas.{code_of-S1, code_of-Stay}

-- ---- the state after an event

-- the state that a number is of
state_by : ℕ → PortState
state_by n =
    cond (eqb n 1) Initializing (cond (eqb n 2) Faulty (cond (eqb n 3) Disabled (cond (eqb n 4) Listening
    (cond (eqb n 5) PreMaster (cond (eqb n 6) Master (cond (eqb n 7) Passive (cond (eqb n 8) Uncalibrated Slave)))))))

-- it is the state of its number
state_by-number : (s : PortState) → state_by (state_number s) ≡ s
unfolding state_by
state_by-number Initializing = refl
state_by-number Faulty = refl
state_by-number Disabled = refl
state_by-number Listening = refl
state_by-number PreMaster = refl
state_by-number Master = refl
state_by-number Passive = refl
state_by-number Uncalibrated = refl
state_by-number Slave = refl

-- states of one number are one
same_state : (a b : PortState) → state_number a ≡ state_number b → a ≡ b
same_state a b e = sym (state_by-number a) ∙ (ap state_by e ∙ state_by-number b)

-- a port that enters UNCALIBRATED is in it
state-uncalibrated : (m : ℕ) (cause : PortEvent) (p : Port) → (after_entering_uncalibrated m cause p).state ≡ Uncalibrated
state-uncalibrated m (Decided code) p = refl
state-uncalibrated m _ p = refl

-- a port that enters a state is in it
state-entered : (m steps : ℕ) (cause : PortEvent) (s : PortState) (p : Port) → (after_entering m steps cause s p).state ≡ s
state-entered m steps cause Uncalibrated p = state-uncalibrated m cause p
state-entered m steps cause _ p = refl

-- a port that follows already, and is to follow another parent
parent_state : (cause : PortEvent) (is_new : Bool) (s : PortState) → gets_parent cause is_new s ≡ true
    → next s cause is_new ≡ Uncalibrated
parent_state cause false s h = absurd (false≢true h)
parent_state (Decided S1) true Uncalibrated h = refl
parent_state (Decided S1) true Slave h = refl
parent_state _ true _ h = absurd (false≢true h)

-- by what an event depends on: whether a port that follows gets a parent, and whether it stays
by_tests : (m steps : ℕ) (cause : PortEvent) (is_new : Bool) (p : Port) (b c : Bool) → gets_parent cause is_new p.state ≡ b
    → eqb (state_number (next p.state cause is_new)) (state_number p.state) ≡ c
    → (cond b (with_receipt_renewed m (record (after_clearing p) { state = Uncalibrated }))
    (cond c p (after_entering m steps cause (next p.state cause is_new) p))).state ≡ next p.state cause is_new
by_tests m steps cause is_new p true c e f = sym (parent_state cause is_new p.state e)
by_tests m steps cause is_new p false true e f =
    let s = next p.state cause is_new in
    same_state p.state s (sym (eqb-true (state_number s) (state_number p.state) f))
by_tests m steps cause is_new p false false e f = state-entered m steps cause (next p.state cause is_new) p

-- the state after an event is the table's
pub state-after_event : (m steps : ℕ) (cause : PortEvent) (is_new : Bool) (p : Port)
    → (after_event m steps cause is_new p).state ≡ next p.state cause is_new
state-after_event m steps cause is_new p =
    let s = next p.state cause is_new in
    by_tests m steps cause is_new p (gets_parent cause is_new p.state) (eqb (state_number s) (state_number p.state)) refl refl

-- ---- ports that follow

-- an event other than a decision
abbrev pub IsOwnEvent : PortEvent → Type 0
IsOwnEvent cause = (code : Code) → cause ≡ Decided code → ⊥

-- it lets no port follow that didn't
pub keeps_to_itself : (s : PortState) (cause : PortEvent) (is_new : Bool) → IsOwnEvent cause
    → is_following (next s cause is_new) ≡ true
    → is_following s ≡ true
keeps_to_itself Uncalibrated cause is_new own h = refl
keeps_to_itself Slave cause is_new own h = refl
keeps_to_itself s (Decided code) is_new own h = absurd (own code refl)
keeps_to_itself _ _ is_new own h = h

-- the code S1 lets a port follow; with the code Stay it stays
pub follows_by_code : (code : Code) (s : PortState) (is_new : Bool) → is_following (next s (Decided code) is_new) ≡ true
    → (code ≡ S1) ⊎ ((code ≡ Stay) × (is_following s ≡ true))
follows_by_code S1 s is_new h = inl refl
follows_by_code Stay Uncalibrated is_new h = inr (refl, refl)
follows_by_code Stay Slave is_new h = inr (refl, refl)
follows_by_code _ Initializing is_new h = absurd (false≢true h)
follows_by_code _ Faulty is_new h = absurd (false≢true h)
follows_by_code _ Disabled is_new h = absurd (false≢true h)
follows_by_code _ Listening is_new h = absurd (false≢true h)
follows_by_code _ PreMaster is_new h = absurd (false≢true h)
follows_by_code _ Master is_new h = absurd (false≢true h)
follows_by_code _ Passive is_new h = absurd (false≢true h)
follows_by_code _ Uncalibrated is_new h = absurd (false≢true h)
follows_by_code _ Slave is_new h = absurd (false≢true h)

-- a port that decides nothing follows nobody
stays_idle : (s : PortState) (erbest : Option Announcement) → decides_nothing s erbest ≡ true → is_following s ≡ true → ⊥
stays_idle Uncalibrated erbest stay h = false≢true stay
stays_idle Slave erbest stay h = false≢true stay
stays_idle _ erbest stay h = false≢true h

-- a port that follows after a decision is the one that the best announcement was received on
pub follows_best : (own : Announcement) (best : Option Announcement) (p : ℕ) (erbest : Option Announcement) (is_new : Bool)
    → (s : PortState) → is_following (next s (Decided (code_of own best p s erbest)) is_new) ≡ true → is_received_on p best ≡ true
follows_best own best p erbest is_new s h =
    elim (follows_by_code (code_of own best p s erbest) s is_new h) [
      | inl s1 ↦ code_of-S1 own best p s erbest s1
      | inr stay ↦ absurd (stays_idle s erbest (code_of-Stay own best p s erbest stay.0) stay.1)
    ]
