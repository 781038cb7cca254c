-- What entering a state makes of a port.
use Rattle.std.proofs.Common.{◌≡◌, subst, ℕ, Bool, true, false, if◌then◌else◌}
use Rattle.ptp_base.specs.declared.port_conf.PortConf.{PortConf}
use Rattle.ptp_base.specs.declared.port_state.PortState.{PortState}
use Rattle.ptp_profile.specs.Port.PortTimers.{Timers}
use Rattle.ptp_profile.specs.Port.Port.{Port}
use Rattle.port_engine.specs.EngineView.{Engine, EngineRepresents}

abbrev pub state_of : Engine → PortState
state_of e = e.state

abbrev pub timers_of : Engine → Timers
timers_of e = e.timers

abbrev pub conf_of : Engine → PortConf
conf_of e = e.conf

pub with_timers : (length : ℕ) (e : Engine) (p : Port) (s : PortState) (t u : Timers) → t ≡ u
    → EngineRepresents length e (record p { state = s; timers = t }) → EngineRepresents length e (record p { state = s; timers = u })
with_timers length e p s t u same is = let P : Timers → Type 0 = λ v. EngineRepresents length e (record p { state = s; timers = v }) in subst P same is

pub first_holds : (length : ℕ) (e : Engine) (a b c : Port) (t u : Bool) → t ≡ true → EngineRepresents length e a → EngineRepresents length e (if t then a else if u then b else c)
first_holds length e a b c true u h is = is
first_holds length e a b c false u h is = absurd (cc)

pub second_holds : (length : ℕ) (e : Engine) (a b c : Port) (t u : Bool) → t ≡ false → u ≡ true → EngineRepresents length e b → EngineRepresents length e (if t then a else if u then b else c)
second_holds length e a b c false true h k is = is
second_holds length e a b c false false h k is = absurd (cc)
second_holds length e a b c true u h k is = absurd (cc)

pub none_holds : (length : ℕ) (e : Engine) (a b c : Port) (t u : Bool) → t ≡ false → u ≡ false → EngineRepresents length e c → EngineRepresents length e (if t then a else if u then b else c)
none_holds length e a b c false false h k is = is
none_holds length e a b c false true h k is = absurd (cc)
none_holds length e a b c true u h k is = absurd (cc)
