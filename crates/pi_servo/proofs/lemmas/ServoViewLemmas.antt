-- One more sample, and the run that it belongs to.
use Rattle.std.proofs.Common.{◌≡◌, ℤ, ◌+ℤ◌, Bool, true, false, not, cond, ◌&&◌, ◌||◌, List, ◌∷◌, refl, ap, sym, subst, ◌∙◌}
use Rattle.std.specs.Prelude.{int_lt}
use Rattle.ptp_profile.specs.declared.timing.Action.{Action}
use Rattle.ptp_profile.specs.declared.timing.Action.TheVariants.{Unlocked}
use Rattle.ptp_profile.specs.declared.timing.ServoConf.{ServoConf}
use Rattle.ptp_profile.specs.Timing.Servo.{Sample, Phase, NoSample, OneSample, Running, part, is_beyond, is_past_limit, estimate, makes_estimate, is_held, first_action, next_phase, next_drift, action_at, action_after}
use Rattle.pi_servo.specs.ServoView.{ServoView, ServoRepresents, ServoYields}
use Rattle.pi_servo.proofs.lemmas.CounteractionLemmas.{chosen_first}

-- a drift that isn't kept for the first of two reasons
pub later_drift : (b p : Bool) (r d s : ℤ) → b ≡ false → r ≡ cond p d s → r ≡ cond (b || p) d s
later_drift true p r d s is e = absurd cc
later_drift false p r d s is e = e

-- ---- what a servo does at a sample, by where it was

pub ServoYields-lock : (x : Sample) (old new : ServoView) (action : Action) (offset local : ℤ) → old.phase ≡ OneSample offset local → int_lt local x.local ≡ true
    → new.conf ≡ old.conf → new.phase ≡ Running → new.locked ≡ true → new.drift ≡ estimate old.conf x offset local old.drift
    → action ≡ first_action old.conf x old.locked new.drift → ServoYields x old new action
ServoYields-lock x old new action offset local was later conf phase locked drift acts = record {
  configured = conf;
  phase = subst (λ (ph : Phase). new.phase ≡ next_phase old.conf x ph) (sym was) (chosen_first (int_lt local x.local) _ Running NoSample later phase);
  locked = subst (λ (ph : Phase). new.locked ≡ (makes_estimate x ph || old.locked)) (sym was) (locked ∙ sym (ap (λ b. b || old.locked) later));
  drift = subst (λ (ph : Phase). new.drift ≡ next_drift old.conf x ph old.drift) (sym was) (chosen_first (int_lt local x.local) _ (estimate old.conf x offset local old.drift) old.drift later drift);
  acts =
      subst (λ (ph : Phase). action ≡ action_at old.conf x ph old.locked old.drift) (sym was)
      (chosen_first (int_lt local x.local) _ (first_action old.conf x old.locked (estimate old.conf x offset local old.drift)) Unlocked later
      (acts ∙ ap (λ d. first_action old.conf x old.locked d) drift));
}

pub ServoYields-run : (x : Sample) (old new : ServoView) (action : Action) → old.phase ≡ Running → new.conf ≡ old.conf → new.phase ≡ next_phase old.conf x Running
    → new.locked ≡ old.locked → new.drift ≡ next_drift old.conf x Running old.drift → action ≡ action_at old.conf x Running old.locked old.drift → ServoYields x old new action
ServoYields-run x old new action was conf phase locked drift acts = record {
  configured = conf;
  phase = subst (λ (ph : Phase). new.phase ≡ next_phase old.conf x ph) (sym was) phase;
  locked = subst (λ (ph : Phase). new.locked ≡ (makes_estimate x ph || old.locked)) (sym was) locked;
  drift = subst (λ (ph : Phase). new.drift ≡ next_drift old.conf x ph old.drift) (sym was) drift;
  acts = subst (λ (ph : Phase). action ≡ action_at old.conf x ph old.locked old.drift) (sym was) acts;
}

-- ---- what that means for its run

pub action-run : (conf : ServoConf) (freq : ℤ) (before : List Sample) (x : Sample) (old new : ServoView) (action : Action)
    → ServoYields x old new action → ServoRepresents old conf freq before → action ≡ action_after conf freq x before
action-run conf freq before x old new action s r = s.acts ∙ (λ i. action_at (r.configured i) x (r.phase i) (r.locked i) (r.drift i))

pub ServoRepresents-more : (conf : ServoConf) (freq : ℤ) (before : List Sample) (x : Sample) (old new : ServoView) (action : Action)
    → ServoYields x old new action → ServoRepresents old conf freq before → ServoRepresents new conf freq (x ∷ before)
ServoRepresents-more conf freq before x old new action s r = record {
  configured = s.configured ∙ r.configured;
  phase = s.phase ∙ (λ i. next_phase (r.configured i) x (r.phase i));
  locked = s.locked ∙ (λ i. makes_estimate x (r.phase i) || r.locked i);
  drift = s.drift ∙ (λ i. next_drift (r.configured i) x (r.phase i) (r.drift i));
}

stays : (b p : Bool) (d s : ℤ) → (not b && p) ≡ true → cond (b || p) d s ≡ d
stays true p d s h = refl
stays false true d s h = refl
stays false false d s h = absurd cc

pub drift-held : (conf : ServoConf) (x : Sample) (phase : Phase) (drift : ℤ) → is_held conf x phase drift ≡ true → next_drift conf x phase drift ≡ drift
drift-held conf x NoSample drift h = refl
drift-held conf x (OneSample offset local) drift h = absurd cc
drift-held conf x Running drift h = stays (is_beyond conf.step x.offset) (is_past_limit conf x drift) drift (drift +ℤ part conf.ki x.offset) h
