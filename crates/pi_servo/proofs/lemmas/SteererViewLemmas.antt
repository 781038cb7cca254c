-- The runs of generations, one after another.
use Rattle.std.proofs.Common.{◌≡◌, ◌≢◌, ℕ, ℤ, ◌+◌, Bool, true, false, cond, List, [], ◌∷◌, suc, take, Some, refl, ap, sym, subst, ◌∙◌, arith}
use Rattle.std.specs.Prelude.{take_while, ◌==◌}
use Rattle.std.specs.List.{prefix_len}
use Rattle.std.proofs.lemmas.Bool.Decides.{nat_tests}
use Rattle.ptp_profile.specs.declared.timing.Action.{Action}
use Rattle.ptp_profile.specs.declared.timing.ServoConf.{ServoConf}
use Rattle.ptp_profile.specs.Timing.Servo.{Sample, run_before, first_sample, action_after, newest_action}
use Rattle.pi_servo.specs.ServoView.{ServoRepresents}
use Rattle.pi_servo.specs.SteererView.{SteererView, SteererRepresents}

-- a run goes on
taken : (b : Bool) (n : ℕ) (y : Sample) (ys : List Sample) → b ≡ true → take (cond b (1 + n) 0) (y ∷ ys) ≡ y ∷ take n ys
taken true n y ys h = let e : 1 + n ≡ suc n = omega arith in ap (λ (k : ℕ). take k (y ∷ ys)) e
taken false n y ys h = absurd cc

run-same : (x y : Sample) (before : List Sample) → y.gener ≡ x.gener → run_before x (y ∷ before) ≡ y ∷ run_before y before
run-same x y before e =
    taken (y.gener == x.gener) (prefix_len (λ (z : Sample). z.gener == x.gener) before) y before (grind (arith, nat_tests, e))
    ∙ ap (λ (g : ℕ). y ∷ take_while (λ (z : Sample). z.gener == g) before) (sym e)

-- and another begins
left : (b : Bool) (n : ℕ) (y : Sample) (ys : List Sample) → b ≡ false → take (cond b (1 + n) 0) (y ∷ ys) ≡ []
left true n y ys h = absurd cc
left false n y ys h = refl

run-other : (x y : Sample) (before : List Sample) → y.gener ≢ x.gener → run_before x (y ∷ before) ≡ []
run-other x y before h = left (y.gener == x.gener) (prefix_len (λ (z : Sample). z.gener == x.gener) before) y before (grind (arith, nat_tests, h))

some_is : (a b : ℕ) → Some a ≡ Some b → a ≡ b
some_is a b e = cc

pub action-same : (conf : ServoConf) (x : Sample) (samples : List Sample) (old : SteererView) (action : Action) → SteererRepresents old conf samples → old.generation ≡ Some x.gener
    → ((freq : ℤ) (before : List Sample) → ServoRepresents old.servo conf freq before → action ≡ action_after conf freq x before)
    → action ≡ newest_action conf (x ∷ samples)
action-same conf x [] old action s g h = absurd cc
action-same conf x (y ∷ before) old action s g h =
    let e : y.gener ≡ x.gener = some_is _ _ (sym s.generation ∙ g) in
    h _ _ s.runs ∙ ap (λ (run : List Sample). action_after conf (first_sample x run).freq x run) (sym (run-same x y before e))

pub SteererRepresents-same : (conf : ServoConf) (x : Sample) (samples : List Sample) (old new : SteererView) → SteererRepresents old conf samples → old.generation ≡ Some x.gener
    → new.conf ≡ old.conf → new.generation ≡ old.generation
    → ((freq : ℤ) (before : List Sample) → ServoRepresents old.servo conf freq before → ServoRepresents new.servo conf freq (x ∷ before))
    → SteererRepresents new conf (x ∷ samples)
SteererRepresents-same conf x [] old new s g told kept h = absurd cc
SteererRepresents-same conf x (y ∷ before) old new s g told kept h =
    let e : y.gener ≡ x.gener = some_is _ _ (sym s.generation ∙ g) in
    record {
      configured = told ∙ s.configured;
      generation = kept ∙ g;
      runs = subst (λ (run : List Sample). ServoRepresents new.servo conf (first_sample x run).freq (x ∷ run)) (sym (run-same x y before e)) (h _ _ s.runs);
    }

run-new : (conf : ServoConf) (x : Sample) (samples : List Sample) (old : SteererView) → SteererRepresents old conf samples → old.generation ≢ Some x.gener → run_before x samples ≡ []
run-new conf x [] old s g = refl
run-new conf x (y ∷ before) old s g = run-other x y before (λ e. g (s.generation ∙ ap (λ (n : ℕ). Some n) e))

told-of : (conf : ServoConf) (samples : List Sample) (old : SteererView) → SteererRepresents old conf samples → old.conf ≡ conf
told-of conf [] old s = s.0
told-of conf (y ∷ before) old s = s.configured

pub action-new : (conf : ServoConf) (x : Sample) (samples : List Sample) (old : SteererView) (action : Action) → SteererRepresents old conf samples → old.generation ≢ Some x.gener
    → action ≡ action_after old.conf x.freq x [] → action ≡ newest_action conf (x ∷ samples)
action-new conf x samples old action s g h =
    h ∙ ap (λ (k : ServoConf). action_after k x.freq x []) (told-of conf samples old s)
    ∙ ap (λ (run : List Sample). action_after conf (first_sample x run).freq x run) (sym (run-new conf x samples old s g))

pub SteererRepresents-new : (conf : ServoConf) (x : Sample) (samples : List Sample) (old new : SteererView) → SteererRepresents old conf samples → old.generation ≢ Some x.gener
    → new.conf ≡ old.conf → new.generation ≡ Some x.gener → ServoRepresents new.servo old.conf x.freq (x ∷ []) → SteererRepresents new conf (x ∷ samples)
SteererRepresents-new conf x samples old new s g told is runs = record {
  configured = told ∙ told-of conf samples old s;
  generation = is;
  runs =
      subst (λ (run : List Sample). ServoRepresents new.servo conf (first_sample x run).freq (x ∷ run)) (sym (run-new conf x samples old s g))
      (subst (λ (k : ServoConf). ServoRepresents new.servo k x.freq (x ∷ [])) (told-of conf samples old s) runs);
}
