-- What one line adds to the effects of an entry: that line and those that have to stand behind it.
use Rattle.std.proofs.Common.{◌≡◌, ℕ, ◌<◌, ◌≤◌, Bool, true, false, cond, refl, sym, ap, ◌∙◌, List, [], ◌∷◌, ◌++◌, length, map, Option, Some, None, append_assoc, subst}
use Rattle.std.specs.Prelude.{nat_lt, ◌&&◌, IsTrue}
use Rattle.std.proofs.lemmas.Bool.{false≢true, ltb-true}
use Rattle.std.proofs.lemmas.List.{append-nil, map-append}
use Rattle.std.proofs.lemmas.List.Elements.{All-push}
use Rattle.ptp_base.specs.declared.identity.PortId.{PortId}
use Rattle.ptp_profile.specs.declared.timing.Measure.{Measure as A_measure}
use Rattle.bc_history.specs.declared.entry.Input.{Input}
use Rattle.bc_history.specs.declared.entry.Moved.{Moved}
use Rattle.bc_history.specs.declared.entry.Sent.{Sent as A_frame}
use Rattle.bc_history.specs.declared.entry.Effects.{Effects}
use Rattle.bc_history.specs.Phases.Inputs.{port_of}
use Rattle.ptp_management.specs.ManagementQueries.{shows}
use Rattle.bc_history.specs.Run.FormedRuns.{AreFormedEffects}
use Rattle.bc_history.specs.Run.Transcript.{answer_lines}
use Rattle.transcript.specs.declared.line.Line.{Line}
use Rattle.transcript.specs.declared.line.Line.TheVariants.{Head, Event, Fate, State, Parent, Order, Measure, Sent, Told, Asked, Answer, Printed, Clock, Logged, End}
use Rattle.transcript.specs.NextLines.{is_none, is_empty, none_from_asked, none_from_told, none_from_frames, none_from_measure, none_from_orders, none_from_parent, none_from_states, none_from_fate, may_follow, with_measure, with_effect, shown_behind}
use Rattle.transcript.specs.RunLines.{fate_lines, parent_lines, measure_lines, told_lines, asked_lines, answers_lines, effects_lines}
use Rattle.transcript.specs.TranscriptLines.{IsFormedLine}
use Rattle.transcript.specs.TypedLines.{IsTypedLine, IsTypedOrder, AreOctets}
use Rattle.transcript.specs.TypedRuns.{IsTypedMove, IsTypedSent, IsTypedEffects}
use Rattle.transcript.proofs.lemmas.MoveLemmas.{moves-more}
use Rattle.transcript.proofs.lemmas.RunLineLemmas.{answers_lines-push}

-- ---- tests

-- what a test lets through
pub chosen : {A : Type 0} (b : Bool) (x y : A) → cond b (Some x) None ≡ Some y → (b ≡ true) × (x ≡ y)
chosen true x y h = (refl, cc)
chosen false x y h = absurd (cc)

pub both : (a b : Bool) → (a && b) ≡ true → (a ≡ true) × (b ≡ true)
both true b h = (refl, h)
both false b h = absurd (false≢true h)

pub none_is : {A : Type 0} (o : Option A) → is_none o ≡ true → o ≡ None
none_is None h = refl
none_is (Some x) h = absurd (false≢true h)

pub empty_is : {A : Type 0} (xs : List A) → is_empty xs ≡ true → xs ≡ []
empty_is [] h = refl
empty_is (x ∷ xs) h = absurd (false≢true h)

-- ---- nothing stands from a kind on

-- a kind with one line at most
none_of : {A : Type 0} (lines : Option A → List Line) (o : Option A) (b : Bool) (rest : List Line) → lines None ≡ [] → (b ≡ true → rest ≡ []) → (is_none o && b) ≡ true → lines o ++ rest ≡ []
none_of lines o b rest empty further h =
    let parts = both (is_none o) b h in
    rw (none_is o parts.0, empty, further parts.1) refl

-- a kind with any number of lines
none_listed : {A : Type 0} (line : A → Line) (xs : List A) (b : Bool) (rest : List Line) → (b ≡ true → rest ≡ []) → (is_empty xs && b) ≡ true → map line xs ++ rest ≡ []
none_listed line xs b rest further h =
    let parts = both (is_empty xs) b h in
    rw (empty_is xs parts.0, further parts.1) refl

abbrev from_asked : Effects → List Line
from_asked f = asked_lines f.asked ++ answers_lines f.answers

abbrev from_told : Effects → List Line
from_told f = told_lines f.told ++ from_asked f

abbrev from_frames : Effects → List Line
from_frames f = map Sent f.frames ++ from_told f

abbrev from_measure : Effects → List Line
from_measure f = measure_lines f.measure ++ from_frames f

abbrev from_orders : Effects → List Line
from_orders f = map Order f.orders ++ from_measure f

abbrev from_parent : Effects → List Line
from_parent f = parent_lines f.parent ++ from_orders f

abbrev from_states : Effects → List Line
from_states f = map State f.states ++ from_parent f

none-answers : (answers : List (List ℕ)) → is_empty answers ≡ true → answers_lines answers ≡ []
none-answers answers h = ap answers_lines (empty_is answers h)

none-asked : (f : Effects) → none_from_asked f ≡ true → from_asked f ≡ []
none-asked f h = none_of asked_lines f.asked (is_empty f.answers) (answers_lines f.answers) refl (none-answers f.answers) h

none-told : (f : Effects) → none_from_told f ≡ true → from_told f ≡ []
none-told f h = none_of told_lines f.told (none_from_asked f) (from_asked f) refl (none-asked f) h

none-frames : (f : Effects) → none_from_frames f ≡ true → from_frames f ≡ []
none-frames f h = none_listed Sent f.frames (none_from_told f) (from_told f) (none-told f) h

none-measure : (f : Effects) → none_from_measure f ≡ true → from_measure f ≡ []
none-measure f h = none_of measure_lines f.measure (none_from_frames f) (from_frames f) refl (none-frames f) h

none-orders : (f : Effects) → none_from_orders f ≡ true → from_orders f ≡ []
none-orders f h = none_listed Order f.orders (none_from_measure f) (from_measure f) (none-measure f) h

none-parent : (f : Effects) → none_from_parent f ≡ true → from_parent f ≡ []
none-parent f h = none_of parent_lines f.parent (none_from_orders f) (from_orders f) refl (none-orders f) h

none-states : (f : Effects) → none_from_states f ≡ true → from_states f ≡ []
none-states f h = none_listed State f.states (none_from_parent f) (from_parent f) (none-parent f) h

none-fate : (f : Effects) → none_from_fate f ≡ true → fate_lines f.fate ++ from_states f ≡ []
none-fate f h = none_of fate_lines f.fate (none_from_states f) (from_states f) refl (none-states f) h

-- ---- a line more

-- below others
under : (front before more after : List Line) → before ++ more ≡ after → (front ++ before) ++ more ≡ front ++ after
under front before more after h = append_assoc front before more ∙ ap (λ (ls : List Line). front ++ ls) h

-- the one line of its kind, where nothing stands from that kind on
alone : (x : Line) (own rest : List Line) → own ≡ [] → rest ≡ [] → own ++ x ∷ [] ≡ x ∷ rest
alone x own rest none empty = rw (none, empty) refl

-- one line more of its kind, where nothing stands behind it
pushed : {A : Type 0} (line : A → Line) (xs : List A) (x : A) (rest : List Line) → rest ≡ [] → (map line xs ++ rest) ++ line x ∷ [] ≡ map line (xs ++ x ∷ []) ++ rest
pushed line xs x rest empty = rw (empty, append-nil (map line xs), map-append line xs (x ∷ []), append-nil (map line xs ++ line x ∷ [])) refl

-- what one line does to effects
pub record IsEffectStep (input : Input) (f : Effects) (x : Line) (g : Effects) : Type 0 where
  pub lines : effects_lines f ++ (x ∷ map Printed (shown_behind x)) ≡ effects_lines g
  pub formed : AreFormedEffects input f → AreFormedEffects input g
  pub typed : IsTypedEffects f → IsTypedEffects g

step_to : (input : Input) (f g h : Effects) (x : Line) → g ≡ h → IsEffectStep input f x g → IsEffectStep input f x h
step_to input f g h x e step = subst (λ (k : Effects). IsEffectStep input f x k) e step

fate_step : (input : Input) (f : Effects) (fate : _) → none_from_fate f ≡ true → IsEffectStep input f (Fate fate) (record f { fate = Some fate })
unfolding effects_lines
fate_step input f fate h = record {
  lines = alone (Fate fate) (fate_lines f.fate ++ from_states f) (from_states f) (none-fate f h) (none-states f ((both (is_none f.fate) (none_from_states f) h).1));
  formed = λ formed. record { states = formed.states; measure = formed.measure; frames = formed.frames; answers = formed.answers };
  typed = λ t. record { states = t.states; parent = t.parent; orders = t.orders; measure = t.measure; frames = t.frames; told = t.told; answers = t.answers };
}

state_step : (input : Input) (f : Effects) (m : Moved) → IsTypedMove m → (none_from_parent f && may_follow f.states m) ≡ true → IsEffectStep input f (State m) (record f { states = f.states ++ m ∷ [] })
unfolding effects_lines
state_step input f m within h =
    let parts = both (none_from_parent f) (may_follow f.states m) h in
    record {
      lines = under (fate_lines f.fate) (from_states f) (State m ∷ []) (map State (f.states ++ m ∷ []) ++ from_parent f) (pushed State f.states m (from_parent f) (none-parent f parts.0));
      formed = λ formed. record { states = moves-more f.states m formed.states parts.1; measure = formed.measure; frames = formed.frames; answers = formed.answers };
      typed = λ t. record { states = All-push IsTypedMove f.states m t.states within; parent = t.parent; orders = t.orders; measure = t.measure; frames = t.frames; told = t.told; answers = t.answers };
    }

parent_step : (input : Input) (f : Effects) (parent : PortId) → IsTypedLine (Parent parent) → none_from_parent f ≡ true → IsEffectStep input f (Parent parent) (record f { parent = Some parent })
unfolding effects_lines
parent_step input f parent within h = record {
  lines = under (fate_lines f.fate) (from_states f) (Parent parent ∷ []) _ (under (map State f.states) (from_parent f) (Parent parent ∷ []) (Parent parent ∷ from_orders f)
      (alone (Parent parent) (from_parent f) (from_orders f) (none-parent f h) (none-orders f ((both (is_none f.parent) (none_from_orders f) h).1))));
  formed = λ formed. record { states = formed.states; measure = formed.measure; frames = formed.frames; answers = formed.answers };
  typed = λ t. record { states = t.states; parent = within; orders = t.orders; measure = t.measure; frames = t.frames; told = t.told; answers = t.answers };
}

order_step : (input : Input) (f : Effects) (order : _) → IsTypedOrder order → none_from_measure f ≡ true → IsEffectStep input f (Order order) (record f { orders = f.orders ++ order ∷ [] })
unfolding effects_lines
order_step input f order within h = record {
  lines = under (fate_lines f.fate) (from_states f) (Order order ∷ []) _ (under (map State f.states) (from_parent f) (Order order ∷ []) _ (under (parent_lines f.parent) (from_orders f) (Order order ∷ []) _
      (pushed Order f.orders order (from_measure f) (none-measure f h))));
  formed = λ formed. record { states = formed.states; measure = formed.measure; frames = formed.frames; answers = formed.answers };
  typed = λ t. record { states = t.states; parent = t.parent; orders = All-push IsTypedOrder f.orders order t.orders within; measure = t.measure; frames = t.frames; told = t.told; answers = t.answers };
}

measure_step : (input : Input) (f : Effects) (measure : A_measure) (gener clock port : ℕ) → IsTypedLine (Measure measure gener clock) → port_of input ≡ Some port → port < 256 → none_from_measure f ≡ true
    → IsEffectStep input f (Measure measure gener clock) (record f { measure = Some (measure, record { clock = clock; gener = gener; ctrl = port }) })
unfolding effects_lines
measure_step input f measure gener clock port within is below h =
    let x = Measure measure gener clock in
    record {
      lines = under (fate_lines f.fate) (from_states f) (x ∷ []) _ (under (map State f.states) (from_parent f) (x ∷ []) _ (under (parent_lines f.parent) (from_orders f) (x ∷ []) _ (under (map Order f.orders) (from_measure f) (x ∷ []) (x ∷ from_frames f)
          (alone x (from_measure f) (from_frames f) (none-measure f h) (none-frames f ((both (is_none f.measure) (none_from_frames f) h).1))))));
      formed = λ formed. record { states = formed.states; measure = is; frames = formed.frames; answers = formed.answers };
      typed = λ t. record { states = t.states; parent = t.parent; orders = t.orders; measure = (within.0, (within.2, within.1, below)); frames = t.frames; told = t.told; answers = t.answers };
    }

frame_step : (input : Input) (f : Effects) (sent : A_frame) → IsFormedLine (Sent sent) → IsTypedSent sent → none_from_told f ≡ true → IsEffectStep input f (Sent sent) (record f { frames = f.frames ++ sent ∷ [] })
unfolding effects_lines
frame_step input f sent some within h =
    let x = Sent sent in
    record {
      lines = under (fate_lines f.fate) (from_states f) (x ∷ []) _ (under (map State f.states) (from_parent f) (x ∷ []) _ (under (parent_lines f.parent) (from_orders f) (x ∷ []) _ (under (map Order f.orders) (from_measure f) (x ∷ []) _
          (under (measure_lines f.measure) (from_frames f) (x ∷ []) _ (pushed Sent f.frames sent (from_told f) (none-told f h))))));
      formed = λ formed. record { states = formed.states; measure = formed.measure; frames = All-push (λ (sent : A_frame). 1 ≤ length sent.octets) f.frames sent formed.frames some; answers = formed.answers };
      typed = λ t. record { states = t.states; parent = t.parent; orders = t.orders; measure = t.measure; frames = All-push IsTypedSent f.frames sent t.frames within; told = t.told; answers = t.answers };
    }

told_step : (input : Input) (f : Effects) (told : _) → IsTypedLine (Told told) → none_from_told f ≡ true → IsEffectStep input f (Told told) (record f { told = Some told })
unfolding effects_lines
told_step input f told within h =
    let x = Told told in
    record {
      lines = under (fate_lines f.fate) (from_states f) (x ∷ []) _ (under (map State f.states) (from_parent f) (x ∷ []) _ (under (parent_lines f.parent) (from_orders f) (x ∷ []) _ (under (map Order f.orders) (from_measure f) (x ∷ []) _
          (under (measure_lines f.measure) (from_frames f) (x ∷ []) _ (under (map Sent f.frames) (from_told f) (x ∷ []) (x ∷ from_asked f)
          (alone x (from_told f) (from_asked f) (none-told f h) (none-asked f ((both (is_none f.told) (none_from_asked f) h).1))))))));
      formed = λ formed. record { states = formed.states; measure = formed.measure; frames = formed.frames; answers = formed.answers };
      typed = λ t. record { states = t.states; parent = t.parent; orders = t.orders; measure = t.measure; frames = t.frames; told = within; answers = t.answers };
    }

asked_step : (input : Input) (f : Effects) (error : _) → none_from_asked f ≡ true → IsEffectStep input f (Asked error) (record f { asked = Some error })
unfolding effects_lines
asked_step input f error h =
    let x = Asked error in
    record {
      lines = under (fate_lines f.fate) (from_states f) (x ∷ []) _ (under (map State f.states) (from_parent f) (x ∷ []) _ (under (parent_lines f.parent) (from_orders f) (x ∷ []) _ (under (map Order f.orders) (from_measure f) (x ∷ []) _
          (under (measure_lines f.measure) (from_frames f) (x ∷ []) _ (under (map Sent f.frames) (from_told f) (x ∷ []) _ (under (told_lines f.told) (from_asked f) (x ∷ []) (x ∷ answers_lines f.answers)
          (alone x (from_asked f) (answers_lines f.answers) (none-asked f h) (none-answers f.answers ((both (is_none f.asked) (is_empty f.answers) h).1)))))))));
      formed = λ formed. record { states = formed.states; measure = formed.measure; frames = formed.frames; answers = formed.answers };
      typed = λ t. record { states = t.states; parent = t.parent; orders = t.orders; measure = t.measure; frames = t.frames; told = t.told; answers = t.answers };
    }

answer_step : (input : Input) (f : Effects) (answer : List ℕ) → IsTrue (shows answer) → AreOctets answer → IsEffectStep input f (Answer answer) (record f { answers = f.answers ++ answer ∷ [] })
unfolding effects_lines
answer_step input f answer can within =
    let x : List Line = Answer answer ∷ map Printed (answer_lines answer) in
    record {
      lines = under (fate_lines f.fate) (from_states f) x _ (under (map State f.states) (from_parent f) x _ (under (parent_lines f.parent) (from_orders f) x _ (under (map Order f.orders) (from_measure f) x _
          (under (measure_lines f.measure) (from_frames f) x _ (under (map Sent f.frames) (from_told f) x _ (under (told_lines f.told) (from_asked f) x _ (under (asked_lines f.asked) (answers_lines f.answers) x _
          (sym (answers_lines-push f.answers answer)))))))));
      formed = λ formed. record { states = formed.states; measure = formed.measure; frames = formed.frames; answers = All-push (λ (answer : List ℕ). IsTrue (shows answer)) f.answers answer formed.answers can };
      typed = λ t. record { states = t.states; parent = t.parent; orders = t.orders; measure = t.measure; frames = t.frames; told = t.told; answers = All-push AreOctets f.answers answer t.answers within };
    }

measured : (input : Input) (f g : Effects) (measure : A_measure) (gener clock : ℕ) → IsTypedLine (Measure measure gener clock) → none_from_measure f ≡ true
    → (port : Option ℕ) → port_of input ≡ port → with_measure f measure gener clock port ≡ Some g → IsEffectStep input f (Measure measure gener clock) g
measured input f g measure gener clock within none None is h = absurd (cc)
measured input f g measure gener clock within none (Some port) is h =
    let done : Effects = record f { measure = Some (measure, record { clock = clock; gener = gener; ctrl = port }) } in
    let parts = chosen (nat_lt port 256) done g h in
    step_to input f done g (Measure measure gener clock) parts.1 (measure_step input f measure gener clock port within is (ltb-true port 256 parts.0) none)

chosen_some : {A : Type 0} (b : Bool) (o : Option A) (y : A) → cond b o None ≡ Some y → (b ≡ true) × (o ≡ Some y)
chosen_some true o y h = (refl, h)
chosen_some false o y h = absurd (cc)

-- each line of an effect does so
pub effect_step : (input : Input) (f g : Effects) (x : Line) → IsFormedLine x → IsTypedLine x → with_effect input f x ≡ Some g → IsEffectStep input f x g
effect_step input f g Head formed within h = absurd (cc)
effect_step input f g (Event number moment other seen) formed within h = absurd (cc)
effect_step input f g (Fate fate) formed within h =
    let parts = chosen (none_from_fate f) (record f { fate = Some fate }) g h in
    step_to input f _ g (Fate fate) parts.1 (fate_step input f fate parts.0)
effect_step input f g (State m) formed within h =
    let parts = chosen (none_from_parent f && may_follow f.states m) (record f { states = f.states ++ m ∷ [] }) g h in
    step_to input f _ g (State m) parts.1 (state_step input f m within parts.0)
effect_step input f g (Parent parent) formed within h =
    let parts = chosen (none_from_parent f) (record f { parent = Some parent }) g h in
    step_to input f _ g (Parent parent) parts.1 (parent_step input f parent within parts.0)
effect_step input f g (Order order) formed within h =
    let parts = chosen (none_from_measure f) (record f { orders = f.orders ++ order ∷ [] }) g h in
    step_to input f _ g (Order order) parts.1 (order_step input f order within parts.0)
effect_step input f g (Measure measure gener clock) formed within h =
    let parts = chosen_some (none_from_measure f) (with_measure f measure gener clock (port_of input)) g h in
    measured input f g measure gener clock within parts.0 (port_of input) refl parts.1
effect_step input f g (Sent sent) formed within h =
    let parts = chosen (none_from_told f) (record f { frames = f.frames ++ sent ∷ [] }) g h in
    step_to input f _ g (Sent sent) parts.1 (frame_step input f sent formed within parts.0)
effect_step input f g (Told told) formed within h =
    let parts = chosen (none_from_told f) (record f { told = Some told }) g h in
    step_to input f _ g (Told told) parts.1 (told_step input f told within parts.0)
effect_step input f g (Asked error) formed within h =
    let parts = chosen (none_from_asked f) (record f { asked = Some error }) g h in
    step_to input f _ g (Asked error) parts.1 (asked_step input f error parts.0)
effect_step input f g (Answer answer) formed within h =
    let same : record f { answers = f.answers ++ answer ∷ [] } ≡ g = cc in
    step_to input f _ g (Answer answer) same (answer_step input f answer formed within)
effect_step input f g (Printed text) formed within h = absurd (cc)
effect_step input f g (Clock clock time drift) formed within h = absurd (cc)
effect_step input f g (Logged clock number entry) formed within h = absurd (cc)
effect_step input f g (End number) formed within h = absurd (cc)
