-- The timer that is due first, over all timers.
use Rattle.std.proofs.Common.{◌≡◌, ◌≤◌, ℕ, Option, Some, None, refl, sym, ap, subst, ◌∙◌, arith, inl, inr}
use Rattle.std.specs.Prelude.{List, fold, IfSome, filter_map}
use Rattle.std.specs.List.{cons_option}
use Rattle.std.specs.Option.{option_map}
use Rattle.ptp_base.specs.Least.{lesser}
use Rattle.ptp_profile.specs.declared.port_event.Timer.{Timer}
use Rattle.ptp_profile.specs.declared.port_event.Timer.TheVariants.{AnnounceReceipt, Qualification, AnnounceSend, SyncSend, DelayRequest}
use Rattle.ptp_profile.specs.Port.PortTimers.{Timers, timer_at, all_timers, set_timer, due_of}
use Rattle.ptp_profile.proofs.lemmas.MemberLemmas.{Has, has_filter_map, filter_map_has}
use Rattle.port_fsm.proofs.lemmas.LeastTimerLemmas.{IsBy, least_is, least_of_all}

abbrev pub moment : ℕ × Timer → ℕ
moment due = due.0

-- ---- one more timer, which is set or not
abbrev due_after : Option (ℕ × Timer) → List (ℕ × Timer) → Option (ℕ × Timer)
due_after first dues = fold (lesser moment) first dues

-- where `first` is due first so far, the later ones come to what they come to with this one before them
pub timer_more : (first next all : Option (ℕ × Timer)) (x : Timer) (o : Option ℕ) (dues : List (ℕ × Timer))
    → IfSome o (λ at. next ≡ lesser moment first (at, x)) → (o ≡ None → next ≡ first)
    → due_after first (cons_option (option_map (λ at. (at, x)) o) dues) ≡ all → due_after next dues ≡ all
timer_more first next all x None dues set cleared before = ap (λ (n : Option (ℕ × Timer)). due_after n dues) (cleared refl) ∙ before
timer_more first next all x (Some at) dues set cleared before = ap (λ (n : Option (ℕ × Timer)). due_after n dues) set ∙ before

-- ---- it is set for its moment
abbrev pub IsSetAt : Timers → ℕ × Timer → Type 0
IsSetAt t due = timer_at t due.1 ≡ Some due.0

is_set : (t : Timers) (x : Timer) (o : Option ℕ) (due : ℕ × Timer) → timer_at t x ≡ o → option_map (λ at. (at, x)) o ≡ Some due → IsSetAt t due
is_set t x None due e is = cc
is_set t x (Some at) due e is = cc

pub due_is_set : (t : Timers) → IfSome (due_of t) (IsSetAt t)
due_is_set t =
    least_is moment (IsSetAt t) None (filter_map (set_timer t) all_timers) tt
    (λ due has. let of = has_filter_map (set_timer t) all_timers due has in is_set t of.0 (timer_at t of.0) due refl of.2)

-- ---- no timer is set for less
is_one : (x : Timer) → Has all_timers x
is_one AnnounceReceipt = inl refl
is_one Qualification = inr (inl refl)
is_one AnnounceSend = inr (inr (inl refl))
is_one SyncSend = inr (inr (inr (inl refl)))
is_one DelayRequest = inr (inr (inr (inr (inl refl))))

pub due_by : (t : Timers) (x : Timer) (m : ℕ) → timer_at t x ≡ Some m → IsBy moment m (due_of t)
due_by t x m e =
    least_of_all moment m None (filter_map (set_timer t) all_timers) (m, x)
    (filter_map_has (set_timer t) all_timers x (m, x) (is_one x) (ap (option_map (λ at. (at, x))) e)) (omega arith)

abbrev pub IsLeastIn : Timers → ℕ × Timer → Type 0
IsLeastIn t due = (x : Timer) (m : ℕ) → timer_at t x ≡ Some m → due.0 ≤ m

least_by_all : (t : Timers) (o : Option (ℕ × Timer)) → ((x : Timer) (m : ℕ) → timer_at t x ≡ Some m → IsBy moment m o) → IfSome o (IsLeastIn t)
least_by_all t None h = tt
least_by_all t (Some due) h = h

pub due_is_least : (t : Timers) → IfSome (due_of t) (IsLeastIn t)
due_is_least t = least_by_all t (due_of t) (due_by t)

-- ---- no timer is set
none_by : (t : Timers) (x : Timer) (o : Option ℕ) → timer_at t x ≡ o → due_of t ≡ None → o ≡ None
none_by t x None e none = refl
none_by t x (Some m) e none = absurd (subst (IsBy moment m) none (due_by t x m e))

pub none_is_set : (t : Timers) → due_of t ≡ None → (x : Timer) → timer_at t x ≡ None
none_is_set t none x = none_by t x (timer_at t x) refl none

none_of : (t : Timers) (o : Option (ℕ × Timer)) → IfSome o (IsSetAt t) → ((x : Timer) → timer_at t x ≡ None) → o ≡ None
none_of t None is none = refl
none_of t (Some due) is none = let both = sym is ∙ none due.1 in cc

pub none_is_due : (t : Timers) → ((x : Timer) → timer_at t x ≡ None) → due_of t ≡ None
none_is_due t none = none_of t (due_of t) (due_is_set t) none
