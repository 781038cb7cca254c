-- Tests of the parts of an open run, for runs that are written out.
use Rattle.std.proofs.Common.{◌≡◌, ℕ, Bool, true, false, refl, sym, ◌∙◌, List, [], ◌∷◌, ◌++◌, length, leb, ltb, eqb, inl, inr, arith}
use Rattle.std.specs.Prelude.{◌&&◌, All, AllPairs}
use Rattle.std.proofs.lemmas.List.Kept.{AllPairs-cons}
use Rattle.std.proofs.lemmas.Bool.{false≢true, leb-true, ltb-true}
use Rattle.std.proofs.lemmas.Bool.Decides.{eqb_tells}
use Rattle.std.proofs.lemmas.List.Elements.{All-nil, All-cons}
use Rattle.ptp_profile.specs.declared.roles.RoleOrder.{RoleOrder}
use Rattle.ptp_profile.specs.declared.seats.LogEntry.{LogEntry}
use Rattle.bc_history.specs.declared.entry.Entry.{Entry}
use Rattle.bc_history.specs.declared.scenario.Scenario.{Scenario}
use Rattle.bc_history.specs.Phases.Inputs.{event_of}
use Rattle.run_legal.specs.Numbers.Marks.{Mark, Sight, hub_sights, sight_mark, marks_of, marks_in, of_clock}
use Rattle.run_legal.specs.Numbers.Knowledge.{GoesOn, AreRising, IsUpTo, IsNumbered, ComesAfter, known_to}
use Rattle.bc_history.specs.Run.Actors.{actor_of, entries_of}
use Rattle.ptp_profile.specs.Roles.SeatLogs.{log_at}
use Rattle.run_legal.specs.Numbers.LogNumbers.{order_numbers, numbers_in}

-- numbers that differ are not equal
pub other : (m n : ℕ) → eqb m n ≡ false → m ≡ n → ⊥
other m n h e = elim (eqb_tells m n) [ inl t ↦ false≢true (sym h ∙ t.0) | inr f ↦ f.1 e ]

both_left : (a b : Bool) → (a && b) ≡ true → a ≡ true
both_left true b h = refl
both_left false b h = h

both_right : (a b : Bool) → (a && b) ≡ true → b ≡ true
both_right true b h = h
both_right false b h = elim (false≢true h) [ ]

-- each element passes the test
abbrev pub passes : {X : Type 0} → (X → Bool) → List X → Bool
passes test [] = true
passes test (x ∷ xs) = test x && passes test xs

pub All-passes : {X : Type 0} (P : X → Type 0) (test : X → Bool) → ((x : X) → test x ≡ true → P x) → (xs : List X) → passes test xs ≡ true → All P xs
All-passes P test says [] h = All-nil P
All-passes P test says (x ∷ xs) h = All-cons P x xs (says x (both_left (test x) (passes test xs) h)) (All-passes P test says xs (both_right (test x) (passes test xs) h))

abbrev may_follow : Bool → (number former : ℕ) → Bool
may_follow true number former = ltb former number
may_follow false number former = leb former number

GoesOn-test : (c : Bool) (number former : ℕ) → may_follow c number former ≡ true → GoesOn c number former
GoesOn-test true number former h = ltb-true former number h
GoesOn-test false number former h = leb-true former number h

abbrev are_rising : List Mark → Bool
are_rising [] = true
are_rising (m ∷ former) = passes (λ (n : Mark). may_follow m.is_change m.number n.number) (of_clock m.clock former) && are_rising former

AreRising-test : (ms : List Mark) → are_rising ms ≡ true → AreRising ms
AreRising-test [] h = tt
AreRising-test (m ∷ former) h = (
  All-passes _ (λ (n : Mark). may_follow m.is_change m.number n.number) (λ n. GoesOn-test m.is_change m.number n.number) (of_clock m.clock former) (both_left (passes (λ (n : Mark). may_follow m.is_change m.number n.number) (of_clock m.clock former)) (are_rising former) h),
  AreRising-test former (both_right (passes (λ (n : Mark). may_follow m.is_change m.number n.number) (of_clock m.clock former)) (are_rising former) h),
)

abbrev is_up_to : Scenario → List (List LogEntry) → List Entry → Mark → Bool
is_up_to s logs entries m = passes (λ n. leb n m.number) (numbers_in s logs m.clock entries)

IsUpTo-test : (s : Scenario) (logs : List (List LogEntry)) (entries : List Entry) (m : Mark) → is_up_to s logs entries m ≡ true → IsUpTo s logs entries m
IsUpTo-test s logs entries m h = All-passes _ (λ n. leb n m.number) (λ n. leb-true n m.number) (numbers_in s logs m.clock entries) h

abbrev comes_after : Scenario → List (List LogEntry) → List Entry → RoleOrder → Bool
comes_after s logs before o = passes (λ n. passes (λ (m : Mark). ltb m.number n) (of_clock o.clock (marks_in s before))) (order_numbers logs o.clock (o ∷ []))

ComesAfter-test : (s : Scenario) (logs : List (List LogEntry)) (before : List Entry) (o : RoleOrder) → comes_after s logs before o ≡ true → ComesAfter s logs before o
ComesAfter-test s logs before o h =
    All-passes _ (λ n. passes (λ (m : Mark). ltb m.number n) (of_clock o.clock (marks_in s before)))
    (λ n. All-passes _ (λ (m : Mark). ltb m.number n) (λ m. ltb-true m.number n) (of_clock o.clock (marks_in s before)))
    (order_numbers logs o.clock (o ∷ [])) h

-- the numbers of an entry, by four tests and one
pub record Passes (s : Scenario) (logs : List (List LogEntry)) (e : Entry) (before : List Entry) : Type 0 where
  pub rising : are_rising (marks_of s (event_of e) ++ marks_in s (entries_of (actor_of e.input) before)) ≡ true
  pub within : passes (λ (m : Mark). leb m.number (length (log_at logs m.clock))) (marks_of s (event_of e)) ≡ true
  pub told : passes (is_up_to s logs (known_to (actor_of e.input) before)) (marks_of s (event_of e)) ≡ true
  pub read : passes (λ (sight : Sight). is_up_to s logs before (sight_mark sight)) (hub_sights s (event_of e)) ≡ true
  pub ordered : passes (comes_after s logs before) e.effects.orders ≡ true

pub IsNumbered-test : (s : Scenario) (logs : List (List LogEntry)) (e : Entry) (before : List Entry) → Passes s logs e before → IsNumbered s logs e before
IsNumbered-test s logs e before h = record {
  abreast = record {
    rising = AreRising-test _ h.rising;
    within = All-passes _ (λ (m : Mark). leb m.number (length (log_at logs m.clock))) (λ m. leb-true m.number (length (log_at logs m.clock))) (marks_of s (event_of e)) h.within;
    told = All-passes _ (is_up_to s logs (known_to (actor_of e.input) before)) (IsUpTo-test s logs (known_to (actor_of e.input) before)) (marks_of s (event_of e)) h.told;
    read = All-passes _ (λ (sight : Sight). is_up_to s logs before (sight_mark sight)) (λ sight. IsUpTo-test s logs before (sight_mark sight)) (hub_sights s (event_of e)) h.read;
  };
  ordered = All-passes _ (comes_after s logs before) (ComesAfter-test s logs before) e.effects.orders h.ordered;
}

-- each two elements pass the test, in their order
abbrev pub pairs_pass : {X : Type 0} → (X → X → Bool) → List X → Bool
pairs_pass test [] = true
pairs_pass test (x ∷ xs) = passes (test x) xs && pairs_pass test xs

pub AllPairs-passes : {X : Type 0} (R : X → X → Type 0) (test : X → X → Bool) → ((x y : X) → test x y ≡ true → R x y) → (xs : List X) → pairs_pass test xs ≡ true → AllPairs R xs
AllPairs-passes R test says [] h = λ i j d lt below. absurd (omega arith)
AllPairs-passes R test says (x ∷ xs) h =
    AllPairs-cons R x xs (All-passes (R x) (test x) (says x) xs (both_left (passes (test x) xs) (pairs_pass test xs) h)) (AllPairs-passes R test says xs (both_right (passes (test x) xs) (pairs_pass test xs) h))
