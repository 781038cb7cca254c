-- Texts stand for a scenario or have a first fault.
use Rattle.std.proofs.Common.{◌≡◌, ◌⊎◌, ℕ, zero, suc, ◌+◌, ◌<◌, List, Option, Some, None, refl, arith, inl, inr, below_more}
use Rattle.text_io.specs.declared.reason.Reason.{Reason}
use Rattle.text_io.specs.TextLines.{lines_of_text}
use Rattle.bc_history.specs.declared.scenario.Scenario.{Scenario}
use Rattle.bc_history.specs.Scenario.Draft.{scenario_of}
use Rattle.bc_history.specs.Scenario.LineFaults.{fault_at, draft_of, line_count, Stands, IsFirstFault}

-- one of the first k places is the first faulty one
pub record IsFaultBelow (lines : List (List ℕ)) (k : ℕ) : Type 0 where
  pub index : ℕ
  pub reason : Reason
  pub below : index < k
  pub faulty : fault_at lines index ≡ Some reason
  pub least : (n : ℕ) → n < index → fault_at lines n ≡ None

next_place : (lines : List (List ℕ)) (k : ℕ) (found : Option Reason) → fault_at lines k ≡ found → ((n : ℕ) → n < k → fault_at lines n ≡ None)
    → ((n : ℕ) → n < k + 1 → fault_at lines n ≡ None) ⊎ IsFaultBelow lines (k + 1)
next_place lines k None e none = inl (below_more (λ n. fault_at lines n ≡ None) k none e)
next_place lines k (Some reason) e none = inr (record { index = k; reason = reason; below = omega arith; faulty = e; least = none })

later : (lines : List (List ℕ)) (k : ℕ) → IsFaultBelow lines k → IsFaultBelow lines (k + 1)
later lines k f = record { index = f.index; reason = f.reason; below = omega (arith, f.below); faulty = f.faulty; least = f.least }

pub none_or_first : (lines : List (List ℕ)) (k : ℕ) → ((n : ℕ) → n < k → fault_at lines n ≡ None) ⊎ IsFaultBelow lines k
none_or_first lines zero = inl (λ n lt. absurd (omega arith))
none_or_first lines (suc k) =
    let same : suc k ≡ k + 1 = omega arith in
    rw same (elim (none_or_first lines k) [
      | inl none ↦ next_place lines k (fault_at lines k) refl none
      | inr f ↦ inr (later lines k f)
    ])

pub stands_or_faulty : (text : List ℕ) → ((s : Scenario) × Stands text s) ⊎ ((line : ℕ) × (reason : Reason) × IsFirstFault text line reason)
stands_or_faulty text = elim (none_or_first (lines_of_text text) (line_count text + 1)) [
  | inl none ↦ inl (scenario_of (draft_of (lines_of_text text)), record { faultless = λ n le. none n (omega arith); said = refl })
  | inr f ↦ inr (f.index + 1, f.reason, record { index = f.index; counted = refl; within = omega (arith, f.below); faulty = f.faulty; least = f.least })
]
