-- A text read line by line.
use Rattle.std.proofs.Common.{◌≡◌, ℕ, zero, suc, ◌+◌, ◌^◌, ◌<◌, ◌≤◌, List, [], ◌∷◌, ◌++◌, length, take, drop, Some, None, refl, sym, ◌∙◌, ap, arith, below_more, length-drop}
use Rattle.std.specs.Prelude.{slice_get}
use Rattle.std.proofs.lemmas.List.Sums.{fold-append}
use Rattle.text_io.specs.declared.reason.Reason.{Reason}
use Rattle.text_io.specs.TextLines.{lines_of_text}
use Rattle.bstr.proofs.lemmas.LengthLemmas.{length-lines}
use Rattle.bc_config.specs.declared.refusal.LineError.{LineError}
use Rattle.bc_config.specs.declared.refusal.LineError.TheVariants.{Fault, NoMemory}
use Rattle.bc_config.specs.LineErrors.{Tells}
use Rattle.bc_config.specs.Refusal.{IsRefusedBy, refusal_at}
use Rattle.bc_history.specs.declared.scenario.Scenario.{Scenario}
use Rattle.bc_history.specs.Scenario.Draft.{Draft, empty_draft, scenario_of}
use Rattle.bc_history.specs.Scenario.LineFaults.{fault, with_line, fault_behind, fault_at, draft_of, line_count, end_fault, Stands, IsFirstFault}

-- the first lines of a text are read: none of them is faulty, and the draft is what they say
pub record IsReadTo (text : List ℕ) (rest : List (List ℕ)) (number : ℕ) (draft : Draft) : Type 0 where
  pub left : rest ≡ drop number (lines_of_text text)
  pub within : number ≤ line_count text
  pub said : draft ≡ draft_of (take number (lines_of_text text))
  pub faultless : (n : ℕ) → n < number → fault_at (lines_of_text text) n ≡ None

-- ---- a list cut before one of its elements

record IsCut {A : Type 0} (xs : List A) (n : ℕ) (x : A) (rest : List A) : Type 0 where
  front : take (suc n) xs ≡ take n xs ++ x ∷ []
  there : slice_get xs n ≡ Some x
  behind : drop (suc n) xs ≡ rest
  within : n < length xs

cut : {A : Type 0} (xs : List A) (n : ℕ) (x : A) (rest : List A) → drop n xs ≡ x ∷ rest → IsCut xs n x rest
cut [] zero x rest e = cc
cut [] (suc n) x rest e = cc
cut (y ∷ ys) zero x rest e =
    let first : y ≡ x = cc in
    let others : ys ≡ rest = cc in
    record { front = ap (λ z. z ∷ []) first; there = ap Some first; behind = others; within = omega arith }
cut (y ∷ ys) (suc n) x rest e =
    let c : IsCut ys n x rest = cut ys n x rest e in
    record { front = ap (λ zs. y ∷ zs) c.front; there = c.there; behind = c.behind; within = omega (arith, c.within) }

past : {A : Type 0} (xs : List A) → slice_get xs (length xs) ≡ None
past [] = refl
past (x ∷ xs) = past xs

all_taken : {A : Type 0} (xs : List A) → take (length xs) xs ≡ xs
all_taken [] = refl
all_taken (x ∷ xs) = ap (λ ys. x ∷ ys) (all_taken xs)

-- ---- reading

pub start : (text : List ℕ) (rest : List (List ℕ)) (draft : Draft) → rest ≡ lines_of_text text → draft ≡ empty_draft → IsReadTo text rest 0 draft
start text rest draft all empty = record { left = all; within = omega arith; said = empty; faultless = λ n lt. absurd (omega arith) }

-- the line behind those that are read, and what is wrong with it
judged : (text : List ℕ) (rest : List (List ℕ)) (number : ℕ) (draft : Draft) (line : List ℕ) (more : List (List ℕ)) → IsReadTo text rest number draft → rest ≡ line ∷ more
    → fault_at (lines_of_text text) number ≡ fault draft line
judged text rest number draft line more r e =
    let c : IsCut (lines_of_text text) number line more = cut (lines_of_text text) number line more (sym r.left ∙ e) in
    ap (fault_behind (take number (lines_of_text text))) c.there ∙ ap (λ d. fault d line) (sym r.said)

pub step : (text : List ℕ) (rest : List (List ℕ)) (number : ℕ) (draft : Draft) (line : List ℕ) (more : List (List ℕ)) (next : Draft) → IsReadTo text rest number draft → rest ≡ line ∷ more
    → fault draft line ≡ None → next ≡ with_line draft line → IsReadTo text more (number + 1) next
step text rest number draft line more next r e good new =
    let c : IsCut (lines_of_text text) number line more = cut (lines_of_text text) number line more (sym r.left ∙ e) in
    let one : number + 1 ≡ suc number = omega arith in
    let longer : draft_of (take (suc number) (lines_of_text text)) ≡ with_line (draft_of (take number (lines_of_text text))) line =
    ap draft_of c.front ∙ fold-append with_line empty_draft (take number (lines_of_text text)) (line ∷ []) in
    record {
      left = rw one (sym c.behind);
      within = omega (arith, c.within);
      said = rw one (new ∙ ap (λ d. with_line d line) r.said ∙ sym longer);
      faultless = below_more (λ n. fault_at (lines_of_text text) n ≡ None) number r.faultless (judged text rest number draft line more r e ∙ good);
    }

pub faulty : (text : List ℕ) (rest : List (List ℕ)) (number : ℕ) (draft : Draft) (line : List ℕ) (more : List (List ℕ)) (reason : Reason) → IsReadTo text rest number draft → rest ≡ line ∷ more
    → fault draft line ≡ Some reason → IsFirstFault text (number + 1) reason
faulty text rest number draft line more reason r e bad =
    record { index = number; counted = refl; within = r.within; faulty = judged text rest number draft line more r e ∙ bad; least = r.faultless }

pub refused : (text : List ℕ) (rest : List (List ℕ)) (number : ℕ) (draft : Draft) (line : List ℕ) (more : List (List ℕ)) (error : LineError) → IsReadTo text rest number draft → rest ≡ line ∷ more
    → Tells error (fault draft line) → IsRefusedBy text (refusal_at (number + 1) error)
refused text rest number draft line more (Fault reason) r e told = faulty text rest number draft line more reason r e told
refused text rest number draft line more NoMemory r e told = tt

-- nothing is left, so all lines are read
all_read : (text : List ℕ) (rest : List (List ℕ)) (number : ℕ) (draft : Draft) → IsReadTo text rest number draft → rest ≡ [] → number ≡ line_count text
all_read text rest number draft r none =
    let left : length (drop number (lines_of_text text)) ≡ 0 = ap length (sym r.left ∙ none) in
    omega (arith, r.within, left, length-drop number (lines_of_text text))

said_whole : (text : List ℕ) (rest : List (List ℕ)) (number : ℕ) (draft : Draft) → IsReadTo text rest number draft → rest ≡ [] → draft ≡ draft_of (lines_of_text text)
said_whole text rest number draft r none =
    let all : number ≡ line_count text = all_read text rest number draft r none in
    r.said ∙ ap draft_of (ap (λ n. take n (lines_of_text text)) all ∙ all_taken (lines_of_text text))

end_judged : (text : List ℕ) (rest : List (List ℕ)) (number : ℕ) (draft : Draft) → IsReadTo text rest number draft → rest ≡ [] → fault_at (lines_of_text text) number ≡ end_fault draft
end_judged text rest number draft r none =
    let all : number ≡ line_count text = all_read text rest number draft r none in
    let gone : slice_get (lines_of_text text) number ≡ None = ap (slice_get (lines_of_text text)) all ∙ past (lines_of_text text) in
    ap (fault_behind (take number (lines_of_text text))) gone ∙ ap end_fault (sym r.said)

pub end_faulty : (text : List ℕ) (rest : List (List ℕ)) (number : ℕ) (draft : Draft) (reason : Reason) → IsReadTo text rest number draft → rest ≡ [] → end_fault draft ≡ Some reason → IsFirstFault text (number + 1) reason
end_faulty text rest number draft reason r none bad =
    record { index = number; counted = refl; within = r.within; faulty = end_judged text rest number draft r none ∙ bad; least = r.faultless }

pub stands : (text : List ℕ) (rest : List (List ℕ)) (number : ℕ) (draft : Draft) (s : Scenario) → IsReadTo text rest number draft → rest ≡ [] → end_fault draft ≡ None → s ≡ scenario_of draft → Stands text s
stands text rest number draft s r none good made =
    let all : number ≡ line_count text = all_read text rest number draft r none in
    let through : (n : ℕ) → n < number + 1 → fault_at (lines_of_text text) n ≡ None =
    below_more (λ n. fault_at (lines_of_text text) n ≡ None) number r.faultless (end_judged text rest number draft r none ∙ good) in
    record { faultless = λ n le. through n (omega arith); said = made ∙ ap scenario_of (said_whole text rest number draft r none) }

-- line numbers fit, also that behind the last line
pub number_fits : (text : List ℕ) (rest : List (List ℕ)) (number : ℕ) (draft : Draft) → length text < 4294967295 → IsReadTo text rest number draft → number + 1 < 2 ^ 32
number_fits text rest number draft short r = omega (arith, r.within, length-lines text)
