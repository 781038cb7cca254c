-- Lists that are written one behind another into the front of a list.
use Rattle.std.proofs.Common.{◌≡◌, ℕ, ◌+◌, ◌-◌, ◌≤◌, List, ◌++◌, take, drop, sym, ap, ◌∙◌, arith}
use Rattle.std.proofs.lemmas.List.{drop-drop, take-append-drop}

-- what is the same from a place on is so from a later place on
drop-later : {X : Type 0} → (m n : ℕ) (xs ys : List X) → m ≤ n → drop m xs ≡ drop m ys → drop n xs ≡ drop n ys
drop-later m n xs ys le same =
    let sum : n ≡ m + (n - m) = omega arith in
    ap (λ (k : ℕ). drop k xs) sum ∙ sym (drop-drop (n - m) m xs) ∙ ap (drop (n - m)) same ∙ drop-drop (n - m) m ys ∙ ap (λ (k : ℕ). drop k ys) (sym sum)

-- two lists are written, and what is behind them stays
pub put_together : {X : Type 0} → (m n : ℕ) (out between first front behind : List X) → m ≤ n
    → take n out ≡ take m between ++ behind → take m between ≡ front → drop n out ≡ drop n between → drop m between ≡ drop m first
    → out ≡ (front ++ behind) ++ drop n first
put_together m n out between first front behind le both one later rest =
    sym (take-append-drop n out)
    ∙ ap (λ some. some ++ drop n out) (both ∙ ap (λ some. some ++ behind) one)
    ∙ ap (λ some. (front ++ behind) ++ some) (later ∙ drop-later m n between first le rest)
