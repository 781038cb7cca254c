-- What stands behind the first space of a text, by where that space is.
use Rattle.std.proofs.Common.{◌≡◌, ℕ, ◌+◌, ◌-◌, ◌≤◌, List, [], length, take, drop, Bool, true, false, cond, Some, None, nat_lt, refl, sym, ap, ◌∙◌, arith}
use Rattle.std.proofs.lemmas.Bool.{ltb-false}
use Rattle.std.proofs.Math.ListN.{drop_of_length-le}
use Rattle.std.proofs.lemmas.Slice.{between_to_end}
use Rattle.std.specs.List.{position_or_len, position}
use Rattle.transcript.specs.LineReaders.{is_space, behind}

found_step : (n len m : ℕ) (v : Bool) → nat_lt n len ≡ v → Some m ≡ cond v (Some n) None → m ≡ n
found_step n len m true is some = cc
found_step n len m false is some = cc

pub behind_found : (text : List ℕ) (k : ℕ) → Some k ≡ position is_space text → take (length text - (k + 1)) (drop (k + 1) text) ≡ behind text
behind_found text k some =
    let at : k ≡ position_or_len is_space text = found_step (position_or_len is_space text) (length text) k (nat_lt (position_or_len is_space text) (length text)) refl some in
    between_to_end text (k + 1) (length text) (omega arith) ∙ ap (λ n. drop (n + 1) text) at

missed_step : (n len : ℕ) → (v : Bool) → nat_lt n len ≡ v → None ≡ cond v (Some n) None → len ≤ n
missed_step n len true is none = cc
missed_step n len false is none = ltb-false n len is

pub behind_missed : (text : List ℕ) → None ≡ position is_space text → [] ≡ behind text
behind_missed text none =
    let past : length text ≤ position_or_len is_space text = missed_step (position_or_len is_space text) (length text) (nat_lt (position_or_len is_space text) (length text)) refl none in
    sym (drop_of_length-le text (omega (arith, past)))
