-- The data of a TLV, as a slice of the message.
use Rattle.std.proofs.Common.{◌≡◌, ℕ, ◌+◌, ◌-◌, ◌≤◌, List, take, drop, sym, ap, ◌∙◌, arith, cond}
use Rattle.std.proofs.lemmas.List.{drop-take}
use Rattle.std.specs.Prelude.{◌==◌}
use Rattle.ptp_management.specs.declared.managed.Tlv.TheVariants.{Management, Error}
use Rattle.ptp_profile.specs.Wire.MessageFormat.{number_at}
use Rattle.ptp_management.specs.ManagementMessages.{tlv_at}

data_taken : (b : List ℕ) (n : ℕ) → 54 ≤ n → take (n - 54) (drop 54 b) ≡ drop 54 (take n b)
data_taken b n h =
    let whole : 54 + (n - 54) ≡ n = omega arith in
    sym (drop-take 54 (n - 54) b) ∙ ap (λ (k : ℕ). drop 54 (take k b)) whole

pub management_lent : (b : List ℕ) (id n kind : ℕ) → id ≡ number_at 52 2 b → n ≡ number_at 2 2 b → kind ≡ number_at 48 2 b → kind ≡ 1 → 54 ≤ n
    → Management id (take (n - 54) (drop 54 b)) ≡ tlv_at b
management_lent b id n kind first whole k one h =
    let is_one : number_at 48 2 b ≡ 1 = sym k ∙ one in
    let rest : take (n - 54) (drop 54 b) ≡ drop 54 (take (number_at 2 2 b) b) = data_taken b n h ∙ ap (λ (j : ℕ). drop 54 (take j b)) whole in
    let shut : Management id (take (n - 54) (drop 54 b)) ≡ Management (number_at 52 2 b) (drop 54 (take (number_at 2 2 b) b)) = λ i. Management (first i) (rest i) in
    let chosen : tlv_at b ≡ Management (number_at 52 2 b) (drop 54 (take (number_at 2 2 b) b)) =
    λ i. cond (is_one i == 1) (Management (number_at 52 2 b) (drop 54 (take (number_at 2 2 b) b))) (Error (number_at 52 2 b) (number_at 54 2 b)) in
    shut ∙ sym chosen
