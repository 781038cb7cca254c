-- The table of options gone through row by row.
use Rattle.std.proofs.Common.{◌≡◌, ℕ, zero, suc, ◌+◌, ◌<◌, ◌≤◌, Bool, true, false, List, [], ◌∷◌, length, take, fold, Option, Some, None, ℤ, refl, sym, ◌∙◌, ap, arith, rules, below_more}
use Rattle.std.specs.Prelude.{slice_get, option_map}
use Rattle.std.specs.List.{position, position_or_len}
use Rattle.std.specs.Option.{option_map_or}
use Rattle.std.proofs.lemmas.Option.{slice_get_within, slice_get_past}
use Rattle.bc_history.specs.declared.option.Scope.{Scope}
use Rattle.bc_history.specs.Scenario.OptionTable.{Row, PlacedRow, option_table, placed_row, row_of, is_named, option_named, options_with, port_with, clock_with, with_option, with_port_option, with_clock_option, EachRow}
use Rattle.bc_history.specs.Scenario.Defaults.{default_options, plain_port}
use Rattle.model_clock.specs.Clock.{plain_clock}
use Rattle.bc_history.proofs.lemmas.OptionRuleLemmas.{row_at}
use Rattle.bc_config.specs.declared.table.Settings.{Settings}
use Rattle.bc_config.specs.OptionRanges.{HasRoom, IsInRowRange, IsInRange}
use Rattle.bc_config.specs.UnsetOptions.{no_settings}

-- ---- rows by their numbers

-- a row that is there has its place in the table
placed : (number : ℕ) (row : Row) (found : Option PlacedRow) → placed_row number ≡ found → row_of number ≡ Some row → (p : PlacedRow) × (placed_row number ≡ Some p) × (p.row ≡ row)
placed number row None e is = let none : row_of number ≡ None = ap (option_map (λ (p : PlacedRow). p.row)) e in absurd (clash (sym none ∙ is))
  where
    clash : None ≡ Some row → ⊥
    clash e = cc
placed number row (Some p) e is =
    let one : row_of number ≡ Some p.row = ap (option_map (λ (p : PlacedRow). p.row)) e in
    let both : Some p.row ≡ Some row = sym one ∙ is in
    let same : p.row ≡ row = cc in
    (p, e, same)

past : (number : ℕ) (found : Option PlacedRow) → placed_row number ≡ found → row_of number ≡ None → placed_row number ≡ None
past number None e is = e
past number (Some p) e is = let one : row_of number ≡ Some p.row = ap (option_map (λ (p : PlacedRow). p.row)) e in absurd (clash p.row (sym is ∙ one))
  where
    clash : (row : Row) → None ≡ Some row → ⊥
    clash row e = cc

-- behind the table is no row
pub no_row : (number : ℕ) → length option_table ≤ number → row_of number ≡ None
no_row number behind = ap (option_map (λ (p : PlacedRow). p.row)) (slice_get_past option_table number behind)

pub none_in_range : (number : ℕ) (value : ℤ) → row_of number ≡ None → IsInRange number value → ⊥
none_in_range number value none within = rw none at within

-- a row that is there is one of the table
pub within_table : (number : ℕ) (row : Row) → row_of number ≡ Some row → number < length option_table
within_table number row is =
    let there : (p : PlacedRow) × (placed_row number ≡ Some p) × (p.row ≡ row) = placed number row (placed_row number) refl is in
    slice_get_within option_table number there.0 there.1

-- a row's default is in its range
abbrev HasDefault : PlacedRow → Type 0
HasDefault p = IsInRowRange p.row p.row.default

defaults_fit : EachRow HasDefault option_table
defaults_fit = search rules

pub default_fits : (number : ℕ) (row : Row) → row_of number ≡ Some row → IsInRange number row.default
default_fits number row is =
    let there : (p : PlacedRow) × (placed_row number ≡ Some p) × (p.row ≡ row) = placed number row (placed_row number) refl is in
    let fits : IsInRowRange there.0.row there.0.row.default = row_at HasDefault option_table number there.0 defaults_fit there.1 in
    let same = there.2 in
    rw (is, ← same) fits

-- hex digits of a row are no more than there is room for
abbrev FormHasRoom : PlacedRow → Type 0
FormHasRoom p = HasRoom p.row.form

forms_fit : EachRow FormHasRoom option_table
forms_fit = search rules

pub form_fits : (number : ℕ) (row : Row) → row_of number ≡ Some row → HasRoom row.form
form_fits number row is =
    let there : (p : PlacedRow) × (placed_row number ≡ Some p) × (p.row ≡ row) = placed number row (placed_row number) refl is in
    let fits : HasRoom there.0.row.form = row_at FormHasRoom option_table number there.0 forms_fit there.1 in
    let same = there.2 in
    rw (← same) fits

-- ---- the defaults

fold_more : {T : Type 0} (f : T → PlacedRow → T) (a : T) (rows : List PlacedRow) (n : ℕ) (p : PlacedRow) → slice_get rows n ≡ Some p → fold f a (take (suc n) rows) ≡ f (fold f a (take n rows)) p
fold_more f a [] n p e = cc
fold_more f a (first ∷ rest) zero p e = let same : first ≡ p = cc in ap (f a) same
fold_more f a (first ∷ rest) (suc n) p e = fold_more f (f a first) rest n p e

fold_all : {T : Type 0} (f : T → PlacedRow → T) (a : T) (rows : List PlacedRow) (n : ℕ) → slice_get rows n ≡ None → fold f a (take n rows) ≡ fold f a rows
fold_all f a [] zero e = refl
fold_all f a [] (suc n) e = refl
fold_all f a (first ∷ rest) zero e = cc
fold_all f a (first ∷ rest) (suc n) e = fold_all f (f a first) rest n e

-- the first options are at their defaults
pub record AreAtDefaults (settings : Settings) (number : ℕ) : Type 0 where
  pub options : settings.options ≡ fold (λ so_far (p : PlacedRow). options_with p.place p.row.default so_far) no_settings.options (take number option_table)
  pub port : settings.port ≡ fold (λ so_far (p : PlacedRow). port_with p.place p.row.default so_far) no_settings.port (take number option_table)
  pub clock : settings.clock ≡ fold (λ so_far (p : PlacedRow). clock_with p.place p.row.default so_far) no_settings.clock (take number option_table)

set_next : {T : Type 0} (f : PlacedRow → T → T) (number : ℕ) (p : PlacedRow) (start was now : T) → placed_row number ≡ Some p
    → was ≡ fold (λ so_far (q : PlacedRow). f q so_far) start (take number option_table)
    → now ≡ option_map_or (λ (q : PlacedRow). f q was) (placed_row number) was
    → now ≡ fold (λ so_far (q : PlacedRow). f q so_far) start (take (number + 1) option_table)
set_next f number p start was now there said set =
    let one : now ≡ f p was = rw there at set in
    let more : number + 1 ≡ suc number = omega arith in
    rw more (one ∙ ap (f p) said ∙ sym (fold_more (λ so_far (q : PlacedRow). f q so_far) start option_table number p there))

pub none_set : (settings : Settings) → settings ≡ no_settings → AreAtDefaults settings 0
none_set settings e = rw e (record { options = refl; port = refl; clock = refl })

pub next_set : (number : ℕ) (row : Row) (was now : Settings) → row_of number ≡ Some row → AreAtDefaults was number
    → now.options ≡ with_option number row.default was.options → now.port ≡ with_port_option number row.default was.port → now.clock ≡ with_clock_option number row.default was.clock
    → AreAtDefaults now (number + 1)
next_set number row was now is h options port clock =
    let there : (p : PlacedRow) × (placed_row number ≡ Some p) × (p.row ≡ row) = placed number row (placed_row number) refl is in
    let p : PlacedRow = there.0 in
    let same : p.row ≡ row = there.2 in
    record {
      options = set_next (λ (q : PlacedRow). options_with q.place q.row.default) number p no_settings.options was.options now.options there.1 h.options (rw (there.1, same) (rw there.1 at options));
      port = set_next (λ (q : PlacedRow). port_with q.place q.row.default) number p no_settings.port was.port now.port there.1 h.port (rw (there.1, same) (rw there.1 at port));
      clock = set_next (λ (q : PlacedRow). clock_with q.place q.row.default) number p no_settings.clock was.clock now.clock there.1 h.clock (rw (there.1, same) (rw there.1 at clock));
    }

pub all_set : (number : ℕ) (settings : Settings) → row_of number ≡ None → AreAtDefaults settings number → (settings.options ≡ default_options) × (settings.port ≡ plain_port) × (settings.clock ≡ plain_clock)
all_set number settings is h =
    let none : placed_row number ≡ None = past number (placed_row number) refl is in (
      h.options ∙ fold_all (λ so_far (p : PlacedRow). options_with p.place p.row.default so_far) no_settings.options option_table number none,
      h.port ∙ fold_all (λ so_far (p : PlacedRow). port_with p.place p.row.default so_far) no_settings.port option_table number none,
      h.clock ∙ fold_all (λ so_far (p : PlacedRow). clock_with p.place p.row.default so_far) no_settings.clock option_table number none,
    )

-- ---- names

-- none of the first options is named so in the section
abbrev pub NoneNamed : Scope → List ℕ → ℕ → Type 0
NoneNamed section word number = (k : ℕ) → k < number → (row : Row) → row_of k ≡ Some row → is_named section word row ≡ false

pub none_at_first : (section : Scope) (word : List ℕ) → NoneNamed section word 0
none_at_first section word k below row is = absurd (omega (arith, below))

pub not_next : (section : Scope) (word : List ℕ) (number : ℕ) (row : Row) → NoneNamed section word number → row_of number ≡ Some row → is_named section word row ≡ false → NoneNamed section word (number + 1)
not_next section word number row before is fails = below_more (λ k. (r : Row) → row_of k ≡ Some r → is_named section word r ≡ false) number before here
  where
    here : (r : Row) → row_of number ≡ Some r → is_named section word r ≡ false
    here r there = let both : Some row ≡ Some r = sym is ∙ there in let same : row ≡ r = cc in rw same at fails

test_at : (section : Scope) (word : List ℕ) (rows : List PlacedRow) (n : ℕ) → ((k : ℕ) → k < n → (row : Row) → option_map (λ (p : PlacedRow). p.row) (slice_get rows k) ≡ Some row → is_named section word row ≡ false)
    → (p : PlacedRow) → slice_get rows n ≡ Some p → is_named section word p.row ≡ true → position_or_len (λ (q : PlacedRow). is_named section word q.row) rows ≡ n
test_at section word [] n before p there passes = cc
test_at section word (first ∷ rest) zero before p there passes =
    let same : first ≡ p = cc in
    let here : is_named section word first.row ≡ true = rw same passes in
    rw here refl
test_at section word (first ∷ rest) (suc n) before p there passes =
    let here : is_named section word first.row ≡ false = before 0 (omega arith) first.row refl in
    let later : position_or_len (λ (q : PlacedRow). is_named section word q.row) rest ≡ n = test_at section word rest n (λ k below row is. before (suc k) (omega (arith, below)) row is) p there passes in
    rw (here, later) (omega arith)

test_past : (section : Scope) (word : List ℕ) (rows : List PlacedRow) (n : ℕ) → ((k : ℕ) → k < n → (row : Row) → option_map (λ (p : PlacedRow). p.row) (slice_get rows k) ≡ Some row → is_named section word row ≡ false)
    → slice_get rows n ≡ None → position_or_len (λ (q : PlacedRow). is_named section word q.row) rows ≡ length rows
test_past section word [] n before none = refl
test_past section word (first ∷ rest) zero before none = cc
test_past section word (first ∷ rest) (suc n) before none =
    let here : is_named section word first.row ≡ false = before 0 (omega arith) first.row refl in
    let later : position_or_len (λ (q : PlacedRow). is_named section word q.row) rest ≡ length rest = test_past section word rest n (λ k below row is. before (suc k) (omega (arith, below)) row is) none in
    rw (here, later) (omega arith)

position_at : (f : PlacedRow → Bool) (n : ℕ) → position_or_len f option_table ≡ n → n < length option_table → position f option_table ≡ Some n
position_at f n e within = grind (arith, e, within)

position_past : (f : PlacedRow → Bool) → position_or_len f option_table ≡ length option_table → position f option_table ≡ None
position_past f e = grind (arith, e)

pub named_here : (section : Scope) (word : List ℕ) (number : ℕ) (row : Row) → NoneNamed section word number → row_of number ≡ Some row → is_named section word row ≡ true → option_named section word ≡ Some number
named_here section word number row before is passes =
    let there : (p : PlacedRow) × (placed_row number ≡ Some p) × (p.row ≡ row) = placed number row (placed_row number) refl is in
    let same : there.0.row ≡ row = there.2 in
    position_at (λ (q : PlacedRow). is_named section word q.row) number
    (test_at section word option_table number before there.0 there.1 (rw same passes))
    (slice_get_within option_table number there.0 there.1)

pub named_nowhere : (section : Scope) (word : List ℕ) (number : ℕ) → NoneNamed section word number → row_of number ≡ None → option_named section word ≡ None
named_nowhere section word number before is =
    position_past (λ (q : PlacedRow). is_named section word q.row) (test_past section word option_table number before (past number (placed_row number) refl is))
