-- Lines, one after another.
use Rattle.std.proofs.Common.{◌≡◌, ℕ, ◌+◌, ◌<◌, List, [], ◌∷◌, ◌++◌, length, drop, get_or, refl, sym, ap, ◌∙◌, append_assoc, add-one, drop-cons, codes}
use Rattle.ptp_management.specs.declared.table.Field.{Field}
use Rattle.ptp_management.specs.ManagementFields.{fields_lines, shape_lines, shape_of, width_of}
use Rattle.ptp_management.specs.ManagementQueries.{lines_text}

pub lines_text-append : (a b : List (List ℕ)) → lines_text (a ++ b) ≡ lines_text a ++ lines_text b
lines_text-append [] b = refl
lines_text-append (line ∷ a) b =
    ap (λ (l : List ℕ). line ++ (codes "\n" ++ l)) (lines_text-append a b) ∙ sym (append_assoc line (codes "\n" ++ lines_text a) (lines_text b))

-- one field further
pub field_printed : (fields : List Field) (i : ℕ) (f : Field) (rest out new whole : List ℕ) → i < length fields
    → length rest ≡ width_of (drop i fields) → out ++ lines_text (fields_lines (drop i fields) rest) ≡ whole
    → new ≡ out ++ lines_text (shape_lines (shape_of (get_or fields i f)) rest)
    → new ++ lines_text (fields_lines (drop (i + 1) fields) (drop (shape_of (get_or fields i f)).width rest)) ≡ whole
field_printed fields i f rest out new whole lt long so is =
    let g : Field = get_or fields i f in
    let split : drop i fields ≡ g ∷ drop (i + 1) fields = rw add-one (drop-cons fields i f lt) in
    let after : List (List ℕ) = fields_lines (drop (i + 1) fields) (drop (shape_of g).width rest) in
    let parts : lines_text (fields_lines (drop i fields) rest) ≡ lines_text (shape_lines (shape_of g) rest) ++ lines_text after =
    ap (λ (l : List Field). lines_text (fields_lines l rest)) split ∙ lines_text-append (shape_lines (shape_of g) rest) after in
    ap (λ (l : List ℕ). l ++ lines_text after) is ∙ append_assoc out (lines_text (shape_lines (shape_of g) rest)) (lines_text after)
    ∙ ap (λ (l : List ℕ). out ++ l) (sym parts) ∙ so

pub field_fits : (fields : List Field) (i : ℕ) (f : Field) (rest : List ℕ) → i < length fields → length rest ≡ width_of (drop i fields)
    → (shape_of (get_or fields i f)).width + width_of (drop (i + 1) fields) ≡ length rest
field_fits fields i f rest lt long =
    let split : drop i fields ≡ get_or fields i f ∷ drop (i + 1) fields = rw add-one (drop-cons fields i f lt) in
    sym (long ∙ ap width_of split)

-- ---- pieces of a line

pub three_pieces : (o a b d x1 x2 x3 : List ℕ) → x1 ≡ o ++ a → x2 ≡ x1 ++ b → x3 ≡ x2 ++ d → x3 ++ codes "\n" ≡ o ++ lines_text ((a ++ (b ++ d)) ∷ [])
three_pieces o a b d x1 x2 x3 p q r = rw (r, q, p) (simp append_assoc)

pub five_pieces : (o a b d e f x1 x2 x3 x4 x5 : List ℕ) → x1 ≡ o ++ a → x2 ≡ x1 ++ b → x3 ≡ x2 ++ d → x4 ≡ x3 ++ e → x5 ≡ x4 ++ f
    → x5 ++ codes "\n" ≡ o ++ lines_text ((a ++ (b ++ (d ++ (e ++ f)))) ∷ [])
five_pieces o a b d e f x1 x2 x3 x4 x5 p q r s t = rw (t, s, r, q, p) (simp append_assoc)

pub more_lines : (o line x : List ℕ) (lines : List (List ℕ)) → x ≡ o ++ lines_text (line ∷ []) → x ++ lines_text lines ≡ o ++ lines_text (line ∷ lines)
more_lines o line x lines is = rw is (append_assoc o (lines_text (line ∷ [])) (lines_text lines) ∙ ap (λ (l : List ℕ). o ++ l) (sym (lines_text-append (line ∷ []) lines)))

pub five_more : (o a b d e f x1 x2 x3 x4 : List ℕ) → x1 ≡ o ++ a → x2 ≡ x1 ++ b → x3 ≡ x2 ++ d → x4 ≡ x3 ++ e
    → x4 ++ f ≡ o ++ (a ++ (b ++ (d ++ (e ++ f))))
five_more o a b d e f x1 x2 x3 x4 p q r s = rw (s, r, q, p) (simp append_assoc)
