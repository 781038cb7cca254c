-- Calls, one after another.
use Rattle.std.proofs.Common.{◌≡◌, ◌≢◌, ℕ, ◌+◌, ◌<◌, ◌≤◌, List, [], ◌∷◌, ◌++◌, length, get_or, set, take, drop, refl, sym, ap, subst, ◌∙◌, append_assoc}
use Rattle.std.proofs.lemmas.List.{at_drop_more, at_drop_all, take_more_set, take_all, append-nil}
use Rattle.ptp_base.specs.declared.announcement.Announcement.{Announcement}
use Rattle.ptp_profile.specs.declared.foreign_master.KeptAnnounce.{KeptAnnounce}
use Rattle.ptp_profile.specs.declared.foreign_master.Heard.{Heard}
use Rattle.ptp_profile.specs.declared.foreign_master.Heard.TheVariants.{Kept, Own, Far, Alternate, Crowded}
use Rattle.ptp_profile.specs.Best.ForeignMasters.{hearing_of}
use Rattle.foreign_master.specs.declared.calls.Call.{Call}
use Rattle.foreign_master.specs.declared.calls.Answer.{Answer}
use Rattle.foreign_master.specs.RecordsView.{RecordsView, RecordsRepresent}
use Rattle.foreign_master.specs.RecordCalls.{kept_with, kept_after, kept_after_all, answer_of, answers_of, IsReachedBy, AreInTime}

-- what is represents after an Announce was heard
with_heard : (at : ℕ) (a : Announcement) (kept : List KeptAnnounce) (old new : RecordsView) (became : Heard) →
    (became ≡ Kept → RecordsRepresent new (record { at = at; said = a } ∷ kept)) → (became ≢ Kept → new ≡ old) →
    RecordsRepresent old kept → RecordsRepresent new (kept_with at a kept became)
with_heard at a kept old new Kept taken same keeps = taken refl
with_heard at a kept old new Own taken same keeps = subst (λ (m : RecordsView). RecordsRepresent m kept) (sym (same (λ e. absurd cc))) keeps
with_heard at a kept old new Far taken same keeps = subst (λ (m : RecordsView). RecordsRepresent m kept) (sym (same (λ e. absurd cc))) keeps
with_heard at a kept old new Alternate taken same keeps = subst (λ (m : RecordsView). RecordsRepresent m kept) (sym (same (λ e. absurd cc))) keeps
with_heard at a kept old new Crowded taken same keeps = subst (λ (m : RecordsView). RecordsRepresent m kept) (sym (same (λ e. absurd cc))) keeps

pub after_hearing : (w at : ℕ) (a : Announcement) (kept : List KeptAnnounce) (old new : RecordsView) (became : Heard) →
    became ≡ hearing_of w at kept a → (became ≡ Kept → RecordsRepresent new (record { at = at; said = a } ∷ kept)) → (became ≢ Kept → new ≡ old) →
    RecordsRepresent old kept → RecordsRepresent new (kept_with at a kept (hearing_of w at kept a))
after_hearing w at a kept old new became e taken same keeps =
    subst (λ h. RecordsRepresent new (kept_with at a kept h)) e (with_heard at a kept old new became taken same keeps)

-- the first i calls were made: with what is kept now, the others give the rest
pub record HasRun (w : ℕ) (kept : List KeptAnnounce) (calls : List Call) (i : ℕ) (answers : List Answer) (records : RecordsView) : Type 0 where
  pub now : List KeptAnnounce
  pub represents : RecordsRepresent records now
  pub left : AreInTime w now (drop i calls)
  pub said : take i answers ++ answers_of w now (drop i calls) ≡ answers_of w kept calls
  pub after : kept_after_all w now (drop i calls) ≡ kept_after_all w kept calls

pub run_none : (w : ℕ) (kept : List KeptAnnounce) (calls : List Call) (answers : List Answer) (records : RecordsView) →
    RecordsRepresent records kept → AreInTime w kept calls → HasRun w kept calls 0 answers records
run_none w kept calls answers records keeps in_time = record { now = kept; represents = keeps; left = in_time; said = refl; after = refl }

-- one more call, in a window of the same length
pub run_more : (w v : ℕ) (kept : List KeptAnnounce) (calls : List Call) (i : ℕ) (d : Call) (answers : List Answer) (old new : RecordsView) (y : Answer) →
    v ≡ w → i < length calls → i < length answers → HasRun w kept calls i answers old →
    ((k : List KeptAnnounce) → RecordsRepresent old k → IsReachedBy (get_or calls i d) k → y ≡ answer_of v k (get_or calls i d)) →
    ((k : List KeptAnnounce) → RecordsRepresent old k → IsReachedBy (get_or calls i d) k → RecordsRepresent new (kept_after v k (get_or calls i d))) →
    HasRun w kept calls (i + 1) (set answers i y) new
run_more w v kept calls i d answers old new y same l m run answer next =
    let call = get_or calls i d in
    let now = run.now in
    let step : drop i calls ≡ call ∷ drop (i + 1) calls = at_drop_more (λ (rest : List Call). rest) calls i d l in
    let left = subst (AreInTime w now) step run.left in
    let rest = answers_of w (kept_after w now call) (drop (i + 1) calls) in
    record {
      now = kept_after w now call;
      represents = subst (λ (u : ℕ). RecordsRepresent new (kept_after u now call)) same (next now run.represents left.0);
      left = left.1;
      said = ap (λ (said : List Answer). said ++ rest) (take_more_set answers i y m)
          ∙ append_assoc (take i answers) (y ∷ []) rest
          ∙ ap (λ (z : Answer). take i answers ++ (z ∷ rest)) (subst (λ (u : ℕ). y ≡ answer_of u now call) same (answer now run.represents left.0))
          ∙ sym (ap (λ (others : List Call). take i answers ++ answers_of w now others) step)
          ∙ run.said;
      after = sym (ap (kept_after_all w now) step) ∙ run.after;
    }

pub run_answers : (w : ℕ) (kept : List KeptAnnounce) (calls : List Call) (i : ℕ) (answers : List Answer) (records : RecordsView) →
    length calls ≤ i → length answers ≤ i → HasRun w kept calls i answers records → answers ≡ answers_of w kept calls
run_answers w kept calls i answers records l m run =
    sym (take_all i answers m)
    ∙ sym (append-nil (take i answers))
    ∙ sym (at_drop_all (λ (others : List Call). take i answers ++ answers_of w run.now others) calls i l)
    ∙ run.said

pub run_kept : (w : ℕ) (kept : List KeptAnnounce) (calls : List Call) (i : ℕ) (answers : List Answer) (records : RecordsView) →
    length calls ≤ i → HasRun w kept calls i answers records → RecordsRepresent records (kept_after_all w kept calls)
run_kept w kept calls i answers records l run =
    subst (RecordsRepresent records) (sym (at_drop_all (kept_after_all w run.now) calls i l) ∙ run.after) run.represents
