-- What a store and a load of a row's word may do.
use Rattle.std.proofs.Common.{le_refl, ◌≡◌, ℕ, zero, suc, ◌<◌, ◌≤◌, ⊎_elim, List, [], ◌∷◌, ◌++◌, length, slice_index, set, length-set, length-append, append_assoc, get_or-set_same, refl, sym, ap, ◌∙◌, subst, arith}
use mathlib.Core.Option.{some, none, some-injective}
use lib.ListN.{get_elem?}
use lib.Seq.{set-get_or}
use Rattle.std.proofs.lemmas.Bool.{cases_lt}
use Rattle.model_clock.specs.declared.state.ClockState.{ClockState}
use Rattle.model_clock.specs.Clock.{clock_at}
use Rattle.atomic_table.specs.Table.{State, Me, step, keeps, Allows}
use Rattle.atomic_table.proofs.Lists.{set_again}
use Rattle.ptp_profile.specs.Roles.SeatLogs.{clock_after}
use Rattle.ptp_profile.specs.declared.seats.LogEntry.{LogEntry}
use Rattle.ptp_profile.specs.declared.seats.LogEntry.TheVariants.{Change}
use Rattle.discipline_seat.specs.declared.view.View.{View}
use Rattle.discipline_seat.specs.Rule.SeatRule.{DraftHolds, LogsHold, RowsHold, SeatRule, row_place}
use Rattle.discipline_seat.specs.Rule.SeatLog.{Extends, IsSeatLog, SeatLog, ctrl_after, last_change, owner_named as named}
use Rattle.discipline_seat.specs.Rule.SeatView.{row_words, seen_log, with_row_word}
use Rattle.discipline_seat.specs.Rule.SeatStep.{load_tells as fetched, store_tells as wrote}
use Rattle.discipline_seat.proofs.lemmas.LogWordLemmas.{lawful_tail}
use Rattle.discipline_seat.proofs.lemmas.RowLemmas.{same_place, place_within, other_word, row_kept, last_of, not_taken, same_seen}
use Rattle.discipline_seat.proofs.lemmas.RuleLemmas.{holder_somebody}
use Rattle.discipline_seat.proofs.lemmas.StoryLemmas.{keeps_stories}
use Rattle.discipline_seat.proofs.lemmas.StepLemmas.{reviewed}

abbrev St : Type 0
St = State LogEntry View

abbrev M : Type 0
M = Me LogEntry View

last_index : (l : List ℕ) (x : ℕ) → slice_index (l ++ x ∷ []) (length l) ≡ x
last_index [] x = refl
last_index (y ∷ ys) x = last_index ys x

front_index : (l ys : List ℕ) (i : ℕ) → i < length l → slice_index (l ++ ys) i ≡ slice_index l i
front_index [] ys i h = absurd (omega (arith, h))
front_index (x ∷ xs) ys zero h = refl
front_index (x ∷ xs) ys (suc i) h = front_index xs ys i (omega (arith, h))

-- a word of a row changes
rewritten : (rows clocks : ℕ) (os : List ClockState) (s : St) (k : LogsHold rows clocks os s) (i x : ℕ) → clocks ≤ i
    → ((c : ℕ) → c < clocks → RowsHold rows clocks os (set s.words i x) c (k.logs c))
    → ((j : ℕ) (u : View) → get_elem? s.views j ≡ some u → DraftHolds rows clocks (set s.words i x) u)
    → LogsHold rows clocks os record { words = set s.words i x; homes = s.homes; views = s.views }
rewritten rows clocks os s k i x past rows_are drafts = record {
  logs = k.logs;
  small = k.small;
  wide = length-set s.words i x ∙ k.wide;
  words_are = λ d h. other_word s.words i x d (λ e. omega (arith, past, h, e)) ∙ k.words_are d h;
  lawful = k.lawful;
  forest = k.forest;
  rows_are = rows_are;
  drafts = drafts;
  each = k.each;
  unmade = k.unmade;
  ports_are = k.ports_are;
  makers = k.makers;
  gone = k.gone;
  remembers = k.remembers;
  single = k.single;
  apart = k.apart;
}

pub writes : (rows clocks : ℕ) (os : List ClockState) (n id : ℕ) (me : M) (i x : ℕ) → me.0.draft_clock < clocks → length (seen_log me.0 me.0.draft_clock) < rows → length me.0.draft < 3
    → named me.0.draft_clock (ctrl_after (seen_log me.0 me.0.draft_clock)) ≡ me.0.owner → i ≡ row_place rows clocks me.0.draft_clock (length (seen_log me.0 me.0.draft_clock)) (length me.0.draft)
    → Allows (SeatRule rows clocks os) n id me i (λ _. x) (λ _. wrote (step n i x 0 none) me x)
writes rows clocks os n id me i x near room few held place s k _ at _ =
    let v : View = me.0 in
    let w : View = with_row_word v x in
    let mid = rewritten rows clocks os s k.0 i x (omega (arith, place)) (rows_are s k.0 at) (drafts s k.0 at) in (
      w,
      keeps,
      tt,
      (reviewed rows clocks os record { words = set s.words i x; homes = s.homes; views = s.views } mid id v w at refl (λ _. refl) (k.0.remembers id v at) (le_refl _) refl refl (grown s k.0 at), keeps_stories s.views k.1 id v w at refl refl refl (le_refl _) refl),
      (refl, refl),
    )
  where
    c : ℕ
    c = me.0.draft_clock

    rows_are : (s : St) (k : LogsHold rows clocks os s) → get_elem? s.views id ≡ some me.0 → (d : ℕ) → d < clocks → RowsHold rows clocks os (set s.words i x) d (k.logs d)
    rows_are s k at d inside g q t y f b ext =
        let e : LogEntry = Change g q t y f in
        let law = lawful_tail rows ext.newer (e ∷ b) (subst (IsSeatLog rows) ext.is (k.lawful d)) in
        row_kept rows clocks s.words i x d (length b) (clock_after (clock_at os d) (e ∷ b)) (λ j small is.
        let same = same_place rows clocks d (length b) j me.0.draft_clock (length (seen_log me.0 me.0.draft_clock)) (length me.0.draft) law.0.3 room small few (is ∙ place) in
        not_taken rows me.0.draft_clock me.0.owner (seen_log me.0 me.0.draft_clock) (k.logs me.0.draft_clock) g q t y f b (k.each id me.0 at me.0.draft_clock) (k.lawful me.0.draft_clock) held (subst (λ (m : ℕ). Extends (e ∷ b) (k.logs m)) same.0 ext) same.1)
        (k.rows_are d inside g q t y f b ext)

    drafts : (s : St) (k : LogsHold rows clocks os s) → get_elem? s.views id ≡ some me.0 → (j : ℕ) (u : View) → get_elem? s.views j ≡ some u → DraftHolds rows clocks (set s.words i x) u
    drafts s k at j u there q in_draft =
        let d = k.drafts j u there q in_draft in
        record {
          few = d.few;
          clock = d.clock;
          room = d.room;
          held = d.held;
          stands = other_word s.words i x _ (λ is.
              let same = same_place rows clocks u.draft_clock (length (seen_log u u.draft_clock)) q me.0.draft_clock (length (seen_log me.0 me.0.draft_clock)) (length me.0.draft) d.room room d.few few (is ∙ place) in
              let theirs = k.each j u there me.0.draft_clock in
              let mine = k.each id me.0 at me.0.draft_clock in
              let long : length (seen_log u me.0.draft_clock) ≡ length (seen_log me.0 me.0.draft_clock) = ap (λ (m : ℕ). length (seen_log u m)) (sym same.0) ∙ same.1 in
              let seen : seen_log u me.0.draft_clock ≡ seen_log me.0 me.0.draft_clock = same_seen _ _ (k.logs me.0.draft_clock) record { newer = theirs.newer; is = theirs.is } record { newer = mine.newer; is = mine.is } long in
              let owner : u.owner ≡ me.0.owner = sym d.held ∙ ap (λ (m : ℕ). named m (ctrl_after (seen_log u m))) same.0 ∙ ap (λ (l : SeatLog). named me.0.draft_clock (ctrl_after l)) seen ∙ held in
              let here : j ≡ id = k.apart j id u me.0 there at owner (λ e. holder_somebody me.0.draft_clock (ctrl_after (seen_log me.0 me.0.draft_clock)) (held ∙ sym owner ∙ e)) in
              let one : u ≡ me.0 = some-injective u me.0 (sym there ∙ ap (get_elem? s.views) here ∙ at) in
              let long_draft : length u.draft ≡ length me.0.draft = ap (λ (z : View). length z.draft) one in
              omega (arith, in_draft, same.2, long_draft)) ∙ d.stands;
        }

    grown : (s : St) (k : LogsHold rows clocks os s) → get_elem? s.views id ≡ some me.0 → DraftHolds rows clocks (set s.words i x) (with_row_word me.0 x)
    grown s k at q in_draft = ⊎_elim
        (λ (within : q < length me.0.draft).
        let d = drafts s k at id me.0 at q within in
        record { few = d.few; clock = d.clock; room = d.room; held = d.held; stands = d.stands ∙ sym (front_index me.0.draft (x ∷ []) q within) })
        (λ (past : length me.0.draft ≤ q).
        let long = length-append me.0.draft (x ∷ []) in
        let last : q ≡ length me.0.draft = omega (arith, past, in_draft, long) in
        let inside : i < length s.words = (let fits = place_within rows clocks me.0.draft_clock (length (seen_log me.0 me.0.draft_clock)) (length me.0.draft) near room few in let wide = k.wide in omega (arith, fits, wide, place)) in
        record {
          few = omega (arith, few, last);
          clock = near;
          room = room;
          held = held;
          stands = ap (λ (m : ℕ). slice_index (set s.words i x) (row_place rows clocks me.0.draft_clock (length (seen_log me.0 me.0.draft_clock)) m)) last ∙ ap (slice_index (set s.words i x)) (sym place) ∙ get_or-set_same s.words i x 0 inside ∙ sym (last_index me.0.draft x) ∙ ap (slice_index (me.0.draft ++ x ∷ [])) (sym last);
        })
        (cases_lt q (length me.0.draft))

pub fetches : (rows clocks : ℕ) (os : List ClockState) (n id : ℕ) (me : M) (c r j i wanted : ℕ) → c < clocks → last_change (seen_log me.0 c) ≡ suc r → j < 3 → i ≡ row_place rows clocks c r j
    → wanted ≡ slice_index (row_words (clock_after (clock_at os c) (seen_log me.0 c))) j → Allows (SeatRule rows clocks os) n id me i (λ x. x) (fetched wanted (step n i 0 0 none) me)
fetches rows clocks os n id me c r j i wanted near row few place is s k _ at _ =
    let last = last_of (clock_at os c) (seen_log me.0 c) r row in
    let grew = k.0.each id me.0 at c in
    let e : LogEntry = Change last.gener last.ctrl last.tick last.step last.freq in
    let ext : Extends (e ∷ last.before) (k.0.logs c) = record { newer = grew.newer ++ last.ends.newer; is = grew.is ∙ ap (λ (l : SeatLog). grew.newer ++ l) last.ends.is ∙ sym (append_assoc grew.newer last.ends.newer (e ∷ last.before)) } in
    let stands = k.0.rows_are c near last.gener last.ctrl last.tick last.step last.freq last.before ext j few in
    let found : slice_index s.words i ≡ wanted
    = ap (slice_index s.words) (place ∙ ap (λ (m : ℕ). row_place rows clocks c m j) (sym last.number)) ∙ stands ∙ ap (λ (o : ClockState). slice_index (row_words o) j) (sym last.state) ∙ sym is in (
      me.0,
      keeps,
      tt,
      subst (λ (q : List ℕ × List View). SeatRule rows clocks os record { words = q.0; homes = s.homes; views = q.1 }) (λ a. (sym (set-get_or s.words i 0) a, sym (set_again s.views id me.0 at) a)) k,
      (refl, found),
    )
