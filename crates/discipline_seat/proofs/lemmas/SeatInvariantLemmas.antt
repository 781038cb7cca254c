-- One line of a table is changed.
use Rattle.std.proofs.Common.{◌≡◌, ℕ, suc, ◌+◌, ◌-◌, ◌<◌, ◌≤◌, List, [], ◌∷◌, ◌++◌, length, map, get_or, set, reverse, sym, ap, ◌∙◌, subst, arith, add-one, refl, inl, inr, ℤ}
use Rattle.std.specs.Prelude.{All, IfErr, Result, Err, ◌≢◌}
use Rattle.std.proofs.lemmas.Bool.Decides.{eqb_tells}
use Rattle.std.proofs.lemmas.List.{map-set, set-get_or, get_or-map, get_or-set_same, get_or-set_other, length-map, length-set}
use Rattle.std.proofs.lemmas.List.Elements.{All-nil, All-cons, All-set}
use Rattle.ptp_base.specs.declared.limits.TheConstants.{CLOCKS_MAX, ROWS_MAX}
use Rattle.model_clock.specs.declared.state.ClockState.{ClockState}
use Rattle.ptp_base.specs.Room.{Reserved}
use Rattle.ptp_profile.specs.declared.roles.Stamp.{Stamp}
use Rattle.ptp_profile.specs.declared.seats.Log.{Log}
use Rattle.ptp_profile.specs.declared.seats.LogEntry.{LogEntry}
use Rattle.ptp_profile.specs.declared.seats.LogEntry.TheVariants.{Change}
use Rattle.ptp_profile.specs.declared.seats.Held.{Held}
use Rattle.ptp_profile.specs.declared.seats.Receipt.{Receipt}
use Rattle.ptp_profile.specs.declared.seats.Refused.{Refused}
use Rattle.ptp_profile.specs.Roles.SeatLogs.{stamp_after, HasOrder, exchange_answer, logs_from, IsRefusal}
use Rattle.discipline_seat.proofs.lemmas.ReversalLemmas.{reverse_push}
use Rattle.discipline_seat.specs.SeatInvariants.{HasCome, IsTable, Line, logs_of, openings_of, Rises}
use Rattle.discipline_seat.proofs.lemmas.SeatLawLemmas.{HasCome-none, refusal-of}
use Rattle.discipline_seat.specs.SeatsView.{log_of, seats_at_opening, Seats, with_entry}

abbrev pub line_of : ClockState → List LogEntry → ℕ → Line
line_of opening log room = record { opening = opening; log = log; room = room }

abbrev pub log_as : ℕ → ClockState → List LogEntry → Log
log_as clock opening entries = record { clock = clock; opening = opening; entries = entries }

-- a part of the lines, where the line that is put has it in common with the one before it
part-same : {X : Type 0} (part : Line → X) (lines : List Line) (i : ℕ) (line d : Line) → part line ≡ part (get_or lines i d)
    → map part (set lines i line) ≡ map part lines
part-same part lines i line d same =
    map-set part lines i line
    ∙ ap (set (map part lines) i) same
    ∙ sym (map-set part lines i (get_or lines i d))
    ∙ ap (map part) (set-get_or lines i d)

pub openings-same : (lines : List Line) (i : ℕ) (line d : Line) → line.opening ≡ (get_or lines i d).opening → openings_of (set lines i line) ≡ openings_of lines
openings-same lines i line d same = part-same (λ (l : Line). l.opening) lines i line d same

pub logs-same : (lines : List Line) (i : ℕ) (line d : Line) → line.log ≡ (get_or lines i d).log → logs_of (set lines i line) ≡ logs_of lines
logs-same lines i line d same = part-same (λ (l : Line). l.log) lines i line d same

pub logs-with : (lines : List Line) (i : ℕ) (line d : Line) (entry : LogEntry) → i < length lines → line.log ≡ entry ∷ (get_or lines i d).log
    → logs_of (set lines i line) ≡ set (logs_of lines) i (entry ∷ get_or (logs_of lines) i [])
logs-with lines i line d entry lt is =
    map-set (λ (l : Line). l.log) lines i line
    ∙ ap (λ (o : List LogEntry). set (logs_of lines) i o) (is ∙ ap (λ (o : List LogEntry). entry ∷ o) (sym (get_or-map (λ (l : Line). l.log) lines i d [] lt)))

-- the table as it is seen
abbrev pub seen : ℕ → ℕ → List Line → Seats
seen rows spare lines = record { rows = rows; spare = spare; openings = openings_of lines; logs = logs_of lines }

abbrev seen_as : ℕ → ℕ → List ClockState → List (List LogEntry) → Seats
seen_as rows spare openings logs = record { rows = rows; spare = spare; openings = openings; logs = logs }

pub seen-with : (rows spare : ℕ) (lines : List Line) (i : ℕ) (line d : Line) (entry : LogEntry) → i < length lines
    → line.opening ≡ (get_or lines i d).opening → line.log ≡ entry ∷ (get_or lines i d).log
    → seen rows (spare - 1) (set lines i line) ≡ with_entry (seen rows spare lines) i entry
seen-with rows spare lines i line d entry lt opening log =
    ap (λ (openings : List ClockState). seen_as rows (spare - 1) openings (logs_of (set lines i line))) (openings-same lines i line d opening)
    ∙ ap (λ (logs : List (List LogEntry)). seen_as rows (spare - 1) (openings_of lines) logs) (logs-with lines i line d entry lt log)

-- the log of a line, as it is seen
pub log-seen : (lines : List Line) (i : ℕ) (d : Line) → i < length lines → get_or (logs_of lines) i [] ≡ (get_or lines i d).log
log-seen lines i d lt = get_or-map (λ (l : Line). l.log) lines i d [] lt

pub opening-seen : (lines : List Line) (i : ℕ) (d : Line) (o : ClockState) → i < length lines → get_or (openings_of lines) i o ≡ (get_or lines i d).opening
opening-seen lines i d o lt = get_or-map (λ (l : Line). l.opening) lines i d o lt

-- a table stays one where one line is changed
pub IsTable-with : (rows spare : ℕ) (lines : List Line) (places : Reserved Log) (i : ℕ) (line : Line) → IsTable rows spare lines places
    → spare - 1 ≤ line.room → HasCome rows line.log → IsTable rows (spare - 1) (set lines i line) places
IsTable-with rows spare lines places i line table room come = record {
  rows_few = table.rows_few;
  clocks_few = let same : length (set lines i line) ≡ length lines = length-set lines i line in let few = table.clocks_few in omega arith;
  rooms = All-set (λ (l : Line). spare - 1 ≤ l.room) lines i line room (λ k d lt. let enough : spare ≤ (get_or lines k d).room = table.rooms k d lt in omega arith);
  come = All-set (λ (l : Line). HasCome rows l.log) lines i line come table.come;
  empty = table.empty;
  places = let same : length (set lines i line) ≡ length lines = length-set lines i line in let enough = table.places in omega arith;
}

-- a change under the stamp in force
pub changed-line : (line : Line) (opening : ClockState) (items next : List LogEntry) (room : ℕ) (stamp : Stamp) (tick : ℕ) (step freq : ℤ)
    → record { opening = opening; log = reverse items; room = room } ≡ line
    → next ≡ items ++ Change stamp.gener stamp.ctrl tick step freq ∷ [] → stamp ≡ stamp_after (reverse items)
    → line_of opening (reverse next) (room - 1)
    ≡ line_of line.opening (Change (stamp_after line.log).gener (stamp_after line.log).ctrl tick step freq ∷ line.log) (line.room - 1)
changed-line line opening items next room stamp tick step freq view is stamp_is =
    subst (λ (l : Line). line_of opening (reverse next) (room - 1) ≡ line_of l.opening (Change (stamp_after l.log).gener (stamp_after l.log).ctrl tick step freq ∷ l.log) (l.room - 1)) view
    (ap (λ (log : List LogEntry). line_of opening log (room - 1))
    (ap reverse is ∙ reverse_push items (Change stamp.gener stamp.ctrl tick step freq)
    ∙ ap (λ (s : Stamp). Change s.gener s.ctrl tick step freq ∷ reverse items) stamp_is))

-- one line more of the logs that part
pub logs_from-more : (clock : ℕ) (lines : List Line) (line : Line)
    → logs_from clock (openings_of (lines ++ line ∷ [])) (logs_of (lines ++ line ∷ []))
    ≡ logs_from clock (openings_of lines) (logs_of lines) ++ record { clock = clock + length lines; opening = line.opening; entries = reverse line.log } ∷ []
logs_from-more clock [] line = ap (λ (n : ℕ). log_as n line.opening (reverse line.log) ∷ []) (let none : clock ≡ clock + 0 = omega arith in none)
logs_from-more clock (first ∷ lines) line =
    let at : clock + 1 + length lines ≡ clock + suc (length lines) = omega arith in
    ap (λ (logs : List Log). log_as clock first.opening (reverse first.log) ∷ logs)
    (logs_from-more (clock + 1) lines line ∙ ap (λ (n : ℕ). logs_from (clock + 1) (openings_of lines) (logs_of lines) ++ log_as n line.opening (reverse line.log) ∷ []) at)

-- an entry is added to a line
pub seen-added : (rows spare : ℕ) (lines : List Line) (i : ℕ) (line x : Line) (entry : LogEntry) (t : Seats) → i < length lines → x ≡ get_or lines i x
    → line ≡ line_of x.opening (entry ∷ x.log) (x.room - 1) → seen rows spare lines ≡ t
    → seen rows (spare - 1) (set lines i line) ≡ with_entry t i entry
seen-added rows spare lines i line x entry t lt at is view =
    subst (λ (u : Seats). seen rows (spare - 1) (set lines i line) ≡ with_entry u i entry) view
    (seen-with rows spare lines i line x entry lt (ap (λ (l : Line). l.opening) is ∙ ap (λ (l : Line). l.opening) at)
    (ap (λ (l : Line). l.log) is ∙ ap (λ (l : Line). entry ∷ l.log) at))

-- its number
pub number-added : (lines : List Line) (i : ℕ) (line x : Line) (entry : LogEntry) → i < length lines
    → line ≡ line_of x.opening (entry ∷ x.log) (x.room - 1) → length x.log + 1 ≡ length (get_or (logs_of (set lines i line)) i [])
number-added lines i line x entry lt is =
    let same : length (set lines i line) ≡ length lines = length-set lines i line in
    let there : i < length (set lines i line) = omega arith in
    let here : get_or (logs_of (set lines i line)) i [] ≡ entry ∷ x.log =
    log-seen (set lines i line) i x there ∙ ap (λ (l : Line). l.log) (get_or-set_same lines i line x lt ∙ is) in
    add-one (length x.log) ∙ ap length (sym here)

pub logs-length : (lines : List Line) → length (logs_of lines) ≡ length lines
logs-length lines = length-map lines (λ (l : Line). l.log)

-- a clock that is seen has a line
pub line-there : (rows spare : ℕ) (lines : List Line) (i : ℕ) (t : Seats) → seen rows spare lines ≡ t → i < length t.logs → i < length lines
line-there rows spare lines i t view lt =
    subst (λ (n : ℕ). i < n) (ap (λ (u : Seats). length u.logs) (sym view) ∙ logs-length lines) lt

-- a refusal says why, as it is seen
pub refused-seen : (rows spare : ℕ) (lines : List Line) (i : ℕ) (x : Line) (held : Held) (refused : Refused) (t : Seats) → i < length lines → x ≡ get_or lines i x
    → All (λ (l : Line). HasCome rows l.log) lines → held.ctrl ≢ 0 → Err refused ≡ exchange_answer rows held x.log → seen rows spare lines ≡ t
    → HasOrder (log_of t i) held.gener held.ctrl → IsRefusal (log_of t i) held t.rows refused
refused-seen rows spare lines i x held refused t lt at all some answer view =
    let log_is : get_or (logs_of lines) i [] ≡ (get_or lines i x).log = log-seen lines i x lt in
    let come : HasCome rows (get_or lines i x).log = all i x lt in
    let rises : Rises (get_or (logs_of lines) i []) = subst Rises (sym log_is) come.rises in
    let same : x.log ≡ get_or (logs_of lines) i [] = ap (λ (l : Line). l.log) at ∙ sym log_is in
    subst (λ (u : Seats). HasOrder (log_of u i) held.gener held.ctrl → IsRefusal (log_of u i) held u.rows refused) view
    (λ has. subst (λ (r : Result Receipt Refused). IfErr r (IsRefusal (get_or (logs_of lines) i []) held rows)) (sym (answer ∙ ap (exchange_answer rows held) same))
    (refusal-of rows held (get_or (logs_of lines) i []) some rises has))

-- a line that has more room
pub openings-grown : (lines : List Line) (i : ℕ) (line x : Line) → x ≡ get_or lines i x → line ≡ line_of x.opening x.log line.room
    → openings_of (set lines i line) ≡ openings_of lines
openings-grown lines i line x at is = openings-same lines i line x (ap (λ (l : Line). l.opening) is ∙ ap (λ (l : Line). l.opening) at)

pub logs-grown : (lines : List Line) (i : ℕ) (line x : Line) → x ≡ get_or lines i x → line ≡ line_of x.opening x.log line.room
    → logs_of (set lines i line) ≡ logs_of lines
logs-grown lines i line x at is = logs-same lines i line x (ap (λ (l : Line). l.log) is ∙ ap (λ (l : Line). l.log) at)

pub rooms-grown : (lines : List Line) (i : ℕ) (line x : Line) (spare : ℕ) → i < length lines → x ≡ get_or lines i x → x.room ≤ line.room
    → All (λ (l : Line). spare ≤ l.room) lines → All (λ (l : Line). spare ≤ l.room) (set lines i line)
rooms-grown lines i line x spare lt at more all =
    let here : spare ≤ (get_or lines i x).room = all i x lt in
    let same : x.room ≡ (get_or lines i x).room = ap (λ (l : Line). l.room) at in
    All-set (λ (l : Line). spare ≤ l.room) lines i line (omega arith) all

pub rooms-more : (lines : List Line) (i : ℕ) (line : Line) (more : ℕ) → i < length lines → more ≤ line.room
    → ((k : ℕ) (d : Line) → k < i → more ≤ (get_or lines k d).room) → (k : ℕ) (d : Line) → k < i + 1 → more ≤ (get_or (set lines i line) k d).room
rooms-more lines i line more lt enough below k d le =
    elim (eqb_tells k i) [
      | inl t ↦ subst (λ (n : ℕ). more ≤ (get_or (set lines i line) n d).room) (sym t.1) (subst (λ (l : Line). more ≤ l.room) (sym (get_or-set_same lines i line d lt)) enough)
      | inr f ↦ subst (λ (l : Line). more ≤ l.room) (sym (get_or-set_other lines i k line d f.1)) (below k d (let other : k ≢ i = f.1 in omega arith))
    ]

-- a table stays one where its lines have other rooms
pub IsTable-grown : (rows spare more : ℕ) (lines news : List Line) (parted : Reserved Log) → IsTable rows spare lines parted → logs_of news ≡ logs_of lines
    → All (λ (l : Line). more ≤ l.room) news → IsTable rows more news parted
IsTable-grown rows spare more lines news parted table same rooms =
    let long : length news ≡ length lines = sym (logs-length news) ∙ ap length same ∙ logs-length lines in
    let few = table.clocks_few in
    let enough = table.places in record {
      rows_few = table.rows_few;
      clocks_few = omega arith;
      rooms = rooms;
      come = λ k d lt. let there : k < length lines = omega arith in
          subst (HasCome rows) (sym (log-seen lines k d there) ∙ ap (λ (logs : List (List LogEntry)). get_or logs k []) (sym same) ∙ log-seen news k d lt) (table.come k d there);
      empty = table.empty;
      places = omega arith;
    }

abbrev pub new_line : ClockState → Line
new_line clock = line_of clock [] 0

openings-opened : (clocks : List ClockState) → openings_of (map new_line clocks) ≡ clocks
openings-opened [] = refl
openings-opened (clock ∷ clocks) = ap (λ (cs : List ClockState). clock ∷ cs) (openings-opened clocks)

logs-opened : (clocks : List ClockState) → logs_of (map new_line clocks) ≡ map (λ (clock : ClockState). []) clocks
logs-opened [] = refl
logs-opened (clock ∷ clocks) = ap (λ (logs : List (List LogEntry)). [] ∷ logs) (logs-opened clocks)

length-opened : (clocks : List ClockState) → length (map new_line clocks) ≡ length clocks
length-opened clocks = length-map clocks new_line

all-opened : (rows : ℕ) (clocks : List ClockState) → All (λ (l : Line). HasCome rows l.log) (map new_line clocks)
all-opened rows [] = All-nil (λ (l : Line). HasCome rows l.log)
all-opened rows (clock ∷ clocks) = All-cons (λ (l : Line). HasCome rows l.log) (new_line clock) (map new_line clocks) (HasCome-none rows) (all-opened rows clocks)

pub seen-opened : (rows : ℕ) (clocks : List ClockState) (lines : List Line) → lines ≡ map new_line clocks → seen rows 0 lines ≡ seats_at_opening rows clocks
seen-opened rows clocks lines is =
    ap (seen rows 0) is
    ∙ ap (λ (openings : List ClockState). seen_as rows 0 openings (logs_of (map new_line clocks))) (openings-opened clocks)
    ∙ ap (λ (logs : List (List LogEntry)). seen_as rows 0 clocks logs) (logs-opened clocks)

pub IsTable-opened : (rows : ℕ) (clocks : List ClockState) (lines : List Line) (parted : Reserved Log) → rows ≤ ROWS_MAX → length clocks ≤ CLOCKS_MAX
    → lines ≡ map new_line clocks → parted ≡ record { items = []; spare = length clocks } → IsTable rows 0 lines parted
IsTable-opened rows clocks lines parted few small is places =
    subst (λ (ls : List Line). IsTable rows 0 ls parted) (sym is)
    (let same : length (map new_line clocks) ≡ length clocks = length-opened clocks in
    let room : parted.spare ≡ length clocks = ap (λ (r : Reserved Log). r.spare) places in
    record {
      rows_few = few;
      clocks_few = omega arith;
      rooms = λ k d lt. omega arith;
      come = all-opened rows clocks;
      empty = ap (λ (r : Reserved Log). r.items) places;
      places = omega arith;
    })
