-- Logs, their words and their stamps.
use Rattle.std.proofs.Common.{Bool, true, false, ltb, ◌≡◌, ◌≢◌, ℕ, zero, suc, ◌+◌, ◌*◌, ◌<◌, ◌≤◌, ◌⊎◌, inl, inr, ⊎_elim, List, [], ◌∷◌, ◌++◌, length, refl, sym, ap, ◌∙◌, arith, length-append, append_assoc, subst, ltb-true, ltb-false, le-ltb}
use Rattle.ptp_profile.specs.declared.seats.LogEntry.TheVariants.{Order, Change}
use Rattle.discipline_seat.specs.declared.view.Owner.{Owner}
use Rattle.discipline_seat.specs.declared.view.Owner.TheVariants.{Hub}
use Rattle.ptp_profile.specs.Roles.SeatLogs.{log_at}
use Rattle.discipline_seat.specs.Rule.SeatLog.{AreMadeBy, Extends, GrewByOthers, HasNoneBy, IsSeatLog, SeatLog, ctrl_after, gener_after, last_change, maker_of, owner_named as named, packed_word as pack, pass_owner, word_after}
use Rattle.ptp_profile.specs.Roles.SeatLogs.{order_count}
use Rattle.discipline_seat.specs.Rule.SeatView.{longer_logs as merged, one_log as longer}

-- what every lawful log is small enough for
pub record Small (rows : ℕ) (l : SeatLog) : Type 0 where
  pub gener : gener_after l < 262144
  pub ctrl : ctrl_after l < 256
  pub row : last_change l ≤ rows
  pub orders : order_count l ≤ 262142
  pub number : length l ≤ last_change l + order_count l

pub small : (rows : ℕ) (l : SeatLog) → IsSeatLog rows l → Small rows l
small rows [] h = record { gener = omega arith; ctrl = omega arith; row = omega arith; orders = omega arith; number = omega arith }
small rows (Order g k ∷ es) h = let b = small rows es h.1 in let n = b.number in let r = b.row in let room : order_count es < 262142 = h.0.4 in record { gener = h.0.2; ctrl = h.0.3; row = r; orders = omega arith; number = omega arith }
small rows (Change g k t s f ∷ es) h = let b = small rows es h.1 in let n = b.number in let o = b.orders in let room : length es < rows = h.0.3 in record { gener = b.gener; ctrl = b.ctrl; row = omega arith; orders = o; number = omega arith }

digits : (a b x y : ℕ) → x < 524288 → y < 524288 → a * 524288 + x ≡ b * 524288 + y → (a ≡ b) × (x ≡ y)
digits a b x y p q e = (omega arith, omega arith)

pub unpacked : (g k n r g' k' n' r' : ℕ) → k < 256 → k' < 256 → n < 524288 → n' < 524288 → r < 524288 → r' < 524288 → pack g k n r ≡ pack g' k' n' r' → (g ≡ g') × (k ≡ k') × (n ≡ n') × (r ≡ r')
unpacked g k n r g' k' n' r' a a' b b' c c' e =
    let low = digits ((g * 256 + k) * 524288 + n) ((g' * 256 + k') * 524288 + n') r r' c c' e in
    let mid = digits (g * 256 + k) (g' * 256 + k') n n' b b' low.0 in
    let top : g * 256 + k ≡ g' * 256 + k' = mid.0 in
    (omega arith, omega arith, mid.1, low.1)

-- one word, one number
pub one_length : (rows : ℕ) (l m : SeatLog) → rows < 262144 → IsSeatLog rows l → IsSeatLog rows m → word_after l ≡ word_after m → length l ≡ length m
one_length rows l m few a b e =
    let x = small rows l a in let y = small rows m b in
    let p = x.number in let q = y.number in let r = x.row in let s = y.row in let t = x.orders in let u = y.orders in
    (unpacked (gener_after l) (ctrl_after l) (length l) (last_change l) (gener_after m) (ctrl_after m) (length m) (last_change m) x.ctrl y.ctrl (omega arith) (omega arith) (omega arith) (omega arith) e).2

pub no_more : (newer old l : SeatLog) → l ≡ newer ++ old → length l ≡ length old → l ≡ old
no_more [] old l is same = is
no_more (x ∷ xs) old l is same = absurd (omega (arith, ap length is, length-append (x ∷ xs) old))

pub lawful_tail : (rows : ℕ) (newer old : SeatLog) → IsSeatLog rows (newer ++ old) → IsSeatLog rows old
lawful_tail rows [] old h = h
lawful_tail rows (x ∷ xs) old h = lawful_tail rows xs old h.1

-- where the seen stamp names the owner, what came behind has a greater generation
pub overtaken : (rows c : ℕ) (o : Owner) (newer old : SeatLog) → IsSeatLog rows (newer ++ old) → HasNoneBy c o newer → named c (ctrl_after old) ≡ o → ctrl_after old ≢ 0 → (newer ≡ []) ⊎ (gener_after old < gener_after (newer ++ old))
overtaken rows c o [] old h none is some_one = inl refl
overtaken rows c o (Order g k ∷ []) old h none is some_one = inr (h.0.1 some_one)
overtaken rows c o (Change g k t s f ∷ []) old h none is some_one = absurd (none.0 (ap (named c) h.0.1 ∙ is))
overtaken rows c o (Order g k ∷ y ∷ ys) old h none is some_one =
    ⊎_elim (λ e. absurd (cc (e))) (λ lt. let le = h.0.0 in inr (omega arith)) (overtaken rows c o (y ∷ ys) old h.1 none.1 is some_one)
overtaken rows c o (Change g k t s f ∷ y ∷ ys) old h none is some_one =
    ⊎_elim (λ e. absurd (cc (e))) inr (overtaken rows c o (y ∷ ys) old h.1 none.1 is some_one)

-- the hub has seen each order
pub no_orders : (c : ℕ) (newer old : SeatLog) → HasNoneBy c Hub newer → (gener_after (newer ++ old) ≡ gener_after old) × (ctrl_after (newer ++ old) ≡ ctrl_after old) × (order_count (newer ++ old) ≡ order_count old)
no_orders c [] old h = (refl, refl, refl)
no_orders c (Order g k ∷ es) old h = absurd (h.0 refl)
no_orders c (Change g k t s f ∷ es) old h = no_orders c es old h.1

-- of two beginnings the one with less behind it
pub none_shorter : (c : ℕ) (o : Owner) (xs ys a b : SeatLog) → xs ++ a ≡ ys ++ b → length a ≤ length b → HasNoneBy c o xs → HasNoneBy c o ys
none_shorter c o xs [] a b e le h = tt
none_shorter c o [] (y ∷ ys) a b e le h = absurd (omega (arith, ap length e, length-append (y ∷ ys) b))
none_shorter c o (x ∷ xs) (y ∷ ys) a b e le h =
    let heads : x ≡ y = cc (e) in let tails : xs ++ a ≡ ys ++ b = cc (e) in
    (λ m. h.0 (ap (maker_of c) heads ∙ m), none_shorter c o xs ys a b tails le h.1)

pub suffix_shorter : (xs ys a b : SeatLog) → xs ++ a ≡ ys ++ b → length a ≤ length b → Extends a b
suffix_shorter xs [] a b e le = record { newer = xs; is = sym e }
suffix_shorter [] (y ∷ ys) a b e le = absurd (omega (arith, ap length e, length-append (y ∷ ys) b))
suffix_shorter (x ∷ xs) (y ∷ ys) a b e le = suffix_shorter xs ys a b (cc (e)) le

pub suffix_none : (c : ℕ) (o : Owner) (xs ys a b : SeatLog) → xs ++ a ≡ ys ++ b → length a ≤ length b → HasNoneBy c o xs → GrewByOthers c o a b
suffix_none c o xs [] a b e le h = record { newer = xs; is = sym e; none_mine = h }
suffix_none c o [] (y ∷ ys) a b e le h = absurd (omega (arith, ap length e, length-append (y ∷ ys) b))
suffix_none c o (x ∷ xs) (y ∷ ys) a b e le h = suffix_none c o xs ys a b (cc (e)) le h.1

-- what two have seen of one log, put together: the longer one
pub record Together (c : ℕ) (o : Owner) (a b both log : SeatLog) : Type 0 where
  pub grew : GrewByOthers c o both log
  pub first : GrewByOthers c o a both
  pub second : Extends b both

pub same_log : (l : SeatLog) → Extends l l
same_log l = record { newer = []; is = refl }

pub put_together : (c : ℕ) (o : Owner) (a b log : SeatLog) → GrewByOthers c o a log → Extends b log → (t : Bool) → ltb (length a) (length b) ≡ t → Together c o a b (longer t a b) log
put_together c o a b log g h true e =
    let le : length a < length b = ltb-true (length a) (length b) e in
    let both : g.newer ++ a ≡ h.newer ++ b = sym g.is ∙ h.is in
    record { grew = record { newer = h.newer; is = h.is; none_mine = none_shorter c o g.newer h.newer a b both (omega arith) g.none_mine }; first = suffix_none c o g.newer h.newer a b both (omega arith) g.none_mine; second = same_log b }
put_together c o a b log g h false e =
    let le : length b ≤ length a = ltb-false (length a) (length b) e in
    record { grew = g; first = record { newer = []; is = refl; none_mine = tt }; second = suffix_shorter h.newer g.newer b a (sym h.is ∙ g.is) le }

-- the longer of two, for what the second has none of
pub grew_second : (c : ℕ) (o : Owner) (a b log : SeatLog) → Extends a log → GrewByOthers c o b log → (t : Bool) → ltb (length a) (length b) ≡ t → GrewByOthers c o (longer t a b) log
grew_second c o a b log g h true e = h
grew_second c o a b log g h false e =
    let le : length b ≤ length a = ltb-false (length a) (length b) e in
    record { newer = g.newer; is = g.is; none_mine = none_shorter c o h.newer g.newer b a (sym h.is ∙ g.is) le h.none_mine }

-- where the hub has made the entries, or passes that it took in, it has seen all
pub all_seen : (c ports n : ℕ) (newer seen : SeatLog) → AreMadeBy c ports n (newer ++ seen) → HasNoneBy c Hub newer → ((m : ℕ) → m < n → HasNoneBy c (pass_owner ports m) newer) → newer ≡ []
all_seen c ports n [] seen made hub passes = refl
all_seen c ports n (e ∷ es) seen made hub passes = absurd (⊎_elim (λ is. hub.0 is) (λ (t : (m : ℕ) × (m < n) × (maker_of c e ≡ pass_owner ports m)). (passes t.0 t.1).0 t.2) made.0)

pub at_merged : (xs ys : List SeatLog) (c : ℕ) (F : SeatLog → Type 0) → ((t : Bool) → ltb (length (log_at xs c)) (length (log_at ys c)) ≡ t → F (longer t (log_at xs c) (log_at ys c))) → length ys ≤ length xs → F (log_at (merged xs ys) c)
at_merged [] [] c F f le = f false refl
at_merged [] (y ∷ ys) c F f le = absurd (omega arith)
at_merged (x ∷ xs) [] c F f le = nothing_there (log_at (x ∷ xs) c) F f
  where
    nothing_there : (l : SeatLog) (F : SeatLog → Type 0) → ((t : Bool) → ltb (length l) 0 ≡ t → F (longer t l [])) → F l
    nothing_there [] F f = f false refl
    nothing_there (z ∷ zs) F f = f false (le-ltb (length (z ∷ zs)) 0 (omega arith))
at_merged (x ∷ xs) (y ∷ ys) zero F f le = f (ltb (length x) (length y)) refl
at_merged (x ∷ xs) (y ∷ ys) (suc c) F f le = at_merged xs ys c F f (omega arith)

pub length-merged : (xs ys : List SeatLog) → length ys ≤ length xs → length (merged xs ys) ≡ length xs
length-merged [] ys le = refl
length-merged (x ∷ xs) [] le = refl
length-merged (x ∷ xs) (y ∷ ys) le = ap suc (length-merged xs ys (omega arith))

pub same_end : (a b : SeatLog) → Extends a b → length b ≤ length a → b ≡ a
same_end a b e le = go e.newer e.is
  where
    go : (xs : SeatLog) → b ≡ xs ++ a → b ≡ a
    go [] is = is
    go (x ∷ xs) is = absurd (omega (arith, ap length is, length-append (x ∷ xs) a))

-- two ends of one log that are as long are the same, and so is what stands before them
pub split_same : (xs ys a b : SeatLog) → xs ++ a ≡ ys ++ b → length a ≡ length b → (xs ≡ ys) × (a ≡ b)
split_same [] [] a b e same = (refl, e)
split_same [] (y ∷ ys) a b e same = absurd (omega (arith, ap length e, length-append (y ∷ ys) b))
split_same (x ∷ xs) [] a b e same = absurd (omega (arith, ap length e, length-append (x ∷ xs) a))
split_same (x ∷ xs) (y ∷ ys) a b e same = let t = split_same xs ys a b (cc (e)) same in let heads : x ≡ y = cc (e) in ((λ i. heads i ∷ t.0 i), t.1)

pub none_back : (c : ℕ) (o : Owner) (xs ys : SeatLog) → HasNoneBy c o (xs ++ ys) → HasNoneBy c o ys
none_back c o [] ys h = h
none_back c o (x ∷ xs) ys h = none_back c o xs ys h.1

-- what holds up to the whole log holds up to a part of it
pub grew_between : (c : ℕ) (o : Owner) (a b l : SeatLog) → GrewByOthers c o a l → Extends a b → Extends b l → GrewByOthers c o a b
grew_between c o a b l g p q =
    let parts : g.newer ++ a ≡ (q.newer ++ p.newer) ++ a = sym g.is ∙ q.is ∙ ap (λ (m : SeatLog). q.newer ++ m) p.is ∙ sym (append_assoc q.newer p.newer a) in
    record { newer = p.newer; is = p.is; none_mine = none_back c o q.newer p.newer (subst (HasNoneBy c o) (split_same g.newer (q.newer ++ p.newer) a a parts refl).0 g.none_mine) }
