-- What an engine makes of messages that are no Announce, over plain values.
use Rattle.std.proofs.Common.{◌≡◌, ◌∙◌, ap, sym, subst, refl, ℕ, ℤ, Bool, true, false, not, ◌==◌, ◌&&◌, bit_and, if◌then◌else◌, List, ◌∷◌, ◌++◌, append-nil, Option, Some, None, option_and_then, option_to_list}
use Rattle.ptp_base.specs.declared.identity.PortId.{PortId}
use Rattle.ptp_base.specs.declared.triple.Triple.{Triple}
use Rattle.ptp_profile.specs.declared.message.Message.{Message}
use Rattle.ptp_profile.specs.declared.message.Body.{Body}
use Rattle.ptp_profile.specs.declared.message.Body.TheVariants.{Sync as Sync_body, FollowUp, DelayResp}
use Rattle.ptp_profile.specs.declared.port_event.Fate.{Fate}
use Rattle.ptp_profile.specs.declared.port_event.Fate.TheVariants.{Ignored, Matched, Unmatched}
use Rattle.delay_mech.specs.declared.delays.Response.{Response}
use Rattle.delay_mech.specs.declared.delays.Response.TheVariants as response
use Rattle.ptp_profile.specs.declared.timing.Measure.{Measure}
use Rattle.ptp_profile.specs.Best.PortIdentity.{is_same_port}
use Rattle.ptp_profile.specs.Timing.OffsetAndDelay.{Piece, Request, triple_after, request_answered, with_delay, measure_of, mean_of}
use Rattle.ptp_profile.specs.Port.Port.{Port, piece_of, triple_of, with_piece, paired_fate, response_fate, request_answered_by, with_response, takes_from, timing_fate, timing_measure, after_timing}
use Rattle.sync_match.specs.declared.pairing.Pairing.{Pairing}
use Rattle.sync_match.specs.PairingView.{sync_of}
use Rattle.sync_match.specs.PairingView as pairs
use Rattle.delay_mech.specs.DelaysView as delay
use Rattle.port_engine.specs.EngineView.{Engine, EngineRepresents, frames_for, newest}

if_piece : (t two : Bool) (a b : Piece) → two ≡ not t → (if t then Some a else Some b) ≡ Some (if two then b else a)
if_piece true false a b h = refl
if_piece false true a b h = refl
if_piece true true a b h = absurd (cc)
if_piece false false a b h = absurd (cc)

-- a Sync as a piece
sync_piece : (m : Message) (seen origin o s k : ℤ) (two : Bool) → m.body ≡ Sync_body origin → two ≡ not (bit_and m.flags 0x0200 == 0)
    → o ≡ origin → s ≡ seen → k ≡ m.correction → piece_of m seen m.body ≡ Some (sync_of m.seq two o s k)
sync_piece m seen origin o s k two is flag ho hs hk =
    ap (λ (b : Body). piece_of m seen b) is ∙ if_piece (bit_and m.flags 0x0200 == 0) two _ _ flag ∙ (λ i. Some (sync_of m.seq two (sym ho i) (sym hs i) (sym hk i)))

pub sync_found : (m : Message) (seen origin o s k : ℤ) (two : Bool) (p : Port) (found : Option Triple) → found ≡ triple_after (sync_of m.seq two o s k) p.pieces
    → m.body ≡ Sync_body origin → two ≡ not (bit_and m.flags 0x0200 == 0) → o ≡ origin → s ≡ seen → k ≡ m.correction → found ≡ triple_of m seen p
sync_found m seen origin o s k two p found f is flag ho hs hk =
    f ∙ sym (ap (λ (x : Option Piece). option_and_then (λ piece. triple_after piece p.pieces) x) (sync_piece m seen origin o s k two is flag ho hs hk))

-- what pairing keeps is all that changes
pub with_pairing : (length : ℕ) (e : Engine) (p : Port) (kept : Pairing) (pieces : List Piece) → EngineRepresents length e p → pairs.PairingRepresents kept pieces
    → EngineRepresents length (record e { pairing = kept }) (record p { pieces = pieces })
with_pairing length e p kept pieces is new = record {
  id = is.id;
  conf = is.conf;
  state = is.state;
  timers = is.timers;
  pieces = new;
  triple = is.triple;
  request = is.request;
  length_is = is.length_is;
  delays = is.delays;
  announces = is.announces;
  syncs = is.syncs;
  requests = is.requests;
}

pub sync_kept : (m : Message) (seen origin o s k : ℤ) (two : Bool) (p : Port) (kept : Pairing) → pairs.PairingRepresents kept (sync_of m.seq two o s k ∷ p.pieces)
    → m.body ≡ Sync_body origin → two ≡ not (bit_and m.flags 0x0200 == 0) → o ≡ origin → s ≡ seen → k ≡ m.correction
    → pairs.PairingRepresents kept (option_to_list (piece_of m seen m.body) ++ p.pieces)
sync_kept m seen origin o s k two p kept r is flag ho hs hk =
    let P : Option Piece → Type 0 = λ x. pairs.PairingRepresents kept (option_to_list x ++ p.pieces) in
    subst P (sym (sync_piece m seen origin o s k two is flag ho hs hk)) r

pub judged_measure : (length : ℕ) (m : Message) (seen : ℤ) (p : Port) (found : Option Triple) (fate : Fate) (measure : Option Measure) → fate ≡ paired_fate found
    → found ≡ triple_of m seen p → measure ≡ option_and_then (λ t. measure_of t (mean_of length p.delays)) found → measure ≡ timing_measure length m seen fate p
judged_measure length m seen p None fate measure f t h = h ∙ ap (λ (x : Fate). timing_measure length m seen x p) (sym f)
judged_measure length m seen p (Some x) fate measure f t h =
    h ∙ ap (λ (o : Option Triple). option_and_then (λ u. measure_of u (mean_of length p.delays)) o) t ∙ ap (λ (x : Fate). timing_measure length m seen x p) (sym f)

pub judged_port : (length : ℕ) (e : Engine) (m : Message) (seen : ℤ) (p : Port) (found : Option Triple) (fate : Fate) → fate ≡ paired_fate found
    → found ≡ triple_of m seen p → EngineRepresents length e (record (with_piece m seen p) { triple = newest found p.triple }) → EngineRepresents length e (after_timing m seen fate p)
judged_port length e m seen p None fate f t is = let P : Fate → Type 0 = λ x. EngineRepresents length e (after_timing m seen x p) in subst P (sym f) is
judged_port length e m seen p (Some x) fate f t is =
    let P : Fate → Type 0 = λ x. EngineRepresents length e (after_timing m seen x p) in
    let Q : Option Triple → Type 0 = λ o. EngineRepresents length e (record (with_piece m seen p) { triple = o }) in
    subst P (sym f) (subst Q t is)

if_some : (t : Bool) (q r : Request) → (if t then Some q else None) ≡ Some r → Some q ≡ Some r
if_some true q r h = h
if_some false q r h = absurd (cc)

answered_is : (own : PortId) (seq : ℕ) (requesting : PortId) (o : Option Request) (r : Request) → request_answered own seq requesting o ≡ Some r → o ≡ Some r
answered_is own seq requesting None r h = absurd (cc)
answered_is own seq requesting (Some q) r h = if_some ((q.seq == seq) && is_same_port requesting own) q r h

-- a response
pub response_kept : (length : ℕ) (e : Engine) (p : Port) (m : Message) (seen receive v k : ℤ) (requesting : PortId) (new : delay.DelaysView) (r : Option Request) (fate : Fate)
    → EngineRepresents length e p → m.body ≡ DelayResp receive requesting → new ≡ delay.after_response e.delays r v k
    → delay.DelaysRepresent new (with_delay e.delays.triple r v k p.delays) → r ≡ request_answered e.delays.own m.seq requesting e.delays.request → fate ≡ response_fate r
    → v ≡ receive → k ≡ m.correction → EngineRepresents length (record e { delays = new }) (after_timing m seen fate p)
response_kept length e p m seen receive v k requesting new None fate is body exact all answer f hv hk =
    let P : Fate → Type 0 = λ x. EngineRepresents length (record e { delays = new }) (after_timing m seen x p) in
    let Q : delay.DelaysView → Type 0 = λ d. EngineRepresents length (record e { delays = d }) p in
    subst P (sym f) (subst Q (sym exact) is)
response_kept length e p m seen receive v k requesting new (Some r) fate is body exact all answer f hv hk =
    let waits : p.request ≡ Some r = sym is.request ∙ answered_is e.delays.own m.seq requesting e.delays.request r (sym answer) in
    let P : Fate → Type 0 = λ x. EngineRepresents length (record e { delays = new }) (after_timing m seen x p) in
    let B : Body → Type 0 = λ b. EngineRepresents length (record e { delays = new }) (with_response m b p) in
    let delays : with_delay e.delays.triple (Some r) v k p.delays ≡ with_delay p.triple p.request receive m.correction p.delays = λ i. with_delay (is.triple i) (sym waits i) (hv i) (hk i) p.delays in
    let D : List ℤ → Type 0 = λ ds. delay.DelaysRepresent new ds in
    subst P (sym f) (subst B (sym body) (record {
      id = is.id;
      conf = is.conf;
      state = is.state;
      timers = is.timers;
      pieces = is.pieces;
      triple = ap (λ (d : delay.DelaysView). d.triple) exact ∙ is.triple;
      request = ap (λ (d : delay.DelaysView). d.request) exact;
      length_is = ap (λ (d : delay.DelaysView). d.length) exact ∙ is.length_is;
      delays = subst D delays all;
      announces = is.announces;
      syncs = is.syncs;
      requests = is.requests;
    }))

-- the fate of a message of the parent
pub sync_fate : (parent : PortId) (m : Message) (seen : ℤ) (p : Port) (body : Body) (origin : ℤ) → body ≡ Sync_body origin → takes_from parent m.sender p ≡ true
    → timing_fate parent m seen p body ≡ paired_fate (triple_of m seen p)
sync_fate parent m seen p body origin is takes = ap (λ (b : Body). timing_fate parent m seen p b) is ∙ ap (λ (t : Bool). if t then paired_fate (triple_of m seen p) else Ignored) takes

pub follow_up_fate : (parent : PortId) (m : Message) (seen : ℤ) (p : Port) (body : Body) (precise : ℤ) → body ≡ FollowUp precise → takes_from parent m.sender p ≡ true
    → timing_fate parent m seen p body ≡ paired_fate (triple_of m seen p)
follow_up_fate parent m seen p body precise is takes = ap (λ (b : Body). timing_fate parent m seen p b) is ∙ ap (λ (t : Bool). if t then paired_fate (triple_of m seen p) else Ignored) takes

pub delay_resp_fate : (parent : PortId) (m : Message) (seen : ℤ) (p : Port) (body : Body) (receive : ℤ) (requesting : PortId) → body ≡ DelayResp receive requesting
    → takes_from parent m.sender p ≡ true → timing_fate parent m seen p body ≡ response_fate (request_answered_by m m.body p)
delay_resp_fate parent m seen p body receive requesting is takes =
    ap (λ (b : Body). timing_fate parent m seen p b) is ∙ ap (λ (t : Bool). if t then response_fate (request_answered_by m m.body p) else Ignored) takes

-- these ask for no frame
pub pair_sends_nothing : (frames : List (List ℕ)) (fate : Fate) (found : Option Triple) (response : Message) → fate ≡ paired_fate found → frames ≡ frames ++ frames_for fate response
pair_sends_nothing frames fate None response f = sym (append-nil frames) ∙ ap (λ (x : Fate). frames ++ frames_for x response) (sym f)
pair_sends_nothing frames fate (Some t) response f = sym (append-nil frames) ∙ ap (λ (x : Fate). frames ++ frames_for x response) (sym f)

pub response_sends_nothing : (frames : List (List ℕ)) (fate : Fate) (found : Option Request) (response : Message) → fate ≡ response_fate found → frames ≡ frames ++ frames_for fate response
response_sends_nothing frames fate None response f = sym (append-nil frames) ∙ ap (λ (x : Fate). frames ++ frames_for x response) (sym f)
response_sends_nothing frames fate (Some t) response f = sym (append-nil frames) ∙ ap (λ (x : Fate). frames ++ frames_for x response) (sym f)

-- whether the response is matched says the fate
pub matched_fate : (r : Option Request) (answer : Response) (fate : Fate) → answer ≡ delay.response_to r → answer ≡ response.Matched → fate ≡ Matched → fate ≡ response_fate r
matched_fate None answer fate to is f = absurd (cc)
matched_fate (Some r) answer fate to is f = f

pub unmatched_fate : (r : Option Request) (answer : Response) (fate : Fate) → answer ≡ delay.response_to r → answer ≡ response.Unmatched → fate ≡ Unmatched → fate ≡ response_fate r
unmatched_fate None answer fate to is f = f
unmatched_fate (Some r) answer fate to is f = absurd (cc)

-- the request that the response answers is that of the port
pub same_answer : (length : ℕ) (e : Engine) (p : Port) (m : Message) (receive : ℤ) (requesting : PortId) → EngineRepresents length e p → e.delays.own ≡ e.id
    → m.body ≡ DelayResp receive requesting → delay.answered_by e.delays m.seq requesting ≡ request_answered_by m m.body p
same_answer length e p m receive requesting is own body =
    (λ i. request_answered ((own ∙ is.id) i) m.seq requesting (is.request i)) ∙ sym (ap (λ (b : Body). request_answered_by m b p) body)
