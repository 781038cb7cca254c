-- How much an event of a port tells at most: moves, and frames with their lengths.
use Rattle.std.proofs.Common.{◌≡◌, ℕ, suc, ◌+◌, ◌*◌, ◌≤◌, Bool, true, false, cond, List, [], ◌∷◌, ◌++◌, length, map, refl, sym, ap, subst, ◌∙◌, arith, Option, Some, eqb, length-append}
use Rattle.std.specs.Prelude.{ℤ, Result, Ok, Err, option_to_list, flat_map, All}
use Rattle.std.proofs.lemmas.List.{append-nil, length-map}
use Rattle.std.proofs.lemmas.List.Elements.{All-cons, All-nil}
use Rattle.ptp_base.specs.declared.port_state.PortState.{PortState}
use Rattle.ptp_profile.specs.declared.message.Message.{Message}
use Rattle.ptp_profile.specs.declared.message.Body.{Body}
use Rattle.ptp_profile.specs.declared.message.Body.TheVariants.{Sync, DelayReq, FollowUp, DelayResp, Announce}
use Rattle.ptp_profile.specs.declared.message.Reject.{Reject}
use Rattle.ptp_profile.specs.declared.port_event.Fate.{Fate}
use Rattle.ptp_profile.specs.declared.port_event.Timer.{Timer}
use Rattle.ptp_profile.specs.declared.port_event.Timer.TheVariants.{AnnounceReceipt, Qualification, AnnounceSend, SyncSend, DelayRequest}
use Rattle.ptp_profile.specs.Best.MasterData.{Master}
use Rattle.ptp_profile.specs.Port.PortMessages.{timer_messages}
use Rattle.ptp_profile.specs.Port.PortStates.{state_number}
use Rattle.ptp_profile.specs.Port.Port.{Port, is_set_for}
use Rattle.ptp_profile.specs.Wire.MessageFormat.{length_of, kind_number}
use Rattle.ptp_wire.proofs.lemmas.MessageLengthLemmas.{length_written}
use Rattle.bc_history.specs.declared.entry.Moved.{Moved}
use Rattle.bc_history.specs.declared.entry.Sent.{Sent}
use Rattle.bc_history.specs.declared.port_input.PortEntry.{PortEntry}
use Rattle.bc_history.specs.declared.port_input.PortHappening.{PortHappening}
use Rattle.bc_history.specs.declared.port_input.PortHappening.TheVariants.{Frame, Timed, Down, Up, Report}
use Rattle.bc_history.specs.declared.scenario.Options.{Options}
use Rattle.bc_history.specs.Phases.EntryEffects.{frames_at, is_answered, messages_of, moves_of_port, moves_from, response, frame_of_message}
use Rattle.bc_history.specs.Phases.Inputs.{port_at}
use Rattle.bc_history.specs.Phases.PortPhase.{fate_at, read_frame}
use Rattle.bc_history.specs.Phases.RolePhase.{states_of}
use Rattle.bc_history.specs.Phases.State.{Core}
use Rattle.bc_history.specs.Phases.HubPort.{HubPort}
use Rattle.hub_core.specs.EffectParts.{sent_by}
use Rattle.hub_core.specs.EffectRooms.{IsShort}

-- ---- moves

one-move : (b : Bool) (m : Moved) → length (cond b [] (m ∷ [])) ≤ 1
one-move true m = omega arith
one-move false m = omega arith

few-moved : (p : ℕ) (old new : PortState) → length (moves_of_port p old new) ≤ 1
few-moved p old new = one-move (eqb (state_number old) (state_number new)) (record { port = p; old = old; new = new })

few-cons : (a b rest : List Moved) (n : ℕ) → length a ≤ 1 → length b ≤ 1 → length rest ≤ 2 * n → length (a ++ b ++ rest) ≤ 2 * suc n
few-cons a b rest n one two more =
    let inner : length (a ++ b) ≡ length a + length b = length-append a b in
    let outer : length (a ++ b ++ rest) ≡ length (a ++ b) + length rest = length-append (a ++ b) rest in
    omega (arith, one, two, more, inner, outer)

few-from : (p : ℕ) (olds mids news : List PortState) → length (moves_from p olds mids news) ≤ 2 * length olds
few-from p [] [] news = omega arith
few-from p [] (mid ∷ mids) news = omega arith
few-from p (old ∷ olds) [] news = omega arith
few-from p (old ∷ olds) (mid ∷ mids) [] = omega arith
few-from p (old ∷ olds) (mid ∷ mids) (new ∷ news) =
    few-cons (moves_of_port p old mid) (moves_of_port p mid new) (moves_from (p + 1) olds mids news) (length olds) (few-moved p old mid) (few-moved p mid new) (few-from (p + 1) olds mids news)

-- each port moves at most twice
pub few-moves : (moves : List Moved) (hs : List HubPort) (mids news : List PortState) (ports : ℕ) → moves ≡ moves_from 1 (states_of hs) mids news → length hs ≡ ports → length moves ≤ 2 * ports
few-moves moves hs mids news ports is count =
    let P : List Moved → Type 0 = λ ms. length ms ≤ 2 * ports in
    let same : length (states_of hs) ≡ length hs = length-map hs _ in
    let few = few-from 1 (states_of hs) mids news in
    subst P (sym is) (omega (arith, same, few, count))

-- ---- frames

-- the messages of an entry's port
abbrev port_messages : Options → PortEntry → Core → HubPort → List Message
port_messages o e c h = messages_of o (fate_at o e c) c.master e.reading e.input.tick e.input.what h.port

frames-of : (o : Options) (e : PortEntry) (c : Core) (h : HubPort) → port_at c.ports e.input.number ≡ Some h → frames_at o e c ≡ map (frame_of_message h.port.id.port) (port_messages o e c h)
frames-of o e c h there =
    ap (λ (x : Option HubPort). flat_map (λ (g : HubPort). map (frame_of_message g.port.id.port) (port_messages o e c g)) (option_to_list x)) there
    ∙ append-nil (map (frame_of_message h.port.id.port) (port_messages o e c h))

sent-again : (p : ℕ) (messages : List Message) → map (sent_by p) (map (λ (s : Sent). s.octets) (map (frame_of_message p) messages)) ≡ map (frame_of_message p) messages
sent-again p [] = refl
sent-again p (m ∷ messages) = ap (λ rest. frame_of_message p m ∷ rest) (sent-again p messages)

-- the frames of the port are those of the entry
pub sends-known : (o : Options) (e : PortEntry) (c : Core) (h : HubPort) (p : ℕ) (frames : List (List ℕ)) → port_at c.ports e.input.number ≡ Some h → h.port.id.port ≡ p
    → frames ≡ map (λ (s : Sent). s.octets) (frames_at o e c) → map (sent_by p) frames ≡ frames_at o e c
sends-known o e c h p frames there number is =
    let ms : List Message = port_messages o e c h in
    let of = frames-of o e c h there ∙ ap (λ (q : ℕ). map (frame_of_message q) ms) number in
    ap (λ (fs : List (List ℕ)). map (sent_by p) fs) (is ∙ ap (λ (xs : List Sent). map (λ (s : Sent). s.octets) xs) of) ∙ (sent-again p ms ∙ sym of)

-- a port sends at most two frames at once
few-timer : (domain : ℕ) (master : Master) (seen : ℤ) (timer : Timer) (p : Port) → length (timer_messages domain master seen timer p) ≤ 2
few-timer domain master seen AnnounceSend p = omega arith
few-timer domain master seen SyncSend p = omega arith
few-timer domain master seen DelayRequest p = omega arith
few-timer domain master seen AnnounceReceipt p = omega arith
few-timer domain master seen Qualification p = omega arith

few-response : (domain : ℕ) (seen : ℤ) (read : Result Message Reject) (p : Port) → length (response domain seen read p) ≤ 2
few-response domain seen (Err reject) p = omega arith
few-response domain seen (Ok request) p = omega arith

few-if : {X : Type 0} (b : Bool) (xs : List X) → length xs ≤ 2 → length (cond b xs []) ≤ 2
few-if true xs few = few
few-if false xs few = omega arith

few-messages : (o : Options) (fate : Option Fate) (master : Master) (seen : ℤ) (tick : ℕ) (what : PortHappening) (p : Port) → length (messages_of o fate master seen tick what p) ≤ 2
few-messages o fate master seen tick (Timed timer) p = few-if (is_set_for timer tick p) (timer_messages o.domain_number master seen timer p) (few-timer o.domain_number master seen timer p)
few-messages o fate master seen tick (Frame octets) p = few-if (is_answered fate) (response o.domain_number seen (read_frame o octets) p) (few-response o.domain_number seen (read_frame o octets) p)
few-messages o fate master seen tick Down p = omega arith
few-messages o fate master seen tick Up p = omega arith
few-messages o fate master seen tick (Report gener action outcome) p = omega arith

short-kind : (b : Body) → length_of (kind_number b) ≤ 64
short-kind (Sync origin) = omega arith
short-kind (DelayReq origin) = omega arith
short-kind (FollowUp precise) = omega arith
short-kind (DelayResp receive requesting) = omega arith
short-kind (Announce origin said) = omega arith

short-sent : (p : ℕ) (m : Message) → IsShort (frame_of_message p m)
short-sent p m = let long = length_written m in let kind = short-kind m.body in omega (arith, long, kind)

short-all : (p : ℕ) (messages : List Message) → All IsShort (map (frame_of_message p) messages)
short-all p [] = All-nil IsShort
short-all p (m ∷ messages) = All-cons IsShort (frame_of_message p m) (map (frame_of_message p) messages) (short-sent p m) (short-all p messages)

pub few-frames : (o : Options) (e : PortEntry) (c : Core) (h : HubPort) → port_at c.ports e.input.number ≡ Some h → length (frames_at o e c) ≤ 2
few-frames o e c h there =
    let P : List Sent → Type 0 = λ xs. length xs ≤ 2 in
    let same = length-map (port_messages o e c h) (frame_of_message h.port.id.port) in
    let few = few-messages o (fate_at o e c) c.master e.reading e.input.tick e.input.what h.port in
    subst P (sym (frames-of o e c h there)) (omega (arith, same, few))

pub short-frames : (o : Options) (e : PortEntry) (c : Core) (h : HubPort) → port_at c.ports e.input.number ≡ Some h → All IsShort (frames_at o e c)
short-frames o e c h there =
    let P : List Sent → Type 0 = λ xs. All IsShort xs in
    subst P (sym (frames-of o e c h there)) (short-all h.port.id.port (port_messages o e c h))
