-- With a right entry more, and its actor where its entries put it, the World stays right.
use Rattle.std.proofs.Common.{◌≡◌, ◌≢◌, ◌<◌, ℕ, Bool, true, false, cond, eqb, ne_eqb, inl, inr, sym, ap, ◌∙◌, subst, List, ◌∷◌, length, Some}
use Rattle.std.specs.Prelude.{◌⊎◌, slice_get}
use Rattle.std.proofs.lemmas.Bool.Decides.{eqb_tells}
use Rattle.ptp_base.specs.declared.limits.TheConstants.{ENTRIES_MAX}
use Rattle.bc_history.specs.declared.entry.Entry.{Entry}
use Rattle.bc_history.specs.declared.entry.Who.TheVariants.{Port as A_port, Follower as A_follower, Queries as The_queries}
use Rattle.bc_history.specs.declared.place.FollowerPlace.{FollowerPlace}
use Rattle.bc_history.specs.declared.place.PortPlace.{PortPlace}
use Rattle.bc_history.specs.declared.scenario.Scenario.{Scenario}
use Rattle.bc_history.specs.Phases.Inputs.{at_port, changed_at, port_at}
use Rattle.bc_history.specs.Phases.State.{Follower}
use Rattle.bc_history.specs.Phases.Step.{state_of}
use Rattle.bc_history.specs.Run.Actors.{actor_of, is_by, is_same_actor}
use Rattle.bc_history.specs.Run.FollowerEntries.{leading_by, led_with}
use Rattle.bc_history.specs.Run.FollowerPlace.{follower_place_by_entries}
use Rattle.bc_history.specs.Run.PortPlace.{place_by_entries}
use Rattle.bc_history.specs.Run.World.{World}
use Rattle.bc_history.specs.Scenario.ScenarioRules.{IsScenario}
use Rattle.bc_history.proofs.lemmas.CoreInvariantLemmas.{length-at_port, length-changed_at, option_map-some, port_at-at_port, port_at-elsewhere, slice_get-changed_at, slice_get-changed_elsewhere}
use Rattle.bc_history.proofs.lemmas.FollowerPhaseLemmas.{follower-before, followers-length, leading-state_of}
use Rattle.ptp_profile.specs.Roles.SeatLogs.{with_orders}
use Rattle.run_legal.specs.Runs.Courses.{IsCourse}
use Rattle.run_legal.specs.Runs.RightEntries.{IsRightEntry}
use Rattle.run_legal.specs.Runs.WorldInvariant.{IsFollowerPlaced, IsPortPlaced, IsRight}
use Rattle.run_legal.proofs.lemmas.EnteredCourseLemmas.{course-entered}
use Rattle.run_legal.proofs.lemmas.EnteredPlaceLemmas.{entered, follower-other, port-other}
use Rattle.run_legal.proofs.lemmas.EventPlaceLemmas.{follower-by_entries, port-by_entries}
use Rattle.run_legal.proofs.lemmas.NewerOrderLemmas.{entries_are_bounded, orders_are_newer}

-- ---- the World with a right entry more

module _ (s : Scenario) (is : IsScenario s) (w : World) (right : IsRight s w) (room : length w.entries < ENTRIES_MAX) (e : Entry) (entry : IsRightEntry s w.entries w.logs e) where
  -- entries and logs belong together
  course-next : IsCourse s (e ∷ w.entries) (with_orders w.logs e.effects.orders)
  course-next = course-entered s is w.entries w.logs e right.course room entry

  -- each other port is where it was
  port-stays : (ports : List PortPlace) (followers : List FollowerPlace) (q : ℕ) (place : PortPlace) → port_at w.ports q ≡ Some place → is_by (A_port q) e ≡ false
      → IsPortPlaced s (entered w e ports followers) q place
  port-stays ports followers q place there other =
      port-other s w (state_of s w.entries).roles.gener e (orders_are_newer s e w.entries entry.follows) (entries_are_bounded s w.entries right.course.history) ports followers
      q other place (right.ports q place there)

  -- what another follower was told is as it was
  leads-stay : (c : ℕ) (f g : Follower) → slice_get (state_of s w.entries).followers c ≡ Some f → slice_get (state_of s (e ∷ w.entries)).followers c ≡ Some g → is_by (A_follower c) e ≡ false
      → g.leading ≡ f.leading
  leads-stay c f g was now other =
      leading-state_of s (e ∷ w.entries) course-next.history c g now
      ∙ (ap (λ (b : Bool). cond b (led_with e) (leading_by c w.entries)) other ∙ sym (leading-state_of s w.entries right.course.history c f was))

  -- so each other follower is where it was
  follower-stays : (ports : List PortPlace) (followers : List FollowerPlace) (c : ℕ) (g : Follower) (place : FollowerPlace) → slice_get (state_of s (e ∷ w.entries)).followers c ≡ Some g
      → slice_get w.followers c ≡ Some place → is_by (A_follower c) e ≡ false → IsFollowerPlaced s (entered w e ports followers) c g place
  follower-stays ports followers c g place now there other =
      let old = follower-before s e w.entries c g now in
      follower-other s w (state_of s w.entries).roles.gener e (orders_are_newer s e w.entries entry.follows) (entries_are_bounded s w.entries right.course.history) ports followers
      c other old.0 g (leads-stay c old.0 g old.1 now other) place (right.followers c old.0 place old.1 there)

  -- there are as many followers
  count-stays : length w.followers ≡ length (state_of s (e ∷ w.entries)).followers
  count-stays = right.follower_count ∙ (followers-length s w.entries ∙ sym (followers-length s (e ∷ w.entries)))

  -- the ports, with port p where its entries put it
  abbrev pub ports_next : ℕ → List PortPlace
  ports_next p = at_port (λ place. place_by_entries s.options p (e ∷ w.entries)) p w.ports

  -- the followers, with the follower of clock c where its entries put it
  abbrev pub followers_next : ℕ → List FollowerPlace
  followers_next c = changed_at (λ former. follower_place_by_entries c (e ∷ w.entries)) c w.followers

  -- an entry of a port
  pub port-entered : (p : ℕ) → actor_of e.input ≡ A_port p → IsRight s (entered w e (ports_next p) w.followers)
  port-entered p of = record {
    course = course-next;
    port_count = length-at_port (λ (place : PortPlace). place_by_entries s.options p (e ∷ w.entries)) p w.ports ∙ right.port_count;
    ports = λ q place there. by q place there (eqb_tells p q);
    follower_count = count-stays;
    followers = λ c g place now there.
        follower-stays (ports_next p) w.followers c g place now there (ap (is_same_actor (A_follower c)) of);
  }
    where
      own : (place : PortPlace) → port_at (ports_next p) p ≡ Some place
          → IsPortPlaced s (entered w e (ports_next p) w.followers) p place
      own place there =
          let made = option_map-some (λ (former : PortPlace). place_by_entries s.options p (e ∷ w.entries)) (port_at w.ports p) place
          (sym (port_at-at_port (λ (former : PortPlace). place_by_entries s.options p (e ∷ w.entries)) p w.ports) ∙ there) in
          port-by_entries s (entered w e (ports_next p) w.followers) course-next p place made.2

      by : (q : ℕ) (place : PortPlace) → port_at (ports_next p) q ≡ Some place
          → ((eqb p q ≡ true) × (p ≡ q)) ⊎ ((eqb p q ≡ false) × (p ≢ q))
          → IsPortPlaced s (entered w e (ports_next p) w.followers) q place
      by q place there (inl same) =
          subst (λ (n : ℕ). IsPortPlaced s (entered w e (ports_next p) w.followers) n place) same.1
          (own place (subst (λ (n : ℕ). port_at (ports_next p) n ≡ Some place) (sym same.1) there))
      by q place there (inr differ) =
          port-stays (ports_next p) w.followers q place
          (sym (port_at-elsewhere (λ (former : PortPlace). place_by_entries s.options p (e ∷ w.entries)) p q w.ports differ.1) ∙ there)
          (ap (is_same_actor (A_port q)) of ∙ ne_eqb q p (λ same. differ.1 (sym same)))

  -- an entry of a follower
  pub follower-entered : (c : ℕ) → actor_of e.input ≡ A_follower c → IsRight s (entered w e w.ports (followers_next c))
  follower-entered c of = record {
    course = course-next;
    port_count = right.port_count;
    ports = λ q place there.
        port-stays w.ports (followers_next c) q place there (ap (is_same_actor (A_port q)) of);
    follower_count = length-changed_at (λ (former : FollowerPlace). follower_place_by_entries c (e ∷ w.entries)) c w.followers ∙ count-stays;
    followers = λ k g place now there. by k g place now there (eqb_tells c k);
  }
    where
      own : (g : Follower) (place : FollowerPlace) → slice_get (state_of s (e ∷ w.entries)).followers c ≡ Some g
          → slice_get (followers_next c) c ≡ Some place
          → IsFollowerPlaced s (entered w e w.ports (followers_next c)) c g place
      own g place now there =
          let made = option_map-some (λ (former : FollowerPlace). follower_place_by_entries c (e ∷ w.entries)) (slice_get w.followers c) place
          (sym (slice_get-changed_at (λ (former : FollowerPlace). follower_place_by_entries c (e ∷ w.entries)) c w.followers) ∙ there) in
          follower-by_entries s is (entered w e w.ports (followers_next c)) course-next c g now place made.2

      by : (k : ℕ) (g : Follower) (place : FollowerPlace) → slice_get (state_of s (e ∷ w.entries)).followers k ≡ Some g
          → slice_get (followers_next c) k ≡ Some place
          → ((eqb c k ≡ true) × (c ≡ k)) ⊎ ((eqb c k ≡ false) × (c ≢ k))
          → IsFollowerPlaced s (entered w e w.ports (followers_next c)) k g place
      by k g place now there (inl same) =
          subst (λ (n : ℕ). IsFollowerPlaced s (entered w e w.ports (followers_next c)) n g place) same.1
          (own g place (subst (λ (n : ℕ). slice_get (state_of s (e ∷ w.entries)).followers n ≡ Some g) (sym same.1) now)
          (subst (λ (n : ℕ). slice_get (followers_next c) n ≡ Some place) (sym same.1) there))
      by k g place now there (inr differ) =
          follower-stays w.ports (followers_next c) k g place now
          (sym (slice_get-changed_elsewhere (λ (former : FollowerPlace). follower_place_by_entries c (e ∷ w.entries)) c k w.followers differ.1) ∙ there)
          (ap (is_same_actor (A_follower k)) of ∙ ne_eqb k c (λ same. differ.1 (sym same)))

  -- an entry of the queries
  pub query-entered : actor_of e.input ≡ The_queries → IsRight s (entered w e w.ports w.followers)
  query-entered of = record {
    course = course-next;
    port_count = right.port_count;
    ports = λ q place there. port-stays w.ports w.followers q place there (ap (is_same_actor (A_port q)) of);
    follower_count = count-stays;
    followers = λ c g place now there. follower-stays w.ports w.followers c g place now there (ap (is_same_actor (A_follower c)) of);
  }
