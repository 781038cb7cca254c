-- What the ports of a made scenario hear (project). Master e, of 32, is heard by port e + 1 alone,
-- in the 20 seconds that begin at 20 * e seconds.
use Rattle.std.specs.Prelude.{ℕ, ℤ, pos, ◌+◌, ◌-◌, ◌*◌, ◌/◌, ◌%◌, ◌==◌, ◌&&◌, nat_le, Bool, if◌then◌else◌, List, [], ◌∷◌, ◌++◌, map}
use Rattle.std.specs.List.{flat_map, range_with_len}
use Rattle.ptp_profile.specs.Wire.MessageFormat.{kind_number}
use Rattle.ptp_base.specs.declared.identity.PortId.{PortId}
use Rattle.ptp_profile.specs.declared.message.Message.{Message}
use Rattle.ptp_profile.specs.declared.message.Body.{Body}
use Rattle.ptp_profile.specs.declared.message.Body.TheVariants.{Sync, DelayResp, Announce}
use Rattle.bc_gen.specs.declared.records.MadeRecord.{MadeRecord}
use Rattle.bc_gen.specs.declared.records.TheConstants.{SECOND, FIRST_MASTER, OWN_CLOCK, EPOCH}
use Rattle.bc_gen.specs.MadeNumbers.{made_delay}

-- when master e begins, in ns
abbrev pub beginning : ℕ → ℕ
beginning e = 20 * e * SECOND

-- the port of master e
abbrev pub made_sender : ℕ → PortId
made_sender e = record { clock = record { id = FIRST_MASTER + e }; port = 1 }

-- a message of master e
abbrev pub made_message : ℕ → (flags seq : ℕ) → (log_interval : ℤ) → Body → Message
made_message e flags seq log_interval body = record {
  domain = 0;
  flags = flags;
  correction = pos 0;
  sender = made_sender e;
  seq = seq;
  log_interval = log_interval;
  body = body;
}

-- Announce j of master e, 2 seconds behind the one before; each master is better than those before
-- it, by its priority1
abbrev pub announce : (e j : ℕ) → MadeRecord
announce e j = record {
  tick = beginning e + (100000000 + 2 * j * SECOND);
  port = e + 1;
  message = made_message e 0x0008 j (pos 1)
      (Announce (pos 0)
      (record {
        grandmaster = (made_sender e).clock;
        quality = record {
          priority1 = 127 - e;
          class = 6;
          accuracy = 0x21;
          variance = 0x4e5d;
          priority2 = 128;
        };
        steps = 0;
        utc_offset = pos 37;
        source = 0x20;
      }));
}

-- one-step Sync j of master e, a second behind the one before: it was sent delay ns before it is
-- heard
abbrev pub sync : (e delay j : ℕ) → MadeRecord
sync e delay j = record {
  tick = beginning e + (2300000000 + j * SECOND);
  port = e + 1;
  message = made_message e 0 j (pos 0)
      (Sync (pos (EPOCH + (beginning e + (2300000000 + j * SECOND)) - delay)));
}

-- Delay_Resp j of master e, 0.4 s behind the request, which came to it delay ns after it was sent
abbrev pub delay_resp : (e delay j : ℕ) → MadeRecord
delay_resp e delay j = record {
  tick = beginning e + (3500000000 + j * SECOND);
  port = e + 1;
  message = made_message e 0 j (pos 0)
      (DelayResp (pos (EPOCH + (beginning e + (3100000000 + j * SECOND)) + delay))
      (record { clock = record { id = OWN_CLOCK }; port = e + 1 }));
}

-- ---- in the order of their ticks

-- the Announce in second s of the 20, where one is there: in every other second
abbrev pub announces_in : (e s : ℕ) → List MadeRecord
announces_in e s = if s % 2 == 0 then announce e (s / 2) ∷ [] else []

-- the Sync in second s, where one is there: from 2 on
abbrev pub syncs_in : (e delay s : ℕ) → List MadeRecord
syncs_in e delay s = if nat_le 2 s then sync e delay (s - 2) ∷ [] else []

-- the Delay_Resp in second s, where one is there: from 3 to 18
abbrev pub delay_resps_in : (e delay s : ℕ) → List MadeRecord
delay_resps_in e delay s =
    if nat_le 3 s && nat_le s 18 then delay_resp e delay (s - 3) ∷ [] else []

-- the records in second s: an Announce stands at 0.1 s of it, a Sync at 0.3 s and a Delay_Resp at
-- 0.5 s
abbrev pub records_in : (e delay s : ℕ) → List MadeRecord
records_in e delay s = announces_in e s ++ syncs_in e delay s ++ delay_resps_in e delay s

-- the records of master e, second by second
abbrev pub records_of : (e delay : ℕ) → List MadeRecord
records_of e delay = flat_map (records_in e delay) (range_with_len 0 20)

-- those of scenario n
abbrev pub made_records : (n e : ℕ) → List MadeRecord
made_records n e = records_of e (made_delay n e)

-- ---- what they are

-- a record's message is of a type, by its messageType
abbrev pub is_of_type : ℕ → MadeRecord → Bool
is_of_type kind r = kind_number r.message.body == kind

-- when records are heard
abbrev pub ticks : List MadeRecord → List ℕ
ticks records = map (λ r. r.tick) records
