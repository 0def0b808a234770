-- How a member's run goes at its socket.
use Rattle.std.specs.Prelude.{◌≡◌, ◌⊎◌, ℕ, Bool, not, ◌&&◌, List, [], Option, Some, None, IfSome, option_map, is_some}
use Rattle.px_packet.specs.Hmac.{key_block}
use Rattle.px_packet.specs.Packets.{packet_key}
use Rattle.px_packet.specs.Keyed.{and_key}
use Rattle.px_packet.specs.declared.start.Start.{Start}
use Rattle.px_records.specs.declared.records.Records.{Ghosts}
use Rattle.px_transport.specs.Sending.{Sealer}
use Rattle.px_wire.specs.declared.membership.Membership.{Membership}
use Rattle.node_loop.specs.Runs.{EndsWireless, Runs, OnFront}
use Rattle.node_loop.specs.Timing.{MakesTurns, TimerEvent}
use Rattle.node_loop.specs.declared.ended.Ended.{Ended}
use Rattle.node_udp.specs.Addresses.{AreAddresses}
use Rattle.node_udp.specs.Members.{route_of}
use Rattle.node_udp.specs.Sockets.{SocketEvent}
use Rattle.node_udp.specs.declared.address.Address.{Address}
use Rattle.node_control.specs.Sockets.{RunsAtHearing, RunsSealedHearing}
use Rattle.cli_node.specs.declared.outcome.Outcome.{Outcome}
use Rattle.cli_node.specs.declared.key.Keys.{Keys}
use Rattle.cli_node.specs.declared.outcome.Outcome.TheVariants.{Memory, Refused}
use Rattle.cli_node.specs.declared.sealing.Sealing.{Sealing}
use Rattle.cli_node.specs.Stores.{IsRefusal}
use Rattle.cli_node.specs.Endings.{ComesOpenOr, IsWireless, ended_outcome, ending_of}

-- the keys of packets that are opened
abbrev pub keys_with : Sealing → List (List ℕ)
keys_with s = and_key (key_block (packet_key s.keys.key)) (option_map (λ k. key_block (packet_key k)) s.keys.other)

-- who seals what is sent
abbrev pub sealer_with : Membership → Sealing → Sealer
sealer_with m s = record {
  cluster = m.cluster;
  members = m.members;
  me = m.me;
  start = s.start;
  key = key_block (packet_key s.keys.key);
}

-- whether asks are heard by datagrams: where these carry no tag of a key, and there is no control socket
abbrev pub hears_asks : {K C : Type 0} → (key : Option K) → (control : Option C) → Bool
hears_asks key control = not (is_some key) && not (is_some control)

-- what went over its socket: packets where there are keys, sealed and opened with them, and else the bare datagrams
abbrev pub RunsWith : {R : Type 0} → Ghosts R → Membership → Option Sealing → (hears : Bool) →
    (route : List (List ℕ) × ℕ) → (given back : R) → List SocketEvent → Type 0
RunsWith G m None hears route given back events = RunsAtHearing G m hears route given back events
RunsWith G m (Some s) hears route given back events =
    RunsSealedHearing G m hears route (keys_with s) (sealer_with m s) given back events

-- it ran at its socket, where it sends to these members, and this holds of how it ended
abbrev pub RunsHere : {R : Type 0} → Ghosts R → Membership → Option Sealing → (hears : Bool) →
    (members : List (List ℕ)) → (given : R) → Outcome → (back : R) → (made : Ended → Type 0) → Type 0
RunsHere G m sealing hears members given outcome back made =
    (how : Ended) × (outcome ≡ ended_outcome Memory how) × made how
    × (G.is_honest back → (peers : List Address) × AreAddresses members peers × (events : List SocketEvent)
    × RunsWith G m sealing hears (route_of peers m.me) given back events)

-- where it ended at its front, that number of turns was made, as its timer saw
abbrev pub MadeTurns : (turns : ℕ) → (before after : List TimerEvent → Type 0) → Ended → Type 0
MadeTurns turns before after how = OnFront how (MakesTurns turns before after)

-- whatever it is
abbrev pub Anything : {A : Type 0} → A → Type 0
Anything x = Unit {0}

-- There is no wire, or it is out of memory: its record is opened alone, and what comes is 82, out of memory, or why it
-- isn't opened.
-- Example: never a front, which comes of turns.
abbrev pub IsAlone : {R : Type 0} → Ghosts R → Membership → (given : R) → Outcome → (back : R) → Type 0
IsAlone G m given outcome back =
    (how : Ended) × (without : Outcome) × EndsWireless how × Runs G m given [] [] how back
    × (outcome ≡ ended_outcome without how) × IsWireless without

-- the same where the record may stay closed
abbrev pub IsUnrun : {R : Type 0} → Ghosts R → Membership → (given : R) → Outcome → (back : R) → Type 0
IsUnrun G m given outcome back = IsAlone G m given outcome back ⊎ (IsWireless outcome × (back ≡ given))

-- What a run over a record is shown as, of which this holds when it is closed then: a member that had failed ends with
-- what it failed of.
abbrev pub EndsAs : {R : Type 0} → Ghosts R → Membership → Option Sealing → (hears : Bool) →
    (members : List (List ℕ)) → (given : R) →
    (is_closed : R → Type 0) → (made : Ended → Type 0) → Outcome → Type 0
EndsAs {R} G m sealing hears members given is_closed made result =
    (outcome : Outcome) × (back : R) × (result ≡ ending_of outcome (G.failed back)) × is_closed back
    × ComesOpenOr G m given outcome back
    × (IsUnrun G m given outcome back ⊎ RunsHere G m sealing hears members given outcome back made)

-- the same with these keys, where the packets of this start can be sealed: else it is out of memory, or 95
abbrev pub EndsWith : {R : Type 0} → Ghosts R → Membership → Option Keys → (is_start : Start → Type 0) →
    (hears : Bool) →
    (members : List (List ℕ)) → (given : R) → (is_closed : R → Type 0) → (made : Ended → Type 0) → Outcome → Type 0
EndsWith G m keys is_start hears members given is_closed made result =
    ((sealing : Option Sealing) × (option_map (λ s. s.keys) sealing ≡ keys) × IfSome sealing (λ s. is_start s.start)
    × EndsAs G m sealing hears members given is_closed made result)
    ⊎ ((result ≡ Memory) ⊎ (result ≡ Refused 95))

-- the same over such a record of the member that has not failed, where there is one: else it is refused, or out of
-- memory
abbrev pub EndsNew : {R : Type 0} → Ghosts R → Membership → Option Keys → (is_start : Start → Type 0) → (hears : Bool) →
    (members : List (List ℕ)) → (is_record is_closed : R → Type 0) → (made : Ended → Type 0) → Outcome → Type 0
EndsNew {R} G m keys is_start hears members is_record is_closed made result =
    IsRefusal result
    ⊎ ((given : R) × (G.members given ≡ m.members) × (G.failed given ≡ 0) × is_record given
    × EndsWith G m keys is_start hears members given is_closed made result)

-- the same of a member, keys and a start of which these hold
abbrev pub EndsNode : {R : Type 0} → Ghosts R → (is_member : Membership → Type 0) → (are_keys : Option Keys → Type 0) →
    (is_start : Membership → Start → Type 0) → (hears : Bool) → (members : List (List ℕ)) →
    (is_record : Membership → R → Type 0) → (is_closed : R → Type 0) →
    (made : Ended → Type 0) → Outcome → Type 0
EndsNode G is_member are_keys is_start hears members is_record is_closed made result =
    IsRefusal result
    ⊎ ((m : Membership) × (keys : Option Keys) × is_member m × are_keys keys
    × EndsNew G m keys (is_start m) hears members (is_record m) is_closed made result)
