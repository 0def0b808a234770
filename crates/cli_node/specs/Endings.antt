-- What a run is shown as, by how it went.
use Rattle.std.specs.Prelude.{◌≡◌, ◌⊎◌, ◌==◌, ◌&&◌, ◌||◌, not, if◌then◌else◌, ℕ, Bool, false, nat_lt, List, [], Option, Some, None}
use Rattle.px_records.specs.declared.records.Records.{Ghosts}
use Rattle.px_wire.specs.declared.membership.Membership.{Membership}
use Rattle.px_replica.specs.declared.fault.NodeFault.{NodeFault}
use Rattle.px_replica.specs.Codes.{node_fault_code}
use Rattle.px_store.specs.declared.fault.AdoptFault.{AdoptFault}
use Rattle.px_store.specs.Adopting.{code_of}
use Rattle.px_transport.specs.Wires.{WireEvent}
use Rattle.node_loop.specs.Runs.{Runs, HostedRuns}
use Rattle.node_loop.specs.declared.ended.Ended.{Ended}
use Rattle.node_loop.specs.declared.ended.Ended.TheVariants as ended
use Rattle.node_udp.specs.declared.answer.AskAnswer.{AskAnswer}
use Rattle.node_udp.specs.declared.answer.AskAnswer.TheVariants as answer
use Rattle.cli_node.specs.declared.outcome.Outcome.{Outcome}
use Rattle.cli_node.specs.declared.outcome.Outcome.TheVariants.{Front, Stopped, Asked, Refused, NoAnswer}
use Rattle.cli_node.specs.declared.outcome.Outcome.TheVariants.{Memory, Sound}

-- whether it is this refusal
abbrev pub is_refused : ℕ → Outcome → Bool
is_refused code (Refused other) = other == code
is_refused code outcome = false

-- a refusal of what a start doesn't name: of keys or the starts of their packets (83, 95) where it names no key, of a
-- control socket (84) where it names none
abbrev pub is_beyond : (is_keyed has_control : Bool) → Outcome → Bool
is_beyond keyed controlled o =
    ((is_refused 83 o || is_refused 95 o) && not keyed) || (is_refused 84 o && not controlled)

-- what a refusal with this number is shown as; none: out of memory
abbrev pub numbered : Option ℕ → Outcome
numbered None = Memory
numbered (Some code) = Refused code

-- the refusals that a fault of a node is shown as
abbrev pub outcome_of : NodeFault → Outcome
outcome_of e = numbered (node_fault_code e)

-- What a run is shown as whose store has this number of failures: a member that had failed ends with what it failed of,
-- 70 where a call on the store failed and 72 where a row was bad.
abbrev pub ending_of : Outcome → (failures : ℕ) → Outcome
ending_of outcome n = if is_refused 80 outcome then (if nat_lt 0 n then Refused 70 else Refused 72) else outcome

-- the first of two that is no Sound
abbrev pub first_of : Outcome → Outcome → Outcome
first_of Sound other = other
first_of one other = one

-- What a start would be refused for, of what is refused of its numbers, its keys, its store, its starts, its addresses
-- and its control socket: the first, in the order in which a start asks.
abbrev pub checked : (place keys store starts addresses control : Outcome) → Outcome
checked place keys store starts addresses control =
    first_of place (first_of keys (first_of store (first_of starts (first_of addresses control))))

-- what a member's run is shown as, where its wire may be missing
abbrev pub ended_outcome : (without : Outcome) → Ended → Outcome
ended_outcome without (ended.Front front applied) = Front front applied
ended_outcome without (ended.Stopped front applied) = Stopped front applied
ended_outcome without (ended.Fault fault) = outcome_of fault
ended_outcome without ended.NoWire = without
ended_outcome without ended.NoControlSocket = Refused 84
ended_outcome without ended.NoPort = Refused 82

-- there is no wire: that is 82, or it is out of memory
abbrev pub IsWireless : Outcome → Type 0
IsWireless outcome = (outcome ≡ Memory) ⊎ (outcome ≡ Refused 82)

-- What a node's run over its record is shown as: the record is opened, turns of the member and nothing else are made,
-- and it is given back. There may be no wire.
abbrev pub ComesTo : {R : Type 0} → Ghosts R → Membership → (given : R) → Outcome → (back : R) → Type 0
ComesTo G m given outcome back =
    (events : List WireEvent) × (how : Ended) × (without : Outcome) × Runs G m given [] events how back
    × (outcome ≡ ended_outcome without how) × IsWireless without

-- the same with a control socket: commands are asked of the member between its turns
abbrev pub ComesOpen : {R : Type 0} → Ghosts R → Membership → (given : R) → Outcome → (back : R) → Type 0
ComesOpen G m given outcome back =
    (events : List WireEvent) × (hears : Bool) × (how : Ended) × (without : Outcome)
    × HostedRuns G m hears given [] events how back
    × (outcome ≡ ended_outcome without how) × IsWireless without

-- the same where the record may stay closed
abbrev pub ComesOpenOr : {R : Type 0} → Ghosts R → Membership → (given : R) → Outcome → (back : R) → Type 0
ComesOpenOr G m given outcome back = ComesOpen G m given outcome back ⊎ (IsWireless outcome × (back ≡ given))

-- the refusals of a store
abbrev pub adopt_outcome : AdoptFault → Outcome
adopt_outcome e = numbered (code_of e)

-- what a node answers
abbrev pub answer_outcome : ℕ → AskAnswer → Outcome
answer_outcome node (answer.Asked number) = Asked node number
answer_outcome node (answer.Refused code) = Refused code
answer_outcome node answer.NoAnswer = NoAnswer
