-- What only code and proofs use beside `Heads`: how a head is read.
use Rattle.std.specs.Prelude.{ℕ, ◌+◌, ◌==◌, ◌&&◌, nat_lt, List, length, Option, Some, None}
use Rattle.std.specs.Prelude.{if◌then◌else◌}
use Rattle.std.specs.Int.{Width, w8, w32, w64, byte_len}
use Rattle.pf_entry.specs.Reading.{◌>>=◌}
use Rattle.px_wire.specs.declared.kind.Kind.{Kind}
use Rattle.px_wire.specs.declared.kind.Kind.TheVariants as kinds
use Rattle.px_wire.specs.declared.head.Head.{Head}
use Rattle.px_wire.specs.Fields.{number}
use Rattle.px_wire.specs.Heads.{of_ballot, of_position, of_number, of_none}

-- the kind with that number
abbrev pub kind_in : ℕ → Option Kind
kind_in n =
    if n == 1 then Some kinds.Prepare
    else if n == 2 then Some kinds.Promise
    else if n == 3 then Some kinds.Accept
    else if n == 4 then Some kinds.Vote
    else if n == 5 then Some kinds.Nack
    else if n == 6 then Some kinds.Need
    else if n == 7 then Some kinds.Learned
    else if n == 8 then Some kinds.Ask
    else if n == 9 then Some kinds.Asked
    else if n == 10 then Some kinds.AskRefused
    else if n == 11 then Some kinds.PrepareAll
    else if n == 12 then Some kinds.PromiseAll
    else None

-- the number that the bytes have at an offset, if they are there
abbrev pub number_in : Width → ℕ → List ℕ → Option ℕ
number_in w at bytes = if nat_lt (length bytes) (at + byte_len w) then None else Some (number w at bytes)

-- the head of a message with a ballot and a position
abbrev pub ballot_in : (from to : ℕ) → Kind → List ℕ → Option Head
ballot_in from to k bytes =
    number_in w64 13 bytes >>= λ b. number_in w32 21 bytes >>= λ p. Some (of_ballot from to k b p)

-- the head of a message with a position alone
abbrev pub position_in : (from to : ℕ) → Kind → List ℕ → Option Head
position_in from to k bytes = number_in w32 13 bytes >>= λ p. Some (of_position from to k p)

-- the head of an answer that a command was accepted
abbrev pub asked_in : (from to : ℕ) → Kind → List ℕ → Option Head
asked_in from to k bytes = number_in w64 21 bytes >>= λ n. Some (of_number from to k n)

-- the head of a message of this kind
abbrev pub head_at : (from to : ℕ) → Kind → List ℕ → Option Head
head_at from to kinds.Prepare bytes = ballot_in from to kinds.Prepare bytes
head_at from to kinds.Promise bytes = ballot_in from to kinds.Promise bytes
head_at from to kinds.Accept bytes = ballot_in from to kinds.Accept bytes
head_at from to kinds.Vote bytes = ballot_in from to kinds.Vote bytes
head_at from to kinds.Nack bytes = ballot_in from to kinds.Nack bytes
head_at from to kinds.Need bytes = position_in from to kinds.Need bytes
head_at from to kinds.Learned bytes = position_in from to kinds.Learned bytes
head_at from to kinds.Ask bytes = Some (of_none from to kinds.Ask)
head_at from to kinds.Asked bytes = asked_in from to kinds.Asked bytes
head_at from to kinds.AskRefused bytes = Some (of_none from to kinds.AskRefused)
head_at from to kinds.PrepareAll bytes = ballot_in from to kinds.PrepareAll bytes
head_at from to kinds.PromiseAll bytes = ballot_in from to kinds.PromiseAll bytes

-- the head behind magic and version
abbrev pub head_in : List ℕ → Option Head
head_in bytes =
    number_in w32 0 bytes >>= λ magic. number_in w8 4 bytes >>= λ version.
    if magic == 0x50465852 && version == 1 then
    (number_in w8 10 bytes >>= λ from. number_in w8 11 bytes >>= λ to. number_in w8 12 bytes >>= λ n.
    kind_in n >>= λ k. head_at from to k bytes)
    else None
