-- The head of a message: who sends it to whom, its kind, and the ballot, position or number that it is about.
use Rattle.std.specs.Prelude.{ℕ, Bool, ◌+◌, ◌==◌, min, Option, Some, None}
use Rattle.px_wire.specs.declared.kind.Kind.{Kind}
use Rattle.px_wire.specs.declared.kind.Kind.TheVariants as kinds
use Rattle.px_wire.specs.declared.head.Head.{Head}
use Rattle.px_wire.specs.Message.{Message, prepare, promise, accept, vote, nack, need, learned, ask, asked}
use Rattle.px_wire.specs.Message.{ask_refused, prepare_all, promise_all}

-- the number that a datagram has for a kind, 1 to 12
abbrev pub number_of : Kind → ℕ
number_of kinds.Prepare = 1
number_of kinds.Promise = 2
number_of kinds.Accept = 3
number_of kinds.Vote = 4
number_of kinds.Nack = 5
number_of kinds.Need = 6
number_of kinds.Learned = 7
number_of kinds.Ask = 8
number_of kinds.Asked = 9
number_of kinds.AskRefused = 10
number_of kinds.PrepareAll = 11
number_of kinds.PromiseAll = 12

-- a message of this kind refuses a proposal for one of a higher round
abbrev pub is_nack : Kind → Bool
is_nack kind = number_of kind == number_of kinds.Nack

-- ---- heads, by what they have

-- with a ballot and a position
abbrev pub of_ballot : (from to : ℕ) → Kind → (ballot position : ℕ) → Head
of_ballot from to k b p =
    record { from = from; to = to; kind = k; ballot = Some b; position = Some p; number = None }

-- with a position alone
abbrev pub of_position : (from to : ℕ) → Kind → (position : ℕ) → Head
of_position from to k p =
    record { from = from; to = to; kind = k; ballot = None; position = Some p; number = None }

-- with the number that an entry got
abbrev pub of_number : (from to : ℕ) → Kind → (number : ℕ) → Head
of_number from to k n = record { from = from; to = to; kind = k; ballot = None; position = None; number = Some n }

-- with none of these
abbrev pub of_none : (from to : ℕ) → Kind → Head
of_none from to k = record { from = from; to = to; kind = k; ballot = None; position = None; number = None }

-- the head of a message of the one to the other
abbrev pub head_of : (from to : ℕ) → Message → Head
head_of from to (prepare b p) = of_ballot from to kinds.Prepare b p
head_of from to (promise b p a) = of_ballot from to kinds.Promise b p
head_of from to (accept b p e) = of_ballot from to kinds.Accept b p
head_of from to (vote b p e) = of_ballot from to kinds.Vote b p
head_of from to (nack b p q) = of_ballot from to kinds.Nack b p
head_of from to (need p) = of_position from to kinds.Need p
head_of from to (learned p e) = of_position from to kinds.Learned p
head_of from to (ask e) = of_none from to kinds.Ask
head_of from to (asked t n) = of_number from to kinds.Asked n
head_of from to (ask_refused t c) = of_none from to kinds.AskRefused
head_of from to (prepare_all b p) = of_ballot from to kinds.PrepareAll b p
head_of from to (promise_all b p top a) = of_ballot from to kinds.PromiseAll b p

-- ---- what a message shows of its sender

-- the position below which it has learned all, by a message of this kind about this position, in 32 bits: who proposes
-- or votes at a position, or lacks it, has learned all below; who reports its entry has learned that too
abbrev pub learned_by : Kind → (position : ℕ) → ℕ
learned_by kinds.Prepare p = p
learned_by kinds.PrepareAll p = p
learned_by kinds.Accept p = p
learned_by kinds.Vote p = p
learned_by kinds.Need p = p
learned_by kinds.Learned p = min (p + 1) 4294967295
learned_by kinds.Promise p = 0
learned_by kinds.PromiseAll p = 0
learned_by kinds.Nack p = 0
learned_by kinds.Ask p = 0
learned_by kinds.Asked p = 0
learned_by kinds.AskRefused p = 0

-- the same by a position, if there is one; 0 where a message shows none
abbrev pub learned_by_head : Kind → (position : Option ℕ) → ℕ
learned_by_head k None = 0
learned_by_head k (Some p) = learned_by k p

-- the same by a head
abbrev pub learned_below : Head → ℕ
learned_below h = learned_by_head h.kind h.position

-- the position at which the sender of a message of this kind, which is about this position, proposes a command
abbrev pub proposal_by : Kind → (position : Option ℕ) → Option ℕ
proposal_by kinds.Prepare p = p
proposal_by kinds.PrepareAll p = p
proposal_by kinds.Accept p = p
proposal_by kinds.Vote p = None
proposal_by kinds.Need p = None
proposal_by kinds.Learned p = None
proposal_by kinds.Promise p = None
proposal_by kinds.PromiseAll p = None
proposal_by kinds.Nack p = None
proposal_by kinds.Ask p = None
proposal_by kinds.Asked p = None
proposal_by kinds.AskRefused p = None

-- the same by a head
abbrev pub proposal_in : Head → Option ℕ
proposal_in h = proposal_by h.kind h.position
