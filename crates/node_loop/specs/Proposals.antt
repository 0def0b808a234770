-- Accept requests and votes, by their heads.
use Rattle.std.specs.Prelude.{ℕ, Option, Some, None}
use Rattle.px_wire.specs.declared.head.Head.{Head}
use Rattle.px_wire.specs.declared.kind.Kind.{Kind}
use Rattle.px_wire.specs.declared.kind.Kind.TheVariants as kinds

-- a ballot and a position, where both are there
abbrev pub both : (ballot position : Option ℕ) → Option (ℕ × ℕ)
both None position = None
both (Some b) None = None
both (Some b) (Some p) = Some (b, p)

-- the same of an accept request or a vote; none of another datagram
abbrev pub proposal_by : Kind → (ballot position : Option ℕ) → Option (ℕ × ℕ)
proposal_by kinds.Accept b p = both b p
proposal_by kinds.Vote b p = both b p
proposal_by kinds.Prepare b p = None
proposal_by kinds.PrepareAll b p = None
proposal_by kinds.Promise b p = None
proposal_by kinds.PromiseAll b p = None
proposal_by kinds.Nack b p = None
proposal_by kinds.Need b p = None
proposal_by kinds.Learned b p = None
proposal_by kinds.Ask b p = None
proposal_by kinds.Asked b p = None
proposal_by kinds.AskRefused b p = None

-- the same by a head
abbrev pub proposal_of : Head → Option (ℕ × ℕ)
proposal_of h = proposal_by h.kind h.ballot h.position
