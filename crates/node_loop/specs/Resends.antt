-- What a resender keeps.
use Rattle.std.specs.Prelude.{◌≡◌, ℕ, ◌≤◌, List, ◌++◌, Option, Some, length, map}
use Rattle.px_transport.specs.Wires.{WireEvent}
use Rattle.node_loop.specs.Again.{Addressed, HandsAt}
use Rattle.node_loop.specs.Total.{total}
use Rattle.node_loop.specs.Keeping.{IsVoteAt, client_in, sent_in, requests_in, votes_in}
use Rattle.node_loop.specs.declared.resender.Resender.{Resender}

-- the accept requests and votes of the last proposal, and its position
abbrev pub latest_of : Resender → List Addressed
latest_of r = sent_in r.latest

abbrev pub position_of : Resender → ℕ
position_of r = r.latest.position

-- the member, and how many there are
abbrev pub me_of : Resender → ℕ
me_of r = r.me

abbrev pub members_of : Resender → ℕ
members_of r = r.members

-- the time that it was given last
abbrev pub time_of : Resender → ℕ
time_of r = r.now

-- what may be handed over again: the accept requests and votes of the last proposal, and the votes before
abbrev pub kept_of : Resender → List Addressed
kept_of r = sent_in r.latest ++ votes_in r.votes

-- the accept request that was taken last, if there is one
abbrev pub requests_of : Resender → List (List ℕ)
requests_of r = requests_in r.latest

-- 30 datagrams of the last proposal at most, and 131,072 votes of 16 MiB at most
abbrev pub IsBounded : Resender → Type 0
IsBounded r =
    (length (sent_in r.latest) ≤ 30) × (length (votes_in r.votes) ≤ 131072) ×
    (total (map (λ d. d.1) (votes_in r.votes)) ≤ 16777216)

-- a wire was handed the vote that is kept for the member that sent the request which was taken last, where with a tag
-- it fits into a packet; else it or nothing
abbrev pub HandsVote : Resender → (old new : List WireEvent → Type 0) → Type 0
HandsVote r old new =
    (m i : ℕ) × (client_in r.latest ≡ Some m) × IsVoteAt r.latest m i × HandsAt i (sent_in r.latest) old new
