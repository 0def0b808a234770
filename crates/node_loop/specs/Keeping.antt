-- What the parts of a resender keep.
use Rattle.std.specs.Prelude.{◌≡◌, ℕ, List, [], ◌∷◌, Option, Some, map, option_map, slice_get}
use Rattle.node_loop.specs.Again.{Addressed}
use Rattle.px_wire.specs.declared.kind.Kind.TheVariants as kinds
use Rattle.node_loop.specs.declared.state.Kept.{Kept}
use Rattle.node_loop.specs.declared.state.Latest.{Latest}
use Rattle.node_loop.specs.declared.state.Votes.{Votes}

-- the accept requests and votes of the proposal that was sent last
abbrev pub sent_in : Latest → List Addressed
sent_in l = map (λ k. (k.to, k.bytes.items)) l.kept.items

-- these bytes, unless there are none
abbrev pub unless_empty : List ℕ → List (List ℕ)
unless_empty [] = []
unless_empty (b ∷ bytes) = (b ∷ bytes) ∷ []

-- the accept request that was taken last, if there is one
abbrev pub requests_in : Latest → List (List ℕ)
requests_in l = unless_empty l.request.items

-- the votes
abbrev pub votes_in : Votes → List Addressed
votes_in v = map (λ s. (s.to, s.bytes.items)) v.votes.items

-- the one at this place is a vote for this member
abbrev pub IsVoteAt : Latest → (member place : ℕ) → Type 0
IsVoteAt l m i = (k : Kept) × (slice_get l.kept.items i ≡ Some k) × (k.kind ≡ kinds.Vote) × (k.to ≡ m)

-- the member that sent the request that was taken last, if there is one
abbrev pub client_in : Latest → Option ℕ
client_in l = option_map (λ h. h.from) l.head
