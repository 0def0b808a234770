-- the vote for the member that sent the request
use Rattle.std.proofs.Common.{rules, ◌≡◌, ℕ, Option, Some, None, IfSome, option_map, ap}
use Rattle.px_wire.specs.declared.head.Head.{Head}
use Rattle.node_loop.specs.declared.state.Latest.{Latest}
use Rattle.node_loop.specs.Keeping.{IsVoteAt, client_in}
use Rattle.node_loop.proofs.state.Latest.vote_for.Goals as goal

for_client : (l : Latest) (m : ℕ) (found : Option ℕ) → client_in l ≡ Some m → IfSome found (λ i. IsVoteAt l m i) →
    IfSome found (λ i. (x : ℕ) × (client_in l ≡ Some x) × IsVoteAt l x i)
for_client l m None client is = is
for_client l m (Some i) client is = (m, client, is)

pub returns-clause-vote : goal.returns-clause-vote
returns-clause-vote c =
    let is : c.args.self.now.head ≡ Some c.in_ok-head.head = search rules in
    for_client c.args.self.now c.in_ok-head.head.from c.place_of_vote.result (ap (option_map (λ (h : Head). h.from)) is)
    c.place_of_vote.ensures
