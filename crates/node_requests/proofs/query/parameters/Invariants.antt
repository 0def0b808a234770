use Rattle.std.proofs.Common.{◌≡◌, ◌++◌, map}
use Rattle.form_urlencoded.specs.Parse.{owned_pairs_left}
use Rattle.node_requests.specs.Queries.{parameters, texts_of}
use Rattle.node_requests.specs.inner.Parameters.{pairs_of}
use Rattle.node_requests.proofs.query.parameters.Given as goal

-- the parameters so far, and those that are left
abbrev pub invariant-loop-pair : goal.invariant-loop-pair
invariant-loop-pair l = (goal.iterator-loop-pair).can_next l.pair-iterator
    × (goal.iterator-loop-pair).is_finite l.pair-iterator
    × (pairs_of l.found.items ++ map texts_of (owned_pairs_left l.pair-iterator) ≡ parameters l.query)
