use Rattle.std.proofs.Common.{◌≡◌, ◌≤◌, drop, length, None, ◌+◌, ◌*◌, ◌-◌}
use Rattle.pf_config.specs.Map.{rules_at}
use Rattle.pf_config.specs.Trees.{paths_of, shared}
use Rattle.pf_eval.specs.inner.TwoWalks.{in_member, candidate_spot, first_some, last_some, first_walk, second_walk, rule_at, IsAnchorOf, AreAnchorsOf}
use Rattle.pf_eval.specs.inner.Searching.{IsSearchFor}
use Rattle.pf_eval.specs.inner.Sieves.{key_of}
use Rattle.pf_eval.proofs.walk.Rules.+walks.Given as goal

abbrev pub decreases-found : goal.decreases-found
decreases-found l = 11 * l.self.depth

abbrev pub decreases-at : goal.decreases-at
decreases-at l = 11 * l.self.depth + 1

abbrev pub decreases-of_member : goal.decreases-of_member
decreases-of_member l = 11 * l.self.depth + 2

abbrev pub decreases-first_of : goal.decreases-first_of
decreases-first_of l = 11 * l.self.depth + 3

abbrev pub decreases-last_of : goal.decreases-last_of
decreases-last_of l = 11 * l.self.depth + 3

abbrev pub decreases-called : goal.decreases-called
decreases-called l = 11 * l.self.depth + 4

abbrev pub decreases-ended : goal.decreases-ended
decreases-ended l = 11 * l.self.depth + 5

abbrev pub decreases-stop_within : goal.decreases-stop_within
decreases-stop_within l = 11 * l.self.depth + 6

abbrev pub decreases-last_within : goal.decreases-last_within
decreases-last_within l = 11 * l.self.depth + 6

abbrev pub decreases-of_item : goal.decreases-of_item
decreases-of_item l = 11 * l.self.depth + 7

abbrev pub decreases-of_index : goal.decreases-of_index
decreases-of_index l = 11 * l.self.depth + 8

abbrev pub decreases-of_candidates : goal.decreases-of_candidates
decreases-of_candidates l = 11 * l.self.depth + 9

-- the first hit is among the candidates that are left
abbrev pub invariant-of_candidates-loop-at : goal.invariant-of_candidates-loop-at
invariant-of_candidates-loop-at l = record {
  rest : first_some (candidate_spot (rule_at l.walk l.self.depth l.self.config.now l.self.packet.now l.anchor.names) (rules_at l.self.config.now l.anchor.names) l.self.packet.now) (drop l.from l.list) ≡ first_some (candidate_spot (rule_at l.walk l.self.depth l.self.config.now l.self.packet.now l.anchor.names) (rules_at l.self.config.now l.anchor.names) l.self.packet.now) l.fn.candidates;
  at : IsAnchorOf l.self.config.now l.anchor;
  key : l.key ≡ key_of l.self.packet.now;
  search : IsSearchFor l.list l.key l.search;
  within : l.from ≤ length l.list;
}

abbrev pub decreases-of_candidates-loop-at : goal.decreases-of_candidates-loop-at
decreases-of_candidates-loop-at l = length l.list - l.from

-- the first stop is within the anchors that are left
abbrev pub invariant-first_of-loop-kid : goal.invariant-first_of-loop-kid
invariant-first_of-loop-kid l = record {
  rest : first_some (in_member (first_walk l.self.depth l.self.config.now l.self.packet.now)) (paths_of (shared (drop l.kid-index l.kids))) ≡ first_some (in_member (first_walk l.self.depth l.self.config.now l.self.packet.now)) (paths_of (shared l.kids));
  are : AreAnchorsOf l.self.config.now (shared l.kids);
}

-- none of the anchors behind has a hit
abbrev pub invariant-last_of-loop-left : goal.invariant-last_of-loop-left
invariant-last_of-loop-left l = record {
  none : last_some (in_member (second_walk l.self.depth l.self.config.now l.self.packet.now)) (paths_of (shared (drop l.left l.kids))) ≡ None;
  few : l.left ≤ length l.kids;
  are : AreAnchorsOf l.self.config.now (shared l.kids);
}

abbrev pub decreases-last_of-loop-left : goal.decreases-last_of-loop-left
decreases-last_of-loop-left l = l.left
