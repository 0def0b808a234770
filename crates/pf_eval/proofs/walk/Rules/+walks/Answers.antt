use Rattle.std.proofs.Common.{rules, arith, ◌≡◌, ◌∙◌, true, sym}
use Rattle.pf_eval.specs.Matching.{matches}
use Rattle.pf_eval.specs.Verdicts.{tables_in}
use Rattle.pf_rules.specs.Seen.{heading_of}
use Rattle.pf_config.specs.Orders.{stops_of}
use Rattle.pf_eval.specs.inner.TwoWalks.{in_member, second_walk, rule_at, hit_of, is_quiet}
use Rattle.pf_eval.proofs.Anchors.{ending_below, own_rules}
use Rattle.pf_eval.proofs.Candidates.{some_item, nothing_below, quiet_rule}
use Rattle.pf_eval.proofs.Searching.{found_there, not_there, none_left}
use Rattle.pf_config.specs.Map.{anchor_at, rules_at, rules_in}
use Rattle.pf_eval.proofs.Walks.{kid_back}
use Rattle.pf_eval.proofs.walk.Rules.+walks.Goals as goal

pub stop_within-returns : goal.stop_within-returns
stop_within-returns t c =
    let heading = c.args.heading.now in
    let is : matches (tables_in c.args.self.config.now c.args.anchor.now.names) heading.conditions c.args.self.packet.now ≡ true = search rules in
    rw is (c.ended.ensures ∙ ending_below c.args.self.depth c.args.self.config.now c.args.self.packet.now c.args.anchor.now c.in-Some.base.now c.deref.result.now heading.target.names.items heading.quick heading.target.children c.requires c.in-Some.ensures c.deref.ensures.value)

pub stop_within-returns-in_default : goal.stop_within-returns-in_default
stop_within-returns-in_default t c =
    nothing_below c.args.self.depth c.args.self.config.now c.args.self.packet.now c.args.anchor.now c.deref.result.now (heading_of c.args.heading.now) c.requires c.in_default.ensures c.deref.ensures.value

pub stop_within-returns-then-is_quiet : goal.stop_within-returns-then-is_quiet
stop_within-returns-then-is_quiet t c =
    let base = c.in-Some.base.now in
    let heading = c.args.heading.now in
    let quiet : is_quiet heading.quick heading.target.children (stops_of (rules_in (anchor_at base.names base.anchors))) ≡ true = search rules in
    quiet_rule c.args.self.depth c.args.self.config.now c.args.self.packet.now c.args.anchor.now base c.deref.result.now (heading_of heading) c.requires c.in-Some.ensures c.deref.ensures.value quiet

pub of_index-returns : goal.of_index-returns
of_index-returns t c =
    let past = c.if-at-items.false in
    some_item (rule_at c.args.walk c.args.self.depth c.args.self.config.now c.args.self.packet.now c.args.anchor.now.names c.args.index) c.items-items.result.now _ _ c.args.index c.index-items-at.result _ (omega (arith, past)) c.index-items-at.is c.items-items.ensures.rules (own_rules c.args.self.config.now c.args.anchor.now c.requires) c.of_item.ensures

pub of_candidates-returns-in-Some-of_index : goal.of_candidates-returns-in-Some-of_index
of_candidates-returns-in-Some-of_index t c =
    let f = rule_at c.args.walk c.args.self.depth c.args.self.config.now c.args.self.packet.now c.args.anchor.now.names in
    let kept = c.loop-at.invariant in
    found_there f (rules_at c.args.self.config.now c.args.anchor.now.names) c.args.self.packet.now c.key_of-key.result c.list-list.result.now c.loop-at.from c.in-Some.at _ (hit_of c.in-Some-of_index.hit) _ kept.key c.in-Some.ensures kept.rest c.in-Some-of_index.ensures

pub of_candidates-loop-at-preserved : goal.of_candidates-loop-at-preserved
of_candidates-loop-at-preserved t c =
    let f = rule_at c.args.walk c.args.self.depth c.args.self.config.now c.args.self.packet.now c.args.anchor.now.names in
    let kept = c.loop-at.invariant in
    record {
      rest = not_there f (rules_at c.args.self.config.now c.args.anchor.now.names) c.args.self.packet.now c.key_of-key.result c.list-list.result.now c.loop-at.from c.in-Some.at _ _ kept.key c.in-Some.ensures kept.rest c.in_default-of_index.ensures;
      at = kept.at;
      key = kept.key;
      search = kept.search;
      within = omega (arith, c.in-Some.ensures.1);
    }

pub of_candidates-returns : goal.of_candidates-returns
of_candidates-returns t c =
    let f = rule_at c.args.walk c.args.self.depth c.args.self.config.now c.args.self.packet.now c.args.anchor.now.names in
    let kept = c.loop-at.invariant in
    sym (none_left f (rules_at c.args.self.config.now c.args.anchor.now.names) c.args.self.packet.now c.key_of-key.result c.list-list.result.now c.loop-at.from kept.key kept.within c.in_default.ensures) ∙ kept.rest

pub last_of-returns-in-Some : goal.last_of-returns-in-Some
last_of-returns-in-Some t c =
    kid_back (in_member (second_walk c.args.self.depth c.args.self.config.now c.args.self.packet.now)) c.loop-left.left c.args.kids.now c.index-kids-index.result (hit_of c.in-Some.hit)
    (omega arith) c.loop-left.invariant.few c.index-kids-index.is c.loop-left.invariant.none (rw c.deref.ensures at c.in-Some.ensures)
