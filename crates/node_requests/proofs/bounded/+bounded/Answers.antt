-- what is left behind a rule, and behind an anchor's rules
use Rattle.std.proofs.Common.{◌≡◌, ◌+◌, ◌-◌, ◌++◌, ◌∙◌, Some, None, sym, ap, arith}
use Rattle.std.specs.Option.{option_copied}
use Rattle.pf_config.specs.Trees.{tree_at}
use Rattle.pf_eval.proofs.Anchors.{own_rules, below_is}
use Rattle.node_requests.specs.Bounded.{met_in, met_called, met_target, most_met}
use Rattle.node_requests.specs.inner.Left.{minus}
use Rattle.node_requests.proofs.Budget.{one_more, one_met, anchor_met, most_at, none_below, met_below}
use Rattle.node_requests.proofs.bounded.+bounded.Goals as goal

pub left_after-loop-item-init : goal.left_after-loop-item-init
left_after-loop-item-init t c =
    let at = met_target (most_met (c.args.depth - 1) c.args.config.now) c.args.config.now c.args.anchor.now.names in
    ap (λ rs. minus c.args.left (met_in at rs)) (c.items-item-items.ensures.rules ∙ own_rules c.args.config.now c.args.anchor.now c.requires)
    ∙ ap (minus c.args.left) (sym (most_at c.args.depth c.args.config.now c.args.anchor.now.names c.if-depth-eq0.false))

pub left_behind-left_within-requires : goal.left_behind-left_within-requires
left_behind-left_within-requires t c = (
  omega arith,
  below_is c.args.config.now c.args.anchor.now c.in-Some.base.now c.deref.result.now c.requires (sym (ap option_copied c.in-Some.is) ∙ c.below.ensures),
)

pub left_behind-returns-in-Some : goal.left_behind-returns-in-Some
left_behind-returns-in-Some t c =
    let at = most_met c.args.depth c.args.config.now in
    let children = c.in-Anchor.rule.heading.target.children in
    let found : Some c.in-Some.base.now ≡ tree_at c.args.anchor.now c.deref.result.now = sym (ap option_copied c.in-Some.is) ∙ c.below.ensures in
    c.left_within.ensures
    ∙ one_more c.args.left (met_called at c.args.config.now c.in-Some.base.now.names children) c.if-left-eq0.false
    ∙ ap (λ n. minus c.args.left (1 + n)) (met_below c.args.depth c.args.config.now c.args.anchor.now c.in-Some.base.now c.deref.result.now children c.requires found)
    ∙ ap (λ v. minus c.args.left (1 + met_called at c.args.config.now (c.args.anchor.now.names ++ v) children)) c.deref.ensures.value
    ∙ ap (minus c.args.left) (sym (anchor_met (met_target at c.args.config.now c.args.anchor.now.names) c.in-Anchor.rule c.args.item.now c.in-Anchor.is))

pub left_behind-returns-in-None : goal.left_behind-returns-in-None
left_behind-returns-in-None t c =
    let at = most_met c.args.depth c.args.config.now in
    let children = c.in-Anchor.rule.heading.target.children in
    let none : None ≡ tree_at c.args.anchor.now c.deref.result.now = sym (ap option_copied c.in-None.is) ∙ c.below.ensures in
    one_met c.args.left c.if-left-eq0.false
    ∙ ap (λ n. minus c.args.left (1 + n)) (sym (none_below c.args.depth c.args.config.now c.args.anchor.now c.deref.result.now children c.requires none))
    ∙ ap (λ v. minus c.args.left (1 + met_called at c.args.config.now (c.args.anchor.now.names ++ v) children)) c.deref.ensures.value
    ∙ ap (minus c.args.left) (sym (anchor_met (met_target at c.args.config.now c.args.anchor.now.names) c.in-Anchor.rule c.args.item.now c.in-Anchor.is))
