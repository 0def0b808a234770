-- the node that the settings describe was checked or run, or nothing was done
use Rattle.std.proofs.Common.{◌∙◌, ap, inl, inr, refl, sym}
use Rattle.cli_node.specs.declared.outcome.Outcome.TheVariants.{Refused}
use Rattle.cli_node.specs.Doing.{Adds}
use Rattle.cli_node.proofs.Settled.{is_checked, is_halved, is_run, none_added}
use Rattle.cli_node.proofs.settings.outcome_for.Goals as goal

pub returns-in_default : goal.returns-in_default
returns-in_default g c =
    inl (c.in_default.ensures.none refl, (none_added (g.N.Nodes.did c.args.nodes.now), c.lacking.ensures))

pub returns-then-not-is_whole : goal.returns-then-not-is_whole
returns-then-not-is_whole g c =
    let did = g.N.Nodes.did c.args.nodes.now in
    let w = c.in-Some.arguments in
    inr (
      w,
      (
        c.in-Some.ensures.some,
        is_halved (Adds did did) _ _ _ w _
            (sym c.is_whole.ensures ∙ c.if-not-is_whole.true) (none_added did) (ap Refused c.settings_code-code.ensures),
      ),
    )

pub returns-in-true : goal.returns-in-true
returns-in-true g c =
    let w = c.in-Some.arguments in
    inr (
      w,
      (
        c.in-Some.ensures.some,
        is_checked (Adds (g.N.Nodes.did c.args.nodes.now) (g.N.Nodes.did c.check.new.self))
            _ _ _ w c.check.result (sym c.is_whole.ensures ∙ c.if-not-is_whole.false)
            (sym c.has_flag.ensures ∙ c.in-true.is) c.check.ensures,
      ),
    )

pub returns-in-false : goal.returns-in-false
returns-in-false g c =
    let w = c.in-Some.arguments in
    inr (
      w,
      (
        c.in-Some.ensures.some,
        is_run (Adds (g.N.Nodes.did c.args.nodes.now) (g.N.Nodes.did c.run.new.self))
            _ _ _ w c.run.result (sym c.is_whole.ensures ∙ c.if-not-is_whole.false)
            (sym c.has_flag.ensures ∙ c.in-false.is) c.run.ensures,
      ),
    )
