use Rattle.std.proofs.Common.{◌≡◌, ◌∙◌, ◌+◌, rules, ap, sym, drop, map}
use Rattle.std.proofs.lemmas.List.{at_drop_more}
use Rattle.clap.specs.Words.{App, app_of, with_subcommand}
use Rattle.pf_tool.specs.Options.{with_named}
use Rattle.pf_tool.proofs.options.with_named.Goals as goal

pub loop-subcommand-preserved : goal.loop-subcommand-preserved
loop-subcommand-preserved c =
    let before = app_of c.loop-subcommand.command in
    let named : app_of c.after_help-named.result ≡ app_of c.new.result = search rules in
    let added = c.in_ok-command.ensures.shape (search rules) ∙ ap (λ (a : App). with_subcommand before a.top) (named ∙ c.new.ensures.app) in
    ap (λ (a : App). with_named a (map (λ s. s.0.now) (drop (c.loop-subcommand.subcommand-index + 1) c.args.subcommands.now))) added
    ∙ (sym (at_drop_more (λ subcommands. with_named before (map (λ s. s.0.now) subcommands)) c.args.subcommands.now c.loop-subcommand.subcommand-index _ c.loop-subcommand-test.true) ∙ c.loop-subcommand.invariant)
