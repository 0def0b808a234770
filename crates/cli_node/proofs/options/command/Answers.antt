use Rattle.std.proofs.Common.{◌≡◌, ◌∙◌, rules}
use Rattle.clap.specs.Words.{app_of}
use Rattle.cli_node.specs.Arguments.{with_all}
use Rattle.cli_node.proofs.Commands.{with_sub}
use Rattle.cli_node.proofs.options.command.Goals as goal

pub returns : goal.returns
returns c =
    let node = c.in_ok-command.ensures.shape c.in_ok-node_command.ensures.local ∙ with_sub _ _ _ _ c.new.ensures.app c.in_ok-node_command.ensures.app in
    let ask = c.in_ok-command-2.ensures.shape c.in_ok-ask_command.ensures.local ∙ with_sub _ _ _ _ node c.in_ok-ask_command.ensures.app in
    let all : app_of c.in_ok-command-3.command ≡ with_all c.args.is_needed =
    c.in_ok-command-3.ensures.shape c.in_ok-key_command.ensures.local ∙ with_sub _ _ _ _ ask c.in_ok-key_command.ensures.app in
    search rules
