use Rattle.std.proofs.Common.{◌≡◌, Some}
use Rattle.pf_node.specs.Applied.{after}
use Rattle.pf_node.specs.Nodes.{learned_by}
use Rattle.cli_show.specs.Scripts.{log_script}
use Rattle.cli_show.proofs.scripts.log_script.Given as goal

-- the commands so far, and the configuration after them
abbrev pub invariant-loop-position : goal.invariant-loop-position
invariant-loop-position g l = record {
  configured : after (learned_by l.node) l.position ≡ Some l.config;
  script : l.script.items ≡ log_script (learned_by l.node) l.position;
}
