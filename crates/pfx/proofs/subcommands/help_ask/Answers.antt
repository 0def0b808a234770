use Rattle.std.proofs.Common.{rules, inl, inr}
use Rattle.pfx.proofs.subcommands.help_ask.Goals as goal

-- the first form's run was a usage error
pub returns-in-Ok-clause-help : goal.returns-in-Ok-clause-help
returns-in-Ok-clause-help g c = inr (
  c.run_control_ask-status.result,
  g.W.Write.contents c.run_control_ask-status.new.writer,
  c.run_control_ask-status.ensures,
  search rules,
  inr (
    g.R.Read.remaining c.run_control_ask-status.new.reader,
    g.W.Write.contents c.write_all.new.self,
    c.run_net.ensures,
  ),
)

pub returns-in-Err-clause-help : goal.returns-in-Err-clause-help
returns-in-Err-clause-help g c = inr (
  c.run_control_ask-status.result,
  g.W.Write.contents c.run_control_ask-status.new.writer,
  c.run_control_ask-status.ensures,
  search rules,
  inl (search rules),
)
