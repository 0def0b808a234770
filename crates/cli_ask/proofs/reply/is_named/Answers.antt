use Rattle.cli_ask.proofs.Names.{names_same}
use Rattle.cli_ask.proofs.reply.is_named.Goals as goal

pub returns : goal.returns
returns c = names_same c.args.name.now c.args.wanted.now c.eq_ignore_ascii_case.result c.eq_ignore_ascii_case.ensures.test
