use Rattle.cli_ask.proofs.Lines.{words_read}
use Rattle.cli_ask.proofs.laws.lines_are_read_so.Goals as goal

pub returns : goal.returns
returns c = record { words = words_read }
