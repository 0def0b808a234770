use Rattle.cli_files.proofs.KeyLines.{written_is_read}
use Rattle.cli_files.proofs.key_laws.written_is_read.Goals as goal

pub returns : goal.returns
returns c = written_is_read
