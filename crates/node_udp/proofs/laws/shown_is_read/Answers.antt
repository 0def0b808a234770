use Rattle.node_udp.proofs.Shown.{shown_again, shown_word}
use Rattle.node_udp.proofs.laws.shown_is_read.Goals as goal

pub returns-clause-read : goal.returns-clause-read
returns-clause-read c = λ a fits used few. shown_again a fits used few

pub returns-clause-word : goal.returns-clause-word
returns-clause-word c = λ a fits few. shown_word a fits few
