use Rattle.pf_statements.proofs.StatementsSpelled.{statement_took, statement_reads}
use Rattle.pf_statements.proofs.laws.reads_the_grammar.Goals as goal

pub returns : goal.returns
returns c = λ profile ts s. (statement_took profile ts s, statement_reads profile ts s)
