use Rattle.std.proofs.Common.{◌≡◌, suc, length}
use Rattle.pf_tokens.specs.Parsing.{left, later}
use Rattle.pf_statements.specs.Options.{to_end}
use Rattle.pf_statements.specs.Tables.{new_table, table_option}
use Rattle.pf_statements.specs.Seen.{table_text_of}
use Rattle.pf_statements.proofs.Steps.{Going}
use Rattle.pf_statements.proofs.tables.read_options.Given as goal

abbrev pub invariant-options : goal.invariant-options
invariant-options l = record {
  going : Going (table_option l.fn.cx.profile) (to_end (table_option l.fn.cx.profile) (suc (length (left l.fn.parser))) (new_table l.fn.name) (left l.fn.parser)) (table_text_of l.table) (left l.parser);
  later : later l.parser ≡ later l.fn.parser;
}

abbrev pub decreases-options : goal.decreases-options
decreases-options l = length (left l.parser)
