use Rattle.std.proofs.Common.{◌≡◌, ◌≤◌, ◌&&◌, false, None, [], length}
use Rattle.std.specs.List.{list_any}
use Rattle.pf_tokens.specs.Defining.{joined_items, are_items, is_refused_string}
use Rattle.pf_tokens.specs.inner.Defining.{begun_text}
use Rattle.pf_tokens.specs.Parsing.{definitions, left, later}
use Rattle.pf_tokens.proofs.defining.collect.Given as goal

-- with what is left it gives all
abbrev pub invariant-loop-lexeme : goal.invariant-loop-lexeme
invariant-loop-lexeme l = record {
  text : joined_items (definitions l.fn.parser) (begun_text l.some l.text.items) (left l.parser) ≡ joined_items (definitions l.fn.parser) None (left l.fn.parser);
  items : (l.all && are_items (definitions l.fn.parser) (left l.parser)) ≡ are_items (definitions l.fn.parser) (left l.fn.parser);
  strings : list_any is_refused_string (left l.parser) ≡ list_any is_refused_string (left l.fn.parser);
  short : length l.text.items ≤ 4096;
  empty : l.some ≡ false → l.text.items ≡ [];
  macros : definitions l.parser ≡ definitions l.fn.parser;
  later : later l.parser ≡ later l.fn.parser;
}

abbrev pub decreases-loop-lexeme : goal.decreases-loop-lexeme
decreases-loop-lexeme l = length (left l.parser)
