use Rattle.std.proofs.Common.{◌∙◌, sym}
use Rattle.pf_tokens.specs.Parsing.{left}
use Rattle.pf_tokens.proofs.Opening.{none_opened, not_opened, inner_brace, counts, outer_opened, inner_opened}
use Rattle.pf_tokens.proofs.parser.Parser.open_list.Goals as goal

pub returns-in_default-clause-read : goal.returns-in_default-clause-read
returns-in_default-clause-read c = sym (none_opened c.args.self.now c.in_default.is)

pub returns-then-not-begins_symbol-clause-read : goal.returns-then-not-begins_symbol-clause-read
returns-then-not-begins_symbol-clause-read c = sym (not_opened (left c.args.self.now) (sym c.begins_symbol.ensures ∙ c.if-not-begins_symbol.true))

pub take-requires-clause-inner : goal.take-requires-clause-inner
take-requires-clause-inner c = inner_brace c.args.self.now c.in-Some.token c.in-Some.is (sym c.begins_symbol.ensures ∙ c.if-not-begins_symbol.false)

pub take-requires-clause-nested : goal.take-requires-clause-nested
take-requires-clause-nested c = counts c.args.self.now c.in-Some.token c.in-Some.is (sym c.begins_symbol.ensures ∙ c.if-not-begins_symbol.false)

pub returns-then-self-eq0-clause-read : goal.returns-then-self-eq0-clause-read
returns-then-self-eq0-clause-read c = outer_opened c.args.self.now c.in-Some.token c.in-Some.is (sym c.begins_symbol.ensures ∙ c.if-not-begins_symbol.false) (left c.take.new.self) c.if-self-eq0.true c.take.ensures.left

pub returns-else-self-eq0-clause-read : goal.returns-else-self-eq0-clause-read
returns-else-self-eq0-clause-read c = inner_opened c.args.self.now c.in-Some.token c.in-Some.is (sym c.begins_symbol.ensures ∙ c.if-not-begins_symbol.false) (left c.skip.new.self) c.if-self-eq0.false c.skip.ensures.left
