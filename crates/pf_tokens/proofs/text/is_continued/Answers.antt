use Rattle.std.proofs.Common.{sym, ◌∙◌}
use Rattle.pf_tokens.proofs.Table.{not_continued}
use Rattle.pf_tokens.proofs.text.is_continued.Goals as goal

-- without a backslash no line is continued
pub returns-then-not-contains : goal.returns-then-not-contains
returns-then-not-contains c = sym (not_continued c.args.text.now (sym c.contains.ensures.value ∙ c.if-not-contains.true))
