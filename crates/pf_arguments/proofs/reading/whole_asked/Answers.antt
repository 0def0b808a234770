use Rattle.std.proofs.Common.{◌≡◌, ◌∙◌, false, length, sym}
use Rattle.std.specs.Prelude.{◌||◌, is_some, nat_lt}
use Rattle.pf_arguments.specs.Asked.{at_path, path_given, whole_action}
use Rattle.pf_arguments.specs.inner.Answers.{given_of}
use Rattle.pf_arguments.proofs.NeverUsage.{never_whole, past_usage}
use Rattle.pf_arguments.proofs.reading.whole_asked.Goals as goal

pub returns-clause-first : goal.returns-clause-first
returns-clause-first c h =
    let given = given_of c.args.given in
    let apart : (is_some given.table || nat_lt 0 (length given.addresses)) ≡ false = sym c.concerns_table.ensures ∙ c.if-concerns_table.false in
    absurd (never_whole c.args.operation (path_given given) c.args.text.now
    (past_usage (is_some given.table || nat_lt 0 (length given.addresses)) (at_path (path_given given) (λ p. whole_action c.args.operation p c.args.text.now)) apart h))
