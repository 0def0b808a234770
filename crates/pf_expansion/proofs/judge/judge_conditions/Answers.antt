use Rattle.std.proofs.Common.{◌∙◌}
use Rattle.pf_statements.specs.ConditionsSeen.{conditions_of}
use Rattle.pf_expansion.proofs.Capped.{judged_alike, few_found}
use Rattle.pf_expansion.proofs.judge.judge_conditions.Goals as goal

pub returns-in-Some-clause-refused : goal.returns-in-Some-clause-refused
returns-in-Some-clause-refused c =
    judged_alike c.conditions_judged.result c.args.test c.args.before c.args.reserved (conditions_of c.args.text.now) c.cause.result (c.conditions_judged.ensures c.args.test) c.cause.ensures ∙ c.in-Some.is

pub returns-clause-allowed : goal.returns-clause-allowed
returns-clause-allowed c =
    judged_alike c.conditions_judged.result c.args.test c.args.before c.args.reserved (conditions_of c.args.text.now) c.cause.result (c.conditions_judged.ensures c.args.test) c.cause.ensures ∙ c.in_default.is

pub returns-clause-few : goal.returns-clause-few
returns-clause-few c = rw c.in_ok-combined.ensures (few_found c.args.test c.args.before c.args.reserved (conditions_of c.args.text.now) (returns-clause-allowed c))
