use Rattle.std.proofs.Common.{◌∙◌, sym}
use Rattle.node_requests.proofs.Digits.{number_past}
use Rattle.node_requests.proofs.query.number_in.Goals as goal

-- the digits write a number that doesn't fit
pub returns-in-Err : goal.returns-in-Err
returns-in-Err c = number_past c.args.text.now c.in-Err.field-0 (sym c.is_number.ensures ∙ c.if-not-is_number.false) c.in-Err.ensures.value.0
