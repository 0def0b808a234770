use Rattle.std.proofs.Common.{rules, ◌≡◌, true}
use Rattle.pf_lab.specs.Numbers.{is_number}
use Rattle.pf_lab.proofs.Digits.{digits_all, number_past}
use Rattle.pf_lab.proofs.numbers.number_in.Goals as goal

-- the digits write a number that doesn't fit
pub returns-in-Err : goal.returns-in-Err
returns-in-Err c =
    let digits : is_number c.args.word.now ≡ true = search (rules, digits_all, c.is_empty.ensures, c.are_digits.ensures) in
    number_past c.args.word.now c.in-Err.field-0 digits c.in-Err.ensures.value.0
