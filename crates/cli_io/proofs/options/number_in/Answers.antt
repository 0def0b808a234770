use Rattle.std.proofs.Common.{◌∙◌, ap}
use Rattle.std.specs.Prelude.{option_and_then}
use Rattle.std.specs.Str.Parse.{ParsesUnsigned, ExplainsUnsignedError, HasUnsignedDigitsIfOk}
use Rattle.clap.specs.Words.{found_of, one_text}
use Rattle.clap.proofs.WalkLemmas.{one_text-rows}
use Rattle.cli_io.specs.Numbers.{number_of}
use Rattle.cli_io.proofs.Digits.{number_at}
use Rattle.cli_io.proofs.options.number_in.Goals as goal

pub returns : goal.returns
returns c =
    number_at (λ t r. ParsesUnsigned 32 10 t r × ExplainsUnsignedError 10 t r × HasUnsignedDigitsIfOk t r) (one_text (found_of c.args.matches.now) c.args.id.now) c.get_one.result c.get_one.ensures.none c.get_one.ensures.value (λ t x h. h.0)
    ∙ ap (λ o. option_and_then number_of o) (one_text-rows (found_of c.args.matches.now) c.args.id.now)
