use Rattle.std.proofs.Common.{◌∙◌, ap, unwrap_or, Option, List, ℕ, []}
use Rattle.clap.specs.Words.{found_of}
use Rattle.clap.proofs.WalkLemmas.{raw_values-rows}
use Rattle.cli_io.proofs.options.values_in.Goals as goal

pub returns : goal.returns
returns c = c.or_none.ensures ∙ ap (λ (o : Option (List (List ℕ))). unwrap_or o []) (c.get_strs.ensures ∙ raw_values-rows (found_of c.args.matches.now) c.args.id.now)
