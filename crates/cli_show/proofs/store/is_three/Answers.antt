use Rattle.std.proofs.Common.{◌∙◌}
use Rattle.px_store.specs.declared.formats.Format.TheVariants.{Three}
use Rattle.cli_show.proofs.store.is_three.Goals as goal

pub returns-in_default-2 : goal.returns-in_default-2
returns-in_default-2 g c = (λ no. cc, λ e. let three = c.format_in.ensures.all Three (c.schema.ensures.value ∙ e) in let other = c.in_default.is in cc)
