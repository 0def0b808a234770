use Rattle.std.proofs.Common.{◌∙◌}
use Rattle.pf_expansion.proofs.Given.{given_there}
use Rattle.pf_expansion.proofs.block_names.given_name.Goals as goal

pub unwrap-requires : goal.unwrap-requires
unwrap-requires c = given_there c.in_ok-name.name c.as_bytes.result.now c.args.k c.in_ok-name.ensures (c.as_bytes.ensures.value ∙ c.in_ok-text.ensures.ok) c.ranges.k.fits
