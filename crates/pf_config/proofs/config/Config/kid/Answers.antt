use Rattle.std.proofs.Common.{◌∙◌, ap}
use Rattle.std.specs.Prelude.{find}
use Rattle.std.specs.Option.{option_copied}
use Rattle.pf_config.specs.Map.{is_above, kids}
use Rattle.pf_config.specs.Trees.{last_name}
use Rattle.pf_config.proofs.Descents.{first_kid}
use Rattle.pf_config.proofs.config.Config.kid.Goals as goal

pub returns : goal.returns
returns c =
    let test = is_above (option_copied c.args.after) in
    c.first_above.ensures ∙ ap (find (λ q. test (last_name q))) c.kids.ensures ∙ first_kid test c.args.path.now (kids c.args.self.now c.args.path.now)
