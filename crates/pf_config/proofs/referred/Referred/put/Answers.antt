use Rattle.std.proofs.Common.{rules, ◌≡◌, ◌∙◌, ◌||◌, List, ap}
use Rattle.std.specs.Str.{bytes_eq}
use Rattle.pf_rules.specs.Names.{Name}
use Rattle.pf_config.specs.SkippedNames.{is_listed}
use Rattle.pf_config.proofs.Referrals.{gains_one}
use Rattle.pf_config.proofs.referred.Referred.put.Goals as goal

pub returns : goal.returns
returns c =
    let same : c.in_ok-key.key.items ≡ c.args.name.now = search rules in
    λ q. gains_one c.args.name.now c.self.inside.known c.insert.new.self c.in_ok-key.key same c.in-Ok.ensures.updates q ∙ ap (λ (ns : List Name). bytes_eq c.args.name.now q || is_listed q ns) c.self.view_is
