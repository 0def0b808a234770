use Rattle.std.proofs.Common.{rules, ◌≡◌, ◌∙◌, ap}
use Rattle.pf_config.specs.SkippedNames.{is_listed}
use Rattle.pf_config.proofs.Referrals.{found_is}
use Rattle.pf_config.proofs.referred.Referred.contains.Goals as goal

pub returns : goal.returns
returns c =
    let bytes : c.as_bytes.result.now ≡ c.args.name.now = search rules in
    c.contains.ensures ∙ found_is c.as_bytes.result.now c.self.inside.known ∙ ap (is_listed c.as_bytes.result.now) c.self.view_is ∙ ap (λ n. is_listed n c.args.self.now) bytes
