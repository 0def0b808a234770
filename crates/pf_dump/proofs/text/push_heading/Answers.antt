use Rattle.std.proofs.Common.{◌≡◌, ◌++◌, None, codes, subst, rules}
use Rattle.std.specs.Str.Pattern.{FindsTextPrefix, StripsPrefix}
use Rattle.pf_dump.specs.Written.{anchor_front, without_name}
use Rattle.pf_dump.proofs.Rules.{without_some, without_none}
use Rattle.pf_dump.proofs.text.push_heading.Goals as goal

pub returns-in-Some-strip_prefix : goal.returns-in-Some-strip_prefix
returns-in-Some-strip_prefix c =
    let name = c.in-Some.name.now in
    let rest = c.in-Some-strip_prefix.rest.now in
    let same : c.as_str.result.now ≡ anchor_front name = search rules in
    let e : without_name name c.args.line.now ≡ codes "anchor" ++ rest =
    without_some name c.args.line.now rest
    (subst (λ p. StripsPrefix (FindsTextPrefix p) c.args.line.now rest) same c.in-Some-strip_prefix.ensures.cases) in
    search (rules, e)

pub returns : goal.returns
returns c =
    let name = c.in-Some.name.now in
    let same : c.as_str.result.now ≡ anchor_front name = search rules in
    let e : without_name name c.args.line.now ≡ c.args.line.now =
    without_none name c.args.line.now (subst (λ p. FindsTextPrefix p c.args.line.now None) same c.in-None.ensures.cases) in
    search (rules, e)
