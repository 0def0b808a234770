use Rattle.std.proofs.Common.{◌≡◌, ◌∙◌, Bool, true, false, map, ap, sym, inr, lit≤}
use Rattle.std.specs.List.{list_any}
use Rattle.pf_config.specs.Map.{Path, rules_at}
use Rattle.nft_rules.specs.Subset.{Base}
use Rattle.nft_rules.specs.Evaluation.{run}
use Rattle.nft_rules.specs.Rendering.{rendered}
use Rattle.nft_rules.specs.Refusing.{is_costly}
use Rattle.nft_rules.specs.Deciding.{leads_back, some_leads_back}
use Rattle.nft_rules.specs.Seen.{machine_of}
use Rattle.nft_rules.proofs.Depths.{rendered_decides}
use Rattle.nft_rules.proofs.Guarded.{decides_behind}
use Rattle.nft_rules.proofs.Refused.{refused_back, refused_costly}
use Rattle.nft_rules.proofs.rendering.render.Goals as goal

pub returns-then-some_leads_back-clause-whole : goal.returns-then-some_leads_back-clause-whole
returns-then-some_leads_back-clause-whole c =
    let f : Path → Bool = λ p. list_any leads_back (rules_at c.args.config.now p) in
    let e : some_leads_back c.args.config.now ≡ true =
    ap (list_any f) (sym c.in_ok-paths.ensures) ∙ ap (λ ps. list_any f (map (λ p. p.now) ps)) (sym c.deref.ensures.value)
    ∙ sym c.some_leads_back.ensures ∙ c.if-some_leads_back.true in
    inr (refused_back c.args.config.now (machine_of c.args.machine.now) c.args.direction e)

pub returns-then-is_costly-clause-whole : goal.returns-then-is_costly-clause-whole
returns-then-is_costly-clause-whole c =
    let f : Path → Bool = λ p. list_any leads_back (rules_at c.args.config.now p) in
    let e : some_leads_back c.args.config.now ≡ false =
    ap (list_any f) (sym c.in_ok-paths.ensures) ∙ ap (λ ps. list_any f (map (λ p. p.now) ps)) (sym c.deref.ensures.value)
    ∙ sym c.some_leads_back.ensures ∙ c.if-some_leads_back.false in
    let much : is_costly (rendered c.args.config.now (machine_of c.args.machine.now) c.args.direction) ≡ true =
    ap is_costly (sym c.in_ok-whole.ensures) ∙ sym c.is_costly.ensures ∙ c.if-is_costly.true in
    inr (refused_costly c.args.config.now (machine_of c.args.machine.now) c.args.direction e much)

pub returns-clause-judged : goal.returns-clause-judged
returns-clause-judged c =
    let f : Path → Bool = λ p. list_any leads_back (rules_at c.args.config.now p) in
    let e : some_leads_back c.args.config.now ≡ false =
    ap (list_any f) (sym c.in_ok-paths.ensures) ∙ ap (λ ps. list_any f (map (λ p. p.now) ps)) (sym c.deref.ensures.value)
    ∙ sym c.some_leads_back.ensures ∙ c.if-some_leads_back.false in
    λ k way on.
    ap (λ r. run 10 r k Base) (c.in_ok-whole.ensures ∙ ap (rendered c.args.config.now (machine_of c.args.machine.now)) (sym way))
    ∙ rendered_decides c.args.config.now (machine_of c.args.machine.now) k 10 e on (lit≤ tt)

pub returns-clause-guarded : goal.returns-clause-guarded
returns-clause-guarded c =
    let f : Path → Bool = λ p. list_any leads_back (rules_at c.args.config.now p) in
    let e : some_leads_back c.args.config.now ≡ false =
    ap (list_any f) (sym c.in_ok-paths.ensures) ∙ ap (λ ps. list_any f (map (λ p. p.now) ps)) (sym c.deref.ensures.value)
    ∙ sym c.some_leads_back.ensures ∙ c.if-some_leads_back.false in
    λ ms. decides_behind c.args.config.now (machine_of c.args.machine.now) c.args.direction ms _ (λ k way on.
    ap (λ r. run 10 r k Base) (c.in_ok-whole.ensures ∙ ap (rendered c.args.config.now (machine_of c.args.machine.now)) (sym way))
    ∙ rendered_decides c.args.config.now (machine_of c.args.machine.now) k 10 e on (lit≤ tt))
