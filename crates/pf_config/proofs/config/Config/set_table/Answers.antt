use Rattle.std.proofs.Common.{◌≡◌, true, Some, Ok, rules, subst}
use Rattle.std.specs.Prelude.{MatchResult}
use Rattle.pf_config.specs.inner.TableChanges.{Makes, MapChangesIf}
use Rattle.pf_config.specs.declared.change.Change.TheVariants.{Whole}
use Rattle.pf_config.proofs.Changing.{sets}
use Rattle.pf_config.proofs.config.Config.set_table.Goals as goal

pub returns-then-branch : goal.returns-then-branch
returns-then-branch c =
    let old = c.args.self.now in
    let new = c.change.new.self in
    let done : c.change.result ≡ Ok true = search rules in
    let is = subst (λ r. MatchResult r (λ done. MapChangesIf done (Makes (Whole c.args.name c.args.table)) c.args.path.now old new) (λ e. new ≡ old)) done c.change.ensures in
    sets (Some c.args.table.now) old new c.args.path.now c.args.name.now (record { rules = is.rules; tables = is.tables; skip = is.skip; is = is.is; made = is.made; few = is.few })
