use Rattle.std.proofs.Common.{◌≡◌, ◌≤◌, ◌+◌, ◌&&◌, ◌||◌, Bool, false, length, not, rules, subst, sym, arith}
use Rattle.std.specs.Prelude.{MatchResult}
use Rattle.pf_config.specs.Map.{Configuration, anchor_at}
use Rattle.pf_config.specs.inner.Referring.{any_may_shed}
use Rattle.pf_config.specs.inner.TableChanges.{Makes, makes_fleeting, count_of, MapChangesIf}
use Rattle.pf_config.proofs.Changing.{main_changes, config_with}
use Rattle.pf_config.proofs.Persisting.{still_none}
use Rattle.pf_config.proofs.config.Config.change.Goals as goal

pub invariant_of-self : goal.invariant_of-self
invariant_of-self c =
    let main = c.self.inside.main in
    let left = c.in-Some.left in
    let room : length main.anchors + left + 1 ≤ 1024 + count_of (anchor_at c.args.path.now main.anchors) = search rules in
    let all = main_changes c.change_below.result (Makes c.args.change.now) c.args.path.now c.self.inside.skip main c.change_below.new.anchor left c.self.invariant.0 c.self.invariant.1 room c.change_below.ensures in
    let none = still_none c.change_below.result c.args.change.now c.args.path.now (config_with c.self.inside.skip main.anchors) (config_with c.self.inside.skip c.change_below.new.anchor.anchors) c.self.inside.has_fleeting c.self.invariant.2 all.2 in
    let may : c.if-self.self ≡ (c.self.inside.has_fleeting || makes_fleeting c.args.change.now) = search rules in
    let less = all.1 in
    (all.0, omega (arith, less), subst (λ (b : Bool). (not b && any_may_shed c.change_below.new.anchor.anchors) ≡ false) (sym may) none, less)

pub returns : goal.returns
returns c =
    let skip = c.self.inside.skip in
    let main = c.self.inside.main in
    let new = c.change_below.new.anchor in
    let left = c.in-Some.left in
    let room : length main.anchors + left + 1 ≤ 1024 + count_of (anchor_at c.args.path.now main.anchors) = search rules in
    let all = main_changes c.change_below.result (Makes c.args.change.now) c.args.path.now skip main new left c.self.invariant.0 c.self.invariant.1 room c.change_below.ensures in
    subst (λ (x : Configuration). MatchResult c.change_below.result (λ done. MapChangesIf done (Makes c.args.change.now) c.args.path.now x (config_with skip new.anchors)) (λ e. config_with skip new.anchors ≡ x)) c.self.view_is all.2
