use Rattle.std.proofs.Common.{◌≡◌, ◌∙◌, ◌&&◌, [], Bool, false, not, map, ap, rules, subst, sym}
use Rattle.std.specs.Prelude.{MatchResult, fold}
use Rattle.std.specs.List.{list_any}
use Rattle.pf_rules.specs.Seen.{rule_of}
use Rattle.pf_config.specs.Map.{Configuration, Path, anchor_at, tables_in}
use Rattle.pf_config.specs.Changes.{is_empty, defined}
use Rattle.pf_config.specs.inner.Texts.{definition_of}
use Rattle.pf_config.specs.inner.Trees.{any_unnamed}
use Rattle.pf_config.specs.inner.Referring.{is_fleeting, any_may_shed}
use Rattle.pf_config.specs.inner.TableChanges.{IsGiven, MapChangesIf}
use Rattle.pf_config.proofs.Treed.{empty_len}
use Rattle.pf_config.proofs.Changing.{none_is}
use Rattle.pf_config.proofs.Persisting.{load_alone}
use Rattle.pf_config.proofs.config.Config.load_alone.Goals as goal

pub returns : goal.returns
returns c =
    let own = c.args.own.now in
    let old = c.args.self.now in
    let new = c.change.new.self in
    let given = map definition_of c.args.definitions.now in
    let same : c.self.inside.main.anchors ≡ old.anchors = ap (λ (x : Configuration). x.anchors) c.self.view_is in
    let path : c.path-path.result.now ≡ own.path = c.path-path.ensures in
    let some : is_empty c.path-path.result.now ≡ false = search (rules, empty_len) in
    let none : c.args.blocks.now ≡ [] = search (rules, none_is) in
    let cut : any_unnamed c.path-path.result.now c.self.inside.main.anchors ≡ false = sym c.has_unnamed.ensures ∙ c.if-has_unnamed.false in
    let keep : any_may_shed c.self.inside.main.anchors ≡ false = subst (λ (b : Bool). (not b && any_may_shed c.self.inside.main.anchors) ≡ false) c.if-self.false c.self.invariant.2 in
    let stay : list_any is_fleeting c.in_ok-own.own.tables ≡ false = search rules in
    let held : map rule_of c.in_ok-own.own.items.value.items ≡ own.rules = search rules in
    let was : c.in_ok-old.old ≡ tables_in (anchor_at c.path-path.result.now c.self.inside.main.anchors) = c.in_ok-old.ensures in
    let made : c.in_ok-own.own.tables ≡ fold defined (tables_in (anchor_at own.path old.anchors)) given =
    c.in_ok-own.ensures.tables ∙ c.in_ok-with_definitions.ensures ∙ ap (λ ts. fold defined ts given) (was ∙ ap (λ (p : Path). tables_in (anchor_at p c.self.inside.main.anchors)) path ∙ ap (λ es. tables_in (anchor_at own.path es)) same) in
    load_alone c.change.result own given c.args.blocks.now (map rule_of c.in_ok-own.own.items.value.items) c.in_ok-own.own.tables old new
    (subst (λ (p : Path). is_empty p ≡ false) path some) none
    (subst (λ es. any_unnamed own.path es ≡ false) same (subst (λ (p : Path). any_unnamed p c.self.inside.main.anchors ≡ false) path cut))
    (subst (λ es. any_may_shed es ≡ false) same keep) stay held made
    (subst (λ (p : Path). MatchResult c.change.result (λ done. MapChangesIf done (IsGiven (map rule_of c.in_ok-own.own.items.value.items) c.in_ok-own.own.tables) p old new) (λ x. new ≡ old)) path c.change.ensures)
