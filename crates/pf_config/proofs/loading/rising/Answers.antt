use Rattle.std.proofs.Common.{rules, ◌≡◌, map, sym, ap, ◌∙◌, refl, Bor}
use Rattle.std.proofs.lemmas.Fn.{always_returns_same}
use Rattle.std.proofs.lemmas.Simd.{map-map}
use Rattle.pf_rules.specs.Names.{Name, is_before}
use Rattle.pf_rules.specs.declared.ruleset.TableDef.{TableDef}
use Rattle.pf_config.specs.Changes.{Definition}
use Rattle.pf_config.specs.inner.Texts.{definition_of, of_name}
use Rattle.pf_config.proofs.Definitions.{ranks, stable_names}
use Rattle.pf_config.proofs.loading.rising.Goals as goal

pub returns : goal.returns
returns c =
    let value : Bor TableDef → Definition = λ d. definition_of d.now in
    let all = c.in_ok-list.ensures in
    let stable = c.in_ok-sort_by.ensures.stable (λ x y. is_before (value x).name (value y).name) (ranks (λ d. (value d).name)) (always_returns_same _ _ _ (λ a r q k. search rules)) in
    λ n. stable_names (λ d. (value d).name) value (λ x. refl) c.in_ok-list.list.items c.sort_by.new.self.items stable n ∙ ap (of_name n) (sym (map-map definition_of (λ d. d.now) c.in_ok-list.list.items) ∙ ap (map definition_of) all)
