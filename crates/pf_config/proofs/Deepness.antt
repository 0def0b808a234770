-- Blocks that are too deep, asked of their rules or of their paths.
use Rattle.std.proofs.Common.{◌≡◌, ◌+◌, ◌||◌, true, ◌++◌, length, length-append, Err, refl, ap, ◌∙◌}
use Rattle.std.specs.Prelude.{nat_lt}
use Rattle.std.specs.List.{list_any}
use Rattle.std.proofs.lemmas.List.Folds.{list_any-append}
use Rattle.pf_rules.specs.Items.{ItemValue, ItemValues, Filters, Anchors, Blocks, no_items, one_more, values_of}
use Rattle.pf_rules.specs.Rulesets as rulesets
use Rattle.pf_config.specs.declared.fault.ConfigFault.TheVariants.{BadPath}
use Rattle.pf_config.specs.Map.{Configuration, Path}
use Rattle.pf_config.specs.Changes.{blocks_of, blocks_in, is_too_deep, load, load_ruleset}
use Rattle.pf_config.specs.inner.Depths.{is_deep, any_deep}

mutual
  of_deep : (p : Path) (x : ItemValue) → list_any is_too_deep (blocks_of p x) ≡ is_deep (length p) x
  of_deep p (Filters rule) = refl
  of_deep p (Anchors heading) = refl
  of_deep p (Blocks heading items) =
      let n : length (p ++ heading.target.names) ≡ length p + length heading.target.names = length-append p heading.target.names in
      ap (λ b. nat_lt 8 (length (p ++ heading.target.names)) || b) (in_deep (p ++ heading.target.names) items)
      ∙ ap (λ k. nat_lt 8 k || any_deep k items) n

  in_deep : (p : Path) (xs : ItemValues) → list_any is_too_deep (blocks_in p xs) ≡ any_deep (length p) xs
  in_deep p no_items = refl
  in_deep p (one_more item items) =
      list_any-append is_too_deep (blocks_of p item) (blocks_in p items)
      ∙ ap (λ b. b || list_any is_too_deep (blocks_in p items)) (of_deep p item)
      ∙ ap (λ b. is_deep (length p) item || b) (in_deep p items)

pub deep_refused : (c : Configuration) (p : Path) (r : rulesets.RulesetValue) → (nat_lt 8 (length p) || any_deep (length p) (values_of r.items)) ≡ true → load_ruleset c p r ≡ Err BadPath
unfolding load
deep_refused c p r h =
    let deep : (nat_lt 8 (length p) || list_any is_too_deep (blocks_in p (values_of r.items))) ≡ true = ap (λ b. nat_lt 8 (length p) || b) (in_deep p (values_of r.items)) ∙ h in
    rw deep refl
