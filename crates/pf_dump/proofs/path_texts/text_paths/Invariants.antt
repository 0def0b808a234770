use Rattle.std.proofs.Common.{drop, ◌≡◌, ◌++◌, ◌||◌, map, filter}
use Rattle.std.specs.List.{list_any}
use Rattle.pf_config.specs.Map.{paths_in}
use Rattle.pf_config.specs.Changes.{is_empty}
use Rattle.pf_dump.specs.Texts.{is_anchor, has_main}
use Rattle.pf_dump.proofs.path_texts.text_paths.Given as goal

-- those found, and those that are found in the rest
abbrev pub invariant-loop-path : goal.invariant-loop-path
invariant-loop-path l = record {
  found : map (λ p. p.now) l.found.items ++ filter is_anchor (map (λ p. p.now) (drop l.path-index l.path-items)) ≡ filter is_anchor (paths_in l.fn.config.anchors);
  main : (l.has_main || list_any is_empty (map (λ p. p.now) (drop l.path-index l.path-items))) ≡ has_main l.fn.config;
}
