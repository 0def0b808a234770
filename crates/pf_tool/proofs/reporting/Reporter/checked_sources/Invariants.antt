use Rattle.std.proofs.Common.{◌≡◌, ◌++◌, ◌||◌, map, drop, string_bytes}
use Rattle.std.specs.List.{flat_map, list_any}
use Rattle.pf_tool.specs.Tool.{checked_source, is_refused}
use Rattle.pf_tool.specs.inner.Output.{reported}
use Rattle.pf_tool.specs.inner.Sources.{source_in}
use Rattle.pf_tool.proofs.reporting.Reporter.checked_sources.Given as goal

-- what is written so far and of the rulesets that are left, the same of the messages; one of those so far is refused, or of those that are left
abbrev pub invariant-loop-source : goal.invariant-loop-source
invariant-loop-source l = (string_bytes l.all.text ++ flat_map (λ s. (checked_source l.place s).text) (map source_in (drop l.source-index l.sources)) ≡ flat_map (λ s. (checked_source l.place s).text) (map source_in l.sources)) × (string_bytes l.all.messages ++ reported l.self (flat_map (λ s. (checked_source l.place s).messages) (map source_in (drop l.source-index l.sources))) ≡ reported l.self (flat_map (λ s. (checked_source l.place s).messages) (map source_in l.sources))) × ((is_refused l.all.ending || list_any (λ s. is_refused (checked_source l.place s).ending) (map source_in (drop l.source-index l.sources))) ≡ list_any (λ s. is_refused (checked_source l.place s).ending) (map source_in l.sources))
