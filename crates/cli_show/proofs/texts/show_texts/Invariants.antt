use Rattle.std.proofs.Common.{◌≡◌, ◌++◌, map, drop, string_bytes}
use Rattle.pf_dump.specs.Seen.{text_of}
use Rattle.cli_show.specs.Texts.{shown_texts}
use Rattle.cli_show.proofs.texts.show_texts.Given as goal

-- the rulesets that are shown, and those that are left
abbrev pub invariant-loop-text : goal.invariant-loop-text
invariant-loop-text l = string_bytes l.out ++ shown_texts (map text_of (drop l.text-index l.rulesets)) ≡ shown_texts (map text_of l.rulesets)
