use Rattle.std.proofs.Common.{drop, ◌≡◌, map, fold}
use Rattle.pf_command.specs.Effect.{empty}
use Rattle.pf_dump.specs.Texts.{after_text}
use Rattle.pf_dump.specs.Done.{texts_done_from}
use Rattle.pf_dump.specs.Seen.{text_of}
use Rattle.pf_dump.proofs.path_texts.loaded.Given as goal

-- the rulesets that are left lead from here to where all of them lead
abbrev pub invariant-loop-text : goal.invariant-loop-text
invariant-loop-text l = record {
  after : fold after_text l.config (map text_of (drop l.text-index l.texts)) ≡ fold after_text empty (map text_of l.texts);
  done : texts_done_from l.config (map text_of (drop l.text-index l.texts)) ≡ texts_done_from empty (map text_of l.texts);
}
