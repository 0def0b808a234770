use Rattle.std.proofs.Common.{drop, ◌≡◌, ◌++◌, map}
use Rattle.pf_dump.specs.Written.{text_at, texts_of}
use Rattle.pf_dump.specs.Seen.{text_of}
use Rattle.pf_dump.proofs.path_texts.written.Given as goal

-- the rulesets so far, and those of the paths that are left
abbrev pub invariant-loop-path : goal.invariant-loop-path
invariant-loop-path l =
    map text_of l.texts.items ++ map (text_at l.config) (map (λ p. p.now) (drop l.path-index l.path-items)) ≡ texts_of l.fn.config
