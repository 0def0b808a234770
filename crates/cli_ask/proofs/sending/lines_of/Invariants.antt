use Rattle.std.proofs.Common.{◌≡◌, ◌++◌, map, drop, string_bytes}
use Rattle.cli_ask.specs.Sending.{lines_of}
use Rattle.cli_ask.proofs.sending.lines_of.Given as goal

abbrev pub invariant-loop-word : goal.invariant-loop-word
invariant-loop-word l =
    string_bytes l.lines ++ lines_of (map (λ w. w.now) (drop l.word-index l.words)) ≡ lines_of (map (λ w. w.now) l.fn.words)
