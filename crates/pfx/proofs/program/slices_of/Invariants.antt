use Rattle.std.proofs.Common.{◌≡◌, ◌++◌, map, drop, string_bytes}
use Rattle.pfx.proofs.program.slices_of.Given as goal

abbrev pub invariant-loop-string : goal.invariant-loop-string
invariant-loop-string l =
    map (λ s. s.now) l.slices.items ++ map string_bytes (drop l.string-index l.strings) ≡ map string_bytes l.fn.strings
