use Rattle.std.proofs.Common.{drop, ◌≡◌, ◌++◌, map}
use Rattle.std.specs.List.{flat_map}
use Rattle.pf_dump.specs.Written.{path_lines, script_of}
use Rattle.pf_dump.proofs.script.script_of.Given as goal

abbrev pub invariant-loop-path : goal.invariant-loop-path
invariant-loop-path l = l.script.items ++ flat_map (path_lines l.config) (map (λ p. p.now) (drop l.path-index l.path-items)) ≡ script_of l.fn.config
