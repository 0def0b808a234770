use Rattle.std.proofs.Common.{map, take}
use Rattle.pf_tool.specs.Tool.{AreAt}
use Rattle.pf_tool.specs.inner.Sources.{source_in}
use Rattle.pf_tool.proofs.source.Runner.sources_or.Given as goal

-- the contents of the files so far
abbrev pub invariant-loop-path : goal.invariant-loop-path
invariant-loop-path g l = AreAt (g.T.Sources.has l.self.sources.now) (map (λ p. p.now) (take l.path-index l.paths)) (map source_in l.all.items)
