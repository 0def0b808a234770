use Rattle.std.proofs.Common.{arith}
use Rattle.pf_tool.proofs.Files.{next_source}
use Rattle.pf_tool.proofs.source.Runner.sources_or.Goals as goal

pub loop-path-preserved : goal.loop-path-preserved
loop-path-preserved g c =
    next_source (g.T.Sources.has c.args.self.now.sources.now) c.args.paths.now c.loop-path.path-index _ c.loop-path.all.items _ c.in_ok-source_or.field-0 (omega arith) c.loop-path.invariant c.in_ok-source_or.ensures c.in_ok-push.ensures.items
