use Rattle.std.proofs.Common.{map}
use Rattle.pf_tool.specs.inner.Sources.{source_in}
use Rattle.pf_tool.proofs.Files.{files_checked}
use Rattle.pf_tool.proofs.source.Runner.check.Goals as goal

pub returns : goal.returns
returns g c =
    let check = c.args.check.now in
    files_checked (g.T.Sources.has c.args.self.now.sources.now) c.args.self.now.reporter.table.now check.place check.quiet (map (λ f. f.now) check.files.now) (map source_in c.deref.result.now) c.args.input.now c.args.self.now.reporter c.in_ok-output.output c.quieted.result (rw c.deref.ensures.value c.in_ok-sources.ensures)
    c.in_ok-output.ensures c.quieted.ensures
