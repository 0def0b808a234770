use Rattle.std.proofs.Common.{arith, map, subst, sym}
use Rattle.std.specs.Option.{option_copied}
use Rattle.pf_tool.specs.Tool.{AreLines}
use Rattle.pf_tool.specs.declared.source.Source.{Source}
use Rattle.pf_tool.specs.inner.Sources.{source_in}
use Rattle.pf_tool.proofs.Files.{files_tested, input_lines, no_lines}
use Rattle.pf_tool.proofs.source.Runner.test.Goals as goal
use Rattle.pf_tool.proofs.source.Runner.test.Goals.{in-empty+in_ok-lines-in-empty, in-len1-up+in_ok-lines-in-len1-up}

pub returns : goal.returns
returns g c =
    let has = g.T.Sources.has c.args.self.now.sources.now in
    let test = c.args.test.now in
    let more = option_copied test.more in
    let packets = test.packets.now in
    let input = c.args.input.now in
    let Are : Source → Type 0 = λ s. AreLines has more (map (λ p. p.now) packets) (source_in s) input in
    let lines : Are c.if-test-lt1.lines = elim c.if-test-lt1.branch [
      | in-empty+in_ok-lines-in-empty w ↦ subst Are (sym w.lines-is) (input_lines has more packets _ input (omega (arith, w.in-empty.len_below)) w.in_ok-lines-in-empty.ensures)
      | in-len1-up+in_ok-lines-in-len1-up w ↦ subst Are (sym w.lines-is) (no_lines has more packets _ input (omega (arith, w.in-len1-up.len_at_least)) w.in_ok-lines-in-len1-up.ensures)
    ] in
    files_tested has c.args.self.now.reporter.table.now (option_copied test.file) more test.quiet (map (λ p. p.now) packets) (source_in c.in_ok-rules.rules) (source_in c.if-test-lt1.lines) input c.args.self.now.reporter c.in_ok-output.output c.quieted.result c.in_ok-rules.ensures lines c.in_ok-output.ensures c.quieted.ensures
