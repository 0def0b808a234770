-- the first that is due is reported
use Rattle.std.proofs.Common.{rules}
use Rattle.px_packet.proofs.Reporting.{report_at}
use Rattle.px_packet.proofs.reassembly.Reassembly.report.Goals as goal

pub returns-then-is_due-clause-after : goal.returns-then-is_due-clause-after
returns-then-is_due-clause-after c =
    report_at c.args.self.now c.loop-i.self-inside.partials.items c.args.now c.loop-i.i c.index_mut-partial.result.now
    c.report.new.self c.loop-i.invariant.same (search rules) c.index_mut-partial.ensures.value (search rules)
    c.report.ensures.reported c.loop-i.invariant.after
