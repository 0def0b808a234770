use Rattle.std.proofs.Common.{◌∙◌, sym}
use Rattle.std.specs.List.{flat_map}
use Rattle.pf_scripts.specs.Seen.{printed_values}
use Rattle.pf_tool.specs.Tool.{marks, refusals_in}
use Rattle.pf_tool.proofs.Messages.{no_messages}
use Rattle.pf_tool.proofs.reporting.Reporter.script_messages.Goals as goal

-- refusals aren't reported
pub returns : goal.returns
returns c =
    let reporter = c.args.self.now in
    let found = refusals_in 1 (flat_map marks (printed_values c.args.printed.now)) in
    c.new.ensures.bytes ∙ sym (no_messages reporter.level reporter.table.now found (sym c.has_refusals.ensures ∙ c.if-has_refusals.false))
