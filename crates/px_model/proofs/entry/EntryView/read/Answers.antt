use Rattle.std.proofs.Common.{arith, ◌≤◌, length, sym, slice_index_or}
use Rattle.px_model.specs.Entries.{view_of}
use Rattle.px_model.proofs.Commands.{read_again, spelling_is}
use Rattle.px_model.proofs.entry.EntryView.read.Goals as goal

pub invariant_of-result : goal.invariant_of-result
invariant_of-result c =
    let long : 10 ≤ length c.args.bytes.now = omega (arith, c.if-bytes-lt10.false) in
    record { long = long; is_spelled = read_again c.args.bytes.now c.number_in.result long c.type_inv.bytes c.number_in.ensures }

pub returns-clause-bytes : goal.returns-clause-bytes
unfolding view_of
returns-clause-bytes c =
    let long : 10 ≤ length c.args.bytes.now = omega (arith, c.if-bytes-lt10.false) in
    let again = read_again c.args.bytes.now c.number_in.result long c.type_inv.bytes c.number_in.ensures in
    sym (spelling_is c.args.bytes.now (slice_index_or c.args.bytes.now 1 0) c.number_in.result long again)
