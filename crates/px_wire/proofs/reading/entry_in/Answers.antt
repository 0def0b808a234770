use Rattle.std.proofs.Common.{arith, ap, Option}
use Rattle.std.specs.Prelude.{option_map}
use Rattle.pf_entry.specs.Entry as entries
use Rattle.pf_entry.specs.Seen.{entry_of}
use Rattle.px_wire.specs.Fields.{lent, lent_in}
use Rattle.px_wire.proofs.Lending.{read_lends}
use Rattle.px_wire.proofs.reading.entry_in.Goals as goal

pub returns-in-Ok : goal.returns-in-Ok
returns-in-Ok c = read_lends c.args.bytes.now (entry_of c.in-Ok.field-0) c.read.result (λ i. omega (arith, c.type_inv.bytes i)) c.in-Ok.ensures.exact c.read.ensures.entry c.read.ensures.bytes

pub returns-in-Err : goal.returns-in-Err
unfolding lent_in
returns-in-Err c = ap (λ (x : Option entries.Entry). option_map (lent c.args.bytes.now) x) c.in-Err.ensures.exact
