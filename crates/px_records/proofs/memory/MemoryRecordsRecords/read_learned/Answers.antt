use Rattle.std.proofs.Common.{sym, subst, ap, option_map}
use Rattle.px_model.specs.Bounds.{AnyCommand}
use Rattle.px_model.specs.Node.{Entry}
use Rattle.px_model.specs.Spelling.{Bytes}
use Rattle.px_model.specs.Entries.{entry_of}
use Rattle.px_model.specs.Fits.{EntryFits}
use Rattle.px_records.proofs.memory.MemoryRecordsRecords.read_learned.Goals as goal

pub returns-in_ok-shared-in-Some-clause-fits : goal.returns-in_ok-shared-in-Some-clause-fits
returns-in_ok-shared-in-Some-clause-fits c =
    let at = ap (option_map entry_of) (sym c.in-Some.ensures.value) in
    subst (λ (e : Entry Bytes). EntryFits AnyCommand c.args.self.now.members e) (sym c.in_ok-shared-in-Some.ensures.value)
    (c.args.self.now.fits.learned c.args.position (entry_of c.in-Some.entry.now) at).1
