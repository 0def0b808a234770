use Rattle.px_records.specs.Memory.{learned_in}
use Rattle.px_records.proofs.Maps.{end_within}
use Rattle.px_records.proofs.memory.MemoryRecordsRecords.read_learned_end.Goals as goal

pub returns-clause-within : goal.returns-clause-within
returns-clause-within c =
    end_within _ (learned_in c.args.self.now.learned) (λ p e is. (c.args.self.now.fits.learned p e is).0) c.args.self.now.end c.args.self.now.end_is
