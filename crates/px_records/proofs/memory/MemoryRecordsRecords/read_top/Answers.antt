use Rattle.std.proofs.Common.{◌≤◌, ℕ, sym, subst}
use Rattle.px_model.specs.Step.{positions}
use Rattle.px_records.specs.Memory.{slots_in}
use Rattle.px_records.proofs.Peaks.{top_within}
use Rattle.px_records.proofs.memory.MemoryRecordsRecords.read_top.Goals as goal

pub returns-clause-within : goal.returns-clause-within
returns-clause-within c =
    subst (λ (t : ℕ). t ≤ positions) (sym c.args.self.now.top_is) (top_within (slots_in c.args.self.now.slots))
