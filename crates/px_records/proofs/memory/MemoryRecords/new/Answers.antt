use Rattle.std.proofs.Common.{sym, rules}
use Rattle.px_model.proofs.AlwaysFits.{nothing_fits}
use Rattle.px_records.proofs.Peaks.{nothing_top}
use Rattle.px_records.proofs.memory.MemoryRecords.new.Goals as goal

pub invariant_of-result : goal.invariant_of-result
invariant_of-result c = record {
  top_is = sym (nothing_top _ (λ p. search rules));
  end_is = λ p. search rules;
  fits = search (nothing_fits, rules);
}
