use Rattle.std.proofs.Common.{inl, inr}
use Rattle.px_store.proofs.Adopts.{whole_anew}
use Rattle.px_store.proofs.adopt.bring_none.Goals as goal

pub returns-in-Ok-clause-stop : goal.returns-in-Ok-clause-stop
returns-in-Ok-clause-stop g c = λ clean has auto db left.
    elim (c.in-Ok.ensures.stop clean has db left) [
      | inl was ↦ inl was
      | inr is ↦ inr (whole_anew c.args.identity db is)
    ]

pub returns-in-Err-clause-stop : goal.returns-in-Err-clause-stop
returns-in-Err-clause-stop g c = λ clean has auto db left.
    elim (c.in-Err.ensures.stop (c.fault_of.ensures.clean clean) has db (c.fault_of.ensures.crash clean db left)) [
      | inl was ↦ inl was
      | inr is ↦ inr (whole_anew c.args.identity db is)
    ]
