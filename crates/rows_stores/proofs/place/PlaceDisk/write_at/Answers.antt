-- either file, once it has stopped, stays as it is
use Rattle.rows_stores.proofs.place.PlaceDisk.write_at.Goals as goal

pub returns-in-Real-clause-frozen : goal.returns-in-Real-clause-frozen
returns-in-Real-clause-frozen g c = rw c.in-Real.is (λ h. let it = c.write_at.ensures.frozen h in (
  it.0,
  record {
    frozen = it.1.frozen;
    same = it.1.same;
    clean = it.1.clean;
    no_more = it.1.no_more;
    no_fewer = it.1.no_fewer;
  },
))

pub returns-in-Fused-clause-frozen : goal.returns-in-Fused-clause-frozen
returns-in-Fused-clause-frozen g c = rw c.in-Fused.is (λ h. let it = c.write_at-in-Fused.ensures.frozen h in (
  it.0,
  record {
    frozen = it.1.frozen;
    same = it.1.same;
    clean = it.1.clean;
    no_more = it.1.no_more;
    no_fewer = it.1.no_fewer;
  },
))
