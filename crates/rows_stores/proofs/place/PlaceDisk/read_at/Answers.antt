-- either file reads what it holds
use Rattle.rows_stores.proofs.place.PlaceDisk.read_at.Goals as goal

pub returns-in-Real-clause-read : goal.returns-in-Real-clause-read
returns-in-Real-clause-read g c = rw c.in-Real.is c.read_at.ensures.read

pub returns-in-Fused-clause-read : goal.returns-in-Fused-clause-read
returns-in-Fused-clause-read g c = rw c.in-Fused.is c.read_at-in-Fused.ensures.read
