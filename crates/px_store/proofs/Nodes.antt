-- The term at a place.
use Rattle.std.proofs.Common.{◌≡◌, ◌≤◌, ◌⊎◌, inl, inr, ℕ, zero, suc, ◌-◌, List, ◌∷◌, length, get_or, refl, ap, arith, sub-one}
use Rattle.std.proofs.lemmas.List.{get_or_past}
use Rattle.sqlite_value.specs.declared.value.Value.TheVariants.{Null}
use Rattle.sqlite_sql.specs.Term.{lit}
use Rattle.sqlite_schema.specs.declared.code.Op.{Op}
use Rattle.sqlite_schema.specs.declared.code.Op.TheVariants.{Literal}
use Rattle.sqlite_schema.specs.Code.{term_to, op_term}

pub term_step : (ops : List Op) (depth at : ℕ) → (depth ≡ 0 → ⊥) → term_to ops depth at ≡ op_term (term_to ops (depth - 1)) (get_or ops at (Literal Null))
term_step ops zero at ne = absurd (ne refl)
term_step ops (suc d) at ne = rw sub-one

pub term_none : (ops : List Op) (depth at : ℕ) → (depth ≡ 0) ⊎ (length ops ≤ at) → term_to ops depth at ≡ lit Null
term_none ops zero at none = refl
term_none ops (suc d) at (inl none) = absurd (omega arith)
term_none ops (suc d) at (inr past) = ap (op_term (term_to ops d)) (get_or_past ops at (Literal Null) past)
