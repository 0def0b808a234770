-- An option of a table takes a token at least.
use Rattle.std.proofs.Common.{◌≡◌, ◌<◌, Bool, true, false, cond, List, drop, length, Some, None, refl, arith, codes}
use Rattle.std.specs.Prelude.{is_some}
use Rattle.pf_rules.specs.declared.profile.Profile.{Profile}
use Rattle.pf_tokens.specs.Tokens.{Token}
use Rattle.pf_tokens.specs.Productions.{Read, ◌>>=◌, begins}
use Rattle.pf_tokens.specs.inner.Shorter.{begins_shorter, bind_some}
use Rattle.pf_statements.specs.inner.Shorter.{answer_left}
use Rattle.pf_statements.specs.Tables.{TableText, entries_at, listed_option, table_option}
use Rattle.pf_statements.proofs.TablesSpelled.{entries_shorter}

listed_shorter : (profile : Profile) (t u : TableText) (ts rest : List Token) → listed_option profile t ts ≡ Some (u, rest) → length rest < length ts
unfolding listed_option
listed_shorter profile t u ts rest e = cases (is_some t.entries) e
  where
    cases : (b : Bool) → cond {A = Read TableText} b None (entries_at profile ts >>= λ list. Some (record t { entries = Some list.0 }, list.1)) ≡ Some (u, rest) → length rest < length ts
    cases true e = absurd (let h = e in cc)
    cases false e =
        let a = bind_some (entries_at profile ts) (λ list. Some (record t { entries = Some list.0 }, list.1)) (u, rest) e in
        omega (arith, entries_shorter profile ts a.0 a.1, answer_left (record t { entries = Some a.0.0 }) u a.0.1 rest a.2)

pub option_shorter : (profile : Profile) (t u : TableText) (ts rest : List Token) → table_option profile t ts ≡ Some (u, rest) → length rest < length ts
unfolding table_option
option_shorter profile t u ts rest e = cases (begins (codes "persist") ts) (begins (codes "const") ts) (begins (codes "counters") ts) refl refl refl e
  where
    cases : (p k n : Bool) → begins (codes "persist") ts ≡ p → begins (codes "const") ts ≡ k → begins (codes "counters") ts ≡ n
        → cond {A = Read TableText} p (Some (record t { persist = true }, drop 1 ts)) (cond k (Some (record t { is_const = true }, drop 1 ts)) (cond n (Some (t, drop 1 ts)) (listed_option profile t ts))) ≡ Some (u, rest) → length rest < length ts
    cases true k n p_is k_is n_is e = omega (arith, begins_shorter (codes "persist") ts p_is, answer_left (record t { persist = true }) u (drop 1 ts) rest e)
    cases false true n p_is k_is n_is e = omega (arith, begins_shorter (codes "const") ts k_is, answer_left (record t { is_const = true }) u (drop 1 ts) rest e)
    cases false false true p_is k_is n_is e = omega (arith, begins_shorter (codes "counters") ts n_is, answer_left t u (drop 1 ts) rest e)
    cases false false false p_is k_is n_is e = listed_shorter profile t u ts rest e
