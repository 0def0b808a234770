-- The top and the end that an answer gives.
use Rattle.std.proofs.Common.{◌≡◌, ℕ, zero, suc, ◌<◌, pos, List, [], ◌∷◌, Bool, true, false, refl, sym, ap, subst, ◌∙◌, arith}
use Rattle.std.specs.Ordering.{is_gt}
use Rattle.sqlite.specs.declared.types.Value.{Value}
use Rattle.sqlite.specs.declared.types.Value.TheVariants.{Int}
use Rattle.sqlite_value.specs.Order.{Row, column, value_cmp}
use Rattle.sqlite_rules.specs.Lists.{Has}
use Rattle.px_model.specs.Step.{positions}
use Rattle.px_store.specs.Seen.{number_in, is_number, IsLastGood}
use Rattle.px_store.specs.inner.Seen.{IsLast, IsEndOf, EndsAt}
use Rattle.px_store.proofs.Above.{number_is}

pub ends_at : (test : Row → Bool) (rows answer : List Row) → IsLast test rows answer → (t : ℕ) → IsEndOf answer t → EndsAt test rows t
ends_at test rows [] last t is = subst (EndsAt test rows) (sym is) last
ends_at test rows (a ∷ []) (r, h, there, key, most) t (number, (is, within)) =
    let n = number_in (column a 0) in
    let at : column r 0 ≡ Int (pos n) = ap (λ x. column x 0) (sym key) ∙ number_is (column a 0) number in
    subst (EndsAt test rows) (sym is) (within, (r, h, there, at), λ x has yes. subst (λ (v : Value). is_gt (value_cmp (column x 0) v) ≡ false) at (most x has yes))
ends_at test rows (a ∷ b ∷ more) last t is = absurd last

-- an answer that gives no end is that of a last row that isn't good
pub no_end : (test : Row → Bool) (good : ℕ → Type 0) (rows answer : List Row) → IsLast test rows answer → ((t : ℕ) → IsEndOf answer t → ⊥) → IsLastGood test good rows → ⊥
no_end test good rows [] last none h = none 0 refl
no_end test good rows (a ∷ []) (r, has, there, key, most) none h =
    let (p, within, at, is) = h r (has, there, most) in
    let position_is : column a 0 ≡ Int (pos p) = ap (λ x. column x 0) key ∙ at in
    none (suc p) (ap is_number position_is, (ap (λ v. suc (number_in v)) (sym position_is), subst (λ (n : ℕ). n < positions) (sym (ap number_in position_is)) within))
no_end test good rows (a ∷ b ∷ more) last none h = last

-- what is at the last position is good where the last row is
pub last_named : (test : Row → Bool) (good : ℕ → Type 0) (rows : List Row) (t : ℕ) → EndsAt test rows t → IsLastGood test good rows → (n : ℕ) → t ≡ suc n → good n
last_named test good rows zero none h n e = absurd (omega (arith, e))
last_named test good rows (suc k) (within, (r, has, there, at), most) h n e =
    let greatest : (x : Row) → Has rows x → test x ≡ true → is_gt (value_cmp (column x 0) (column r 0)) ≡ false = λ x has yes. subst (λ (v : Value). is_gt (value_cmp (column x 0) v) ≡ false) (sym at) (most x has yes) in
    let found = h r (has, there, greatest) in
    let same : pos found.0 ≡ pos k = let e : Int (pos found.0) ≡ Int (pos k) = sym found.2 ∙ at in cc in
    let here : found.0 ≡ n = let f : found.0 ≡ k = cc in omega (arith, e, f) in
    subst good here found.3
