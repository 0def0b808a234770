-- No name of a number begins with a digit.
use Rattle.std.proofs.Common.{◌≡◌, ℕ, ◌∷◌, [], Bool, true, false, List, None, refl, subst}
use Rattle.std.specs.Prelude.{not, bytes_eq}
use Rattle.std.specs.List.{list_all}
use Rattle.std.proofs.lemmas.Bool.{and_parts, false≢true}
use Rattle.std.proofs.lemmas.Slice.Eq.{bytes_eq-Decides}
use Rattle.pf_rules.specs.Words.{Named, named, protocols, services}
use Rattle.pf_rules.specs.inner.Words.{begins_with_digit}
use Rattle.pf_rules.proofs.Reserved.{not_true}

clash : (b : Bool) → b ≡ true → not b ≡ true → ⊥
clash true e n = false≢true n
clash false e n = false≢true e

another : (text name : List ℕ) → begins_with_digit text ≡ true → not (begins_with_digit name) ≡ true → bytes_eq text name ≡ false
another text name d n = not_true (bytes_eq text name) (λ e. clash (begins_with_digit name) (subst (λ t. begins_with_digit t ≡ true) ((bytes_eq-Decides text name).0 e) d) n)

none_named : (rows : List Named) (text : List ℕ) → list_all (λ r. not (begins_with_digit r.0)) rows ≡ true → begins_with_digit text ≡ true → named rows text ≡ None
none_named [] text a d = refl
none_named (row ∷ rows) text a d =
    let parts = and_parts _ _ a in
    rw (another text row.0 d parts.0) (none_named rows text parts.1 d)

pub no_service : (text : List ℕ) → begins_with_digit text ≡ true → named services text ≡ None
no_service text d = none_named services text refl d

pub no_protocol : (text : List ℕ) → begins_with_digit text ≡ true → named protocols text ≡ None
no_protocol text d = none_named protocols text refl d
