-- What clap says of pfctl's words.
use Rattle.std.proofs.Common.{◌≡◌, true, List, Some, None, [], ◌∷◌, inl, inr, refl, subst}
use Rattle.clap.specs.Words.{App, HasMatchesOf, is_simple, matches_of, kind_of, Row, Text, rows_of, found_of}
use Rattle.clap.specs.Faults.{fault_of, is_simple_and_free}
use Rattle.clap.specs.Kinds.{Kinds, HasKind}
use Rattle.clap.specs.declared.error.Error.{Error}
use Rattle.clap.specs.declared.error.kind.ErrorKind.TheVariants.{OutOfMemory}
use Rattle.clap.specs.declared.parser.matches.ArgMatches.{ArgMatches}
use Rattle.pf_arguments.specs.Options.{pfctl_app}
use Rattle.pf_scripts.specs.Ctl.{rows_in, rows_unless}

simple_and_free : is_simple_and_free pfctl_app ≡ true
simple_and_free = refl

simple : is_simple pfctl_app ≡ true
simple = refl

-- words that clap takes have its rows
pub rows_accepted : (a : App) (words : List Text) (m : ArgMatches) → a ≡ pfctl_app → (is_simple_and_free a ≡ true → fault_of a words ≡ []) → HasMatchesOf a words m → Some (rows_of (found_of m)) ≡ rows_in words
unfolding rows_in
rows_accepted a words m same h k =
    let P : App → Type 0 = λ b. is_simple_and_free b ≡ true → fault_of b words ≡ [] in
    let Q : App → Type 0 = λ b. HasMatchesOf b words m in
    rw (subst P same h simple_and_free, (subst Q same k simple).0) refl

none_among : (kinds : Kinds) (e : Error) (rows : List Row) → HasKind kinds e → (kind_of e ≡ OutOfMemory → ⊥) → None ≡ rows_unless kinds rows
none_among [] e rows h k = elim h as (λ _. None ≡ Some rows) [ inl m ↦ absurd (k m) | inr bad ↦ absurd bad ]
none_among (x ∷ xs) e rows h k = refl

-- words that clap refuses have none
pub rows_refused : (a : App) (words : List Text) (e : Error) → a ≡ pfctl_app → (is_simple_and_free a ≡ true → HasKind (fault_of a words) e) → (kind_of e ≡ OutOfMemory → ⊥) → None ≡ rows_in words
unfolding rows_in
rows_refused a words e same h k =
    let P : App → Type 0 = λ b. is_simple_and_free b ≡ true → HasKind (fault_of b words) e in
    none_among (fault_of pfctl_app words) e (matches_of pfctl_app words) (subst P same h simple_and_free) k
