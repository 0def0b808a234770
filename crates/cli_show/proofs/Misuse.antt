-- How a run ends whose arguments aren't understood, or that was out of memory, and what one gives whose are.
use Rattle.std.proofs.Common.{◌≡◌, ℕ, true, List, [], Option, Some, None, Result, inl, inr, refl, codes}
use Rattle.clap.specs.Words.{App, HasMatchesOf, Row, Text, is_simple, kind_of, subcommand_rows_of}
use Rattle.clap.specs.Faults.{fault_of, is_simple_and_free}
use Rattle.clap.specs.Kinds.{HasKind}
use Rattle.clap.specs.declared.error.Error.{Error}
use Rattle.clap.specs.declared.error.kind.ErrorKind.TheVariants.{OutOfMemory}
use Rattle.clap.specs.declared.parser.matches.ArgMatches.{ArgMatches}
use Rattle.cli_io.specs.Given.{given_in}
use Rattle.cli_io.specs.Written.{line, AppendsFront, IsMisused, RanOut}
use Rattle.cli_io.specs.declared.status.Status.{Status}
use Rattle.cli_io.specs.declared.status.Status.TheVariants as status
use Rattle.cli_io.proofs.Given as parsed
use Rattle.cli_show.specs.Arguments.{pfx_app, given_of}
use Rattle.cli_show.specs.Outcomes.{Wrote}
use Rattle.cli_show.specs.Running.{Asks, Ran}
use Rattle.cli_show.specs.declared.outcome.Outcome.{Outcome}
use Rattle.cli_show.specs.declared.shown.Shown.{Shown}
use Rattle.cli_show.specs.declared.shown.Wanted.{Wanted}
use Rattle.cli_show.specs.declared.store.Closed.{Closed}

-- ---- the program's command

simple_and_free : is_simple_and_free pfx_app ≡ true
simple_and_free = refl

simple : is_simple pfx_app ≡ true
simple = refl

-- what is given of arguments that are parsed
pub given_parsed : (a : App) (arguments : List Text) (m : ArgMatches) → a ≡ pfx_app → (is_simple_and_free a ≡ true → fault_of a arguments ≡ []) → HasMatchesOf a arguments m →
    given_of arguments ≡ given_in (codes "show") (subcommand_rows_of m)
given_parsed a arguments m same kinds matches = parsed.given_parsed pfx_app a (codes "show") arguments m simple_and_free simple same kinds matches

-- ---- arguments that clap refuses, and out of memory

-- whatever is given
over : (answers : Text → Wanted → Result Shown Closed → Type 0) (has : Text → Text → Type 0) (s : Status) (old new : Option (List ℕ)) → RanOut s old new →
    (given : Option (List Row)) → Ran answers has given s old new
over answers has s old new h None = parsed.misused_out s old new h
over answers has s old new h (Some rows) = inl h

pub given_refused : (answers : Text → Wanted → Result Shown Closed → Type 0) (has : Text → Text → Type 0) (a : App) (arguments : List Text) (e : Error) (s : Status) (old new : Option (List ℕ)) →
    a ≡ pfx_app → (is_simple_and_free a ≡ true → HasKind (fault_of a arguments) e) → IsMisused s old new → (kind_of e ≡ OutOfMemory → s ≡ status.Usage → ⊥) →
    (kind_of e ≡ OutOfMemory → s ≡ status.Failed → AppendsFront old new (line (codes "memory"))) → Ran answers has (given_of arguments) s old new
given_refused answers has a arguments e s old new same kinds h none failed =
    parsed.given_refused (λ given. Ran answers has given s old new) pfx_app (codes "show") arguments e
    (parsed.kinds_of pfx_app a arguments e simple_and_free same kinds) h
    (λ m. over answers has s old new (parsed.out_of_misuse s old new h (none m) (failed m)))

-- ---- arguments that are understood

-- what they ask for is written
pub written : (answers : Text → Wanted → Result Shown Closed → Type 0) (has : Text → Text → Type 0) (given : Option (List Row)) (rows : List Row) (o : Outcome) (s : Status) (old new : Option (List ℕ)) →
    given ≡ Some rows → Asks answers has rows o → Wrote s o old new → Ran answers has given s old new
written answers has given rows o s old new e a w = rw e (inr (o, (a, w)))
