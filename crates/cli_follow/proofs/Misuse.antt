-- How a run ends whose arguments aren't understood, or that was out of memory, and at which control socket one follows.
use Rattle.std.proofs.Common.{◌≡◌, ◌⊎◌, ℕ, true, List, [], Option, Some, None, inl, inr, refl, codes}
use Rattle.std.proofs.KnownBytes.{Appends-nil}
use Rattle.clap.specs.Words.{App, HasMatchesOf, Row, Text, first_of, one_of, is_simple, kind_of, subcommand_rows_of}
use Rattle.clap.specs.Faults.{fault_of, is_simple_and_free}
use Rattle.clap.specs.Kinds.{HasKind}
use Rattle.clap.specs.declared.error.Error.{Error}
use Rattle.clap.specs.declared.error.kind.ErrorKind.TheVariants.{OutOfMemory}
use Rattle.clap.specs.declared.parser.matches.ArgMatches.{ArgMatches}
use Rattle.cli_io.specs.declared.status.Status.{Status}
use Rattle.cli_io.specs.Written.{IsMisused}
use Rattle.cli_io.specs.Given.{given_in}
use Rattle.cli_io.proofs.Given as parsed
use Rattle.cli_follow.specs.Arguments.{pfx_app, given_of}
use Rattle.cli_follow.specs.Exchanges.{Exchange, Adds}
use Rattle.cli_follow.specs.Files.{Act}
use Rattle.cli_follow.specs.Places.{AreTurns, FollowedBy, IsNoEnding}
use Rattle.cli_follow.specs.Running.{RanOut, Ran}

-- ---- out of memory

-- whatever is given
pub memory_over : {P : Type 0} (answers_at : Text → P → Type 0) (exchanged : P → List Exchange → Type 0) (u v : List Act → Type 0) (has : Text → Text → Type 0) (given : Option (List Row)) (s : Status)
    (old new : Option (List ℕ)) → Adds u v [] → RanOut s old new → Ran answers_at exchanged u v has given s old new
memory_over answers_at exchanged u v has None s old new still h = (still, inl h)
memory_over answers_at exchanged u v has (Some rows) s old new still h = inl (still, h)

-- ---- the program's command

simple_and_free : is_simple_and_free pfx_app ≡ true
simple_and_free = refl

simple : is_simple pfx_app ≡ true
simple = refl

-- what is given of arguments that are parsed
pub given_parsed : (a : App) (arguments : List Text) (m : ArgMatches) → a ≡ pfx_app → (is_simple_and_free a ≡ true → fault_of a arguments ≡ []) → HasMatchesOf a arguments m →
    given_of arguments ≡ given_in (codes "follow") (subcommand_rows_of m)
given_parsed a arguments m same kinds matches = parsed.given_parsed pfx_app a (codes "follow") arguments m simple_and_free simple same kinds matches

-- ---- arguments that clap refuses

pub given_refused : {P : Type 0} (answers_at : Text → P → Type 0) (exchanged : P → List Exchange → Type 0) (u v : List Act → Type 0) (has : Text → Text → Type 0) (a : App) (arguments : List Text) (e : Error)
    (s : Status) (old new : Option (List ℕ)) → Adds u v [] → a ≡ pfx_app → (is_simple_and_free a ≡ true → HasKind (fault_of a arguments) e) →
    RanOut s old new ⊎ IsMisused s old new → (kind_of e ≡ OutOfMemory → RanOut s old new) → Ran answers_at exchanged u v has (given_of arguments) s old new
given_refused answers_at exchanged u v has a arguments e s old new still same kinds h none =
    parsed.given_refused (λ rows. Ran answers_at exchanged u v has rows s old new) pfx_app (codes "follow") arguments e
    (parsed.kinds_of pfx_app a arguments e simple_and_free same kinds) (still, h)
    (λ m rows. memory_over answers_at exchanged u v has rows s old new still (none m))

-- ---- arguments that are understood

-- without a path
pub nowhere : {P : Type 0} (answers_at : Text → P → Type 0) (exchanged : P → List Exchange → Type 0) (u v : List Act → Type 0) (has : Text → Text → Type 0) (given : Option (List Row)) (rows : List Row) (s : Status)
    (a : Option (List ℕ)) → Adds u v [] → given ≡ Some rows → first_of (codes "control") rows ≡ None → IsNoEnding s → Ran answers_at exchanged u v has given s a a
nowhere answers_at exchanged u v has given rows s a still e n is = rw e (inr (rw n (is, (Appends-nil a, still))))

-- at the control socket at a path
pub at_path : {P : Type 0} (answers_at : Text → P → Type 0) (exchanged : P → List Exchange → Type 0) (u v : List Act → Type 0) (has : Text → Text → Type 0) (given : Option (List Row)) (rows : List Row) (path : Text) (s : Status)
    (old new : Option (List ℕ)) (before after : P) → given ≡ Some rows → first_of (codes "control") rows ≡ Some path → answers_at path before →
    ((turns : ℕ) × (AreTurns (one_of (codes "turns") rows) turns × FollowedBy (exchanged before) (exchanged after) u v has rows turns s old new)) →
    Ran answers_at exchanged u v has given s old new
at_path answers_at exchanged u v has given rows path s old new before after e p there (turns, (counted, followed)) =
    rw e (inr (rw p (record { before = before; after = after; turns = turns; there = there; counted = counted; followed = followed })))
