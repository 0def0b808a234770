-- How a run ends whose arguments aren't understood, or that was out of memory, and at which control socket one asks.
use Rattle.std.proofs.Common.{◌≡◌, ℕ, true, List, [], ◌∷◌, Option, Some, None, inl, inr, refl, subst, codes}
use Rattle.clap.specs.Words.{App, HasMatchesOf, Row, Text, first_of, is_simple, kind_of, subcommand_rows_of}
use Rattle.clap.specs.Faults.{fault_of, is_simple_and_free}
use Rattle.clap.specs.Kinds.{HasKind}
use Rattle.clap.specs.declared.error.Error.{Error}
use Rattle.clap.specs.declared.error.kind.ErrorKind.TheVariants.{OutOfMemory}
use Rattle.clap.specs.declared.parser.matches.ArgMatches.{ArgMatches}
use Rattle.cli_io.specs.Given.{given_in}
use Rattle.cli_io.specs.Written.{line, AppendsFront, IsMisused, RanOut}
use Rattle.cli_io.specs.declared.status.Status.{Status}
use Rattle.cli_io.specs.declared.status.Status.TheVariants as status
use Rattle.cli_io.proofs.Given as parsed
use Rattle.cli_ask.specs.Arguments.{pfx_app, given_of}
use Rattle.cli_ask.specs.Asking.{Event, Directed, Adds}
use Rattle.cli_ask.specs.Outcomes.{Runs, Wrote, refusal}
use Rattle.cli_ask.specs.Running.{Ran}
use Rattle.cli_ask.specs.declared.outcome.Outcome.{Outcome}
use Rattle.cli_ask.proofs.Series.{adds_nothing}

-- ---- the program's command

simple_and_free : is_simple_and_free pfx_app ≡ true
simple_and_free = refl

simple : is_simple pfx_app ≡ true
simple = refl

-- what is given of arguments that are parsed
pub given_parsed : (a : App) (arguments : List Text) (m : ArgMatches) → a ≡ pfx_app → (is_simple_and_free a ≡ true → fault_of a arguments ≡ []) → HasMatchesOf a arguments m →
    given_of arguments ≡ given_in (codes "ask") (subcommand_rows_of m)
given_parsed a arguments m same kinds matches = parsed.given_parsed pfx_app a (codes "ask") arguments m simple_and_free simple same kinds matches

-- ---- arguments that clap refuses, and out of memory

-- whatever is given
over : {P : Type 0} (answers_at : P → Text → Type 0) (exchanged : P → List Event → Type 0) (peer : P) (is_text : Text → List ℕ → Type 0)
    (s : Status) (old new : Option (List ℕ)) → RanOut s old new → (rows : Option (List Row)) → Ran answers_at exchanged peer peer rows is_text s old new
over answers_at exchanged peer is_text s old new h None = (adds_nothing (exchanged peer), parsed.misused_out s old new h)
over answers_at exchanged peer is_text s old new h (Some rows) = inl (adds_nothing (exchanged peer), h)

pub given_refused : {P : Type 0} (answers_at : P → Text → Type 0) (exchanged : P → List Event → Type 0) (peer : P) (a : App) (arguments : List Text) (e : Error)
    (is_text : Text → List ℕ → Type 0) (s : Status) (old new : Option (List ℕ)) → a ≡ pfx_app → (is_simple_and_free a ≡ true → HasKind (fault_of a arguments) e) →
    IsMisused s old new → (kind_of e ≡ OutOfMemory → s ≡ status.Usage → ⊥) → (kind_of e ≡ OutOfMemory → s ≡ status.Failed → AppendsFront old new (line (codes "memory"))) →
    Ran answers_at exchanged peer peer (given_of arguments) is_text s old new
given_refused answers_at exchanged peer a arguments e is_text s old new same kinds h none failed =
    parsed.given_refused (λ rows. Ran answers_at exchanged peer peer rows is_text s old new) pfx_app (codes "ask") arguments e
    (parsed.kinds_of pfx_app a arguments e simple_and_free same kinds) (adds_nothing (exchanged peer), h)
    (λ m. over answers_at exchanged peer is_text s old new (parsed.out_of_misuse s old new h (none m) (failed m)))

-- ---- arguments that are understood

-- without a path
pub nowhere : {P : Type 0} (answers_at : P → Text → Type 0) (exchanged : P → List Event → Type 0) (peer : P) (given : Option (List Row)) (rows : List Row)
    (is_text : Text → List ℕ → Type 0) (s : Status) (outcome : Outcome) (old new : Option (List ℕ)) → given ≡ Some rows → first_of (codes "control") rows ≡ None →
    outcome ≡ refusal 40 → Wrote s outcome old new → Ran answers_at exchanged peer peer given is_text s old new
nowhere answers_at exchanged peer given rows is_text s outcome old new e n is w =
    let wrote = subst (λ (o : Outcome). Wrote s o old new) is w in
    rw e (inr (rw n (adds_nothing (exchanged peer), wrote)))

-- at the control socket at a path
pub at_path : {P : Type 0} (answers_at : P → Text → Type 0) (exchanged : P → List Event → Type 0) (before directed after : P) (given : Option (List Row)) (rows : List Row)
    (path : Text) (is_text : Text → List ℕ → Type 0) (s : Status) (old new : Option (List ℕ)) → given ≡ Some rows → first_of (codes "control") rows ≡ Some path →
    answers_at directed path → Adds (exchanged before) (exchanged directed) (Directed path ∷ []) → Runs (exchanged directed) (exchanged after) rows is_text s old new →
    Ran answers_at exchanged before after given is_text s old new
at_path answers_at exchanged before directed after given rows path is_text s old new e p there alone ran =
    rw e (inr (rw p (record { directed = directed; there = there; alone = alone; ran = ran })))
