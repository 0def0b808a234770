-- The program's command, and what a run does whose arguments aren't understood, or that is out of memory.
use Rattle.std.proofs.Common.{◌≡◌, ℕ, Bool, true, false, List, [], Option, Some, None, inl, inr, refl, codes}
use Rattle.std.specs.Prelude.{not}
use Rattle.clap.specs.Words.{App, HasMatchesOf, Row, Text, is_simple, kind_of, subcommand_rows_of, with_subcommand}
use Rattle.clap.specs.Faults.{fault_of, is_simple_and_free}
use Rattle.clap.specs.Kinds.{HasKind}
use Rattle.clap.specs.declared.error.Error.{Error}
use Rattle.clap.specs.declared.error.kind.ErrorKind.TheVariants.{OutOfMemory}
use Rattle.clap.specs.declared.parser.matches.ArgMatches.{ArgMatches}
use Rattle.cli_io.specs.Written.{line, AppendsFront, IsMisused}
use Rattle.cli_io.specs.declared.status.Status.{Status}
use Rattle.cli_io.specs.declared.status.Status.TheVariants as status
use Rattle.cli_io.proofs.Given as parsed
use Rattle.cli_node.specs.Arguments.{net_app, names_config, given_of}
use Rattle.cli_node.specs.Outcomes.{Wrote}
use Rattle.cli_node.specs.Running.{OutcomeBy, IsOutcome, Ran}
use Rattle.cli_node.specs.declared.outcome.Outcome.{Outcome}

-- ---- the command

pub with_sub : (a so_far s is : App) → a ≡ so_far → s ≡ is → with_subcommand a s.top ≡ with_subcommand so_far is.top
with_sub a so_far s is e f = rw (e, f) refl

simple_and_free : (is_needed : Bool) → is_simple_and_free (net_app is_needed) ≡ true
simple_and_free true = refl
simple_and_free false = refl

simple : (is_needed : Bool) → is_simple (net_app is_needed) ≡ true
simple true = refl
simple false = refl

-- the subcommand of arguments that are parsed
pub given_parsed : (a : App) (arguments : List Text) (m : ArgMatches) → a ≡ net_app (not (names_config arguments)) →
    (is_simple_and_free a ≡ true → fault_of a arguments ≡ []) → HasMatchesOf a arguments m → given_of arguments ≡ subcommand_rows_of m
given_parsed a arguments m same kinds matches =
    let is_needed = not (names_config arguments) in
    parsed.subcommand_parsed (net_app is_needed) a arguments m (simple_and_free is_needed) (simple is_needed) same kinds matches

-- ---- arguments that clap refuses, and out of memory

pub given_refused : (runs_none asks_none makes_none : Type 0) (node key ask : List Row → Outcome → Type 0) (a : App) (arguments : List Text) (e : Error) (s : Status)
    (old new : Option (List ℕ)) → runs_none → asks_none → makes_none → a ≡ net_app (not (names_config arguments)) →
    (is_simple_and_free a ≡ true → HasKind (fault_of a arguments) e) → IsMisused s old new → (kind_of e ≡ OutOfMemory → s ≡ status.Usage → ⊥) →
    (kind_of e ≡ OutOfMemory → s ≡ status.Failed → AppendsFront old new (line (codes "memory"))) →
    Ran runs_none asks_none makes_none node key ask (given_of arguments) s old new
given_refused runs_none asks_none makes_none node key ask a arguments e s old new r q t same kinds h none failed =
    let is_needed = not (names_config arguments) in
    parsed.subcommand_refused (λ given. Ran runs_none asks_none makes_none node key ask given s old new) (net_app is_needed) arguments e
    (parsed.kinds_of (net_app is_needed) a arguments e (simple_and_free is_needed) same kinds) (inr (None, ((r, (q, t)), h)))
    (λ m given. inl ((r, (q, t)), parsed.out_of_misuse s old new h (none m) (failed m)))

-- ---- the subcommands

pub node_given : (runs_none asks_none makes_none : Type 0) (node key ask : List Row → Outcome → Type 0) (of_node of_key of_ask : Option (List Row)) (rows : List Row) (o : Outcome) →
    of_node ≡ Some rows → asks_none → makes_none → node rows o → OutcomeBy runs_none asks_none makes_none node key ask of_node of_key of_ask (Some o)
node_given runs_none asks_none makes_none node key ask of_node of_key of_ask rows o e q t h = rw e ((q, t), h)

-- what was given is written
pub written : (runs_none asks_none makes_none : Type 0) (node key ask : List Row → Outcome → Type 0) (given subcommand : Option (Text × List Row)) (o : Outcome) (s : Status)
    (old new : Option (List ℕ)) → given ≡ subcommand → IsOutcome runs_none asks_none makes_none node key ask subcommand (Some o) → Wrote s o old new →
    Ran runs_none asks_none makes_none node key ask given s old new
written runs_none asks_none makes_none node key ask given subcommand o s old new e h w = rw e (inr (Some o, (h, w)))

pub unwritten : (runs_none asks_none makes_none : Type 0) (node key ask : List Row → Outcome → Type 0) (given subcommand : Option (Text × List Row)) (old : Option (List ℕ)) →
    given ≡ subcommand → IsOutcome runs_none asks_none makes_none node key ask subcommand None → Ran runs_none asks_none makes_none node key ask given status.Usage old old
unwritten runs_none asks_none makes_none node key ask given subcommand old e h = rw e (inr (None, (h, tt)))
