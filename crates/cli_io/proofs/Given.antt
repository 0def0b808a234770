-- What is given with a subcommand, of arguments that were parsed or refused, and how a run ends that is out of memory.
use Rattle.std.proofs.Common.{◌≡◌, ◌⊎◌, ℕ, true, List, [], ◌∷◌, Option, None, inl, inr, refl, ap, subst, sym, codes}
use Rattle.std.specs.Io.KnownBytes.{Appends}
use Rattle.clap.specs.Words.{App, HasMatchesOf, Row, Text, is_simple, kind_of, subcommand_of, subcommand_rows_of}
use Rattle.clap.specs.Faults.{fault_of, is_simple_and_free}
use Rattle.clap.specs.Kinds.{Kinds, HasKind}
use Rattle.clap.specs.declared.error.Error.{Error}
use Rattle.clap.specs.declared.error.kind.ErrorKind.TheVariants.{OutOfMemory}
use Rattle.clap.specs.declared.parser.matches.ArgMatches.{ArgMatches}
use Rattle.cli_io.specs.declared.status.Status.{Status}
use Rattle.cli_io.specs.declared.status.Status.TheVariants as status
use Rattle.cli_io.specs.Given.{given_in, unless_faulty, subcommand_given, given_with}
use Rattle.cli_io.specs.Written.{line, AppendsFront, IsMisused, RanOut}

-- a front of `memory` was written
abbrev MemoryFront : (old new : Option (List ℕ)) → Type 0
MemoryFront old new = AppendsFront old new (line (codes "memory"))

-- ---- out of memory

pub ran_out : (s : Status) (old new : Option (List ℕ)) → (s ≡ status.Failed) ⊎ ((s ≡ status.Memory) × Appends old new (line (codes "memory"))) →
    (s ≡ status.Failed → MemoryFront old new) → RanOut s old new
ran_out s old new h f = elim h [
  | inl e ↦ subst (λ r. RanOut r old new) (sym e) (f e)
  | inr both ↦ subst (λ r. RanOut r old new) (sym both.0) both.1
]

pub misused_out : (s : Status) (old new : Option (List ℕ)) → RanOut s old new → IsMisused s old new
misused_out status.Done old new h = h
misused_out status.Refused old new h = h
misused_out status.Usage old new h = tt
misused_out status.Memory old new h = h
misused_out status.Failed old new h = tt

pub out_of_misuse : (s : Status) (old new : Option (List ℕ)) → IsMisused s old new → (s ≡ status.Usage → ⊥) → (s ≡ status.Failed → MemoryFront old new) → RanOut s old new
out_of_misuse status.Done old new h k f = h
out_of_misuse status.Refused old new h k f = h
out_of_misuse status.Usage old new h k f = k refl
out_of_misuse status.Memory old new h k f = h
out_of_misuse status.Failed old new h k f = f refl

-- ---- what clap gives for a command that is the program's

pub kinds_of : (program a : App) (arguments : List Text) (e : Error) → is_simple_and_free program ≡ true → a ≡ program →
    (is_simple_and_free a ≡ true → HasKind (fault_of a arguments) e) → HasKind (fault_of program arguments) e
kinds_of program a arguments e free same h = let Q : App → Type 0 = λ b. is_simple_and_free b ≡ true → HasKind (fault_of b arguments) e in subst Q same h free

passes : (program a : App) (arguments : List Text) → is_simple_and_free program ≡ true → a ≡ program →
    (is_simple_and_free a ≡ true → fault_of a arguments ≡ []) → fault_of program arguments ≡ []
passes program a arguments free same h = let Q : App → Type 0 = λ b. is_simple_and_free b ≡ true → fault_of b arguments ≡ [] in subst Q same h free

has_rows : (program a : App) (arguments : List Text) (m : ArgMatches) → is_simple program ≡ true → a ≡ program → HasMatchesOf a arguments m →
    subcommand_rows_of m ≡ subcommand_of program arguments
has_rows program a arguments m simple same h = let Q : App → Type 0 = λ b. HasMatchesOf b arguments m in (subst Q same h simple).1

entered : (program : App) (arguments : List Text) (m : ArgMatches) → fault_of program arguments ≡ [] →
    subcommand_rows_of m ≡ subcommand_of program arguments → subcommand_given program arguments ≡ subcommand_rows_of m
unfolding subcommand_given
entered program arguments m e f = rw (e, f) refl

-- the subcommand of arguments that are parsed, and what is given with it
pub subcommand_parsed : (program a : App) (arguments : List Text) (m : ArgMatches) → is_simple_and_free program ≡ true → is_simple program ≡ true →
    a ≡ program → (is_simple_and_free a ≡ true → fault_of a arguments ≡ []) → HasMatchesOf a arguments m → subcommand_given program arguments ≡ subcommand_rows_of m
subcommand_parsed program a arguments m free simple same kinds matches =
    entered program arguments m (passes program a arguments free same kinds) (has_rows program a arguments m simple same matches)

pub given_parsed : (program a : App) (name : Text) (arguments : List Text) (m : ArgMatches) → is_simple_and_free program ≡ true → is_simple program ≡ true →
    a ≡ program → (is_simple_and_free a ≡ true → fault_of a arguments ≡ []) → HasMatchesOf a arguments m →
    given_with program name arguments ≡ given_in name (subcommand_rows_of m)
given_parsed program a name arguments m free simple same kinds matches =
    ap (λ s. given_in name s) (subcommand_parsed program a arguments m free simple same kinds matches)

-- ---- arguments that clap refuses

refused_by : (R : Option (Text × List Row) → Type 0) (kinds : Kinds) (subcommand : Option (Text × List Row)) (e : Error) → HasKind kinds e → R None →
    (kind_of e ≡ OutOfMemory → R subcommand) → R (unless_faulty kinds subcommand)
refused_by R [] subcommand e k none out = elim k as (λ _. R subcommand) [
  | inl m ↦ out m
  | inr bad ↦ absurd bad
]
refused_by R (x ∷ xs) subcommand e k none out = none

-- what holds where no subcommand is given, and of each when out of memory, holds of the one that is given
pub subcommand_refused : (R : Option (Text × List Row) → Type 0) (program : App) (arguments : List Text) (e : Error) →
    HasKind (fault_of program arguments) e → R None → (kind_of e ≡ OutOfMemory → (subcommand : Option (Text × List Row)) → R subcommand) →
    R (subcommand_given program arguments)
unfolding subcommand_given
subcommand_refused R program arguments e k none out =
    let subcommand = subcommand_of program arguments in
    refused_by R (fault_of program arguments) subcommand e k none (λ m. out m subcommand)

pub given_refused : (R : Option (List Row) → Type 0) (program : App) (name : Text) (arguments : List Text) (e : Error) →
    HasKind (fault_of program arguments) e → R None → (kind_of e ≡ OutOfMemory → (given : Option (List Row)) → R given) →
    R (given_with program name arguments)
given_refused R program name arguments e k none out =
    subcommand_refused (λ s. R (given_in name s)) program arguments e k none (λ m s. out m (given_in name s))
