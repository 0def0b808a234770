-- What a run has written, and how one ends whose arguments aren't understood.
use Rattle.std.proofs.Common.{◌≡◌, ◌∙◌, ◌⊎◌, List, [], ℕ, Option, None, Some, true, false, inl, inr, refl, ap, subst, codes}
use Rattle.std.specs.Prelude.{IfSome}
use Rattle.std.specs.Io.KnownBytes.{Appends}
use Rattle.clap.specs.Words.{App, Row, Text, HasMatchesOf, first_of, is_simple, kind_of, subcommand_rows_of}
use Rattle.clap.specs.Faults.{fault_of, is_simple_and_free}
use Rattle.clap.specs.Kinds.{HasKind}
use Rattle.clap.specs.declared.error.Error.{Error}
use Rattle.clap.specs.declared.error.kind.ErrorKind.TheVariants.{OutOfMemory}
use Rattle.clap.specs.declared.parser.matches.ArgMatches.{ArgMatches}
use Rattle.nft_rules.specs.declared.guard.Member.{Member}
use Rattle.cli_io.specs.Given.{given_in}
use Rattle.cli_io.specs.Sources.{IsAt}
use Rattle.cli_io.specs.Written.{line, AppendsFront, IsMisused, RanOut}
use Rattle.cli_io.specs.declared.status.Status.{Status}
use Rattle.cli_io.specs.declared.status.Status.TheVariants as status
use Rattle.cli_io.proofs.Given as parsed
use Rattle.cli_nft.specs.Outputs.{Written, output}
use Rattle.cli_nft.specs.Running.{Wrote, Ran}
use Rattle.cli_nft.specs.Options.{nft_app, given_of, members_named, position_named}

-- ---- the program's command

simple_and_free : is_simple_and_free nft_app ≡ true
simple_and_free = refl

simple : is_simple nft_app ≡ true
simple = refl

-- what is given of arguments that are parsed
pub given_parsed : (a : App) (arguments : List Text) (m : ArgMatches) → a ≡ nft_app → (is_simple_and_free a ≡ true → fault_of a arguments ≡ []) → HasMatchesOf a arguments m →
    given_of arguments ≡ given_in (codes "check") (subcommand_rows_of m)
given_parsed a arguments m same kinds matches = parsed.given_parsed nft_app a (codes "check") arguments m simple_and_free simple same kinds matches

-- ---- arguments that clap refuses, and out of memory

-- whatever is given
over : (has : Text → Text → Type 0) (s : Status) (input old new : Option (List ℕ)) → RanOut s old new → (given : Option (List Row)) → Ran has given s input old new
over has s input old new h None = parsed.misused_out s old new h
over has s input old new h (Some rows) = inl h

pub memory_over : (has : Text → Text → Type 0) (given : Option (List Row)) (s : Status) (input old new : Option (List ℕ)) →
    (s ≡ status.Failed) ⊎ ((s ≡ status.Memory) × Appends old new (line (codes "memory"))) → (s ≡ status.Failed → AppendsFront old new (line (codes "memory"))) →
    Ran has given s input old new
memory_over has given s input old new h f = over has s input old new (parsed.ran_out s old new h f) given

pub given_refused : (has : Text → Text → Type 0) (a : App) (arguments : List Text) (e : Error) (s : Status) (input old new : Option (List ℕ)) → a ≡ nft_app →
    (is_simple_and_free a ≡ true → HasKind (fault_of a arguments) e) → IsMisused s old new → (kind_of e ≡ OutOfMemory → s ≡ status.Usage → ⊥) →
    (kind_of e ≡ OutOfMemory → s ≡ status.Failed → AppendsFront old new (line (codes "memory"))) → Ran has (given_of arguments) s input old new
given_refused has a arguments e s input old new same kinds h none failed =
    parsed.given_refused (λ rows. Ran has rows s input old new) nft_app (codes "check") arguments e
    (parsed.kinds_of nft_app a arguments e simple_and_free same kinds) h
    (λ m. over has s input old new (parsed.out_of_misuse s old new h (none m) (failed m)))

-- ---- arguments that are understood

-- what was written of the file, the members and the position that are given
pub ran_by : (has : Text → Text → Type 0) (given : Option (List Row)) (rows : List Row) (file : Option (List ℕ)) (ms : Option (List Member)) (position : ℕ) (s : Status)
    (input old new : Option (List ℕ)) → given ≡ Some rows → IsAt has (first_of (codes "interfaces") rows) file → ms ≡ members_named rows →
    position ≡ position_named rows → Wrote file ms position s input old new → Ran has given s input old new
ran_by has given rows file ms position s input old new g t e p w = rw g (inr (record {
  file = file;
  there = t;
  wrote = subst (λ (m : Option (List Member)). Wrote file m (position_named rows) s input old new) e (subst (λ (n : ℕ). Wrote file ms n s input old new) p w);
}))

-- ---- what is written of the input

-- what was read gives this output
of_input : (file : Option (List ℕ)) (ms : Option (List Member)) (position : ℕ) (w : Written) (all bytes items : List ℕ) →
    w ≡ output file ms position bytes → bytes ≡ items → items ≡ all → w ≡ output file ms position all
of_input file ms position w all bytes items is e same = is ∙ ap (output file ms position) (e ∙ same)

pub refused_written : (file : Option (List ℕ)) (ms : Option (List Member)) (position : ℕ) (w : Written) (input old new : Option (List ℕ)) (bytes items text : List ℕ) →
    w ≡ output file ms position bytes → bytes ≡ items → IfSome input (λ all. items ≡ all) → text ≡ w.text → w.refused ≡ true → Appends old new text →
    Wrote file ms position status.Refused input old new
refused_written file ms position w None old new bytes items text is e same t r h = tt
refused_written file ms position w (Some all) old new bytes items text is e same t r h =
    let o = of_input file ms position w all bytes items is e same in
    (subst (λ (v : Written). v.refused ≡ true) o r, subst (λ (v : Written). Appends old new v.text) o (subst (λ (b : List ℕ). Appends old new b) t h))

pub lines_written : (file : Option (List ℕ)) (ms : Option (List Member)) (position : ℕ) (w : Written) (input old new : Option (List ℕ)) (bytes items text : List ℕ) →
    w ≡ output file ms position bytes → bytes ≡ items → IfSome input (λ all. items ≡ all) → text ≡ w.text → w.refused ≡ false → Appends old new text →
    Wrote file ms position status.Done input old new
lines_written file ms position w None old new bytes items text is e same t r h = tt
lines_written file ms position w (Some all) old new bytes items text is e same t r h =
    let o = of_input file ms position w all bytes items is e same in
    (subst (λ (v : Written). v.refused ≡ false) o r, subst (λ (v : Written). Appends old new v.text) o (subst (λ (b : List ℕ). Appends old new b) t h))

pub front_written : (file : Option (List ℕ)) (ms : Option (List Member)) (position : ℕ) (w : Written) (input old new : Option (List ℕ)) (bytes items text : List ℕ) →
    w ≡ output file ms position bytes → bytes ≡ items → IfSome input (λ all. items ≡ all) → text ≡ w.text → AppendsFront old new text →
    Wrote file ms position status.Failed input old new
front_written file ms position w None old new bytes items text is e same t h = inr tt
front_written file ms position w (Some all) old new bytes items text is e same t h =
    let o = of_input file ms position w all bytes items is e same in
    inr (subst (λ (v : Written). AppendsFront old new v.text) o (subst (λ (b : List ℕ). AppendsFront old new b) t h))
