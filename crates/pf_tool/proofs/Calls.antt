-- The subcommand that a parse entered.
use Rattle.std.proofs.Common.{◌≡◌, ℕ, true, false, List, Option, Some, None, [], ◌∷◌, inl, inr, refl, subst, sym, ◌⊎◌, codes}
use Rattle.clap.specs.Words.{Text, subcommand_rows_of}
use Rattle.clap.specs.declared.parser.matches.ArgMatches.{ArgMatches}
use Rattle.clap.specs.Words.{App, HasMatchesOf, is_simple, subcommand_of, kind_of}
use Rattle.clap.specs.Faults.{fault_of, is_simple_and_free}
use Rattle.clap.specs.Kinds.{Kinds, HasKind}
use Rattle.clap.specs.declared.error.Error.{Error}
use Rattle.clap.specs.declared.error.kind.ErrorKind.TheVariants.{OutOfMemory}
use Rattle.cli_io.specs.declared.status.Status.{Status}
use Rattle.cli_io.specs.declared.status.Status.TheVariants as status
use Rattle.cli_io.specs.Written.{IsMisused, AppendsFront, line}
use Rattle.pf_tool.specs.Options.{pfx_app, CallValue, called, unless_faulty, call_of, names_other}
use Rattle.cli_io.specs.declared.paragraph.Explanation.{Explanation}
use Rattle.std.proofs.KnownBytes.{Appends-nil}
use Rattle.pf_tool.specs.declared.reporting.Level.{Level}
use Rattle.pf_tool.specs.Tool.{Ran, Reported}

-- a parse that passes gives what is called
pub call_entered : (table : List Explanation) (arguments : List Text) (m : ArgMatches) → names_other arguments ≡ false → fault_of pfx_app arguments ≡ []
    → subcommand_rows_of m ≡ subcommand_of pfx_app arguments → call_of table arguments ≡ called table (subcommand_rows_of m)
unfolding call_of
call_entered table arguments m o e f = rw (o, e, f) refl

-- a front of `memory` was written
abbrev MemoryFront : (old new : Option (List ℕ)) → Type 0
MemoryFront old new = AppendsFront old new (line (codes "memory"))

-- when out of memory or something failed, nothing hangs on what was called
unhindered : (has : Text → Text → Type 0) (table : List Explanation) (s : Status) (call : Option CallValue) (input old new : Option (List ℕ)) → IsMisused s old new → (s ≡ status.Usage → ⊥) → (s ≡ status.Failed → MemoryFront old new) → Ran has table s call input old new
unhindered has table status.Memory call input old new h k f = h
unhindered has table status.Failed None input old new h k f = tt
unhindered has table status.Failed (Some call) input old new h k f = inl (f refl)
unhindered has table status.Done call input old new h k f = absurd h
unhindered has table status.Refused call input old new h k f = absurd h
unhindered has table status.Usage call input old new h k f = absurd (k refl)

misused_over : (has : Text → Text → Type 0) (table : List Explanation) (s : Status) (input old new : Option (List ℕ)) → IsMisused s old new → Ran has table s None input old new
misused_over has table status.Memory input old new h = h
misused_over has table status.Failed input old new h = tt
misused_over has table status.Done input old new h = absurd h
misused_over has table status.Refused input old new h = absurd h
misused_over has table status.Usage input old new h = refl

refused_by : (has : Text → Text → Type 0) (table : List Explanation) (s : Status) (kinds : Kinds) (call : Option CallValue) (e : Error) (input old new : Option (List ℕ)) → IsMisused s old new → HasKind kinds e
    → (kind_of e ≡ OutOfMemory → s ≡ status.Usage → ⊥) → (kind_of e ≡ OutOfMemory → s ≡ status.Failed → MemoryFront old new) → Ran has table s (unless_faulty kinds call) input old new
refused_by has table s [] call e input old new h k none failed = elim k as (λ _. Ran has table s call input old new) [ inl m ↦ unhindered has table s call input old new h (none m) (failed m) | inr bad ↦ absurd bad ]
refused_by has table s (x ∷ xs) call e input old new h k none failed = misused_over has table s input old new h

-- a parse that is refused
pub call_refused : (has : Text → Text → Type 0) (table : List Explanation) (s : Status) (arguments : List Text) (e : Error) (input old new : Option (List ℕ)) → IsMisused s old new
    → names_other arguments ≡ false → HasKind (fault_of pfx_app arguments) e → (kind_of e ≡ OutOfMemory → s ≡ status.Usage → ⊥)
    → (kind_of e ≡ OutOfMemory → s ≡ status.Failed → MemoryFront old new) → Ran has table s (call_of table arguments) input old new
unfolding call_of
call_refused has table s arguments e input old new h o k none failed = rw o (refused_by has table s (fault_of pfx_app arguments) _ e input old new h k none failed)

-- the subcommand is another crate's
pub other_over : (has : Text → Text → Type 0) (table : List Explanation) (arguments : List Text) (input old new : Option (List ℕ)) → names_other arguments ≡ true
    → Ran has table status.Usage (call_of table arguments) input old new
unfolding call_of
other_over has table arguments input old new o = rw o refl

-- what is printed for arguments that ask for nothing
pub misnamed_over : (has : Text → Text → Type 0) (table : List Explanation) (s : Status) (input old new : Option (List ℕ)) → (s ≡ status.Usage) ⊎ (s ≡ status.Failed) → Ran has table s None input old new
misnamed_over has table s input old new h = elim h [
  | inl e ↦ subst (λ r. Ran has table r None input old new) (sym e) refl
  | inr e ↦ subst (λ r. Ran has table r None input old new) (sym e) tt
]

-- ---- what wrote nothing on standard error

-- arguments that aren't understood
pub misused_unreported : (has : Text → Text → Type 0) (table : List Explanation) (level : Level) (s : Status) (call : Option CallValue) (input old new errors w w' : Option (List ℕ)) → IsMisused s w w'
    → Reported has table level s call input old new errors errors
misused_unreported has table level status.Done call input old new errors w w' h = absurd h
misused_unreported has table level status.Refused call input old new errors w w' h = absurd h
misused_unreported has table level status.Usage call input old new errors w w' h = Appends-nil errors
misused_unreported has table level status.Memory call input old new errors w w' h = Appends-nil errors
misused_unreported has table level status.Failed call input old new errors w w' h = Appends-nil errors

-- arguments that ask for nothing
pub misnamed_unreported : (has : Text → Text → Type 0) (table : List Explanation) (level : Level) (s : Status) (call : Option CallValue) (input old new errors : Option (List ℕ))
    → (s ≡ status.Usage) ⊎ (s ≡ status.Failed) → Reported has table level s call input old new errors errors
misnamed_unreported has table level s call input old new errors h = elim h [
  | inl e ↦ subst (λ r. Reported has table level r call input old new errors errors) (sym e) (Appends-nil errors)
  | inr e ↦ subst (λ r. Reported has table level r call input old new errors errors) (sym e) (Appends-nil errors)
]

-- what was reported of a call is so of the arguments that ask for it
pub reported_as : (has : Text → Text → Type 0) (table : List Explanation) (level level' : Level) (s : Status) (call call' : Option CallValue) (input old new errors errors' : Option (List ℕ))
    → level ≡ level' → call ≡ call' → Reported has table level s call input old new errors errors' → Reported has table level' s call' input old new errors errors'
reported_as has table level level' s call call' input old new errors errors' e f h =
    subst (λ l. Reported has table l s call' input old new errors errors') e (subst (λ c. Reported has table level s c input old new errors errors') f h)

-- ---- what clap says of a command that is the program's

simple_and_free : is_simple_and_free pfx_app ≡ true
simple_and_free = refl

simple : is_simple pfx_app ≡ true
simple = refl

pub kinds_of_program : (a : App) (arguments : List Text) (e : Error) → a ≡ pfx_app → (is_simple_and_free a ≡ true → HasKind (fault_of a arguments) e)
    → HasKind (fault_of pfx_app arguments) e
kinds_of_program a arguments e same h = let P : App → Type 0 = λ b. is_simple_and_free b ≡ true → HasKind (fault_of b arguments) e in subst P same h simple_and_free

pub passes_program : (a : App) (arguments : List Text) → a ≡ pfx_app → (is_simple_and_free a ≡ true → fault_of a arguments ≡ []) → fault_of pfx_app arguments ≡ []
passes_program a arguments same h = let P : App → Type 0 = λ b. is_simple_and_free b ≡ true → fault_of b arguments ≡ [] in subst P same h simple_and_free

pub rows_of_program : (a : App) (arguments : List Text) (m : ArgMatches) → a ≡ pfx_app → HasMatchesOf a arguments m → subcommand_rows_of m ≡ subcommand_of pfx_app arguments
rows_of_program a arguments m same h = let P : App → Type 0 = λ b. HasMatchesOf b arguments m in (subst P same h simple).1
