-- What the arguments of `show` ask for, and what a run of them writes.
use Rattle.std.specs.Prelude.{◌≡◌, ◌⊎◌, ◌||◌, ◌&&◌, ℕ, Bool, true, false, List, [], ◌∷◌, Option, Some, None, map}
use Rattle.std.specs.Prelude.{Result, Ok, Err}
use Rattle.std.specs.Prelude.{bytes_eq, codes, is_some, not, option_map, unwrap_or, if◌then◌else◌}
use Rattle.clap.specs.Words.{Row, Text, all_of, first_of}
use Rattle.pf_arguments.specs.Answers.{FailsAs, action_value, command_fault_code}
use Rattle.pf_arguments.specs.Asked.{asked, given_in}
use Rattle.pf_arguments.specs.declared.fault.CommandFault.{CommandFault}
use Rattle.cli_io.specs.Given.{is_given}
use Rattle.cli_io.specs.Numbers.{number_at}
use Rattle.cli_io.specs.Sources.{IsAt}
use Rattle.cli_io.specs.Written.{IsMisused, RanOut}
use Rattle.cli_io.specs.declared.status.Status.{Status}
use Rattle.cli_show.specs.Outcomes.{Wrote}
use Rattle.cli_show.specs.declared.outcome.Outcome.{Outcome}
use Rattle.cli_show.specs.declared.outcome.Outcome.TheVariants as outcome
use Rattle.cli_show.specs.declared.shown.Shown.{Shown}
use Rattle.cli_show.specs.declared.shown.Wanted.{Wanted}
use Rattle.cli_show.specs.declared.shown.Wanted.TheVariants as wanted
use Rattle.cli_show.specs.declared.store.Closed.{Closed}
use Rattle.cli_show.specs.declared.store.Closed.TheVariants as closed
use Rattle.cli_show.specs.declared.wanted.Kind.{Kind}
use Rattle.cli_show.specs.declared.wanted.Kind.TheVariants as kind

-- ---- what is asked for

-- an option of pfctl's is given
abbrev pub has_ruleset_option : List Row → Bool
has_ruleset_option rows = is_some (first_of (codes "path") rows) || is_some (first_of (codes "file") rows)
    || is_given (first_of (codes "check") rows)

abbrev pub has_other_option : List Row → Bool
has_other_option rows = is_some (first_of (codes "flush") rows) || is_some (first_of (codes "table") rows)
    || is_some (first_of (codes "change") rows) || is_some (first_of (codes "show") rows)

abbrev pub has_listing : List Row → Bool
has_listing rows = has_ruleset_option rows || has_other_option rows

-- the arguments behind the options
abbrev pub rest_of : List Row → List Text
rest_of rows = unwrap_or (all_of (codes "address") rows) []

-- without an option: how many positions are applied, the log, or the verdicts for packets
-- Source: pfx(8), show.
abbrev pub kind_behind : (rest : List Text) → Option Kind
kind_behind [] = Some kind.Figures
kind_behind (argument ∷ []) = if bytes_eq argument (codes "log") then Some kind.Log else None
kind_behind (argument ∷ packet ∷ packets) = if bytes_eq argument (codes "test") then Some kind.Packets else None

-- an option that goes with no argument
abbrev pub alone : Kind → (rest : List Text) → Option Kind
alone k [] = Some k
alone k (argument ∷ arguments) = None

-- one of --nft, --pf and --script alone, or pfctl's options, or none of them
abbrev pub kind_by : (nft pf script listing : Bool) → (rest : List Text) → Option Kind
kind_by true false false false rest = alone kind.Nft rest
kind_by false true false false rest = alone kind.Texts rest
kind_by false false true false rest = alone kind.Script rest
kind_by false false false true rest = Some kind.Listing
kind_by false false false false rest = kind_behind rest
kind_by nft pf script listing rest = None

-- --interfaces goes with --nft, and --from and --count with the log
abbrev pub goes_with : (interfaces window : Bool) → Kind → Bool
goes_with interfaces window kind.Nft = not window
goes_with interfaces window kind.Log = not interfaces
goes_with interfaces window k = not interfaces && not window

abbrev pub if_together : (interfaces window : Bool) → Option Kind → Option Kind
if_together interfaces window None = None
if_together interfaces window (Some k) = if goes_with interfaces window k then Some k else None

-- what --nft, --pf, --script and the arguments ask for
abbrev pub kind_given : List Row → Option Kind
kind_given rows = kind_by (is_given (first_of (codes "nft") rows)) (is_given (first_of (codes "pf") rows))
    (is_given (first_of (codes "script") rows)) (has_listing rows) (rest_of rows)

-- --from or --count
abbrev pub has_window : List Row → Bool
has_window rows = is_some (first_of (codes "from") rows) || is_some (first_of (codes "count") rows)

-- what is asked for, none where the arguments don't go together
-- Example: of --nft --pf none, and of --interfaces FILE alone.
abbrev pub kind_of : List Row → Option Kind
kind_of rows = if_together (is_some (first_of (codes "interfaces") rows)) (has_window rows) (kind_given rows)

abbrev pub behind_first : List Text → List Text
behind_first [] = []
behind_first (argument ∷ arguments) = arguments

-- What is to be shown of a store: for nft(8) with the interfaces that the file at the path of `--interfaces` has, none
-- where it can't be read; of the log as `--from` and `--count` have it; packets are the arguments behind `test`.
abbrev pub IsWantedBy : (has : (path text : Text) → Type 0) → List Row → Kind → Wanted → Type 0
IsWantedBy has rows kind.Nft (wanted.Nft file) =
    IsAt has (first_of (codes "interfaces") rows) (option_map (λ t. t.now) file)
IsWantedBy has rows kind.Texts wanted.Texts = Unit {0}
IsWantedBy has rows kind.Script wanted.Script = Unit {0}
IsWantedBy has rows kind.Figures wanted.Figures = Unit {0}
IsWantedBy has rows kind.Log (wanted.Log from count) =
    (from ≡ number_at rows (codes "from")) × (count ≡ number_at rows (codes "count"))
IsWantedBy has rows kind.Packets (wanted.Packets packets) =
    map (λ p. p.now) packets.now ≡ behind_first (rest_of rows)
IsWantedBy has rows kind.Listing (wanted.Listing action) = asked (given_in rows) [] ≡ Ok (action_value action.now)
IsWantedBy has rows k w = ⊥

-- Nothing is wanted: 40 without a file of interfaces and without packets, what pfctl's options are refused with, and
-- out of memory, which alone is left for all else.
abbrev pub IsRefusedBy : List Row → Kind → Outcome → Type 0
IsRefusedBy rows k outcome.Memory = Unit {0}
IsRefusedBy rows kind.Nft (outcome.Refused code) = (first_of (codes "interfaces") rows ≡ None) × (code ≡ 40)
IsRefusedBy rows kind.Packets (outcome.Refused code) = (rest_of rows ≡ []) × (code ≡ 40)
IsRefusedBy rows kind.Listing (outcome.Refused code) = (fault : CommandFault) ×
    (FailsAs fault (asked (given_in rows) []) × (command_fault_code fault ≡ Some code))
IsRefusedBy rows k o = ⊥

-- ---- what is answered

-- what was shown or refused, as the run's outcome has it
abbrev pub result_of : Outcome → Result Shown Closed
result_of (outcome.Shown s) = Ok s
result_of (outcome.Refused code) = Err (closed.Refused code)
result_of outcome.Memory = Err closed.Memory

-- what is wanted of the store at a path is answered, or nothing is wanted
abbrev pub Gives : (answers : (path : Text) → Wanted → Result Shown Closed → Type 0) →
    (has : (path text : Text) → Type 0) → List Row → Kind → (path : Text) → Outcome → Type 0
Gives answers has rows k path o =
    IsRefusedBy rows k o ⊎ ((w : Wanted) × (IsWantedBy has rows k w × answers path w (result_of o)))

abbrev pub GivesBy : (answers : (path : Text) → Wanted → Result Shown Closed → Type 0) →
    (has : (path text : Text) → Type 0) → List Row → Option Kind → (path : Option Text) → Outcome → Type 0
GivesBy answers has rows (Some k) (Some path) o = Gives answers has rows k path o
GivesBy answers has rows k path o = o ≡ outcome.Refused 40

-- what the arguments ask for of the store at the path of `--store`; 40 where they don't go together
abbrev pub Asks : (answers : (path : Text) → Wanted → Result Shown Closed → Type 0) →
    (has : (path text : Text) → Type 0) → List Row → Outcome → Type 0
Asks answers has rows o = GivesBy answers has rows (kind_of rows) (first_of (codes "store") rows) o

-- ---- a run

-- What a run did that ended so, by what is given with `show`. It is misused only where that is none: arguments that
-- aren't understood. Else it wrote what they ask for, or was out of memory.
abbrev pub Ran : (answers : (path : Text) → Wanted → Result Shown Closed → Type 0) →
    (has : (path text : Text) → Type 0) → (given : Option (List Row)) → Status → (old new : Option (List ℕ)) → Type 0
Ran answers has None ending old new = IsMisused ending old new
Ran answers has (Some rows) ending old new = RanOut ending old new
    ⊎ ((o : Outcome) × (Asks answers has rows o × Wrote ending o old new))
