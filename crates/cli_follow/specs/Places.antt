-- What is to be written where, and how a run ends.
use Rattle.std.specs.Prelude.{◌≡◌, ◌⊎◌, ◌&&◌, ℕ, ◌^◌, ◌<◌, Bool, true, false, List, [], Option, Some, None}
use Rattle.std.specs.Prelude.{Result, Ok, Err, not, codes}
use Rattle.std.specs.Prelude.{is_some, option_and_then, option_map, string_bytes}
use Rattle.std.specs.Io.KnownBytes.{Appends}
use Rattle.std.specs.Str.Parse.{IsNumeral, digits_value, without_leading_plus}
use Rattle.clap.specs.Words.{Row, Text, first_of}
use Rattle.cli_io.specs.Given.{is_given}
use Rattle.cli_io.specs.Sources.{IsAt}
use Rattle.cli_io.specs.declared.status.Status.{Status}
use Rattle.cli_io.specs.declared.status.Status.TheVariants as status
use Rattle.cli_nft.specs.Machines.{machine_in}
use Rattle.nft_rules.specs.Rendering.{Machine}
use Rattle.nft_rules.specs.Seen.{machine_of}
use Rattle.cli_follow.specs.Exchanges.{Exchange, Adds}
use Rattle.cli_follow.specs.Files.{Act, are_behind}
use Rattle.cli_follow.specs.Output.{Wanted, Ends, wanted}
use Rattle.cli_follow.specs.declared.files.TextFile.{TextFile}
use Rattle.cli_follow.specs.declared.files.TextFiles.{TextFiles}
use Rattle.cli_follow.specs.declared.follower.WriteFault.{WriteFault}
use Rattle.cli_follow.specs.declared.follower.WriteFault.TheVariants as fault
use Rattle.cli_follow.specs.declared.places.Places.{Places}

-- ---- arguments

-- lines for nft(8) take --nft and --interfaces, and perhaps --no-member-guard; without them rulesets for pfctl(8) are
-- written, or nothing would be
abbrev pub go_together : (nft : Bool) → (interfaces pf : Option Text) → (no_guard : Bool) → Bool
go_together true (Some file) pf no_guard = true
go_together true None pf no_guard = false
go_together false (Some file) pf no_guard = false
go_together false None (Some folder) no_guard = not no_guard
go_together false None None no_guard = false

abbrev pub has_nft : List Row → Bool
has_nft rows = is_given (first_of (codes "nft") rows)

abbrev pub has_no_guard : List Row → Bool
has_no_guard rows = is_given (first_of (codes "no-member-guard") rows)

-- the arguments go together; without that 40 comes
abbrev pub are_good : List Row → Bool
are_good rows = go_together (has_nft rows) (first_of (codes "interfaces") rows) (first_of (codes "pf") rows)
    (has_no_guard rows)

-- ---- places

-- the folder of rulesets for pfctl(8)
abbrev pub folder_of : Option TextFiles → Option (List ℕ)
folder_of files = option_map (λ f. string_bytes f.folder) files

-- what is recorded of it
abbrev pub recorded : Option TextFiles → List TextFile
recorded None = []
recorded (Some files) = files.written.items

-- the machine of the interfaces
abbrev pub machine_at : Places → Option Machine
machine_at p = option_map (λ v. machine_of v.items) p.interfaces

-- the machine that the file which is named lists, if one is named
abbrev pub IsListed : (has : (path text : List ℕ) → Type 0) → Option Text → Option Machine → Type 0
IsListed has named machine = (text : Option (List ℕ)) × (IsAt has named text × (machine ≡ option_and_then machine_in text))

-- lines for nft(8) are written where these are asked for, for the interfaces of the file that is named, and with the
-- guard unless it is declined; rulesets for pfctl(8) go into the folder that is named, of which nothing is recorded
-- yet, and none is to be put again
pub record IsWantedBy (has : (path text : List ℕ) → Type 0) (rows : List Row) (p : Places) : Type 0 where
  pub good : are_good rows ≡ true
  pub lines : is_some p.interfaces ≡ has_nft rows
  pub machine : IsListed has (first_of (codes "interfaces") rows) (machine_at p)
  pub guard : p.is_guarded ≡ (has_nft rows && not (has_no_guard rows))
  pub folder : folder_of p.files ≡ first_of (codes "pf") rows
  pub none : recorded p.files ≡ []
  pub behind : are_behind p.files ≡ false

-- 40 comes where the arguments don't go together, 89 where a file of interfaces lists none
abbrev pub IsRefusedIf : (good nft : Bool) → (code : ℕ) → Type 0
IsRefusedIf true nft code = (code ≡ 89) × (nft ≡ true)
IsRefusedIf false nft code = code ≡ 40

abbrev pub IsRefusedWith : List Row → (code : ℕ) → Type 0
IsRefusedWith rows code = IsRefusedIf (are_good rows) (has_nft rows) code

-- the places, or the number of the refusal
abbrev pub ArePlaces : (has : (path text : List ℕ) → Type 0) → List Row → Result Places ℕ → Type 0
ArePlaces has rows (Ok p) = IsWantedBy has rows p
ArePlaces has rows (Err code) = IsRefusedWith rows code

-- ---- ends

-- how a run ends: 0 only where all requests were made; of what can't be written to standard error Failed
abbrev pub IsEnding : Result Unit WriteFault → Status → Type 0
IsEnding (Ok done) s = s ≡ status.Done
IsEnding (Err fault.Closed) s = s ≡ status.Failed
IsEnding (Err fault.Another) s = (s ≡ status.Refused) ⊎ (s ≡ status.Failed)
IsEnding (Err fault.Memory) s = (s ≡ status.Memory) ⊎ (s ≡ status.Failed)

-- a run that is refused or runs out of memory before anything is asked
abbrev pub IsNoEnding : Status → Type 0
IsNoEnding s = (s ≡ status.Refused) ⊎ ((s ≡ status.Memory) ⊎ (s ≡ status.Failed))

-- how often entries are asked for: without end, where it isn't said
abbrev pub AreTurns : Option Text → ℕ → Type 0
AreTurns None n = n ≡ 18446744073709551615
AreTurns (Some text) n = IsNumeral 10 (without_leading_plus text) →
    digits_value 10 (without_leading_plus text) < 2 ^ 64 → n ≡ digits_value 10 (without_leading_plus text)

-- what the places want
abbrev pub wanted_at : Places → Wanted
wanted_at p = wanted (machine_at p) p.is_guarded

-- the log is followed to these places, and the run ends as that does
abbrev pub FollowedTo : (given now : List Exchange → Type 0) → (done did : List Act → Type 0) → Places → (turns : ℕ) →
    Status → (before written : Option (List ℕ)) → Type 0
FollowedTo given now done did p turns s before written = (r : Result Unit WriteFault)
    × (Ends given now done did (wanted_at p) p.files turns r before written × IsEnding r s)

-- nothing is asked and nothing is written, to files neither: the arguments or the file of interfaces are refused, or it
-- was out of memory
abbrev pub NotFollowed : (given now : List Exchange → Type 0) → (done did : List Act → Type 0) → List Row → Status →
    (before written : Option (List ℕ)) → Type 0
NotFollowed given now done did rows s before written = Adds given now [] × (Adds done did []
    × (Appends before written [] × (IsNoEnding s × ((s ≡ status.Refused) → (code : ℕ) × IsRefusedWith rows code))))

-- the log is followed to the places that the arguments name, or it isn't
abbrev pub FollowedBy : (given now : List Exchange → Type 0) → (done did : List Act → Type 0) →
    (has : (path text : List ℕ) → Type 0) → List Row → (turns : ℕ) → Status → (before written : Option (List ℕ)) →
    Type 0
FollowedBy given now done did has rows turns s before written =
    ((p : Places) × (IsWantedBy has rows p × FollowedTo given now done did p turns s before written))
    ⊎ NotFollowed given now done did rows s before written
