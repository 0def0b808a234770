-- What is shown of a record.
use Rattle.std.specs.Prelude.{◌≡◌, ◌⊎◌, ℕ, [], map, Some, option_map}
use Rattle.px_model.specs.Node.{Log}
use Rattle.px_model.specs.Step.{front}
use Rattle.px_model.specs.Spelling.{Bytes}
use Rattle.px_records.specs.declared.records.Records.{Ghosts}
use Rattle.px_replica.specs.Calls.{HasBadEntry, OpenRefused}
use Rattle.px_replica.specs.declared.fault.NodeFault.{NodeFault}
use Rattle.px_replica.specs.declared.fault.NodeFault.TheVariants as fault
use Rattle.pf_config.specs.Map.{Configuration}
use Rattle.pf_arguments.specs.Answers.{action_value}
use Rattle.pf_scripts.specs.Listings.{listed}
use Rattle.pf_node.specs.Applied.{after}
use Rattle.cli_nft.specs.Outputs.{config_output}
use Rattle.pf_dump.specs.Done.{AreDoneTo}
use Rattle.pf_dump.specs.Written.{texts_of}
use Rattle.cli_show.specs.Texts.{ShowsTexts}
use Rattle.cli_show.specs.Scripts.{ShowsScript, HasScript}
use Rattle.cli_show.specs.Writing.{answered, verdicts, log_shown, figures, of_kernel, OrNone, shown_value}
use Rattle.cli_show.specs.declared.shown.Shown.{Shown}
use Rattle.cli_show.specs.declared.shown.Wanted.{Wanted}
use Rattle.cli_show.specs.declared.shown.Wanted.TheVariants as wanted

-- What is shown of the configuration after the first k entries of a log. Rulesets for pfctl(8), and a script, give the
-- configuration; they are refused with 91 where none that is written of it or of the log does.
abbrev pub Shows : Log Bytes → (k kept : ℕ) → Configuration → Wanted → Shown → Type 0
Shows log k kept c (wanted.Listing action) s = shown_value s ≡ answered (listed c (action_value action.now))
Shows log k kept c (wanted.Packets packets) s = shown_value s ≡ verdicts c (map (λ p. p.now) packets.now)
Shows log k kept c (wanted.Log from count) s = shown_value s ≡ log_shown log k kept from count
Shows log k kept c (wanted.Nft file) s = shown_value s ≡ of_kernel (config_output (option_map (λ t. t.now) file) [] k c)
Shows log k kept c wanted.Texts s = OrNone s (ShowsTexts c) (AreDoneTo (texts_of c) c)
Shows log k kept c wanted.Script s = OrNone s (ShowsScript log k c) (HasScript log k c)
Shows log k kept c wanted.Figures s = shown_value s ≡ figures k

-- of the first entries of the log that is in a record, up to the first gap
-- Example: with positions 0, 1 and 3 learned, that after two.
pub record ShowsLog (log : Log Bytes) (w : Wanted) (s : Shown) : Type 0 where
  pub configuration : Configuration
  pub kept : ℕ
  pub configured : after log (front log) ≡ Some configuration
  pub shows : Shows log (front log) kept configuration w s

-- The record was honest and is given back as it was, and this is shown of it, if it could be opened and memory served.
-- Example: nothing is shown of a record of which a learned entry's row is bad.
pub record ShowsRecord {R : Type 0} (G : Ghosts R) (members : ℕ) (given back : R) (w : Wanted) (s : Shown) : Type 0 where
  pub was : G.is_honest given
  pub good : HasBadEntry G given members → ⊥
  pub same : G.stored back ≡ G.stored given
  pub shows : ShowsLog (G.stored given).learned w s

-- out of memory, over a record that is given back as it was
pub record MemoryRanOut {R : Type 0} (G : Ghosts R) (given : R) (e : NodeFault) (back : R) : Type 0 where
  pub memory : e ≡ fault.Memory
  pub was : G.is_honest back → G.is_honest given
  pub same : G.is_honest back → G.stored back ≡ G.stored given

-- Nothing is shown: out of memory, or the record doesn't open, as that of a node.
-- Example: 72 comes of a bad row and of nothing else.
abbrev pub IsRefused : {R : Type 0} → (G : Ghosts R) → (members : ℕ) → (given : R) → NodeFault → (back : R) → Type 0
IsRefused G members given e back = MemoryRanOut G given e back ⊎ OpenRefused G members given e back
