-- What is written of a ruleset for a machine.
use Rattle.std.specs.Prelude.{ℕ, Bool, true, false, List, [], ◌++◌, Option, Some, None, Result, Ok, Err, codes, decimal}
use Rattle.pf_grammar.specs.declared.fault.Refusal.{Refusal}
use Rattle.pf_grammar.specs.declared.place.Place.TheVariants.{Main}
use Rattle.pf_rules.specs.declared.profile.Profile.TheVariants.{Two}
use Rattle.pf_rules.specs.Rulesets.{RulesetValue}
use Rattle.pf_grammar.specs.Reading.{reading}
use Rattle.pf_config.specs.declared.fault.ConfigFault.{ConfigFault}
use Rattle.pf_config.specs.Map.{Configuration}
use Rattle.pf_config.specs.Changes.{load_ruleset}
use Rattle.pf_config.specs.Codes as config
use Rattle.pf_command.specs.Effect.{empty}
use Rattle.nft_rules.specs.Rendering.{Machine}
use Rattle.nft_rules.specs.declared.guard.Member.{Member}
use Rattle.nft_rules.specs.declared.rendering.RenderFault.{RenderFault}
use Rattle.nft_rules.specs.Refusing.{fault_code}
use Rattle.nft_text.specs.Texts.{TransactionsValue}
use Rattle.nft_text.specs.Loading.{rendered_lines}
use Rattle.pf_expansion.specs.Causes.{cause_code}
use Rattle.cli_nft.specs.Machines.{machine_in}

-- the bytes, and whether they are a refusal
pub record Written : Type 0 where
  pub text : List ℕ
  pub refused : Bool

-- a refusal by its number, in a line; without a number no bytes
abbrev pub refused : Option ℕ → Written
refused None = record { text = []; refused = true }
refused (Some code) = record { text = codes "refused " ++ (decimal code ++ codes "\n"); refused = true }

-- of a ruleset, with the line at which the statement begins
-- Example: refused 88, refused 3 line 2.
abbrev pub refused_at : ℕ → ℕ → Written
refused_at code line = record {
  text = codes "refused " ++ (decimal code ++ (codes " line " ++ (decimal line ++ codes "\n")));
  refused = true;
}

-- the lines for nft(8), or the refusal of the rendering
abbrev pub written_lines : Result TransactionsValue RenderFault → Written
written_lines (Ok l) = record { text = l.load ++ l.end; refused = false }
written_lines (Err fault) = refused (fault_code fault)

-- the lines for the configuration that a load gives, or the refusal of the load or of the rendering
abbrev pub rendered_of : Machine → List Member → ℕ → Result Configuration ConfigFault → Written
rendered_of m ms position (Ok c) = written_lines (rendered_lines c m ms position)
rendered_of m ms position (Err fault) = refused (config.fault_code fault)

-- the text's ruleset, loaded as the main one
abbrev pub loaded_of : Machine → List Member → ℕ → Result RulesetValue Refusal → Written
loaded_of m ms position (Err refusal) = refused_at (cause_code refusal.cause) refusal.line
loaded_of m ms position (Ok rules) = rendered_of m ms position (load_ruleset empty [] rules)

-- for a machine, if the list of its interfaces is one
abbrev pub output_for : Option Machine → List Member → ℕ → List ℕ → Written
output_for None ms position input = refused (Some 89)
output_for (Some m) ms position input = loaded_of m ms position (reading Main Two input)

-- the machine that a file of interfaces lists, none where it can't be read or some line isn't as it should be
abbrev pub machine_of_file : Option (List ℕ) → Option Machine
machine_of_file None = None
machine_of_file (Some text) = machine_in text

-- over this file of interfaces, none where it can't be read, behind the guard of these members, none where one of them
-- isn't spelled as an address and a port, and over this input
unfoldable pub output : Option (List ℕ) → Option (List Member) → ℕ → List ℕ → Written
output file None position input = refused (Some 40)
output file (Some ms) position input = output_for (machine_of_file file) ms position input

-- ---- a present configuration

-- for a machine, if the list of its interfaces is one
abbrev pub config_for : Option Machine → List Member → ℕ → Configuration → Written
config_for None ms position c = refused (Some 89)
config_for (Some m) ms position c = written_lines (rendered_lines c m ms position)

-- over this file of interfaces, none where it can't be read, behind the guard of these members
unfoldable pub config_output : Option (List ℕ) → List Member → ℕ → Configuration → Written
config_output file ms position c = config_for (machine_of_file file) ms position c
