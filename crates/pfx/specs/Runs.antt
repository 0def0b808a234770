-- The runs that the program made.
use Rattle.std.specs.Prelude.{◌≡◌, ◌≢◌, ◌⊎◌, ℕ, Bool, true, List, [], Option}
use Rattle.clap.specs.Words.{Text}
use Rattle.px_transport.specs.Wires.{WireEvent}
use Rattle.cli_io.specs.declared.paragraph.Explanation.{Explanation}
use Rattle.cli_io.specs.declared.status.Status.{Status}
use Rattle.cli_io.specs.declared.status.Status.TheVariants as status
use Rattle.cli_io.specs.Sources.{IsText}
use Rattle.cli_node.specs.Arguments.{given_of}
use Rattle.cli_node.specs.Doing.{Adds, FileEvent, NodeEvent}
use Rattle.cli_node.specs.Running as net
use Rattle.cli_node.specs.Settled.{IsNode}
use Rattle.pf_tool.specs.Options.{call_of}
use Rattle.pf_tool.specs.Tool as tool
use Rattle.pfx.specs.Arguments.{lacks_control, program_arguments}

-- a run with these arguments, over this input, whose output was so and is so, whether standard error is a terminal, and
-- how it ended
pub data RunEvent : Type 0 where
  Ran : (arguments : List (List ℕ)) → (input old new : Option (List ℕ)) → (is_terminal : Bool) → (status : Status) →
      RunEvent

-- a run was made so, with the arguments that the program was given, at the control socket that its environment names
-- where they lack one
abbrev pub IsProgram : (has_arguments : List (List ℕ) → Type 0) → (has_control : Option (List ℕ) → Type 0) →
    (is_run : List (List ℕ) → Type 0) → Type 0
IsProgram has_arguments has_control is_run = (given : List (List ℕ)) × (control : Option (List ℕ)) ×
    has_arguments given × (lacks_control given ≡ true → has_control control) ×
    is_run (program_arguments given control)

-- a run of what reaches no node wrote what its arguments ask for
abbrev pub IsToolRun : (has : (path text : Text) → Type 0) → (table : List Explanation) → RunEvent → Type 0
IsToolRun has table (Ran arguments input old new is_terminal ending) =
    tool.Ran has table ending (call_of table arguments) input old new

-- What `node`, `ask` over UDP or `key` did that ended so, between two states of who runs nodes, makes wires and makes
-- files.
abbrev pub RanNet : {N C K W : Type 0} → (did : N → List NodeEvent → Type 0) → (went : C → List WireEvent → Type 0) →
    (made : K → List FileEvent → Type 0) → (traffic : W → List WireEvent → Type 0) →
    (reaches : C → (to : Text) → W → Type 0) → (is_unreached : C → (to : Text) → Type 0) →
    (gives : (key : List ℕ) → Type 0) → (has : (path text : Text) → Type 0) → (nodes nodes_new : N) →
    (client client_new : C) → (files files_new : K) → (arguments : List Text) → (input : Option (List ℕ)) → Status →
    (old new : Option (List ℕ)) → Type 0
RanNet did went made traffic reaches is_unreached gives has nodes nodes_new client client_new files files_new arguments
    input ending old new =
    net.Ran (Adds (did nodes) (did nodes_new) []) (Adds (went client) (went client_new) [])
    (Adds (made files) (made files_new) []) (IsNode (Adds (did nodes) (did nodes_new)) has)
    (net.KeyGives gives (Adds (made files) (made files_new)))
    (net.AskGives traffic (reaches client) (is_unreached client) (Adds (went client) (went client_new))
    (IsText has input)) (given_of arguments) ending old new

-- these are as they were
abbrev pub AreLeft : {N C K : Type 0} → (nodes nodes_new : N) → (client client_new : C) → (files files_new : K) → Type 0
AreLeft nodes nodes_new client client_new files files_new =
    (nodes_new ≡ nodes) × ((client_new ≡ client) × (files_new ≡ files))

-- The help of `ask`: what the form at a control socket writes, and, where that is a usage error, what the form over UDP
-- writes behind it. A write that fails between them ends it. `is_alone`: the form over UDP isn't run.
abbrev pub HelpsAsk : (asks : Status → (new : Option (List ℕ)) → Type 0) → (is_alone : Type 0) →
    (nets : (input old : Option (List ℕ)) → Type 0) → Status → (new : Option (List ℕ)) → Type 0
HelpsAsk asks is_alone nets ending new = (asks ending new × (is_alone × (ending ≢ status.Usage)))
    ⊎ ((first : Status) × (between : Option (List ℕ)) × asks first between × (first ≡ status.Usage)
    × ((is_alone × (ending ≡ status.Failed)) ⊎ ((input : Option (List ℕ)) × (old : Option (List ℕ)) × nets input old)))
