-- The value of an output of the code.
use Rattle.std.specs.Prelude.{◌≡◌, ℕ, Bool, true, false, List, [], ◌++◌, string_bytes}
use Rattle.pf_tool.specs.declared.output.Ending.{Ending}
use Rattle.pf_tool.specs.declared.output.Ending.TheVariants.{Done, Refused}
use Rattle.pf_tool.specs.declared.output.Output.{Output}
use Rattle.pf_tool.specs.declared.reporting.Reporter.{Reporter}
use Rattle.pf_tool.specs.Messages.{Message, message_lines}
use Rattle.pf_tool.specs.Tool.{Written}

-- the bytes for standard output, and those for standard error
pub record Rendered : Type 0 where
  pub text : List ℕ
  pub messages : List ℕ
  pub ending : Ending

-- what an output has
abbrev pub written : Output → Rendered
written o = record { text = string_bytes o.text; messages = string_bytes o.messages; ending = o.ending }

-- messages as a reporter writes them
abbrev pub reported : Reporter → List Message → List ℕ
reported r messages = message_lines r.level r.table.now messages

-- what is written as a reporter writes it
abbrev pub rendered : Reporter → Written → Rendered
rendered r w = record { text = w.text; messages = reported r w.messages; ending = w.ending }

-- bytes before those of what follows
abbrev pub after : (text messages : List ℕ) → Rendered → Rendered
after text messages later =
    record { text = text ++ later.text; messages = messages ++ later.messages; ending = later.ending }

-- two endings: refused where one of them is
abbrev pub ending_of : Ending → Ending → Ending
ending_of Done later = later
ending_of Refused later = Refused

-- one output, and another behind it
abbrev pub both : Rendered → Rendered → Rendered
both first later = record {
  text = first.text ++ later.text;
  messages = first.messages ++ later.messages;
  ending = ending_of first.ending later.ending;
}

-- with -q nothing is written but messages
abbrev pub quieted_bytes : Bool → Rendered → Rendered
quieted_bytes true r = record r { text = [] }
quieted_bytes false r = r

-- this is written, and its messages as the reporter writes them
abbrev pub Renders : Reporter → Output → (is_written : Written → Type 0) → Type 0
Renders r o is_written = (w : Written) × is_written w × (written o ≡ rendered r w)
