-- Messages that aren't written, and those that are written whole.
use Rattle.std.proofs.Common.{◌≡◌, ℕ, false, List, [], ◌∷◌, Option, refl, sym, append-nil}
use Rattle.std.specs.Io.KnownBytes.{Appends}
use Rattle.cli_io.specs.declared.paragraph.Explanation.{Explanation}
use Rattle.cli_io.specs.Written.{AppendsFront}
use Rattle.pf_tool.specs.declared.reporting.Level.{Level}
use Rattle.pf_tool.specs.declared.reporting.Level.TheVariants.{Silent, Refusals, Rules}
use Rattle.pf_tool.specs.Messages.{Message, Refuses, Decides, has_refusals, message_lines}

-- where refusals aren't reported there is no message
pub no_messages : (level : Level) (table : List Explanation) (messages : List Message) → has_refusals level ≡ false
    → message_lines level table messages ≡ []
no_messages Silent table [] e = refl
no_messages Silent table (Refuses source at code ∷ messages) e = no_messages Silent table messages e
no_messages Silent table (Decides n c verdict ∷ messages) e = no_messages Silent table messages e
no_messages Refusals table messages e = absurd cc
no_messages Rules table messages e = absurd cc

-- what was written whole is a front of itself
pub whole_written : (old new : Option (List ℕ)) (text : List ℕ) → Appends old new text → AppendsFront old new text
whole_written old new text h = (text, [], sym (append-nil text), h)
