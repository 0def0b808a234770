-- Which rules are shown as statements that may be read.
use Rattle.std.specs.Prelude.{◌≡◌, [], None}
use Rattle.pf_tokens.specs.Tokens.{tokens}
use Rattle.pf_tokens.specs.Faults.{reading_fault}
use Rattle.pf_tokens.specs.Parsing.{tokens_of}
use Rattle.pf_rules.specs.Items.{ItemValue}
use Rattle.pf_show.specs.Shown.{shown_item}

-- the shown lines have no more tokens and open braces than a statement may have
abbrev pub FitsStatement : ItemValue → Type 0
FitsStatement item = reading_fault [] 0 0 (tokens_of (tokens (shown_item item))) ≡ None
