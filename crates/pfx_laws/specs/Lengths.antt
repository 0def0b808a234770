-- Which rules are shown as statements of a length that may be read.
use Rattle.std.specs.Prelude.{Bool, true, length, nat_le}
use Rattle.pf_tokens.specs.Tokens.{tokens}
use Rattle.pf_rules.specs.Items.{ItemValue, Filters, Anchors, Blocks}
use Rattle.pf_show.specs.Shown.{shown_item}

-- a rule without a block, or one whose shown lines have at most 65,536 tokens, not counted the newline behind the last
-- one, which ends the statement
abbrev pub is_short : ItemValue → Bool
is_short (Filters rule) = true
is_short (Anchors heading) = true
is_short (Blocks heading block) = nat_le (length (tokens (shown_item (Blocks heading block)))) 65537
