-- Which anchors a rule evaluates, as it is written (pf.conf(5), ANCHORS).
use Rattle.std.specs.Prelude.{ℕ, ◌&&◌, Bool, true, false, List, [], ◌∷◌, length, Option, Some, None, codes}
use Rattle.std.specs.Prelude.{bytes_eq, nat_le, is_some, if◌then◌else◌}
use Rattle.pf_addr.specs.Spelling.{pieces}
use Rattle.pf_rules.specs.declared.profile.Profile.{Profile}
use Rattle.pf_rules.specs.Words.{is_anchor_text, is_reserved}
use Rattle.pf_tokens.specs.Tokens.{Token, Word, Quoted, Macro, Mark, Newline, Bad}
use Rattle.pf_tokens.specs.Productions.{Read, ◌>>=◌}
use Rattle.pf_rules.specs.Names.{Name, name_if}
use Rattle.pf_rules.specs.Items.{Target}
use Rattle.pf_statements.specs.Conditions.{if_so}

-- the last of the pieces is `*`
abbrev pub is_star : List (List ℕ) → Bool
is_star [] = false
is_star (piece ∷ []) = bytes_eq piece (codes "*")
is_star (piece ∷ other ∷ more) = false

-- the name in front of the others, if there are both
abbrev pub in_front : Option Name → Option (List Name × Bool) → Option (List Name × Bool)
in_front None more = None
in_front (Some name) None = None
in_front (Some name) (Some (names, children)) = Some (name ∷ names, children)

-- names, and whether `*` is behind them
abbrev pub names_of : List (List ℕ) → Option (List Name × Bool)
names_of [] = Some ([], false)
names_of (piece ∷ more) =
    if is_star (piece ∷ more) then Some ([], true) else in_front (name_if is_anchor_text piece) (names_of more)

-- the target of these names, if they are 1 to 8; the children of that anchor where `*` is behind them
abbrev pub target_with : (List Name × Bool) → Option Target
target_with (names, children) =
    if_so (nat_le 1 (length names) && nat_le (length names) 8) (record { names = names; children = children })

-- 1 to 8 names joined by `/`, then possibly `/*`
unfoldable pub target_of : List ℕ → Option Target
target_of text = names_of (pieces 47 text) >>= target_with

-- the text of a STRING, or of a WORD that isn't reserved
abbrev pub target_text : Profile → Token → Option (List ℕ)
target_text profile (Word text) = if is_reserved profile text then None else Some text
target_text profile (Quoted text) = Some text
target_text profile (Macro name) = None
target_text profile (Mark symbol) = None
target_text profile Newline = None
target_text profile Bad = None

-- whether a token may be a name
abbrev pub may_name : Profile → Token → Bool
may_name profile t = is_some (target_text profile t)

-- the target that a ruleset spells, if it spells one, with the tokens behind it
abbrev pub target_behind : Option Target → List Token → Read Target
target_behind None ts = None
target_behind (Some target) ts = Some (target, ts)

-- ANAME
-- Example: "ftp-proxy/*"; "in", but not in.
unfoldable pub target_at : Profile → List Token → Read Target
target_at profile [] = None
target_at profile (t ∷ ts) = target_text profile t >>= λ text. target_behind (target_of text) ts
