-- What is left of a statement behind its macros, seen from within.
use Rattle.std.specs.Prelude.{ℕ, Bool, List, [], ◌∷◌, ◌++◌, if◌then◌else◌}
use Rattle.pf_tokens.specs.Tokens.{Placed}
use Rattle.pf_tokens.specs.Macros.{Definition, replaced, depth_after, depth_behind, ends}

-- up to the end of the statement
abbrev pub statement_raw : List Definition → Bool → ℕ → List Placed → List Placed
statement_raw ds defining depth [] = []
statement_raw ds defining depth (p ∷ ps) =
    if ends depth p then []
    else replaced ds defining p ++ statement_raw ds defining (depth_behind depth (replaced ds defining p)) ps

-- from the end of the statement on
abbrev pub ending_raw : List Definition → Bool → ℕ → List Placed → List Placed
ending_raw ds defining depth [] = []
ending_raw ds defining depth (p ∷ ps) =
    if ends depth p then p ∷ ps
    else ending_raw ds defining (depth_behind depth (replaced ds defining p)) ps

-- the same where these tokens have been replaced already
abbrev pub statement_left : List Definition → Bool → ℕ → List Placed → List Placed → List Placed
statement_left ds defining depth [] raw = statement_raw ds defining depth raw
statement_left ds defining depth (t ∷ ts) raw = if ends depth t then []
    else t ∷ statement_left ds defining (depth_after depth t.token) ts raw

-- from the end of the statement on, where these tokens have been replaced already
abbrev pub ending_left : List Definition → Bool → ℕ → List Placed → List Placed → List Placed
ending_left ds defining depth [] raw = ending_raw ds defining depth raw
ending_left ds defining depth (t ∷ ts) raw = if ends depth t then t ∷ raw
    else ending_left ds defining (depth_after depth t.token) ts raw
