-- The node's answers: whether what was asked for was done.
use Rattle.std.specs.Prelude.{ℕ, ◌==◌, ◌&&◌, ◌||◌, Bool, List, [], ◌∷◌, not, nat_lt, take, drop, codes, if◌then◌else◌}
use Rattle.std.specs.List.{prefix_len, starts_with}
use Rattle.cli_ask.specs.declared.call.Kind.{Kind}
use Rattle.cli_ask.specs.declared.call.Kind.TheVariants as kind

-- whether a string begins with this one
abbrev pub begins : (text front : List ℕ) → Bool
begins text front = starts_with (λ a b. a == b) text front

-- how long the first line is, and the part before the first blank
abbrev pub line_len : List ℕ → ℕ
line_len text = prefix_len (λ b. not (b == 10)) text

abbrev pub word_len : List ℕ → ℕ
word_len text = prefix_len (λ b. not (b == 32)) text

-- what is behind the first byte
abbrev pub behind_first : List ℕ → List ℕ
behind_first [] = []
behind_first (b ∷ bytes) = bytes

-- what is behind the first line, if that begins so; else all of it
abbrev pub behind_line : (front : List ℕ) → (body : List ℕ) → List ℕ
behind_line front body = if begins body front then behind_first (drop (line_len body) body) else body

-- what became of a command: what is behind the line `asked N.NUMBER`, if that comes first
-- Example: 2 of 3 match doesn't.
abbrev pub outcome_behind : List ℕ → List ℕ
outcome_behind body = behind_line (codes "asked ") body

-- of addresses that were looked up all are in the table, as by `3 of 3 match`: a number, and behind " of " the same
abbrev pub all_match : List ℕ → Bool
all_match body =
    let n : ℕ = word_len body in
    begins (drop n body) (codes " of ") && (begins (drop 4 (drop n body)) (take n body)
    && begins (drop n (drop 4 (drop n body))) (codes " "))

-- a change was made, or accepted where nothing more was asked; an outcome that isn't known any more is neither
abbrev pub is_made : (code : ℕ) → (body : List ℕ) → Bool
is_made code body = (code == 202) || (nat_lt code 300 && begins (outcome_behind body) (codes "ok"))

-- an answer, by HTTP's status and its body, is that what was asked for was done
abbrev pub is_done : Kind → (code : ℕ) → (body : List ℕ) → Bool
is_done kind.Read code body = nat_lt code 300
is_done kind.List code body = nat_lt code 300
is_done kind.Test code body = nat_lt code 300
is_done kind.TableTest code body = nat_lt code 300 && all_match body
is_done kind.Sync code body = nat_lt code 300 && not (begins (outcome_behind body) (codes "refused"))
is_done kind.Change code body = is_made code body
