-- The messages beside an answer.
use Rattle.std.specs.Prelude.{ℕ, ◌-◌, List, [], ◌++◌, Option, Some, None, codes, decimal, nat_lt, if◌then◌else◌}

abbrev pub count_text : (left : ℕ) → List ℕ
count_text left = codes "pfx: " ++ decimal left ++ codes " positions left in the log\n"

-- how many positions are left, once few are
abbrev pub left_text : (front : Option ℕ) → List ℕ
left_text None = []
left_text (Some front) = if nat_lt front 900000 then [] else count_text (1000000 - front)
