-- The explanation of a refusal.
use Rattle.std.specs.Prelude.{ℕ, List, [], ◌∷◌, ◌++◌, ◌==◌, Option, Some, None, bytes_eq, codes, decimal, find}
use Rattle.std.specs.List.{flat_map}
use Rattle.cli_io.specs.declared.paragraph.Explanation.{Explanation}

-- a table's row for a number: its first with this one
abbrev pub row_of : List Explanation → ℕ → Option Explanation
row_of table code = find (λ r. r.code == code) table

-- a table's row for a number in digits
abbrev pub named : List Explanation → List ℕ → Option Explanation
named table digits = find (λ r. bytes_eq (decimal r.code) digits) table

-- a line of a paragraph
abbrev pub part : List ℕ → List ℕ → List ℕ
part heading text = heading ++ text ++ 10 ∷ []

-- a refusal's paragraph: its number and its name, where it comes, what holds after it, what to do
abbrev pub paragraph : Explanation → List ℕ
paragraph r = decimal r.code ++ part (codes ": ") r.name.now ++ part (codes "  where  ") r.meaning.now
    ++ part (codes "  then   ") r.after.now ++ part (codes "  do     ") r.remedy.now

-- all paragraphs of a table, an empty line behind each
abbrev pub paragraphs : List Explanation → List ℕ
paragraphs table = flat_map (λ r. paragraph r ++ 10 ∷ []) table

-- ---- one line for a refusal

-- the line of a ruleset, where there is one
abbrev pub place_of : Option ℕ → List ℕ
place_of None = []
place_of (Some line) = 58 ∷ decimal line

-- SOURCE:LINE: NAME (CODE)
abbrev pub remark : (source : List ℕ) → (line : Option ℕ) → (name : List ℕ) → (code : ℕ) → List ℕ
remark source line name code =
    source ++ place_of line ++ codes ": " ++ name ++ codes " (" ++ decimal code ++ codes ")"
