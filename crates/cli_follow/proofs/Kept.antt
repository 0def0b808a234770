-- The files of a folder, one after the other.
use Rattle.std.proofs.Common.{◌≡◌, ◌++◌, ◌∙◌, ℕ, List, [], ◌∷◌, map, refl, sym, ap, append_assoc}
use Rattle.std.specs.Prelude.{◌||◌, Bool, bytes_eq, string_bytes}
use Rattle.std.specs.List.{list_any}
use Rattle.std.proofs.lemmas.List.{map-append}
use Rattle.cli_follow.specs.declared.files.TextFile.{TextFile}
use Rattle.cli_follow.specs.Files.{FileValue, file_value, is_named}

-- a name is asked for of the files as of their values
pub any_named : (name : List ℕ) (fs : List TextFile) →
    list_any (λ (f : TextFile). bytes_eq (string_bytes f.name) name) fs ≡ list_any (is_named name) (map file_value fs)
any_named name [] = refl
any_named name (f ∷ fs) = ap (λ (b : Bool). bytes_eq (string_bytes f.name) name || b) (any_named name fs)

-- a loop makes a file of each element: one more file, and one element fewer that is left
pub one_more : {X : Type 0} (of : X → FileValue) (fs after : List TextFile) (f : TextFile) (x : X) (left rest : List X)
    (all : List FileValue) → map file_value fs ++ map of left ≡ all → after ≡ fs ++ f ∷ [] → left ≡ x ∷ rest →
    file_value f ≡ of x → map file_value after ++ map of rest ≡ all
one_more {X = X} of fs after f x left rest all before pushed is value =
    ap (λ (ys : List TextFile). map file_value ys ++ map of rest) pushed
    ∙ ap (λ (vs : List FileValue). vs ++ map of rest) (map-append file_value fs (f ∷ []))
    ∙ append_assoc (map file_value fs) (file_value f ∷ []) (map of rest)
    ∙ ap (λ (v : FileValue). map file_value fs ++ (v ∷ map of rest)) value
    ∙ ap (λ (xs : List X). map file_value fs ++ map of xs) (sym is) ∙ before
