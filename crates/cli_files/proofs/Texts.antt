-- Values that are strings.
use Rattle.std.proofs.Common.{◌≡◌, ◌∙◌, List, [], ◌∷◌, ap, refl, ◌&&◌, is_some}
use Rattle.std.specs.List.{list_all}
use Rattle.toml.specs.Data.{Data, as_str, string, integer, float, boolean, datetime, array, table, Items, item}
use Rattle.toml.specs.View.{view, items_view}
use Rattle.toml.specs.declared.value.Value.{Value}
use Rattle.cli_files.specs.Settings.{are_texts}

text_first : (d : Data) (ds : Items) → (is_some (as_str d) && are_texts ds) ≡ are_texts (item d ds)
text_first (string s) ds = refl
text_first (integer z) ds = refl
text_first (float x) ds = refl
text_first (boolean b) ds = refl
text_first (datetime t) ds = refl
text_first (array a) ds = refl
text_first (table t) ds = refl

pub all_texts : (vs : List Value) → list_all (λ v. is_some (as_str (view v))) vs ≡ are_texts (items_view vs)
all_texts [] = refl
all_texts (v ∷ vs) = ap (λ b. is_some (as_str (view v)) && b) (all_texts vs) ∙ text_first (view v) (items_view vs)
