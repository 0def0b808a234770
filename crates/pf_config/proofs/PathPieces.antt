-- How the pieces of a path's text come byte by byte.
use Rattle.std.proofs.Common.{◌≡◌, ◌==◌, ℕ, ◌+◌, ◌-◌, ◌<◌, ◌≤◌, true, false, ◌&&◌, List, [], ◌∷◌, ◌++◌, Some, None, length, get_or, take, drop, refl, ap, ◌∙◌, arith, drop-cons, add-one, length-drop, nat_le}
use Rattle.std.specs.Prelude.{if◌then◌else◌, not}
use Rattle.std.specs.List.{list_all}
use Rattle.std.proofs.lemmas.List.{take_more, get_or-drop}
use Rattle.pf_rules.specs.Words.{is_anchor_text}
use Rattle.pf_rules.specs.Names.{is_path_name, path_if, begins_below}
use Rattle.pf_config.specs.PathTexts.{pieces, pieces_from, some_path}
use Rattle.pf_config.specs.inner.PathTexts.{names_if}

at_drop : (text : List ℕ) (start i : ℕ) → start ≤ i → get_or (drop start text) (i - start) 0 ≡ get_or text i 0
at_drop text start i h = get_or-drop start text (i - start) 0 ∙ ap (λ n. get_or text n 0) (omega arith)

one_more : (text : List ℕ) (start i : ℕ) → start ≤ i → i < length text → take (i + 1 - start) (drop start text) ≡ take (i - start) (drop start text) ++ get_or text i 0 ∷ []
one_more text start i h k =
    let n : i + 1 - start ≡ i - start + 1 = omega arith in
    rw n (take_more (drop start text) (i - start) 0 (omega (arith, length-drop start text)) ∙ ap (λ b. take (i - start) (drop start text) ++ b ∷ []) (at_drop text start i h))

from_here : (text : List ℕ) (i : ℕ) → i < length text → drop i text ≡ get_or text i 0 ∷ drop (i + 1) text
from_here text i h = rw add-one (drop-cons text i 0 h)

-- a byte that is no slash goes on with the piece
pub piece_grows : (text : List ℕ) (start i : ℕ) → start ≤ i → i < length text → (get_or text i 0 == 47) ≡ false → pieces_from (take (i - start) (drop start text)) (drop i text) ≡ pieces_from (take (i + 1 - start) (drop start text)) (drop (i + 1) text)
piece_grows text start i h k e = rw (from_here text i k, e, one_more text start i h k) refl

-- a slash ends it
pub piece_ends : (text : List ℕ) (start i : ℕ) → start ≤ i → i < length text → (get_or text i 0 == 47) ≡ true → pieces_from (take (i - start) (drop start text)) (drop i text) ≡ take (i - start) (drop start text) ∷ pieces_from [] (drop (i + 1) text)
piece_ends text start i h k e = rw (from_here text i k, e) refl

-- and the next one begins
pub piece_begins : (text : List ℕ) (i : ℕ) → pieces_from [] (drop i text) ≡ pieces_from (take (i - i) (drop i text)) (drop i text)
piece_begins text i = let n : i - i ≡ 0 = omega arith in rw n refl

-- a piece that is no name makes no path
all_both : (names : List (List ℕ)) → list_all is_path_name names ≡ true → list_all is_anchor_text names ≡ true
all_both [] h = refl
all_both (n ∷ ns) h =
    (elim (is_anchor_text n) as (λ b. ((b && not (begins_below n)) && list_all is_path_name ns) ≡ true → (b && list_all is_anchor_text ns) ≡ true) [
      | true ↦ λ k. (elim (not (begins_below n)) as (λ b. (b && list_all is_path_name ns) ≡ true → list_all is_anchor_text ns ≡ true) [ true ↦ λ j. all_both ns j | false ↦ λ j. cc ]) k
      | false ↦ λ k. cc
    ]) h

pub no_names : (names : List (List ℕ)) → names_if names ≡ None → path_if names ≡ None
no_names names h =
    (elim (list_all is_path_name names) as (λ b. list_all is_path_name names ≡ b → (if nat_le (length names) 8 && b then Some names else None) ≡ None) [
      | true ↦ λ e. absurd (let a = all_both names e in let bad : (if true then Some names else None) ≡ None = rw a at h in cc)
      | false ↦ λ e. (elim (nat_le (length names) 8) as (λ b. (if b && false then Some names else None) ≡ None) [ true ↦ refl | false ↦ refl ])
    ]) refl

-- a string that isn't empty is read by its pieces
pub some_text : (text : List ℕ) → (length text == 0) ≡ false → some_path text ≡ path_if (pieces text)
some_text [] h = cc
some_text (b ∷ bytes) h = refl
