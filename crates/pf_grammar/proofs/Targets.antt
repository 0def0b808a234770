-- A shown target is read again.
use Rattle.std.proofs.Common.{◌≡◌, ℕ, ◌+◌, ◌-◌, ◌≤◌, ◌==◌, ◌&&◌, ◌||◌, ◌⊎◌, inl, inr, Bool, true, false, List, [], ◌∷◌, ◌++◌, length, map, drop, Option, Some, refl, sym, ap, subst, ◌∙◌, append_assoc, arith, eqb-true, nat_le}
use Rattle.std.specs.Prelude.{codes, bytes_eq}
use Rattle.std.specs.Char.{is_ascii_alphanumeric}
use Rattle.std.specs.Int.{is_in_range}
use Rattle.std.specs.List.{AllByRecursion, list_all, prefix_len}
use Rattle.std.proofs.lemmas.Bool.{and_parts, false≢true, leb-true}
use Rattle.std.proofs.lemmas.Bool.Decides.{nat_tests}
use Rattle.std.proofs.lemmas.List.{append-nil, length-append, take_at, drop_at}
use Rattle.std.proofs.lemmas.Slice.Eq.{bytes_eq-Decides}
use Rattle.pf_addr.specs.Spelling.{pieces}
use Rattle.pf_addr.proofs.Marks.{Apart, pieces_mark, pieces_last}
use Rattle.pf_rules.specs.Words.{is_table_byte, is_anchor_byte, is_anchor_text}
use Rattle.pf_tokens.specs.Tokens.{Quoted, Letter, letters, line_after, is_quoted_byte, Front, front, quoted_closed, tokens_behind, Placed}
use Rattle.pf_tokens.specs.Productions.{◌>>=◌}
use Rattle.pf_rules.specs.Names.{Name}
use Rattle.pf_rules.specs.Items.{Target}
use Rattle.pf_statements.specs.Targets.{names_of, target_with, target_of}
use Rattle.pf_show.specs.Shown.{slashed, children_text, target_text, target_part}
use Rattle.pf_grammar.proofs.Parts.{lexed, at_line, bytes_of, letter_at, front_lexes, letter_first, bytes_word, behind_all, length_letters, IsPart}

-- ---- a string

-- bytes that are in a string
abbrev pub AreQuoted : List ℕ → Type 0
AreQuoted text = list_all is_quoted_byte text ≡ true

quoted_append : (xs ys : List ℕ) → AreQuoted xs → AreQuoted ys → AreQuoted (xs ++ ys)
quoted_append [] ys p q = q
quoted_append (x ∷ xs) ys p q = let h = and_parts (is_quoted_byte x) (list_all is_quoted_byte xs) p in rw (h.0, quoted_append xs ys h.1 q) refl

quoted_not : (x b : ℕ) → is_quoted_byte x ≡ false → is_quoted_byte b ≡ true → (b == x) ≡ false
quoted_not x b stops quoted = cases (b == x) refl
  where
    cases : (t : Bool) → (b == x) ≡ t → t ≡ false
    cases true e = absurd (false≢true (sym stops ∙ ap is_quoted_byte (sym (eqb-true b x e)) ∙ quoted))
    cases false e = refl

same_line : (n b : ℕ) → is_quoted_byte b ≡ true → line_after n b ≡ n
same_line n b quoted = rw (quoted_not 10 b refl quoted) refl

letters_quoted : (n : ℕ) (text rest : List ℕ) → AreQuoted text → letters n (text ++ rest) ≡ map (letter_at n) text ++ letters n rest
letters_quoted n [] rest all = refl
letters_quoted n (b ∷ text) rest all =
    let h = and_parts (is_quoted_byte b) (list_all is_quoted_byte text) all in
    letter_first n b (text ++ rest) (quoted_not 92 b refl h.0)
    ∙ ap (λ (k : ℕ). letter_at n b ∷ letters k (text ++ rest)) (same_line n b h.0)
    ∙ ap (λ (ls : List Letter). letter_at n b ∷ ls) (letters_quoted n text rest h.1)

quoted_len : (text more : List ℕ) → AreQuoted text → prefix_len is_quoted_byte (text ++ 34 ∷ more) ≡ length text
quoted_len [] more all = refl
quoted_len (b ∷ text) more all =
    let h = and_parts (is_quoted_byte b) (list_all is_quoted_byte text) all in
    let len = quoted_len text more h.1 in
    rw h.0 (omega (arith, len))

abbrev quoted_front : List ℕ → ℕ → Front
quoted_front text len = record { token = Some (Quoted text); len = len }

string_front : (text more : List ℕ) → AreQuoted text → front (34 ∷ (text ++ 34 ∷ more)) ≡ quoted_front text (length text + 2)
string_front text more all =
    let bytes = text ++ 34 ∷ more in
    ap (λ (k : ℕ). quoted_closed bytes k (drop k bytes)) (quoted_len text more all)
    ∙ ap (quoted_closed bytes (length text)) (drop_at text (34 ∷ more) (length text) refl)
    ∙ ap (λ (t : List ℕ). quoted_front t (length text + 2)) (take_at text (34 ∷ more) (length text) refl)

string_lexes : (n : ℕ) (text rest : List ℕ) → AreQuoted text → lexed n (34 ∷ (text ++ 34 ∷ rest)) ≡ at_line n (Quoted text) ∷ lexed n rest
string_lexes n text rest all =
    let more = text ++ 34 ∷ rest in
    let front_letters = map (letter_at n) text in
    let ls_are : letters n more ≡ front_letters ++ (letter_at n 34 ∷ letters n rest) = letters_quoted n text (34 ∷ rest) all ∙ ap (λ (ls : List Letter). front_letters ++ ls) (letter_first n 34 rest refl) in
    let bytes : bytes_of (letters n more) ≡ text ++ 34 ∷ bytes_of (letters n rest) = ap bytes_of ls_are ∙ bytes_word n text (letter_at n 34 ∷ letters n rest) in
    let count : (length text + 2) - 1 ≡ length (front_letters ++ letter_at n 34 ∷ []) = omega (arith, length-append front_letters (letter_at n 34 ∷ []), length_letters n text) in
    front_lexes n 34 more (quoted_front text (length text + 2)) refl (ap (λ (bs : List ℕ). front (34 ∷ bs)) bytes ∙ string_front text (bytes_of (letters n rest)) all)
    ∙ ap (λ (ls : List Letter). at_line n (Quoted text) ∷ tokens_behind ((length text + 2) - 1) ls) (ls_are ∙ sym (append_assoc front_letters (letter_at n 34 ∷ []) (letters n rest)))
    ∙ ap (λ (k : ℕ). at_line n (Quoted text) ∷ tokens_behind k ((front_letters ++ letter_at n 34 ∷ []) ++ letters n rest)) count
    ∙ ap (λ (ps : List Placed). at_line n (Quoted text) ∷ ps) (behind_all (front_letters ++ letter_at n 34 ∷ []) (letters n rest))

string_part : (text : List ℕ) → AreQuoted text → IsPart (34 ∷ (text ++ 34 ∷ [])) (Quoted text ∷ [])
string_part text all = record { lexes = λ n c rest blank. ap (λ (bs : List ℕ). lexed n (34 ∷ bs)) (append_assoc text (34 ∷ []) (c ∷ rest)) ∙ string_lexes n text (c ∷ rest) all }

-- ---- names

or_parts : (a b : Bool) → (a || b) ≡ true → (a ≡ true) ⊎ (b ≡ true)
or_parts true b e = inl refl
or_parts false b e = inr e

-- a byte of a string, and no slash
abbrev Fine : ℕ → Type 0
Fine b = (is_quoted_byte b ≡ true) × ((b == 47) ≡ false)

fine_between : (b : ℕ) → 48 ≤ b → b ≤ 122 → (b == 92) ≡ false → Fine b
fine_between b low high apart =
    let nine : (b == 9) ≡ false = grind (arith, nat_tests, low) in
    let least : nat_le 32 b ≡ true = grind (arith, nat_tests, low) in
    let most : nat_le b 126 ≡ true = grind (arith, nat_tests, high) in
    let quote : (b == 34) ≡ false = grind (arith, nat_tests, low) in
    (rw (nine, least, most, quote, apart) refl, grind (arith, nat_tests, low))

fine_range : (lo hi b : ℕ) → 48 ≤ lo → hi ≤ 122 → ((b : ℕ) → lo ≤ b → b ≤ hi → (b == 92) ≡ false) → is_in_range lo hi b ≡ true → Fine b
fine_range lo hi b low high apart e =
    let parts = and_parts (nat_le lo b) (nat_le b hi) e in
    let from = leb-true lo b parts.0 in
    let to = leb-true b hi parts.1 in
    fine_between b (omega (arith, low, from)) (omega (arith, high, to)) (apart b from to)

fine_alphanumeric : (b : ℕ) → is_ascii_alphanumeric b ≡ true → Fine b
fine_alphanumeric b e =
    elim (or_parts (is_in_range 48 57 b || is_in_range 65 90 b) (is_in_range 97 122 b) e) [
      | inl first ↦ elim (or_parts (is_in_range 48 57 b) (is_in_range 65 90 b) first) [
        | inl digit ↦ fine_range 48 57 b (omega arith) (omega arith) (λ c low high. grind (arith, nat_tests, high)) digit
        | inr upper ↦ fine_range 65 90 b (omega arith) (omega arith) (λ c low high. grind (arith, nat_tests, high)) upper
      ]
      | inr lower ↦ fine_range 97 122 b (omega arith) (omega arith) (λ c low high. grind (arith, nat_tests, low)) lower
    ]

fine_at : (b n : ℕ) → (b == n) ≡ true → Fine n → Fine b
fine_at b n e fine = subst Fine (sym (eqb-true b n e)) fine

fine_table : (b : ℕ) → is_table_byte b ≡ true → Fine b
fine_table b e =
    elim (or_parts (is_ascii_alphanumeric b) (b == 95 || b == 45) e) [
      | inl letter ↦ fine_alphanumeric b letter
      | inr sign ↦ elim (or_parts (b == 95) (b == 45) sign) [ inl under ↦ fine_at b 95 under (refl, refl) | inr hyphen ↦ fine_at b 45 hyphen (refl, refl) ]
    ]

fine_anchor : (b : ℕ) → is_anchor_byte b ≡ true → Fine b
fine_anchor b e = elim (or_parts (is_table_byte b) (b == 46) e) [ inl common ↦ fine_table b common | inr dot ↦ fine_at b 46 dot (refl, refl) ]

fine_bytes : (text : List ℕ) → list_all is_anchor_byte text ≡ true → AreQuoted text × Apart 47 text
fine_bytes [] all = (refl, tt)
fine_bytes (b ∷ text) all =
    let h = and_parts (is_anchor_byte b) (list_all is_anchor_byte text) all in
    let fine = fine_anchor b h.0 in
    let more = fine_bytes text h.1 in
    (rw (fine.0, more.0) refl, (fine.1, more.1))

fine_name : (name : Name) → is_anchor_text name ≡ true → AreQuoted name × Apart 47 name
unfolding is_anchor_text
fine_name name e = fine_bytes name (and_parts _ _ (and_parts _ _ (and_parts _ _ e).0).0).1

star_is_none : is_anchor_text (codes "*") ≡ false
unfolding is_anchor_text
star_is_none = refl

not_star : (name : Name) → is_anchor_text name ≡ true → bytes_eq name (codes "*") ≡ false
not_star name e = cases (bytes_eq name (codes "*")) refl
  where
    cases : (b : Bool) → bytes_eq name (codes "*") ≡ b → b ≡ false
    cases true same = absurd (false≢true (sym star_is_none ∙ sym (ap is_anchor_text ((bytes_eq-Decides name (codes "*")).0 same)) ∙ e))
    cases false same = refl

-- ---- targets

abbrev pub AreAnchorNames : List Name → Type 0
AreAnchorNames names = AllByRecursion (λ name. is_anchor_text name ≡ true) names

-- a target of a rule that a source gives
pub record FitsTarget (t : Target) : Type 0 where
  pub names : AreAnchorNames t.names
  pub few : (nat_le 1 (length t.names) && nat_le (length t.names) 8) ≡ true

slashed_quoted : (names : List Name) → AreAnchorNames names → AreQuoted (slashed names)
slashed_quoted [] all = refl
slashed_quoted (name ∷ []) all = (fine_name name all.0).0
slashed_quoted (name ∷ other ∷ names) all = quoted_append name (47 ∷ slashed (other ∷ names)) (fine_name name all.0).0 (slashed_quoted (other ∷ names) all.1)

children_quoted : (children : Bool) → AreQuoted (children_text children)
children_quoted true = refl
children_quoted false = refl

pub target_is_part : (t : Target) → FitsTarget t → IsPart (target_part t) (Quoted (target_text t) ∷ [])
target_is_part t fits = string_part (target_text t) (quoted_append (slashed t.names) (children_text t.children) (slashed_quoted t.names fits.names) (children_quoted t.children))

-- what is behind the names
abbrev stars : Bool → List (List ℕ)
stars true = codes "*" ∷ []
stars false = []

pieces_again : (name : Name) (names : List Name) (children : Bool) → AreAnchorNames (name ∷ names) → pieces 47 (slashed (name ∷ names) ++ children_text children) ≡ (name ∷ names) ++ stars children
pieces_again name [] true all = pieces_mark 47 name (codes "*") (fine_name name all.0).1
pieces_again name [] false all = ap (pieces 47) (append-nil name) ∙ pieces_last 47 name (fine_name name all.0).1
pieces_again name (other ∷ names) children all =
    ap (pieces 47) (append_assoc name (47 ∷ slashed (other ∷ names)) (children_text children))
    ∙ pieces_mark 47 name (slashed (other ∷ names) ++ children_text children) (fine_name name all.0).1
    ∙ ap (λ (ps : List (List ℕ)). name ∷ ps) (pieces_again other names children all.1)

abbrev read_names : List Name × Bool → Option (List Name × Bool)
read_names x = Some x

names_again : (name : Name) (names : List Name) (children : Bool) → AreAnchorNames (name ∷ names) → names_of ((name ∷ names) ++ stars children) ≡ read_names (name ∷ names, children)
names_again name [] true all = rw all.0 refl
names_again name [] false all = rw (not_star name all.0, all.0) refl
names_again name (other ∷ names) children all = rw (all.0, names_again other names children all.1) refl

target_read : (names : List Name) (children : Bool) → AreAnchorNames names → (nat_le 1 (length names) && nat_le (length names) 8) ≡ true → target_of (slashed names ++ children_text children) ≡ Some (record { names = names; children = children })
unfolding target_of
target_read [] children all few = absurd (false≢true few)
target_read (name ∷ names) children all few =
    ap (λ (ps : List (List ℕ)). names_of ps >>= target_with) (pieces_again name names children all)
    ∙ ap (λ (o : Option (List Name × Bool)). o >>= target_with) (names_again name names children all)
    ∙ rw few refl

-- a shown target is read as itself
pub target_again : (t : Target) → FitsTarget t → target_of (target_text t) ≡ Some t
target_again t fits = target_read t.names t.children fits.names fits.few
