-- Reading the names of a target one after another.
use Rattle.std.proofs.Common.{◌≡◌, ℕ, Bool, true, false, List, [], ◌∷◌, ◌++◌, Option, Some, None, refl, sym, ap, ◌∙◌, append_assoc}
use Rattle.std.proofs.lemmas.List.{append-nil}
use Rattle.pf_addr.specs.Spelling.{pieces, cut_at}
use Rattle.pf_addr.proofs.Pieces.{pieces_left, pieces_cut}
use Rattle.pf_rules.specs.Words.{is_anchor_text}
use Rattle.pf_tokens.specs.Productions.{◌>>=◌}
use Rattle.pf_rules.specs.Names.{Name, name_if}
use Rattle.pf_rules.specs.Items.{Target}
use Rattle.pf_statements.specs.Targets.{is_star, in_front, names_of, target_with, target_of}

-- names behind others
abbrev pub behind : List Name → Option (List Name × Bool) → Option (List Name × Bool)
behind names None = None
behind names (Some (more, children)) = Some (names ++ more, children)

abbrev read_names : List Name × Bool → Option (List Name × Bool)
read_names x = Some x

-- one more of them is in front
behind_one : (names : List Name) (name : Name) (read : Option (List Name × Bool)) → behind (names ++ name ∷ []) read ≡ behind names (in_front (Some name) read)
behind_one names name None = refl
behind_one names name (Some (more, children)) = ap (λ (all : List Name). read_names (all, children)) (append_assoc names (name ∷ []) more)

behind_none : (read : Option (List Name × Bool)) → behind [] read ≡ read
behind_none None = refl
behind_none (Some (more, children)) = refl

-- behind a piece stand others
pub star_more : (piece text : List ℕ) → is_star (piece ∷ pieces 47 text) ≡ false
star_more piece text = rw (pieces_cut 47 text) refl

-- the names so far and those of what is left are those of all
abbrev pub Left : List Name → Option (List ℕ) → List ℕ → Type 0
Left names rest text = behind names (names_of (pieces_left 47 rest)) ≡ names_of (pieces 47 text)

pub left_first : (text : List ℕ) → Left [] (Some text) text
left_first text = behind_none (names_of (pieces 47 text))

cut_pieces : (bytes piece : List ℕ) (others : Option (List ℕ)) → (piece, others) ≡ cut_at 47 bytes → pieces 47 bytes ≡ piece ∷ pieces_left 47 others
cut_pieces bytes piece others e = pieces_cut 47 bytes ∙ ap (λ (c : List ℕ × Option (List ℕ)). c.0 ∷ pieces_left 47 c.1) (sym e)

pub left_star : (names : List Name) (bytes text piece : List ℕ) (others : Option (List ℕ)) → Left names (Some bytes) text → (piece, others) ≡ cut_at 47 bytes → is_star (piece ∷ pieces_left 47 others) ≡ true → target_with (names, true) ≡ target_of text
unfolding target_of
left_star names bytes text piece others left cut star =
    let all : names_of (pieces 47 text) ≡ read_names (names ++ [], true) = sym left ∙ rw (cut_pieces bytes piece others cut, star) refl in
    ap (λ (ns : List Name). target_with (ns, true)) (sym (append-nil names)) ∙ sym (ap (λ (o : Option (List Name × Bool)). o >>= target_with) all)

pub left_bad : (names : List Name) (bytes text piece : List ℕ) (others : Option (List ℕ)) → Left names (Some bytes) text → (piece, others) ≡ cut_at 47 bytes → is_star (piece ∷ pieces_left 47 others) ≡ false → None ≡ name_if is_anchor_text piece → None ≡ target_of text
unfolding target_of
left_bad names bytes text piece others left cut star bad =
    let all : names_of (pieces 47 text) ≡ None = sym left ∙ rw (cut_pieces bytes piece others cut, star, sym bad) refl in
    sym (ap (λ (o : Option (List Name × Bool)). o >>= target_with) all)

pub left_one : (names : List Name) (name : Name) (bytes text piece : List ℕ) (others : Option (List ℕ)) → Left names (Some bytes) text → (piece, others) ≡ cut_at 47 bytes → is_star (piece ∷ pieces_left 47 others) ≡ false → Some name ≡ name_if is_anchor_text piece → Left (names ++ name ∷ []) others text
left_one names name bytes text piece others left cut star good =
    behind_one names name (names_of (pieces_left 47 others))
    ∙ sym (rw (cut_pieces bytes piece others cut, star, sym good) refl) ∙ left

pub left_end : (names : List Name) (text : List ℕ) → Left names None text → target_with (names, false) ≡ target_of text
unfolding target_of
left_end names text left = ap (λ (ns : List Name). target_with (ns, false)) (sym (append-nil names)) ∙ ap (λ (o : Option (List Name × Bool)). o >>= target_with) left
