-- How the words in a string come byte by byte.
use Rattle.std.proofs.Common.{◌≡◌, ℕ, Bool, cond, ap, zero, suc, sym, ◌+◌, ◌-◌, ◌<◌, ◌≤◌, true, false, List, [], ◌∷◌, ◌++◌, length, get_or, take, drop, refl, ◌∙◌, arith, drop-cons, add-one, length-drop}
use Rattle.std.proofs.lemmas.List.{take_more, get_or-drop, take_all, take_rest, drop_all, append-nil, take-append-drop}
use Rattle.std.proofs.lemmas.Bool.{false≢true}
use Rattle.std.specs.Prelude.{not}
use Rattle.std.specs.List.{list_all}
use Rattle.pf_eval.specs.inner.Cursors.{begins_plain}
use Rattle.std.proofs.lemmas.Slice.Eq.{bytes_eq-Decides}
use Rattle.std.specs.Prelude.{bytes_eq}
use Rattle.pf_eval.specs.PacketTexts.{is_blank, ended, words_from, words, begins}
use Rattle.pf_eval.proofs.Spaces.{grows}

at_drop : (text : List ℕ) (start i : ℕ) → start ≤ i → get_or (drop start text) (i - start) 0 ≡ get_or text i 0
at_drop text start i h = get_or-drop start text (i - start) 0 ∙ ap (λ n. get_or text n 0) (omega arith)

one_more : (text : List ℕ) (start i : ℕ) → start ≤ i → i < length text
    → take (i + 1 - start) (drop start text) ≡ take (i - start) (drop start text) ++ get_or text i 0 ∷ []
one_more text start i h k =
    let n : i + 1 - start ≡ i - start + 1 = omega arith in
    rw n (take_more (drop start text) (i - start) 0 (omega (arith, length-drop start text)) ∙ ap (λ b. take (i - start) (drop start text) ++ b ∷ []) (at_drop text start i h))

from_here : (text : List ℕ) (i : ℕ) → i < length text → drop i text ≡ get_or text i 0 ∷ drop (i + 1) text
from_here text i h = rw add-one (drop-cons text i 0 h)

-- a byte that is no blank goes on with the word
pub word_grows : (text : List ℕ) (start i : ℕ) → start ≤ i → i < length text → is_blank (get_or text i 0) ≡ false
    → words_from (take (i - start) (drop start text)) (drop i text) ≡ words_from (take (i + 1 - start) (drop start text)) (drop (i + 1) text)
word_grows text start i h k e = rw (from_here text i k, e, one_more text start i h k) refl

-- a blank ends it
pub word_ends : (text : List ℕ) (start i : ℕ) → start ≤ i → i < length text → is_blank (get_or text i 0) ≡ true
    → words_from (take (i - start) (drop start text)) (drop i text) ≡ ended (take (i - start) (drop start text)) ++ words_from [] (drop (i + 1) text)
word_ends text start i h k e = rw (from_here text i k, e) refl

-- and the next one begins
pub word_begins : (text : List ℕ) (i : ℕ) → words_from [] (drop i text) ≡ words_from (take (i - i) (drop i text)) (drop i text)
word_begins text i = let n : i - i ≡ 0 = omega arith in rw n refl

-- ---- the first word of a string

-- the word which begins the text has begun
abbrev pub HasBegun : List ℕ → ℕ → Type 0
HasBegun text i = words_from (take i text) (drop i text) ≡ words text

pub word_stays : (text : List ℕ) (i : ℕ) → i < length text → is_blank (get_or text i 0) ≡ false → HasBegun text i → HasBegun text (i + 1)
word_stays text i h e begun =
    let more : take (i + 1) text ≡ take i text ++ get_or text i 0 ∷ [] = take_more text i 0 h in
    rw more (sym (grown text i h e) ∙ begun)
  where
    grown : (text : List ℕ) (i : ℕ) → i < length text → is_blank (get_or text i 0) ≡ false → words_from (take i text) (drop i text) ≡ words_from (take i text ++ get_or text i 0 ∷ []) (drop (i + 1) text)
    grown text i h e = rw (from_here text i h, e) refl

ended_some : (word : List ℕ) → 0 < length word → ended word ≡ word ∷ []
ended_some [] h = absurd (omega arith)
ended_some (b ∷ bytes) h = refl

-- a blank ends what has begun
blank_ends : (begun text : List ℕ) (i : ℕ) → i < length text → is_blank (get_or text i 0) ≡ true → words_from begun (drop i text) ≡ ended begun ++ words (drop (i + 1) text)
blank_ends begun text i h e = rw (from_here text i h, e) refl

cut_here : (text : List ℕ) (i : ℕ) → i < length text → is_blank (get_or text i 0) ≡ true → begins_plain text ≡ true → HasBegun text i → take i text ∷ words (drop (i + 1) text) ≡ words text
cut_here [] i h e plain begun = absurd (omega arith)
cut_here (b ∷ bytes) zero h e plain begun = absurd (false≢true (rw e at plain))
cut_here (b ∷ bytes) (suc i) h e plain begun = sym (blank_ends (take (suc i) (b ∷ bytes)) (b ∷ bytes) (suc i) h e) ∙ begun

pub word_cut : (text : List ℕ) (i : ℕ) → i < length text → is_blank (get_or text i 0) ≡ true → begins_plain text ≡ true → HasBegun text i
    → take i text ∷ words (take (length text - (i + 1)) (drop (i + 1) text)) ≡ words text
word_cut text i h e plain begun = rw (take_rest text (i + 1)) (cut_here text i h e plain begun)

pub word_whole : (text : List ℕ) → begins_plain text ≡ true → HasBegun text (length text) → text ∷ words (take (length text - length text) (drop (length text) text)) ≡ words text
word_whole [] plain begun = absurd (false≢true plain)
word_whole (b ∷ bytes) plain begun =
    let none = drop_all (length (b ∷ bytes)) (b ∷ bytes) (omega arith) in
    let all = take_all (length (b ∷ bytes)) (b ∷ bytes) (omega arith) in
    rw (take_rest (b ∷ bytes) (length (b ∷ bytes)), none) (rw (none, all) at begun)

-- ---- a key at the front

abbrev pub IsPlain : List ℕ → Type 0
IsPlain key = list_all (λ b. not (is_blank b)) key ≡ true

key_word : (key : List ℕ) → 0 < length key → IsPlain key → words key ≡ key ∷ []
key_word key some plain = ap (λ (w : List ℕ). words_from [] w) (sym (append-nil key)) ∙ grows [] key [] plain ∙ ended_some key some

pub key_ends : (text key : List ℕ) → 0 < length key → IsPlain key → take (length key) text ≡ key → length text ≡ length key → words text ≡ key ∷ words (take (length text - length key) (drop (length key) text))
key_ends text key some plain front same =
    let whole : text ≡ key = sym (take_all (length key) text (omega arith)) ∙ front in
    let none : drop (length key) text ≡ [] = drop_all (length key) text (omega arith) in
    rw (take_rest text (length key), none) (ap words whole ∙ key_word key some plain)

pub key_goes_on : (text key : List ℕ) → 0 < length key → IsPlain key → take (length key) text ≡ key → length key < length text → is_blank (get_or text (length key) 0) ≡ true
    → words text ≡ key ∷ words (take (length text - (length key + 1)) (drop (length key + 1) text))
key_goes_on text key some plain front more e =
    let split : text ≡ key ++ drop (length key) text = sym (take-append-drop (length key) text) ∙ ap (λ (w : List ℕ). w ++ drop (length key) text) front in
    rw (take_rest text (length key + 1)) (ap words split ∙ grows [] key (drop (length key) text) plain ∙ blank_ends key text (length key) more e ∙ ap (λ (ws : List (List ℕ)). ws ++ words (drop (length key + 1) text)) (ended_some key some))

-- ---- another word first

-- what has begun with a byte is a word that begins with it
begun_begins : (b : ℕ) (begun text key : List ℕ) → begins key (words_from (b ∷ begun) text) ≡ true → b ≡ get_or key 0 0
begun_begins b begun [] key e = same_front (b ∷ begun) key e
  where
    same_front : (w key : List ℕ) → bytes_eq w key ≡ true → get_or w 0 0 ≡ get_or key 0 0
    same_front w key e = ap (λ (v : List ℕ). get_or v 0 0) ((bytes_eq-Decides w key).0 e)
begun_begins b begun (c ∷ text) key e = cases (begun_begins b (begun ++ c ∷ []) text key) (is_blank c) refl e
  where
    cases : (begins key (words_from (b ∷ begun ++ c ∷ []) text) ≡ true → b ≡ get_or key 0 0) → (t : Bool) → is_blank c ≡ t → begins key (cond t (ended (b ∷ begun) ++ words text) (words_from ((b ∷ begun) ++ c ∷ []) text)) ≡ true → b ≡ get_or key 0 0
    cases next true h e = ap (λ (v : List ℕ). get_or v 0 0) ((bytes_eq-Decides (b ∷ begun) key).0 e)
    cases next false h e = next e

pub other_first : (text key : List ℕ) → 0 < length text → is_blank (get_or text 0 0) ≡ false → (get_or text 0 0 ≡ get_or key 0 0 → ⊥) → begins key (words text) ≡ false
other_first [] key some plain other = absurd (omega arith)
other_first (b ∷ text) key some plain other = no (begins key (words (b ∷ text))) refl
  where
    no : (t : Bool) → begins key (words (b ∷ text)) ≡ t → t ≡ false
    no false e = refl
    no true e = absurd (other (begun_begins b [] text key (rw plain at e)))
