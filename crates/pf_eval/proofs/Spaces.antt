-- The words in a string are those that blanks stand between.
use Rattle.std.proofs.Common.{◌≡◌, ◌≢◌, ℕ, suc, ◌-◌, ◌||◌, Bool, true, false, List, [], ◌∷◌, ◌++◌, length, get_or, refl, sym, ap, subst, ◌∙◌, append_assoc, arith}
use Rattle.std.specs.Prelude.{not}
use Rattle.std.specs.List.{list_all}
use Rattle.std.proofs.lemmas.Bool.{false≢true, and_parts, and_from, not-true}
use Rattle.std.proofs.lemmas.List.{append-nil}
use Rattle.pf_eval.specs.PacketTexts.{Word, is_blank, ended, words_from, words, has_outer_blank}
use Rattle.pf_eval.specs.PacketGrammar.{IsWord, AreBlanks, LastBlank, MoreBlanks, AreSpaced, LastWord, MoreWords}

-- ---- what is spaced so has these words

-- bytes that are no blanks go on with the word
pub grows : (begun word text : List ℕ) → list_all (λ b. not (is_blank b)) word ≡ true → words_from begun (word ++ text) ≡ words_from (begun ++ word) text
grows begun [] text e = ap (λ (w : List ℕ). words_from w text) (sym (append-nil begun))
grows begun (b ∷ bs) text e =
    let a = and_parts (not (is_blank b)) (list_all (λ b. not (is_blank b)) bs) e in
    let n : is_blank b ≡ false = not-true (is_blank b) a.0 in
    rw n (grows (begun ++ b ∷ []) bs text a.1 ∙ ap (λ (w : List ℕ). words_from w text) (append_assoc begun (b ∷ []) bs))

-- blanks alone give no word
passed : (blanks text : List ℕ) → AreBlanks blanks → words_from [] (blanks ++ text) ≡ words_from [] text
passed _ text (LastBlank b e) = rw e refl
passed _ text (MoreBlanks b bs e are) = rw e (passed bs text are)

pub ended_word : (word : Word) → IsWord word → ended word ≡ word ∷ []
ended_word [] is = absurd (is.some refl)
ended_word (b ∷ bs) is = refl

-- blanks end the word
ends : (word blanks text : List ℕ) → IsWord word → AreBlanks blanks → words_from word (blanks ++ text) ≡ word ∷ words_from [] text
ends word _ text is (LastBlank b e) = rw (e, ended_word word is) refl
ends word _ text is (MoreBlanks b bs e are) = rw (e, ended_word word is, passed bs text are) refl

pub words_are : (text : List ℕ) (ws : List Word) → AreSpaced text ws → words text ≡ ws
words_are _ _ (LastWord word is) =
    ap (λ (w : List ℕ). words_from [] w) (sym (append-nil word)) ∙ grows [] word [] is.plain ∙ ended_word word is
words_are _ _ (MoreWords word blanks text ws is are more) =
    grows [] word (blanks ++ text) is.plain ∙ ends word blanks text is are ∙ ap (λ (r : List Word). word ∷ r) (words_are text ws more)

-- ---- no blank is at either end

-- the last byte, if there is one, is no blank
abbrev pub ends_plain : List ℕ → Bool
ends_plain [] = true
ends_plain (b ∷ []) = not (is_blank b)
ends_plain (b ∷ c ∷ cs) = ends_plain (c ∷ cs)

last_byte : (text : List ℕ) → ends_plain text ≡ true → is_blank (get_or text (length text - 1) 0) ≡ false
last_byte [] e = refl
last_byte (b ∷ []) e = not-true (is_blank b) e
last_byte (b ∷ c ∷ cs) e =
    let n : length (b ∷ c ∷ cs) - 1 ≡ suc (length (c ∷ cs) - 1) = omega arith in
    ap (λ (i : ℕ). is_blank (get_or (b ∷ c ∷ cs) i 0)) n ∙ last_byte (c ∷ cs) e

last_plain : (text : List ℕ) → is_blank (get_or text (length text - 1) 0) ≡ false → ends_plain text ≡ true
last_plain [] e = refl
last_plain (b ∷ []) e = ap not e
last_plain (b ∷ c ∷ cs) e =
    let n : length (b ∷ c ∷ cs) - 1 ≡ suc (length (c ∷ cs) - 1) = omega arith in
    last_plain (c ∷ cs) (ap (λ (i : ℕ). is_blank (get_or (b ∷ c ∷ cs) i 0)) (sym n) ∙ e)

word_ends_plain : (word : Word) → list_all (λ b. not (is_blank b)) word ≡ true → ends_plain word ≡ true
word_ends_plain [] e = refl
word_ends_plain (b ∷ []) e = (and_parts (not (is_blank b)) true e).0
word_ends_plain (b ∷ c ∷ cs) e = word_ends_plain (c ∷ cs) (and_parts (not (is_blank b)) (list_all (λ b. not (is_blank b)) (c ∷ cs)) e).1

-- what is before another text doesn't matter
behind_plain : (front text : List ℕ) → text ≢ [] → ends_plain text ≡ true → ends_plain (front ++ text) ≡ true
behind_plain [] text some e = e
behind_plain (b ∷ []) [] some e = absurd (some refl)
behind_plain (b ∷ []) (c ∷ cs) some e = e
behind_plain (b ∷ c ∷ cs) text some e = behind_plain (c ∷ cs) text some e

nothing_before : (front text : List ℕ) → text ≢ [] → front ++ text ≢ []
nothing_before [] text some e = some e
nothing_before (b ∷ bs) text some e = absurd cc

spaced_some : (text : List ℕ) (ws : List Word) → AreSpaced text ws → text ≢ []
spaced_some _ _ (LastWord word is) e = is.some e
spaced_some _ _ (MoreWords word blanks text ws is are more) e = nothing_before word (blanks ++ text) (nothing_before blanks text (spaced_some text ws more)) e

spaced_ends_plain : (text : List ℕ) (ws : List Word) → AreSpaced text ws → ends_plain text ≡ true
spaced_ends_plain _ _ (LastWord word is) = word_ends_plain word is.plain
spaced_ends_plain _ _ (MoreWords word blanks text ws is are more) =
    behind_plain word (blanks ++ text) (nothing_before blanks text (spaced_some text ws more)) (behind_plain blanks text (spaced_some text ws more) (spaced_ends_plain text ws more))

word_begins_plain : (word text : List ℕ) → IsWord word → is_blank (get_or (word ++ text) 0 0) ≡ false
word_begins_plain [] text is = absurd (is.some refl)
word_begins_plain (b ∷ bs) text is = not-true (is_blank b) (and_parts (not (is_blank b)) (list_all (λ b. not (is_blank b)) bs) is.plain).0

spaced_begins_plain : (text : List ℕ) (ws : List Word) → AreSpaced text ws → is_blank (get_or text 0 0) ≡ false
spaced_begins_plain _ _ (LastWord word is) = subst (λ (t : List ℕ). is_blank (get_or t 0 0) ≡ false) (append-nil word) (word_begins_plain word [] is)
spaced_begins_plain _ _ (MoreWords word blanks text ws is are more) = word_begins_plain word (blanks ++ text) is

pub no_outer_blank : (text : List ℕ) (ws : List Word) → AreSpaced text ws → has_outer_blank text ≡ false
no_outer_blank text ws s = rw (spaced_begins_plain text ws s, last_byte text (spaced_ends_plain text ws s)) refl

-- ---- a string without a blank at either end is spaced so

-- a string behind a word that has begun, and behind a word and some blanks
record Spaces (text : List ℕ) : Type 0 where
  goes_on : (begun : Word) → IsWord begun → ends_plain text ≡ true → AreSpaced (begun ++ text) (words_from begun text)
  begins : (word blanks : List ℕ) → IsWord word → AreBlanks blanks → text ≢ [] → ends_plain text ≡ true → AreSpaced (word ++ (blanks ++ text)) (word ∷ words_from [] text)

ended_spaced : (begun : Word) → IsWord begun → AreSpaced (begun ++ []) (ended begun)
ended_spaced begun is = rw (append-nil begun, ended_word begun is) (LastWord begun is)

all_plain : (word : Word) (b : ℕ) → list_all (λ b. not (is_blank b)) word ≡ true → is_blank b ≡ false → list_all (λ b. not (is_blank b)) (word ++ b ∷ []) ≡ true
all_plain [] b h e = rw e refl
all_plain (c ∷ cs) b h e =
    let a = and_parts (not (is_blank c)) (list_all (λ b. not (is_blank b)) cs) h in
    and_from (not (is_blank c)) (list_all (λ b. not (is_blank b)) (cs ++ b ∷ [])) a.0 (all_plain cs b a.1 e)

put_some : (word : Word) (b : ℕ) → word ++ b ∷ [] ≢ []
put_some [] b e = absurd cc
put_some (c ∷ cs) b e = absurd cc

longer : (word : Word) (b : ℕ) → IsWord word → is_blank b ≡ false → IsWord (word ++ b ∷ [])
longer word b is e = record { some = put_some word b; plain = all_plain word b is.plain e }

more_blanks : (blanks : List ℕ) (b : ℕ) → AreBlanks blanks → is_blank b ≡ true → AreBlanks (blanks ++ b ∷ [])
more_blanks _ b (LastBlank c e) h = MoreBlanks c (b ∷ []) e (LastBlank b h)
more_blanks _ b (MoreBlanks c cs e are) h = MoreBlanks c (cs ++ b ∷ []) e (more_blanks cs b are h)

rest_plain : (b : ℕ) (bs : List ℕ) → ends_plain (b ∷ bs) ≡ true → ends_plain bs ≡ true
rest_plain b [] e = refl
rest_plain b (c ∷ cs) e = e

blank_before : (b : ℕ) (bs : List ℕ) → is_blank b ≡ true → ends_plain (b ∷ bs) ≡ true → bs ≢ []
blank_before b [] h e same = false≢true (sym (ap not h) ∙ e)
blank_before b (c ∷ cs) h e same = absurd cc

spaces : (text : List ℕ) → Spaces text
spaces [] = record { goes_on = λ begun is e. ended_spaced begun is; begins = λ word blanks is are some e. absurd (some refl) }
spaces (b ∷ bs) = cases (is_blank b) refl (spaces bs)
  where
    cases : (k : Bool) → is_blank b ≡ k → Spaces bs → Spaces (b ∷ bs)
    cases true h s = record {
      goes_on = λ begun is e. rw (h, ended_word begun is) (s.begins begun (b ∷ []) is (LastBlank b h) (blank_before b bs h e) (rest_plain b bs e));
      begins = λ word blanks is are some e.
          let t = s.begins word (blanks ++ b ∷ []) is (more_blanks blanks b are h) (blank_before b bs h e) (rest_plain b bs e) in
          rw h (subst (λ (r : List ℕ). AreSpaced (word ++ r) (word ∷ words_from [] bs)) (append_assoc blanks (b ∷ []) bs) t);
    }
    cases false h s = record {
      goes_on = λ begun is e.
          rw h (subst (λ (r : List ℕ). AreSpaced r (words_from (begun ++ b ∷ []) bs)) (append_assoc begun (b ∷ []) bs) (s.goes_on (begun ++ b ∷ []) (longer begun b is h) (rest_plain b bs e)));
      begins = λ word blanks is are some e.
          rw h (MoreWords word blanks (b ∷ bs) (words_from (b ∷ []) bs) is are (s.goes_on (b ∷ []) (record { some = put_some [] b; plain = all_plain [] b refl h }) (rest_plain b bs e)));
    }

inner : (text : List ℕ) → has_outer_blank text ≡ false → (is_blank (get_or text 0 0) ≡ false) × (ends_plain text ≡ true)
inner text e = cases (is_blank (get_or text 0 0)) (is_blank (get_or text (length text - 1) 0)) refl refl e
  where
    cases : (x y : Bool) → is_blank (get_or text 0 0) ≡ x → is_blank (get_or text (length text - 1) 0) ≡ y → (x || y) ≡ false → (is_blank (get_or text 0 0) ≡ false) × (ends_plain text ≡ true)
    cases true y ex ey e = absurd (false≢true (sym e))
    cases false true ex ey e = absurd (false≢true (sym e))
    cases false false ex ey e = (ex, last_plain text ey)

pub are_spaced : (text : List ℕ) → text ≢ [] → has_outer_blank text ≡ false → AreSpaced text (words text)
are_spaced [] some e = absurd (some refl)
are_spaced (b ∷ bs) some e =
    let a = inner (b ∷ bs) e in
    rw a.0 ((spaces bs).goes_on (b ∷ []) (record { some = put_some [] b; plain = all_plain [] b refl a.0 }) (rest_plain b bs a.1))
