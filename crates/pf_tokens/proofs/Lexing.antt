-- One step of the lexer goes past what is at the front of the text.
use Rattle.std.proofs.Common.{◌≡◌, ℕ, zero, suc, ◌+◌, ◌-◌, ◌<◌, ◌≤◌, ◌==◌, Bool, true, false, cond, List, [], ◌∷◌, ◌++◌, length, take, drop, get_or, map, Option, Some, None, option_map, refl, sym, ap, ◌∙◌, arith, not, eqb-true, length-drop}
use Rattle.std.specs.List.{take_while}
use Rattle.std.specs.List.{prefix_len}
use Rattle.std.specs.Option.{option_to_list}
use Rattle.std.proofs.lemmas.Bool.{false≢true}
use Rattle.pf_tokens.specs.declared.lexeme.Lexeme.{Lexeme}
use Rattle.pf_tokens.specs.declared.symbol.Symbol.{Symbol}
use Rattle.pf_tokens.specs.Tokens.{Letter, Word, line_after, is_word_byte, is_name_byte, is_quoted_byte, is_blank, symbol_of, symbol_of_two, Front, quoted_closed, macro_front, longer_symbol, longest, front, placed, tokens_behind}
use Rattle.pf_tokens.specs.Joined.{passed, letters_at}
use Rattle.pf_tokens.specs.Lexed.{placed_of}
use Rattle.pf_tokens.specs.inner.Lexed.{front_of}
use Rattle.pf_tokens.specs.inner.Begun.{IsWordOn}

pub prefix_len_le : (p : ℕ → Bool) (xs : List ℕ) → prefix_len p xs ≤ length xs
prefix_len_le p [] = omega arith
prefix_len_le p (x ∷ xs) =
    elim (p x) as (λ t. cond t (1 + prefix_len p xs) 0 ≤ length (x ∷ xs)) [
      | true ↦ omega (arith, prefix_len_le p xs)
      | false ↦ omega arith
    ]

-- the bytes of letters are those of the text
bytes-letters : (line at : ℕ) (steps bytes : List ℕ) → map (λ (m : Letter). m.byte) (letters_at line at steps bytes) ≡ bytes
bytes-letters line at steps [] = refl
bytes-letters line at steps (b ∷ bytes) = ap (λ (bs : List ℕ). b ∷ bs) (bytes-letters (line_after line b) (at + 1) steps bytes)

-- letters that belong to what stood before are passed over
pub tokens_behind-drop : (skip : ℕ) (ls : List Letter) → tokens_behind skip ls ≡ tokens_behind 0 (drop skip ls)
tokens_behind-drop zero ls = refl
tokens_behind-drop (suc skip) [] = refl
tokens_behind-drop (suc skip) (l ∷ ls) = tokens_behind-drop skip ls

-- of two values, the one that a test takes
pub pick : {X : Type 0} (P : X → Type 0) (t : Bool) (x y : X) → (t ≡ true → P x) → (t ≡ false → P y) → P (cond t x y)
pick P true x y at_true at_false = at_true refl
pick P false x y at_true at_false = at_false refl

-- a run that has no newline stays on its line
pub same_line : (p : ℕ → Bool) (line c : ℕ) → p 10 ≡ false → p c ≡ true → line_after line c ≡ line
same_line p line c stops passes =
    pick (λ n. n ≡ line) (c == 10) (line + 1) line (λ e. absurd (false≢true (sym stops ∙ ap p (sym (eqb-true c 10 e)) ∙ passes))) (λ e. refl)

-- that many letters are on one line
abbrev pub OneLine : ℕ → List ℕ → Type 0
OneLine n bytes = (line at : ℕ) (steps : List ℕ) → drop n (letters_at line at steps bytes) ≡ letters_at line (at + n) steps (drop n bytes)

line_none : (bytes : List ℕ) → OneLine 0 bytes
line_none bytes line at steps = let same : at + 0 ≡ at = omega arith in rw same refl

line_more : (n c : ℕ) (bytes : List ℕ) → ((line : ℕ) → line_after line c ≡ line) → OneLine n bytes → OneLine (suc n) (c ∷ bytes)
line_more n c bytes stays rest line at steps = let same : at + suc n ≡ at + 1 + n = omega arith in rw (stays line, same) (rest line (at + 1) steps)

line_run : (p : ℕ → Bool) → p 10 ≡ false → (bytes : List ℕ) → OneLine (prefix_len p bytes) bytes
line_run p stops [] = line_none []
line_run p stops (c ∷ bytes) =
    pick (λ (n : ℕ). OneLine n (c ∷ bytes)) (p c) (1 + prefix_len p bytes) 0
    (λ e. let more : 1 + prefix_len p bytes ≡ suc (prefix_len p bytes) = omega arith in rw more (line_more (prefix_len p bytes) c bytes (λ line. same_line p line c stops e) (line_run p stops bytes)))
    (λ e. line_none (c ∷ bytes))

-- what is at the front takes at least one letter, and no newline but one alone
record Takes (b : ℕ) (bytes : List ℕ) (len : ℕ) : Type 0 where
  some : 0 < len
  within : len ≤ length (b ∷ bytes)
  lines : OneLine (len - 1) bytes

takes_one : (b : ℕ) (bytes : List ℕ) → Takes b bytes 1
takes_one b bytes = record { some = omega arith; within = omega arith; lines = line_none bytes }

takes_run : (p : ℕ → Bool) (b : ℕ) (bytes : List ℕ) → p 10 ≡ false → p b ≡ true → Takes b bytes (prefix_len p (b ∷ bytes))
takes_run p b bytes stops passes =
    let first : prefix_len p (b ∷ bytes) ≡ 1 + prefix_len p bytes = rw passes refl in
    let less : prefix_len p (b ∷ bytes) - 1 ≡ prefix_len p bytes = omega (arith, first) in
    record {
      some = omega (arith, first);
      within = prefix_len_le p (b ∷ bytes);
      lines = rw less (line_run p stops bytes);
    }

drop_more : {X : Type 0} (n : ℕ) (xs : List X) → drop (n + 1) xs ≡ drop 1 (drop n xs)
drop_more zero xs = refl
drop_more (suc n) [] = let more : suc n + 1 ≡ suc (n + 1) = omega arith in rw more refl
drop_more (suc n) (x ∷ xs) = let more : suc n + 1 ≡ suc (n + 1) = omega arith in rw more (drop_more n xs)

-- a run and a letter behind it
line_run_one : (n c : ℕ) (bytes more : List ℕ) → ((line : ℕ) → line_after line c ≡ line) → drop n bytes ≡ c ∷ more → OneLine n bytes → OneLine (n + 1) bytes
line_run_one n c bytes more stays e run line at steps =
    let sum : at + (n + 1) ≡ at + n + 1 = omega arith in
    rw (drop_more n (letters_at line at steps bytes), drop_more n bytes, run line at steps, e, sum, stays line) refl

takes_quoted : (b : ℕ) (bytes rest : List ℕ) → drop (prefix_len is_quoted_byte bytes) bytes ≡ rest → Takes b bytes (quoted_closed bytes (prefix_len is_quoted_byte bytes) rest).len
takes_quoted b bytes [] e = takes_one b bytes
takes_quoted b bytes (c ∷ more) e =
    let n = prefix_len is_quoted_byte bytes in
    let left : length (drop n bytes) ≡ length (c ∷ more) = ap length e in
    pick (λ (f : Front). Takes b bytes f.len) (c == 34) _ _
    (λ closes. record {
      some = omega arith;
      within = omega (arith, left, length-drop n bytes);
      lines =
          let less : n + 2 - 1 ≡ n + 1 = omega arith in
          let quote : c ≡ 34 = eqb-true c 34 closes in
          rw less (line_run_one n c bytes more (λ line. rw quote refl) e (line_run is_quoted_byte refl bytes));
    })
    (λ _. takes_one b bytes)

takes_macro : (b : ℕ) (bytes : List ℕ) (n : ℕ) → prefix_len is_name_byte bytes ≡ n → Takes b bytes (macro_front bytes n).len
takes_macro b bytes zero e = takes_one b bytes
takes_macro b bytes (suc n) e = record {
  some = omega arith;
  within = omega (arith, e, prefix_len_le is_name_byte bytes);
  lines =
      let less : suc n + 1 - 1 ≡ prefix_len is_name_byte bytes = omega (arith, e) in
      rw less (line_run is_name_byte refl bytes);
}

-- no symbol ends with a newline
no_newline : (b c : ℕ) (symbol : Symbol) → symbol_of_two b c ≡ Some symbol → (line : ℕ) → line_after line c ≡ line
no_newline b c symbol e line =
    pick (λ n. n ≡ line) (c == 10) (line + 1) line
    (λ newline. absurd (let none : symbol_of_two b c ≡ None = ap (symbol_of_two b) (eqb-true c 10 newline) in let h = sym none ∙ e in cc))
    (λ _. refl)

takes_two : (b : ℕ) (bytes : List ℕ) (symbol : Symbol) → longer_symbol b bytes ≡ Some symbol → Takes b bytes 2
takes_two b [] symbol e = absurd cc
takes_two b (c ∷ bytes) symbol e = record { some = omega arith; within = omega arith; lines = line_more 0 c bytes (no_newline b c symbol e) (line_none bytes) }

takes_symbol : (b : ℕ) (bytes : List ℕ) (two one : Option Symbol) → longer_symbol b bytes ≡ two → Takes b bytes (longest two one).len
takes_symbol b bytes (Some symbol) one e = takes_two b bytes symbol e
takes_symbol b bytes None (Some symbol) e = takes_one b bytes
takes_symbol b bytes None None e = takes_one b bytes

front_takes : (b : ℕ) (bytes : List ℕ) → Takes b bytes (front (b ∷ bytes)).len
front_takes b bytes =
    let P : Front → Type 0 = λ f. Takes b bytes f.len in
    pick P (is_word_byte b) _ _ (λ e. takes_run is_word_byte b bytes refl e) (λ _.
    pick P (b == 10) _ _ (λ _. takes_one b bytes) (λ not_newline.
    pick P (is_blank b) _ _ (λ _. takes_one b bytes) (λ _.
    pick P (b == 35) _ _ (λ e. takes_run (λ c. not (c == 10)) b bytes refl (rw not_newline refl)) (λ _.
    pick P (b == 34) _ _ (λ _. takes_quoted b bytes _ refl) (λ _.
    pick P (b == 36) _ _ (λ _. takes_macro b bytes _ refl) (λ _. takes_symbol b bytes _ (symbol_of b) refl))))))

-- what the front's token is followed by
pub tokens-front : (line at b : ℕ) (steps bytes : List ℕ) → tokens_behind 0 (letters_at line at steps (b ∷ bytes)) ≡ placed (front (b ∷ bytes)).token (line + passed at steps) (tokens_behind 0 (letters_at (line_after line b) (at + (front (b ∷ bytes)).len) steps (drop (front (b ∷ bytes)).len (b ∷ bytes))))
tokens-front line at b steps bytes =
    let takes = front_takes b bytes in
    let n = (front (b ∷ bytes)).len in
    let more : n ≡ suc (n - 1) = omega (arith, takes.some) in
    let behind : drop n (b ∷ bytes) ≡ drop (n - 1) bytes = ap (λ (k : ℕ). drop k (b ∷ bytes)) more in
    let place : at + n ≡ at + 1 + (n - 1) = omega (arith, takes.some) in
    rw (bytes-letters (line_after line b) (at + 1) steps bytes, tokens_behind-drop (n - 1) (letters_at (line_after line b) (at + 1) steps bytes), takes.lines (line_after line b) (at + 1) steps, behind, place) refl

-- the same of any text that isn't empty, as the lexer has it
pub step_is : (line next at len : ℕ) (steps text : List ℕ) (lexeme : Option Lexeme) → 0 < length text → passed at steps ≡ 0 → front_of (lexeme, len) ≡ front text → next ≡ line_after line (get_or text 0 0)
    → tokens_behind 0 (letters_at line at steps text) ≡ option_to_list (option_map placed_of (option_map (λ (l : Lexeme). record { lexeme = l; line = line; written = true }) lexeme)) ++ tokens_behind 0 (letters_at next (at + len) steps (drop len text))
step_is line next at len steps [] lexeme some here is_front is_next = absurd (omega arith)
step_is line next at len steps (b ∷ bytes) None some here is_front is_next =
    tokens-front line at b steps bytes ∙ rw (← is_front, is_next) refl
step_is line next at len steps (b ∷ bytes) (Some l) some here is_front is_next =
    let same : line + 0 ≡ line = omega arith in
    tokens-front line at b steps bytes ∙ rw (← is_front, is_next, here, same) refl

pub front_within : (text : List ℕ) (lexeme : Option Lexeme) (len : ℕ) → 0 < length text → front_of (lexeme, len) ≡ front text → (0 < len) × (len ≤ length text)
front_within [] lexeme len some is_front = absurd (omega arith)
front_within (b ∷ bytes) lexeme len some is_front =
    let takes = front_takes b bytes in
    let same : len ≡ (front (b ∷ bytes)).len = ap (λ (f : Front). f.len) is_front in
    (omega (arith, takes.some, same), omega (arith, takes.within, same))

-- a blank is no token, and no line
pub blank_passed : (line at b : ℕ) (steps text bytes : List ℕ) → text ≡ b ∷ bytes → b ≡ 32 → tokens_behind 0 (letters_at line (at + 1) steps bytes) ≡ tokens_behind 0 (letters_at line at steps text)
blank_passed line at b steps text bytes here blank =
    rw (here, blank) (sym (tokens-front line at 32 steps bytes))

-- a word at the front
pub word_on : (line at b : ℕ) (steps text bytes : List ℕ) → text ≡ b ∷ bytes → passed at steps ≡ 0 → is_word_byte b ≡ true → IsWordOn line (tokens_behind 0 (letters_at line at steps text))
word_on line at b steps text bytes here none is_word =
    rw (here, tokens-front line at b steps bytes)
    (pick (λ (f : Front). IsWordOn line (placed f.token (line + passed at steps) (tokens_behind 0 (letters_at (line_after line b) (at + f.len) steps (drop f.len (b ∷ bytes)))))) (is_word_byte b) _ _
    (λ _. (omega (arith, none), refl))
    (λ other. absurd (false≢true (sym other ∙ is_word))))

pub word_step : (line at len : ℕ) (steps text : List ℕ) → 0 < length text → passed at steps ≡ 0 → is_word_byte (get_or text 0 0) ≡ true → len ≡ prefix_len is_word_byte text
    → tokens_behind 0 (letters_at line at steps text) ≡ record { token = Word (take len text); line = line; written = true } ∷ tokens_behind 0 (letters_at line (at + len) steps (drop len text))
word_step line at len steps [] some none is_word is_len = absurd (omega arith)
word_step line at len steps (b ∷ bytes) some none is_word is_len =
    let front_is : front (b ∷ bytes) ≡ record { token = Some (Word (take_while is_word_byte (b ∷ bytes))); len = prefix_len is_word_byte (b ∷ bytes) } = rw is_word refl in
    let same : line + 0 ≡ line = omega arith in
    let stays : line_after line b ≡ line = same_line is_word_byte line b refl is_word in
    tokens-front line at b steps bytes ∙ rw (front_is, none, same, stays, is_len) refl

pub word_within : (len : ℕ) (text : List ℕ) → len ≡ prefix_len is_word_byte text → len ≤ length text
word_within len text e = rw e (prefix_len_le is_word_byte text)
