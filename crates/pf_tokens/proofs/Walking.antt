-- A source is read one statement after another, and a statement is what is left of it at its start.
use Rattle.std.proofs.Common.{◌≡◌, ℕ, ◌<◌, ◌≤◌, ◌==◌, ◌&&◌, Bool, true, false, cond, List, [], ◌∷◌, ◌++◌, length, drop, Some, None, option_map, Result, Ok, Err, refl, sym, ap, ◌∙◌, arith, append_assoc, length-drop}
use Rattle.std.specs.Prelude.{flat_map, if◌then◌else◌}
use Rattle.std.proofs.lemmas.Bool.{false≢true}
use Rattle.std.proofs.lemmas.List.{append-nil}
use Rattle.pf_tokens.specs.Tokens.{Token, Word, Quoted, Macro, Mark, Newline, Bad, Placed, is_newline, first}
use Rattle.pf_tokens.specs.Macros.{Definition, replaced, replaced_token, is_some_word, is_equals, is_definition, flattened, depth_after, depth_behind, ends}
use Rattle.pf_tokens.specs.Flow.{statement_raw, ending_raw}
use Rattle.pf_tokens.specs.Reading.{◌>>=◌, Judge, statement_judged, with_statement, reading_from, past_newlines}

-- the statement as it is written, behind what has begun, and what follows it
abbrev pub raw_statement : List Definition → List Placed → List Placed → List Placed
raw_statement ds begun [] = []
raw_statement ds begun (p ∷ ps) = if ends (depth_behind 0 (flattened ds begun)) p then [] else p ∷ raw_statement ds (begun ++ p ∷ []) ps

abbrev pub raw_ending : List Definition → List Placed → List Placed → List Placed
raw_ending ds begun [] = []
raw_ending ds begun (p ∷ ps) = if ends (depth_behind 0 (flattened ds begun)) p then p ∷ ps else raw_ending ds (begun ++ p ∷ []) ps

-- ---- one statement after another

ends_zero : (depth : ℕ) (p : Placed) → ends depth p ≡ true → ends 0 p ≡ true
ends_zero depth p e = cases (p.written && is_newline p.token) e
  where
    cases : (b : Bool) → (b && (depth == 0)) ≡ true → (b && true) ≡ true
    cases true e = refl
    cases false e = absurd (false≢true e)

module _ {S R : Type 0} (macros : S → List Definition) (judge : Judge S R) where
  then_none : (r : Result S R) → r ≡ (r >>= λ next. reading_from macros judge next [] [])
  unfolding reading_from
  then_none (Ok sofar) = refl
  then_none (Err e) = refl

  newline_first : (sofar : S) (p : Placed) (ps : List Placed) → ends 0 p ≡ true → reading_from macros judge sofar [] (p ∷ ps) ≡ reading_from macros judge sofar [] ps
  unfolding reading_from
  newline_first sofar p ps e = rw e refl

  pub reading_statement : (sofar : S) (begun ps : List Placed) → reading_from macros judge sofar begun ps ≡ (with_statement macros judge sofar (begun ++ raw_statement (macros sofar) begun ps) >>= λ next. reading_from macros judge next [] (raw_ending (macros sofar) begun ps))
  unfolding reading_from
  reading_statement sofar begun [] = rw (append-nil begun) (then_none (with_statement macros judge sofar begun))
  reading_statement sofar begun (p ∷ ps) = cases (ends (depth_behind 0 (flattened (macros sofar) begun)) p) refl (reading_statement sofar (begun ++ p ∷ []) ps)
    where
      cases : (t : Bool) → ends (depth_behind 0 (flattened (macros sofar) begun)) p ≡ t
          → reading_from macros judge sofar (begun ++ p ∷ []) ps ≡ (with_statement macros judge sofar ((begun ++ p ∷ []) ++ raw_statement (macros sofar) (begun ++ p ∷ []) ps) >>= λ next. reading_from macros judge next [] (raw_ending (macros sofar) (begun ++ p ∷ []) ps))
          → cond t (with_statement macros judge sofar begun >>= λ next. reading_from macros judge next [] ps) (reading_from macros judge sofar (begun ++ p ∷ []) ps)
          ≡ (with_statement macros judge sofar (begun ++ cond t [] (p ∷ raw_statement (macros sofar) (begun ++ p ∷ []) ps)) >>= λ next. reading_from macros judge next [] (cond t (p ∷ ps) (raw_ending (macros sofar) (begun ++ p ∷ []) ps)))
      cases true e more = rw (append-nil begun) (λ i. with_statement macros judge sofar begun >>= λ next. sym (newline_first next p ps (ends_zero _ p e)) i)
      cases false e more = rw append_assoc at more

-- ---- whether a macro is defined is known at the start

word_stays : (ds : List Definition) (p : Placed) (t : Token) → is_some_word t ≡ true → replaced_token ds p t ≡ p ∷ []
word_stays ds p (Word text) e = refl
word_stays ds p (Quoted text) e = refl
word_stays ds p (Macro name) e = absurd (false≢true e)
word_stays ds p (Mark symbol) e = refl
word_stays ds p Newline e = refl
word_stays ds p Bad e = refl

first_word : (a b : Bool) → (a && b) ≡ true → a ≡ true
first_word true b e = refl
first_word false b e = absurd (false≢true e)

one_stays : (ds : List Definition) (p : Placed) (ps : List Placed) (w : Bool) → is_definition (p ∷ ps) ≡ w → replaced ds false p ≡ replaced ds w p
one_stays ds p ps false e = refl
one_stays ds p [] true e = absurd (false≢true e)
one_stays ds p (q ∷ ps) true e = word_stays ds p p.token (first_word (is_some_word p.token) (is_equals q.token) e)

pub flattened_so : (ds : List Definition) (begun ps : List Placed) (w : Bool) → is_definition (begun ++ ps) ≡ w → flattened ds begun ≡ flat_map (replaced ds w) begun
flattened_so ds [] ps w e = refl
flattened_so ds (p ∷ []) ps w e = ap (λ (ts : List Placed). ts ++ []) (one_stays ds p ps w e)
flattened_so ds (p ∷ q ∷ more) ps w e = ap (λ (b : Bool). flat_map (replaced ds b) (p ∷ q ∷ more)) e

depth_append : (depth : ℕ) (xs ys : List Placed) → depth_behind depth (xs ++ ys) ≡ depth_behind (depth_behind depth xs) ys
depth_append depth [] ys = refl
depth_append depth (x ∷ xs) ys = depth_append (depth_after depth x.token) xs ys

flat_push : (f : Placed → List Placed) (xs : List Placed) (p : Placed) → flat_map f (xs ++ p ∷ []) ≡ flat_map f xs ++ f p
flat_push f [] p = append-nil (f p)
flat_push f (x ∷ xs) p = ap (λ (ts : List Placed). f x ++ ts) (flat_push f xs p) ∙ sym (append_assoc (f x) (flat_map f xs) (f p))

depth_push : (ds : List Definition) (w : Bool) (begun : List Placed) (p : Placed) → depth_behind 0 (flat_map (replaced ds w) (begun ++ p ∷ [])) ≡ depth_behind (depth_behind 0 (flat_map (replaced ds w) begun)) (replaced ds w p)
depth_push ds w begun p = ap (depth_behind 0) (flat_push (replaced ds w) begun p) ∙ depth_append 0 (flat_map (replaced ds w) begun) (replaced ds w p)

same_test : (ds : List Definition) (w : Bool) (begun : List Placed) (p : Placed) (ps : List Placed) → is_definition (begun ++ p ∷ ps) ≡ w → ends (depth_behind 0 (flattened ds begun)) p ≡ ends (depth_behind 0 (flat_map (replaced ds w) begun)) p
same_test ds w begun p ps e = ap (λ (ts : List Placed). ends (depth_behind 0 ts) p) (flattened_so ds begun (p ∷ ps) w e)

-- the statement behind what has begun is what is left of it there
pub left_is : (ds : List Definition) (w : Bool) (begun ps : List Placed) → is_definition (begun ++ ps) ≡ w → flat_map (replaced ds w) (raw_statement ds begun ps) ≡ statement_raw ds w (depth_behind 0 (flat_map (replaced ds w) begun)) ps
left_is ds w begun [] e = refl
left_is ds w begun (p ∷ ps) e =
    rw (same_test ds w begun p ps e) (cases (ends (depth_behind 0 (flat_map (replaced ds w) begun)) p) (left_is ds w (begun ++ p ∷ []) ps (ap is_definition (append_assoc begun (p ∷ []) ps) ∙ e)))
  where
    cases : (t : Bool) → flat_map (replaced ds w) (raw_statement ds (begun ++ p ∷ []) ps) ≡ statement_raw ds w (depth_behind 0 (flat_map (replaced ds w) (begun ++ p ∷ []))) ps
        → flat_map (replaced ds w) (cond t [] (p ∷ raw_statement ds (begun ++ p ∷ []) ps)) ≡ cond t [] (replaced ds w p ++ statement_raw ds w (depth_behind (depth_behind 0 (flat_map (replaced ds w) begun)) (replaced ds w p)) ps)
    cases true more = refl
    cases false more = ap (λ (ts : List Placed). replaced ds w p ++ ts) (more ∙ ap (λ (d : ℕ). statement_raw ds w d ps) (depth_push ds w begun p))

pub ending_is : (ds : List Definition) (w : Bool) (begun ps : List Placed) → is_definition (begun ++ ps) ≡ w → raw_ending ds begun ps ≡ ending_raw ds w (depth_behind 0 (flat_map (replaced ds w) begun)) ps
ending_is ds w begun [] e = refl
ending_is ds w begun (p ∷ ps) e =
    rw (same_test ds w begun p ps e) (cases (ends (depth_behind 0 (flat_map (replaced ds w) begun)) p) (ending_is ds w (begun ++ p ∷ []) ps (ap is_definition (append_assoc begun (p ∷ []) ps) ∙ e)))
  where
    cases : (t : Bool) → raw_ending ds (begun ++ p ∷ []) ps ≡ ending_raw ds w (depth_behind 0 (flat_map (replaced ds w) (begun ++ p ∷ []))) ps
        → cond t (p ∷ ps) (raw_ending ds (begun ++ p ∷ []) ps) ≡ cond t (p ∷ ps) (ending_raw ds w (depth_behind (depth_behind 0 (flat_map (replaced ds w) begun)) (replaced ds w p)) ps)
    cases true more = refl
    cases false more = more ∙ ap (λ (d : ℕ). ending_raw ds w d ps) (depth_push ds w begun p)

parts_join : (ds : List Definition) (begun ps : List Placed) → raw_statement ds begun ps ++ raw_ending ds begun ps ≡ ps
parts_join ds begun [] = refl
parts_join ds begun (p ∷ ps) = cases (ends (depth_behind 0 (flattened ds begun)) p) (parts_join ds (begun ++ p ∷ []) ps)
  where
    cases : (t : Bool) → raw_statement ds (begun ++ p ∷ []) ps ++ raw_ending ds (begun ++ p ∷ []) ps ≡ ps → cond t [] (p ∷ raw_statement ds (begun ++ p ∷ []) ps) ++ cond t (p ∷ ps) (raw_ending ds (begun ++ p ∷ []) ps) ≡ p ∷ ps
    cases true more = refl
    cases false more = ap (λ (ts : List Placed). p ∷ ts) more

-- a statement at its start: its tokens are those that a parser there has left, and so is what follows
pub start_statement : (ds : List Definition) (ps : List Placed) → flattened ds (raw_statement ds [] ps) ≡ statement_raw ds (is_definition ps) 0 ps
start_statement ds ps =
    flattened_so ds (raw_statement ds [] ps) (raw_ending ds [] ps) (is_definition ps) (ap is_definition (parts_join ds [] ps)) ∙ left_is ds (is_definition ps) [] ps refl

pub start_ending : (ds : List Definition) (ps : List Placed) → raw_ending ds [] ps ≡ ending_raw ds (is_definition ps) 0 ps
start_ending ds ps = ending_is ds (is_definition ps) [] ps refl

-- ---- statement by statement

-- whether a macro is defined is in the statement's own tokens
both_false : (b : Bool) → (b && false) ≡ false
both_false true = refl
both_false false = refl

newline_no_equals : (t : Token) → is_newline t ≡ true → is_equals t ≡ false
newline_no_equals (Word text) e = absurd (false≢true e)
newline_no_equals (Quoted text) e = absurd (false≢true e)
newline_no_equals (Macro name) e = absurd (false≢true e)
newline_no_equals (Mark symbol) e = absurd (false≢true e)
newline_no_equals Newline e = refl
newline_no_equals Bad e = absurd (false≢true e)

ends_newline : (depth : ℕ) (p : Placed) → ends depth p ≡ true → is_newline p.token ≡ true
ends_newline depth p e = cases p.written (is_newline p.token) (depth == 0) e
  where
    cases : (a b c : Bool) → (a && b && c) ≡ true → b ≡ true
    cases true true c e = refl
    cases true false c e = absurd (false≢true e)
    cases false b c e = absurd (false≢true e)

definition_own : (ds : List Definition) (p : Placed) (ps : List Placed) → is_definition (p ∷ raw_statement ds (p ∷ []) ps) ≡ is_definition (p ∷ ps)
definition_own ds p [] = refl
definition_own ds p (q ∷ qs) = cases (ends (depth_behind 0 (flattened ds (p ∷ []))) q) refl
  where
    cases : (t : Bool) → ends (depth_behind 0 (flattened ds (p ∷ []))) q ≡ t → is_definition (p ∷ cond t [] (q ∷ raw_statement ds (p ∷ q ∷ []) qs)) ≡ is_definition (p ∷ q ∷ qs)
    cases true e = sym (ap (λ (b : Bool). is_some_word p.token && b) (newline_no_equals q.token (ends_newline _ q e)) ∙ both_false (is_some_word p.token))
    cases false e = refl

-- what follows a statement begins with the newline that ends it
data Ended : List Placed → Type 0 where
  AtEnd : Ended []
  AtNewline : (p : Placed) (ps : List Placed) → ends 0 p ≡ true → Ended (p ∷ ps)

ending_ended : (ds : List Definition) (w : Bool) (depth : ℕ) (ps : List Placed) → Ended (ending_raw ds w depth ps)
ending_ended ds w depth [] = AtEnd
ending_ended ds w depth (p ∷ ps) = cases (ends depth p) refl (ending_ended ds w (depth_behind depth (replaced ds w p)) ps)
  where
    cases : (t : Bool) → ends depth p ≡ t → Ended (ending_raw ds w (depth_behind depth (replaced ds w p)) ps) → Ended (cond t (p ∷ ps) (ending_raw ds w (depth_behind depth (replaced ds w p)) ps))
    cases true e more = AtNewline p ps (ends_zero depth p e)
    cases false e more = more

-- what is behind empty statements
data Begun : List Placed → Type 0 where
  Nothing : Begun []
  Begins : (p : Placed) (ps : List Placed) → ends 0 p ≡ false → Begun (p ∷ ps)

past_begun : (ts : List Placed) → Begun (past_newlines ts)
past_begun [] = Nothing
past_begun (p ∷ ps) = cases (ends 0 p) refl (past_begun ps)
  where
    cases : (t : Bool) → ends 0 p ≡ t → Begun (past_newlines ps) → Begun (cond t (past_newlines ps) (p ∷ ps))
    cases true e more = more
    cases false e more = Begins p ps e

-- ---- what is left gets shorter

ending_no_longer : (ds : List Definition) (w : Bool) (depth : ℕ) (ps : List Placed) → length (ending_raw ds w depth ps) ≤ length ps
ending_no_longer ds w depth [] = omega arith
ending_no_longer ds w depth (p ∷ ps) = cases (ends depth p) (ending_no_longer ds w (depth_behind depth (replaced ds w p)) ps)
  where
    cases : (t : Bool) → length (ending_raw ds w (depth_behind depth (replaced ds w p)) ps) ≤ length ps → length (cond t (p ∷ ps) (ending_raw ds w (depth_behind depth (replaced ds w p)) ps)) ≤ length (p ∷ ps)
    cases true more = omega arith
    cases false more = omega (arith, more)

past_no_longer : (ts : List Placed) → length (past_newlines ts) ≤ length ts
past_no_longer [] = omega arith
past_no_longer (p ∷ ps) = cases (ends 0 p) (past_no_longer ps)
  where
    cases : (t : Bool) → length (past_newlines ps) ≤ length ps → length (cond t (past_newlines ps) (p ∷ ps)) ≤ length (p ∷ ps)
    cases true more = omega (arith, more)
    cases false more = omega arith

line_there : (line : ℕ) (us : List Placed) → Some line ≡ option_map (λ (p : Placed). p.line) (first us) → 0 < length us
line_there line [] e = absurd cc
line_there line (p ∷ ps) e = omega arith

-- what follows a statement is shorter than what it begins
pub later_shorter : (ds : List Definition) (w : Bool) (line : ℕ) (old ts : List Placed) → ts ≡ past_newlines old → Some line ≡ option_map (λ (p : Placed). p.line) (first (past_newlines old)) → length (drop 1 (ending_raw ds w 0 ts)) < length old
later_shorter ds w line old ts e is_line =
    omega (arith, length-drop 1 (ending_raw ds w 0 ts), ending_no_longer ds w 0 ts, past_no_longer old, line_there line (past_newlines old) is_line, ap (λ (us : List Placed). length us) e)

module _ {S R : Type 0} (macros : S → List Definition) (judge : Judge S R) where
  behind_newline : (sofar : S) (ts : List Placed) → Ended ts → reading_from macros judge sofar [] ts ≡ reading_from macros judge sofar [] (drop 1 ts)
  behind_newline sofar _ AtEnd = refl
  behind_newline sofar _ (AtNewline p ps e) = newline_first macros judge sofar p ps e

  -- the first statement of a source that doesn't begin with a newline, and what follows it
  pub reading_next : (sofar : S) (p : Placed) (ps : List Placed) → ends 0 p ≡ false
      → reading_from macros judge sofar [] (p ∷ ps) ≡ (statement_judged judge sofar p.line (is_definition (p ∷ ps)) (statement_raw (macros sofar) (is_definition (p ∷ ps)) 0 (p ∷ ps)) >>= λ next. reading_from macros judge next [] (drop 1 (ending_raw (macros sofar) (is_definition (p ∷ ps)) 0 (p ∷ ps))))
  reading_next sofar p ps e =
      let ds = macros sofar in
      let raw : raw_statement ds [] (p ∷ ps) ≡ p ∷ raw_statement ds (p ∷ []) ps = rw e refl in
      let statement : with_statement macros judge sofar (raw_statement ds [] (p ∷ ps)) ≡ statement_judged judge sofar p.line (is_definition (p ∷ ps)) (statement_raw ds (is_definition (p ∷ ps)) 0 (p ∷ ps)) =
      ap (with_statement macros judge sofar) raw
      ∙ ap (λ (b : Bool). statement_judged judge sofar p.line b (flattened ds (p ∷ raw_statement ds (p ∷ []) ps))) (definition_own ds p ps)
      ∙ ap (λ (ts : List Placed). statement_judged judge sofar p.line (is_definition (p ∷ ps)) ts) (ap (flattened ds) (sym raw) ∙ start_statement ds (p ∷ ps)) in
      let ending = start_ending ds (p ∷ ps) in
      reading_statement macros judge sofar [] (p ∷ ps)
      ∙ ap (λ (r : Result S R). r >>= λ next. reading_from macros judge next [] (raw_ending ds [] (p ∷ ps))) statement
      ∙ ap (λ (ts : List Placed). statement_judged judge sofar p.line (is_definition (p ∷ ps)) (statement_raw ds (is_definition (p ∷ ps)) 0 (p ∷ ps)) >>= λ next. reading_from macros judge next [] ts) ending
      ∙ (λ i. statement_judged judge sofar p.line (is_definition (p ∷ ps)) (statement_raw ds (is_definition (p ∷ ps)) 0 (p ∷ ps)) >>= λ next. behind_newline next (ending_raw ds (is_definition (p ∷ ps)) 0 (p ∷ ps)) (ending_ended ds (is_definition (p ∷ ps)) 0 (p ∷ ps)) i)

  pub reading_past : (sofar : S) (ts : List Placed) → reading_from macros judge sofar [] ts ≡ reading_from macros judge sofar [] (past_newlines ts)
  reading_past sofar [] = refl
  reading_past sofar (p ∷ ps) = cases (ends 0 p) refl (reading_past sofar ps)
    where
      cases : (t : Bool) → ends 0 p ≡ t → reading_from macros judge sofar [] ps ≡ reading_from macros judge sofar [] (past_newlines ps) → reading_from macros judge sofar [] (p ∷ ps) ≡ reading_from macros judge sofar [] (cond t (past_newlines ps) (p ∷ ps))
      cases true e more = newline_first macros judge sofar p ps e ∙ more
      cases false e more = refl

  begins_with : (sofar : S) (line : ℕ) (us : List Placed) → Begun us → Some line ≡ option_map (λ (p : Placed). p.line) (first us)
      → reading_from macros judge sofar [] us ≡ (statement_judged judge sofar line (is_definition us) (statement_raw (macros sofar) (is_definition us) 0 us) >>= λ next. reading_from macros judge next [] (drop 1 (ending_raw (macros sofar) (is_definition us) 0 us)))
  begins_with sofar line _ Nothing e = absurd cc
  begins_with sofar line _ (Begins p ps starts) e =
      let same : line ≡ p.line = cc in
      reading_next sofar p ps starts ∙ ap (λ (n : ℕ). statement_judged judge sofar n (is_definition (p ∷ ps)) (statement_raw (macros sofar) (is_definition (p ∷ ps)) 0 (p ∷ ps)) >>= λ next. reading_from macros judge next [] (drop 1 (ending_raw (macros sofar) (is_definition (p ∷ ps)) 0 (p ∷ ps)))) (sym same)

  -- where a statement begins on this line
  pub reading_begins : (sofar : S) (line : ℕ) (old ts : List Placed) → ts ≡ past_newlines old → Some line ≡ option_map (λ (p : Placed). p.line) (first (past_newlines old))
      → reading_from macros judge sofar [] old ≡ (statement_judged judge sofar line (is_definition ts) (statement_raw (macros sofar) (is_definition ts) 0 ts) >>= λ next. reading_from macros judge next [] (drop 1 (ending_raw (macros sofar) (is_definition ts) 0 ts)))
  reading_begins sofar line old ts e is_line = reading_past sofar old ∙ rw e (begins_with sofar line (past_newlines old) (past_begun old) is_line)

  -- where no statement is left
  pub reading_ends : (sofar : S) (old : List Placed) → option_map (λ (p : Placed). p.line) (first (past_newlines old)) ≡ None → reading_from macros judge sofar [] old ≡ Ok sofar
  unfolding reading_from
  reading_ends sofar old e = reading_past sofar old ∙ go (past_newlines old) e
    where
      go : (us : List Placed) → option_map (λ (p : Placed). p.line) (first us) ≡ None → reading_from macros judge sofar [] us ≡ Ok sofar
      go [] e = refl
      go (p ∷ ps) e = absurd cc
