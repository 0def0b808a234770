-- What is left of a statement behind its next token.
use Rattle.std.proofs.Common.{◌≡◌, ◌&&◌, ◌==◌, ℕ, zero, suc, ◌≤◌, Bool, true, false, List, [], ◌∷◌, drop, map, Option, Some, None, refl, sym, ap, ◌∙◌, arith}
use Rattle.std.specs.Prelude.{is_some, option_map}
use Rattle.std.specs.Option.{option_or}
use Rattle.pf_tokens.specs.declared.lexeme.Lexed.{Lexed}
use Rattle.pf_tokens.specs.declared.stream.Stream.{Stream}
use Rattle.pf_tokens.specs.declared.parser.Parser.{Parser}
use Rattle.pf_tokens.specs.Tokens.{Token, Word, Quoted, Macro, Mark, Newline, Bad, Placed, first, is_newline}
use Rattle.pf_tokens.specs.declared.symbol.Symbol.{Symbol}
use Rattle.pf_tokens.specs.Productions.{begins, begins_symbol, is_word, is_symbol, word_of, word_at, name_of, name_at}
use Rattle.pf_tokens.specs.Lexed.{token_of, placed_of}
use Rattle.pf_tokens.specs.Left.{tokens_left}
use Rattle.pf_tokens.specs.Macros.{Definition, unwritten, depth_after, ends}
use Rattle.pf_tokens.specs.Blanks.{blanked}
use Rattle.pf_tokens.specs.inner.Blanks.{open_after}
use Rattle.pf_tokens.specs.Flow.{statement_left, ending_left}
use Rattle.pf_tokens.specs.inner.Flow.{pulled}
use Rattle.pf_tokens.specs.Pending.{behind, unless_none, pending, known}
use Rattle.pf_tokens.specs.inner.Pending.{at_newline, statement_tokens, Stays, Blanks}
use Rattle.pf_tokens.specs.declared.fault.ReadingFault.{ReadingFault}
use Rattle.pf_tokens.specs.declared.passed.Passed.{Passed}
use Rattle.pf_tokens.specs.Faults.{reading_fault}
use Rattle.pf_tokens.specs.Carried.{carried}
use Rattle.pf_tokens.specs.Parsing.{tokens_of, definitions, placed_left, left, Later, later}
use Rattle.pf_tokens.proofs.Blanking.{blanked_there}
use Rattle.pf_tokens.proofs.Flowing.{pulled_keeps}
use Rattle.pf_tokens.proofs.Pulling.{pending_some}

module _ (ds : List Definition) (defining : Bool) (line depth : ℕ) (inside text : List Placed) where
  -- the statement that is left, with this token at hand
  abbrev statement_with : Option Lexed → List Placed
  statement_with next = statement_left ds defining depth (behind next (map (unwritten line) inside)) (unless_none next text)

  with_none : (next : Option Lexed) → next ≡ None → statement_with next ≡ []
  with_none None e = refl
  with_none (Some l) e = absurd cc

  with_end : (next : Option Lexed) (l : Lexed) → next ≡ Some l → ends depth (placed_of l) ≡ true → statement_with next ≡ []
  with_end None l e ended = absurd cc
  with_end (Some k) l e ended = let same : k ≡ l = cc in rw (same, ended) refl

  with_token : (next : Option Lexed) (l : Lexed) → next ≡ Some l → ends depth (placed_of l) ≡ false → statement_with next ≡ placed_of l ∷ statement_left ds defining (depth_after depth (token_of l.lexeme)) (map (unwritten line) inside) text
  with_token None l e stays = absurd cc
  with_token (Some k) l e stays = let same : k ≡ l = cc in rw (same, stays) refl

  abbrev ending_with : Option Lexed → List Placed
  ending_with next = ending_left ds defining depth (behind next (map (unwritten line) inside)) (unless_none next text)

  ending_token : (next : Option Lexed) (l : Lexed) → next ≡ Some l → ends depth (placed_of l) ≡ false → ending_with next ≡ ending_left ds defining (depth_after depth (token_of l.lexeme)) (map (unwritten line) inside) text
  ending_token None l e stays = absurd cc
  ending_token (Some k) l e stays = let same : k ≡ l = cc in rw (same, stays) refl

  ending_none : (next : Option Lexed) → next ≡ None → ending_with next ≡ []
  ending_none None e = refl
  ending_none (Some l) e = absurd cc

  ending_end : (next : Option Lexed) (l : Lexed) → next ≡ Some l → ends depth (placed_of l) ≡ true → ending_with next ≡ placed_of l ∷ text
  ending_end None l e ended = absurd cc
  ending_end (Some k) l e ended = let same : k ≡ l = cc in rw (same, ended) refl

blanked_none : (n : ℕ) → blanked n [] ≡ []
blanked_none zero = refl
blanked_none (suc n) = refl

placed_none : (parser : Parser) → parser.stream.next ≡ None → placed_left parser ≡ []
unfolding pending placed_left
placed_none parser e = with_none (definitions parser) parser.stream.defining parser.stream.line parser.depth (tokens_left parser.stream.inside) (tokens_left parser.stream.text) parser.stream.next e

placed_end : (parser : Parser) (l : Lexed) → parser.stream.next ≡ Some l → ends parser.depth (placed_of l) ≡ true → placed_left parser ≡ []
unfolding pending placed_left
placed_end parser l e ended = with_end (definitions parser) parser.stream.defining parser.stream.line parser.depth (tokens_left parser.stream.inside) (tokens_left parser.stream.text) parser.stream.next l e ended

pub left_none : (parser : Parser) → parser.stream.next ≡ None → left parser ≡ []
unfolding left
left_none parser e = ap (λ (ps : List Placed). blanked parser.braces (tokens_of ps)) (placed_none parser e) ∙ blanked_none parser.braces

pub left_end : (parser : Parser) (l : Lexed) → parser.stream.next ≡ Some l → ends parser.depth (placed_of l) ≡ true → left parser ≡ []
unfolding left
left_end parser l e ended = ap (λ (ps : List Placed). blanked parser.braces (tokens_of ps)) (placed_end parser l e ended) ∙ blanked_none parser.braces

-- the token at hand and what is behind it
module _ (parser : Parser) (l : Lexed) (at_hand : parser.stream.next ≡ Some l) (inner : ends parser.depth (placed_of l) ≡ false) where
  behind_it : (drop 1 (pending parser.stream).0 ≡ map (unwritten parser.stream.line) (tokens_left parser.stream.inside)) × ((pending parser.stream).1 ≡ tokens_left parser.stream.text)
  behind_it = pending_some parser.stream (ap is_some at_hand)

  pub placed_is : placed_left parser ≡ placed_of l ∷ statement_left (definitions parser) parser.stream.defining (depth_after parser.depth (token_of l.lexeme)) (drop 1 (pending parser.stream).0) (pending parser.stream).1
  unfolding pending placed_left
  placed_is =
      with_token (definitions parser) parser.stream.defining parser.stream.line parser.depth (tokens_left parser.stream.inside) (tokens_left parser.stream.text) parser.stream.next l at_hand inner
      ∙ ap (λ (ts : List Placed). placed_of l ∷ statement_left (definitions parser) parser.stream.defining (depth_after parser.depth (token_of l.lexeme)) ts (tokens_left parser.stream.text)) (sym behind_it.0)
      ∙ ap (λ (raw : List Placed). placed_of l ∷ statement_left (definitions parser) parser.stream.defining (depth_after parser.depth (token_of l.lexeme)) (drop 1 (pending parser.stream).0) raw) (sym behind_it.1)

  pub later_is : (later parser).behind ≡ ending_left (definitions parser) parser.stream.defining (depth_after parser.depth (token_of l.lexeme)) (drop 1 (pending parser.stream).0) (pending parser.stream).1
  unfolding pending later
  later_is =
      ending_token (definitions parser) parser.stream.defining parser.stream.line parser.depth (tokens_left parser.stream.inside) (tokens_left parser.stream.text) parser.stream.next l at_hand inner
      ∙ ap (λ (ts : List Placed). ending_left (definitions parser) parser.stream.defining (depth_after parser.depth (token_of l.lexeme)) ts (tokens_left parser.stream.text)) (sym behind_it.0)
      ∙ ap (λ (raw : List Placed). ending_left (definitions parser) parser.stream.defining (depth_after parser.depth (token_of l.lexeme)) (drop 1 (pending parser.stream).0) raw) (sym behind_it.1)

  no_newline : (o : Option Lexed) → o ≡ Some l → at_newline o ≡ false → is_newline (token_of l.lexeme) ≡ false
  no_newline None e other = absurd cc
  no_newline (Some k) e other = let same : k ≡ l = cc in ap (λ (m : Lexed). is_newline (token_of m.lexeme)) (sym same) ∙ other

  -- the first token, and those behind it
  pub left_is : left parser ≡ token_of l.lexeme ∷ blanked (open_after parser.braces (token_of l.lexeme)) (drop 1 (tokens_of (placed_left parser)))
  unfolding left
  left_is =
      ap (λ (ps : List Placed). blanked parser.braces (tokens_of ps)) placed_is
      ∙ blanked_there parser.braces (token_of l.lexeme) _ (λ some. no_newline parser.stream.next at_hand (parser.blank some))
      ∙ ap (λ (ps : List Placed). token_of l.lexeme ∷ blanked (open_after parser.braces (token_of l.lexeme)) (drop 1 (tokens_of ps))) (sym placed_is)

  pub left_token : first (left parser) ≡ Some (token_of l.lexeme)
  left_token = ap (λ (ts : List Token). first ts) left_is

  pub left_behind : drop 1 (left parser) ≡ blanked (open_after parser.braces (token_of l.lexeme)) (drop 1 (tokens_of (placed_left parser)))
  left_behind = ap (λ (ts : List Token). drop 1 ts) left_is

  -- what is taken to hand behind it
  module _ (mid : Stream) (pulls : pending mid ≡ pulled (definitions parser) parser.stream.defining (drop 1 (pending parser.stream).0) (pending parser.stream).1) (stays : Stays parser.stream mid) where
    abbrev depth : ℕ
    depth = depth_after parser.depth (token_of l.lexeme)

    mid_left : statement_left (known mid) mid.defining depth (pending mid).0 (pending mid).1 ≡ drop 1 (placed_left parser)
    mid_left =
        ap (λ (ds : List Definition). statement_left ds mid.defining depth (pending mid).0 (pending mid).1) stays.known
        ∙ ap (λ (w : Bool). statement_left (definitions parser) w depth (pending mid).0 (pending mid).1) stays.defining
        ∙ ap (λ (p : List Placed × List Placed). statement_left (definitions parser) parser.stream.defining depth p.0 p.1) pulls
        ∙ (pulled_keeps (definitions parser) parser.stream.defining (drop 1 (pending parser.stream).0) (pending parser.stream).1).statement depth
        ∙ sym (ap (λ (ps : List Placed). drop 1 ps) placed_is)

    mid_later : ending_left (known mid) mid.defining depth (pending mid).0 (pending mid).1 ≡ (later parser).behind
    mid_later =
        ap (λ (ds : List Definition). ending_left ds mid.defining depth (pending mid).0 (pending mid).1) stays.known
        ∙ ap (λ (w : Bool). ending_left (definitions parser) w depth (pending mid).0 (pending mid).1) stays.defining
        ∙ ap (λ (p : List Placed × List Placed). ending_left (definitions parser) parser.stream.defining depth p.0 p.1) pulls
        ∙ (pulled_keeps (definitions parser) parser.stream.defining (drop 1 (pending parser.stream).0) (pending parser.stream).1).ending depth
        ∙ sym later_is

    -- newlines that are blanks have been passed too
    module _ (new : Parser) (blanks : Blanks new.braces (known mid) mid.defining (pending mid) (pending new.stream)) (moved : Stays mid new.stream) (deeper : new.depth ≡ depth) where
      within : new.braces ≤ depth
      within = omega (arith, new.nested, deeper)

      same_left : placed_left new ≡ statement_left (known mid) mid.defining depth (pending new.stream).0 (pending new.stream).1
      unfolding placed_left
      same_left =
          ap (λ (ds : List Definition). statement_left ds new.stream.defining new.depth (pending new.stream).0 (pending new.stream).1) moved.known
          ∙ ap (λ (w : Bool). statement_left (known mid) w new.depth (pending new.stream).0 (pending new.stream).1) moved.defining
          ∙ ap (λ (d : ℕ). statement_left (known mid) mid.defining d (pending new.stream).0 (pending new.stream).1) deeper

      tokens_drop : (ps : List Placed) → tokens_of (drop 1 ps) ≡ drop 1 (tokens_of ps)
      tokens_drop [] = refl
      tokens_drop (p ∷ ps) = refl

      pub passed_left : left new ≡ blanked new.braces (drop 1 (tokens_of (placed_left parser)))
      unfolding left
      passed_left =
          ap (λ (ps : List Placed). blanked new.braces (tokens_of ps)) same_left
          ∙ blanks.statement depth within
          ∙ ap (λ (ps : List Placed). blanked new.braces (tokens_of ps)) mid_left
          ∙ ap (blanked new.braces) (tokens_drop (placed_left parser))

      passed_behind : (later new).behind ≡ (later parser).behind
      unfolding later
      passed_behind =
          ap (λ (ds : List Definition). ending_left ds new.stream.defining new.depth (pending new.stream).0 (pending new.stream).1) moved.known
          ∙ ap (λ (w : Bool). ending_left (known mid) w new.depth (pending new.stream).0 (pending new.stream).1) moved.defining
          ∙ ap (λ (d : ℕ). ending_left (known mid) mid.defining d (pending new.stream).0 (pending new.stream).1) deeper
          ∙ blanks.ending depth within
          ∙ mid_later

      -- the token has been counted, and the newlines behind it
      module _ (passed : Passed) (counted : (ts : List Token) → carried (definitions parser) passed depth ts ≡ carried (definitions parser) parser.passed parser.depth (token_of l.lexeme ∷ ts)) (blank : carried (known mid) new.passed new.depth (statement_tokens (known mid) mid.defining new.depth (pending new.stream)) ≡ carried (known mid) passed new.depth (statement_tokens (known mid) mid.defining new.depth (pending mid))) where
        first_is : tokens_of (placed_left parser) ≡ token_of l.lexeme ∷ tokens_of (drop 1 (placed_left parser))
        first_is = ap (λ (ps : List Placed). tokens_of ps) placed_is ∙ sym (ap (λ (ps : List Placed). token_of l.lexeme ∷ tokens_of (drop 1 ps)) placed_is)

        blank_there : carried (known mid) new.passed depth (statement_tokens (known mid) mid.defining depth (pending new.stream)) ≡ carried (known mid) passed depth (statement_tokens (known mid) mid.defining depth (pending mid))
        blank_there = rw deeper at blank

        passed_fault : carried (definitions new) new.passed new.depth (tokens_of (placed_left new)) ≡ carried (definitions parser) parser.passed parser.depth (tokens_of (placed_left parser))
        passed_fault =
            ap (λ (ds : List Definition). carried ds new.passed new.depth (tokens_of (placed_left new))) moved.known
            ∙ ap (λ (ps : List Placed). carried (known mid) new.passed new.depth (tokens_of ps)) same_left
            ∙ ap (λ (d : ℕ). carried (known mid) new.passed d (statement_tokens (known mid) mid.defining depth (pending new.stream))) deeper
            ∙ blank_there
            ∙ ap (λ (ps : List Placed). carried (known mid) passed depth (tokens_of ps)) mid_left
            ∙ ap (λ (ds : List Definition). carried ds passed depth (tokens_of (drop 1 (placed_left parser)))) stays.known
            ∙ counted (tokens_of (drop 1 (placed_left parser)))
            ∙ ap (λ (ts : List Token). carried (definitions parser) parser.passed parser.depth ts) (sym first_is)

        fault_same : (later new).fault ≡ (later parser).fault
        unfolding later
        fault_same = passed_fault

        pub passed_later : later new ≡ later parser
        passed_later = both (later new) (later parser) passed_behind fault_same
          where
            both : (a b : Later) → a.behind ≡ b.behind → a.fault ≡ b.fault → a ≡ b
            both a b e f = ap (λ (ps : List Placed). made ps a.fault) e ∙ ap (λ (o : Option ReadingFault). made b.behind o) f
              where
                made : List Placed → Option ReadingFault → Later
                made ps o = record { behind = ps; fault = o }

-- ---- at the end

pub later_none : (parser : Parser) → parser.stream.next ≡ None → (later parser).behind ≡ []
unfolding pending later
later_none parser e = ending_none (definitions parser) parser.stream.defining parser.stream.line parser.depth (tokens_left parser.stream.inside) (tokens_left parser.stream.text) parser.stream.next e

later_end : (parser : Parser) (l : Lexed) → parser.stream.next ≡ Some l → ends parser.depth (placed_of l) ≡ true → (later parser).behind ≡ placed_of l ∷ tokens_left parser.stream.text
unfolding pending later
later_end parser l e ended = ending_end (definitions parser) parser.stream.defining parser.stream.line parser.depth (tokens_left parser.stream.inside) (tokens_left parser.stream.text) parser.stream.next l e ended

-- where the statement has ended, the token at hand ends it
pub later_behind : (parser : Parser) (l : Lexed) → parser.stream.next ≡ Some l → left parser ≡ [] → drop 1 (later parser).behind ≡ tokens_left parser.stream.text
later_behind parser l e nothing = cases (ends parser.depth (placed_of l)) refl
  where
    cases : (b : Bool) → ends parser.depth (placed_of l) ≡ b → drop 1 (later parser).behind ≡ tokens_left parser.stream.text
    cases true ended = ap (λ (ps : List Placed). drop 1 ps) (later_end parser l e ended)
    cases false inner = absurd (let h = sym (left_token parser l e inner) ∙ ap (λ (ts : List Token). first ts) nothing in cc)

-- ---- the fault of a statement

nothing_placed : (parser : Parser) → left parser ≡ [] → placed_left parser ≡ []
nothing_placed parser nothing = cases parser.stream.next refl
  where
    ended : (l : Lexed) → parser.stream.next ≡ Some l → (b : Bool) → ends parser.depth (placed_of l) ≡ b → placed_left parser ≡ []
    ended l e true ends = placed_end parser l e ends
    ended l e false inner = absurd (let h = sym (left_token parser l e inner) ∙ ap (λ (ts : List Token). first ts) nothing in cc)

    cases : (o : Option Lexed) → parser.stream.next ≡ o → placed_left parser ≡ []
    cases None e = placed_none parser e
    cases (Some l) e = ended l e (ends parser.depth (placed_of l)) refl

-- once one was found, or nothing is left, it is known
pub fault_reported : (parser : Parser) → (is_some parser.passed.fault ≡ false → left parser ≡ []) → parser.passed.fault ≡ (later parser).fault
unfolding later
fault_reported parser none = cases parser.passed.fault refl
  where
    rest : List Token → Option ReadingFault
    rest ts = reading_fault (definitions parser) parser.passed.count parser.depth ts

    cases : (o : Option ReadingFault) → parser.passed.fault ≡ o → o ≡ option_or o (rest (tokens_of (placed_left parser)))
    cases (Some fault) e = refl
    cases None e = sym (ap (λ (ps : List Placed). rest (tokens_of ps)) (nothing_placed parser (none (ap is_some e))))

-- ---- the token at hand, where it ends no statement

-- the token that ends a statement is no word and no symbol
ends_alone : (t : Token) (written outside : Bool) → written && is_newline t && outside ≡ true → (t ≡ Newline)
ends_alone Newline written outside e = refl
ends_alone (Word text) true outside e = absurd cc
ends_alone (Word text) false outside e = absurd cc
ends_alone (Quoted text) true outside e = absurd cc
ends_alone (Quoted text) false outside e = absurd cc
ends_alone (Macro name) true outside e = absurd cc
ends_alone (Macro name) false outside e = absurd cc
ends_alone (Mark symbol) true outside e = absurd cc
ends_alone (Mark symbol) false outside e = absurd cc
ends_alone Bad true outside e = absurd cc
ends_alone Bad false outside e = absurd cc

begins_first : (word : List ℕ) (ts : List Token) (t : Token) → first ts ≡ Some t → begins word ts ≡ is_word word t
begins_first word [] t e = absurd cc
begins_first word (u ∷ ts) t e = let same : u ≡ t = cc in ap (is_word word) same

symbol_first : (symbol : Symbol) (ts : List Token) (t : Token) → first ts ≡ Some t → begins_symbol symbol ts ≡ is_symbol symbol t
symbol_first symbol [] t e = absurd cc
symbol_first symbol (u ∷ ts) t e = let same : u ≡ t = cc in ap (is_symbol symbol) same

pub begins_nothing : (parser : Parser) (word : List ℕ) → parser.stream.next ≡ None → begins word (left parser) ≡ false
begins_nothing parser word e = ap (begins word) (left_none parser e)

pub symbol_nothing : (parser : Parser) (symbol : Symbol) → parser.stream.next ≡ None → begins_symbol symbol (left parser) ≡ false
symbol_nothing parser symbol e = ap (begins_symbol symbol) (left_none parser e)

pub begins_at_hand : (parser : Parser) (l : Lexed) (word : List ℕ) → parser.stream.next ≡ Some l → begins word (left parser) ≡ is_word word (token_of l.lexeme)
begins_at_hand parser l word e = cases (ends parser.depth (placed_of l)) refl
  where
    cases : (b : Bool) → ends parser.depth (placed_of l) ≡ b → begins word (left parser) ≡ is_word word (token_of l.lexeme)
    cases true ended = ap (begins word) (left_end parser l e ended) ∙ sym (ap (is_word word) (ends_alone (token_of l.lexeme) l.written (parser.depth == 0) ended))
    cases false inner = begins_first word (left parser) (token_of l.lexeme) (left_token parser l e inner)

pub symbol_at_hand : (parser : Parser) (l : Lexed) (symbol : Symbol) → parser.stream.next ≡ Some l → begins_symbol symbol (left parser) ≡ is_symbol symbol (token_of l.lexeme)
symbol_at_hand parser l symbol e = cases (ends parser.depth (placed_of l)) refl
  where
    cases : (b : Bool) → ends parser.depth (placed_of l) ≡ b → begins_symbol symbol (left parser) ≡ is_symbol symbol (token_of l.lexeme)
    cases true ended = ap (begins_symbol symbol) (left_end parser l e ended) ∙ sym (ap (is_symbol symbol) (ends_alone (token_of l.lexeme) l.written (parser.depth == 0) ended))
    cases false inner = symbol_first symbol (left parser) (token_of l.lexeme) (left_token parser l e inner)

-- ---- a word or a string at hand

abbrev IsText : Token → Type 0
IsText t = is_some (name_of t) ≡ true

text_no_newline : (t : Token) → IsText t → is_newline t ≡ false
text_no_newline (Word text) is = refl
text_no_newline (Quoted text) is = refl
text_no_newline (Macro name) is = absurd cc
text_no_newline (Mark symbol) is = absurd cc
text_no_newline Newline is = absurd cc
text_no_newline Bad is = absurd cc

text_depth : (t : Token) (depth : ℕ) → IsText t → depth_after depth t ≡ depth
text_depth (Word text) depth is = refl
text_depth (Quoted text) depth is = refl
text_depth (Macro name) depth is = absurd cc
text_depth (Mark symbol) depth is = absurd cc
text_depth Newline depth is = absurd cc
text_depth Bad depth is = absurd cc

text_open : (t : Token) (braces : ℕ) → IsText t → open_after braces t ≡ braces
text_open t zero is = refl
text_open t (suc n) is = text_depth t (suc n) is

pub text_inner : (l : Lexed) (depth : ℕ) → IsText (token_of l.lexeme) → ends depth (placed_of l) ≡ false
text_inner l depth is = none l.written (token_of l.lexeme) (text_no_newline (token_of l.lexeme) is)
  where
    none : (written : Bool) (t : Token) → is_newline t ≡ false → written && is_newline t && (depth == 0) ≡ false
    none true t e = rw e refl
    none false t e = refl

pub text_nested : (t : Token) (braces depth : ℕ) → IsText t → braces ≤ depth → braces ≤ depth_after depth t
text_nested t braces depth is le = rw (text_depth t depth is) le

pub text_passed : (parser new : Parser) (l : Lexed) → parser.stream.next ≡ Some l → IsText (token_of l.lexeme)
    → left new ≡ blanked parser.braces (drop 1 (tokens_of (placed_left parser))) → left parser ≡ token_of l.lexeme ∷ left new
text_passed parser new l at_hand is first_item =
    left_is parser l at_hand (text_inner l parser.depth is)
    ∙ ap (λ (n : ℕ). token_of l.lexeme ∷ blanked n (drop 1 (tokens_of (placed_left parser)))) (text_open (token_of l.lexeme) parser.braces is)
    ∙ sym (ap (λ (ts : List Token). token_of l.lexeme ∷ ts) first_item)

-- what is read of the first token alone isn't read where it can't be read of the token at hand
reads_none : (read : List Token → Option (List ℕ × List Token)) (of : Token → Option (List ℕ)) → read [] ≡ None → of Newline ≡ None
    → ((t : Token) (ts : List Token) → read (t ∷ ts) ≡ option_map (λ (text : List ℕ). (text, ts)) (of t))
    → (parser : Parser) (l : Lexed) → parser.stream.next ≡ Some l → of (token_of l.lexeme) ≡ None → read (left parser) ≡ None
reads_none read of none newline there parser l e bad = cases (ends parser.depth (placed_of l)) refl
  where
    front : (ts : List Token) → first ts ≡ Some (token_of l.lexeme) → read ts ≡ None
    front [] h = absurd cc
    front (t ∷ ts) h = let same : t ≡ token_of l.lexeme = cc in there t ts ∙ ap (λ (u : Token). option_map (λ (text : List ℕ). (text, ts)) (of u)) same ∙ ap (option_map (λ (text : List ℕ). (text, ts))) bad

    cases : (b : Bool) → ends parser.depth (placed_of l) ≡ b → read (left parser) ≡ None
    cases true ended = ap read (left_end parser l e ended) ∙ none
    cases false inner = front (left parser) (left_token parser l e inner)

pub word_nothing : (parser : Parser) → parser.stream.next ≡ None → word_at (left parser) ≡ None
word_nothing parser e = ap word_at (left_none parser e)

pub word_none : (parser : Parser) (l : Lexed) → parser.stream.next ≡ Some l → word_of (token_of l.lexeme) ≡ None → word_at (left parser) ≡ None
word_none parser l e bad = reads_none word_at word_of refl refl (λ t ts. refl) parser l e bad

pub name_nothing : (parser : Parser) → parser.stream.next ≡ None → name_at (left parser) ≡ None
name_nothing parser e = ap name_at (left_none parser e)

pub name_none : (parser : Parser) (l : Lexed) → parser.stream.next ≡ Some l → name_of (token_of l.lexeme) ≡ None → name_at (left parser) ≡ None
name_none parser l e bad = reads_none name_at name_of refl refl (λ t ts. refl) parser l e bad

pub word_is_text : (t : Token) (text : List ℕ) → word_of t ≡ Some text → IsText t
word_is_text (Word text) _ e = refl
word_is_text (Quoted text) _ e = absurd cc
word_is_text (Macro name) _ e = absurd cc
word_is_text (Mark symbol) _ e = absurd cc
word_is_text Newline _ e = absurd cc
word_is_text Bad _ e = absurd cc
