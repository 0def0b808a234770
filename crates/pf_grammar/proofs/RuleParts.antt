-- The parts of a shown rule are its tokens.
use Rattle.std.proofs.Common.{◌≡◌, ℕ, ◌<◌, ◌≤◌, ◌==◌, ◌&&◌, ◌||◌, ◌⊎◌, inl, inr, Bool, true, false, cond, List, [], ◌∷◌, ◌++◌, length, Option, Some, None, refl, sym, ap, subst, append_assoc, arith, eqb-true, ◌∙◌}
use Rattle.std.specs.Prelude.{decimal, codes, nat_lt}
use Rattle.std.specs.List.{AllByRecursion, list_all}
use Rattle.std.specs.Char.{is_ascii_alphanumeric}
use Rattle.std.proofs.lemmas.Bool.{false≢true}
use Rattle.std.proofs.lemmas.Bool.Decides.{nat_tests}
use Rattle.std.proofs.lemmas.List.{append-nil, length-append}
use Rattle.pf_addr.specs.declared.addr.Addr.{Addr}
use Rattle.pf_addr.specs.declared.addr.Addr.TheVariants.{V4, V6}
use Rattle.pf_addr.specs.Blocks.{Block, width, FitsAddr, IsBlock}
use Rattle.pf_addr.specs.Shown.{shown_addr, shown_prefix}
use Rattle.pf_addr.proofs.Made.{FitsBlock}
use Rattle.pf_addr.proofs.Plain.{IsAddressByte, address_plain, address_some}
use Rattle.pf_rules.specs.declared.profile.Profile.{Profile}
use Rattle.pf_tokens.specs.declared.symbol.Symbol.TheVariants as mark
use Rattle.pf_tokens.specs.Tokens.{Token, Mark, is_word_byte, Placed, Word}
use Rattle.pf_rules.specs.declared.rule.Action.{Action}
use Rattle.pf_rules.specs.declared.rule.Action.TheVariants as act
use Rattle.pf_rules.specs.declared.parts.Direction.{Direction}
use Rattle.pf_rules.specs.declared.parts.Direction.TheVariants.{In, Out}
use Rattle.pf_addr.specs.declared.addr.Family.{Family}
use Rattle.pf_addr.specs.declared.addr.Family.TheVariants.{Inet, Inet6}
use Rattle.pf_rules.specs.declared.parts.Interface.{Interface}
use Rattle.pf_rules.specs.declared.parts.Addresses.{Addresses}
use Rattle.pf_rules.specs.declared.parts.Addresses.TheVariants.{Prefix, Range, Table}
use Rattle.pf_rules.specs.declared.parts.Host.{Host}
use Rattle.pf_rules.specs.declared.parts.Host.TheVariants as host
use Rattle.pf_rules.specs.declared.parts.PortTest.{PortTest}
use Rattle.pf_rules.specs.declared.parts.PortTest.TheVariants.{Equal, NotEqual, Less, LessEqual, Greater, GreaterEqual, FromTo, Between, Outside}
use Rattle.pf_rules.specs.declared.flags.TcpFlags.{TcpFlags}
use Rattle.pf_rules.specs.declared.parts.FlagTest.{FlagTest}
use Rattle.pf_rules.specs.declared.parts.FlagTest.TheVariants as flags
use Rattle.pf_rules.specs.declared.rule.Rule.{Rule}
use Rattle.pf_rules.specs.Words.{is_interface_text, is_interface_name, is_table_text, is_table_name, is_table_byte, is_anchor_byte, begins_with_letter}
use Rattle.pf_tokens.specs.ListGrammar.{sign}
use Rattle.pf_statements.specs.ConditionGrammar.{key}
use Rattle.pf_show.specs.Shown.{action_parts, direction_parts, quick_parts, negated_part, negated_parts, interface_parts, family_parts, protocol_parts, addresses_parts, host_parts, test_parts, port_parts, end_parts, ends_parts, type_parts, letter, letters, flags_text, flags_parts, state_parts, condition_parts, rule_parts, line as shown_line}
use Rattle.pf_expansion.proofs.Given.{IsDigit, Digits}
use Rattle.pf_grammar.proofs.Numbers.{decimal_digits, decimal_there}
use Rattle.pf_grammar.proofs.ShownTokens.{FitsAddresses, FitsHost, FitsTest, FitsIf, FitsFlags, FitsType, FitsRule, action_tokens, direction_tokens, quick_tokens, negated_tokens, interface_tokens, family_tokens, protocol_tokens, length_tokens, addresses_tokens, host_tokens, test_tokens, port_tokens, end_tokens, both_tokens, ends_tokens, type_tokens, letters_token, test_of_tokens, flags_tokens, state_tokens, option_tokens, rule_tokens, prefix_tokens, table_tokens}
use Rattle.pf_grammar.proofs.Parts.{lexed, IsPart, word_part, not_part, slash_part, slash_first, equals_part, less_part, greater_part, not_equal_part, less_equal_part, greater_equal_part, between_part, outside_part, AreParts, NoPart, OnePart, parts_append, with_newline, line_lexes, less_lexes, not_less_lexes, word_lexes, at_line}

-- ---- bytes of words

abbrev pub Words : List ℕ → Type 0
Words text = list_all is_word_byte text ≡ true

pub some_word : (word : List ℕ) → 0 < length word → Words word → IsPart word (key word)
some_word [] some all = absurd (omega arith)
some_word (b ∷ word) some all = word_part b word all

words_append : (xs ys : List ℕ) → Words xs → Words ys → Words (xs ++ ys)
words_append [] ys p q = q
words_append (x ∷ xs) ys p q = cases (is_word_byte x) p (λ h. words_append xs ys h q)
  where
    cases : (t : Bool) → (t && list_all is_word_byte xs) ≡ true → (Words xs → Words (xs ++ ys)) → (t && list_all is_word_byte (xs ++ ys)) ≡ true
    cases true p more = more p
    cases false p more = absurd (false≢true p)

digit_word : (b : ℕ) → IsDigit b → is_word_byte b ≡ true
digit_word b digit = grind (arith, nat_tests)

digits_word : (text : List ℕ) → Digits text → Words text
digits_word [] digits = refl
digits_word (b ∷ text) digits = rw (digit_word b digits.0, digits_word text digits.1) refl

colon_or_digit : (b : ℕ) → 48 ≤ b → b ≤ 58 → is_word_byte b ≡ true
colon_or_digit b low high = cases (b == 58) refl
  where
    cases : (t : Bool) → (b == 58) ≡ t → is_word_byte b ≡ true
    cases true e = ap is_word_byte (eqb-true b 58 e)
    cases false e = digit_word b (low, (let h = e in grind (arith, nat_tests)))

lower_word : (b : ℕ) → 97 ≤ b → b ≤ 102 → is_word_byte b ≡ true
lower_word b low high = grind (arith, nat_tests)

address_word : (b : ℕ) → IsAddressByte b → is_word_byte b ≡ true
address_word b byte = elim byte [ inl low ↦ colon_or_digit b low.0 low.1 | inr rest ↦ elim rest [ inl high ↦ lower_word b high.0 high.1 | inr dot ↦ ap is_word_byte dot ] ]

addresses_word : (text : List ℕ) → AllByRecursion IsAddressByte text → Words text
addresses_word [] all = refl
addresses_word (b ∷ text) all = rw (address_word b all.0, addresses_word text all.1) refl

and_parts : (a b : Bool) → (a && b) ≡ true → (a ≡ true) × (b ≡ true)
and_parts true b e = (refl, e)
and_parts false b e = absurd (false≢true e)

or_parts : (a b : Bool) → (a || b) ≡ true → (a ≡ true) ⊎ (b ≡ true)
or_parts true b e = inl refl
or_parts false b e = inr e

alphanumeric_word : (b : ℕ) → is_ascii_alphanumeric b ≡ true → is_word_byte b ≡ true
alphanumeric_word b e = rw e refl

table_word : (b : ℕ) → is_table_byte b ≡ true → is_word_byte b ≡ true
table_word b e =
    elim (or_parts (is_ascii_alphanumeric b) (b == 95 || b == 45) e) [
      | inl letter ↦ alphanumeric_word b letter
      | inr mark ↦ elim (or_parts (b == 95) (b == 45) mark) [ inl under ↦ ap is_word_byte (eqb-true b 95 under) | inr hyphen ↦ ap is_word_byte (eqb-true b 45 hyphen) ]
    ]

interface_word : (b : ℕ) → is_anchor_byte b ≡ true → is_word_byte b ≡ true
interface_word b e = elim (or_parts (is_table_byte b) (b == 46) e) [ inl common ↦ table_word b common | inr dot ↦ ap is_word_byte (eqb-true b 46 dot) ]

interface_words : (text : List ℕ) → list_all is_anchor_byte text ≡ true → Words text
interface_words [] all = refl
interface_words (b ∷ text) all =
    let h = and_parts (is_anchor_byte b) (list_all is_anchor_byte text) all in
    rw (interface_word b h.0, interface_words text h.1) refl

-- a name is a word
pub record IsNameWord (name : List ℕ) : Type 0 where
  pub some : 0 < length name
  pub words : Words name

letter_some : (name : List ℕ) → begins_with_letter name ≡ true → 0 < length name
letter_some [] e = absurd (false≢true e)
letter_some (b ∷ name) e = omega arith

pub name_word : (profile : Profile) (name : List ℕ) → is_interface_name profile name ≡ true → IsNameWord name
unfolding is_interface_name is_interface_text
name_word profile name e =
    let a = and_parts _ _ e in
    let b = and_parts _ _ a.0 in
    let d = and_parts _ _ b.0 in
    record { some = letter_some name d.0; words = interface_words name b.1 }

table_words : (text : List ℕ) → list_all is_table_byte text ≡ true → Words text
table_words [] all = refl
table_words (b ∷ text) all =
    let h = and_parts (is_table_byte b) (list_all is_table_byte text) all in
    rw (table_word b h.0, table_words text h.1) refl

counted : (text : List ℕ) → nat_lt 0 (length text) ≡ true → 0 < length text
counted [] e = absurd (false≢true e)
counted (b ∷ text) e = omega arith

pub table_name_word : (profile : Profile) (name : List ℕ) → is_table_name profile name ≡ true → IsNameWord name
unfolding is_table_name is_table_text
table_name_word profile name e =
    let a = and_parts _ _ e in
    let b = and_parts _ _ a.0 in
    let d = and_parts _ _ b.0 in
    record { some = counted name d.0; words = table_words name b.1 }

-- a name between < and >
word_table : (name : List ℕ) → 0 < length name → Words name → IsPart (60 ∷ (name ++ 62 ∷ [])) (table_tokens name)
word_table [] some all = absurd (omega arith)
word_table (b ∷ name) some all = record {
  lexes = λ n c rest blank.
      let first = (and_parts (is_word_byte b) (list_all is_word_byte name) all).0 in
      less_lexes n b ((name ++ 62 ∷ []) ++ c ∷ rest) first
      ∙ ap (λ (ps : List Placed). at_line n (Mark mark.Less) ∷ ps) (
      ap (lexed n) (append_assoc (b ∷ name) (62 ∷ []) (c ∷ rest))
      ∙ word_lexes n b name (62 ∷ c ∷ rest) all (refl, refl)
      ∙ ap (λ (ps : List Placed). at_line n (Word (b ∷ name)) ∷ ps) (greater_part.lexes n c rest blank));
}

pub table_part : (name : List ℕ) → IsNameWord name → IsPart (60 ∷ (name ++ 62 ∷ [])) (table_tokens name)
table_part name is = word_table name is.some is.words

pub not_table_part : (name : List ℕ) → IsNameWord name → IsPart (33 ∷ 60 ∷ (name ++ 62 ∷ [])) (Mark mark.Not ∷ table_tokens name)
not_table_part name is = record { lexes = λ n c rest blank. not_less_lexes n ((name ++ 62 ∷ []) ++ c ∷ rest) ∙ ap (λ (ps : List Placed). at_line n (Mark mark.Not) ∷ ps) ((table_part name is).lexes n c rest blank) }

-- ---- the parts

pub one_part : (part : List ℕ) (ts : List Token) → IsPart part ts → AreParts (part ∷ []) ts
one_part part ts is = subst (λ (us : List Token). AreParts (part ∷ []) us) (append-nil ts) (OnePart part [] ts [] is NoPart)

key_parts : (b : ℕ) (word : List ℕ) → Words (b ∷ word) → AreParts ((b ∷ word) ∷ []) (key (b ∷ word))
key_parts b word all = one_part (b ∷ word) (key (b ∷ word)) (word_part b word all)

pub behind_key : (b : ℕ) (word : List ℕ) (parts : List (List ℕ)) (ts : List Token) → Words (b ∷ word) → AreParts parts ts → AreParts ((b ∷ word) ∷ parts) (key (b ∷ word) ++ ts)
behind_key b word parts ts all are = OnePart (b ∷ word) parts (key (b ∷ word)) ts (word_part b word all) are

decimal_part : (n : ℕ) → n ≤ 65535 → IsPart (decimal n) (key (decimal n))
decimal_part n fits = let small : n < 65536 = omega (arith, fits) in some_word (decimal n) (decimal_there n small) (digits_word (decimal n) (decimal_digits n small))

direction_are : (d : Option Direction) → AreParts (direction_parts d) (direction_tokens d)
direction_are None = NoPart
direction_are (Some In) = key_parts 105 (110 ∷ []) refl
direction_are (Some Out) = key_parts 111 (117 ∷ 116 ∷ []) refl

quick_are : (q : Bool) → AreParts (quick_parts q) (quick_tokens q)
quick_are true = key_parts 113 (117 ∷ 105 ∷ 99 ∷ 107 ∷ []) refl
quick_are false = NoPart

-- a word behind `!`
negated_word : (word : List ℕ) → 0 < length word → Words word → IsPart (33 ∷ word) (Mark mark.Not ∷ key word)
negated_word [] some all = absurd (omega arith)
negated_word (b ∷ word) some all = not_part b word (key (b ∷ word)) (and_parts (is_word_byte b) (list_all is_word_byte word) all).0 (word_part b word all)

name_are : (negated : Bool) (name : List ℕ) → IsNameWord name → AreParts (negated_part negated name ∷ []) (negated_tokens negated (key name))
name_are true name is = one_part _ _ (negated_word name is.some is.words)
name_are false name is = one_part _ _ (some_word name is.some is.words)

interface_are : (profile : Profile) (i : Option Interface) → FitsIf (λ (i : Interface). is_interface_name profile i.name ≡ true) i → AreParts (interface_parts i) (interface_tokens i)
interface_are profile None fits = NoPart
interface_are profile (Some i) fits = behind_key 111 (110 ∷ []) _ _ refl (name_are i.negated i.name (name_word profile i.name fits))

family_are : (f : Option Family) → AreParts (family_parts f) (family_tokens f)
family_are None = NoPart
family_are (Some Inet) = key_parts 105 (110 ∷ 101 ∷ 116 ∷ []) refl
family_are (Some Inet6) = key_parts 105 (110 ∷ 101 ∷ 116 ∷ 54 ∷ []) refl

protocol_are : (p : Option ℕ) → FitsIf (λ n. n ≤ 255) p → AreParts (protocol_parts p) (protocol_tokens p)
protocol_are None fits = NoPart
protocol_are (Some n) fits = behind_key 112 (114 ∷ 111 ∷ 116 ∷ 111 ∷ []) _ _ refl (one_part _ _ (decimal_part n (omega (arith, fits))))

-- ---- hosts

address_some_word : (a : Addr) → FitsAddr a → Words (shown_addr a)
address_some_word a fits = addresses_word (shown_addr a) (address_plain a fits)

address_part : (a : Addr) → FitsAddr a → IsPart (shown_addr a) (key (shown_addr a))
address_part a fits = some_word (shown_addr a) (address_some a fits) (address_some_word a fits)

word_slash : (word part : List ℕ) (ts : List Token) → 0 < length word → Words word → IsPart part ts → IsPart (word ++ 47 ∷ part) (key word ++ (sign mark.Slash ++ ts))
word_slash [] part ts some all is = absurd (omega arith)
word_slash (b ∷ word) part ts some all is = slash_part b word part ts all is

length_small : (a : Addr) (len : ℕ) → IsBlock a len → len ≤ 65535
length_small a len block = cases a block
  where
    cases : (a : Addr) → IsBlock a len → len ≤ 65535
    cases (V4 bits) block = omega (arith, block.0)
    cases (V6 bits) block = omega (arith, block.0)

prefix_part : (a : Addr) (len : ℕ) (full : Bool) → FitsAddr a → IsBlock a len → IsPart (shown_addr a ++ cond full [] (47 ∷ decimal len)) (key (shown_addr a) ++ length_tokens full len)
prefix_part a len true fits block = subst (λ (text : List ℕ). IsPart text (key (shown_addr a))) (sym (append-nil (shown_addr a))) (address_part a fits)
prefix_part a len false fits block = word_slash (shown_addr a) (decimal len) (key (decimal len)) (address_some a fits) (address_some_word a fits) (decimal_part len (length_small a len block))

pub prefix_parts : (block : Block) → FitsBlock block → IsPart (shown_prefix block) (prefix_tokens block)
prefix_parts block fits = prefix_part block.base block.len (block.len == width block.base) fits.fits fits.block

addresses_are : (profile : Profile) (set : Addresses) → FitsAddresses profile set → AreParts (addresses_parts set) (addresses_tokens set)
addresses_are profile (Prefix block) fits = one_part _ _ (prefix_parts block fits)
addresses_are profile (Table name) fits = one_part _ _ (table_part name (table_name_word profile name fits))
addresses_are profile (Range span) fits = OnePart _ _ _ _ (address_part span.first fits.0) (behind_key 45 [] _ _ refl (one_part _ _ (address_part span.last fits.1)))

-- `!` before a part that begins with a word
negated_first : (word more : List ℕ) (ts : List Token) → 0 < length word → Words word → IsPart (word ++ more) ts → IsPart (33 ∷ (word ++ more)) (Mark mark.Not ∷ ts)
negated_first [] more ts some all is = absurd (omega arith)
negated_first (b ∷ word) more ts some all is = not_part b (word ++ more) ts (and_parts (is_word_byte b) (list_all is_word_byte word) all).0 is

pub negated_prefix : (block : Block) → FitsBlock block → IsPart (33 ∷ shown_prefix block) (Mark mark.Not ∷ prefix_tokens block)
negated_prefix block fits = negated_first (shown_addr block.base) _ _ (address_some block.base fits.fits) (address_some_word block.base fits.fits) (prefix_parts block fits)

negated_are : (profile : Profile) (set : Addresses) → FitsAddresses profile set → AreParts (negated_parts (addresses_parts set)) (Mark mark.Not ∷ addresses_tokens set)
negated_are profile (Prefix block) fits = one_part _ _ (negated_prefix block fits)
negated_are profile (Table name) fits = one_part _ _ (not_table_part name (table_name_word profile name fits))
negated_are profile (Range span) fits = OnePart _ _ (Mark mark.Not ∷ key (shown_addr span.first)) _ (negated_word (shown_addr span.first) (address_some span.first fits.0) (address_some_word span.first fits.0)) (behind_key 45 [] _ _ refl (one_part _ _ (address_part span.last fits.1)))

host_are : (profile : Profile) (h : Host) → FitsHost profile h → AreParts (host_parts h) (host_tokens h)
host_are profile host.Any fits = key_parts 97 (110 ∷ 121 ∷ []) refl
host_are profile (host.In set) fits = addresses_are profile set fits
host_are profile (host.NotIn set) fits = negated_are profile set fits

-- ---- ports

compared_are : (part : List ℕ) (s : Token) (n : ℕ) → IsPart part (s ∷ []) → n ≤ 65535 → AreParts (part ∷ decimal n ∷ []) (s ∷ key (decimal n))
compared_are part s n is fits = OnePart part (decimal n ∷ []) (s ∷ []) (key (decimal n)) is (one_part _ _ (decimal_part n fits))

bounds_are : (part : List ℕ) (s : Token) (a b : ℕ) → IsPart part (s ∷ []) → a ≤ 65535 → b ≤ 65535 → AreParts (decimal a ∷ part ∷ decimal b ∷ []) (key (decimal a) ++ (s ∷ key (decimal b)))
bounds_are part s a b is fits_a fits_b = OnePart (decimal a) _ (key (decimal a)) _ (decimal_part a fits_a) (compared_are part s b is fits_b)

range_part : (a b : ℕ) → a ≤ 65535 → b ≤ 65535 → IsPart (decimal a ++ 58 ∷ decimal b) (key (decimal a ++ 58 ∷ decimal b))
range_part a b fits_a fits_b =
    let small_a : a < 65536 = omega (arith, fits_a) in
    let small_b : b < 65536 = omega (arith, fits_b) in
    let there = decimal_there a small_a in
    let len = length-append (decimal a) (58 ∷ decimal b) in
    some_word (decimal a ++ 58 ∷ decimal b) (omega (arith, there, len)) (words_append (decimal a) (58 ∷ decimal b) (digits_word (decimal a) (decimal_digits a small_a)) (digits_word (decimal b) (decimal_digits b small_b)))

test_are : (test : PortTest) → FitsTest test → AreParts (test_parts test) (test_tokens test)
test_are (Equal n) fits = compared_are _ _ n equals_part fits
test_are (NotEqual n) fits = compared_are _ _ n not_equal_part fits
test_are (Less n) fits = compared_are _ _ n less_part fits
test_are (LessEqual n) fits = compared_are _ _ n less_equal_part fits
test_are (Greater n) fits = compared_are _ _ n greater_part fits
test_are (GreaterEqual n) fits = compared_are _ _ n greater_equal_part fits
test_are (FromTo a b) fits = one_part _ _ (range_part a b fits.0 fits.1)
test_are (Between a b) fits = bounds_are _ _ a b between_part fits.0 fits.1
test_are (Outside a b) fits = bounds_are _ _ a b outside_part fits.0 fits.1

port_are : (port : Option PortTest) → FitsIf FitsTest port → AreParts (port_parts port) (port_tokens port)
port_are None fits = NoPart
port_are (Some test) fits = behind_key 112 (111 ∷ 114 ∷ 116 ∷ []) _ _ refl (test_are test fits)

end_are : (profile : Profile) (b : ℕ) (word : List ℕ) (h : Host) (port : Option PortTest) → Words (b ∷ word) → FitsHost profile h → FitsIf FitsTest port → AreParts (end_parts (b ∷ word) h port) (key (b ∷ word) ++ end_tokens h port)
end_are profile b word h port all fits_h fits_p = behind_key b word _ _ all (parts_append (host_parts h) (port_parts port) (host_tokens h) (port_tokens port) (host_are profile h fits_h) (port_are port fits_p))

both_are : (profile : Profile) (s : Host) (sp : Option PortTest) (d : Host) (dp : Option PortTest) → FitsHost profile s → FitsIf FitsTest sp → FitsHost profile d → FitsIf FitsTest dp → AreParts (end_parts (codes "from") s sp ++ end_parts (codes "to") d dp) (both_tokens s sp d dp)
both_are profile s sp d dp a b c e =
    parts_append (end_parts (codes "from") s sp) (end_parts (codes "to") d dp) (key (codes "from") ++ end_tokens s sp) (key (codes "to") ++ end_tokens d dp) (end_are profile 102 (114 ∷ 111 ∷ 109 ∷ []) s sp refl a b) (end_are profile 116 (111 ∷ []) d dp refl c e)

ends_are : (profile : Profile) (s : Host) (sp : Option PortTest) (d : Host) (dp : Option PortTest) → FitsHost profile s → FitsIf FitsTest sp → FitsHost profile d → FitsIf FitsTest dp → AreParts (ends_parts s sp d dp) (ends_tokens s sp d dp)
ends_are profile host.Any None host.Any None a b c d = key_parts 97 (108 ∷ 108 ∷ []) refl
ends_are profile host.Any None host.Any (Some t) a b c d = both_are profile host.Any None host.Any (Some t) a b c d
ends_are profile host.Any None (host.In set) dp a b c d = both_are profile host.Any None (host.In set) dp a b c d
ends_are profile host.Any None (host.NotIn set) dp a b c d = both_are profile host.Any None (host.NotIn set) dp a b c d
ends_are profile host.Any (Some t) e dp a b c d = both_are profile host.Any (Some t) e dp a b c d
ends_are profile (host.In set) sp e dp a b c d = both_are profile (host.In set) sp e dp a b c d
ends_are profile (host.NotIn set) sp e dp a b c d = both_are profile (host.NotIn set) sp e dp a b c d

-- ---- options

type_are : (profile : Profile) (protocol o : Option ℕ) → FitsIf (FitsType profile protocol) o → AreParts (type_parts o) (type_tokens o)
type_are profile protocol None fits = NoPart
type_are profile protocol (Some n) fits = behind_key 105 (99 ∷ 109 ∷ 112 ∷ 45 ∷ 116 ∷ 121 ∷ 112 ∷ 101 ∷ []) _ _ refl (one_part _ _ (decimal_part n (let h = fits.1 in omega (arith, h))))

more_words : (b : Bool) (c : ℕ) (rest : List ℕ) → is_word_byte c ≡ true → Words rest → Words (letter b c ++ rest)
more_words true c rest is all = rw (is, all) refl
more_words false c rest is all = all

one_word : (b : Bool) (c : ℕ) → is_word_byte c ≡ true → Words (letter b c)
one_word true c is = rw is refl
one_word false c is = refl

letters_word : (f : TcpFlags) → Words (letters f)
letters_word f =
    more_words f.fin 70 _ refl (more_words f.syn 83 _ refl (more_words f.rst 82 _ refl (more_words f.psh 80 _ refl
    (more_words f.ack 65 _ refl (more_words f.urg 85 _ refl (more_words f.ece 69 _ refl (one_word f.cwr 87 refl)))))))

there : (text : List ℕ) → nat_lt 0 (length text) ≡ true → 0 < length text
there [] e = absurd (false≢true e)
there (b ∷ text) e = omega arith

within_part : (set of : List ℕ) → Words set → Words of → 0 < length of → IsPart (set ++ 47 ∷ of) (letters_token set ++ (sign mark.Slash ++ key of))
within_part [] of words_set words_of some = slash_first of (key of) (some_word of some words_of)
within_part (b ∷ set) of words_set words_of some = slash_part b set of (key of) words_set (some_word of some words_of)

test_of_part : (test : FlagTest) → FitsFlags test → IsPart (flags_text test) (test_of_tokens test)
test_of_part flags.Any fits = word_part 97 (110 ∷ 121 ∷ []) refl
test_of_part (flags.Just set of) fits = within_part (letters set) (letters of) (letters_word set) (letters_word of) (there (letters of) fits.1)

some_flags : (test : FlagTest) → FitsFlags test → AreParts (codes "flags" ∷ flags_text test ∷ []) (key (codes "flags") ++ test_of_tokens test)
some_flags test fits = behind_key 102 (108 ∷ 97 ∷ 103 ∷ 115 ∷ []) _ _ refl (one_part _ _ (test_of_part test fits))

flags_are : (a : Action) (test : FlagTest) → FitsFlags test → AreParts (flags_parts a test) (flags_tokens a test)
flags_are act.Pass test fits = some_flags test fits
flags_are act.Drop flags.Any fits = NoPart
flags_are act.Drop (flags.Just set of) fits = some_flags (flags.Just set of) fits
flags_are act.Return flags.Any fits = NoPart
flags_are act.Return (flags.Just set of) fits = some_flags (flags.Just set of) fits

state_are : (a : Action) (keep : Bool) → AreParts (state_parts a keep) (state_tokens a keep)
state_are act.Pass true = behind_key 107 (101 ∷ 101 ∷ 112 ∷ []) _ _ refl (key_parts 115 (116 ∷ 97 ∷ 116 ∷ 101 ∷ []) refl)
state_are act.Pass false = behind_key 110 (111 ∷ []) _ _ refl (key_parts 115 (116 ∷ 97 ∷ 116 ∷ 101 ∷ []) refl)
state_are act.Drop keep = NoPart
state_are act.Return keep = NoPart

-- ---- the whole rule

abbrev pub more_tokens : Rule → List Token
more_tokens r =
    direction_tokens r.conditions.direction ++ ([] ++ (quick_tokens r.quick ++ (interface_tokens r.conditions.interface ++ (family_tokens r.conditions.family ++ (protocol_tokens r.conditions.protocol
    ++ (ends_tokens r.conditions.source r.conditions.source_port r.conditions.destination r.conditions.destination_port ++ option_tokens r))))))

abbrev front_tokens : Rule → List Token
front_tokens r =
    interface_tokens r.conditions.interface ++ (family_tokens r.conditions.family ++ (protocol_tokens r.conditions.protocol
    ++ (ends_tokens r.conditions.source r.conditions.source_port r.conditions.destination r.conditions.destination_port ++ type_tokens r.conditions.icmp_type)))

condition_are : (profile : Profile) (r : Rule) → FitsRule profile r → AreParts (condition_parts r.conditions) (front_tokens r)
unfolding condition_parts
condition_are profile r fits =
    let c = r.conditions in
    parts_append (interface_parts c.interface) _ (interface_tokens c.interface) _ (interface_are profile c.interface fits.conditions.interface)
    (parts_append (family_parts c.family) _ (family_tokens c.family) _ (family_are c.family)
    (parts_append (protocol_parts c.protocol) _ (protocol_tokens c.protocol) _ (protocol_are c.protocol fits.conditions.protocol)
    (parts_append (ends_parts c.source c.source_port c.destination c.destination_port) _ (ends_tokens c.source c.source_port c.destination c.destination_port) _ (ends_are profile c.source c.source_port c.destination c.destination_port fits.conditions.source fits.conditions.source_port fits.conditions.destination fits.conditions.destination_port)
    (type_are profile c.protocol c.icmp_type fits.conditions.types))))

-- the options are behind the type
rest_tokens : (a b c d e f : List Token) → (a ++ (b ++ (c ++ (d ++ e)))) ++ f ≡ a ++ (b ++ (c ++ (d ++ (e ++ f))))
rest_tokens a b c d e f = simp append_assoc refl

pub more_are : (profile : Profile) (r : Rule) → FitsRule profile r → AreParts (direction_parts r.conditions.direction ++ (quick_parts r.quick ++ (condition_parts r.conditions ++ (flags_parts r.action r.conditions.flags ++ state_parts r.action r.keeps_state)))) (more_tokens r)
more_are profile r fits =
    let c = r.conditions in
    let last = parts_append (flags_parts r.action c.flags) (state_parts r.action r.keeps_state) (flags_tokens r.action c.flags) (state_tokens r.action r.keeps_state) (flags_are r.action c.flags fits.conditions.flags) (state_are r.action r.keeps_state) in
    let both = parts_append (condition_parts c) (flags_parts r.action c.flags ++ state_parts r.action r.keeps_state) (front_tokens r) (flags_tokens r.action c.flags ++ state_tokens r.action r.keeps_state) (condition_are profile r fits) last in
    let moved = subst (λ (ts : List Token). AreParts (condition_parts c ++ (flags_parts r.action c.flags ++ state_parts r.action r.keeps_state)) ts) (rest_tokens (interface_tokens c.interface) (family_tokens c.family) (protocol_tokens c.protocol) (ends_tokens c.source c.source_port c.destination c.destination_port) (type_tokens c.icmp_type) (flags_tokens r.action c.flags ++ state_tokens r.action r.keeps_state)) both in
    parts_append (direction_parts c.direction) _ (direction_tokens c.direction) _ (direction_are c.direction) (parts_append (quick_parts r.quick) _ (quick_tokens r.quick) _ (quick_are r.quick) moved)

action_line : (a : Action) (parts : List (List ℕ)) (us : List Token) (n : ℕ) (rest : List ℕ) → AreParts parts us → lexed n (shown_line (action_parts a ++ parts) ++ rest) ≡ with_newline n (action_tokens a ++ us) rest
action_line act.Pass parts us n rest are = line_lexes n (codes "pass") parts (key (codes "pass")) us rest (word_part 112 (97 ∷ 115 ∷ 115 ∷ []) refl) are
action_line act.Drop parts us n rest are = line_lexes n (codes "block") (codes "drop" ∷ parts) (key (codes "block")) (key (codes "drop") ++ us) rest (word_part 98 (108 ∷ 111 ∷ 99 ∷ 107 ∷ []) refl) (behind_key 100 (114 ∷ 111 ∷ 112 ∷ []) parts us refl are)
action_line act.Return parts us n rest are = line_lexes n (codes "block") (codes "return" ∷ parts) (key (codes "block")) (key (codes "return") ++ us) rest (word_part 98 (108 ∷ 111 ∷ 99 ∷ 107 ∷ []) refl) (behind_key 114 (101 ∷ 116 ∷ 117 ∷ 114 ∷ 110 ∷ []) parts us refl are)

-- the tokens of a shown rule's line
pub rule_line : (profile : Profile) (r : Rule) (n : ℕ) (rest : List ℕ) → FitsRule profile r → lexed n (shown_line (rule_parts r) ++ rest) ≡ with_newline n (rule_tokens r) rest
unfolding rule_parts
rule_line profile r n rest fits = action_line r.action _ (more_tokens r) n rest (more_are profile r fits)
