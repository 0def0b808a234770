-- What each part of a statement says fits.
use Rattle.std.proofs.Common.{◌≡◌, ℕ, ◌<◌, ◌≤◌, ◌==◌, ◌&&◌, ◌||◌, ◌⊎◌, inl, inr, Bool, true, false, cond, List, [], ◌∷◌, ◌++◌, length, Option, Some, None, refl, sym, subst, arith, eqb-true, nat_le}
use Rattle.std.specs.Prelude.{bytes_eq, nat_lt}
use Rattle.std.specs.List.{list_any, list_all}
use Rattle.std.proofs.lemmas.Bool.{false≢true, leb-true}
use Rattle.std.proofs.lemmas.Bool.Decides.{nat_tests}
use Rattle.pf_addr.specs.declared.addr.Addr.{Addr}
use Rattle.pf_addr.specs.Blocks.{Span, span_of, is_span, FitsAddr, Block}
use Rattle.pf_addr.specs.Spelling.{cut_at}
use Rattle.pf_addr.proofs.Made.{block_fits, addr_fits, FitsBlock}
use Rattle.pf_rules.specs.declared.profile.Profile.{Profile}
use Rattle.pf_tokens.specs.Tokens.{Token}
use Rattle.pf_tokens.specs.inner.Shorter.{some_is}
use Rattle.pf_rules.specs.declared.parts.Addresses.{Addresses}
use Rattle.pf_rules.specs.declared.parts.Host.{Host}
use Rattle.pf_rules.specs.declared.parts.PortTest.{PortTest}
use Rattle.pf_rules.specs.declared.parts.PortTest.TheVariants.{Equal, NotEqual, Less, LessEqual, Greater, GreaterEqual, FromTo, Between, Outside}
use Rattle.pf_rules.specs.declared.flags.TcpFlags.{TcpFlags}
use Rattle.pf_rules.specs.declared.parts.FlagTest.{FlagTest}
use Rattle.pf_statements.specs.declared.conditions.Protocol.{Protocol}
use Rattle.pf_statements.specs.declared.conditions.WrittenPort.{WrittenPort}
use Rattle.pf_statements.specs.declared.conditions.WrittenType.{WrittenType}
use Rattle.pf_rules.specs.Words.{decimal_value, is_decimal, number_of, Named, named, or_else, protocols, protocol_of, services, port_of, icmp_types, icmp_type_of, has, is_letter, are_letters, flags_with, flags_of, no_flags, is_within}
use Rattle.pf_statements.specs.Conditions.{one_port, two_ports, lone_word, lone_test, colon_parts}
use Rattle.pf_statements.specs.ConditionGrammar.{IsProtocol, ProtocolWord, IsPrefix, WholeAddress, CutAddress, TableSign, IsSet, PrefixSet, RangeSet, TableSet, IsHost, AnyWord, HostIn, HostNotIn, EqualsSign, NotEqualSign, LessSign, LessEqualSign, GreaterSign, GreaterEqualSign, BetweenSign, OutsideSign, IsPort, PortAlone, PortCompared, PortBounds, IsFlags, AnyFlags, NoneOf, SomeOf, IsType, TypeWord}
use Rattle.pf_show.specs.Shown.{letter, letters}
use Rattle.pf_expansion.proofs.Given.{lt_is}
use Rattle.pf_grammar.proofs.ShownTokens.{FitsAddresses, FitsHost, FitsTest, FitsIf, FitsFlags}

-- ---- hosts

abbrev FitsSpan : Span → Type 0
FitsSpan span = FitsAddr span.first × FitsAddr span.last × (span_of span.first span.last ≡ Some span)

span_fits : (a b : Addr) (span : Span) → FitsAddr a → FitsAddr b → span_of a b ≡ Some span → FitsSpan span
span_fits a b span p q e = cases (is_span a b) refl e
  where
    both : Span
    both = record { first = a; last = b }

    cases : (t : Bool) → is_span a b ≡ t → cond t (Some (record { first = a; last = b })) None ≡ Some span → FitsSpan span
    cases true is e =
        let same = some_is (record { first = a; last = b }) span e in
        subst FitsSpan same (p, q, (rw is refl))
    cases false is e = absurd cc

pub prefix_fits : (ts : List Token) (block : Block) → IsPrefix ts block → FitsBlock block
prefix_fits _ _ (WholeAddress addr block e) = block_fits addr None block e
prefix_fits _ _ (CutAddress addr len block e) = block_fits addr (Some len) block e

pub set_fits : (profile : Profile) (ts : List Token) (set : Addresses) → IsSet profile ts set → FitsAddresses profile set
set_fits profile _ _ (PrefixSet ts block is) = prefix_fits ts block is
set_fits profile _ _ (RangeSet first last a b span e f g) = span_fits a b span (addr_fits first a e) (addr_fits last b f) g
set_fits profile _ _ (TableSet _ _ (TableSign name e)) = e

pub host_fits : (profile : Profile) (ts : List Token) (h : Host) → IsHost profile ts h → FitsHost profile h
host_fits profile _ _ AnyWord = tt
host_fits profile _ _ (HostIn ts set is) = set_fits profile ts set is
host_fits profile _ _ (HostNotIn ts set is) = set_fits profile ts set is

-- ---- numbers

abbrev Small : ℕ → Option ℕ → Type 0
Small most o = (n : ℕ) → o ≡ Some n → n ≤ most

number_small : (digits most : ℕ) (text : List ℕ) → Small most (number_of digits most text)
unfolding number_of
number_small digits most text n e = cases (is_decimal digits text) (nat_le (decimal_value text) most) refl e
  where
    cases : (a b : Bool) → nat_le (decimal_value text) most ≡ b → cond (a && b) (Some (decimal_value text)) None ≡ Some n → n ≤ most
    cases true true le e = subst (λ (k : ℕ). k ≤ most) (some_is (decimal_value text) n e) (leb-true _ _ le)
    cases true false le e = absurd cc
    cases false b le e = absurd cc

and_parts : (a b : Bool) → (a && b) ≡ true → (a ≡ true) × (b ≡ true)
and_parts true b e = (refl, e)
and_parts false b e = absurd (false≢true e)

named_small : (most : ℕ) (rows : List Named) (text : List ℕ) → list_all (λ row. nat_le row.1 most) rows ≡ true → Small most (named rows text)
named_small most [] text all n e = absurd cc
named_small most (row ∷ rows) text all n e =
    let h = and_parts (nat_le row.1 most) (list_all (λ row. nat_le row.1 most) rows) all in
    cases (bytes_eq text row.0) h.0 (named_small most rows text h.1 n) e
  where
    cases : (b : Bool) → nat_le row.1 most ≡ true → (named rows text ≡ Some n → n ≤ most) → cond b (Some row.1) (named rows text) ≡ Some n → n ≤ most
    cases true le more e = subst (λ (k : ℕ). k ≤ most) (some_is row.1 n e) (leb-true _ _ le)
    cases false le more e = more e

either_small : (most : ℕ) (a b : Option ℕ) → Small most a → Small most b → Small most (or_else a b)
either_small most (Some k) b p q n e = p n e
either_small most None b p q n e = q n e

port_small : (text : List ℕ) → Small 65535 (port_of text)
port_small text = either_small 65535 (named services text) (number_of 5 65535 text) (named_small 65535 services text refl) (number_small 5 65535 text)

protocol_small : (text : List ℕ) → Small 255 (protocol_of text)
protocol_small text = either_small 255 (named protocols text) (number_of 3 255 text) (named_small 255 protocols text refl) (number_small 3 255 text)

type_small : (text : List ℕ) → Small 255 (icmp_type_of text)
type_small text = either_small 255 (named icmp_types text) (number_of 3 255 text) (named_small 255 icmp_types text refl) (number_small 3 255 text)

pub protocol_fits : (ts : List Token) (p : Protocol) → IsProtocol ts p → p.number ≤ 255
protocol_fits _ _ (ProtocolWord word n e) = protocol_small word n e

small_if : (o : Option ℕ) → Small 255 o → FitsIf (λ n. n ≤ 255) o
small_if None small = tt
small_if (Some n) small = small n refl

pub type_fits : (ts : List Token) (t : WrittenType) → IsType ts t → FitsIf (λ n. n ≤ 255) t.number
type_fits _ _ (TypeWord word) = small_if (icmp_type_of word) (type_small word)

pub type_of_fits : (word : List ℕ) → FitsIf (λ n. n ≤ 255) (icmp_type_of word)
type_of_fits word = small_if (icmp_type_of word) (type_small word)

-- ---- ports

one_fits : (test : ℕ → PortTest) → ((n : ℕ) → n ≤ 65535 → FitsTest (test n)) → (o : Option ℕ) → Small 65535 o → FitsIf FitsTest (one_port test o)
one_fits test each None small = tt
one_fits test each (Some n) small = each n (small n refl)

two_fit : (test : ℕ → ℕ → PortTest) → ((a b : ℕ) → a ≤ 65535 → b ≤ 65535 → FitsTest (test a b)) → (o p : Option ℕ) → Small 65535 o → Small 65535 p → FitsIf FitsTest (two_ports test o p)
two_fit test each None p small_o small_p = tt
two_fit test each (Some a) None small_o small_p = tt
two_fit test each (Some a) (Some b) small_o small_p = each a b (small_o a refl) (small_p b refl)

lone_fits : (word : List ℕ) (parts : Option (List ℕ × List ℕ)) → FitsIf FitsTest (lone_word word parts)
lone_fits word None = one_fits Equal (λ n h. h) (port_of word) (port_small word)
lone_fits word (Some (a, b)) = two_fit FromTo (λ a b p q. (p, q)) (port_of a) (port_of b) (port_small a) (port_small b)

lone_test_fits : (word : List ℕ) → FitsIf FitsTest (lone_test word)
unfolding lone_test
lone_test_fits word = lone_fits word (colon_parts (cut_at 58 word))

pub port_fits : (profile : Profile) (ts : List Token) (port : WrittenPort) → IsPort profile ts port → FitsIf FitsTest port.test
port_fits profile _ _ (PortAlone word free) = lone_test_fits word
port_fits profile _ _ (PortCompared _ _ word EqualsSign free) = one_fits Equal (λ n h. h) (port_of word) (port_small word)
port_fits profile _ _ (PortCompared _ _ word NotEqualSign free) = one_fits NotEqual (λ n h. h) (port_of word) (port_small word)
port_fits profile _ _ (PortCompared _ _ word LessSign free) = one_fits Less (λ n h. h) (port_of word) (port_small word)
port_fits profile _ _ (PortCompared _ _ word LessEqualSign free) = one_fits LessEqual (λ n h. h) (port_of word) (port_small word)
port_fits profile _ _ (PortCompared _ _ word GreaterSign free) = one_fits Greater (λ n h. h) (port_of word) (port_small word)
port_fits profile _ _ (PortCompared _ _ word GreaterEqualSign free) = one_fits GreaterEqual (λ n h. h) (port_of word) (port_small word)
port_fits profile _ _ (PortBounds _ _ first second BetweenSign free also) = two_fit Between (λ a b p q. (p, q)) (port_of first) (port_of second) (port_small first) (port_small second)
port_fits profile _ _ (PortBounds _ _ first second OutsideSign free also) = two_fit Outside (λ a b p q. (p, q)) (port_of first) (port_of second) (port_small first) (port_small second)

-- ---- flags

some_letter : (b : Bool) (c : ℕ) (rest : List ℕ) → (b ≡ true) ⊎ (0 < length rest) → 0 < length (letter b c ++ rest)
some_letter true c rest h = omega arith
some_letter false c rest h = elim h [ inl e ↦ absurd (false≢true e) | inr more ↦ more ]

last_letter : (b : Bool) (c : ℕ) → b ≡ true → 0 < length (letter b c)
last_letter true c e = omega arith
last_letter false c e = absurd (false≢true e)

fin_there : (f : TcpFlags) → f.fin ≡ true → 0 < length (letters f)
fin_there f e = some_letter f.fin 70 _ (inl e)

syn_there : (f : TcpFlags) → f.syn ≡ true → 0 < length (letters f)
syn_there f e = some_letter f.fin 70 _ (inr (some_letter f.syn 83 _ (inl e)))

rst_there : (f : TcpFlags) → f.rst ≡ true → 0 < length (letters f)
rst_there f e = some_letter f.fin 70 _ (inr (some_letter f.syn 83 _ (inr (some_letter f.rst 82 _ (inl e)))))

psh_there : (f : TcpFlags) → f.psh ≡ true → 0 < length (letters f)
psh_there f e = some_letter f.fin 70 _ (inr (some_letter f.syn 83 _ (inr (some_letter f.rst 82 _ (inr (some_letter f.psh 80 _ (inl e)))))))

ack_there : (f : TcpFlags) → f.ack ≡ true → 0 < length (letters f)
ack_there f e = some_letter f.fin 70 _ (inr (some_letter f.syn 83 _ (inr (some_letter f.rst 82 _ (inr (some_letter f.psh 80 _ (inr (some_letter f.ack 65 _ (inl e)))))))))

urg_there : (f : TcpFlags) → f.urg ≡ true → 0 < length (letters f)
urg_there f e = some_letter f.fin 70 _ (inr (some_letter f.syn 83 _ (inr (some_letter f.rst 82 _ (inr (some_letter f.psh 80 _ (inr (some_letter f.ack 65 _ (inr (some_letter f.urg 85 _ (inl e)))))))))))

ece_there : (f : TcpFlags) → f.ece ≡ true → 0 < length (letters f)
ece_there f e = some_letter f.fin 70 _ (inr (some_letter f.syn 83 _ (inr (some_letter f.rst 82 _ (inr (some_letter f.psh 80 _ (inr (some_letter f.ack 65 _ (inr (some_letter f.urg 85 _ (inr (some_letter f.ece 69 _ (inl e)))))))))))))

cwr_there : (f : TcpFlags) → f.cwr ≡ true → 0 < length (letters f)
cwr_there f e = some_letter f.fin 70 _ (inr (some_letter f.syn 83 _ (inr (some_letter f.rst 82 _ (inr (some_letter f.psh 80 _ (inr (some_letter f.ack 65 _ (inr (some_letter f.urg 85 _ (inr (some_letter f.ece 69 _ (inr (last_letter f.cwr 87 e))))))))))))))

or_parts : (a b : Bool) → (a || b) ≡ true → (a ≡ true) ⊎ (b ≡ true)
or_parts true b e = inl refl
or_parts false b e = inr e

first_has : (x c : ℕ) (text : List ℕ) → (x == c) ≡ true → has x (c ∷ text) ≡ true
first_has x c text e =
    let same : c ≡ x = sym (eqb-true x c e) in
    let here : (c == x) ≡ true = grind (arith, nat_tests, same) in
    rw here refl

first_letter : (c : ℕ) (text : List ℕ) → is_letter c ≡ true → 0 < length (letters (flags_with (c ∷ text)))
unfolding is_letter
first_letter c text e =
    let f = flags_with (c ∷ text) in
    elim (or_parts (70 == c) (list_any (λ d. d == c) (83 ∷ 82 ∷ 80 ∷ 65 ∷ 85 ∷ 69 ∷ 87 ∷ [])) e) [ inl h0 ↦ fin_there f (first_has 70 c text h0) | inr m0 ↦ elim (or_parts (83 == c) (list_any (λ d. d == c) (82 ∷ 80 ∷ 65 ∷ 85 ∷ 69 ∷ 87 ∷ [])) m0) [ inl h1 ↦ syn_there f (first_has 83 c text h1) | inr m1 ↦ elim (or_parts (82 == c) (list_any (λ d. d == c) (80 ∷ 65 ∷ 85 ∷ 69 ∷ 87 ∷ [])) m1) [ inl h2 ↦ rst_there f (first_has 82 c text h2) | inr m2 ↦ elim (or_parts (80 == c) (list_any (λ d. d == c) (65 ∷ 85 ∷ 69 ∷ 87 ∷ [])) m2) [ inl h3 ↦ psh_there f (first_has 80 c text h3) | inr m3 ↦ elim (or_parts (65 == c) (list_any (λ d. d == c) (85 ∷ 69 ∷ 87 ∷ [])) m3) [ inl h4 ↦ ack_there f (first_has 65 c text h4) | inr m4 ↦ elim (or_parts (85 == c) (list_any (λ d. d == c) (69 ∷ 87 ∷ [])) m4) [ inl h5 ↦ urg_there f (first_has 85 c text h5) | inr m5 ↦ elim (or_parts (69 == c) (list_any (λ d. d == c) (87 ∷ [])) m5) [ inl h6 ↦ ece_there f (first_has 69 c text h6) | inr m6 ↦ elim (or_parts (87 == c) false m6) [ inl h7 ↦ cwr_there f (first_has 87 c text h7) | inr never ↦ absurd (false≢true never) ] ] ] ] ] ] ] ]

letters_there : (text : List ℕ) → are_letters text ≡ true → 0 < length (letters (flags_with text))
letters_there [] e = absurd (false≢true e)
letters_there (c ∷ text) e =
    let h = and_parts (nat_lt 0 (length (c ∷ text))) (list_all is_letter (c ∷ text)) e in
    let k = and_parts (is_letter c) (list_all is_letter text) h.1 in
    first_letter c text k.0

flags_there : (text : List ℕ) (of : TcpFlags) → flags_of text ≡ Some of → nat_lt 0 (length (letters of)) ≡ true
unfolding flags_of
flags_there text of e = cases (are_letters text) refl e
  where
    cases : (b : Bool) → are_letters text ≡ b → cond b (Some (flags_with text)) None ≡ Some of → nat_lt 0 (length (letters of)) ≡ true
    cases true are e = subst (λ (f : TcpFlags). nat_lt 0 (length (letters f)) ≡ true) (some_is (flags_with text) of e) (lt_is 0 (length (letters (flags_with text))) (letters_there text are))
    cases false are e = absurd cc

none_within : (of : TcpFlags) → is_within no_flags of ≡ true
unfolding is_within
none_within of = refl

pub flags_fit : (ts : List Token) (test : FlagTest) → IsFlags ts test → FitsFlags test
flags_fit _ _ AnyFlags = tt
flags_fit _ _ (NoneOf text of e) = (none_within of, flags_there text of e)
flags_fit _ _ (SomeOf said text set of e f g) = (g, flags_there text of f)
