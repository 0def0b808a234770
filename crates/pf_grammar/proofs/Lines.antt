-- Shown rules are read line by line.
use Rattle.std.proofs.Common.{◌≡◌, ℕ, ◌+◌, ◌<◌, ◌≤◌, ◌==◌, ◌&&◌, Bool, true, false, List, [], ◌∷◌, ◌++◌, length, map, Option, Some, None, Result, Ok, refl, sym, ap, ◌∙◌, append_assoc, arith, nat_le}
use Rattle.std.specs.Prelude.{codes, flat_map}
use Rattle.std.specs.List.{AllByRecursion}
use Rattle.std.proofs.lemmas.Bool.{false≢true}
use Rattle.std.proofs.lemmas.Bool.Decides.{nat_tests}
use Rattle.std.proofs.lemmas.List.{append-nil, length-append}
use Rattle.pf_addr.specs.Blocks.{width}
use Rattle.pf_rules.specs.declared.profile.Profile.{Profile}
use Rattle.pf_tokens.specs.declared.symbol.Symbol.{Symbol}
use Rattle.pf_tokens.specs.declared.symbol.Symbol.TheVariants.{Open, Close, OpenParenthesis, CloseParenthesis, Comma, Slash, Not, NotEqual, Less, LessEqual, Greater, GreaterEqual, Between, Outside, Equals}
use Rattle.pf_tokens.specs.Tokens.{Token, Word, Quoted, Macro, Mark, Newline, Bad, Placed, is_newline}
use Rattle.pf_tokens.specs.Macros.{flattened, is_definition, is_some_word, is_equals, depth_after, depth_behind, ends, replaced, replaced_token}
use Rattle.pf_tokens.specs.declared.fault.ReadingFault.{ReadingFault}
use Rattle.pf_tokens.specs.Faults.{reading_fault, is_bad, is_unknown}
use Rattle.pf_tokens.specs.Parsing.{tokens_of}
use Rattle.pf_tokens.specs.Productions.{begins_symbol, is_symbol}
use Rattle.pf_tokens.specs.Reading.{◌>>=◌, statement_judged, with_statement, reading_from}
use Rattle.pf_grammar.specs.declared.fault.Refusal.{Refusal}
use Rattle.pf_rules.specs.declared.rule.Action.{Action}
use Rattle.pf_rules.specs.declared.rule.Action.TheVariants as act
use Rattle.pf_rules.specs.declared.parts.Direction.{Direction}
use Rattle.pf_rules.specs.declared.parts.Direction.TheVariants.{In, Out}
use Rattle.pf_addr.specs.declared.addr.Family.{Family}
use Rattle.pf_addr.specs.declared.addr.Family.TheVariants.{Inet, Inet6}
use Rattle.pf_rules.specs.declared.parts.Interface.{Interface}
use Rattle.pf_rules.specs.declared.parts.Addresses.{Addresses}
use Rattle.pf_rules.specs.declared.parts.Addresses.TheVariants.{Prefix, Range, Table}
use Rattle.pf_rules.specs.declared.parts.Host.{Host}
use Rattle.pf_rules.specs.declared.parts.Host.TheVariants as host
use Rattle.pf_rules.specs.declared.parts.PortTest.{PortTest}
use Rattle.pf_rules.specs.declared.parts.PortTest.TheVariants as test
use Rattle.pf_rules.specs.declared.parts.FlagTest.{FlagTest}
use Rattle.pf_rules.specs.declared.parts.FlagTest.TheVariants as flags
use Rattle.pf_rules.specs.declared.parts.Policy.{Policy}
use Rattle.pf_rules.specs.declared.rule.Rule.{Rule}
use Rattle.pf_rules.specs.Items.{ItemValue, Filters}
use Rattle.pf_grammar.specs.declared.place.Place.{Place}
use Rattle.pf_rules.specs.Names.{Name}
use Rattle.pf_statements.specs.Statements.{Statement, Rules, value_of}
use Rattle.pf_grammar.specs.Causes.{statement_cause}
use Rattle.pf_statements.specs.Grammar.{RuleStatement}
use Rattle.pf_grammar.specs.Reading.{Sofar, macros_of, judge, statement_outcome, answered, unless_fault}
use Rattle.pf_show.specs.Shown.{letters}
use Rattle.pf_statements.proofs.Fronts.{rank, no_symbol}
use Rattle.pf_statements.proofs.StatementsSpelled.{statement_reads}
use Rattle.pf_grammar.proofs.ShownTokens.{FitsRule, rule_spelled, shown_rank, written, action_tokens, direction_tokens, quick_tokens, negated_tokens, interface_tokens, family_tokens, protocol_tokens, length_tokens, addresses_tokens, host_tokens, test_tokens, port_tokens, end_tokens, both_tokens, ends_tokens, type_tokens, letters_token, test_of_tokens, flags_tokens, state_tokens, option_tokens, rule_tokens}
use Rattle.pf_grammar.proofs.Expanded.{expanded_again, no_cause}
use Rattle.pf_grammar.proofs.Parts.{at_line}
use Rattle.pf_grammar.proofs.RuleParts.{more_tokens}
use Rattle.pf_rules.specs.Rulesets.{TableValue}

-- ---- tokens of a line

-- a token that ends nothing and refuses nothing
pub record Simple (t : Token) : Type 0 where
  pub in_line : is_newline t ≡ false
  pub good : is_bad t ≡ false
  pub known : is_unknown [] t ≡ false
  pub level : (d : ℕ) → depth_after d t ≡ d

pub simple_word : (text : List ℕ) → Simple (Word text)
simple_word text = record { in_line = refl; good = refl; known = refl; level = λ d. refl }

pub simple_mark : (s : Symbol) → ((d : ℕ) → depth_after d (Mark s) ≡ d) → Simple (Mark s)
simple_mark s level = record { in_line = refl; good = refl; known = refl; level = level }

-- that many tokens of this kind
pub record Short (k : ℕ) (ts : List Token) : Type 0 where
  pub simple : AllByRecursion Simple ts
  pub short : length ts ≤ k

pub all_append : (ts us : List Token) → AllByRecursion Simple ts → AllByRecursion Simple us → AllByRecursion Simple (ts ++ us)
all_append [] us p q = q
all_append (t ∷ ts) us p q = (p.0, all_append ts us p.1 q)

pub short_append : (j k : ℕ) (ts us : List Token) → Short j ts → Short k us → Short (j + k) (ts ++ us)
short_append j k ts us p q = record { simple = all_append ts us p.simple q.simple; short = (let a = p.short in let b = q.short in let l = length-append ts us in omega (arith, a, b, l)) }

pub none_short : Short 0 []
none_short = record { simple = tt; short = omega arith }

pub word_short : (text : List ℕ) → Short 1 (Word text ∷ [])
word_short text = record { simple = (simple_word text, tt); short = omega arith }

pub mark_short : (s : Symbol) → ((d : ℕ) → depth_after d (Mark s) ≡ d) → Short 1 (Mark s ∷ [])
mark_short s level = record { simple = (simple_mark s level, tt); short = omega arith }

pub more_short : (j k : ℕ) (ts : List Token) → j ≤ k → Short j ts → Short k ts
more_short j k ts h p = record { simple = p.simple; short = (let a = p.short in omega (arith, a, h)) }

pub then_short : (k : ℕ) (t : Token) (ts : List Token) → Simple t → Short k ts → Short (1 + k) (t ∷ ts)
then_short k t ts simple p = record { simple = (simple, p.simple); short = (let a = p.short in omega (arith, a)) }

action_short : (a : Action) → Short 2 (action_tokens a)
action_short act.Pass = more_short 1 2 _ (omega arith) (word_short _)
action_short act.Drop = then_short 1 _ _ (simple_word _) (word_short _)
action_short act.Return = then_short 1 _ _ (simple_word _) (word_short _)

pub direction_short : (d : Option Direction) → Short 1 (direction_tokens d)
direction_short None = more_short 0 1 _ (omega arith) none_short
direction_short (Some In) = word_short _
direction_short (Some Out) = word_short _

pub quick_short : (q : Bool) → Short 1 (quick_tokens q)
quick_short true = word_short _
quick_short false = more_short 0 1 _ (omega arith) none_short

negated_short : (b : Bool) (name : List ℕ) → Short 2 (negated_tokens b (Word name ∷ []))
negated_short true name = then_short 1 _ _ (simple_mark Not (λ d. refl)) (word_short name)
negated_short false name = more_short 1 2 _ (omega arith) (word_short name)

pub interface_short : (i : Option Interface) → Short 3 (interface_tokens i)
interface_short None = more_short 0 3 _ (omega arith) none_short
interface_short (Some i) = then_short 2 _ _ (simple_word _) (negated_short i.negated i.name)

pub family_short : (f : Option Family) → Short 1 (family_tokens f)
family_short None = more_short 0 1 _ (omega arith) none_short
family_short (Some Inet) = word_short _
family_short (Some Inet6) = word_short _

pub protocol_short : (p : Option ℕ) → Short 2 (protocol_tokens p)
protocol_short None = more_short 0 2 _ (omega arith) none_short
protocol_short (Some n) = then_short 1 _ _ (simple_word _) (word_short _)

pub length_short : (full : Bool) (len : ℕ) → Short 2 (length_tokens full len)
length_short true len = more_short 0 2 _ (omega arith) none_short
length_short false len = then_short 1 _ _ (simple_mark Slash (λ d. refl)) (word_short _)

addresses_short : (set : Addresses) → Short 3 (addresses_tokens set)
addresses_short (Table name) = then_short 2 _ _ (simple_mark Less (λ d. refl)) (then_short 1 _ _ (simple_word name) (mark_short Greater (λ d. refl)))
addresses_short (Prefix block) = then_short 2 _ _ (simple_word _) (length_short (block.len == width block.base) block.len)
addresses_short (Range span) = then_short 2 _ _ (simple_word _) (then_short 1 _ _ (simple_word _) (word_short _))

host_short : (h : Host) → Short 4 (host_tokens h)
host_short host.Any = more_short 1 4 _ (omega arith) (word_short _)
host_short (host.In set) = more_short 3 4 _ (omega arith) (addresses_short set)
host_short (host.NotIn set) = then_short 3 _ _ (simple_mark Not (λ d. refl)) (addresses_short set)

compared_short : (s : Symbol) (text : List ℕ) → ((d : ℕ) → depth_after d (Mark s) ≡ d) → Short 3 (Mark s ∷ Word text ∷ [])
compared_short s text level = more_short 2 3 _ (omega arith) (then_short 1 _ _ (simple_mark s level) (word_short text))

bounds_short : (s : Symbol) (a b : List ℕ) → ((d : ℕ) → depth_after d (Mark s) ≡ d) → Short 3 (Word a ∷ Mark s ∷ Word b ∷ [])
bounds_short s a b level = then_short 2 _ _ (simple_word a) (then_short 1 _ _ (simple_mark s level) (word_short b))

test_short : (t : PortTest) → Short 3 (test_tokens t)
test_short (test.Equal n) = compared_short Equals _ (λ d. refl)
test_short (test.NotEqual n) = compared_short NotEqual _ (λ d. refl)
test_short (test.Less n) = compared_short Less _ (λ d. refl)
test_short (test.LessEqual n) = compared_short LessEqual _ (λ d. refl)
test_short (test.Greater n) = compared_short Greater _ (λ d. refl)
test_short (test.GreaterEqual n) = compared_short GreaterEqual _ (λ d. refl)
test_short (test.FromTo a b) = more_short 1 3 _ (omega arith) (word_short _)
test_short (test.Between a b) = bounds_short Between _ _ (λ d. refl)
test_short (test.Outside a b) = bounds_short Outside _ _ (λ d. refl)

port_short : (port : Option PortTest) → Short 4 (port_tokens port)
port_short None = more_short 0 4 _ (omega arith) none_short
port_short (Some t) = then_short 3 _ _ (simple_word _) (test_short t)

end_short : (h : Host) (port : Option PortTest) → Short 8 (end_tokens h port)
end_short h port = short_append 4 4 (host_tokens h) (port_tokens port) (host_short h) (port_short port)

both_short : (s : Host) (sp : Option PortTest) (d : Host) (dp : Option PortTest) → Short 18 (both_tokens s sp d dp)
both_short s sp d dp = then_short 17 _ _ (simple_word _) (short_append 8 9 (end_tokens s sp) _ (end_short s sp) (then_short 8 _ _ (simple_word _) (end_short d dp)))

pub ends_short : (s : Host) (sp : Option PortTest) (d : Host) (dp : Option PortTest) → Short 18 (ends_tokens s sp d dp)
ends_short host.Any None host.Any None = more_short 1 18 _ (omega arith) (word_short _)
ends_short host.Any None host.Any (Some t) = both_short host.Any None host.Any (Some t)
ends_short host.Any None (host.In set) dp = both_short host.Any None (host.In set) dp
ends_short host.Any None (host.NotIn set) dp = both_short host.Any None (host.NotIn set) dp
ends_short host.Any (Some t) e dp = both_short host.Any (Some t) e dp
ends_short (host.In set) sp e dp = both_short (host.In set) sp e dp
ends_short (host.NotIn set) sp e dp = both_short (host.NotIn set) sp e dp

pub type_short : (o : Option ℕ) → Short 2 (type_tokens o)
type_short None = more_short 0 2 _ (omega arith) none_short
type_short (Some n) = then_short 1 _ _ (simple_word _) (word_short _)

letters_short : (text : List ℕ) → Short 1 (letters_token text)
letters_short [] = more_short 0 1 _ (omega arith) none_short
letters_short (b ∷ text) = word_short _

test_of_short : (t : FlagTest) → Short 3 (test_of_tokens t)
test_of_short flags.Any = more_short 1 3 _ (omega arith) (word_short _)
test_of_short (flags.Just set of) = short_append 1 2 (letters_token (letters set)) _ (letters_short (letters set)) (then_short 1 _ _ (simple_mark Slash (λ d. refl)) (word_short _))

pub flags_short : (a : Action) (t : FlagTest) → Short 4 (flags_tokens a t)
flags_short act.Pass t = then_short 3 _ _ (simple_word _) (test_of_short t)
flags_short act.Drop flags.Any = more_short 0 4 _ (omega arith) none_short
flags_short act.Drop (flags.Just set of) = then_short 3 _ _ (simple_word _) (test_of_short (flags.Just set of))
flags_short act.Return flags.Any = more_short 0 4 _ (omega arith) none_short
flags_short act.Return (flags.Just set of) = then_short 3 _ _ (simple_word _) (test_of_short (flags.Just set of))

state_short : (a : Action) (keep : Bool) → Short 2 (state_tokens a keep)
state_short act.Pass true = then_short 1 _ _ (simple_word _) (word_short _)
state_short act.Pass false = then_short 1 _ _ (simple_word _) (word_short _)
state_short act.Drop keep = more_short 0 2 _ (omega arith) none_short
state_short act.Return keep = more_short 0 2 _ (omega arith) none_short

pub option_short : (r : Rule) → Short 8 (option_tokens r)
option_short r = short_append 2 6 (type_tokens r.conditions.icmp_type) _ (type_short r.conditions.icmp_type) (short_append 4 2 (flags_tokens r.action r.conditions.flags) (state_tokens r.action r.keeps_state) (flags_short r.action r.conditions.flags) (state_short r.action r.keeps_state))

pub rule_short : (r : Rule) → Short 36 (rule_tokens r)
rule_short r =
    let c = r.conditions in
    short_append 2 34 (action_tokens r.action) _ (action_short r.action)
    (short_append 1 33 (direction_tokens c.direction) _ (direction_short c.direction)
    (short_append 1 32 (quick_tokens r.quick) _ (quick_short r.quick)
    (short_append 3 29 (interface_tokens c.interface) _ (interface_short c.interface)
    (short_append 1 28 (family_tokens c.family) _ (family_short c.family)
    (short_append 2 26 (protocol_tokens c.protocol) _ (protocol_short c.protocol)
    (short_append 18 8 (ends_tokens c.source c.source_port c.destination c.destination_port) (option_tokens r) (ends_short c.source c.source_port c.destination c.destination_port) (option_short r)))))))

-- ---- no fault while it is read

pub not_full : (count : ℕ) → count < 65536 → nat_le 65536 count ≡ false
not_full count h = grind (arith, nat_tests, h)

pub no_fault : (ts : List Token) (count : ℕ) → AllByRecursion Simple ts → count + length ts ≤ 65536 → reading_fault [] count 0 ts ≡ None
no_fault [] count simple h = refl
no_fault (t ∷ ts) count simple h =
    let s = simple.0 in
    rw (s.good, s.known, s.level 0, not_full count (omega (arith, h))) (no_fault ts (count + 1) simple.1 (omega (arith, h)))

-- ---- one line

token_none : (p : Placed) (t : Token) → replaced_token [] p t ≡ p ∷ []
token_none p (Word text) = refl
token_none p (Quoted text) = refl
token_none p (Macro name) = refl
token_none p (Mark symbol) = refl
token_none p Newline = refl
token_none p Bad = refl

replaced_none : (p : Placed) (w : Bool) → replaced [] w p ≡ p ∷ []
replaced_none p true = refl
replaced_none p false = token_none p p.token

pub flattened_none : (ps : List Placed) (w : Bool) → flat_map (replaced [] w) ps ≡ ps
flattened_none [] w = refl
flattened_none (p ∷ ps) w = ap (λ (qs : List Placed). qs ++ flat_map (replaced [] w) ps) (replaced_none p w) ∙ ap (λ (qs : List Placed). p ∷ qs) (flattened_none ps w)

-- what the statements so far come to, without macros
abbrev pub so_far : Policy → List Name → List TableValue → List ItemValue → Sofar
so_far p skip tables items = record { macros = []; policy = p; content = record { skip = skip; tables = tables; items = items } }

-- what a statement expands to, from its tokens
abbrev ended : Place → Profile → Sofar → ℕ → List Placed → Result Sofar Refusal
ended place profile sofar n rest = reading_from macros_of (judge place profile) sofar [] rest

abbrev pub AreInLine : List Token → Type 0
AreInLine ts = AllByRecursion (λ t. is_newline t ≡ false) ts

not_end : (d : ℕ) (n : ℕ) (t : Token) → is_newline t ≡ false → ends d (at_line n t) ≡ false
not_end d n t e = rw e refl

is_end_there : (d n : ℕ) → d ≡ 0 → ends d (at_line n Newline) ≡ true
is_end_there d n e = rw e refl

-- a line is a statement
pub line_read : (place : Place) (profile : Profile) (p : Policy) (skip : List Name) (tables : List TableValue) (items : List ItemValue) (n : ℕ) (ts : List Token) (begun rest : List Placed) → AreInLine ts → depth_behind 0 (begun ++ map (at_line n) ts) ≡ 0
    → reading_from macros_of (judge place profile) (so_far p skip tables items) begun (map (at_line n) ts ++ (at_line n Newline ∷ rest))
    ≡ (with_statement macros_of (judge place profile) (so_far p skip tables items) (begun ++ map (at_line n) ts) >>= λ next. reading_from macros_of (judge place profile) next [] rest)
unfolding reading_from
line_read place profile p skip tables items n [] begun rest in_line level =
    let none = flattened_none begun (is_definition begun) in
    let all = append-nil begun in
    let zero : depth_behind 0 (flattened [] begun) ≡ 0 = ap (depth_behind 0) (none ∙ sym all) ∙ level in
    rw (is_end_there (depth_behind 0 (flattened [] begun)) n zero) (ap (λ (ps : List Placed). with_statement macros_of (judge place profile) (so_far p skip tables items) ps >>= λ next. reading_from macros_of (judge place profile) next [] rest) (sym all))
line_read place profile p skip tables items n (t ∷ ts) begun rest in_line level =
    let split : (begun ++ at_line n t ∷ []) ++ map (at_line n) ts ≡ begun ++ map (at_line n) (t ∷ ts) = append_assoc begun (at_line n t ∷ []) (map (at_line n) ts) in
    rw (not_end (depth_behind 0 (flattened [] begun)) n t in_line.0)
    (line_read place profile p skip tables items n ts (begun ++ at_line n t ∷ []) rest in_line.1 (ap (depth_behind 0) split ∙ level)
    ∙ ap (λ (ps : List Placed). with_statement macros_of (judge place profile) (so_far p skip tables items) ps >>= λ next. reading_from macros_of (judge place profile) next [] rest) split)

pub tokens_at : (n : ℕ) (ts : List Token) → tokens_of (map (at_line n) ts) ≡ ts
tokens_at n [] = refl
tokens_at n (t ∷ ts) = ap (λ (us : List Token). t ∷ us) (tokens_at n ts)

-- ---- which is no macro statement

and_false : (b : Bool) → (b && false) ≡ false
and_false true = refl
and_false false = refl

pub not_equals : (b : Bool) (u : Token) → is_symbol Equals u ≡ false → (b && is_equals u) ≡ false
not_equals b (Word text) e = and_false b
not_equals b (Quoted text) e = and_false b
not_equals b (Macro name) e = and_false b
not_equals b (Mark Open) e = and_false b
not_equals b (Mark Close) e = and_false b
not_equals b (Mark OpenParenthesis) e = and_false b
not_equals b (Mark CloseParenthesis) e = and_false b
not_equals b (Mark Comma) e = and_false b
not_equals b (Mark Slash) e = and_false b
not_equals b (Mark Not) e = and_false b
not_equals b (Mark NotEqual) e = and_false b
not_equals b (Mark Less) e = and_false b
not_equals b (Mark LessEqual) e = and_false b
not_equals b (Mark Greater) e = and_false b
not_equals b (Mark GreaterEqual) e = and_false b
not_equals b (Mark Between) e = and_false b
not_equals b (Mark Outside) e = and_false b
not_equals b (Mark Equals) e = absurd (false≢true (sym e))
not_equals b Newline e = and_false b
not_equals b Bad e = and_false b

pub not_definition : (n : ℕ) (t : Token) (us : List Token) → begins_symbol Equals us ≡ false → is_definition (map (at_line n) (t ∷ us)) ≡ false
not_definition n t [] e = refl
not_definition n t (u ∷ us) e = not_equals (is_some_word t) u e

rule_no_definition : (profile : Profile) (r : Rule) (n : ℕ) → FitsRule profile r → is_definition (map (at_line n) (rule_tokens r)) ≡ false
rule_no_definition profile r n fits =
    let h : 1 < rank (more_tokens r) = shown_rank profile r fits in
    cases r.action (more_tokens r) (no_symbol Equals (more_tokens r) (omega arith) (omega (arith, h)))
  where
    cases : (a : Action) (us : List Token) → begins_symbol Equals us ≡ false → is_definition (map (at_line n) (action_tokens a ++ us)) ≡ false
    cases act.Pass us e = not_definition n (Word (codes "pass")) us e
    cases act.Drop us e = not_definition n (Word (codes "block")) (Word (codes "drop") ∷ us) refl
    cases act.Return us e = not_definition n (Word (codes "block")) (Word (codes "return") ∷ us) refl

-- ---- a rule is added

rule_value : (profile : Profile) (r : Rule) → FitsRule profile r → value_of profile (rule_tokens r) ≡ Some (Rules (written r))
rule_value profile r fits = statement_reads profile (rule_tokens r) (Rules (written r)) (RuleStatement (rule_tokens r) (written r) (rule_spelled profile r fits))

abbrev pub added : Policy → List Name → List TableValue → List ItemValue → Rule → Result Sofar Refusal
added p skip tables items r = Ok (so_far p skip tables (items ++ Filters r ∷ []))

rule_outcome : (place : Place) (profile : Profile) (p : Policy) (skip : List Name) (tables : List TableValue) (items : List ItemValue) (n : ℕ) (r : Rule) → FitsRule profile r → length items < 1024 → statement_outcome place profile (so_far p skip tables items) n false (rule_tokens r) ≡ added p skip tables items r
rule_outcome place profile p skip tables items n r fits room =
    ap (λ (value : Option Statement). answered n (so_far p skip tables items) value (statement_cause place tables items value)) (rule_value profile r fits)
    ∙ ap (answered n (so_far p skip tables items) (Some (Rules (written r)))) (no_cause place profile tables items r fits room)
    ∙ ap (λ (rs : List Rule). let next : Result Sofar Refusal = Ok (so_far p skip tables (items ++ map (λ (r : Rule). Filters r) rs)) in next) (expanded_again profile p r fits)

judged_some : (place : Place) (profile : Profile) (sofar : Sofar) (n : ℕ) (w : Bool) (t : Token) (ts : List Token) → statement_judged (judge place profile) sofar n w (map (at_line n) (t ∷ ts)) ≡ unless_fault n (reading_fault sofar.macros 0 0 (t ∷ ts)) (statement_outcome place profile sofar n w (t ∷ ts))
judged_some place profile sofar n w t ts = ap (λ (us : List Token). unless_fault n (reading_fault sofar.macros 0 0 (t ∷ us)) (statement_outcome place profile sofar n w (t ∷ us))) (tokens_at n ts)

pub line_judged : (place : Place) (profile : Profile) (p : Policy) (skip : List Name) (tables : List TableValue) (items : List ItemValue) (n : ℕ) (ts : List Token) → 0 < length ts → is_definition (map (at_line n) ts) ≡ false → reading_fault [] 0 0 ts ≡ None → with_statement macros_of (judge place profile) (so_far p skip tables items) (map (at_line n) ts) ≡ statement_outcome place profile (so_far p skip tables items) n false ts
line_judged place profile p skip tables items n [] some plain good = absurd (omega arith)
line_judged place profile p skip tables items n (t ∷ ts) some plain good =
    ap (λ (w : Bool). statement_judged (judge place profile) (so_far p skip tables items) n w (flat_map (replaced [] w) (map (at_line n) (t ∷ ts)))) plain
    ∙ ap (statement_judged (judge place profile) (so_far p skip tables items) n false) (flattened_none (map (at_line n) (t ∷ ts)) false)
    ∙ judged_some place profile (so_far p skip tables items) n false t ts
    ∙ ap (λ (o : Option ReadingFault). unless_fault n o (statement_outcome place profile (so_far p skip tables items) n false (t ∷ ts))) good

some_action : (a : Action) (ts : List Token) → 0 < length (action_tokens a ++ ts)
some_action act.Pass ts = omega arith
some_action act.Drop ts = omega arith
some_action act.Return ts = omega arith

pub simple_in_line : (ts : List Token) → AllByRecursion Simple ts → AreInLine ts
simple_in_line [] simple = tt
simple_in_line (t ∷ ts) simple = (simple.0.in_line, simple_in_line ts simple.1)

pub simple_level : (n d : ℕ) (ts : List Token) → AllByRecursion Simple ts → depth_behind d (map (at_line n) ts) ≡ d
simple_level n d [] simple = refl
simple_level n d (t ∷ ts) simple = ap (λ (k : ℕ). depth_behind k (map (at_line n) ts)) (simple.0.level d) ∙ simple_level n d ts simple.1

pub rule_added : (place : Place) (profile : Profile) (p : Policy) (skip : List Name) (tables : List TableValue) (items : List ItemValue) (n : ℕ) (r : Rule) → FitsRule profile r → length items < 1024 → with_statement macros_of (judge place profile) (so_far p skip tables items) (map (at_line n) (rule_tokens r)) ≡ added p skip tables items r
rule_added place profile p skip tables items n r fits room =
    let short = rule_short r in
    line_judged place profile p skip tables items n (rule_tokens r) (some_action r.action _) (rule_no_definition profile r n fits) (no_fault (rule_tokens r) 0 short.simple (let h = short.short in omega (arith, h)))
    ∙ rule_outcome place profile p skip tables items n r fits room
