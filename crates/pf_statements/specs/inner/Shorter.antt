-- Each element of a list takes a token at least.
use Rattle.std.proofs.Common.{◌≡◌, ℕ, ◌<◌, ◌≤◌, Bool, true, false, cond, List, [], ◌∷◌, drop}
use Rattle.std.proofs.Common.{length, Option, Some, None, refl, ap, arith, codes}
use Rattle.std.specs.Prelude.{not, if◌then◌else◌}
use Rattle.std.specs.Result.{result_ok}
use Rattle.pf_addr.specs.Blocks.{span_of, Block}
use Rattle.pf_addr.specs.Spelling.{addr_of, block_of}
use Rattle.pf_rules.specs.declared.profile.Profile.{Profile}
use Rattle.pf_tokens.specs.declared.symbol.Symbol.TheVariants as mark
use Rattle.pf_tokens.specs.Tokens.{Token}
use Rattle.pf_tokens.specs.Productions.{Read, ◌>>=◌, begins, begins_symbol, symbol_at, word_at, name_at}
use Rattle.pf_tokens.specs.inner.Shorter.{bind_some, some_is, begins_shorter, symbol_shorter}
use Rattle.pf_tokens.specs.inner.Shorter.{word_shorter, name_shorter}
use Rattle.pf_tokens.specs.inner.Shorter.{symbol_no_longer}
use Rattle.pf_rules.specs.declared.parts.Interface.{Interface}
use Rattle.pf_rules.specs.declared.parts.Addresses.{Addresses}
use Rattle.pf_rules.specs.declared.parts.Addresses.TheVariants.{Prefix, Range, Table}
use Rattle.pf_rules.specs.declared.parts.Host.{Host}
use Rattle.pf_rules.specs.declared.parts.Host.TheVariants as host
use Rattle.pf_rules.specs.declared.parts.PortTest.{PortTest}
use Rattle.pf_rules.specs.declared.parts.PortTest.TheVariants.{Between, Outside}
use Rattle.pf_statements.specs.declared.conditions.Protocol.{Protocol}
use Rattle.pf_statements.specs.declared.conditions.WrittenPort.{WrittenPort}
use Rattle.pf_statements.specs.declared.conditions.WrittenType.{WrittenType}
use Rattle.pf_rules.specs.Names.{Name}
use Rattle.pf_rules.specs.Words.{is_reserved, is_interface_name, protocol_of, port_of, icmp_type_of, is_table_name}
use Rattle.pf_statements.specs.Conditions.{if_so, interface_name_at, interface_at, protocol_at, length_at}
use Rattle.pf_statements.specs.Conditions.{prefix_behind, range_behind, addresses_at, in_or_not, host_at, port_word_at}
use Rattle.pf_statements.specs.Conditions.{tested, one_port, two_ports, compared_at, second_at, lone_test, port_behind}
use Rattle.pf_statements.specs.Conditions.{operator_at, port_with, port_at, type_at, prefix_at, as_prefix, table_at}
use Rattle.pf_statements.specs.Conditions.{set_at}

-- ---- in two steps

-- the first step takes a token, and the second puts none back
pub then_shorter : {X Y : Type 0} (o : Read X) (f : X × List Token → Read Y) (ts rest : List Token) (y : Y) →
    ((x : X × List Token) → o ≡ Some x → length x.1 < length ts) → ((x : X × List Token) →
    f x ≡ Some (y, rest) → length rest ≤ length x.1) → (o >>= f) ≡ Some (y, rest) → length rest < length ts
then_shorter o f ts rest y first next e = let s = bind_some o f (y, rest) e in
    omega (arith, first s.0 s.1, next s.0 s.2)

pub then_no_longer : {X Y : Type 0} (o : Read X) (f : X × List Token → Read Y) (ts rest : List Token) (y : Y) →
    ((x : X × List Token) → o ≡ Some x → length x.1 ≤ length ts) → ((x : X × List Token) →
    f x ≡ Some (y, rest) → length rest ≤ length x.1) → (o >>= f) ≡ Some (y, rest) →
    length rest ≤ length ts
then_no_longer o f ts rest y first next e = let s = bind_some o f (y, rest) e in
    omega (arith, first s.0 s.1, next s.0 s.2)

-- a step that takes no token
pub value_then : {X Y : Type 0} (o : Option X) (f : X → Read Y) (ts rest : List Token) (y : Y) →
    ((x : X) → f x ≡ Some (y, rest) → length rest ≤ length ts) → (o >>= f) ≡ Some (y, rest) →
    length rest ≤ length ts
value_then o f ts rest y next e = let s = bind_some o f (y, rest) e in next s.0 s.2

-- what is answered leaves these tokens
pub answer_left : {X : Type 0} (x y : X) (ts rest : List Token) → (let given : Read X = Some (x, ts) in
    given ≡ Some (y, rest)) → length rest ≤ length ts
answer_left {X} x y ts rest e = omega (arith, ap (λ (p : X × List Token). length p.1) (some_is (x, ts) (y, rest) e))

pub so_is : {X : Type 0} (b : Bool) (x y : X) → if_so b x ≡ Some y → x ≡ y
so_is true x y e = some_is x y e
so_is false x y e = absurd (let h = e in cc)

pub so_left : {X : Type 0} (b : Bool) (x : X × List Token) (y : X) (rest : List Token) → if_so b x ≡
    Some (y, rest) → length rest ≤ length x.1
so_left {X} b x y rest e = omega (arith, ap (λ (p : X × List Token). length p.1) (so_is b x (y, rest) e))

-- ---- interfaces and protocols

pub interface_name_shorter : (profile : Profile) (ts rest : List Token) (x : Name) → interface_name_at profile ts ≡
    Some (x, rest) → length rest < length ts
unfolding interface_name_at
interface_name_shorter profile ts rest x e =
    then_shorter (name_at ts) (λ name. if_so (is_interface_name profile name.0) name) ts rest x (λ n h.
    name_shorter ts n h) (λ n h. so_left (is_interface_name profile n.0) n x rest h) e

pub interface_shorter : (profile : Profile) (ts rest : List Token) (x : Interface) → interface_at profile ts ≡
    Some (x, rest) → length rest < length ts
unfolding interface_at
interface_shorter profile ts rest x e = then_shorter (interface_name_at profile (symbol_at mark.Not ts).1) (λ name.
    Some (record { negated = (symbol_at mark.Not ts).0; name = name.0 }, name.1)) ts rest x
    (λ n h. omega (
      arith,
      interface_name_shorter profile (symbol_at mark.Not ts).1 n.1 n.0 h,
      symbol_no_longer mark.Not ts,
    ))
    (λ n h. answer_left (record { negated = (symbol_at mark.Not ts).0; name = n.0 }) x n.1 rest h) e

pub protocol_shorter : (profile : Profile) (ts rest : List Token) (x : Protocol) → protocol_at profile ts ≡
    Some (x, rest) → length rest < length ts
unfolding protocol_at
protocol_shorter profile ts rest x e = then_shorter (word_at ts) (λ word. protocol_of word.0 >>= λ number.
    Some (record { number = number }, word.1)) ts rest x
    (λ w h. word_shorter ts w h)
    (λ w h. value_then (protocol_of w.0) (λ number. Some (record { number = number }, w.1)) w.1 rest x (λ number k.
    answer_left (record { number = number }) x w.1 rest k) h) e

pub drop_no_longer : (ts : List Token) → length (drop 1 ts) ≤ length ts
drop_no_longer [] = omega arith
drop_no_longer (t ∷ ts) = omega arith

-- ---- hosts

length_cases : (b : Bool) (ts rest : List Token) (x : Option (List ℕ)) → begins_symbol mark.Slash ts ≡ b →
    cond {A = Read (Option (List ℕ))} b (word_at (drop 1 ts) >>= λ w. Some (Some w.0, w.1)) (Some (None, ts)) ≡
    Some (x, rest) → length rest ≤ length ts
length_cases true ts rest x slash e = then_no_longer (word_at (drop 1 ts)) (λ w. Some (Some w.0, w.1)) ts rest x
    (λ w h. omega (arith, symbol_shorter mark.Slash ts slash, word_shorter (drop 1 ts) w h)) (λ w h.
    answer_left (Some w.0) x w.1 rest h) e
length_cases false ts rest x slash e = answer_left None x ts rest e

length_no_longer : (ts rest : List Token) (x : Option (List ℕ)) → length_at ts ≡ Some (x, rest) →
    length rest ≤ length ts
unfolding length_at
length_no_longer ts rest x e = length_cases (begins_symbol mark.Slash ts) ts rest x refl e

prefix_no_longer : (addr : List ℕ) (ts rest : List Token) (x : Block) → prefix_behind addr ts ≡ Some (x, rest) →
    length rest ≤ length ts
unfolding prefix_behind
prefix_no_longer addr ts rest x e =
    then_no_longer (length_at ts) (λ len. result_ok (block_of (addr, len.0)) >>= λ block. Some (block, len.1))
    ts rest x
    (λ len h. length_no_longer ts len.1 len.0 h)
    (λ len h. value_then (result_ok (block_of (addr, len.0))) (λ block. Some (block, len.1)) len.1 rest x (λ block k.
    answer_left block x len.1 rest k) h) e

pub prefix_shorter : (ts rest : List Token) (x : Block) → prefix_at ts ≡ Some (x, rest) → length rest < length ts
unfolding prefix_at
prefix_shorter ts rest x e = then_shorter (word_at ts) (λ addr. prefix_behind addr.0 addr.1) ts rest x (λ addr h.
    word_shorter ts addr h) (λ addr h. prefix_no_longer addr.0 addr.1 rest x h) e

range_no_longer : (addr : List ℕ) (ts rest : List Token) (x : Addresses) → range_behind addr ts ≡
    Some (x, rest) → length rest ≤ length ts
unfolding range_behind
range_no_longer addr ts rest x e = then_no_longer (word_at ts) (λ last. result_ok (addr_of addr) >>= λ a.
    result_ok (addr_of last.0) >>= λ b. span_of a b >>= λ span. Some (Range span, last.1)) ts rest x
    (λ last h. omega (arith, word_shorter ts last h))
    (λ last h. value_then (result_ok (addr_of addr)) (λ a. result_ok (addr_of last.0) >>= λ b.
    span_of a b >>= λ span. Some (Range span, last.1)) last.1 rest x
    (λ a k. value_then (result_ok (addr_of last.0)) (λ b. span_of a b >>= λ span. Some (Range span, last.1))
    last.1 rest x
    (λ b l. value_then (span_of a b) (λ span. Some (Range span, last.1)) last.1 rest x (λ span m.
    answer_left (Range span) x last.1 rest m) l) k) h) e

behind_address : (b : Bool) (addr : List ℕ × List Token) (rest : List Token) (x : Addresses) →
    begins (codes "-") addr.1 ≡ b → cond {A = Read Addresses} b (range_behind addr.0 (drop 1 addr.1))
    (as_prefix (prefix_behind addr.0 addr.1)) ≡ Some (x, rest) → length rest ≤ length addr.1
behind_address true addr rest x hyphen e = omega (
  arith,
  begins_shorter (codes "-") addr.1 hyphen,
  range_no_longer addr.0 (drop 1 addr.1) rest x e,
)
behind_address false addr rest x hyphen e = then_no_longer (prefix_behind addr.0 addr.1) (λ block.
    Some (Prefix block.0, block.1)) addr.1 rest x
    (λ block h. prefix_no_longer addr.0 addr.1 block.1 block.0 h)
    (λ block h. answer_left (Prefix block.0) x block.1 rest h) e

addresses_shorter : (ts rest : List Token) (x : Addresses) → addresses_at ts ≡ Some (x, rest) →
    length rest < length ts
unfolding addresses_at
addresses_shorter ts rest x e = then_shorter (word_at ts) (λ addr. if begins (codes "-") addr.1
    then range_behind addr.0 (drop 1 addr.1) else as_prefix (prefix_behind addr.0 addr.1)) ts rest x
    (λ addr h. word_shorter ts addr h)
    (λ addr h. behind_address (begins (codes "-") addr.1) addr rest x refl h) e

pub table_shorter : (profile : Profile) (ts rest : List Token) (x : Name) → table_at profile ts ≡ Some (x, rest) →
    length rest < length ts
unfolding table_at
table_shorter profile ts rest x e =
    let o = bind_some (if_so (begins_symbol mark.Less ts) (drop 1 ts)) _ (x, rest) e in
    let w = bind_some (word_at o.0) _ (x, rest) o.2 in
    let n = bind_some (if_so (is_table_name profile w.0.0) w.0) _ (x, rest) w.2 in
    omega (
      arith,
      drop_no_longer ts,
      ap (λ (us : List Token). length us) (so_is (begins_symbol mark.Less ts) (drop 1 ts) o.0 o.1),
      word_shorter o.0 w.0 w.1,
      ap (λ (y : List ℕ × List Token). length y.1) (so_is (is_table_name profile w.0.0) w.0 n.0 n.1),
      so_left (begins_symbol mark.Greater n.0.1) (n.0.0, drop 1 n.0.1) x rest n.2,
      drop_no_longer n.0.1,
    )

set_shorter : (profile : Profile) (ts rest : List Token) (x : Addresses) → set_at profile ts ≡ Some (x, rest) →
    length rest < length ts
unfolding set_at
set_shorter profile ts rest x e = cases (begins_symbol mark.Less ts) e
  where
    cases : (b : Bool) → cond {A = Read Addresses} b (table_at profile ts >>= λ name. Some (Table name.0, name.1))
        (addresses_at ts) ≡ Some (x, rest) → length rest < length ts
    cases true e = then_shorter (table_at profile ts) (λ name. Some (Table name.0, name.1)) ts rest x (λ name h.
        table_shorter profile ts name.1 name.0 h) (λ name h. answer_left (Table name.0) x name.1 rest h) e
    cases false e = addresses_shorter ts rest x e

host_cases : (b : Bool) (profile : Profile) (ts rest : List Token) (x : Host) → begins (codes "any") ts ≡ b →
    cond {A = Read Host} b (Some (host.Any, drop 1 ts)) (set_at profile (symbol_at mark.Not ts).1 >>= λ set.
    Some (in_or_not (symbol_at mark.Not ts).0 set.0, set.1)) ≡ Some (x, rest) → length rest < length ts
host_cases true profile ts rest x any e = omega (
  arith,
  begins_shorter (codes "any") ts any,
  answer_left host.Any x (drop 1 ts) rest e,
)
host_cases false profile ts rest x any e = then_shorter (set_at profile (symbol_at mark.Not ts).1) (λ set.
    Some (in_or_not (symbol_at mark.Not ts).0 set.0, set.1)) ts rest x
    (λ set h. omega (arith, set_shorter profile (symbol_at mark.Not ts).1 set.1 set.0 h, symbol_no_longer mark.Not ts))
    (λ set h. answer_left (in_or_not (symbol_at mark.Not ts).0 set.0) x set.1 rest h) e

pub host_shorter : (profile : Profile) (ts rest : List Token) (x : Host) → host_at profile ts ≡ Some (x, rest) →
    length rest < length ts
unfolding host_at
host_shorter profile ts rest x e = host_cases (begins (codes "any") ts) profile ts rest x refl e

-- ---- ports

pub port_word_shorter : (profile : Profile) (ts : List Token) (x : List ℕ × List Token) →
    port_word_at profile ts ≡ Some x → length x.1 < length ts
unfolding port_word_at
port_word_shorter profile ts x e = then_shorter (word_at ts) (λ word. if_so (not (is_reserved profile word.0)) word) ts
    x.1 x.0 (λ w h. word_shorter ts w h) (λ w h. so_left (not (is_reserved profile w.0)) w x.0 x.1 h) e

compared_shorter : (profile : Profile) (test : ℕ → PortTest) (ts rest : List Token) (x : WrittenPort) →
    compared_at profile test ts ≡ Some (x, rest) → length rest < length ts
compared_shorter profile test ts rest x e = then_shorter (port_word_at profile ts) (λ word.
    tested (one_port test (port_of word.0)) word.1) ts rest x (λ w h. port_word_shorter profile ts w h) (λ w h.
    answer_left (record { test = one_port test (port_of w.0) }) x w.1 rest h) e

second_shorter : (profile : Profile) (test : ℕ → ℕ → PortTest) (first : List ℕ) (ts rest : List Token)
    (x : WrittenPort) → second_at profile test first ts ≡ Some (x, rest) → length rest < length ts
second_shorter profile test first ts rest x e = then_shorter (port_word_at profile ts) (λ word.
    tested (two_ports test (port_of first) (port_of word.0)) word.1) ts rest x (λ w h.
    port_word_shorter profile ts w h) (λ w h.
    answer_left (record { test = two_ports test (port_of first) (port_of w.0) }) x w.1 rest h) e

behind_cases : (b c : Bool) (profile : Profile) (word : List ℕ) (ts rest : List Token) (x : WrittenPort) →
    begins_symbol mark.Between ts ≡ b → begins_symbol mark.Outside ts ≡ c
    → cond {A = Read WrittenPort} b (second_at profile Between word (drop 1 ts)) (cond {A = Read WrittenPort} c
    (second_at profile Outside word (drop 1 ts)) (tested (lone_test word) ts)) ≡ Some (x, rest) →
    length rest ≤ length ts
behind_cases true c profile word ts rest x between outside e = omega (
  arith,
  symbol_shorter mark.Between ts between,
  second_shorter profile Between word (drop 1 ts) rest x e,
)
behind_cases false true profile word ts rest x between outside e = omega (
  arith,
  symbol_shorter mark.Outside ts outside,
  second_shorter profile Outside word (drop 1 ts) rest x e,
)
behind_cases false false profile word ts rest x between outside e =
    answer_left (record { test = lone_test word }) x ts rest e

behind_no_longer : (profile : Profile) (word : List ℕ) (ts rest : List Token) (x : WrittenPort) →
    port_behind profile word ts ≡ Some (x, rest) → length rest ≤ length ts
unfolding port_behind
behind_no_longer profile word ts rest x e = behind_cases (begins_symbol mark.Between ts) (begins_symbol mark.Outside ts)
    profile word ts rest x refl refl e

with_shorter : (profile : Profile) (test : Option (ℕ → PortTest)) (ts rest : List Token) (x : WrittenPort) →
    port_with profile test ts ≡ Some (x, rest) → length rest < length ts
with_shorter profile (Some test) ts rest x e = omega (
  arith,
  compared_shorter profile test (drop 1 ts) rest x e,
  drop_no_longer ts,
)
with_shorter profile None ts rest x e = then_shorter (port_word_at profile ts) (λ word.
    port_behind profile word.0 word.1) ts rest x (λ w h. port_word_shorter profile ts w h) (λ w h.
    behind_no_longer profile w.0 w.1 rest x h) e

pub port_shorter : (profile : Profile) (ts rest : List Token) (x : WrittenPort) → port_at profile ts ≡
    Some (x, rest) → length rest < length ts
unfolding port_at
port_shorter profile ts rest x e = with_shorter profile (operator_at ts) ts rest x e

-- ---- types of ICMP

pub type_shorter : (profile : Profile) (ts rest : List Token) (x : WrittenType) → type_at profile ts ≡
    Some (x, rest) → length rest < length ts
unfolding type_at
type_shorter profile ts rest x e = then_shorter (word_at ts) (λ word. Some (
  record { number = icmp_type_of word.0 },
  word.1,
)) ts rest x (λ w h. word_shorter ts w h) (λ w h. answer_left (record { number = icmp_type_of w.0 }) x w.1
    rest h) e
