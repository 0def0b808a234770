-- Interfaces, protocols, hosts and ports are read exactly where the grammar spells them.
use Rattle.std.proofs.Common.{◌≡◌, ℕ, ◌<◌, ◌⊎◌, inl, inr, Bool, true, false, cond, List, [], ◌∷◌, ◌++◌, drop, length, Option, Some, None, Result, Ok, Err, refl, sym, ap, subst, ◌∙◌, arith}
use Rattle.std.specs.Prelude.{bytes_eq, codes, not}
use Rattle.std.specs.List.{AllByRecursion}
use Rattle.std.specs.Result.{result_ok}
use Rattle.std.specs.Option.{is_some}
use Rattle.std.proofs.lemmas.Bool.{false≢true}
use Rattle.std.proofs.lemmas.Slice.Eq.{bytes_eq-Decides}
use Rattle.pf_addr.specs.declared.addr.Addr.{Addr}
use Rattle.pf_addr.specs.declared.fault.AddrFault.{AddrFault}
use Rattle.pf_addr.specs.Blocks.{Block, span_of}
use Rattle.pf_addr.specs.Spelling.{addr_of, address_of, block_of, as_block, quad_of, number}
use Rattle.pf_rules.specs.declared.profile.Profile.{Profile}
use Rattle.pf_tokens.specs.declared.symbol.Symbol.{Symbol}
use Rattle.pf_tokens.specs.declared.symbol.Symbol.TheVariants as mark
use Rattle.pf_tokens.specs.Tokens.{Token, Word, Quoted, Macro, Mark, Newline, Bad}
use Rattle.pf_tokens.specs.Productions.{Read, ◌>>=◌, begins, begins_symbol, symbol_at, word_at}
use Rattle.pf_tokens.specs.inner.Shorter.{bind_some, some_is}
use Rattle.pf_rules.specs.declared.parts.Interface.{Interface}
use Rattle.pf_rules.specs.declared.parts.Addresses.{Addresses}
use Rattle.pf_rules.specs.declared.parts.Addresses.TheVariants.{Prefix, Range, Table}
use Rattle.pf_rules.specs.declared.parts.Host.{Host}
use Rattle.pf_rules.specs.declared.parts.Host.TheVariants as host
use Rattle.pf_rules.specs.declared.parts.PortTest.{PortTest}
use Rattle.pf_rules.specs.declared.parts.PortTest.TheVariants.{Between, Outside}
use Rattle.pf_statements.specs.declared.conditions.Protocol.{Protocol}
use Rattle.pf_statements.specs.declared.conditions.WrittenPort.{WrittenPort}
use Rattle.pf_rules.specs.Names.{Name}
use Rattle.pf_rules.specs.Words.{is_reserved, is_interface_name, protocol_of, port_of, is_table_name}
use Rattle.pf_statements.specs.Conditions.{if_so, interface_name_at, interface_at, protocol_at, length_at, prefix_behind, range_behind, addresses_at, in_or_not, host_at, port_word_at, tested, one_port, two_ports, lone_test, compared_at, second_at, port_behind, operator_at, port_with, port_at, prefix_at, as_prefix, table_at, set_at}
use Rattle.pf_statements.specs.ConditionGrammar.{IsInterfaceName, NameWord, NameString, IsInterface, OnInterface, NotOnInterface, IsProtocol, ProtocolWord, IsPrefix, WholeAddress, CutAddress, IsTable, TableSign, IsSet, PrefixSet, RangeSet, TableSet, IsHost, AnyWord, HostIn, HostNotIn, IsOperator, EqualsSign, NotEqualSign, LessSign, LessEqualSign, GreaterSign, GreaterEqualSign, IsBounds, BetweenSign, OutsideSign, IsPort, PortAlone, PortCompared, PortBounds}
use Rattle.pf_tokens.proofs.Fronts.{Took, begins_is, symbol_is, word_is}
use Rattle.pf_tokens.proofs.ListsSpelled.{Heads, Readable}
use Rattle.pf_tokens.specs.ListGrammar.{IsPlain}

-- ---- tests and results

pub if_so_is : {X : Type 0} (b : Bool) (x y : X) → if_so b x ≡ Some y → (b ≡ true) × (x ≡ y)
if_so_is true x y e = (refl, some_is x y e)
if_so_is false x y e = absurd cc

pub not_is : (b : Bool) → not b ≡ true → b ≡ false
not_is true e = absurd (false≢true e)
not_is false e = refl

pub ok_some : {X E : Type 0} (r : Result X E) (x : X) → result_ok r ≡ Some x → r ≡ Ok x
ok_some (Ok y) x e = ap (λ z. Ok z) (some_is y x e)
ok_some (Err f) x e = absurd cc

-- whatever follows
abbrev pub Anything : List Token → Type 0
Anything ts = Unit {0}

-- ---- interfaces

name_took : (profile : Profile) (ts : List Token) (x : Name × List Token) → interface_name_at profile ts ≡ Some x → Took (IsInterfaceName profile) ts x
unfolding interface_name_at
name_took profile [] x e = absurd cc
name_took profile (Word text ∷ ts) x e =
    let s = if_so_is (is_interface_name profile text) (text, ts) x e in
    subst (λ (z : Name × List Token). Took (IsInterfaceName profile) (Word text ∷ ts) z) s.1 (record { piece = Word text ∷ []; whole = refl; is = NameWord text s.0 })
name_took profile (Quoted text ∷ ts) x e =
    let s = if_so_is (is_interface_name profile text) (text, ts) x e in
    subst (λ (z : Name × List Token). Took (IsInterfaceName profile) (Quoted text ∷ ts) z) s.1 (record { piece = Quoted text ∷ []; whole = refl; is = NameString text s.0 })
name_took profile (Macro name ∷ ts) x e = absurd cc
name_took profile (Mark symbol ∷ ts) x e = absurd cc
name_took profile (Newline ∷ ts) x e = absurd cc
name_took profile (Bad ∷ ts) x e = absurd cc

name_reads : (profile : Profile) (ts rest : List Token) (x : Name) → IsInterfaceName profile ts x → Anything rest → interface_name_at profile (ts ++ rest) ≡ Some (x, rest)
unfolding interface_name_at
name_reads profile _ rest _ (NameWord name e) ends = rw e refl
name_reads profile _ rest _ (NameString name e) ends = rw e refl

name_heads : (profile : Profile) (ts rest : List Token) (x : Name) → IsInterfaceName profile ts x → Heads Anything (ts ++ rest)
name_heads profile _ rest _ (NameWord name e) = record { ends = tt; not_open = refl; not_comma = refl; not_close = refl }
name_heads profile _ rest _ (NameString name e) = record { ends = tt; not_open = refl; not_comma = refl; not_close = refl }

name_plain : (profile : Profile) (ts : List Token) (x : Name) → IsInterfaceName profile ts x → AllByRecursion IsPlain ts
name_plain profile _ _ (NameWord name e) = ((refl, refl), tt)
name_plain profile _ _ (NameString name e) = ((refl, refl), tt)

name_some : (profile : Profile) (ts : List Token) (x : Name) → IsInterfaceName profile ts x → 0 < length ts
name_some profile _ _ (NameWord name e) = omega arith
name_some profile _ _ (NameString name e) = omega arith

pub names_readable : (profile : Profile) → Readable (interface_name_at profile) (IsInterfaceName profile) Anything
names_readable profile = record {
  took = name_took profile;
  reads = name_reads profile;
  heads = name_heads profile;
  open_ends = λ rest. tt;
  comma_ends = λ rest. tt;
  close_ends = λ rest. tt;
  plain = name_plain profile;
  some = name_some profile;
}

interface_took : (profile : Profile) (ts : List Token) (x : Interface × List Token) → interface_at profile ts ≡ Some x → Took (IsInterface profile) ts x
unfolding interface_at symbol_at
interface_took profile ts x e = cases (begins_symbol mark.Not ts) refl e
  where
    cases : (b : Bool) → begins_symbol mark.Not ts ≡ b → (interface_name_at profile (cond {A = Bool × List Token} b (true, drop 1 ts) (false, ts)).1 >>= λ name. Some (record { negated = (cond {A = Bool × List Token} b (true, drop 1 ts) (false, ts)).0; name = name.0 }, name.1)) ≡ Some x → Took (IsInterface profile) ts x
    cases true begun e =
        let a = bind_some (interface_name_at profile (drop 1 ts)) _ x e in
        let t = name_took profile (drop 1 ts) a.0 a.1 in
        subst (λ (z : Interface × List Token). Took (IsInterface profile) ts z) (some_is _ x a.2) (record { piece = Mark mark.Not ∷ t.piece; whole = symbol_is mark.Not ts begun ∙ ap (λ (us : List Token). Mark mark.Not ∷ us) t.whole; is = NotOnInterface t.piece a.0.0 t.is })
    cases false begun e =
        let a = bind_some (interface_name_at profile ts) _ x e in
        let t = name_took profile ts a.0 a.1 in
        subst (λ (z : Interface × List Token). Took (IsInterface profile) ts z) (some_is _ x a.2) (record { piece = t.piece; whole = t.whole; is = OnInterface t.piece a.0.0 t.is })

interface_reads : (profile : Profile) (ts rest : List Token) (x : Interface) → IsInterface profile ts x → Anything rest → interface_at profile (ts ++ rest) ≡ Some (x, rest)
unfolding interface_at symbol_at
interface_reads profile _ rest _ (OnInterface _ _ (NameWord name e)) ends = rw (name_reads profile (Word name ∷ []) rest name (NameWord name e) tt) refl
interface_reads profile _ rest _ (OnInterface _ _ (NameString name e)) ends = rw (name_reads profile (Quoted name ∷ []) rest name (NameString name e) tt) refl
interface_reads profile _ rest _ (NotOnInterface ts name is) ends = rw (name_reads profile ts rest name is tt) refl

interface_heads : (profile : Profile) (ts rest : List Token) (x : Interface) → IsInterface profile ts x → Heads Anything (ts ++ rest)
interface_heads profile _ rest _ (OnInterface ts name is) = name_heads profile ts rest name is
interface_heads profile _ rest _ (NotOnInterface ts name is) = record { ends = tt; not_open = refl; not_comma = refl; not_close = refl }

interface_plain : (profile : Profile) (ts : List Token) (x : Interface) → IsInterface profile ts x → AllByRecursion IsPlain ts
interface_plain profile _ _ (OnInterface ts name is) = name_plain profile ts name is
interface_plain profile _ _ (NotOnInterface ts name is) = ((refl, refl), name_plain profile ts name is)

interface_some : (profile : Profile) (ts : List Token) (x : Interface) → IsInterface profile ts x → 0 < length ts
interface_some profile _ _ (OnInterface ts name is) = name_some profile ts name is
interface_some profile _ _ (NotOnInterface ts name is) = omega arith

pub interfaces_readable : (profile : Profile) → Readable (interface_at profile) (IsInterface profile) Anything
interfaces_readable profile = record {
  took = interface_took profile;
  reads = interface_reads profile;
  heads = interface_heads profile;
  open_ends = λ rest. tt;
  comma_ends = λ rest. tt;
  close_ends = λ rest. tt;
  plain = interface_plain profile;
  some = interface_some profile;
}

-- ---- protocols

protocol_took : (profile : Profile) (ts : List Token) (x : Protocol × List Token) → protocol_at profile ts ≡ Some x → Took IsProtocol ts x
unfolding protocol_at
protocol_took profile ts x e =
    let a = bind_some (word_at ts) (λ (word : List ℕ × List Token). protocol_of word.0 >>= λ number. Some (record { number = number }, word.1)) x e in
    let b = bind_some (protocol_of a.0.0) (λ number. Some (record { number = number }, a.0.1)) x a.2 in
    subst (λ (z : Protocol × List Token). Took IsProtocol ts z) (some_is _ x b.2) (record { piece = Word a.0.0 ∷ []; whole = word_is ts a.0 a.1; is = ProtocolWord a.0.0 b.0 b.1 })

protocol_reads : (profile : Profile) (ts rest : List Token) (x : Protocol) → IsProtocol ts x → Anything rest → protocol_at profile (ts ++ rest) ≡ Some (x, rest)
unfolding protocol_at
protocol_reads profile _ rest _ (ProtocolWord word n e) ends = rw e refl

protocol_heads : (ts rest : List Token) (x : Protocol) → IsProtocol ts x → Heads Anything (ts ++ rest)
protocol_heads _ rest _ (ProtocolWord word n e) = record { ends = tt; not_open = refl; not_comma = refl; not_close = refl }

protocol_plain : (ts : List Token) (x : Protocol) → IsProtocol ts x → AllByRecursion IsPlain ts
protocol_plain _ _ (ProtocolWord word n e) = ((refl, refl), tt)

protocol_some : (ts : List Token) (x : Protocol) → IsProtocol ts x → 0 < length ts
protocol_some _ _ (ProtocolWord word n e) = omega arith

pub protocols_readable : (profile : Profile) → Readable (protocol_at profile) IsProtocol Anything
protocols_readable profile = record {
  took = protocol_took profile;
  reads = protocol_reads profile;
  heads = protocol_heads;
  open_ends = λ rest. tt;
  comma_ends = λ rest. tt;
  close_ends = λ rest. tt;
  plain = protocol_plain;
  some = protocol_some;
}

-- ---- words that are no addresses

abbrev NoAddress : List ℕ → Type 0
NoAddress word = (short : Bool) (a : Addr) → address_of short word ≡ Ok a → ⊥

any_no_address : NoAddress (codes "any")
unfolding quad_of number
any_no_address short a e = cc

hyphen_no_address : NoAddress (codes "-")
unfolding quad_of number
hyphen_no_address short a e = cc

port_no_address : NoAddress (codes "port")
unfolding quad_of number
port_no_address short a e = cc

block_address : (short : Bool) (r : Result Addr AddrFault) (len : Option (List ℕ)) (p : Block) → as_block r len ≡ Ok p → (a : Addr) × (r ≡ Ok a)
block_address short (Ok a) len p e = (a, refl)
block_address short (Err fault) len p e = absurd cc

not_word : (word : List ℕ) → NoAddress word → (short : Bool) (addr : List ℕ) (a : Addr) → address_of short addr ≡ Ok a → bytes_eq addr word ≡ false
not_word word none short addr a e = cases (bytes_eq addr word) refl
  where
    cases : (b : Bool) → bytes_eq addr word ≡ b → b ≡ false
    cases true same = absurd (none short a (ap (address_of short) (sym ((bytes_eq-Decides addr word).0 same)) ∙ e))
    cases false same = refl

not_block : (word : List ℕ) → NoAddress word → (addr : List ℕ) (len : Option (List ℕ)) (p : Block) → block_of (addr, len) ≡ Ok p → bytes_eq addr word ≡ false
not_block word none addr len p e = let a = block_address (is_some len) (address_of (is_some len) addr) len p e in not_word word none (is_some len) addr a.0 a.1

-- no set of addresses begins with a word that is no address
prefix_apart : (word : List ℕ) → NoAddress word → (ts rest : List Token) (block : Block) → IsPrefix ts block → begins word (ts ++ rest) ≡ false
prefix_apart word none _ rest _ (WholeAddress addr block e) = not_block word none addr None block e
prefix_apart word none _ rest _ (CutAddress addr len block e) = not_block word none addr (Some len) block e

set_apart : (word : List ℕ) → NoAddress word → (profile : Profile) (ts rest : List Token) (set : Addresses) → IsSet profile ts set → begins word (ts ++ rest) ≡ false
set_apart word none profile _ rest _ (PrefixSet ts block is) = prefix_apart word none ts rest block is
set_apart word none profile _ rest _ (RangeSet first last a b span e f g) = not_word word none false first a e
set_apart word none profile _ rest _ (TableSet _ _ (TableSign name e)) = refl

-- ---- hosts

-- what may follow a host
pub record HostEnds (rest : List Token) : Type 0 where
  pub not_hyphen : begins (codes "-") rest ≡ false
  pub not_slash : begins_symbol mark.Slash rest ≡ false

abbrev WithPrefix : List ℕ → Read (Option (List ℕ)) → Read Block
WithPrefix addr o = o >>= λ len. result_ok (block_of (addr, len.0)) >>= λ block. Some (block, len.1)

prefix_cases : (ts : List Token) (y : List ℕ × List Token) (x : Block × List Token) (b : Bool) → ts ≡ Word y.0 ∷ y.1 → begins_symbol mark.Slash y.1 ≡ b → WithPrefix y.0 (cond b (word_at (drop 1 y.1) >>= λ w. Some (Some w.0, w.1)) (Some (None, y.1))) ≡ Some x → Took IsPrefix ts x
prefix_cases ts y x true e_ts slash e =
    let c = bind_some (word_at (drop 1 y.1) >>= λ w. Some (Some w.0, w.1)) (λ len. result_ok (block_of (y.0, len.0)) >>= λ block. Some (block, len.1)) x e in
    let w = bind_some (word_at (drop 1 y.1)) (λ (w : List ℕ × List Token). Some (Some w.0, w.1)) c.0 c.1 in
    let d = bind_some (result_ok (block_of (y.0, c.0.0))) (λ block. Some (block, c.0.1)) x c.2 in
    let len_is = some_is (Some w.0.0, w.0.1) c.0 w.2 in
    let read : block_of (y.0, Some w.0.0) ≡ Ok d.0 = ap (λ (l : Option (List ℕ) × List Token). block_of (y.0, l.0)) len_is ∙ ok_some _ d.0 d.1 in
    let whole : ts ≡ Word y.0 ∷ Mark mark.Slash ∷ Word w.0.0 ∷ c.0.1 =
    e_ts ∙ ap (λ (us : List Token). Word y.0 ∷ us) (symbol_is mark.Slash y.1 slash ∙ ap (λ (us : List Token). Mark mark.Slash ∷ us) (word_is (drop 1 y.1) w.0 w.1 ∙ ap (λ (l : Option (List ℕ) × List Token). Word w.0.0 ∷ l.1) len_is)) in
    subst (λ (z : Block × List Token). Took IsPrefix ts z) (some_is _ x d.2) (record { piece = Word y.0 ∷ Mark mark.Slash ∷ Word w.0.0 ∷ []; whole = whole; is = CutAddress y.0 w.0.0 d.0 read })
prefix_cases ts y x false e_ts slash e =
    let d = bind_some (result_ok (block_of (y.0, None))) (λ block. Some (block, y.1)) x e in
    subst (λ (z : Block × List Token). Took IsPrefix ts z) (some_is _ x d.2) (record { piece = Word y.0 ∷ []; whole = e_ts; is = WholeAddress y.0 d.0 (ok_some _ d.0 d.1) })

prefix_behind_took : (ts : List Token) (y : List ℕ × List Token) (x : Block × List Token) → ts ≡ Word y.0 ∷ y.1 → prefix_behind y.0 y.1 ≡ Some x → Took IsPrefix ts x
unfolding prefix_behind length_at
prefix_behind_took ts y x e_ts e = prefix_cases ts y x (begins_symbol mark.Slash y.1) e_ts refl e

pub prefix_took : (ts : List Token) (x : Block × List Token) → prefix_at ts ≡ Some x → Took IsPrefix ts x
unfolding prefix_at
prefix_took ts x e =
    let w = bind_some (word_at ts) (λ (addr : List ℕ × List Token). prefix_behind addr.0 addr.1) x e in
    prefix_behind_took ts w.0 x (word_is ts w.0 w.1) w.2

pub prefix_reads : (ts rest : List Token) (x : Block) → IsPrefix ts x → begins_symbol mark.Slash rest ≡ false → prefix_at (ts ++ rest) ≡ Some (x, rest)
unfolding prefix_at prefix_behind length_at
prefix_reads _ rest _ (WholeAddress addr block e) not_slash = rw (not_slash, e) refl
prefix_reads _ rest _ (CutAddress addr len block e) not_slash = rw e refl

abbrev range_with : List ℕ → List ℕ × List Token → Read Addresses
range_with addr last = result_ok (addr_of addr) >>= λ a. result_ok (addr_of last.0) >>= λ b. span_of a b >>= λ span. Some (Range span, last.1)

range_took : (profile : Profile) (ts : List Token) (y : List ℕ × List Token) (x : Addresses × List Token) → ts ≡ Word y.0 ∷ y.1 → begins (codes "-") y.1 ≡ true → range_behind y.0 (drop 1 y.1) ≡ Some x → Took (IsSet profile) ts x
unfolding range_behind
range_took profile ts y x e_ts hyphen e =
    let w = bind_some (word_at (drop 1 y.1)) (range_with y.0) x e in
    let a = bind_some (result_ok (addr_of y.0)) (λ a. result_ok (addr_of w.0.0) >>= λ b. span_of a b >>= λ span. Some (Range span, w.0.1)) x w.2 in
    let b = bind_some (result_ok (addr_of w.0.0)) (λ b. span_of a.0 b >>= λ span. Some (Range span, w.0.1)) x a.2 in
    let s = bind_some (span_of a.0 b.0) (λ span. Some (Range span, w.0.1)) x b.2 in
    let whole : ts ≡ Word y.0 ∷ Word (codes "-") ∷ Word w.0.0 ∷ w.0.1 =
    e_ts ∙ ap (λ (us : List Token). Word y.0 ∷ us) (begins_is (codes "-") y.1 hyphen ∙ ap (λ (us : List Token). Word (codes "-") ∷ us) (word_is (drop 1 y.1) w.0 w.1)) in
    subst (λ (z : Addresses × List Token). Took (IsSet profile) ts z) (some_is _ x s.2) (record { piece = Word y.0 ∷ Word (codes "-") ∷ Word w.0.0 ∷ []; whole = whole; is = RangeSet y.0 w.0.0 a.0 b.0 s.0 (ok_some _ a.0 a.1) (ok_some _ b.0 b.1) s.1 })

prefix_set_took : (profile : Profile) (ts : List Token) (y : List ℕ × List Token) (x : Addresses × List Token) → ts ≡ Word y.0 ∷ y.1 → as_prefix (prefix_behind y.0 y.1) ≡ Some x → Took (IsSet profile) ts x
prefix_set_took profile ts y x e_ts e =
    let p = bind_some (prefix_behind y.0 y.1) (λ (block : Block × List Token). Some (Prefix block.0, block.1)) x e in
    let t = prefix_behind_took ts y p.0 e_ts p.1 in
    subst (λ (z : Addresses × List Token). Took (IsSet profile) ts z) (some_is _ x p.2) (record { piece = t.piece; whole = t.whole; is = PrefixSet t.piece p.0.0 t.is })

addresses_took : (profile : Profile) (ts : List Token) (x : Addresses × List Token) → addresses_at ts ≡ Some x → Took (IsSet profile) ts x
unfolding addresses_at
addresses_took profile ts x e =
    let w = bind_some (word_at ts) (λ (addr : List ℕ × List Token). cond (begins (codes "-") addr.1) (range_behind addr.0 (drop 1 addr.1)) (as_prefix (prefix_behind addr.0 addr.1))) x e in
    cases w.0 (word_is ts w.0 w.1) (begins (codes "-") w.0.1) refl w.2
  where
    cases : (y : List ℕ × List Token) → ts ≡ Word y.0 ∷ y.1 → (b : Bool) → begins (codes "-") y.1 ≡ b → cond b (range_behind y.0 (drop 1 y.1)) (as_prefix (prefix_behind y.0 y.1)) ≡ Some x → Took (IsSet profile) ts x
    cases y e_ts true hyphen e = range_took profile ts y x e_ts hyphen e
    cases y e_ts false hyphen e = prefix_set_took profile ts y x e_ts e

pub table_took : (profile : Profile) (ts : List Token) (x : Name × List Token) → table_at profile ts ≡ Some x → Took (IsTable profile) ts x
unfolding table_at
table_took profile ts x e =
    let o = bind_some (if_so (begins_symbol mark.Less ts) (drop 1 ts)) _ x e in
    let s = if_so_is (begins_symbol mark.Less ts) (drop 1 ts) o.0 o.1 in
    let w = bind_some (word_at o.0) _ x o.2 in
    let n = bind_some (if_so (is_table_name profile w.0.0) w.0) _ x w.2 in
    let k = if_so_is (is_table_name profile w.0.0) w.0 n.0 n.1 in
    let g = if_so_is (begins_symbol mark.Greater n.0.1) (n.0.0, drop 1 n.0.1) x n.2 in
    let named : is_table_name profile n.0.0 ≡ true = ap (λ (y : List ℕ × List Token). is_table_name profile y.0) (sym k.1) ∙ k.0 in
    let whole : ts ≡ Mark mark.Less ∷ Word n.0.0 ∷ Mark mark.Greater ∷ drop 1 n.0.1 =
    symbol_is mark.Less ts s.0 ∙ ap (λ (us : List Token). Mark mark.Less ∷ us) (s.1 ∙ word_is o.0 w.0 w.1 ∙ ap (λ (y : List ℕ × List Token). Word y.0 ∷ y.1) k.1 ∙ ap (λ (us : List Token). Word n.0.0 ∷ us) (symbol_is mark.Greater n.0.1 g.0)) in
    subst (λ (z : Name × List Token). Took (IsTable profile) ts z) g.1 (record { piece = Mark mark.Less ∷ Word n.0.0 ∷ Mark mark.Greater ∷ []; whole = whole; is = TableSign n.0.0 named })

pub table_reads : (profile : Profile) (ts rest : List Token) (x : Name) → IsTable profile ts x → table_at profile (ts ++ rest) ≡ Some (x, rest)
unfolding table_at
table_reads profile _ rest _ (TableSign name e) = rw e refl

set_took : (profile : Profile) (ts : List Token) (x : Addresses × List Token) → set_at profile ts ≡ Some x → Took (IsSet profile) ts x
unfolding set_at
set_took profile ts x e = cases (begins_symbol mark.Less ts) e
  where
    cases : (b : Bool) → cond {A = Read Addresses} b (table_at profile ts >>= λ name. Some (Table name.0, name.1)) (addresses_at ts) ≡ Some x → Took (IsSet profile) ts x
    cases true e =
        let n = bind_some (table_at profile ts) (λ (name : Name × List Token). Some (Table name.0, name.1)) x e in
        let t = table_took profile ts n.0 n.1 in
        subst (λ (z : Addresses × List Token). Took (IsSet profile) ts z) (some_is _ x n.2) (record { piece = t.piece; whole = t.whole; is = TableSet t.piece n.0.0 t.is })
    cases false e = addresses_took profile ts x e

table_set : (profile : Profile) (ts rest : List Token) (name : Name) → IsTable profile ts name → set_at profile (ts ++ rest) ≡ Some (Table name, rest)
unfolding set_at
table_set profile _ rest _ (TableSign name e) = rw (table_reads profile _ rest name (TableSign name e)) refl

set_reads : (profile : Profile) (ts rest : List Token) (x : Addresses) → IsSet profile ts x → HostEnds rest → set_at profile (ts ++ rest) ≡ Some (x, rest)
unfolding set_at addresses_at prefix_behind length_at range_behind
set_reads profile _ rest _ (PrefixSet _ _ (WholeAddress addr block e)) ends = rw (ends.not_hyphen, ends.not_slash, e) refl
set_reads profile _ rest _ (PrefixSet _ _ (CutAddress addr len block e)) ends = rw e refl
set_reads profile _ rest _ (RangeSet first last a b span e f g) ends = rw (e, f, g) refl
set_reads profile _ rest _ (TableSet ts name is) ends = table_set profile ts rest name is

host_took : (profile : Profile) (ts : List Token) (x : Host × List Token) → host_at profile ts ≡ Some x → Took (IsHost profile) ts x
unfolding host_at symbol_at
host_took profile ts x e = cases (begins (codes "any") ts) refl (begins_symbol mark.Not ts) refl e
  where
    cases : (b : Bool) → begins (codes "any") ts ≡ b → (n : Bool) → begins_symbol mark.Not ts ≡ n → cond b (Some (host.Any, drop 1 ts)) (set_at profile (cond {A = Bool × List Token} n (true, drop 1 ts) (false, ts)).1 >>= λ set. Some (in_or_not (cond {A = Bool × List Token} n (true, drop 1 ts) (false, ts)).0 set.0, set.1)) ≡ Some x → Took (IsHost profile) ts x
    cases true any n negated e = subst (λ (z : Host × List Token). Took (IsHost profile) ts z) (some_is (host.Any, drop 1 ts) x e) (record { piece = Word (codes "any") ∷ []; whole = begins_is (codes "any") ts any; is = AnyWord })
    cases false any true negated e =
        let a = bind_some (set_at profile (drop 1 ts)) (λ set. Some (host.NotIn set.0, set.1)) x e in
        let t = set_took profile (drop 1 ts) a.0 a.1 in
        subst (λ (z : Host × List Token). Took (IsHost profile) ts z) (some_is _ x a.2) (record { piece = Mark mark.Not ∷ t.piece; whole = symbol_is mark.Not ts negated ∙ ap (λ (us : List Token). Mark mark.Not ∷ us) t.whole; is = HostNotIn t.piece a.0.0 t.is })
    cases false any false negated e =
        let a = bind_some (set_at profile ts) (λ set. Some (host.In set.0, set.1)) x e in
        let t = set_took profile ts a.0 a.1 in
        subst (λ (z : Host × List Token). Took (IsHost profile) ts z) (some_is _ x a.2) (record { piece = t.piece; whole = t.whole; is = HostIn t.piece a.0.0 t.is })

set_not_not : (profile : Profile) (ts rest : List Token) (set : Addresses) → IsSet profile ts set → begins_symbol mark.Not (ts ++ rest) ≡ false
set_not_not profile _ rest _ (PrefixSet _ _ (WholeAddress addr block e)) = refl
set_not_not profile _ rest _ (PrefixSet _ _ (CutAddress addr len block e)) = refl
set_not_not profile _ rest _ (RangeSet first last a b span e f g) = refl
set_not_not profile _ rest _ (TableSet _ _ (TableSign name e)) = refl

host_reads : (profile : Profile) (ts rest : List Token) (x : Host) → IsHost profile ts x → HostEnds rest → host_at profile (ts ++ rest) ≡ Some (x, rest)
unfolding host_at symbol_at
host_reads profile _ rest _ AnyWord ends = refl
host_reads profile _ rest _ (HostIn ts set is) ends = rw (set_apart (codes "any") any_no_address profile ts rest set is, set_not_not profile ts rest set is, set_reads profile ts rest set is ends) refl
host_reads profile _ rest _ (HostNotIn ts set is) ends = rw (set_reads profile ts rest set is ends) refl

set_heads : (profile : Profile) (ts rest : List Token) (set : Addresses) → IsSet profile ts set → Heads HostEnds (ts ++ rest)
set_heads profile _ rest _ (PrefixSet _ _ (WholeAddress addr block e)) = record { ends = record { not_hyphen = not_block (codes "-") hyphen_no_address addr None block e; not_slash = refl }; not_open = refl; not_comma = refl; not_close = refl }
set_heads profile _ rest _ (PrefixSet _ _ (CutAddress addr len block e)) = record { ends = record { not_hyphen = not_block (codes "-") hyphen_no_address addr (Some len) block e; not_slash = refl }; not_open = refl; not_comma = refl; not_close = refl }
set_heads profile _ rest _ (RangeSet first last a b span e f g) = record { ends = record { not_hyphen = not_word (codes "-") hyphen_no_address false first a e; not_slash = refl }; not_open = refl; not_comma = refl; not_close = refl }
set_heads profile _ rest _ (TableSet _ _ (TableSign name e)) = record { ends = record { not_hyphen = refl; not_slash = refl }; not_open = refl; not_comma = refl; not_close = refl }

host_heads : (profile : Profile) (ts rest : List Token) (x : Host) → IsHost profile ts x → Heads HostEnds (ts ++ rest)
host_heads profile _ rest _ AnyWord = record { ends = record { not_hyphen = refl; not_slash = refl }; not_open = refl; not_comma = refl; not_close = refl }
host_heads profile _ rest _ (HostIn ts set is) = set_heads profile ts rest set is
host_heads profile _ rest _ (HostNotIn ts set is) = record { ends = record { not_hyphen = refl; not_slash = refl }; not_open = refl; not_comma = refl; not_close = refl }

-- no host begins with port
pub host_not_port : (profile : Profile) (ts rest : List Token) (x : Host) → IsHost profile ts x → begins (codes "port") (ts ++ rest) ≡ false
host_not_port profile _ rest _ AnyWord = refl
host_not_port profile _ rest _ (HostIn ts set is) = set_apart (codes "port") port_no_address profile ts rest set is
host_not_port profile _ rest _ (HostNotIn ts set is) = refl

pub prefix_plain : (ts : List Token) (block : Block) → IsPrefix ts block → AllByRecursion IsPlain ts
prefix_plain _ _ (WholeAddress addr block e) = ((refl, refl), tt)
prefix_plain _ _ (CutAddress addr len block e) = ((refl, refl), ((refl, refl), ((refl, refl), tt)))

set_plain : (profile : Profile) (ts : List Token) (set : Addresses) → IsSet profile ts set → AllByRecursion IsPlain ts
set_plain profile _ _ (PrefixSet ts block is) = prefix_plain ts block is
set_plain profile _ _ (RangeSet first last a b span e f g) = ((refl, refl), ((refl, refl), ((refl, refl), tt)))
set_plain profile _ _ (TableSet _ _ (TableSign name e)) = ((refl, refl), ((refl, refl), ((refl, refl), tt)))

host_plain : (profile : Profile) (ts : List Token) (x : Host) → IsHost profile ts x → AllByRecursion IsPlain ts
host_plain profile _ _ AnyWord = ((refl, refl), tt)
host_plain profile _ _ (HostIn ts set is) = set_plain profile ts set is
host_plain profile _ _ (HostNotIn ts set is) = ((refl, refl), set_plain profile ts set is)

pub prefix_some : (ts : List Token) (block : Block) → IsPrefix ts block → 0 < length ts
prefix_some _ _ (WholeAddress addr block e) = omega arith
prefix_some _ _ (CutAddress addr len block e) = omega arith

set_some : (profile : Profile) (ts : List Token) (set : Addresses) → IsSet profile ts set → 0 < length ts
set_some profile _ _ (PrefixSet ts block is) = prefix_some ts block is
set_some profile _ _ (RangeSet first last a b span e f g) = omega arith
set_some profile _ _ (TableSet _ _ (TableSign name e)) = omega arith

host_some : (profile : Profile) (ts : List Token) (x : Host) → IsHost profile ts x → 0 < length ts
host_some profile _ _ AnyWord = omega arith
host_some profile _ _ (HostIn ts set is) = set_some profile ts set is
host_some profile _ _ (HostNotIn ts set is) = omega arith

pub hosts_readable : (profile : Profile) → Readable (host_at profile) (IsHost profile) HostEnds
hosts_readable profile = record {
  took = host_took profile;
  reads = host_reads profile;
  heads = host_heads profile;
  open_ends = λ rest. record { not_hyphen = refl; not_slash = refl };
  comma_ends = λ rest. record { not_hyphen = refl; not_slash = refl };
  close_ends = λ rest. record { not_hyphen = refl; not_slash = refl };
  plain = host_plain profile;
  some = host_some profile;
}

-- ---- ports

-- what may follow a port
pub record PortEnds (rest : List Token) : Type 0 where
  pub not_between : begins_symbol mark.Between rest ≡ false
  pub not_outside : begins_symbol mark.Outside rest ≡ false

pub port_word_took : (profile : Profile) (ts : List Token) (x : List ℕ × List Token) → port_word_at profile ts ≡ Some x → (ts ≡ Word x.0 ∷ x.1) × (is_reserved profile x.0 ≡ false)
unfolding port_word_at
port_word_took profile ts x e =
    let w = bind_some (word_at ts) (λ (word : List ℕ × List Token). if_so (not (is_reserved profile word.0)) word) x e in
    let s = if_so_is (not (is_reserved profile w.0.0)) w.0 x w.2 in
    subst (λ (z : List ℕ × List Token). (ts ≡ Word z.0 ∷ z.1) × (is_reserved profile z.0 ≡ false)) s.1 (word_is ts w.0 w.1, not_is (is_reserved profile w.0.0) s.0)

pub port_word_reads : (profile : Profile) (word : List ℕ) (rest : List Token) → is_reserved profile word ≡ false → port_word_at profile (Word word ∷ rest) ≡ Some (word, rest)
unfolding port_word_at
port_word_reads profile word rest e = rw e refl

-- an operator, or none
record Operated (ts : List Token) (o : Option (ℕ → PortTest)) : Type 0 where
  said : (o ≡ None) ⊎ ((symbol : Symbol) × (test : ℕ → PortTest) × IsOperator symbol test × (o ≡ Some test) × (ts ≡ Mark symbol ∷ drop 1 ts))

operated : (symbol : Symbol) (test : ℕ → PortTest) → IsOperator symbol test → (ts : List Token) → begins_symbol symbol ts ≡ true → Operated ts (Some test)
operated symbol test is ts begun = record { said = inr (symbol, test, is, refl, symbol_is symbol ts begun) }

operator_took : (ts : List Token) → Operated ts (operator_at ts)
unfolding operator_at
operator_took ts =
    first (begins_symbol mark.Equals ts) refl
    (first (begins_symbol mark.NotEqual ts) refl
    (first (begins_symbol mark.Less ts) refl
    (first (begins_symbol mark.LessEqual ts) refl
    (first (begins_symbol mark.Greater ts) refl
    (first (begins_symbol mark.GreaterEqual ts) refl (record { said = inl refl }) GreaterEqualSign) GreaterSign) LessEqualSign) LessSign) NotEqualSign) EqualsSign
  where
    first : {symbol : Symbol} {test : ℕ → PortTest} {other : Option (ℕ → PortTest)} (b : Bool) → begins_symbol symbol ts ≡ b → Operated ts other → IsOperator symbol test → Operated ts (cond b (Some test) other)
    first {symbol = symbol} {test = test} true begun other is = operated symbol test is ts begun
    first false begun other is = other

compared_took : (profile : Profile) (ts : List Token) (x : WrittenPort × List Token) (symbol : Symbol) (test : ℕ → PortTest) → IsOperator symbol test → ts ≡ Mark symbol ∷ drop 1 ts → compared_at profile test (drop 1 ts) ≡ Some x → Took (IsPort profile) ts x
compared_took profile ts x symbol test is begun e =
    let w = bind_some (port_word_at profile (drop 1 ts)) (λ (word : List ℕ × List Token). tested (one_port test (port_of word.0)) word.1) x e in
    let p = port_word_took profile (drop 1 ts) w.0 w.1 in
    subst (λ (z : WrittenPort × List Token). Took (IsPort profile) ts z) (some_is _ x w.2) (record { piece = Mark symbol ∷ Word w.0.0 ∷ []; whole = begun ∙ ap (λ (us : List Token). Mark symbol ∷ us) p.0; is = PortCompared symbol test w.0.0 is p.1 })

bounds_took : (profile : Profile) (ts : List Token) (x : WrittenPort × List Token) (y : List ℕ × List Token) → ts ≡ Word y.0 ∷ y.1 → is_reserved profile y.0 ≡ false → (symbol : Symbol) (test : ℕ → ℕ → PortTest) → IsBounds symbol test → begins_symbol symbol y.1 ≡ true → second_at profile test y.0 (drop 1 y.1) ≡ Some x → Took (IsPort profile) ts x
bounds_took profile ts x y e_ts free symbol test is begun e =
    let w = bind_some (port_word_at profile (drop 1 y.1)) (λ (word : List ℕ × List Token). tested (two_ports test (port_of y.0) (port_of word.0)) word.1) x e in
    let p = port_word_took profile (drop 1 y.1) w.0 w.1 in
    subst (λ (z : WrittenPort × List Token). Took (IsPort profile) ts z) (some_is _ x w.2) (record { piece = Word y.0 ∷ Mark symbol ∷ Word w.0.0 ∷ []; whole = e_ts ∙ ap (λ (us : List Token). Word y.0 ∷ us) (symbol_is symbol y.1 begun ∙ ap (λ (us : List Token). Mark symbol ∷ us) p.0); is = PortBounds symbol test y.0 w.0.0 is free p.1 })

word_took : (profile : Profile) (ts : List Token) (x : WrittenPort × List Token) (y : List ℕ × List Token) → ts ≡ Word y.0 ∷ y.1 → is_reserved profile y.0 ≡ false → port_behind profile y.0 y.1 ≡ Some x → Took (IsPort profile) ts x
unfolding port_behind
word_took profile ts x y e_ts free e = cases (begins_symbol mark.Between y.1) refl (begins_symbol mark.Outside y.1) refl e
  where
    cases : (b : Bool) → begins_symbol mark.Between y.1 ≡ b → (o : Bool) → begins_symbol mark.Outside y.1 ≡ o → cond b (second_at profile Between y.0 (drop 1 y.1)) (cond o (second_at profile Outside y.0 (drop 1 y.1)) (tested (lone_test y.0) y.1)) ≡ Some x → Took (IsPort profile) ts x
    cases true between o outside e = bounds_took profile ts x y e_ts free mark.Between Between BetweenSign between e
    cases false between true outside e = bounds_took profile ts x y e_ts free mark.Outside Outside OutsideSign outside e
    cases false between false outside e = subst (λ (z : WrittenPort × List Token). Took (IsPort profile) ts z) (some_is _ x e) (record { piece = Word y.0 ∷ []; whole = e_ts; is = PortAlone y.0 free })

port_took : (profile : Profile) (ts : List Token) (x : WrittenPort × List Token) → port_at profile ts ≡ Some x → Took (IsPort profile) ts x
unfolding port_at
port_took profile ts x e =
    elim (operator_took ts).said [
      | inl none ↦
          let e' : port_with profile None ts ≡ Some x = subst (λ (o : Option (ℕ → PortTest)). port_with profile o ts ≡ Some x) none e in
          let w = bind_some (port_word_at profile ts) (λ (word : List ℕ × List Token). port_behind profile word.0 word.1) x e' in
          let p = port_word_took profile ts w.0 w.1 in
          word_took profile ts x w.0 p.0 p.1 w.2
      | inr said ↦
          let e' : port_with profile (Some said.1) ts ≡ Some x = subst (λ (o : Option (ℕ → PortTest)). port_with profile o ts ≡ Some x) said.3 e in
          compared_took profile ts x said.0 said.1 said.2 said.4 e'
    ]

port_reads : (profile : Profile) (ts rest : List Token) (x : WrittenPort) → IsPort profile ts x → PortEnds rest → port_at profile (ts ++ rest) ≡ Some (x, rest)
unfolding port_at operator_at port_behind
port_reads profile _ rest _ (PortAlone word free) ends = rw (port_word_reads profile word rest free, ends.not_between, ends.not_outside) refl
port_reads profile _ rest _ (PortCompared _ _ word EqualsSign free) ends = rw (port_word_reads profile word rest free) refl
port_reads profile _ rest _ (PortCompared _ _ word NotEqualSign free) ends = rw (port_word_reads profile word rest free) refl
port_reads profile _ rest _ (PortCompared _ _ word LessSign free) ends = rw (port_word_reads profile word rest free) refl
port_reads profile _ rest _ (PortCompared _ _ word LessEqualSign free) ends = rw (port_word_reads profile word rest free) refl
port_reads profile _ rest _ (PortCompared _ _ word GreaterSign free) ends = rw (port_word_reads profile word rest free) refl
port_reads profile _ rest _ (PortCompared _ _ word GreaterEqualSign free) ends = rw (port_word_reads profile word rest free) refl
port_reads profile _ rest _ (PortBounds _ _ first second BetweenSign free also) ends = rw (port_word_reads profile first (Mark mark.Between ∷ Word second ∷ rest) free, port_word_reads profile second rest also) refl
port_reads profile _ rest _ (PortBounds _ _ first second OutsideSign free also) ends = rw (port_word_reads profile first (Mark mark.Outside ∷ Word second ∷ rest) free, port_word_reads profile second rest also) refl

port_heads : (profile : Profile) (ts rest : List Token) (x : WrittenPort) → IsPort profile ts x → Heads PortEnds (ts ++ rest)
port_heads profile _ rest _ (PortAlone word free) = record { ends = record { not_between = refl; not_outside = refl }; not_open = refl; not_comma = refl; not_close = refl }
port_heads profile _ rest _ (PortCompared _ _ word EqualsSign free) = record { ends = record { not_between = refl; not_outside = refl }; not_open = refl; not_comma = refl; not_close = refl }
port_heads profile _ rest _ (PortCompared _ _ word NotEqualSign free) = record { ends = record { not_between = refl; not_outside = refl }; not_open = refl; not_comma = refl; not_close = refl }
port_heads profile _ rest _ (PortCompared _ _ word LessSign free) = record { ends = record { not_between = refl; not_outside = refl }; not_open = refl; not_comma = refl; not_close = refl }
port_heads profile _ rest _ (PortCompared _ _ word LessEqualSign free) = record { ends = record { not_between = refl; not_outside = refl }; not_open = refl; not_comma = refl; not_close = refl }
port_heads profile _ rest _ (PortCompared _ _ word GreaterSign free) = record { ends = record { not_between = refl; not_outside = refl }; not_open = refl; not_comma = refl; not_close = refl }
port_heads profile _ rest _ (PortCompared _ _ word GreaterEqualSign free) = record { ends = record { not_between = refl; not_outside = refl }; not_open = refl; not_comma = refl; not_close = refl }
port_heads profile _ rest _ (PortBounds symbol test first second is free also) = record { ends = record { not_between = refl; not_outside = refl }; not_open = refl; not_comma = refl; not_close = refl }

operator_plain : (symbol : Symbol) (test : ℕ → PortTest) → IsOperator symbol test → IsPlain (Mark symbol)
operator_plain _ _ EqualsSign = (refl, refl)
operator_plain _ _ NotEqualSign = (refl, refl)
operator_plain _ _ LessSign = (refl, refl)
operator_plain _ _ LessEqualSign = (refl, refl)
operator_plain _ _ GreaterSign = (refl, refl)
operator_plain _ _ GreaterEqualSign = (refl, refl)

bounds_plain : (symbol : Symbol) (test : ℕ → ℕ → PortTest) → IsBounds symbol test → IsPlain (Mark symbol)
bounds_plain _ _ BetweenSign = (refl, refl)
bounds_plain _ _ OutsideSign = (refl, refl)

port_plain : (profile : Profile) (ts : List Token) (x : WrittenPort) → IsPort profile ts x → AllByRecursion IsPlain ts
port_plain profile _ _ (PortAlone word free) = ((refl, refl), tt)
port_plain profile _ _ (PortCompared symbol test word is free) = (operator_plain symbol test is, ((refl, refl), tt))
port_plain profile _ _ (PortBounds symbol test first second is free also) = ((refl, refl), (bounds_plain symbol test is, ((refl, refl), tt)))

port_some : (profile : Profile) (ts : List Token) (x : WrittenPort) → IsPort profile ts x → 0 < length ts
port_some profile _ _ (PortAlone word free) = omega arith
port_some profile _ _ (PortCompared symbol test word is free) = omega arith
port_some profile _ _ (PortBounds symbol test first second is free also) = omega arith

pub ports_readable : (profile : Profile) → Readable (port_at profile) (IsPort profile) PortEnds
ports_readable profile = record {
  took = port_took profile;
  reads = port_reads profile;
  heads = port_heads profile;
  open_ends = λ rest. record { not_between = refl; not_outside = refl };
  comma_ends = λ rest. record { not_between = refl; not_outside = refl };
  close_ends = λ rest. record { not_between = refl; not_outside = refl };
  plain = port_plain profile;
  some = port_some profile;
}
