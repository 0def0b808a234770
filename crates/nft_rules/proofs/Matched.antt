-- Some alternative of a rule's conditions holds exactly if all of them do.
use Rattle.std.proofs.Common.{◌≡◌, ℕ, ◌+◌, ◌≤◌, ◌==◌, Bool, true, false, ◌&&◌, ◌||◌, List, [], ◌∷◌, Option, Some, None, option_map, is_some, unwrap_or, refl, sym, subst, ap, ◌∙◌, arith, inl, inr}
use Rattle.std.specs.Prelude.{not, nat_le, filter, if◌then◌else◌}
use Rattle.std.specs.List.{list_any}
use Rattle.std.specs.Str.{bytes_eq}
use Rattle.std.proofs.lemmas.Bool.{cases_eq, cases_lt, eq-eqb, ne_eqb, leb-true, le-leb, lt-leb, lt-ltb, le-ltb, false≢true}
use Rattle.std.proofs.lemmas.Bool.Decides.{nat_tests}
use Rattle.std.proofs.lemmas.List.Folds.{list_any-append}
use Rattle.pf_addr.specs.declared.addr.Addr.{Addr}
use Rattle.pf_addr.specs.declared.addr.Addr.TheVariants.{V4, V6}
use Rattle.pf_addr.specs.declared.addr.Family.{Family}
use Rattle.pf_addr.specs.declared.addr.Family.TheVariants.{Inet, Inet6}
use Rattle.pf_addr.specs.Blocks.{FitsAddr, family_of, in_range}
use Rattle.pf_addr.specs.Order.{bits_of}
use Rattle.pf_rules.specs.declared.flags.TcpFlags.{TcpFlags}
use Rattle.pf_rules.specs.declared.parts.Direction.{Direction}
use Rattle.pf_rules.specs.declared.parts.Interface.{Interface}
use Rattle.pf_rules.specs.declared.parts.Addresses.{Addresses}
use Rattle.pf_rules.specs.declared.parts.Addresses.TheVariants.{Prefix, Range, Table}
use Rattle.pf_rules.specs.declared.parts.Host.{Host}
use Rattle.pf_rules.specs.declared.parts.Host.TheVariants as host
use Rattle.pf_rules.specs.declared.parts.PortTest.{PortTest}
use Rattle.pf_rules.specs.declared.parts.PortTest.TheVariants.{Equal, NotEqual, Less, LessEqual, Greater}
use Rattle.pf_rules.specs.declared.parts.PortTest.TheVariants.{GreaterEqual, FromTo, Between, Outside}
use Rattle.pf_rules.specs.declared.parts.FlagTest.{FlagTest}
use Rattle.pf_rules.specs.declared.parts.FlagTest.TheVariants as flags
use Rattle.pf_rules.specs.declared.rule.Conditions.{Conditions}
use Rattle.pf_rules.specs.Names.{Name}
use Rattle.pf_tables.specs.Tables.{TableValue, in_table}
use Rattle.pf_config.specs.Map.{Configuration, Path, table_at, or_else}
use Rattle.pf_config.proofs.Treed.{bytes_same, same_bytes}
use Rattle.pf_eval.specs.Packets.{PacketValue, interfaces}
use Rattle.pf_eval.specs.PacketTexts.{same_family, has_ports, is_there_if, only_if}
use Rattle.pf_eval.specs.Matching.{direction_eq, if_set, if_there, on_interface, of_family, in_some, in_addresses, at_host, port_passes, flag_passes, just, flags_pass, is_such, is_between, matches}
use Rattle.pf_eval.specs.Verdicts.{tables_in}
use Rattle.nft_rules.specs.Subset.{Side, Source, Destination, Where, From, InSet, NamedSet, family_eq}
use Rattle.nft_rules.specs.Cuts.{is_within, address, top, first_of, last_of}
use Rattle.nft_rules.specs.Evaluation.{holds, turned, in_place, address_at, port_at, masked, flags_masked}
use Rattle.nft_rules.specs.Alternatives.{both}
use Rattle.nft_rules.specs.Rendering.{Machine, always, groups_in, names_of, names_in, known, interfaces_with, direction_alternatives, family_alternatives, protocol_alternatives, type_alternatives, masked_by, flag_alternatives, on_some, is_matched, interface_alternatives}
use Rattle.nft_rules.specs.Rendering.{PortSpan, port_span, on_ports, port_alternatives, place_of, of_place, off_place, host_alternatives, such_alternatives, end_alternatives, alternatives, sets_of}
use Rattle.nft_rules.specs.Deciding.{IsPacketOn}
use Rattle.nft_rules.proofs.Cutting.{elements_hold, agree_in}
use Rattle.nft_rules.proofs.Choices.{any_holds, choice_holds, both_hold, and_false}
use Rattle.nft_rules.proofs.FoundSets.{set_of_table}

-- ---- tests

alone : (b : Bool) → ((b && true) || false) ≡ b
alone true = refl
alone false = refl

-- ---- direction, family, protocol

direction_holds : (sets : List NamedSet) (k : PacketValue) (o : Option Direction) → any_holds sets k (direction_alternatives k.direction o) ≡ if_set (direction_eq k.direction) o
direction_holds sets k None = refl
direction_holds sets k (Some d) = elim (direction_eq k.direction d) as (λ v. any_holds sets k (if v then always ∷ [] else []) ≡ v) [ true ↦ refl | false ↦ refl ]

family_holds_too : (sets : List NamedSet) (k : PacketValue) (o : Option Family) → any_holds sets k (family_alternatives o) ≡ if_set (of_family k.source) o
family_holds_too sets k None = refl
family_holds_too sets k (Some f) = alone (of_family k.source f)

protocol_holds_too : (sets : List NamedSet) (k : PacketValue) (o : Option ℕ) → any_holds sets k (protocol_alternatives o) ≡ if_set (λ n. k.protocol == n) o
protocol_holds_too sets k None = refl
protocol_holds_too sets k (Some n) = alone (k.protocol == n)

-- ---- types of ICMP

typed : (n : ℕ) (is : Bool) (t : Option ℕ) → only_if is t ≡ true → ((is && (if_there (λ m. m == n) t && true)) || false) ≡ if_there (λ m. m == n) t
typed n true t h = alone (if_there (λ m. m == n) t)
typed n false None h = refl
typed n false (Some m) h = absurd cc

type_holds : (sets : List NamedSet) (k : PacketValue) (o : Option ℕ) → only_if (k.protocol == 1) k.icmp_type ≡ true →
    any_holds sets k (type_alternatives o) ≡ if_set (λ n. if_there (λ m. m == n) k.icmp_type) o
unfolding holds
type_holds sets k None h = refl
type_holds sets k (Some n) h = typed n (k.protocol == 1) k.icmp_type h

-- ---- flags

flag_masked : (here looked wanted : Bool) → masked here looked (wanted && looked) ≡ flag_passes looked wanted here
flag_masked true true true = refl
flag_masked true true false = refl
flag_masked true false true = refl
flag_masked true false false = refl
flag_masked false true true = refl
flag_masked false true false = refl
flag_masked false false true = refl
flag_masked false false false = refl

just_masked : (here set of : TcpFlags) → flags_masked here of (masked_by of set) ≡ just set of here
unfolding just
just_masked here set of = rw (
  flag_masked here.fin of.fin set.fin,
  flag_masked here.syn of.syn set.syn,
  flag_masked here.rst of.rst set.rst,
  flag_masked here.psh of.psh set.psh,
  flag_masked here.ack of.ack set.ack,
  flag_masked here.urg of.urg set.urg,
  flag_masked here.ece of.ece set.ece,
  flag_masked here.cwr of.cwr set.cwr,
) refl

of_tcp : (is b : Bool) → ((is && ((is && b) && true)) || ((not is && true) || false)) ≡ (if is then b else true)
of_tcp true true = refl
of_tcp true false = refl
of_tcp false b = refl

flags_hold : (sets : List NamedSet) (k : PacketValue) (t : FlagTest) → any_holds sets k (flag_alternatives t) ≡ flags_pass t k
unfolding holds flags_pass
flags_hold sets k flags.Any = refl
flags_hold sets k (flags.Just set of) = of_tcp (k.protocol == 6) (flags_masked k.flags of (masked_by of set)) ∙ ap (λ v. if k.protocol == 6 then v else true) (just_masked k.flags set of)

-- ---- interfaces

on_one : (sets : List NamedSet) (k : PacketValue) (ns : List Name) → any_holds sets k (on_some ns) ≡ list_any (bytes_eq k.interface) ns
unfolding holds
on_one sets k [] = refl
on_one sets k (n ∷ ns) = alone (list_any (bytes_eq k.interface) (n ∷ ns))

-- an interface is among those that pass exactly if it is among all and passes
filtered : (test : Name → Bool) (n : Name) (ns : List Name) → list_any (bytes_eq n) (filter test ns) ≡ (list_any (bytes_eq n) ns && test n)
filtered test n [] = refl
filtered test n (m ∷ ms) = (elim (bytes_eq n m) as (λ v. bytes_eq n m ≡ v → list_any (bytes_eq n) (if test m then m ∷ filter test ms else filter test ms) ≡ ((v || list_any (bytes_eq n) ms) && test n)) [
  | true ↦ λ e. (let same : n ≡ m = bytes_same n m e in
      subst (λ x. list_any (bytes_eq n) (if test x then m ∷ filter test ms else filter test ms) ≡ test n) same
      (elim (test n) as (λ w. test n ≡ w → list_any (bytes_eq n) (if w then m ∷ filter test ms else filter test ms) ≡ w) [
        | true ↦ λ f. rw e refl
        | false ↦ λ f. filtered test n ms ∙ rw f (and_false (list_any (bytes_eq n) ms))
      ] refl))
  | false ↦ λ e. (elim (test m) as (λ w. list_any (bytes_eq n) (if w then m ∷ filter test ms else filter test ms) ≡ (list_any (bytes_eq n) ms && test n)) [
    | true ↦ rw e (filtered test n ms)
    | false ↦ filtered test n ms
  ])
]) refl

turned_bytes : (m n : Name) → bytes_eq m n ≡ true → bytes_eq n m ≡ true
turned_bytes m n e = subst (λ x. bytes_eq x m ≡ true) (bytes_same m n e) (same_bytes m)

pub is_known : (m : Machine) (name : Name) (groups : List Name) → groups_in m name ≡ Some groups → list_any (bytes_eq name) (known m) ≡ true
is_known [] name groups h = absurd cc
is_known (i ∷ m) name groups h = (elim (bytes_eq i.0 name) as (λ v. bytes_eq i.0 name ≡ v → (if v then Some i.1 else groups_in m name) ≡ Some groups → (bytes_eq name i.0 || list_any (bytes_eq name) (known m)) ≡ true) [
  | true ↦ λ e g. rw (turned_bytes i.0 name e) refl
  | false ↦ λ e g. (let more : list_any (bytes_eq name) (known m) ≡ true = is_known m name groups g in rw more (elim (bytes_eq name i.0) as (λ w. (w || true) ≡ true) [ true ↦ refl | false ↦ refl ]))
]) refl h

-- a packet is on one of the interfaces whose names pass exactly if its names pass
pub on_passing : (sets : List NamedSet) (m : Machine) (k : PacketValue) (test : List Name → Bool) → groups_in m k.interface ≡ Some k.groups →
    any_holds sets k (on_some (interfaces_with test m)) ≡ test (interfaces k)
on_passing sets m k test h =
    on_one sets k (interfaces_with test m) ∙ filtered (λ n. test (names_in m n)) k.interface (known m)
    ∙ rw (is_known m k.interface k.groups h) (ap (λ o. test (names_of k.interface (unwrap_or o []))) h)

interface_holds : (sets : List NamedSet) (m : Machine) (k : PacketValue) (o : Option Interface) → groups_in m k.interface ≡ Some k.groups →
    any_holds sets k (interface_alternatives m o) ≡ if_set (on_interface k) o
unfolding on_interface
interface_holds sets m k None h = refl
interface_holds sets m k (Some i) h = on_passing sets m k (is_matched i) h

-- ---- ports

-- the ports, asked of one
abbrev passes_span : Option PortSpan → ℕ → Bool
passes_span None port = false
passes_span (Some s) port = turned s.negated (nat_le s.low port && nat_le port s.high)

-- the ports, asked of a packet
abbrev in_span : Option PortSpan → Option ℕ → Bool
in_span None p = false
in_span (Some s) p = if_there (λ n. turned s.negated (nat_le s.low n && nat_le n s.high)) p

for_ports : (sets : List NamedSet) (k : PacketValue) (side : Side) (o : Option PortSpan) → any_holds sets k (on_ports side o) ≡ (has_ports k.protocol && in_span o (port_at side k))
unfolding holds
for_ports sets k side None = sym (and_false (has_ports k.protocol))
for_ports sets k side (Some s) = elim (k.protocol == 6) as (λ v. ((v && (in_span (Some s) (port_at side k) && true)) || (((k.protocol == 17) && (in_span (Some s) (port_at side k) && true)) || false)) ≡ ((v || (k.protocol == 17)) && in_span (Some s) (port_at side k))) [
  | true ↦ (elim (in_span (Some s) (port_at side k)) as (λ h. ((h && true) || (((k.protocol == 17) && (h && true)) || false)) ≡ h) [ true ↦ refl | false ↦ ap (λ v. v || false) (and_false (k.protocol == 17)) ])
  | false ↦ (elim (k.protocol == 17) as (λ v. ((v && (in_span (Some s) (port_at side k) && true)) || false) ≡ (v && in_span (Some s) (port_at side k))) [ true ↦ alone (in_span (Some s) (port_at side k)) | false ↦ refl ])
]

port_matched : (t : PortTest) (port : ℕ) → port ≤ 65535 → passes_span (port_span t) port ≡ port_passes t port
unfolding port_passes
port_matched (Equal n) port h = grind (arith, nat_tests)
port_matched (NotEqual n) port h = grind (arith, nat_tests)
port_matched (Less n) port h = elim (cases_eq n 0) [
  | inl e ↦ rw (eq-eqb n 0 e) (grind (arith, nat_tests))
  | inr e ↦ rw (ne_eqb n 0 e) (grind (arith, nat_tests))
]
port_matched (LessEqual n) port h = grind (arith, nat_tests)
port_matched (Greater n) port h = grind (arith, nat_tests)
port_matched (GreaterEqual n) port h = grind (arith, nat_tests)
port_matched (FromTo a b) port h = elim (cases_lt b a) [
  | inl e ↦ rw (lt-leb a b e) (grind (arith, nat_tests))
  | inr e ↦ rw (le-leb a b e) (grind (arith, nat_tests))
]
port_matched (Between a b) port h = elim (cases_lt (a + 1) b) [
  | inl e ↦ rw (lt-ltb (a + 1) b e) (grind (arith, nat_tests))
  | inr e ↦ rw (le-ltb (a + 1) b e) (grind (arith, nat_tests))
]
port_matched (Outside a b) port h = elim (cases_lt b a) [
  | inl e ↦ rw (lt-leb a b e) (grind (arith, nat_tests))
  | inr e ↦ rw (le-leb a b e) (grind (arith, nat_tests))
]

by_port : (has : Bool) (o : Option PortSpan) (p : Option ℕ) (test : ℕ → Bool) → is_there_if has p ≡ true → if_set (λ n. nat_le n 65535) p ≡ true → ((n : ℕ) → n ≤ 65535 → passes_span o n ≡ test n) → (has && in_span o p) ≡ if_there test p
by_port true o None test h few f = absurd (false≢true h)
by_port true None (Some n) test h few f = f n (leb-true n 65535 few)
by_port true (Some s) (Some n) test h few f = f n (leb-true n 65535 few)
by_port false o None test h few f = refl
by_port false o (Some n) test h few f = absurd (false≢true h)

port_holds : (sets : List NamedSet) (k : PacketValue) (side : Side) (o : Option PortTest) → is_there_if (has_ports k.protocol) (port_at side k) ≡ true → if_set (λ n. nat_le n 65535) (port_at side k) ≡ true →
    any_holds sets k (port_alternatives side o) ≡ if_set (λ t. if_there (port_passes t) (port_at side k)) o
port_holds sets k side None h few = refl
port_holds sets k side (Some t) h few =
    for_ports sets k side (port_span t) ∙ by_port (has_ports k.protocol) (port_span t) (port_at side k) (port_passes t) h few (λ n le. port_matched t n le)

-- ---- addresses

or_none : (b : Bool) → (b || false) ≡ b
or_none true = refl
or_none false = refl

abbrev in_some_place : List NamedSet → ℕ → Option Where → Bool
in_some_place sets n None = false
in_some_place sets n (Some place) = in_place sets n place

range_holds : (sets : List NamedSet) (f : Family) (n : ℕ) (first last : Addr) →
    in_some_place sets n (if family_eq (family_of first) f && family_eq (family_of last) f then Some (From (bits_of first) (bits_of last)) else None) ≡ in_range (address f n) first last
range_holds sets Inet n (V4 x) (V4 y) = refl
range_holds sets Inet n (V4 x) (V6 y) = sym (and_false (nat_le x n))
range_holds sets Inet n (V6 x) (V4 y) = refl
range_holds sets Inet n (V6 x) (V6 y) = refl
range_holds sets Inet6 n (V6 x) (V6 y) = refl
range_holds sets Inet6 n (V6 x) (V4 y) = sym (and_false (nat_le x n))
range_holds sets Inet6 n (V4 x) (V6 y) = refl
range_holds sets Inet6 n (V4 x) (V4 y) = refl

in_set : (c : Configuration) (p : Path) (name : Name) (f : Family) (n : ℕ) (t : TableValue) → n ≤ top f → Some t ≡ table_at c p name →
    in_place (sets_of c) n (InSet (record { owner = p; table = name; family = f })) ≡ in_table (address f n) t.entries
in_set c p name f n t few h = ap (list_any (is_within n)) (set_of_table c p name f t h) ∙ elements_hold f n t.entries few

by_owner : (c : Configuration) (p : Path) (name : Name) (f : Family) (n : ℕ) (own main : Option TableValue) → n ≤ top f → own ≡ table_at c p name → main ≡ table_at c [] name →
    in_some_place (sets_of c) n (option_map (λ owner. InSet (record { owner = owner; table = name; family = f })) (if is_some own then Some p else (if is_some main then Some [] else None))) ≡ in_some (address f n) (or_else own main)
by_owner c p name f n (Some t) main few h g = in_set c p name f n t few h
by_owner c p name f n None (Some t) few h g = in_set c [] name f n t few g
by_owner c p name f n None None few h g = refl

place_holds : (c : Configuration) (p : Path) (f : Family) (n : ℕ) (set : Addresses) → n ≤ top f → in_some_place (sets_of c) n (place_of c p f set) ≡ in_addresses (tables_in c p) (address f n) set
unfolding in_addresses
place_holds c p f n (Prefix block) few =
    (elim (family_eq (family_of block.base) f) as (λ v. in_some_place (sets_of c) n (if v then Some (From (first_of block) (last_of block)) else None) ≡ (v && (nat_le (first_of block) n && nat_le n (last_of block)))) [ true ↦ refl | false ↦ refl ])
    ∙ sym (agree_in f block.len n block.base)
place_holds c p f n (Range range) few = range_holds (sets_of c) f n range.first range.last
place_holds c p f n (Table name) few = by_owner c p name f n (table_at c p name) (table_at c [] name) few refl refl

-- some alternative of a family, where the packet's addresses are of one
of_hold : (sets : List NamedSet) (k : PacketValue) (side : Side) (f : Family) (o : Option Where) → of_family k.source f ≡ of_family (address_at side k) f →
    any_holds sets k (of_place side f o) ≡ (of_family (address_at side k) f && in_some_place sets (bits_of (address_at side k)) o)
unfolding holds
of_hold sets k side f None e = sym (and_false (of_family (address_at side k) f))
of_hold sets k side f (Some place) e = rw e (elim (of_family (address_at side k) f) as (λ v. ((v && ((v && in_place sets (bits_of (address_at side k)) place) && true)) || false) ≡ (v && in_place sets (bits_of (address_at side k)) place)) [ true ↦ alone (in_place sets (bits_of (address_at side k)) place) | false ↦ refl ])

off_hold : (sets : List NamedSet) (k : PacketValue) (side : Side) (f : Family) (o : Option Where) → of_family k.source f ≡ of_family (address_at side k) f →
    any_holds sets k (off_place side f o) ≡ (of_family (address_at side k) f && not (in_some_place sets (bits_of (address_at side k)) o))
unfolding holds
off_hold sets k side f None e = rw e (or_none (of_family (address_at side k) f && true))
off_hold sets k side f (Some place) e = rw e (elim (of_family (address_at side k) f) as (λ v. ((v && ((v && not (in_place sets (bits_of (address_at side k)) place)) && true)) || false) ≡ (v && not (in_place sets (bits_of (address_at side k)) place))) [ true ↦ alone (not (in_place sets (bits_of (address_at side k)) place)) | false ↦ refl ])

in_either : (c : Configuration) (p : Path) (a : Addr) (set : Addresses) → FitsAddr a →
    ((of_family a Inet && in_some_place (sets_of c) (bits_of a) (place_of c p Inet set)) || (of_family a Inet6 && in_some_place (sets_of c) (bits_of a) (place_of c p Inet6 set))) ≡ in_addresses (tables_in c p) a set
in_either c p (V4 n) set fits = or_none (in_some_place (sets_of c) n (place_of c p Inet set)) ∙ place_holds c p Inet n set (omega (arith, fits))
in_either c p (V6 n) set fits = place_holds c p Inet6 n set (omega (arith, fits))

off_both : (c : Configuration) (p : Path) (a : Addr) (set : Addresses) → FitsAddr a →
    ((of_family a Inet && not (in_some_place (sets_of c) (bits_of a) (place_of c p Inet set))) || (of_family a Inet6 && not (in_some_place (sets_of c) (bits_of a) (place_of c p Inet6 set)))) ≡ not (in_addresses (tables_in c p) a set)
off_both c p (V4 n) set fits = or_none (not (in_some_place (sets_of c) n (place_of c p Inet set))) ∙ ap not (place_holds c p Inet n set (omega (arith, fits)))
off_both c p (V6 n) set fits = ap not (place_holds c p Inet6 n set (omega (arith, fits)))

host_holds : (c : Configuration) (p : Path) (k : PacketValue) (side : Side) (h : Host) → ((f : Family) → of_family k.source f ≡ of_family (address_at side k) f) → FitsAddr (address_at side k) →
    any_holds (sets_of c) k (host_alternatives c p side h) ≡ at_host (tables_in c p) (address_at side k) h
host_holds c p k side host.Any same fits = refl
host_holds c p k side (host.In set) same fits =
    list_any-append (choice_holds (sets_of c) k) (of_place side Inet (place_of c p Inet set)) (of_place side Inet6 (place_of c p Inet6 set))
    ∙ rw (of_hold (sets_of c) k side Inet (place_of c p Inet set) (same Inet), of_hold (sets_of c) k side Inet6 (place_of c p Inet6 set) (same Inet6)) (in_either c p (address_at side k) set fits)
host_holds c p k side (host.NotIn set) same fits =
    list_any-append (choice_holds (sets_of c) k) (off_place side Inet (place_of c p Inet set)) (off_place side Inet6 (place_of c p Inet6 set))
    ∙ rw (off_hold (sets_of c) k side Inet (place_of c p Inet set) (same Inet), off_hold (sets_of c) k side Inet6 (place_of c p Inet6 set) (same Inet6)) (off_both c p (address_at side k) set fits)

-- ---- all of them

same_families : (a b : Addr) (f : Family) → same_family a b ≡ true → of_family a f ≡ of_family b f
same_families (V4 x) (V4 y) Inet h = refl
same_families (V4 x) (V4 y) Inet6 h = refl
same_families (V6 x) (V6 y) Inet h = refl
same_families (V6 x) (V6 y) Inet6 h = refl
same_families (V4 x) (V6 y) f h = absurd (false≢true h)
same_families (V6 x) (V4 y) f h = absurd (false≢true h)

such_hold : (c : Configuration) (m : Machine) (k : PacketValue) (r : Conditions) → IsPacketOn m k → any_holds (sets_of c) k (such_alternatives m k.direction r) ≡ is_such r k
unfolding such_alternatives is_such
such_hold c m k r on =
    let s = sets_of c in
    let d = direction_alternatives k.direction r.direction in
    let f = family_alternatives r.family in
    let p = protocol_alternatives r.protocol in
    let t = type_alternatives r.icmp_type in
    let l = flag_alternatives r.flags in
    let i = interface_alternatives m r.interface in
    both_hold s k (both (both (both (both d f) p) t) l) i
    ∙ ap (λ v. v && any_holds s k i) (both_hold s k (both (both (both d f) p) t) l ∙ ap (λ v. v && any_holds s k l) (both_hold s k (both (both d f) p) t
    ∙ ap (λ v. v && any_holds s k t) (both_hold s k (both d f) p ∙ ap (λ v. v && any_holds s k p) (both_hold s k d f))))
    ∙ rw (direction_holds s k r.direction, family_holds_too s k r.family, protocol_holds_too s k r.protocol, type_holds s k r.icmp_type on.icmp_type, flags_hold s k r.flags, interface_holds s m k r.interface on.interface) refl

ends_hold : (c : Configuration) (m : Machine) (p : Path) (k : PacketValue) (r : Conditions) → IsPacketOn m k → any_holds (sets_of c) k (end_alternatives c p r) ≡ is_between (tables_in c p) r k
unfolding end_alternatives is_between
ends_hold c m p k r on =
    let s = sets_of c in
    let x = port_alternatives Source r.source_port in
    let y = port_alternatives Destination r.destination_port in
    let h = host_alternatives c p Source r.source in
    let g = host_alternatives c p Destination r.destination in
    both_hold s k (both (both x y) h) g ∙ ap (λ v. v && any_holds s k g) (both_hold s k (both x y) h ∙ ap (λ v. v && any_holds s k h) (both_hold s k x y))
    ∙ rw (
      port_holds s k Source r.source_port on.source_port on.source_number,
      port_holds s k Destination r.destination_port on.destination_port on.destination_number,
      host_holds c p k Source r.source (λ f. refl) on.source,
      host_holds c p k Destination r.destination (λ f. same_families k.source k.destination f on.family) on.destination,
    ) refl

-- some alternative of a rule holds exactly if the rule matches
pub rule_holds : (c : Configuration) (m : Machine) (p : Path) (k : PacketValue) (r : Conditions) → IsPacketOn m k → any_holds (sets_of c) k (alternatives c m k.direction p r) ≡ matches (tables_in c p) r k
unfolding alternatives matches
rule_holds c m p k r on =
    both_hold (sets_of c) k (such_alternatives m k.direction r) (end_alternatives c p r)
    ∙ ap (λ v. v && any_holds (sets_of c) k (end_alternatives c p r)) (such_hold c m k r on)
    ∙ ap (λ v. is_such r k && v) (ends_hold c m p k r on)
