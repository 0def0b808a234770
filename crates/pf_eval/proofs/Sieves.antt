-- A rule matches no packet that its sieve doesn't let pass.
use Rattle.std.proofs.Common.{◌≡◌, ℕ, ◌+◌, ◌-◌, ◌*◌, ◌/◌, ◌%◌, ◌^◌, ◌<◌, ◌≤◌, min, Bool, true, false, ◌&&◌, Option, Some, None, inl, inr, refl, sym, subst, ap, ◌∙◌, arith}
use Rattle.std.specs.Prelude.{nat_le, nat_lt, ◌==◌}
use Rattle.std.proofs.lemmas.Bool.{cases_lt, le-leb, leb-true, ltb-true, eqb-true, and_parts}
use Rattle.std.proofs.lemmas.Nat.{div-add-mod', pow_pos, pow-add}
use Rattle.std.proofs.Math.Nat.{mod-lt, div-one, div-div-eq-div-mul}
use Rattle.pf_addr.specs.Blocks.{agree, in_range}
use Rattle.pf_addr.specs.declared.addr.Addr.{Addr}
use Rattle.pf_addr.specs.declared.addr.Addr.TheVariants.{V4, V6}
use Rattle.pf_rules.specs.declared.parts.Addresses.TheVariants.{Prefix, Range, Table}
use Rattle.pf_rules.specs.declared.parts.Host.{Host}
use Rattle.pf_rules.specs.declared.parts.Host.TheVariants.{Any, In, NotIn}
use Rattle.pf_rules.specs.declared.parts.PortTest.{PortTest}
use Rattle.pf_rules.specs.declared.parts.PortTest.TheVariants.{Equal, NotEqual, Less, LessEqual, Greater}
use Rattle.pf_rules.specs.declared.parts.PortTest.TheVariants.{GreaterEqual, FromTo, Between, Outside}
use Rattle.pf_rules.specs.declared.rule.Conditions.{Conditions}
use Rattle.pf_config.specs.Orders.{everything, around, between, front_bits, set_interval, host_interval, test_interval, port_interval, sieve_of}
use Rattle.pf_eval.specs.Packets.{PacketValue}
use Rattle.pf_eval.specs.Matching.{Tables, at_host, in_addresses, port_passes, if_set, if_there, direction_eq, of_family, is_such, is_between, matches}
use Rattle.pf_tables.specs.Intervals.{is_within}
use Rattle.pf_eval.specs.inner.Sieves.{port_or_0, key_of, passes}

-- ---- numbers within intervals

-- a number that is so near to the first one as the width says is within
near : (n f w : ℕ) → f ≤ n → f ≤ 4294967295 → n - f ≤ w → is_within (record { first = f; width = w }) n ≡ true
near n f w a b c = le-leb ((n + (4294967296 - f)) % 4294967296) w (omega (arith, a, b, c))

near_capped : (n f w : ℕ) → f ≤ n → n - f ≤ w → is_within (record { first = min f 4294967295; width = w }) (min n 4294967295) ≡ true
near_capped n f w a c = near (min n 4294967295) (min f 4294967295) w (omega (arith, a)) (omega arith) (omega (arith, a, c))

all_within : (n : ℕ) → is_within everything n ≡ true
all_within n = le-leb ((n + (4294967296 - 0)) % 4294967296) 4294967295 (omega arith)

in_between : (a b n : ℕ) → a ≤ n → n ≤ b → is_within (between a b) (min n 4294967295) ≡ true
unfolding between
in_between a b n h k = near_capped n a (b - a) h (omega (arith, h, k))

parted : (x c r m : ℕ) → c + r ≡ x → r < m → (c ≤ x) × (x - c ≤ m - 1)
parted x c r m h k = (omega (arith, h), omega (arith, h, k))

-- numbers that agree but in the last bits
in_around : (x y s : ℕ) → x / 2 ^ s ≡ y / 2 ^ s → is_within (around y s) (min x 4294967295) ≡ true
unfolding around
in_around x y s e =
    let parts = parted x (y / 2 ^ s * 2 ^ s) (x % 2 ^ s) (2 ^ s) (ap (λ q. q * 2 ^ s + x % 2 ^ s) (sym e) ∙ div-add-mod' x (2 ^ s)) (mod-lt x (pow_pos s)) in
    near_capped x (y / 2 ^ s * 2 ^ s) (2 ^ s - 1) parts.0 parts.1

-- ---- the first bits of addresses

coarser : (a b m n : ℕ) → a / m ≡ b / m → a / (m * n) ≡ b / (m * n)
coarser a b m n e = sym (div-div-eq-div-mul a m n) ∙ ap (λ q. q / n) e ∙ div-div-eq-div-mul b m n

same_fronts : (a b len : ℕ) → len ≤ 128 → a / 2 ^ (128 - len) ≡ b / 2 ^ (128 - len) → a / 2 ^ 96 / 2 ^ (32 - len) ≡ b / 2 ^ 96 / 2 ^ (32 - len)
same_fronts a b len few e =
    let whole : 96 + (32 - len) ≡ 128 - len + (len - 32) = omega (arith, few) in
    let size : 2 ^ (128 - len) * 2 ^ (len - 32) ≡ 2 ^ 96 * 2 ^ (32 - len) = sym (pow-add 2 (128 - len) (len - 32)) ∙ ap (λ n. 2 ^ n) (sym whole) ∙ pow-add 2 96 (32 - len) in
    div-div-eq-div-mul a (2 ^ 96) (2 ^ (32 - len)) ∙ subst (λ n. a / n ≡ b / n) size (coarser a b (2 ^ (128 - len)) (2 ^ (len - 32)) e) ∙ sym (div-div-eq-div-mul b (2 ^ 96) (2 ^ (32 - len)))

fronts_agree : (a b len : ℕ) → a / 2 ^ (128 - len) ≡ b / 2 ^ (128 - len) → a / 2 ^ 96 / 2 ^ (32 - len) ≡ b / 2 ^ 96 / 2 ^ (32 - len)
fronts_agree a b len e = elim (cases_lt 128 len) [
  | inl lt ↦
      let none : 128 - len ≡ 0 = omega (arith, lt) in
      let same : a / 2 ^ 0 ≡ b / 2 ^ 0 = subst (λ n. a / 2 ^ n ≡ b / 2 ^ n) none e in
      ap (λ n. n / 2 ^ 96 / 2 ^ (32 - len)) (sym (div-one a) ∙ same ∙ div-one b)
  | inr le ↦ same_fronts a b len le e
]

prefix_within : (a base : Addr) (len : ℕ) → agree len a base ≡ true → is_within (around (front_bits base) (32 - len)) (min (front_bits a) 4294967295) ≡ true
unfolding agree
prefix_within (V4 a) (V4 b) len h = in_around a b (32 - len) (eqb-true _ _ h)
prefix_within (V6 a) (V6 b) len h = in_around (a / 2 ^ 96) (b / 2 ^ 96) (32 - len) (fronts_agree a b len (eqb-true _ _ h))
prefix_within (V4 a) (V6 b) len h = cc
prefix_within (V6 a) (V4 b) len h = cc

range_within : (a first last : Addr) → in_range a first last ≡ true → is_within (between (front_bits first) (front_bits last)) (min (front_bits a) 4294967295) ≡ true
range_within (V4 a) (V4 f) (V4 l) h = let p = and_parts (nat_le f a) (nat_le a l) h in in_between f l a (leb-true f a p.0) (leb-true a l p.1)
range_within (V6 a) (V6 f) (V6 l) h =
    let p = and_parts (nat_le f a) (nat_le a l) h in
    let low = leb-true f a p.0 in
    let high = leb-true a l p.1 in
    in_between (f / 2 ^ 96) (l / 2 ^ 96) (a / 2 ^ 96) (omega (arith, low)) (omega (arith, high))
range_within (V4 a) (V4 f) (V6 l) h = let p = and_parts (nat_le f a) false h in let bad = p.1 in cc
range_within (V6 a) (V6 f) (V4 l) h = let p = and_parts (nat_le f a) false h in let bad = p.1 in cc
range_within (V4 a) (V6 f) (V4 l) h = cc
range_within (V4 a) (V6 f) (V6 l) h = cc
range_within (V6 a) (V4 f) (V4 l) h = cc
range_within (V6 a) (V4 f) (V6 l) h = cc

-- ---- conditions

host_within : (t : Tables) (a : Addr) (h : Host) → at_host t a h ≡ true → is_within (host_interval h) (min (front_bits a) 4294967295) ≡ true
unfolding host_interval set_interval in_addresses
host_within t a Any e = all_within (min (front_bits a) 4294967295)
host_within t a (In (Prefix b)) e = prefix_within a b.base b.len e
host_within t a (In (Range s)) e = range_within a s.first s.last e
host_within t a (In (Table n)) e = all_within (min (front_bits a) 4294967295)
host_within t a (NotIn set) e = all_within (min (front_bits a) 4294967295)

test_within : (t : PortTest) (p : ℕ) → port_passes t p ≡ true → is_within (test_interval t) (min p 4294967295) ≡ true
unfolding port_passes test_interval
test_within (Equal n) p h = let e = eqb-true p n h in in_between n n p (omega (arith, e)) (omega (arith, e))
test_within (NotEqual n) p h = all_within (min p 4294967295)
test_within (Less n) p h = let e = ltb-true p n h in in_between 0 n p (omega arith) (omega (arith, e))
test_within (LessEqual n) p h = in_between 0 n p (omega arith) (leb-true p n h)
test_within (Greater n) p h = all_within (min p 4294967295)
test_within (GreaterEqual n) p h = all_within (min p 4294967295)
test_within (FromTo a b) p h = let e = and_parts (nat_le a p) (nat_le p b) h in in_between a b p (leb-true a p e.0) (leb-true p b e.1)
test_within (Between a b) p h =
    let e = and_parts (nat_lt a p) (nat_lt p b) h in
    let low = ltb-true a p e.0 in
    let high = ltb-true p b e.1 in
    in_between a b p (omega (arith, low)) (omega (arith, high))
test_within (Outside a b) p h = all_within (min p 4294967295)

port_within : (t : Option PortTest) (p : Option ℕ) → if_set (λ t. if_there (port_passes t) p) t ≡ true → is_within (port_interval t) (min (port_or_0 p) 4294967295) ≡ true
port_within None p h = all_within (min (port_or_0 p) 4294967295)
port_within (Some t) None h = cc
port_within (Some t) (Some p) h = test_within t p h

six : (a b c d e f : Bool) → a ≡ true → b ≡ true → c ≡ true → d ≡ true → e ≡ true → f ≡ true → (a && b && c && d && e && f) ≡ true
six a b c d e f ha hb hc hd he hf = rw (ha, hb, hc, hd, he, hf) refl

-- the direction, the family and the protocol
such_parts : (r : Conditions) (k : PacketValue) → is_such r k ≡ true →
    (if_set (direction_eq k.direction) r.direction ≡ true) × (if_set (of_family k.source) r.family ≡ true) × (if_set (λ n. k.protocol == n) r.protocol ≡ true)
unfolding is_such
such_parts r k h =
    let five = and_parts _ _ h in
    let four = and_parts _ _ five.0 in
    let three = and_parts _ _ four.0 in
    let two = and_parts _ _ three.0 in
    let one = and_parts _ _ two.0 in
    (one.0, one.1, two.1)

-- the ends
between_parts : (t : Tables) (r : Conditions) (k : PacketValue) → is_between t r k ≡ true →
    (if_set (λ t. if_there (port_passes t) k.destination_port) r.destination_port ≡ true) × (at_host t k.source r.source ≡ true) × (at_host t k.destination r.destination ≡ true)
unfolding is_between
between_parts t r k h =
    let three = and_parts _ _ h in
    let two = and_parts _ _ three.0 in
    let one = and_parts _ _ two.0 in
    (one.1, two.1, three.1)

matched_passes : (t : Tables) (r : Conditions) (k : PacketValue) → matches t r k ≡ true → passes (sieve_of r) (key_of k) ≡ true
unfolding matches passes sieve_of key_of
matched_passes t r k h =
    let both = and_parts (is_such r k) (is_between t r k) h in
    let such = such_parts r k both.0 in
    let ends = between_parts t r k both.1 in
    six _ _ _ _ _ _ (host_within t k.destination r.destination ends.2) (host_within t k.source r.source ends.1) (port_within r.destination_port k.destination_port ends.0) such.2 such.0 such.1

-- what the sieve doesn't let pass the rule doesn't match
pub not_matched : (t : Tables) (r : Conditions) (k : PacketValue) → passes (sieve_of r) (key_of k) ≡ false → matches t r k ≡ false
not_matched t r k h = (elim (matches t r k) as (λ b. matches t r k ≡ b → b ≡ false) [
  | true ↦ λ e. (let bad : true ≡ false = sym (matched_passes t r k e) ∙ h in bad)
  | false ↦ λ e. refl
]) refl
