-- What is read as an entry is spelled so, and what is spelled so is read.
use Rattle.std.proofs.Common.{◌≡◌, ℕ, zero, suc, ◌+◌, ◌*◌, ◌^◌, ◌/◌, ◌%◌, ◌<◌, Bool, true, false, cond, ltb, leb, eqb, List, [], ◌∷◌, ◌++◌, length, Some, None, refl, sym, ap, subst, ◌∙◌, append_assoc, arith, inl, inr}
use Rattle.std.specs.Prelude.{◌&&◌, ◌||◌}
use Rattle.std.specs.List.{flat_map, list_all}
use Rattle.std.specs.Int.{w16, w32, w64, to_be_bytes}
use Rattle.std.proofs.lemmas.Bool.{ltb-true, le-ltb, lt-ltb, leb-true, eqb-true}
use Rattle.std.proofs.lemmas.Bool.Decides.{nat_tests}
use Rattle.pf_addr.specs.declared.addr.Addr.{Addr}
use Rattle.pf_addr.specs.declared.addr.Addr.TheVariants.{V4, V6}
use Rattle.pf_addr.specs.Blocks.{Block, block_at, is_block}
use Rattle.pf_entry.specs.Entry.{Address, sign, family, halves, bits, address, addresses, in_family, is_address, are_addresses}
use Rattle.pf_entry.specs.Reading.{◌>>=◌, byte_at, number_at, sign_at, base_at, address_at, addresses_at, list_at}
use Rattle.pf_entry.proofs.Takes.{IsBytes, IsBytes-rest, bind_ok, guard_ok, chosen, some_is, both_true, and_true, Takes, Takes-then, byte_takes, wide16, wide32, wide64, number_takes, number_again, IsField, many_takes, many_again}

-- ---- addresses

sign_takes : (bytes : List ℕ) (x : Bool × List ℕ) → IsBytes bytes → sign_at bytes ≡ Some x → Takes bytes (sign x.0 ∷ []) x.1
unfolding sign_at
sign_takes [] x fits e = absurd cc
sign_takes (zero ∷ more) x fits e =
    subst (λ (q : Bool × List ℕ). Takes (0 ∷ more) (sign q.0 ∷ []) q.1) (some_is (false, more) x e) (record { parts = refl; rest_fits = IsBytes-rest 0 more fits })
sign_takes (suc zero ∷ more) x fits e =
    subst (λ (q : Bool × List ℕ). Takes (1 ∷ more) (sign q.0 ∷ []) q.1) (some_is (true, more) x e) (record { parts = refl; rest_fits = IsBytes-rest 1 more fits })
sign_takes (suc (suc b) ∷ more) x fits e = absurd cc

sign_again : (s : Bool) (more : List ℕ) → sign_at (sign s ∷ more) ≡ Some (s, more)
unfolding sign_at
sign_again true more = refl
sign_again false more = refl

quotient : (high low : ℕ) → low < 2 ^ 64 → (high * 2 ^ 64 + low) / 2 ^ 64 ≡ high
quotient high low lt = omega arith

remainder : (high low : ℕ) → low < 2 ^ 64 → (high * 2 ^ 64 + low) % 2 ^ 64 ≡ low
remainder high low lt = omega arith

joined_again : (n : ℕ) → (n / 2 ^ 64) * 2 ^ 64 + n % 2 ^ 64 ≡ n
joined_again n = omega arith

high_small : (n : ℕ) → n < 2 ^ 128 → n / 2 ^ 64 < 2 ^ 64
high_small n lt = omega arith

low_small : (n : ℕ) → n % 2 ^ 64 < 2 ^ 64
low_small n = omega arith

wide_small : (high low : ℕ) → high < 2 ^ 64 → low < 2 ^ 64 → high * 2 ^ 64 + low < 2 ^ 128
wide_small high low p q = omega arith

halves_takes : (bytes : List ℕ) (a b : ℕ × List ℕ) → IsBytes bytes → number_at w64 bytes ≡ Some a → number_at w64 a.1 ≡ Some b → Takes bytes (halves (a.0 * 2 ^ 64 + b.0)) b.1 × (a.0 * 2 ^ 64 + b.0 < 2 ^ 128)
unfolding halves
halves_takes bytes a b fits e f =
    let t0 = number_takes w64 (2 ^ 64) wide64 bytes a fits e in
    let t1 = number_takes w64 (2 ^ 64) wide64 a.1 b t0.0.rest_fits f in
    let both = Takes-then bytes (to_be_bytes w64 a.0) a.1 (to_be_bytes w64 b.0) b.1 t0.0 t1.0 in
    let P : ℕ → ℕ → Type 0 = λ h l. Takes bytes (to_be_bytes w64 h ++ to_be_bytes w64 l) b.1 in
    (subst (λ (h : ℕ). P h ((a.0 * 2 ^ 64 + b.0) % 2 ^ 64)) (sym (quotient a.0 b.0 t1.1)) (subst (λ (l : ℕ). P a.0 l) (sym (remainder a.0 b.0 t1.1)) both), wide_small a.0 b.0 t0.1 t1.1)

base_takes : (f : ℕ) (bytes : List ℕ) (x : Addr × List ℕ) → IsBytes bytes → base_at f bytes ≡ Some x → Takes bytes (bits x.0) x.1 × (family x.0 ≡ f) × (in_family x.0 ≡ true)
unfolding base_at
base_takes f bytes x fits e =
    elim (chosen (eqb f 4) (number_at w32 bytes >>= λ n. Some (V4 n.0, n.1)) (cond (eqb f 6) (number_at w64 bytes >>= λ high. number_at w64 high.1 >>= λ low. Some (V6 (high.0 * 2 ^ 64 + low.0), low.1)) None) (Some x) e) [
      | inl four ↦
          let a = bind_ok (number_at w32 bytes) (λ n. Some (V4 n.0, n.1)) x four.1 in
          let t = number_takes w32 (2 ^ 32) wide32 bytes a.0 fits a.1 in
          let made : Addr × List ℕ = (V4 a.0.0, a.0.1) in
          subst (λ (y : Addr × List ℕ). Takes bytes (bits y.0) y.1 × (family y.0 ≡ f) × (in_family y.0 ≡ true)) (some_is made x a.2) (t.0, sym (eqb-true f 4 four.0), lt-ltb _ _ t.1)
      | inr other ↦
          elim (chosen (eqb f 6) (number_at w64 bytes >>= λ high. number_at w64 high.1 >>= λ low. Some (V6 (high.0 * 2 ^ 64 + low.0), low.1)) None (Some x) other.1) [
            | inl six ↦
                let a = bind_ok (number_at w64 bytes) (λ high. number_at w64 high.1 >>= λ low. Some (V6 (high.0 * 2 ^ 64 + low.0), low.1)) x six.1 in
                let b = bind_ok (number_at w64 a.0.1) (λ low. Some (V6 (a.0.0 * 2 ^ 64 + low.0), low.1)) x a.2 in
                let t = halves_takes bytes a.0 b.0 fits a.1 b.1 in
                let made : Addr × List ℕ = (V6 (a.0.0 * 2 ^ 64 + b.0.0), b.0.1) in
                subst (λ (y : Addr × List ℕ). Takes bytes (bits y.0) y.1 × (family y.0 ≡ f) × (in_family y.0 ≡ true)) (some_is made x b.2) (t.0, sym (eqb-true f 6 six.0), lt-ltb _ _ t.1)
            | inr none ↦ absurd (cc (none.1))
          ]
    ]

base_again : (a : Addr) (more : List ℕ) → in_family a ≡ true → base_at (family a) (bits a ++ more) ≡ Some (a, more)
unfolding base_at halves
base_again (V4 n) more h = rw (number_again w32 (2 ^ 32) wide32 n more (ltb-true _ _ h)) refl
base_again (V6 n) more h =
    let lt : n < 2 ^ 128 = ltb-true _ _ h in
    let regrouped : halves n ++ more ≡ to_be_bytes w64 (n / 2 ^ 64) ++ (to_be_bytes w64 (n % 2 ^ 64) ++ more) = append_assoc (to_be_bytes w64 (n / 2 ^ 64)) (to_be_bytes w64 (n % 2 ^ 64)) more in
    ap (base_at 6) regrouped ∙ rw (number_again w64 (2 ^ 64) wide64 (n / 2 ^ 64) (to_be_bytes w64 (n % 2 ^ 64) ++ more) (high_small n lt), number_again w64 (2 ^ 64) wide64 (n % 2 ^ 64) more (low_small n), joined_again n) refl

block_ok : (base : Addr) (len : ℕ) (b : Block) → block_at base len ≡ Some b → (b ≡ record { base = base; len = len }) × (is_block base len ≡ true)
block_ok base len b e =
    elim (chosen (is_block base len) (Some (record { base = base; len = len })) None (Some b) e) [
      | inl made ↦ (sym (some_is (record { base = base; len = len }) b made.1), made.0)
      | inr bad ↦ absurd (cc (bad.1))
    ]

address_takes : (bytes : List ℕ) (x : Address × List ℕ) → IsBytes bytes → address_at bytes ≡ Some x → Takes bytes (address x.0) x.1 × (is_address x.0 ≡ true)
unfolding address_at
address_takes bytes x fits e =
    let a = bind_ok (sign_at bytes) (λ s. byte_at s.1 >>= λ f. byte_at f.1 >>= λ len. base_at f.0 len.1 >>= λ base. block_at base.0 len.0 >>= λ block. Some (record { negated = s.0; prefix = block }, base.1)) x e in
    let b = bind_ok (byte_at a.0.1) (λ f. byte_at f.1 >>= λ len. base_at f.0 len.1 >>= λ base. block_at base.0 len.0 >>= λ block. Some (record { negated = a.0.0; prefix = block }, base.1)) x a.2 in
    let c = bind_ok (byte_at b.0.1) (λ len. base_at b.0.0 len.1 >>= λ base. block_at base.0 len.0 >>= λ block. Some (record { negated = a.0.0; prefix = block }, base.1)) x b.2 in
    let d = bind_ok (base_at b.0.0 c.0.1) (λ base. block_at base.0 c.0.0 >>= λ block. Some (record { negated = a.0.0; prefix = block }, base.1)) x c.2 in
    let g = bind_ok (block_at d.0.0 c.0.0) (λ block. Some (record { negated = a.0.0; prefix = block }, d.0.1)) x d.2 in
    let k = block_ok d.0.0 c.0.0 g.0 g.1 in
    let t0 = sign_takes bytes a.0 fits a.1 in
    let t1 = byte_takes a.0.1 b.0 t0.rest_fits b.1 in
    let t2 = byte_takes b.0.1 c.0 t1.0.rest_fits c.1 in
    let t3 = base_takes b.0.0 c.0.1 d.0 t2.0.rest_fits d.1 in
    let made : Block = record { base = d.0.0; len = c.0.0 } in
    let t1' : Takes a.0.1 (family d.0.0 ∷ []) b.0.1 = subst (λ (f : ℕ). Takes a.0.1 (f ∷ []) b.0.1) (sym t3.1) t1.0 in
    let e23 = Takes-then b.0.1 (c.0.0 ∷ []) c.0.1 (bits d.0.0) d.0.1 t2.0 t3.0 in
    let e13 = Takes-then a.0.1 (family d.0.0 ∷ []) b.0.1 (c.0.0 ∷ bits d.0.0) d.0.1 t1' e23 in
    let e03 = Takes-then bytes (sign a.0.0 ∷ []) a.0.1 (family d.0.0 ∷ c.0.0 ∷ bits d.0.0) d.0.1 t0 e13 in
    let whole : Takes bytes (address (record { negated = a.0.0; prefix = made })) d.0.1 × (is_address (record { negated = a.0.0; prefix = made }) ≡ true) = (e03, and_true (in_family d.0.0) (is_block d.0.0 c.0.0) t3.2 k.1) in
    let there : Takes bytes (address (record { negated = a.0.0; prefix = g.0 })) d.0.1 × (is_address (record { negated = a.0.0; prefix = g.0 }) ≡ true) = subst (λ (p : Block). Takes bytes (address (record { negated = a.0.0; prefix = p })) d.0.1 × (is_address (record { negated = a.0.0; prefix = p }) ≡ true)) (sym k.0) whole in
    let last : Address × List ℕ = (record { negated = a.0.0; prefix = g.0 }, d.0.1) in
    subst (λ (y : Address × List ℕ). Takes bytes (address y.0) y.1 × (is_address y.0 ≡ true)) (some_is last x g.2) there

address_again : (a : Address) (more : List ℕ) → is_address a ≡ true → address_at (address a ++ more) ≡ Some (a, more)
unfolding address_at
address_again a more h =
    let p = both_true (in_family a.prefix.base) (is_block a.prefix.base a.prefix.len) h in
    rw (sign_again a.negated (family a.prefix.base ∷ a.prefix.len ∷ (bits a.prefix.base ++ more)), base_again a.prefix.base more p.0, p.1) refl

address_field : IsField address_at address is_address
address_field = record { takes = address_takes; again = address_again }

pub list_takes : (least : ℕ) (bytes : List ℕ) (x : List Address × List ℕ) → IsBytes bytes → list_at least bytes ≡ Some x → Takes bytes (addresses x.0) x.1 × (are_addresses least x.0 ≡ true)
unfolding list_at
list_takes least bytes x fits e =
    let a = bind_ok (number_at w16 bytes) (λ n. cond (ltb n.0 least || ltb 4096 n.0) None (addresses_at n.0 n.1)) x e in
    let g = guard_ok (ltb a.0.0 least || ltb 4096 a.0.0) (addresses_at a.0.0 a.0.1) x a.2 in
    let t0 = number_takes w16 (2 ^ 16) wide16 bytes a.0 fits a.1 in
    let t1 = many_takes address_at address is_address address_field a.0.0 a.0.1 x t0.0.rest_fits g.1 in
    let few : (leb least a.0.0 && leb a.0.0 4096) ≡ true = counts least a.0.0 g.0 in
    let all : are_addresses least x.0 ≡ true = rw t1.1 (and_true (leb least a.0.0 && leb a.0.0 4096) (list_all is_address x.0) few t1.2) in
    let both : Takes bytes (to_be_bytes w16 a.0.0 ++ flat_map address x.0) x.1 = Takes-then bytes (to_be_bytes w16 a.0.0) a.0.1 (flat_map address x.0) x.1 t0.0 t1.0 in
    (subst (λ (k : ℕ). Takes bytes (to_be_bytes w16 k ++ flat_map address x.0) x.1) (sym t1.1) both, all)
  where
    counts : (least n : ℕ) → (ltb n least || ltb 4096 n) ≡ false → (leb least n && leb n 4096) ≡ true
    counts least n h = grind (arith, nat_tests)

counts_again : (least n : ℕ) → (leb least n && leb n 4096) ≡ true → ((ltb n least || ltb 4096 n) ≡ false) × (n < 2 ^ 16)
counts_again least n h =
    let p = both_true (leb least n) (leb n 4096) h in
    let lo = leb-true least n p.0 in
    let hi = leb-true n 4096 p.1 in
    let a : ltb n least ≡ false = le-ltb _ _ lo in
    let b : ltb 4096 n ≡ false = le-ltb _ _ hi in
    (rw (a, b) refl, omega arith)

pub list_again : (least : ℕ) (list : List Address) (more : List ℕ) → are_addresses least list ≡ true → list_at least (addresses list ++ more) ≡ Some (list, more)
unfolding list_at
list_again least list more h =
    let p = both_true (leb least (length list) && leb (length list) 4096) (list_all is_address list) h in
    let c = counts_again least (length list) p.0 in
    let regrouped : addresses list ++ more ≡ to_be_bytes w16 (length list) ++ (flat_map address list ++ more) = append_assoc (to_be_bytes w16 (length list)) (flat_map address list) more in
    ap (list_at least) regrouped ∙ rw (number_again w16 (2 ^ 16) wide16 (length list) (flat_map address list ++ more) c.1, c.0) (many_again address_at address is_address address_field list more p.1)
