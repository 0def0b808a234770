-- What is read of flags and types puts no token back.
use Rattle.std.proofs.Common.{◌≡◌, ℕ, zero, suc, ◌+◌, ◌-◌, ◌<◌, ◌≤◌, ◌==◌, ◌&&◌, Bool, true, false, cond, List, [], ◌∷◌, drop, length, max, Option, Some, None, Err, refl, sym, ap, arith, codes}
use Rattle.std.specs.Prelude.{is_some}
use Rattle.std.proofs.lemmas.Bool.{and_parts}
use Rattle.pf_rules.specs.declared.profile.Profile.{Profile}
use Rattle.pf_tokens.specs.declared.symbol.Symbol.TheVariants as mark
use Rattle.pf_tokens.specs.Tokens.{Token}
use Rattle.pf_tokens.specs.Blanks.{blanked}
use Rattle.pf_tokens.specs.Productions.{Read, ◌>>=◌, begins, begins_symbol, word_at, list_opened}
use Rattle.pf_tokens.specs.Lists.{Elements, put, elements, list_at, some_at}
use Rattle.pf_tokens.specs.inner.Shorter.{bind_some, word_shorter}
use Rattle.pf_tokens.proofs.Blanking.{blanked_no_longer}
use Rattle.pf_rules.specs.declared.flags.TcpFlags.{TcpFlags}
use Rattle.pf_rules.specs.declared.parts.FlagTest.{FlagTest}
use Rattle.pf_rules.specs.declared.parts.FlagTest.TheVariants as flags
use Rattle.pf_statements.specs.declared.conditions.WrittenType.{WrittenType}
use Rattle.pf_rules.specs.Words.{icmp_type_of, flags_of, no_flags}
use Rattle.pf_statements.specs.Conditions.{if_so, port_word_at, letters_at, just_within, flags_at, type_at, types_at}
use Rattle.pf_statements.specs.inner.Shorter.{then_no_longer, value_then, answer_left, drop_no_longer, so_is, port_word_shorter, type_shorter}

-- ---- an option takes a token at least

letters_cases : (b : Bool) (ts rest : List Token) (x : TcpFlags) → cond {A = Read TcpFlags} b (Some (no_flags, ts)) (word_at ts >>= λ word. flags_of word.0 >>= λ set. Some (set, word.1)) ≡ Some (x, rest) → length rest ≤ length ts
letters_cases true ts rest x e = answer_left no_flags x ts rest e
letters_cases false ts rest x e = then_no_longer (word_at ts) (λ word. flags_of word.0 >>= λ set. Some (set, word.1)) ts rest x
    (λ w h. omega (arith, word_shorter ts w h))
    (λ w h. value_then (flags_of w.0) (λ set. Some (set, w.1)) w.1 rest x (λ set k. answer_left set x w.1 rest k) h) e

letters_no_longer : (ts rest : List Token) (x : TcpFlags) → letters_at ts ≡ Some (x, rest) → length rest ≤ length ts
unfolding letters_at
letters_no_longer ts rest x e = letters_cases (begins_symbol mark.Slash ts) ts rest x e

-- behind the slash
flags_behind : TcpFlags → List Token → Read FlagTest
flags_behind set slash = word_at slash >>= λ word. flags_of word.0 >>= λ of. just_within set of >>= λ test. Some (test, word.1)

flags_behind_shorter : (set : TcpFlags) (slash rest : List Token) (x : FlagTest) → flags_behind set slash ≡ Some (x, rest) → length rest ≤ length slash
unfolding flags_behind
flags_behind_shorter set slash rest x e = then_no_longer (word_at slash) (λ word. flags_of word.0 >>= λ of. just_within set of >>= λ test. Some (test, word.1)) slash rest x
    (λ w h. omega (arith, word_shorter slash w h))
    (λ w h. value_then (flags_of w.0) (λ of. just_within set of >>= λ test. Some (test, w.1)) w.1 rest x
    (λ of k. value_then (just_within set of) (λ test. Some (test, w.1)) w.1 rest x (λ test l. answer_left test x w.1 rest l) k) h) e

flags_cases : (b : Bool) (ts rest : List Token) (x : FlagTest) → cond {A = Read FlagTest} b (Some (flags.Any, drop 1 ts)) (letters_at ts >>= λ set. if_so (begins_symbol mark.Slash set.1) (drop 1 set.1) >>= λ slash. flags_behind set.0 slash) ≡ Some (x, rest) → length rest ≤ length ts
flags_cases true ts rest x e = omega (arith, drop_no_longer ts, answer_left flags.Any x (drop 1 ts) rest e)
flags_cases false ts rest x e = then_no_longer (letters_at ts) (λ set. if_so (begins_symbol mark.Slash set.1) (drop 1 set.1) >>= λ slash. flags_behind set.0 slash) ts rest x
    (λ set h. letters_no_longer ts set.1 set.0 h)
    (λ set h. let s = bind_some (if_so (begins_symbol mark.Slash set.1) (drop 1 set.1)) (λ slash. flags_behind set.0 slash) (x, rest) h in
    omega (arith, flags_behind_shorter set.0 s.0 rest x s.2, ap (λ (us : List Token). length us) (so_is (begins_symbol mark.Slash set.1) (drop 1 set.1) s.0 s.1), drop_no_longer set.1)) e

pub flags_no_longer : (ts rest : List Token) (x : FlagTest) → flags_at ts ≡ Some (x, rest) → length rest ≤ length ts
unfolding flags_at flags_behind
flags_no_longer ts rest x e = flags_cases (begins (codes "any") ts) ts rest x e

-- a list puts no token back
elements_step : {X : Type 0} (read : List Token → Read X) → ((ts rest : List Token) (x : X) → read ts ≡ Some (x, rest) → length rest < length ts) → (n : ℕ) → ((depth deepest : ℕ) (wanted : Bool) (ts rest : List Token) (x : Elements X) → elements read n depth deepest wanted ts ≡ Some (x, rest) → length rest ≤ length ts)
    → (o c q w l : Bool) (depth deepest : ℕ) (ts rest : List Token) (x : Elements X)
    → cond {A = Read (Elements X)} o (elements read n (depth + 1) (max deepest (depth + 1)) true (drop 1 ts)) (cond c (cond w None (elements read n depth deepest true (drop 1 ts))) (cond q (cond w None (cond l (Some (record { items = []; deepest = deepest }, drop 1 ts)) (elements read n (depth - 1) deepest false (drop 1 ts)))) (read ts >>= λ y. elements read n depth deepest false y.1 >>= put y.0))) ≡ Some (x, rest) → length rest ≤ length ts
elements_step read shorter n goes true c q w l depth deepest ts rest x k = omega (arith, drop_no_longer ts, goes (depth + 1) (max deepest (depth + 1)) true (drop 1 ts) rest x k)
elements_step read shorter n goes false true q true l depth deepest ts rest x k = absurd (let h = k in cc)
elements_step read shorter n goes false true q false l depth deepest ts rest x k = omega (arith, drop_no_longer ts, goes depth deepest true (drop 1 ts) rest x k)
elements_step read shorter n goes false false true true l depth deepest ts rest x k = absurd (let h = k in cc)
elements_step read shorter n goes false false true false true depth deepest ts rest x k = omega (arith, drop_no_longer ts, answer_left (record { items = []; deepest = deepest }) x (drop 1 ts) rest k)
elements_step read shorter n goes false false true false false depth deepest ts rest x k = omega (arith, drop_no_longer ts, goes (depth - 1) deepest false (drop 1 ts) rest x k)
elements_step read shorter n goes false false false w l depth deepest ts rest x k = then_no_longer (read ts) (λ y. elements read n depth deepest false y.1 >>= put y.0) ts rest x
    (λ y h. omega (arith, shorter ts y.1 y.0 h))
    (λ y h. then_no_longer (elements read n depth deepest false y.1) (put y.0) y.1 rest x
    (λ z m. goes depth deepest false y.1 z.1 z.0 m)
    (λ z m. answer_left (record { items = y.0 ∷ z.0.items; deepest = z.0.deepest }) x z.1 rest m) h) k

elements_no_longer : {X : Type 0} (read : List Token → Read X) → ((ts rest : List Token) (x : X) → read ts ≡ Some (x, rest) → length rest < length ts) → (n depth deepest : ℕ) (wanted : Bool) (ts rest : List Token) (x : Elements X) → elements read n depth deepest wanted ts ≡ Some (x, rest) → length rest ≤ length ts
unfolding elements
elements_no_longer read shorter zero depth deepest wanted ts rest x e = absurd (let h = e in cc)
elements_no_longer read shorter (suc n) depth deepest wanted ts rest x e =
    elements_step read shorter n (λ d dd w us r y k. elements_no_longer read shorter n d dd w us r y k) (begins_symbol mark.Open ts) (begins_symbol mark.Comma ts) (begins_symbol mark.Close ts) wanted (depth == 1) depth deepest ts rest x e

opened_no_longer : (b : Bool) (ts : List Token) → length (cond {A = Bool × List Token} b (true, blanked 1 (drop 1 ts)) (false, ts)).1 ≤ length ts
opened_no_longer true ts = omega (arith, blanked_no_longer 1 (drop 1 ts), drop_no_longer ts)
opened_no_longer false ts = omega arith

list_no_longer : {X : Type 0} (read : List Token → Read X) → ((ts rest : List Token) (x : X) → read ts ≡ Some (x, rest) → length rest < length ts) → (ts rest : List Token) (x : Elements X) → list_at read ts ≡ Some (x, rest) → length rest ≤ length ts
unfolding list_at list_opened
list_no_longer {X} read shorter ts rest x e = cases (list_opened ts).0 e
  where
    cases : (b : Bool) → cond {A = Read (Elements X)} b (elements read (length ts) 1 1 true (list_opened ts).1) None ≡ Some (x, rest) → length rest ≤ length ts
    cases true k = omega (arith, elements_no_longer read shorter (length ts) 1 1 true (list_opened ts).1 rest x k, opened_no_longer (begins_symbol mark.Open ts) ts)
    cases false k = absurd (let h = k in cc)

some_no_longer : {X : Type 0} (read : List Token → Read X) → ((ts rest : List Token) (x : X) → read ts ≡ Some (x, rest) → length rest < length ts) → (ts rest : List Token) (x : Elements X) → some_at read ts ≡ Some (x, rest) → length rest ≤ length ts
unfolding some_at
some_no_longer {X} read shorter ts rest x e = cases (begins_symbol mark.Open ts) e
  where
    cases : (b : Bool) → cond {A = Read (Elements X)} b (list_at read ts) (read ts >>= λ y. Some (record { items = y.0 ∷ []; deepest = 0 }, y.1)) ≡ Some (x, rest) → length rest ≤ length ts
    cases true k = list_no_longer read shorter ts rest x k
    cases false k = then_no_longer (read ts) (λ y. Some (record { items = y.0 ∷ []; deepest = 0 }, y.1)) ts rest x (λ y h. omega (arith, shorter ts y.1 y.0 h)) (λ y h. answer_left (record { items = y.0 ∷ []; deepest = 0 }) x y.1 rest h) k

pub types_no_longer : (profile : Profile) (ts rest : List Token) (x : Elements WrittenType) → types_at profile ts ≡ Some (x, rest) → length rest ≤ length ts
unfolding types_at
types_no_longer profile ts rest x e = cases (begins_symbol mark.Open ts) e
  where
    cases : (b : Bool) → cond {A = Read (Elements WrittenType)} b (some_at (type_at profile) ts) (port_word_at profile ts >>= λ word. Some (record { items = record { number = icmp_type_of word.0 } ∷ []; deepest = 0 }, word.1)) ≡ Some (x, rest) → length rest ≤ length ts
    cases true k = some_no_longer (type_at profile) (type_shorter profile) ts rest x k
    cases false k = then_no_longer (port_word_at profile ts) (λ word. Some (record { items = record { number = icmp_type_of word.0 } ∷ []; deepest = 0 }, word.1)) ts rest x
        (λ w h. omega (arith, port_word_shorter profile ts w h)) (λ w h. answer_left (record { items = record { number = icmp_type_of w.0 } ∷ []; deepest = 0 }) x w.1 rest h) k
