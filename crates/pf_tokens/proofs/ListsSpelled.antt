-- Lists are read exactly where the grammar spells them.
use Rattle.std.proofs.Common.{◌≡◌, ℕ, zero, suc, ◌+◌, ◌-◌, ◌<◌, ◌≤◌, ◌==◌, Bool, true, false, cond, List, [], ◌∷◌, ◌++◌, drop, length, Option, Some, None, refl, sym, ap, subst, ◌∙◌, append_assoc, arith}
use Rattle.std.specs.Prelude.{max, nat_lt}
use Rattle.std.specs.List.{AllByRecursion}
use Rattle.std.proofs.lemmas.List.{append-nil, append_cancel_right, length-append}
use Rattle.std.proofs.lemmas.Bool.{false≢true}
use Rattle.std.proofs.lemmas.Bool.Decides.{nat_tests}
use Rattle.pf_tokens.specs.declared.symbol.Symbol.{Symbol}
use Rattle.pf_tokens.specs.declared.symbol.Symbol.TheVariants.{Open, Close, OpenParenthesis, CloseParenthesis, Comma, Slash, Not, NotEqual, Less, LessEqual, Greater, GreaterEqual, Between, Outside, Equals}
use Rattle.pf_tokens.specs.Tokens.{Token, Word, Quoted, Macro, Mark, Newline, Bad, is_newline}
use Rattle.pf_tokens.specs.Macros.{depth_after}
use Rattle.pf_tokens.specs.Blanks.{blanked}
use Rattle.pf_tokens.specs.Productions.{Read, ◌>>=◌, begins_symbol, is_symbol, list_opened}
use Rattle.pf_tokens.specs.Lists.{Elements, elements, list_at, some_at, put}
use Rattle.pf_tokens.specs.inner.Shorter.{bind_some, some_is, symbol_shorter}
use Rattle.pf_tokens.specs.ListGrammar.{sign, IsComma, NoComma, CommaSign, IsElements, LastOne, LastList, OneMore, ListMore, IsList, Braces, IsSome, One, Listed, IsPlain, IsReadAs, IsElement, IsListBefore}
use Rattle.pf_tokens.proofs.Fronts.{Took, symbol_is}

-- ---- what is asked of an element

-- what an element begins with
pub record Heads (Ends : List Token → Type 0) (ts : List Token) : Type 0 where
  pub ends : Ends ts
  pub not_open : begins_symbol Open ts ≡ false
  pub not_comma : begins_symbol Comma ts ≡ false
  pub not_close : begins_symbol Close ts ≡ false

-- an element is read exactly where the grammar spells it, before what may follow it
pub record Readable {X : Type 0} (element : List Token → Read X) (Is : List Token → X → Type 0) (Ends : List Token → Type 0) : Type 0 where
  pub took : (ts : List Token) (x : X × List Token) → element ts ≡ Some x → Took Is ts x
  pub reads : (ts rest : List Token) (x : X) → Is ts x → Ends rest → element (ts ++ rest) ≡ Some (x, rest)
  pub heads : (ts rest : List Token) (x : X) → Is ts x → Heads Ends (ts ++ rest)
  pub open_ends : (rest : List Token) → Ends (Mark Open ∷ rest)
  pub comma_ends : (rest : List Token) → Ends (Mark Comma ∷ rest)
  pub close_ends : (rest : List Token) → Ends (Mark Close ∷ rest)
  pub plain : (ts : List Token) (x : X) → Is ts x → AllByRecursion IsPlain ts
  pub some : (ts : List Token) (x : X) → Is ts x → 0 < length ts

-- ---- how a list goes on

-- the elements that follow, of which one has to come next or not
data Tail {X : Type 0} (Is : List Token → X → Type 0) : Bool → List Token → List X → ℕ → Type 0 where
  Wanted : (ts : List Token) (xs : List X) (d : ℕ) → IsElements Is ts xs d → Tail Is true ts xs d
  Ended : Tail Is false [] [] 0
  Goes : (comma ts : List Token) (xs : List X) (d : ℕ) → IsComma comma → IsElements Is ts xs d → Tail Is false (comma ++ ts) xs d

any_tail : {X : Type 0} {Is : List Token → X → Type 0} (w : Bool) (ts : List Token) (xs : List X) (d : ℕ) → IsElements Is ts xs d → Tail Is w ts xs d
any_tail true ts xs d is = Wanted ts xs d is
any_tail false ts xs d is = Goes [] ts xs d NoComma is

wanted_is : {X : Type 0} {Is : List Token → X → Type 0} (w : Bool) (ts : List Token) (xs : List X) (d : ℕ) → Tail Is w ts xs d → w ≡ true → IsElements Is ts xs d
wanted_is _ _ _ _ (Wanted ts xs d is) e = is
wanted_is _ _ _ _ Ended e = absurd (false≢true e)
wanted_is _ _ _ _ (Goes comma ts xs d c is) e = absurd (false≢true e)

one_before : {X : Type 0} {Is : List Token → X → Type 0} (ts : List Token) (x : X) → Is ts x → (w : Bool) (us : List Token) (ys : List X) (e : ℕ) → Tail Is w us ys e → w ≡ false → IsElements Is (ts ++ us) (x ∷ ys) e
one_before {Is = Is} ts x is _ _ _ _ (Wanted us ys e more) h = absurd (false≢true (sym h))
one_before {Is = Is} ts x is _ _ _ _ Ended h = subst (λ (us : List Token). IsElements Is us (x ∷ []) 0) (sym (append-nil ts)) (LastOne ts x is)
one_before {Is = Is} ts x is _ _ _ _ (Goes comma us ys e c more) h = OneMore ts comma us x ys e is c more

max_zero : (n : ℕ) → max (n + 1) 0 ≡ n + 1
max_zero n = grind arith

list_before : {X : Type 0} {Is : List Token → X → Type 0} (ts : List Token) (xs : List X) (d : ℕ) → IsElements Is ts xs d → (w : Bool) (us : List Token) (ys : List X) (e : ℕ) → Tail Is w us ys e → w ≡ false → IsElements Is (Mark Open ∷ (ts ++ (Mark Close ∷ us))) (xs ++ ys) (max (d + 1) e)
list_before {Is = Is} ts xs d is _ _ _ _ (Wanted us ys e more) h = absurd (false≢true (sym h))
list_before {X = X} {Is = Is} ts xs d is _ _ _ _ Ended h =
    subst (λ (zs : List X). IsElements Is (Mark Open ∷ (ts ++ (Mark Close ∷ []))) zs (max (d + 1) 0)) (sym (append-nil xs))
    (subst (λ (n : ℕ). IsElements Is (Mark Open ∷ (ts ++ (Mark Close ∷ []))) xs n) (sym (max_zero d)) (LastList ts xs d is))
list_before {Is = Is} ts xs d is _ _ _ _ (Goes comma us ys e c more) h = ListMore ts comma us xs ys d e is c more

-- ---- from reading to the grammar

abbrev prefixed : {X : Type 0} → List X → Elements X × List Token → Elements X × List Token
prefixed xs z = (record { items = xs ++ z.0.items; deepest = z.0.deepest }, z.1)

-- what is behind a brace that closes a list
abbrev closing : {X : Type 0} → (List Token → Read X) → ℕ → ℕ → ℕ → List Token → Read (Elements X)
closing element n depth deepest ts = cond (depth == 1) (Some (record { items = []; deepest = deepest }, ts)) (elements element n (depth - 1) deepest false ts)

record Ran {X : Type 0} (element : List Token → Read X) (Is : List Token → X → Type 0) (n depth deepest : ℕ) (w : Bool) (ts : List Token) (y : Elements X × List Token) : Type 0 where
  piece : List Token
  xs : List X
  d : ℕ
  behind : List Token
  m : ℕ
  z : Elements X × List Token
  whole : ts ≡ piece ++ Mark Close ∷ behind
  is : Tail Is w piece xs d
  fewer : m < n
  closed : closing element m depth (max deepest (depth + d)) behind ≡ Some z
  value : y ≡ prefixed xs z

abbrev Runs : {X : Type 0} → (List Token → Read X) → (List Token → X → Type 0) → ℕ → Type 0
Runs {X} element Is b =
    (n : ℕ) → n ≤ b → (depth deepest : ℕ) → 0 < depth → depth ≤ deepest → (w : Bool) (ts : List Token) (y : Elements X × List Token) → elements element n depth deepest w ts ≡ Some y → Ran element Is n depth deepest w ts y

max_deep : (p depth : ℕ) → depth ≤ p → max p (depth + 0) ≡ p
max_deep p depth h = grind (arith, h)

max_inner : (p depth d e : ℕ) → max (max (max p (depth + 1)) ((depth + 1) + d)) (depth + e) ≡ max p (depth + max (d + 1) e)
max_inner p depth d e = grind arith

max_last : (p depth d : ℕ) → max (max p (depth + 1)) ((depth + 1) + d) ≡ max p (depth + (d + 1))
max_last p depth d = grind arith

below_max : (p q depth : ℕ) → depth ≤ p → depth ≤ max p q
below_max p q depth h = grind (arith, h)

above_max : (p q : ℕ) → q ≤ max p q
above_max p q = grind arith

not_one : (depth : ℕ) → 0 < depth → ((depth + 1) == 1) ≡ false
not_one depth h = grind (arith, nat_tests, h)

back_one : (depth : ℕ) → (depth + 1) - 1 ≡ depth
back_one depth = omega arith

-- a list in the list is behind us
closed_inner : {X : Type 0} (element : List Token → Read X) (m depth deepest : ℕ) (ts : List Token) (z : Elements X × List Token) → 0 < depth → closing element m (depth + 1) deepest ts ≡ Some z → elements element m depth deepest false ts ≡ Some z
closed_inner {X} element m depth deepest ts z some e =
    let e' = subst (λ (b : Bool). cond b (Some (record { items = []; deepest = deepest }, ts)) (elements element m ((depth + 1) - 1) deepest false ts) ≡ Some z) (not_one depth some) e in
    subst (λ (k : ℕ). elements element m k deepest false ts ≡ Some z) (back_one depth) e'

prefixed_twice : {X : Type 0} (xs ys : List X) (y z u : Elements X × List Token) → y ≡ prefixed xs z → z ≡ prefixed ys u → y ≡ prefixed (xs ++ ys) u
prefixed_twice xs ys y z u e f = e ∙ ap (prefixed xs) f ∙ sym (ap (λ items. (record { items = items; deepest = u.0.deepest }, u.1)) (append_assoc xs ys u.0.items))

ran_list : {X : Type 0} {element : List Token → Read X} {Is : List Token → X → Type 0} (b n : ℕ) → Runs element Is b → n ≤ b → (depth deepest : ℕ) → 0 < depth → depth ≤ deepest → (w : Bool) (ts : List Token) (y : Elements X × List Token) → begins_symbol Open ts ≡ true → elements element n (depth + 1) (max deepest (depth + 1)) true (drop 1 ts) ≡ Some y → Ran element Is (suc n) depth deepest w ts y
ran_list {element = element} {Is = Is} b n runs fits depth deepest some deep w ts y opens e =
    let inner = runs n fits (depth + 1) (max deepest (depth + 1)) (omega arith) (above_max deepest (depth + 1)) true (drop 1 ts) y e in
    let top = max (max deepest (depth + 1)) ((depth + 1) + inner.d) in
    let next = closed_inner element inner.m depth top inner.behind inner.z some inner.closed in
    let outer = runs inner.m (let h = inner.fewer in omega (arith, h, fits)) depth top some (below_max _ _ _ (below_max deepest (depth + 1) depth deep)) false inner.behind inner.z next in
    record {
      piece = Mark Open ∷ (inner.piece ++ (Mark Close ∷ outer.piece));
      xs = inner.xs ++ outer.xs;
      d = max (inner.d + 1) outer.d;
      behind = outer.behind;
      m = outer.m;
      z = outer.z;
      whole = symbol_is Open ts opens ∙ ap (λ (us : List Token). Mark Open ∷ us) (inner.whole ∙ ap (λ (us : List Token). inner.piece ++ (Mark Close ∷ us)) outer.whole ∙ sym (append_assoc inner.piece (Mark Close ∷ outer.piece) (Mark Close ∷ outer.behind)));
      is = any_tail w _ _ _ (list_before inner.piece inner.xs inner.d (wanted_is true inner.piece inner.xs inner.d inner.is refl) false outer.piece outer.xs outer.d outer.is refl);
      fewer = (let h = inner.fewer in let k = outer.fewer in omega (arith, h, k));
      closed = subst (λ (k : ℕ). closing element outer.m depth k outer.behind ≡ Some outer.z) (max_inner deepest depth inner.d outer.d) outer.closed;
      value = prefixed_twice inner.xs outer.xs y inner.z outer.z inner.value outer.value;
    }

ran_comma : {X : Type 0} {element : List Token → Read X} {Is : List Token → X → Type 0} (b n : ℕ) → Runs element Is b → n ≤ b → (depth deepest : ℕ) → 0 < depth → depth ≤ deepest → (w : Bool) (ts : List Token) (y : Elements X × List Token) → begins_symbol Comma ts ≡ true → cond w None (elements element n depth deepest true (drop 1 ts)) ≡ Some y → Ran element Is (suc n) depth deepest w ts y
ran_comma b n runs fits depth deepest some deep true ts y comma e = absurd cc
ran_comma {element = element} {Is = Is} b n runs fits depth deepest some deep false ts y comma e =
    let inner = runs n fits depth deepest some deep true (drop 1 ts) y e in
    record {
      piece = Mark Comma ∷ inner.piece;
      xs = inner.xs;
      d = inner.d;
      behind = inner.behind;
      m = inner.m;
      z = inner.z;
      whole = symbol_is Comma ts comma ∙ ap (λ (us : List Token). Mark Comma ∷ us) inner.whole;
      is = Goes (sign Comma) inner.piece inner.xs inner.d CommaSign (wanted_is true inner.piece inner.xs inner.d inner.is refl);
      fewer = (let h = inner.fewer in omega (arith, h));
      closed = inner.closed;
      value = inner.value;
    }

ran_close : {X : Type 0} {element : List Token → Read X} {Is : List Token → X → Type 0} (n depth deepest : ℕ) → depth ≤ deepest → (w : Bool) (ts : List Token) (y : Elements X × List Token) → begins_symbol Close ts ≡ true → cond w None (closing element n depth deepest (drop 1 ts)) ≡ Some y → Ran element Is (suc n) depth deepest w ts y
ran_close n depth deepest deep true ts y close e = absurd cc
ran_close {element = element} n depth deepest deep false ts y close e = record {
  piece = [];
  xs = [];
  d = 0;
  behind = drop 1 ts;
  m = n;
  z = y;
  whole = symbol_is Close ts close;
  is = Ended;
  fewer = omega arith;
  closed = subst (λ (k : ℕ). closing element n depth k (drop 1 ts) ≡ Some y) (sym (max_deep deepest depth deep)) e;
  value = refl;
}

ran_one : {X : Type 0} {element : List Token → Read X} {Is : List Token → X → Type 0} {Ends : List Token → Type 0} → Readable element Is Ends → (b n : ℕ) → Runs element Is b → n ≤ b → (depth deepest : ℕ) → 0 < depth → depth ≤ deepest → (w : Bool) (ts : List Token) (y : Elements X × List Token) → (element ts >>= λ x. elements element n depth deepest false x.1 >>= put x.0) ≡ Some y → Ran element Is (suc n) depth deepest w ts y
ran_one {element = element} {Is = Is} readable b n runs fits depth deepest some deep w ts y e =
    let a = bind_some (element ts) (λ x. elements element n depth deepest false x.1 >>= put x.0) y e in
    let q = bind_some (elements element n depth deepest false a.0.1) (put a.0.0) y a.2 in
    let first_item = readable.took ts a.0 a.1 in
    let inner = runs n fits depth deepest some deep false a.0.1 q.0 q.1 in
    record {
      piece = first_item.piece ++ inner.piece;
      xs = a.0.0 ∷ inner.xs;
      d = inner.d;
      behind = inner.behind;
      m = inner.m;
      z = inner.z;
      whole = first_item.whole ∙ ap (λ (us : List Token). first_item.piece ++ us) inner.whole ∙ sym (append_assoc first_item.piece inner.piece (Mark Close ∷ inner.behind));
      is = any_tail w _ _ _ (one_before first_item.piece a.0.0 first_item.is false inner.piece inner.xs inner.d inner.is refl);
      fewer = (let h = inner.fewer in omega (arith, h));
      closed = inner.closed;
      value = prefixed_twice (a.0.0 ∷ []) inner.xs y q.0 inner.z (sym (some_is (prefixed (a.0.0 ∷ []) q.0) y q.2)) inner.value;
    }

ran_step : {X : Type 0} {element : List Token → Read X} {Is : List Token → X → Type 0} {Ends : List Token → Type 0} → Readable element Is Ends → (b n : ℕ) → Runs element Is b → n ≤ b → (depth deepest : ℕ) → 0 < depth → depth ≤ deepest → (w : Bool) (ts : List Token) (y : Elements X × List Token) → elements element (suc n) depth deepest w ts ≡ Some y → Ran element Is (suc n) depth deepest w ts y
unfolding elements
ran_step {element = element} {Is = Is} readable b n runs fits depth deepest some deep w ts y e =
    cases (begins_symbol Open ts) refl (begins_symbol Comma ts) refl (begins_symbol Close ts) refl e
  where
    cases : (o : Bool) → begins_symbol Open ts ≡ o → (c : Bool) → begins_symbol Comma ts ≡ c → (k : Bool) → begins_symbol Close ts ≡ k → cond o (elements element n (depth + 1) (max deepest (depth + 1)) true (drop 1 ts)) (cond c (cond w None (elements element n depth deepest true (drop 1 ts))) (cond k (cond w None (closing element n depth deepest (drop 1 ts))) (element ts >>= λ x. elements element n depth deepest false x.1 >>= put x.0))) ≡ Some y → Ran element Is (suc n) depth deepest w ts y
    cases true opens c comma k close e = ran_list b n runs fits depth deepest some deep w ts y opens e
    cases false opens true comma k close e = ran_comma b n runs fits depth deepest some deep w ts y comma e
    cases false opens false comma true close e = ran_close n depth deepest deep w ts y close e
    cases false opens false comma false close e = ran_one readable b n runs fits depth deepest some deep w ts y e

run_took : {X : Type 0} {element : List Token → Read X} {Is : List Token → X → Type 0} {Ends : List Token → Type 0} → Readable element Is Ends → (b : ℕ) → Runs element Is b
unfolding elements
run_took readable zero zero fits depth deepest some deep w ts y e = absurd cc
run_took readable zero (suc n) fits depth deepest some deep w ts y e = absurd (omega (arith, fits))
run_took readable (suc b) zero fits depth deepest some deep w ts y e = absurd cc
run_took readable (suc b) (suc n) fits depth deepest some deep w ts y e = ran_step readable b n (run_took readable b) (omega (arith, fits)) depth deepest some deep w ts y e

-- ---- from the grammar to reading

took_shorter : {X : Type 0} {element : List Token → Read X} {Is : List Token → X → Type 0} {Ends : List Token → Type 0} → Readable element Is Ends → (ts : List Token) (x : X × List Token) → element ts ≡ Some x → length x.1 < length ts
took_shorter readable ts x e =
    let t = readable.took ts x e in
    let some = readable.some t.piece x.0 t.is in
    let whole = ap (λ (us : List Token). length us) t.whole ∙ length-append t.piece x.1 in
    omega (arith, some, whole)

-- more steps than tokens are as good as any such number
abbrev Enough : {X : Type 0} → (List Token → Read X) → ℕ → ℕ → Type 0
Enough {X} element n m = (depth deepest : ℕ) (w : Bool) (ts : List Token) → length ts < n → length ts < m → elements element n depth deepest w ts ≡ elements element m depth deepest w ts

enough_one : {X : Type 0} {element : List Token → Read X} {Is : List Token → X → Type 0} {Ends : List Token → Type 0} → Readable element Is Ends → (n m : ℕ) → Enough element n m → (depth deepest : ℕ) (ts : List Token) → length ts < suc n → length ts < suc m → (o : Option (X × List Token)) → element ts ≡ o → (o >>= λ x. elements element n depth deepest false x.1 >>= put x.0) ≡ (o >>= λ x. elements element m depth deepest false x.1 >>= put x.0)
enough_one readable n m more depth deepest ts h k None e = refl
enough_one readable n m more depth deepest ts h k (Some x) e =
    let shorter = took_shorter readable ts x e in
    ap (λ o. o >>= put x.0) (more depth deepest false x.1 (omega (arith, shorter, h)) (omega (arith, shorter, k)))

enough_step : {X : Type 0} {element : List Token → Read X} {Is : List Token → X → Type 0} {Ends : List Token → Type 0} → Readable element Is Ends → (n m : ℕ) → Enough element n m → Enough element (suc n) (suc m)
unfolding elements
enough_step {element = element} readable n m more depth deepest w ts h k =
    cases (begins_symbol Open ts) refl (begins_symbol Comma ts) refl (begins_symbol Close ts) refl
  where
    closings : (q : Bool) → begins_symbol Close ts ≡ true → cond q (Some (record { items = []; deepest = deepest }, drop 1 ts)) (elements element n (depth - 1) deepest false (drop 1 ts)) ≡ cond q (Some (record { items = []; deepest = deepest }, drop 1 ts)) (elements element m (depth - 1) deepest false (drop 1 ts))
    closings true close = refl
    closings false close = let s = symbol_shorter Close ts close in more (depth - 1) deepest false (drop 1 ts) (omega (arith, s, h)) (omega (arith, s, k))

    wants : (v : Bool) (s : Symbol) → begins_symbol s ts ≡ true → (u : Bool) → cond v None (elements element n depth deepest u (drop 1 ts)) ≡ cond v None (elements element m depth deepest u (drop 1 ts))
    wants true s begun u = refl
    wants false s begun u = let d = symbol_shorter s ts begun in more depth deepest u (drop 1 ts) (omega (arith, d, h)) (omega (arith, d, k))

    closed : (v : Bool) → begins_symbol Close ts ≡ true → cond v None (closing element n depth deepest (drop 1 ts)) ≡ cond v None (closing element m depth deepest (drop 1 ts))
    closed true close = refl
    closed false close = closings (depth == 1) close

    cases : (o : Bool) → begins_symbol Open ts ≡ o → (c : Bool) → begins_symbol Comma ts ≡ c → (q : Bool) → begins_symbol Close ts ≡ q → cond o (elements element n (depth + 1) (max deepest (depth + 1)) true (drop 1 ts)) (cond c (cond w None (elements element n depth deepest true (drop 1 ts))) (cond q (cond w None (closing element n depth deepest (drop 1 ts))) (element ts >>= λ x. elements element n depth deepest false x.1 >>= put x.0))) ≡ cond o (elements element m (depth + 1) (max deepest (depth + 1)) true (drop 1 ts)) (cond c (cond w None (elements element m depth deepest true (drop 1 ts))) (cond q (cond w None (closing element m depth deepest (drop 1 ts))) (element ts >>= λ x. elements element m depth deepest false x.1 >>= put x.0)))
    cases true opens c comma q close = let s = symbol_shorter Open ts opens in more (depth + 1) (max deepest (depth + 1)) true (drop 1 ts) (omega (arith, s, h)) (omega (arith, s, k))
    cases false opens true comma q close = wants w Comma comma true
    cases false opens false comma true close = closed w close
    cases false opens false comma false close = enough_one readable n m more depth deepest ts h k (element ts) refl

enough : {X : Type 0} {element : List Token → Read X} {Is : List Token → X → Type 0} {Ends : List Token → Type 0} → Readable element Is Ends → (n m : ℕ) → Enough element n m
enough readable zero m depth deepest w ts h k = absurd (omega (arith, h))
enough readable (suc n) zero depth deepest w ts h k = absurd (omega (arith, k))
enough readable (suc n) (suc m) depth deepest w ts h k = enough_step readable n m (enough readable n m) depth deepest w ts h k

-- the elements with as many steps as are needed
run : {X : Type 0} → (List Token → Read X) → ℕ → ℕ → Bool → List Token → Read (Elements X)
run element depth deepest w ts = elements element (suc (length ts)) depth deepest w ts

run_is : {X : Type 0} {element : List Token → Read X} {Is : List Token → X → Type 0} {Ends : List Token → Type 0} → Readable element Is Ends → (n depth deepest : ℕ) (w : Bool) (ts : List Token) → length ts < n → elements element n depth deepest w ts ≡ run element depth deepest w ts
unfolding run
run_is readable n depth deepest w ts h = enough readable n (suc (length ts)) depth deepest w ts h (omega arith)

run_open : {X : Type 0} {element : List Token → Read X} {Is : List Token → X → Type 0} {Ends : List Token → Type 0} → Readable element Is Ends → (depth deepest : ℕ) (w : Bool) (ts : List Token) → run element depth deepest w (Mark Open ∷ ts) ≡ run element (depth + 1) (max deepest (depth + 1)) true ts
unfolding elements run
run_open readable depth deepest w ts = enough readable (length (Mark Open ∷ ts)) (suc (length ts)) (depth + 1) (max deepest (depth + 1)) true ts (omega arith) (omega arith)

run_comma : {X : Type 0} {element : List Token → Read X} {Is : List Token → X → Type 0} {Ends : List Token → Type 0} → Readable element Is Ends → (depth deepest : ℕ) (ts : List Token) → run element depth deepest false (Mark Comma ∷ ts) ≡ run element depth deepest true ts
unfolding elements run
run_comma readable depth deepest ts = enough readable (length (Mark Comma ∷ ts)) (suc (length ts)) depth deepest true ts (omega arith) (omega arith)

run_close : {X : Type 0} {element : List Token → Read X} {Is : List Token → X → Type 0} {Ends : List Token → Type 0} → Readable element Is Ends → (depth deepest : ℕ) (ts : List Token) → 0 < depth → run element (depth + 1) deepest false (Mark Close ∷ ts) ≡ run element depth deepest false ts
unfolding elements run
run_close {element = element} readable depth deepest ts some =
    rw (not_one depth some, back_one depth) (enough readable (length (Mark Close ∷ ts)) (suc (length ts)) depth deepest false ts (omega arith) (omega arith))

run_end : {X : Type 0} (element : List Token → Read X) (deepest : ℕ) (ts : List Token) → run element 1 deepest false (Mark Close ∷ ts) ≡ Some (record { items = []; deepest = deepest }, ts)
unfolding elements run
run_end element deepest ts = refl

run_one : {X : Type 0} {element : List Token → Read X} {Is : List Token → X → Type 0} {Ends : List Token → Type 0} → Readable element Is Ends → (depth deepest : ℕ) (w : Bool) (us rest : List Token) (x : X) → Is us x → Ends rest → run element depth deepest w (us ++ rest) ≡ (run element depth deepest false rest >>= put x)
unfolding elements run
run_one {element = element} readable depth deepest w us rest x is ends =
    let heads = readable.heads us rest x is in
    let some = readable.some us x is in
    rw (heads.not_open, heads.not_comma, heads.not_close, readable.reads us rest x is ends) (ap (λ o. o >>= put x) (enough readable (length (us ++ rest)) (suc (length rest)) depth deepest false rest (let l = length-append us rest in omega (arith, some, l)) (omega arith)))

-- elements begin as one of them, or with a brace
elements_end : {X : Type 0} {element : List Token → Read X} {Is : List Token → X → Type 0} {Ends : List Token → Type 0} → Readable element Is Ends → (rest : List Token) (ts : List Token) (xs : List X) (d : ℕ) → IsElements Is ts xs d → Ends (ts ++ rest)
elements_end readable rest _ _ _ (LastOne ts x is) = (readable.heads ts rest x is).ends
elements_end readable rest _ _ _ (LastList ts xs d is) = readable.open_ends _
elements_end {Ends = Ends} readable rest _ _ _ (OneMore ts comma us x ys e is c more) = subst Ends (sym (append_assoc ts (comma ++ us) rest)) (readable.heads ts ((comma ++ us) ++ rest) x is).ends
elements_end readable rest _ _ _ (ListMore ts comma us xs ys d e is c more) = readable.open_ends _

comma_ends : {X : Type 0} {element : List Token → Read X} {Is : List Token → X → Type 0} {Ends : List Token → Type 0} → Readable element Is Ends → (rest : List Token) (us : List Token) (ys : List X) (e : ℕ) → IsElements Is us ys e → (comma : List Token) → IsComma comma → Ends ((comma ++ us) ++ rest)
comma_ends readable rest us ys e is _ NoComma = elements_end readable rest us ys e is
comma_ends readable rest us ys e is _ CommaSign = readable.comma_ends _

abbrev more : {X : Type 0} → List X → Elements X × List Token → Read (Elements X)
more xs z = Some (prefixed xs z)

more_twice : {X : Type 0} (xs ys : List X) (o : Read (Elements X)) → ((o >>= more ys) >>= more xs) ≡ (o >>= more (xs ++ ys))
more_twice xs ys None = refl
more_twice xs ys (Some z) = ap (λ items. Some (record { items = items; deepest = z.0.deepest }, z.1)) (sym (append_assoc xs ys z.0.items))

abbrev AreRead : {X : Type 0} → (List Token → Read X) → (List Token → Type 0) → List Token → List X → ℕ → Type 0
AreRead {X} element Ends ts xs d =
    (depth deepest : ℕ) (w : Bool) (rest : List Token) → 0 < depth → depth ≤ deepest → Ends rest → run element depth deepest w (ts ++ rest) ≡ (run element depth (max deepest (depth + d)) false rest >>= more xs)

read_comma : {X : Type 0} {element : List Token → Read X} {Is : List Token → X → Type 0} {Ends : List Token → Type 0} → Readable element Is Ends → (us : List Token) (ys : List X) (e : ℕ) → AreRead element Ends us ys e → (comma : List Token) → IsComma comma → (depth deepest : ℕ) (rest : List Token) → 0 < depth → depth ≤ deepest → Ends rest → run element depth deepest false ((comma ++ us) ++ rest) ≡ (run element depth (max deepest (depth + e)) false rest >>= more ys)
read_comma readable us ys e are _ NoComma depth deepest rest some deep ends = are depth deepest false rest some deep ends
read_comma readable us ys e are _ CommaSign depth deepest rest some deep ends = run_comma readable depth deepest (us ++ rest) ∙ are depth deepest true rest some deep ends

read_list : {X : Type 0} {element : List Token → Read X} {Is : List Token → X → Type 0} {Ends : List Token → Type 0} → Readable element Is Ends → (ts : List Token) (xs : List X) (d : ℕ) → AreRead element Ends ts xs d → (depth deepest : ℕ) (w : Bool) (rest : List Token) → 0 < depth → depth ≤ deepest → run element depth deepest w (Mark Open ∷ (ts ++ (Mark Close ∷ rest))) ≡ (run element depth (max deepest (depth + (d + 1))) false rest >>= more xs)
read_list {element = element} readable ts xs d are depth deepest w rest some deep =
    run_open readable depth deepest w (ts ++ (Mark Close ∷ rest))
    ∙ are (depth + 1) (max deepest (depth + 1)) true (Mark Close ∷ rest) (omega arith) (above_max deepest (depth + 1)) (readable.close_ends rest)
    ∙ ap (λ o. o >>= more xs) (run_close readable depth (max (max deepest (depth + 1)) ((depth + 1) + d)) rest some ∙ ap (λ (k : ℕ). run element depth k false rest) (max_last deepest depth d))

max_both : (p depth d e : ℕ) → max (max p (depth + (d + 1))) (depth + e) ≡ max p (depth + max (d + 1) e)
max_both p depth d e = grind arith

are_read : {X : Type 0} {element : List Token → Read X} {Is : List Token → X → Type 0} {Ends : List Token → Type 0} → Readable element Is Ends → (ts : List Token) (xs : List X) (d : ℕ) → IsElements Is ts xs d → AreRead element Ends ts xs d
are_read {element = element} readable _ _ _ (LastOne ts x is) depth deepest w rest some deep ends =
    run_one readable depth deepest w ts rest x is ends ∙ ap (λ (k : ℕ). run element depth k false rest >>= more (x ∷ [])) (sym (max_deep deepest depth deep))
are_read {element = element} readable _ _ _ (LastList ts xs d is) depth deepest w rest some deep ends =
    ap (λ (us : List Token). run element depth deepest w (Mark Open ∷ us)) (append_assoc ts (Mark Close ∷ []) rest)
    ∙ read_list readable ts xs d (are_read readable ts xs d is) depth deepest w rest some deep
are_read {element = element} readable _ _ _ (OneMore ts comma us x ys e is c more_is) depth deepest w rest some deep ends =
    ap (λ (vs : List Token). run element depth deepest w vs) (append_assoc ts (comma ++ us) rest)
    ∙ run_one readable depth deepest w ts ((comma ++ us) ++ rest) x is (comma_ends readable rest us ys e more_is comma c)
    ∙ ap (λ o. o >>= more (x ∷ [])) (read_comma readable us ys e (are_read readable us ys e more_is) comma c depth deepest rest some deep ends)
    ∙ more_twice (x ∷ []) ys (run element depth (max deepest (depth + e)) false rest)
are_read {element = element} readable _ _ _ (ListMore ts comma us xs ys d e is c more_is) depth deepest w rest some deep ends =
    ap (λ (vs : List Token). run element depth deepest w (Mark Open ∷ vs)) (append_assoc ts (Mark Close ∷ (comma ++ us)) rest)
    ∙ read_list readable ts xs d (are_read readable ts xs d is) depth deepest w ((comma ++ us) ++ rest) some deep
    ∙ ap (λ o. o >>= more xs) (read_comma readable us ys e (are_read readable us ys e more_is) comma c depth (max deepest (depth + (d + 1))) rest some (below_max deepest _ depth deep) ends)
    ∙ more_twice xs ys (run element depth (max (max deepest (depth + (d + 1))) (depth + e)) false rest)
    ∙ ap (λ (k : ℕ). run element depth k false rest >>= more (xs ++ ys)) (max_both deepest depth d e)

-- ---- newlines within a list

-- how many braces are open behind a token
abbrev step : ℕ → Token → ℕ
step j t = cond (is_symbol Open t) (j + 1) (cond (is_symbol Close t) (j - 1) j)

abbrev depth_of : ℕ → List Token → ℕ
depth_of j [] = j
depth_of j (t ∷ ts) = depth_of (step j t) ts

depth_append : (ts us : List Token) (j : ℕ) → depth_of j (ts ++ us) ≡ depth_of (depth_of j ts) us
depth_append [] us j = refl
depth_append (t ∷ ts) us j = depth_append ts us (step j t)

plain_depth : (ts : List Token) (j : ℕ) → AllByRecursion IsPlain ts → depth_of j ts ≡ j
plain_depth [] j plain = refl
plain_depth (t ∷ ts) j plain = rw (plain.0.0, plain.0.1) (plain_depth ts j plain.1)

braces_depth : (ts us : List Token) (j : ℕ) → ((i : ℕ) → depth_of i ts ≡ i) → depth_of j (Mark Open ∷ (ts ++ (Mark Close ∷ us))) ≡ depth_of j us
braces_depth ts us j same = depth_append ts (Mark Close ∷ us) (j + 1) ∙ ap (λ (i : ℕ). depth_of (i - 1) us) (same (j + 1)) ∙ ap (λ (i : ℕ). depth_of i us) (back_one j)

comma_depth : (comma us : List Token) (j : ℕ) → IsComma comma → depth_of j us ≡ j → depth_of j (comma ++ us) ≡ j
comma_depth _ us j NoComma same = same
comma_depth _ us j CommaSign same = same

elements_depth : {X : Type 0} {element : List Token → Read X} {Is : List Token → X → Type 0} {Ends : List Token → Type 0} → Readable element Is Ends → (ts : List Token) (xs : List X) (d : ℕ) → IsElements Is ts xs d → (j : ℕ) → depth_of j ts ≡ j
elements_depth readable _ _ _ (LastOne ts x is) j = plain_depth ts j (readable.plain ts x is)
elements_depth readable _ _ _ (LastList ts xs d is) j = braces_depth ts [] j (elements_depth readable ts xs d is)
elements_depth readable _ _ _ (OneMore ts comma us x ys e is c more_is) j = depth_append ts (comma ++ us) j ∙ ap (λ (i : ℕ). depth_of i (comma ++ us)) (plain_depth ts j (readable.plain ts x is)) ∙ comma_depth comma us j c (elements_depth readable us ys e more_is j)
elements_depth readable _ _ _ (ListMore ts comma us xs ys d e is c more_is) j = braces_depth ts (comma ++ us) j (elements_depth readable ts xs d is) ∙ comma_depth comma us j c (elements_depth readable us ys e more_is j)

open_within : (k j : ℕ) → k ≤ j → cond (nat_lt k 65) (k + 1) k ≤ j + 1
open_within k j h = grind (arith, nat_tests, h)

depth_within : (k j : ℕ) (t : Token) → k ≤ j → depth_after k t ≤ step j t
depth_within k j (Word text) h = h
depth_within k j (Quoted text) h = h
depth_within k j (Macro name) h = h
depth_within k j (Mark Open) h = open_within k j h
depth_within k j (Mark Close) h = omega (arith, h)
depth_within k j (Mark OpenParenthesis) h = h
depth_within k j (Mark CloseParenthesis) h = h
depth_within k j (Mark Comma) h = h
depth_within k j (Mark Slash) h = h
depth_within k j (Mark Not) h = h
depth_within k j (Mark NotEqual) h = h
depth_within k j (Mark Less) h = h
depth_within k j (Mark LessEqual) h = h
depth_within k j (Mark Greater) h = h
depth_within k j (Mark GreaterEqual) h = h
depth_within k j (Mark Between) h = h
depth_within k j (Mark Outside) h = h
depth_within k j (Mark Equals) h = h
depth_within k j Newline h = h
depth_within k j Bad h = h

-- the brace that closes a list, where newlines are blanks up to it
record Closes (k : ℕ) (us piece behind : List Token) : Type 0 where
  within : List Token
  whole : us ≡ within ++ Mark Close ∷ behind
  alike : (rest : List Token) → blanked k (within ++ Mark Close ∷ rest) ≡ piece ++ Mark Close ∷ rest

head_is : (t q : Token) (ts us : List Token) → t ∷ ts ≡ q ∷ us → t ≡ q
head_is t q ts us e = cc

tail_is : (t q : Token) (ts us : List Token) → t ∷ ts ≡ q ∷ us → ts ≡ us
tail_is t q ts us e = cc

not_empty : (piece behind : List Token) → [] ≡ piece ++ Mark Close ∷ behind → ⊥
not_empty [] behind e = cc
not_empty (t ∷ piece) behind e = cc

blanked_none : (k : ℕ) (ts : List Token) → k ≡ 0 → blanked k ts ≡ ts
blanked_none zero ts e = refl
blanked_none (suc k) ts e = absurd (omega (arith, e))

abbrev Closing : List Token → Type 0
Closing us = (k j : ℕ) (piece behind : List Token) → k ≤ j → depth_of j piece ≡ 1 → blanked k us ≡ piece ++ Mark Close ∷ behind → Closes k us piece behind

closes_token : (us : List Token) → Closing us → (t : Token) (k j : ℕ) (piece behind : List Token) → suc k ≤ j → depth_of j piece ≡ 1 → is_newline t ≡ false → t ∷ blanked (depth_after (suc k) t) us ≡ piece ++ Mark Close ∷ behind → Closes (suc k) (t ∷ us) piece behind
closes_token us closes t k j [] behind fits depth other e =
    let is = head_is t (Mark Close) (blanked (depth_after (suc k) t) us) behind e in
    let none : depth_after (suc k) t ≡ 0 = ap (depth_after (suc k)) is ∙ (let h : (suc k - 1) ≡ 0 = omega (arith, fits, depth) in h) in
    record {
      within = [];
      whole = ap (λ (q : Token). q ∷ us) is ∙ ap (λ (vs : List Token). Mark Close ∷ vs) (sym (blanked_none (depth_after (suc k) t) us none) ∙ tail_is t (Mark Close) (blanked (depth_after (suc k) t) us) behind e);
      alike = λ rest. ap (λ (vs : List Token). Mark Close ∷ vs) (blanked_none (suc k - 1) rest (omega (arith, fits, depth)));
    }
closes_token us closes t k j (q ∷ piece) behind fits depth other e =
    let is = head_is t q (blanked (depth_after (suc k) t) us) (piece ++ Mark Close ∷ behind) e in
    let within = depth_within (suc k) j t fits in
    let next = closes (depth_after (suc k) t) (step j t) piece behind within (ap (λ (p : Token). depth_of (step j p) piece) is ∙ depth) (tail_is t q (blanked (depth_after (suc k) t) us) (piece ++ Mark Close ∷ behind) e) in
    record {
      within = t ∷ next.within;
      whole = ap (λ (vs : List Token). t ∷ vs) next.whole;
      alike = λ rest. rw other (ap (λ (vs : List Token). t ∷ vs) (next.alike rest) ∙ ap (λ (p : Token). p ∷ (piece ++ Mark Close ∷ rest)) is);
    }

closes_step : (us : List Token) → Closing us → (t : Token) (k j : ℕ) (piece behind : List Token) → suc k ≤ j → depth_of j piece ≡ 1 → blanked (suc k) (t ∷ us) ≡ piece ++ Mark Close ∷ behind → Closes (suc k) (t ∷ us) piece behind
closes_step us closes t k j piece behind fits depth e = cases (is_newline t) refl e
  where
    cases : (b : Bool) → is_newline t ≡ b → cond b (blanked (suc k) us) (t ∷ blanked (depth_after (suc k) t) us) ≡ piece ++ Mark Close ∷ behind → Closes (suc k) (t ∷ us) piece behind
    cases true newline e =
        let next = closes (suc k) j piece behind fits depth e in
        record { within = t ∷ next.within; whole = ap (λ (vs : List Token). t ∷ vs) next.whole; alike = λ rest. rw newline (next.alike rest) }
    cases false other e = closes_token us closes t k j piece behind fits depth other e

closes : (us : List Token) → Closing us
closes us zero j piece behind fits depth e = record { within = piece; whole = e; alike = λ rest. refl }
closes [] (suc k) j piece behind fits depth e = absurd (not_empty piece behind e)
closes (t ∷ us) (suc k) j piece behind fits depth e = closes_step us (closes us) t k j piece behind fits depth e

one_longer : (k : ℕ) (t : Token) (us : List Token) (b : Bool) → length (blanked (suc k) us) ≤ length us → length (blanked (depth_after (suc k) t) us) ≤ length us → length (cond b (blanked (suc k) us) (t ∷ blanked (depth_after (suc k) t) us)) ≤ length (t ∷ us)
one_longer k t us true h i = omega (arith, h)
one_longer k t us false h i = omega (arith, i)

blanked_no_longer : (us : List Token) (k : ℕ) → length (blanked k us) ≤ length us
blanked_no_longer us zero = omega arith
blanked_no_longer [] (suc k) = omega arith
blanked_no_longer (t ∷ us) (suc k) = one_longer k t us (is_newline t) (blanked_no_longer us (suc k)) (blanked_no_longer us (depth_after (suc k) t))

-- ---- lists

max_one : (d : ℕ) → max 1 (1 + d) ≡ d + 1
max_one d = grind arith

-- what a list gives
abbrev listed : {X : Type 0} → List X → ℕ → List Token → Elements X × List Token
listed xs d behind = (record { items = xs; deepest = d }, behind)

listed_is : {X : Type 0} (xs : List X) (d : ℕ) (behind : List Token) → listed (xs ++ []) (max 1 (1 + d)) behind ≡ listed xs (d + 1) behind
listed_is xs d behind = ap (λ items. listed items (max 1 (1 + d)) behind) (append-nil xs) ∙ ap (λ (k : ℕ). listed xs k behind) (max_one d)

within_took : {X : Type 0} {element : List Token → Read X} {Is : List Token → X → Type 0} {Ends : List Token → Type 0} → Readable element Is Ends → (n : ℕ) (us : List Token) (y : Elements X × List Token) → elements element n 1 1 true (blanked 1 us) ≡ Some y → Took (IsList Is) (Mark Open ∷ us) y
within_took {X = X} {element = element} {Is = Is} readable n us y e =
    let ran = run_took readable n n (omega arith) 1 1 (omega arith) (omega arith) true (blanked 1 us) y e in
    let is = wanted_is true ran.piece ran.xs ran.d ran.is refl in
    let close = closes us 1 1 ran.piece ran.behind (omega arith) (elements_depth readable ran.piece ran.xs ran.d is 1) ran.whole in
    let last : listed [] (max 1 (1 + ran.d)) ran.behind ≡ ran.z = some_is (listed [] (max 1 (1 + ran.d)) ran.behind) ran.z ran.closed in
    let value : y ≡ listed ran.xs (ran.d + 1) ran.behind = ran.value ∙ ap (prefixed ran.xs) (sym last) ∙ listed_is ran.xs ran.d ran.behind in
    subst (λ (z : Elements X × List Token). Took (IsList Is) (Mark Open ∷ us) z) (sym value) (record {
      piece = Mark Open ∷ (close.within ++ (Mark Close ∷ []));
      whole = ap (λ (vs : List Token). Mark Open ∷ vs) (close.whole ∙ sym (append_assoc close.within (Mark Close ∷ []) ran.behind));
      is = Braces close.within ran.piece ran.xs ran.d (close.alike []) is;
    })

pub list_took : {X : Type 0} {element : List Token → Read X} {Is : List Token → X → Type 0} {Ends : List Token → Type 0} → Readable element Is Ends → (ts : List Token) (y : Elements X × List Token) → list_at element ts ≡ Some y → Took (IsList Is) ts y
unfolding list_at list_opened
list_took {X = X} {element = element} {Is = Is} readable ts y e = cases (begins_symbol Open ts) refl e
  where
    cases : (b : Bool) → begins_symbol Open ts ≡ b → cond (cond {A = Bool × List Token} b (true, blanked 1 (drop 1 ts)) (false, ts)).0 (elements element (length ts) 1 1 true (cond {A = Bool × List Token} b (true, blanked 1 (drop 1 ts)) (false, ts)).1) None ≡ Some y → Took (IsList Is) ts y
    cases true opens e = subst (λ (us : List Token). Took (IsList Is) us y) (sym (symbol_is Open ts opens)) (within_took readable (length ts) (drop 1 ts) y e)
    cases false opens e = absurd cc

run_all : {X : Type 0} {element : List Token → Read X} {Is : List Token → X → Type 0} {Ends : List Token → Type 0} → Readable element Is Ends → (n : ℕ) (ts rest : List Token) (xs : List X) (d : ℕ) → IsElements Is ts xs d → length (ts ++ (Mark Close ∷ rest)) < n → elements element n 1 1 true (ts ++ (Mark Close ∷ rest)) ≡ Some (listed xs (d + 1) rest)
run_all {element = element} readable n ts rest xs d is h =
    run_is readable n 1 1 true (ts ++ (Mark Close ∷ rest)) h
    ∙ are_read readable ts xs d is 1 1 true (Mark Close ∷ rest) (omega arith) (omega arith) (readable.close_ends rest)
    ∙ ap (λ o. o >>= more xs) (run_end element (max 1 (1 + d)) rest)
    ∙ ap (λ y. Some y) (listed_is xs d rest)

blanked_before : (within ts rest : List Token) → blanked 1 (within ++ (Mark Close ∷ [])) ≡ ts ++ (Mark Close ∷ []) → depth_of 1 ts ≡ 1 → blanked 1 ((within ++ (Mark Close ∷ [])) ++ rest) ≡ ts ++ (Mark Close ∷ rest)
blanked_before within ts rest e depth =
    let close = closes (within ++ (Mark Close ∷ [])) 1 1 ts [] (omega arith) depth e in
    let same : within ≡ close.within = append_cancel_right within close.within (Mark Close ∷ []) close.whole in
    ap (blanked 1) (append_assoc within (Mark Close ∷ []) rest ∙ ap (λ (us : List Token). us ++ (Mark Close ∷ rest)) same) ∙ close.alike rest

pub list_reads : {X : Type 0} {element : List Token → Read X} {Is : List Token → X → Type 0} {Ends : List Token → Type 0} → Readable element Is Ends → (ts rest : List Token) (list : Elements X) → IsList Is ts list → list_at element (ts ++ rest) ≡ Some (list, rest)
unfolding list_at list_opened
list_reads {element = element} readable _ rest _ (Braces within ts xs d e is) =
    let us = (within ++ (Mark Close ∷ [])) ++ rest in
    let blank = blanked_before within ts rest e (elements_depth readable ts xs d is 1) in
    let short = blanked_no_longer us 1 in
    ap (elements element (length (Mark Open ∷ us)) 1 1 true) blank
    ∙ run_all readable (length (Mark Open ∷ us)) ts rest xs d is (let l = ap (λ (vs : List Token). length vs) blank in omega (arith, short, l))

-- ---- x | list(x)

-- a production is read exactly where the grammar spells it, before what may follow it
pub record Spells {X : Type 0} (read : List Token → Read X) (Is : List Token → X → Type 0) (Ends : List Token → Type 0) : Type 0 where
  pub took : (ts : List Token) (x : X × List Token) → read ts ≡ Some x → Took Is ts x
  pub reads : (ts rest : List Token) (x : X) → Is ts x → Ends rest → read (ts ++ rest) ≡ Some (x, rest)

lone_took : {X : Type 0} {element : List Token → Read X} {Is : List Token → X → Type 0} {Ends : List Token → Type 0} → Readable element Is Ends → (ts : List Token) (y : Elements X × List Token) → (element ts >>= λ x. Some (listed (x.0 ∷ []) 0 x.1)) ≡ Some y → Took (IsSome Is) ts y
lone_took {X = X} {element = element} {Is = Is} readable ts y e =
    let a = bind_some (element ts) (λ x. Some (listed (x.0 ∷ []) 0 x.1)) y e in
    let t = readable.took ts a.0 a.1 in
    subst (λ (z : Elements X × List Token). Took (IsSome Is) ts z) (some_is (listed (a.0.0 ∷ []) 0 a.0.1) y a.2) (record { piece = t.piece; whole = t.whole; is = One t.piece a.0.0 t.is })

some_took : {X : Type 0} {element : List Token → Read X} {Is : List Token → X → Type 0} {Ends : List Token → Type 0} → Readable element Is Ends → (ts : List Token) (y : Elements X × List Token) → some_at element ts ≡ Some y → Took (IsSome Is) ts y
unfolding some_at
some_took {element = element} {Is = Is} readable ts y e = cases (begins_symbol Open ts) e
  where
    cases : (b : Bool) → cond b (list_at element ts) (element ts >>= λ x. Some (listed (x.0 ∷ []) 0 x.1)) ≡ Some y → Took (IsSome Is) ts y
    cases true e = let t = list_took readable ts y e in record { piece = t.piece; whole = t.whole; is = Listed t.piece y.0 t.is }
    cases false e = lone_took readable ts y e

list_opens : {X : Type 0} {Is : List Token → X → Type 0} (ts rest : List Token) (list : Elements X) → IsList Is ts list → begins_symbol Open (ts ++ rest) ≡ true
list_opens _ rest _ (Braces within ts xs d e is) = refl

some_reads : {X : Type 0} {element : List Token → Read X} {Is : List Token → X → Type 0} {Ends : List Token → Type 0} → Readable element Is Ends → (ts rest : List Token) (list : Elements X) → IsSome Is ts list → Ends rest → some_at element (ts ++ rest) ≡ Some (list, rest)
unfolding some_at
some_reads readable _ rest _ (One ts x is) ends = rw ((readable.heads ts rest x is).not_open, readable.reads ts rest x is ends) refl
some_reads readable _ rest _ (Listed ts list is) ends = rw (list_opens ts rest list is) (list_reads readable ts rest list is)

pub some_spells : {X : Type 0} {element : List Token → Read X} {Is : List Token → X → Type 0} {Ends : List Token → Type 0} → Readable element Is Ends → Spells (some_at element) (IsSome Is) Ends
some_spells readable = record { took = some_took readable; reads = some_reads readable }

-- ---- elements of any kind

not_open_front : (ts rest : List Token) → AllByRecursion IsPlain ts → 0 < length ts → begins_symbol Open (ts ++ rest) ≡ false
not_open_front [] rest plain h = absurd (omega (arith, h))
not_open_front (t ∷ ts) rest plain h = plain.0.0

not_close_front : (ts rest : List Token) → AllByRecursion IsPlain ts → 0 < length ts → begins_symbol Close (ts ++ rest) ≡ false
not_close_front [] rest plain h = absurd (omega (arith, h))
not_close_front (t ∷ ts) rest plain h = plain.0.1

readable : {X : Type 0} {read : List Token → Read X} {follows : List Token → Bool} → IsElement read follows → Readable read (IsReadAs read) (λ rest. follows rest ≡ true)
readable {read = read} is = record {
  took = λ ts x e. let t = is.front ts x.1 x.0 e in record { piece = t.0; whole = t.1; is = t.2 };
  reads = λ ts rest x e ends. is.alike ts rest x e ends;
  heads = λ ts rest x e. record {
    ends = is.element_follows ts rest x e;
    not_open = not_open_front ts rest (is.plain ts x e) (is.some ts x e);
    not_comma = is.no_comma ts rest x e;
    not_close = not_close_front ts rest (is.plain ts x e) (is.some ts x e);
  };
  open_ends = is.open_follows;
  comma_ends = is.comma_follows;
  close_ends = is.close_follows;
  plain = is.plain;
  some = is.some;
}

pub list_spelled : {X : Type 0} (read : List Token → Read X) (follows : List Token → Bool) → IsElement read follows → (ts rest : List Token) (l : Elements X) → list_at read ts ≡ Some (l, rest) → IsListBefore (IsReadAs read) ts l rest
list_spelled read follows is ts rest l e = let t = list_took (readable is) ts (l, rest) e in (t.piece, t.whole, t.is)

pub spelled_read : {X : Type 0} (read : List Token → Read X) (follows : List Token → Bool) → IsElement read follows → (ts rest : List Token) (l : Elements X) → IsListBefore (IsReadAs read) ts l rest → list_at read ts ≡ Some (l, rest)
spelled_read read follows is ts rest l own = ap (list_at read) own.1 ∙ list_reads (readable is) own.0 rest l own.2
