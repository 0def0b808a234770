-- What is behind a word is read exactly where the grammar spells it.
use Rattle.std.proofs.Common.{◌≡◌, Bool, true, false, cond, List, [], ◌∷◌, ◌++◌, drop, Option, Some, None, refl, sym, ap, subst, ◌∙◌}
use Rattle.std.specs.Prelude.{bytes_eq}
use Rattle.std.proofs.lemmas.Slice.Eq.{bytes_eq-Decides}
use Rattle.std.specs.Prelude.{ℕ}
use Rattle.pf_tokens.specs.Tokens.{Token, Word}
use Rattle.pf_tokens.specs.Productions.{Read, ◌>>=◌, begins}
use Rattle.pf_tokens.specs.inner.Shorter.{bind_some, some_is}
use Rattle.pf_tokens.proofs.Fronts.{Took, begins_is}
use Rattle.pf_tokens.proofs.ListsSpelled.{Spells}
use Rattle.pf_statements.specs.Conditions.{behind_word}
use Rattle.pf_statements.specs.ConditionGrammar.{IsBehind, Missing, Behind}

-- the word is there, and what it wants
pub record Given {X : Type 0} (word : List ℕ) (Is : List Token → X → Type 0) (ts : List Token) (y : Option X × List Token) : Type 0 where
  pub x : X
  pub piece : List Token
  pub is : Is piece x
  pub value : y.0 ≡ Some x
  pub whole : ts ≡ Word word ∷ (piece ++ y.1)

pub behind_given : {X : Type 0} {read : List Token → Read X} {Is : List Token → X → Type 0} {Ends : List Token → Type 0} (word : List ℕ) → Spells read Is Ends → (ts : List Token) (y : Option X × List Token) → begins word ts ≡ true → behind_word word read ts ≡ Some y → Given word Is ts y
behind_given {X = X} {read = read} {Is = Is} word spells ts y begun e =
    let e' = subst (λ (b : Bool). cond b (read (drop 1 ts) >>= λ x. Some (Some x.0, x.1)) (Some (None, ts)) ≡ Some y) begun e in
    let a = bind_some (read (drop 1 ts)) (λ x. Some (Some x.0, x.1)) y e' in
    let t = spells.took (drop 1 ts) a.0 a.1 in
    let same = some_is (Some a.0.0, a.0.1) y a.2 in
    record {
      x = a.0.0;
      piece = t.piece;
      is = t.is;
      value = ap (λ (z : Option X × List Token). z.0) (sym same);
      whole = begins_is word ts begun ∙ ap (λ (us : List Token). Word word ∷ us) t.whole ∙ ap (λ (z : Option X × List Token). Word word ∷ (t.piece ++ z.1)) same;
    }

pub behind_took : {X : Type 0} {read : List Token → Read X} {Is : List Token → X → Type 0} {Ends : List Token → Type 0} (word : List ℕ) → Spells read Is Ends → (ts : List Token) (y : Option X × List Token) → behind_word word read ts ≡ Some y → Took (IsBehind word Is) ts y
behind_took {X = X} {read = read} {Is = Is} word spells ts y e = cases (begins word ts) refl
  where
    cases : (b : Bool) → begins word ts ≡ b → Took (IsBehind word Is) ts y
    cases true begun =
        let g = behind_given word spells ts y begun e in
        record { piece = Word word ∷ g.piece; whole = g.whole; is = subst (λ (o : Option X). IsBehind word Is (Word word ∷ g.piece) o) (sym g.value) (Behind g.piece g.x g.is) }
    cases false other =
        let e' = subst (λ (b : Bool). cond b (read (drop 1 ts) >>= λ x. Some (Some x.0, x.1)) (Some (None, ts)) ≡ Some y) other e in
        subst (λ (z : Option X × List Token). Took (IsBehind word Is) ts z) (some_is (None, ts) y e') (record { piece = []; whole = refl; is = Missing })

pub same_word : (word : List ℕ) → bytes_eq word word ≡ true
same_word word = (bytes_eq-Decides word word).1 refl

pub behind_reads : {X : Type 0} {read : List Token → Read X} {Is : List Token → X → Type 0} {Ends : List Token → Type 0} (word : List ℕ) → Spells read Is Ends → (ts rest : List Token) (o : Option X) → IsBehind word Is ts o → begins word rest ≡ false → Ends rest → behind_word word read (ts ++ rest) ≡ Some (o, rest)
behind_reads word spells _ rest _ Missing other ends = rw other refl
behind_reads word spells _ rest _ (Behind ts x is) other ends = rw (same_word word, spells.reads ts rest x is ends) refl
