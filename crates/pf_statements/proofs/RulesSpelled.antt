-- The front of a rule is read exactly where the grammar spells it.
use Rattle.std.proofs.Common.{◌≡◌, ℕ, ◌<◌, ◌⊎◌, inl, inr, Bool, true, false, cond, List, [], ◌∷◌, ◌++◌, drop, Option, Some, None, refl, sym, ap, subst, ◌∙◌, arith}
use Rattle.std.specs.Prelude.{codes}
use Rattle.pf_tokens.specs.Tokens.{Token, Word}
use Rattle.pf_tokens.specs.Productions.{begins, option_at}
use Rattle.pf_tokens.specs.inner.Shorter.{some_is}
use Rattle.pf_rules.specs.declared.parts.Policy.{Policy}
use Rattle.pf_rules.specs.declared.parts.Policy.TheVariants as policy
use Rattle.pf_rules.specs.declared.parts.Direction.{Direction}
use Rattle.pf_rules.specs.declared.parts.Direction.TheVariants.{In, Out}
use Rattle.pf_statements.specs.declared.written.WrittenAction.{WrittenAction}
use Rattle.pf_statements.specs.declared.written.WrittenAction.TheVariants.{Pass, Block as Blocks}
use Rattle.pf_statements.specs.Statements.{policy_at, action_at}
use Rattle.pf_statements.specs.Directions.{direction_at}
use Rattle.pf_statements.specs.ConditionGrammar.{key}
use Rattle.pf_statements.specs.Grammar.{IsPolicy, DropWord, ReturnWord, IsAction, PassWord, BlockWord, BlockSaid, IsDirection, NoDirection, InWord, OutWord, IsSaid, Unsaid, Said}
use Rattle.pf_tokens.proofs.Fronts.{Took, begins_is}
use Rattle.pf_statements.proofs.Fronts.{rank, not_begun}
use Rattle.pf_statements.proofs.BehindSpelled.{same_word}

-- ---- the words at the front

abbrev policies : Bool → Bool → List Token → Option Policy × List Token
policies b k ts = cond b (Some policy.Drop, drop 1 ts) (cond k (Some policy.Return, drop 1 ts) (None, ts))

abbrev pub PolicyTook : List Token → Option Policy × List Token → Type 0
PolicyTook ts read = ((x : Policy × List Token) × (read ≡ (Some x.0, x.1)) × Took IsPolicy ts x) ⊎ (read ≡ (None, ts))

pub policy_took : (ts : List Token) → PolicyTook ts (policy_at ts)
unfolding policy_at
policy_took ts = cases (begins (codes "drop") ts) refl (begins (codes "return") ts) refl
  where
    cases : (b : Bool) → begins (codes "drop") ts ≡ b → (k : Bool) → begins (codes "return") ts ≡ k → PolicyTook ts (policies b k ts)
    cases true drops k returns = inl ((policy.Drop, drop 1 ts), refl, record { piece = key (codes "drop"); whole = begins_is (codes "drop") ts drops; is = DropWord })
    cases false drops true returns = inl ((policy.Return, drop 1 ts), refl, record { piece = key (codes "return"); whole = begins_is (codes "return") ts returns; is = ReturnWord })
    cases false drops false returns = inr refl

pub policy_reads : (ts rest : List Token) (said : Policy) → IsPolicy ts said → policy_at (ts ++ rest) ≡ (Some said, rest)
unfolding policy_at
policy_reads _ rest _ DropWord = refl
policy_reads _ rest _ ReturnWord = refl

policy_none : (rest : List Token) → 1 < rank rest → policy_at rest ≡ (None, rest)
unfolding policy_at
policy_none rest h = rw (not_begun (codes "drop") rest h, not_begun (codes "return") rest h) refl

block_took : (ts us : List Token) → ts ≡ Word (codes "block") ∷ us → (x : WrittenAction × List Token) → Some (Blocks (policy_at us).0, (policy_at us).1) ≡ Some x → Took IsAction ts x
block_took ts us whole x e =
    elim (policy_took us) [
      | inl said ↦
          let same : (Blocks (Some said.0.0), said.0.1) ≡ x = ap (λ (p : Option Policy × List Token). (Blocks p.0, p.1)) (sym said.1) ∙ some_is (Blocks (policy_at us).0, (policy_at us).1) x e in
          let t = said.2 in
          subst (λ (z : WrittenAction × List Token). Took IsAction ts z) same (record { piece = Word (codes "block") ∷ t.piece; whole = whole ∙ ap (λ (vs : List Token). Word (codes "block") ∷ vs) t.whole; is = BlockSaid t.piece said.0.0 t.is })
      | inr none ↦
          let same : (Blocks None, us) ≡ x = ap (λ (p : Option Policy × List Token). (Blocks p.0, p.1)) (sym none) ∙ some_is (Blocks (policy_at us).0, (policy_at us).1) x e in
          subst (λ (z : WrittenAction × List Token). Took IsAction ts z) same (record { piece = key (codes "block"); whole = whole; is = BlockWord })
    ]

pub action_took : (ts : List Token) (x : WrittenAction × List Token) → action_at ts ≡ Some x → Took IsAction ts x
unfolding action_at
action_took ts x e = cases (begins (codes "pass") ts) refl (begins (codes "block") ts) refl e
  where
    cases : (b : Bool) → begins (codes "pass") ts ≡ b → (k : Bool) → begins (codes "block") ts ≡ k → cond b (Some (Pass, drop 1 ts)) (cond k (Some (Blocks (policy_at (drop 1 ts)).0, (policy_at (drop 1 ts)).1)) None) ≡ Some x → Took IsAction ts x
    cases true pass k block e = subst (λ (z : WrittenAction × List Token). Took IsAction ts z) (some_is (Pass, drop 1 ts) x e) (record { piece = key (codes "pass"); whole = begins_is (codes "pass") ts pass; is = PassWord })
    cases false pass true block e = block_took ts (drop 1 ts) (begins_is (codes "block") ts block) x e
    cases false pass false block e = absurd cc

pub action_reads : (ts rest : List Token) (x : WrittenAction) → IsAction ts x → 1 < rank rest → action_at (ts ++ rest) ≡ Some (x, rest)
unfolding action_at
action_reads _ rest _ PassWord h = refl
action_reads _ rest _ BlockWord h = rw (policy_none rest h) refl
action_reads _ rest _ (BlockSaid ts said is) h = rw (policy_reads ts rest said is) refl

pub direction_took : (ts : List Token) → Took IsDirection ts (direction_at ts)
unfolding direction_at
direction_took ts = cases (begins (codes "in") ts) refl (begins (codes "out") ts) refl
  where
    cases : (b : Bool) → begins (codes "in") ts ≡ b → (k : Bool) → begins (codes "out") ts ≡ k → Took IsDirection ts (cond b (Some In, drop 1 ts) (cond k (Some Out, drop 1 ts) (None, ts)))
    cases true is_in k is_out = record { piece = key (codes "in"); whole = begins_is (codes "in") ts is_in; is = InWord }
    cases false is_in true is_out = record { piece = key (codes "out"); whole = begins_is (codes "out") ts is_out; is = OutWord }
    cases false is_in false is_out = record { piece = []; whole = refl; is = NoDirection }

pub direction_reads : (ts rest : List Token) (x : Option Direction) → IsDirection ts x → 2 < rank rest → direction_at (ts ++ rest) ≡ (x, rest)
unfolding direction_at
direction_reads _ rest _ NoDirection h = rw (not_begun (codes "in") rest h, not_begun (codes "out") rest h) refl
direction_reads _ rest _ InWord h = refl
direction_reads _ rest _ OutWord h = refl

pub direction_rank : (ts rest : List Token) (x : Option Direction) → IsDirection ts x → 2 < rank rest → 1 < rank (ts ++ rest)
direction_rank _ rest _ NoDirection h = omega (arith, h)
direction_rank _ rest _ InWord h = omega arith
direction_rank _ rest _ OutWord h = omega arith

pub said_took : (word : List ℕ) (ts : List Token) → Took (IsSaid word) ts (option_at word ts)
unfolding option_at
said_took word ts = cases (begins word ts) refl
  where
    cases : (b : Bool) → begins word ts ≡ b → Took (IsSaid word) ts (cond b (true, drop 1 ts) (false, ts))
    cases true begun = record { piece = key word; whole = begins_is word ts begun; is = Said }
    cases false begun = record { piece = []; whole = refl; is = Unsaid }

pub said_reads : (word : List ℕ) (ts rest : List Token) (x : Bool) → IsSaid word ts x → begins word rest ≡ false → option_at word (ts ++ rest) ≡ (x, rest)
unfolding option_at
said_reads word _ rest _ Unsaid other = rw other refl
said_reads word _ rest _ Said other = rw (same_word word) refl

pub log_rank : (ts rest : List Token) (x : Bool) → IsSaid (codes "log") ts x → 3 < rank rest → 2 < rank (ts ++ rest)
log_rank _ rest _ Unsaid h = omega (arith, h)
log_rank _ rest _ Said h = omega arith

pub quick_rank : (ts rest : List Token) (x : Bool) → IsSaid (codes "quick") ts x → 4 < rank rest → 3 < rank (ts ++ rest)
quick_rank _ rest _ Unsaid h = omega (arith, h)
quick_rank _ rest _ Said h = omega arith
