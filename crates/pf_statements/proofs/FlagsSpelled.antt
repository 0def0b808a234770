-- Flags and types of ICMP are read exactly where the grammar spells them.
use Rattle.std.proofs.Common.{◌≡◌, ℕ, zero, suc, ◌+◌, ◌<◌, ◌&&◌, inl, inr, Bool, true, false, cond, List, [], ◌∷◌, ◌++◌, drop, length, Option, Some, None, refl, sym, ap, subst, ◌∙◌, arith}
use Rattle.std.specs.Prelude.{bytes_eq, codes, is_some}
use Rattle.std.specs.List.{AllByRecursion}
use Rattle.std.proofs.lemmas.Bool.{false≢true}
use Rattle.std.proofs.lemmas.List.{append-nil, length-append}
use Rattle.std.proofs.lemmas.Slice.Eq.{bytes_eq-Decides}
use Rattle.pf_rules.specs.declared.profile.Profile.{Profile}
use Rattle.pf_tokens.specs.declared.symbol.Symbol.TheVariants as mark
use Rattle.pf_tokens.specs.Tokens.{Token, Word, Mark}
use Rattle.pf_tokens.specs.Productions.{Read, ◌>>=◌, begins, begins_symbol, word_at}
use Rattle.pf_tokens.specs.Lists.{Elements, some_at, list_at}
use Rattle.pf_tokens.specs.inner.Shorter.{bind_some, some_is}
use Rattle.pf_rules.specs.declared.flags.TcpFlags.{TcpFlags}
use Rattle.pf_rules.specs.declared.parts.FlagTest.{FlagTest}
use Rattle.pf_rules.specs.declared.parts.FlagTest.TheVariants as flags
use Rattle.pf_statements.specs.declared.conditions.WrittenType.{WrittenType}
use Rattle.pf_rules.specs.Words.{icmp_type_of, flags_of, is_letter, no_flags, is_within}
use Rattle.pf_statements.specs.Conditions.{if_so, letters_at, just_within, flags_at, type_at, types_at, port_word_at}
use Rattle.pf_tokens.specs.ListGrammar.{Braces}
use Rattle.pf_statements.specs.ConditionGrammar.{key, IsFlags, AnyFlags, NoneOf, SomeOf, IsType, TypeWord, IsTypes, TypeAlone, TypeList}
use Rattle.pf_tokens.proofs.Fronts.{Took, begins_is, symbol_is, word_is}
use Rattle.pf_tokens.proofs.ListsSpelled.{Heads, Readable, list_took, list_reads}
use Rattle.pf_tokens.specs.ListGrammar.{IsPlain}
use Rattle.pf_statements.proofs.PiecesSpelled.{if_so_is, Anything, port_word_took, port_word_reads}

-- ---- flags

record SlashTook (set : TcpFlags) (us : List Token) (x : FlagTest × List Token) : Type 0 where
  text : List ℕ
  of : TcpFlags
  whole : us ≡ Mark mark.Slash ∷ Word text ∷ x.1
  is : flags_of text ≡ Some of
  within : is_within set of ≡ true
  value : flags.Just set of ≡ x.0

abbrev behind_set : TcpFlags × List Token → Read FlagTest
behind_set set = if_so (begins_symbol mark.Slash set.1) (drop 1 set.1) >>= λ slash. word_at slash >>= λ word. flags_of word.0 >>= λ of. just_within set.0 of >>= λ test. Some (test, word.1)

slash_took : (set : TcpFlags) (us : List Token) (x : FlagTest × List Token) → behind_set (set, us) ≡ Some x → SlashTook set us x
slash_took set us x e =
    let a = bind_some (if_so (begins_symbol mark.Slash us) (drop 1 us)) (λ slash. word_at slash >>= λ word. flags_of word.0 >>= λ of. just_within set of >>= λ test. Some (test, word.1)) x e in
    let s = if_so_is (begins_symbol mark.Slash us) (drop 1 us) a.0 a.1 in
    let w = bind_some (word_at a.0) (λ (word : List ℕ × List Token). flags_of word.0 >>= λ of. just_within set of >>= λ test. Some (test, word.1)) x a.2 in
    let f = bind_some (flags_of w.0.0) (λ of. just_within set of >>= λ test. Some (test, w.0.1)) x w.2 in
    let j = bind_some (just_within set f.0) (λ test. Some (test, w.0.1)) x f.2 in
    let k = if_so_is (is_within set f.0) (flags.Just set f.0) j.0 j.1 in
    let same = some_is (j.0, w.0.1) x j.2 in
    record {
      text = w.0.0;
      of = f.0;
      whole = symbol_is mark.Slash us s.0 ∙ ap (λ (vs : List Token). Mark mark.Slash ∷ vs) (s.1 ∙ word_is a.0 w.0 w.1 ∙ ap (λ (z : FlagTest × List Token). Word w.0.0 ∷ z.1) same);
      is = f.1;
      within = k.0;
      value = k.1 ∙ ap (λ (z : FlagTest × List Token). z.0) same;
    }

none_took : (ts : List Token) (x : FlagTest × List Token) → SlashTook no_flags ts x → Took IsFlags ts x
none_took ts x t = record { piece = Mark mark.Slash ∷ Word t.text ∷ []; whole = t.whole; is = subst (λ (test : FlagTest). IsFlags (Mark mark.Slash ∷ Word t.text ∷ []) test) t.value (NoneOf t.text t.of t.is) }

some_took : (ts : List Token) (y : List ℕ × List Token) (set : TcpFlags) (x : FlagTest × List Token) → ts ≡ Word y.0 ∷ y.1 → flags_of y.0 ≡ Some set → SlashTook set y.1 x → Took IsFlags ts x
some_took ts y set x e_ts e t = record { piece = Word y.0 ∷ Mark mark.Slash ∷ Word t.text ∷ []; whole = e_ts ∙ ap (λ (us : List Token). Word y.0 ∷ us) t.whole; is = subst (λ (test : FlagTest). IsFlags (Word y.0 ∷ Mark mark.Slash ∷ Word t.text ∷ []) test) t.value (SomeOf y.0 t.text set t.of e t.is t.within) }

pub flags_took : (ts : List Token) (x : FlagTest × List Token) → flags_at ts ≡ Some x → Took IsFlags ts x
unfolding flags_at letters_at
flags_took ts x e = cases (begins (codes "any") ts) refl (begins_symbol mark.Slash ts) refl e
  where
    cases : (b : Bool) → begins (codes "any") ts ≡ b → (k : Bool) → begins_symbol mark.Slash ts ≡ k → cond b (Some (flags.Any, drop 1 ts)) (cond k (Some (no_flags, ts)) (word_at ts >>= λ word. flags_of word.0 >>= λ set. Some (set, word.1)) >>= behind_set) ≡ Some x → Took IsFlags ts x
    cases true any k slash e = subst (λ (z : FlagTest × List Token). Took IsFlags ts z) (some_is (flags.Any, drop 1 ts) x e) (record { piece = key (codes "any"); whole = begins_is (codes "any") ts any; is = AnyFlags })
    cases false any true slash e = none_took ts x (slash_took no_flags ts x e)
    cases false any false slash e =
        let a = bind_some (word_at ts >>= λ word. flags_of word.0 >>= λ set. Some (set, word.1)) behind_set x e in
        let w = bind_some (word_at ts) (λ (word : List ℕ × List Token). flags_of word.0 >>= λ set. Some (set, word.1)) a.0 a.1 in
        let f = bind_some (flags_of w.0.0) (λ set. Some (set, w.0.1)) a.0 w.2 in
        let e' : behind_set (f.0, w.0.1) ≡ Some x = ap behind_set (some_is (f.0, w.0.1) a.0 f.2) ∙ a.2 in
        some_took ts w.0 f.0 x (word_is ts w.0 w.1) f.1 (slash_took f.0 w.0.1 x e')

any_no_flags : (set : TcpFlags) → flags_of (codes "any") ≡ Some set → ⊥
unfolding flags_of is_letter
any_no_flags set e = cc

not_any : (said : List ℕ) (set : TcpFlags) → flags_of said ≡ Some set → bytes_eq said (codes "any") ≡ false
not_any said set e = cases (bytes_eq said (codes "any")) refl
  where
    cases : (b : Bool) → bytes_eq said (codes "any") ≡ b → b ≡ false
    cases true same = absurd (any_no_flags set (ap flags_of (sym ((bytes_eq-Decides said (codes "any")).0 same)) ∙ e))
    cases false same = refl

none_within : (of : TcpFlags) → is_within no_flags of ≡ true
unfolding is_within
none_within of = refl

pub flags_reads : (ts rest : List Token) (x : FlagTest) → IsFlags ts x → flags_at (ts ++ rest) ≡ Some (x, rest)
unfolding flags_at letters_at
flags_reads _ rest _ AnyFlags = refl
flags_reads _ rest _ (NoneOf text of e) = rw (e, none_within of) refl
flags_reads _ rest _ (SomeOf said text set of e f g) = rw (not_any said set e, e, f, g) refl

-- ---- types

type_took : (profile : Profile) (ts : List Token) (x : WrittenType × List Token) → type_at profile ts ≡ Some x → Took IsType ts x
unfolding type_at
type_took profile ts x e =
    let w = bind_some (word_at ts) (λ (word : List ℕ × List Token). Some (record { number = icmp_type_of word.0 }, word.1)) x e in
    subst (λ (z : WrittenType × List Token). Took IsType ts z) (some_is _ x w.2) (record { piece = Word w.0.0 ∷ []; whole = word_is ts w.0 w.1; is = TypeWord w.0.0 })

type_reads : (profile : Profile) (ts rest : List Token) (x : WrittenType) → IsType ts x → Anything rest → type_at profile (ts ++ rest) ≡ Some (x, rest)
unfolding type_at
type_reads profile _ rest _ (TypeWord word) ends = refl

type_heads : (ts rest : List Token) (x : WrittenType) → IsType ts x → Heads Anything (ts ++ rest)
type_heads _ rest _ (TypeWord word) = record { ends = tt; not_open = refl; not_comma = refl; not_close = refl }

type_plain : (ts : List Token) (x : WrittenType) → IsType ts x → AllByRecursion IsPlain ts
type_plain _ _ (TypeWord word) = ((refl, refl), tt)

type_some : (ts : List Token) (x : WrittenType) → IsType ts x → 0 < length ts
type_some _ _ (TypeWord word) = omega arith

pub types_readable : (profile : Profile) → Readable (type_at profile) IsType Anything
types_readable profile = record {
  took = type_took profile;
  reads = type_reads profile;
  heads = type_heads;
  open_ends = λ rest. tt;
  comma_ends = λ rest. tt;
  close_ends = λ rest. tt;
  plain = type_plain;
  some = type_some;
}

opened_list : (profile : Profile) (ts : List Token) → begins_symbol mark.Open ts ≡ true → some_at (type_at profile) ts ≡ list_at (type_at profile) ts
unfolding some_at
opened_list profile ts opens = rw opens refl

pub types_took : (profile : Profile) (ts : List Token) (x : Elements WrittenType × List Token) → types_at profile ts ≡ Some x → Took (IsTypes profile) ts x
unfolding types_at
types_took profile ts x e = cases (begins_symbol mark.Open ts) refl e
  where
    cases : (b : Bool) → begins_symbol mark.Open ts ≡ b → cond b (some_at (type_at profile) ts) (port_word_at profile ts >>= λ word. Some (record { items = record { number = icmp_type_of word.0 } ∷ []; deepest = 0 }, word.1)) ≡ Some x → Took (IsTypes profile) ts x
    cases true opens e =
        let t = list_took (types_readable profile) ts x (sym (opened_list profile ts opens) ∙ e) in
        record { piece = t.piece; whole = t.whole; is = TypeList t.piece x.0 t.is }
    cases false opens e =
        let w = bind_some (port_word_at profile ts) (λ (word : List ℕ × List Token). Some (record { items = record { number = icmp_type_of word.0 } ∷ []; deepest = 0 }, word.1)) x e in
        let p = port_word_took profile ts w.0 w.1 in
        subst (λ (z : Elements WrittenType × List Token). Took (IsTypes profile) ts z) (some_is _ x w.2) (record { piece = Word w.0.0 ∷ []; whole = p.0; is = TypeAlone w.0.0 p.1 })

pub types_reads : (profile : Profile) (ts rest : List Token) (x : Elements WrittenType) → IsTypes profile ts x → types_at profile (ts ++ rest) ≡ Some (x, rest)
unfolding types_at
types_reads profile _ rest _ (TypeAlone word free) = rw (port_word_reads profile word rest free) refl
types_reads profile _ rest _ (TypeList _ _ (Braces within ts xs d e is)) =
    let whole = Mark mark.Open ∷ (within ++ (Mark mark.Close ∷ [])) in
    opened_list profile (whole ++ rest) refl ∙ list_reads (types_readable profile) whole rest (record { items = xs; deepest = d + 1 }) (Braces within ts xs d e is)
