-- Where a rule is over, no part of one follows.
use Rattle.std.proofs.Common.{◌≡◌, ◌<◌, true, false, List, [], ◌∷◌, ◌++◌, refl, ap, arith}
use Rattle.std.proofs.lemmas.Bool.{false≢true}
use Rattle.pf_rules.specs.declared.profile.Profile.{Profile}
use Rattle.pf_tokens.specs.declared.symbol.Symbol.TheVariants.{Open, Close}
use Rattle.pf_tokens.specs.Tokens.{Token, Word, Quoted, Macro, Mark, Newline, Bad}
use Rattle.pf_tokens.specs.Productions.{begins_symbol, starts}
use Rattle.pf_statements.specs.Targets.{may_name}
use Rattle.pf_tokens.proofs.Fronts.{symbol_is}
use Rattle.pf_statements.proofs.Fronts.{rank}
use Rattle.pf_statements.specs.Options.{is_over}

-- what may follow an anchor rule up to its block, or a rule
pub record Follows (profile : Profile) (rest : List Token) : Type 0 where
  pub late : 11 < rank rest
  pub nameless : starts (may_name profile) rest ≡ false

closes : (profile : Profile) (ts us : List Token) → ts ≡ Mark Close ∷ us → Follows profile ts
closes profile ts us e = record {
  late = (let r = ap rank e in omega (arith, r));
  nameless = ap (starts (may_name profile)) e;
}

pub over_follows : (profile : Profile) (rest : List Token) → is_over rest ≡ true → Follows profile rest
over_follows profile [] e = record { late = omega arith; nameless = refl }
over_follows profile (Word text ∷ ts) e = absurd (false≢true e)
over_follows profile (Quoted text ∷ ts) e = absurd (false≢true e)
over_follows profile (Macro name ∷ ts) e = absurd (false≢true e)
over_follows profile (Mark symbol ∷ ts) e = closes profile (Mark symbol ∷ ts) ts (symbol_is Close (Mark symbol ∷ ts) e)
over_follows profile (Newline ∷ ts) e = record { late = omega arith; nameless = refl }
over_follows profile (Bad ∷ ts) e = absurd (false≢true e)

pub open_follows : (profile : Profile) (rest : List Token) → Follows profile (Mark Open ∷ rest)
open_follows profile rest = record { late = omega arith; nameless = refl }

-- no block begins where a rule is over
pub over_not_open : (rest : List Token) → is_over rest ≡ true → begins_symbol Open rest ≡ false
over_not_open [] e = refl
over_not_open (Word text ∷ ts) e = refl
over_not_open (Quoted text ∷ ts) e = refl
over_not_open (Macro name ∷ ts) e = refl
over_not_open (Mark symbol ∷ ts) e = ap (begins_symbol Open) (symbol_is Close (Mark symbol ∷ ts) e)
over_not_open (Newline ∷ ts) e = refl
over_not_open (Bad ∷ ts) e = refl

-- what is over within a block is over before the brace that closes it
pub over_within : (us rest : List Token) → is_over us ≡ true → is_over (us ++ (Mark Close ∷ rest)) ≡ true
over_within [] rest e = refl
over_within (t ∷ us) rest e = e

pub over_before : (us rest : List Token) → is_over (us ++ (Mark Close ∷ rest)) ≡ true → is_over us ≡ true
over_before [] rest e = refl
over_before (t ∷ us) rest e = e
