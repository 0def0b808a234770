-- Options and rules are read exactly where the grammar spells them.
use Rattle.std.proofs.Common.{◌≡◌, ℕ, zero, suc, ◌<◌, ◌&&◌, Bool, true, false, cond, List, [], ◌∷◌, ◌++◌, drop, length, Option, Some, None, refl, sym, ap, subst, ◌∙◌, append_assoc, arith}
use Rattle.std.specs.Prelude.{bytes_eq, codes, is_some}
use Rattle.std.proofs.lemmas.Bool.{false≢true}
use Rattle.std.proofs.lemmas.List.{append-nil, length-append}
use Rattle.pf_rules.specs.declared.profile.Profile.{Profile}
use Rattle.pf_tokens.specs.Tokens.{Token, Word}
use Rattle.pf_tokens.specs.Productions.{◌>>=◌, begins, option_at}
use Rattle.pf_tokens.specs.Lists.{Elements}
use Rattle.pf_tokens.specs.inner.Shorter.{bind_some, some_is}
use Rattle.pf_rules.specs.declared.parts.FlagTest.{FlagTest}
use Rattle.pf_statements.specs.declared.written.WrittenAction.{WrittenAction}
use Rattle.pf_statements.specs.declared.conditions.WrittenType.{WrittenType}
use Rattle.pf_statements.specs.Conditions.{if_so, flags_at, types_at, common_at}
use Rattle.pf_statements.specs.Options.{is_over, until_over}
use Rattle.pf_statements.specs.Statements.{Options, no_options, flags_option, state_option, types_option, has_types, option_with, options_at, action_at, RuleText, may_keep, rule_at}
use Rattle.pf_statements.specs.Directions.{direction_at}
use Rattle.pf_statements.specs.ConditionGrammar.{IsFlags, IsTypes}
use Rattle.pf_statements.specs.Grammar.{IsAction, PassWord, BlockWord, BlockSaid, IsKeep, NoWord, KeepWord, IsOptions, NoOption, FlagsOption, StateOption, TypesOption, IsRule}
use Rattle.pf_tokens.proofs.Fronts.{Took, begins_is}
use Rattle.pf_statements.proofs.Fronts.{rank, not_begun}
use Rattle.pf_statements.proofs.Over.{over_follows}
use Rattle.pf_statements.proofs.RulesSpelled.{action_took, action_reads, direction_took, direction_reads, direction_rank, said_took, said_reads, log_rank, quick_rank}
use Rattle.pf_statements.proofs.CommonSpelled.{common_rank, common_reads, common_took}
use Rattle.pf_statements.proofs.PiecesSpelled.{if_so_is}
use Rattle.pf_statements.proofs.FlagsSpelled.{flags_took, flags_reads, types_took, types_reads}

-- ---- options

none_is : {X : Type 0} (o : Option X) → is_some o ≡ false → o ≡ None
none_is None e = refl
none_is (Some x) e = absurd (false≢true (sym e))

-- options at the front, and what is left behind them
record Goes (profile : Profile) (o : Options) (ts : List Token) (all : Options) (rest : List Token) : Type 0 where
  piece : List Token
  whole : ts ≡ piece ++ rest
  are : IsOptions profile o piece all

abbrev More : Profile → Options × List Token → Options → List Token → Type 0
More profile next all rest = Goes profile next.0 next.1 all rest

flags_goes : (profile : Profile) (o all : Options) (ts rest : List Token) (next : Options × List Token) → begins (codes "flags") ts ≡ true → flags_option o (drop 1 ts) ≡ Some next → More profile next all rest → Goes profile o ts all rest
unfolding flags_option
flags_goes profile o all ts rest next begun e more = cases (is_some o.flags) refl e
  where
    cases : (b : Bool) → is_some o.flags ≡ b → cond b None (flags_at (drop 1 ts) >>= λ test. Some (record o { flags = Some test.0 }, test.1)) ≡ Some next → Goes profile o ts all rest
    cases true said e = absurd cc
    cases false said e =
        let a = bind_some (flags_at (drop 1 ts)) (λ test. Some (record o { flags = Some test.0 }, test.1)) next e in
        let t = flags_took (drop 1 ts) a.0 a.1 in
        let m = subst (λ (z : Options × List Token). More profile z all rest) (sym (some_is _ next a.2)) more in
        record {
          piece = Word (codes "flags") ∷ (t.piece ++ m.piece);
          whole = begins_is (codes "flags") ts begun ∙ ap (λ (us : List Token). Word (codes "flags") ∷ us) (t.whole ∙ ap (λ (us : List Token). t.piece ++ us) m.whole ∙ sym (append_assoc t.piece m.piece rest));
          are = FlagsOption o all t.piece m.piece a.0.0 (none_is o.flags said) t.is m.are;
        }

state_goes : (profile : Profile) (o all : Options) (ts rest : List Token) (next : Options × List Token) (word : List ℕ) (keep : Bool) → IsKeep word keep → begins word ts ≡ true → state_option o keep (drop 1 ts) ≡ Some next → More profile next all rest → Goes profile o ts all rest
unfolding state_option
state_goes profile o all ts rest next word keep is begun e more = cases (is_some o.state) refl e
  where
    cases : (b : Bool) → is_some o.state ≡ b → cond b None (if_so (begins (codes "state") (drop 1 ts)) (record o { state = Some keep }, drop 1 (drop 1 ts))) ≡ Some next → Goes profile o ts all rest
    cases true said e = absurd cc
    cases false said e =
        let s = if_so_is (begins (codes "state") (drop 1 ts)) (record o { state = Some keep }, drop 1 (drop 1 ts)) next e in
        let m = subst (λ (z : Options × List Token). More profile z all rest) (sym s.1) more in
        record {
          piece = Word word ∷ (Word (codes "state") ∷ m.piece);
          whole = begins_is word ts begun ∙ ap (λ (us : List Token). Word word ∷ us) (begins_is (codes "state") (drop 1 ts) s.0 ∙ ap (λ (us : List Token). Word (codes "state") ∷ us) m.whole);
          are = StateOption o all word m.piece keep (none_is o.state said) is m.are;
        }

types_goes : (profile : Profile) (o all : Options) (ts rest : List Token) (next : Options × List Token) → has_types profile ≡ true → begins (codes "icmp-type") ts ≡ true → types_option profile o (drop 1 ts) ≡ Some next → More profile next all rest → Goes profile o ts all rest
unfolding types_option
types_goes profile o all ts rest next has begun e more = cases (is_some o.types) refl e
  where
    cases : (b : Bool) → is_some o.types ≡ b → cond b None (types_at profile (drop 1 ts) >>= λ types. Some (record o { types = Some types.0 }, types.1)) ≡ Some next → Goes profile o ts all rest
    cases true said e = absurd cc
    cases false said e =
        let a = bind_some (types_at profile (drop 1 ts)) (λ types. Some (record o { types = Some types.0 }, types.1)) next e in
        let t = types_took profile (drop 1 ts) a.0 a.1 in
        let m = subst (λ (z : Options × List Token). More profile z all rest) (sym (some_is _ next a.2)) more in
        record {
          piece = Word (codes "icmp-type") ∷ (t.piece ++ m.piece);
          whole = begins_is (codes "icmp-type") ts begun ∙ ap (λ (us : List Token). Word (codes "icmp-type") ∷ us) (t.whole ∙ ap (λ (us : List Token). t.piece ++ us) m.whole ∙ sym (append_assoc t.piece m.piece rest));
          are = TypesOption o all t.piece m.piece a.0.0 has (none_is o.types said) t.is m.are;
        }

and_both : (a b : Bool) → (a && b) ≡ true → (a ≡ true) × (b ≡ true)
and_both true b e = (refl, e)
and_both false b e = absurd (false≢true e)

option_goes : (profile : Profile) (o all : Options) (ts rest : List Token) (next : Options × List Token) → option_with profile o ts ≡ Some next → More profile next all rest → Goes profile o ts all rest
unfolding option_with
option_goes profile o all ts rest next e more =
    cases (begins (codes "flags") ts) refl (begins (codes "no") ts) refl (begins (codes "keep") ts) refl (has_types profile && begins (codes "icmp-type") ts) refl e
  where
    cases : (f : Bool) → begins (codes "flags") ts ≡ f → (n : Bool) → begins (codes "no") ts ≡ n → (k : Bool) → begins (codes "keep") ts ≡ k → (t : Bool) → (has_types profile && begins (codes "icmp-type") ts) ≡ t → cond f (flags_option o (drop 1 ts)) (cond n (state_option o false (drop 1 ts)) (cond k (state_option o true (drop 1 ts)) (cond t (types_option profile o (drop 1 ts)) None))) ≡ Some next → Goes profile o ts all rest
    cases true f n n_is k k_is t t_is e = flags_goes profile o all ts rest next f e more
    cases false f true n_is k k_is t t_is e = state_goes profile o all ts rest next (codes "no") false NoWord n_is e more
    cases false f false n_is true k_is t t_is e = state_goes profile o all ts rest next (codes "keep") true KeepWord k_is e more
    cases false f false n_is false k_is true t_is e = let b = and_both (has_types profile) (begins (codes "icmp-type") ts) t_is in types_goes profile o all ts rest next b.0 b.1 e more
    cases false f false n_is false k_is false t_is e = absurd cc

-- what was read, and that the rule is over behind it
pub record TookOptions (profile : Profile) (o : Options) (ts : List Token) (x : Options × List Token) : Type 0 where
  pub piece : List Token
  pub whole : ts ≡ piece ++ x.1
  pub are : IsOptions profile o piece x.0
  pub over : is_over x.1 ≡ true

options_step : (n : ℕ) (profile : Profile) (o : Options) (ts : List Token) (x : Options × List Token) → ((p : Options) (us : List Token) → options_at n profile p us ≡ Some x → TookOptions profile p us x) → options_at (suc n) profile o ts ≡ Some x → TookOptions profile o ts x
unfolding until_over
options_step n profile o ts x ih e = cases (is_over ts) refl e
  where
    cases : (b : Bool) → is_over ts ≡ b → cond b (Some (o, ts)) (option_with profile o ts >>= λ r. options_at n profile r.0 r.1) ≡ Some x → TookOptions profile o ts x
    cases true ends e = subst (λ (z : Options × List Token). TookOptions profile o ts z) (some_is (o, ts) x e) (record { piece = []; whole = refl; are = NoOption o; over = ends })
    cases false ends e =
        let a = bind_some (option_with profile o ts) (λ r. options_at n profile r.0 r.1) x e in
        let more = ih a.0.0 a.0.1 a.2 in
        let g = option_goes profile o x.0 ts x.1 a.0 a.1 (record { piece = more.piece; whole = more.whole; are = more.are }) in
        record { piece = g.piece; whole = g.whole; are = g.are; over = more.over }

options_took : (n : ℕ) (profile : Profile) (o : Options) (ts : List Token) (x : Options × List Token) → options_at n profile o ts ≡ Some x → TookOptions profile o ts x
unfolding until_over
options_took zero profile o ts x e = absurd cc
options_took (suc n) profile o ts x e = options_step n profile o ts x (λ p us. options_took n profile p us x) e

abbrev OptionsRead : Profile → Options → List Token → Options → Type 0
OptionsRead profile o ts all = (n : ℕ) (rest : List Token) → length ts < n → is_over rest ≡ true → options_at n profile o (ts ++ rest) ≡ Some (all, rest)

read_none : (profile : Profile) (o : Options) → OptionsRead profile o [] o
unfolding until_over
read_none profile o zero rest h over = absurd (omega (arith, h))
read_none profile o (suc n) rest h over = rw over refl

read_flags : (profile : Profile) (o all : Options) (ts us : List Token) (test : FlagTest) → o.flags ≡ None → IsFlags ts test → OptionsRead profile (record o { flags = Some test }) us all → OptionsRead profile o (Word (codes "flags") ∷ (ts ++ us)) all
unfolding until_over option_with flags_option
read_flags profile o all ts us test none is more zero rest h over = absurd (omega (arith, h))
read_flags profile o all ts us test none is more (suc n) rest h over = rw (none, append_assoc ts us rest, flags_reads ts (us ++ rest) test is) (more n rest (let l = length-append ts us in omega (arith, h, l)) over)

read_state : (profile : Profile) (o all : Options) (word : List ℕ) (us : List Token) (keep : Bool) → o.state ≡ None → IsKeep word keep → OptionsRead profile (record o { state = Some keep }) us all → OptionsRead profile o (Word word ∷ (Word (codes "state") ∷ us)) all
unfolding until_over option_with state_option
read_state profile o all _ us _ none is more zero rest h over = absurd (omega (arith, h))
read_state profile o all _ us _ none NoWord more (suc n) rest h over = rw none (more n rest (omega (arith, h)) over)
read_state profile o all _ us _ none KeepWord more (suc n) rest h over = rw none (more n rest (omega (arith, h)) over)

read_types : (profile : Profile) (o all : Options) (ts us : List Token) (types : Elements WrittenType) → has_types profile ≡ true → o.types ≡ None → IsTypes profile ts types → OptionsRead profile (record o { types = Some types }) us all → OptionsRead profile o (Word (codes "icmp-type") ∷ (ts ++ us)) all
unfolding until_over option_with types_option
read_types profile o all ts us types has none is more zero rest h over = absurd (omega (arith, h))
read_types profile o all ts us types has none is more (suc n) rest h over = rw (has, none, append_assoc ts us rest, types_reads profile ts (us ++ rest) types is) (more n rest (let l = length-append ts us in omega (arith, h, l)) over)

options_read : (profile : Profile) (o : Options) (ts : List Token) (all : Options) → IsOptions profile o ts all → OptionsRead profile o ts all
options_read profile _ _ _ (NoOption o) = read_none profile o
options_read profile _ _ _ (FlagsOption o all ts us test none is more) = read_flags profile o all ts us test none is (options_read profile (record o { flags = Some test }) us all more)
options_read profile _ _ _ (StateOption o all word us keep none is more) = read_state profile o all word us keep none is (options_read profile (record o { state = Some keep }) us all more)
options_read profile _ _ _ (TypesOption o all ts us types has none is more) = read_types profile o all ts us types has none is (options_read profile (record o { types = Some types }) us all more)

options_rank : (profile : Profile) (o : Options) (ts rest : List Token) (all : Options) → IsOptions profile o ts all → is_over rest ≡ true → 10 < rank (ts ++ rest)
options_rank profile _ _ rest _ (NoOption o) over = (let h = (over_follows profile rest over).late in omega (arith, h))
options_rank profile _ _ rest _ (FlagsOption o all ts us test none is more) over = omega arith
options_rank profile _ _ rest _ (StateOption o all _ us _ none NoWord more) over = omega arith
options_rank profile _ _ rest _ (StateOption o all _ us _ none KeepWord more) over = omega arith
options_rank profile _ _ rest _ (TypesOption o all ts us types has none is more) over = omega arith

-- ---- rules

six_parts : (a b c d f g rest : List Token) → (a ++ (b ++ (c ++ (d ++ (f ++ g))))) ++ rest ≡ a ++ (b ++ (c ++ (d ++ (f ++ (g ++ rest)))))
six_parts a b c d f g rest =
    append_assoc a (b ++ (c ++ (d ++ (f ++ g)))) rest
    ∙ ap (λ (us : List Token). a ++ us) (append_assoc b (c ++ (d ++ (f ++ g))) rest
    ∙ ap (λ (us : List Token). b ++ us) (append_assoc c (d ++ (f ++ g)) rest
    ∙ ap (λ (us : List Token). c ++ us) (append_assoc d (f ++ g) rest
    ∙ ap (λ (us : List Token). d ++ us) (append_assoc f g rest))))

rule_split : (profile : Profile) (ts rest : List Token) (r : RuleText) (is : IsRule profile ts r) → ts ++ rest ≡ is.action ++ (is.direction ++ (is.log ++ (is.quick ++ (is.common ++ (is.options ++ rest)))))
rule_split profile ts rest r is = ap (λ (us : List Token). us ++ rest) is.whole ∙ six_parts is.action is.direction is.log is.quick is.common is.options rest

pub rule_reads : (profile : Profile) (ts rest : List Token) (r : RuleText) → IsRule profile ts r → is_over rest ≡ true → rule_at profile (ts ++ rest) ≡ Some (r, rest)
unfolding rule_at
rule_reads profile ts rest r is over =
    let t5 = is.options ++ rest in
    let t4 = is.common ++ t5 in
    let t3 = is.quick ++ t4 in
    let t2 = is.log ++ t3 in
    let t1 = is.direction ++ t2 in
    let r5 = options_rank profile no_options is.options rest _ is.are_options over in
    let r4 = common_rank profile is.common t5 r.conditions.common is.is_common r5 in
    let r3 = quick_rank is.quick t4 r.quick is.is_quick r4 in
    let r2 = log_rank is.log t3 is.logs is.is_log r3 in
    let r1 = direction_rank is.direction t2 r.conditions.direction is.is_direction r2 in
    let enough : length is.options < suc (length t5) = (let l = length-append is.options rest in omega (arith, l)) in
    rw (
      rule_split profile ts rest r is,
      action_reads is.action t1 r.action is.is_action r1,
      direction_reads is.direction t2 r.conditions.direction is.is_direction r2,
      said_reads (codes "log") is.log t3 is.logs is.is_log (not_begun (codes "log") t3 r3),
      said_reads (codes "quick") is.quick t4 r.quick is.is_quick (not_begun (codes "quick") t4 r4),
      common_reads profile is.common t5 r.conditions.common is.is_common r5,
      options_read profile no_options is.options (record { flags = r.conditions.flags; state = r.state; types = r.conditions.types }) is.are_options (suc (length t5)) rest enough over,
      is.keeps,
    ) refl

-- what is behind the action
pub rule_rank : (profile : Profile) (ts : List Token) (r : RuleText) (is : IsRule profile ts r) → 1 < rank (is.direction ++ (is.log ++ (is.quick ++ (is.common ++ is.options))))
rule_rank profile ts r is =
    let t5 = is.options in
    let t4 = is.common ++ t5 in
    let t3 = is.quick ++ t4 in
    let t2 = is.log ++ t3 in
    let r5 = subst (λ (us : List Token). 10 < rank us) (append-nil is.options) (options_rank profile no_options is.options [] _ is.are_options refl) in
    let r4 = common_rank profile is.common t5 r.conditions.common is.is_common r5 in
    let r3 = quick_rank is.quick t4 r.quick is.is_quick r4 in
    let r2 = log_rank is.log t3 is.logs is.is_log r3 in
    direction_rank is.direction t2 r.conditions.direction is.is_direction r2

-- what was read, and that the rule is over behind it
pub record TookRule (profile : Profile) (ts : List Token) (x : RuleText × List Token) : Type 0 where
  pub took : Took (IsRule profile) ts x
  pub over : is_over x.1 ≡ true

pub rule_took : (profile : Profile) (ts : List Token) (x : RuleText × List Token) → rule_at profile ts ≡ Some x → TookRule profile ts x
unfolding rule_at
rule_took profile ts x e =
    let a = bind_some (action_at ts) _ x e in
    let action = action_took ts a.0 a.1 in
    let direction = direction_took a.0.1 in
    let log = said_took (codes "log") (direction_at a.0.1).1 in
    let quick = said_took (codes "quick") (option_at (codes "log") (direction_at a.0.1).1).1 in
    let c = bind_some (common_at profile (option_at (codes "quick") (option_at (codes "log") (direction_at a.0.1).1).1).1) _ x a.2 in
    let common = common_took profile _ c.0 c.1 in
    let o = bind_some (options_at (suc (length c.0.1)) profile no_options c.0.1) _ x c.2 in
    let options = options_took (suc (length c.0.1)) profile no_options c.0.1 o.0 o.1 in
    let k = if_so_is (may_keep a.0.0 o.0.0.state) _ x o.2 in
    subst (TookRule profile ts) k.1 (record {
      took = record {
        piece = action.piece ++ (direction.piece ++ (log.piece ++ (quick.piece ++ (common.piece ++ options.piece))));
        whole =
            action.whole ∙ ap (λ (us : List Token). action.piece ++ us) (direction.whole ∙ ap (λ (us : List Token). direction.piece ++ us) (log.whole ∙ ap (λ (us : List Token). log.piece ++ us) (quick.whole ∙ ap (λ (us : List Token). quick.piece ++ us) (common.whole ∙ ap (λ (us : List Token). common.piece ++ us) options.whole))))
            ∙ sym (six_parts action.piece direction.piece log.piece quick.piece common.piece options.piece o.0.1);
        is = record {
          action = action.piece;
          direction = direction.piece;
          log = log.piece;
          logs = (option_at (codes "log") (direction_at a.0.1).1).0;
          quick = quick.piece;
          common = common.piece;
          options = options.piece;
          whole = refl;
          is_action = action.is;
          is_direction = direction.is;
          is_log = log.is;
          is_quick = quick.is;
          is_common = common.is;
          are_options = options.are;
          keeps = k.0;
        };
      };
      over = options.over;
    })

-- ---- the word which begins a rule

action_not : (word : List ℕ) → bytes_eq (codes "pass") word ≡ false → bytes_eq (codes "block") word ≡ false → (ts rest : List Token) (x : WrittenAction) → IsAction ts x → begins word (ts ++ rest) ≡ false
action_not word pass block _ rest _ PassWord = pass
action_not word pass block _ rest _ BlockWord = block
action_not word pass block _ rest _ (BlockSaid ts said is) = block

-- a rule begins with no other word than these
pub rule_not : (word : List ℕ) → bytes_eq (codes "pass") word ≡ false → bytes_eq (codes "block") word ≡ false → (profile : Profile) (ts rest : List Token) (r : RuleText) → IsRule profile ts r → begins word (ts ++ rest) ≡ false
rule_not word pass block profile ts rest r is = ap (begins word) (rule_split profile ts rest r is) ∙ action_not word pass block is.action _ r.action is.is_action

-- a word comes first
pub record WordFirst (ts : List Token) : Type 0 where
  pub text : List ℕ
  pub behind : List Token
  pub whole : ts ≡ Word text ∷ behind

action_word : (ts rest : List Token) (x : WrittenAction) → IsAction ts x → WordFirst (ts ++ rest)
action_word _ rest _ PassWord = record { text = codes "pass"; behind = rest; whole = refl }
action_word _ rest _ BlockWord = record { text = codes "block"; behind = rest; whole = refl }
action_word _ rest _ (BlockSaid ts said is) = record { text = codes "block"; behind = ts ++ rest; whole = refl }

pub rule_word : (profile : Profile) (ts : List Token) (r : RuleText) → IsRule profile ts r → WordFirst ts
rule_word profile ts r is = let w = action_word is.action _ r.action is.is_action in record { text = w.text; behind = w.behind; whole = is.whole ∙ w.whole }

-- a rule takes a token at least
pub rule_shorter : (profile : Profile) (ts : List Token) (x : RuleText × List Token) → rule_at profile ts ≡ Some x → length x.1 < length ts
rule_shorter profile ts x e =
    let t = (rule_took profile ts x e).took in
    let w = rule_word profile t.piece x.0 t.is in
    let whole = ap (λ (us : List Token). length us) t.whole in
    let more = ap (λ (us : List Token). length us) w.whole in
    omega (arith, whole, more, length-append t.piece x.1)
