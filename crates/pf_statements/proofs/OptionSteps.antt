-- An option of a rule takes a token at least.
use Rattle.std.proofs.Common.{◌≡◌, ◌<◌, ◌≤◌, ◌&&◌, Bool, true, false, cond, List, drop, length, Some, None, refl, arith, codes}
use Rattle.std.specs.Prelude.{is_some}
use Rattle.std.proofs.lemmas.Bool.{and_parts}
use Rattle.pf_rules.specs.declared.profile.Profile.{Profile}
use Rattle.pf_tokens.specs.Tokens.{Token}
use Rattle.pf_tokens.specs.Productions.{Read, ◌>>=◌, begins}
use Rattle.pf_tokens.specs.inner.Shorter.{begins_shorter}
use Rattle.pf_statements.specs.Conditions.{if_so, flags_at, types_at}
use Rattle.pf_statements.specs.Statements.{has_types, Options, flags_option, state_option, types_option, option_with}
use Rattle.pf_statements.specs.inner.Shorter.{then_no_longer, answer_left, drop_no_longer, so_left}
use Rattle.pf_statements.proofs.NoLonger.{flags_no_longer, types_no_longer}

-- none where it was said before
unless_said : {Y : Type 0} (b : Bool) (read : Read Y) (y : Y) (rest : List Token) → cond {A = Read Y} b None read ≡ Some (y, rest) → read ≡ Some (y, rest)
unless_said true read y rest e = absurd (let h = e in cc)
unless_said false read y rest e = e

flags_option_no_longer : (o p : Options) (ts rest : List Token) → flags_option o ts ≡ Some (p, rest) → length rest ≤ length ts
unfolding flags_option
flags_option_no_longer o p ts rest e = then_no_longer (flags_at ts) (λ test. Some (record o { flags = Some test.0 }, test.1)) ts rest p
    (λ test h. flags_no_longer ts test.1 test.0 h)
    (λ test h. answer_left (record o { flags = Some test.0 }) p test.1 rest h)
    (unless_said (is_some o.flags) (flags_at ts >>= λ test. Some (record o { flags = Some test.0 }, test.1)) p rest e)

state_option_no_longer : (o p : Options) (keep : Bool) (ts rest : List Token) → state_option o keep ts ≡ Some (p, rest) → length rest ≤ length ts
unfolding state_option
state_option_no_longer o p keep ts rest e = omega (
  arith,
  drop_no_longer ts,
  so_left (begins (codes "state") ts) (record o { state = Some keep }, drop 1 ts) p rest
      (unless_said (is_some o.state) (if_so (begins (codes "state") ts) (record o { state = Some keep }, drop 1 ts)) p rest e),
)

types_option_no_longer : (profile : Profile) (o p : Options) (ts rest : List Token) → types_option profile o ts ≡ Some (p, rest) → length rest ≤ length ts
unfolding types_option
types_option_no_longer profile o p ts rest e = then_no_longer (types_at profile ts) (λ types. Some (record o { types = Some types.0 }, types.1)) ts rest p
    (λ types h. types_no_longer profile ts types.1 types.0 h)
    (λ types h. answer_left (record o { types = Some types.0 }) p types.1 rest h)
    (unless_said (is_some o.types) (types_at profile ts >>= λ types. Some (record o { types = Some types.0 }, types.1)) p rest e)

option_cases : (a b c d : Bool) (profile : Profile) (o p : Options) (ts rest : List Token) → begins (codes "flags") ts ≡ a → begins (codes "no") ts ≡ b → begins (codes "keep") ts ≡ c → (has_types profile && begins (codes "icmp-type") ts) ≡ d
    → cond {A = Read Options} a (flags_option o (drop 1 ts)) (cond b (state_option o false (drop 1 ts)) (cond c (state_option o true (drop 1 ts)) (cond d (types_option profile o (drop 1 ts)) None))) ≡ Some (p, rest) → length rest < length ts
option_cases true b c d profile o p ts rest ae be ce de e = omega (arith, begins_shorter (codes "flags") ts ae, flags_option_no_longer o p (drop 1 ts) rest e)
option_cases false true c d profile o p ts rest ae be ce de e = omega (arith, begins_shorter (codes "no") ts be, state_option_no_longer o p false (drop 1 ts) rest e)
option_cases false false true d profile o p ts rest ae be ce de e = omega (arith, begins_shorter (codes "keep") ts ce, state_option_no_longer o p true (drop 1 ts) rest e)
option_cases false false false true profile o p ts rest ae be ce de e = omega (arith, begins_shorter (codes "icmp-type") ts (and_parts (has_types profile) (begins (codes "icmp-type") ts) de).1, types_option_no_longer profile o p (drop 1 ts) rest e)
option_cases false false false false profile o p ts rest ae be ce de e = absurd (let h = e in cc)

pub option_shorter : (profile : Profile) (o p : Options) (ts rest : List Token) → option_with profile o ts ≡ Some (p, rest) → length rest < length ts
unfolding option_with
option_shorter profile o p ts rest e = option_cases (begins (codes "flags") ts) (begins (codes "no") ts) (begins (codes "keep") ts) (has_types profile && begins (codes "icmp-type") ts) profile o p ts rest refl refl refl refl e
