-- Anchor rules up to their blocks are read exactly where the grammar spells them.
use Rattle.std.proofs.Common.{◌≡◌, ℕ, ◌<◌, ◌≤◌, Bool, true, false, cond, List, [], ◌∷◌, ◌++◌, length, Option, Some, None, refl, sym, ap, subst, ◌∙◌, append_assoc, arith}
use Rattle.std.specs.Prelude.{codes}
use Rattle.std.proofs.lemmas.List.{length-append}
use Rattle.pf_rules.specs.declared.profile.Profile.{Profile}
use Rattle.pf_rules.specs.declared.profile.Profile.TheVariants.{One, Two}
use Rattle.pf_rules.specs.Words.{common_reserved, is_among, is_reserved}
use Rattle.pf_tokens.specs.Tokens.{Token, Word, Quoted, Macro, Mark, Newline, Bad}
use Rattle.pf_tokens.specs.Productions.{◌>>=◌, starts, option_at}
use Rattle.pf_tokens.specs.inner.Shorter.{bind_some, some_is}
use Rattle.pf_addr.specs.declared.addr.Family.{Family}
use Rattle.pf_rules.specs.Items.{Target}
use Rattle.pf_rules.specs.declared.parts.Direction.{Direction}
use Rattle.pf_rules.specs.declared.parts.FlagTest.{FlagTest}
use Rattle.pf_statements.specs.Conditions.{Ends, flags_at, common_at, CommonText}
use Rattle.pf_statements.specs.Targets.{may_name, target_of, target_behind, target_at}
use Rattle.pf_statements.specs.ConditionGrammar.{IsFlags, IsBehind, Missing, Behind, IsFamily, NoFamily, InetWord, Inet6Word, IsHosts, NoHosts, AllWord, FromPart, ToPart, FromToParts, IsCommon}
use Rattle.pf_tokens.proofs.Fronts.{Took}
use Rattle.pf_statements.proofs.Fronts.{rank, not_begun}
use Rattle.pf_tokens.proofs.ListsSpelled.{Spells}
use Rattle.pf_statements.proofs.BehindSpelled.{behind_took, behind_reads}
use Rattle.pf_statements.proofs.CommonSpelled.{common_rank, common_reads, common_took, four_parts}
use Rattle.pf_statements.proofs.FlagsSpelled.{flags_took, flags_reads}
use Rattle.pf_statements.proofs.PiecesSpelled.{Anything}
use Rattle.pf_statements.specs.Directions.{direction_at}
use Rattle.pf_statements.specs.Anchors.{AnchorText, HeadingText, anchor_with, said_flags, said_target, optional_target_at, heading_at}
use Rattle.pf_statements.specs.Grammar.{IsTarget, TargetWord, TargetString, IsAnchor, IsOptional, LeftOut, Given, IsHeading, IsDirection, NoDirection, InWord, OutWord, IsSaid, Unsaid, Said}
use Rattle.pf_statements.proofs.Over.{Follows}
use Rattle.pf_statements.proofs.RulesSpelled.{direction_took, direction_reads, said_took, said_reads, quick_rank}

-- ---- the target

behind_is : (read : Option Target) (ts : List Token) (x : Target × List Token) → target_behind read ts ≡ Some x → (read ≡ Some x.0) × (ts ≡ x.1)
behind_is None ts x e = absurd cc
behind_is (Some target) ts x e = let same = some_is (target, ts) x e in (ap (λ (y : Target × List Token). let read : Option Target = Some y.0 in read) same, ap (λ (y : Target × List Token). y.1) same)

target_took : (profile : Profile) (ts : List Token) (x : Target × List Token) → target_at profile ts ≡ Some x → Took (IsTarget profile) ts x
unfolding target_at
target_took profile [] x e = absurd cc
target_took profile (Word text ∷ ts) x e = cases (is_reserved profile text) refl e
  where
    cases : (b : Bool) → is_reserved profile text ≡ b → (cond b None (Some text) >>= λ said. target_behind (target_of said) ts) ≡ Some x → Took (IsTarget profile) (Word text ∷ ts) x
    cases true reserved e = absurd cc
    cases false reserved e = let b = behind_is (target_of text) ts x e in record { piece = Word text ∷ []; whole = ap (λ (us : List Token). Word text ∷ us) b.1; is = TargetWord text x.0 reserved b.0 }
target_took profile (Quoted text ∷ ts) x e = let b = behind_is (target_of text) ts x e in record { piece = Quoted text ∷ []; whole = ap (λ (us : List Token). Quoted text ∷ us) b.1; is = TargetString text x.0 b.0 }
target_took profile (Macro name ∷ ts) x e = absurd cc
target_took profile (Mark symbol ∷ ts) x e = absurd cc
target_took profile (Newline ∷ ts) x e = absurd cc
target_took profile (Bad ∷ ts) x e = absurd cc

target_reads : (profile : Profile) (ts rest : List Token) (x : Target) → IsTarget profile ts x → target_at profile (ts ++ rest) ≡ Some (x, rest)
unfolding target_at
target_reads profile _ rest x (TargetWord text _ free e) = rw (free, e) refl
target_reads profile _ rest x (TargetString text _ e) = rw e refl

-- ---- flags

flags_spell : Spells flags_at IsFlags Anything
flags_spell = record { took = flags_took; reads = λ ts rest x is ends. flags_reads ts rest x is }

said_flags_took : (ts : List Token) (x : Option FlagTest × List Token) → said_flags ts ≡ Some x → Took (IsBehind (codes "flags") IsFlags) ts x
unfolding said_flags
said_flags_took ts x e = behind_took (codes "flags") flags_spell ts x e

said_flags_read : (ts rest : List Token) (x : Option FlagTest) → IsBehind (codes "flags") IsFlags ts x → 11 < rank rest → said_flags (ts ++ rest) ≡ Some (x, rest)
unfolding said_flags
said_flags_read ts rest x is h = behind_reads (codes "flags") flags_spell ts rest x is (not_begun (codes "flags") rest h) tt

said_flags_rank : (ts rest : List Token) (x : Option FlagTest) → IsBehind (codes "flags") IsFlags ts x → 11 < rank rest → 10 < rank (ts ++ rest)
said_flags_rank _ rest _ Missing h = omega (arith, h)
said_flags_rank _ rest _ (Behind ts x is) h = omega arith

-- ---- no name is behind the place of a name

abbrev pub Nameless : Profile → List Token → Type 0
Nameless profile ts = starts (may_name profile) ts ≡ false

reserved_word : (profile : Profile) (word : List ℕ) → is_among common_reserved word ≡ true → is_reserved profile word ≡ true
unfolding is_reserved
reserved_word One word e = e
reserved_word Two word e = rw e refl

no_name : (profile : Profile) (word : List ℕ) (ts : List Token) → is_among common_reserved word ≡ true → Nameless profile (Word word ∷ ts)
no_name profile word ts e = rw (reserved_word profile word e) refl

direction_nameless : (profile : Profile) (ts rest : List Token) (x : Option Direction) → IsDirection ts x → Nameless profile rest → Nameless profile (ts ++ rest)
direction_nameless profile _ rest _ NoDirection h = h
direction_nameless profile _ rest _ InWord h = no_name profile (codes "in") rest refl
direction_nameless profile _ rest _ OutWord h = no_name profile (codes "out") rest refl

said_nameless : (profile : Profile) (word : List ℕ) → is_among common_reserved word ≡ true → (ts rest : List Token) (x : Bool) → IsSaid word ts x → Nameless profile rest → Nameless profile (ts ++ rest)
said_nameless profile word e _ rest _ Unsaid h = h
said_nameless profile word e _ rest _ Said h = no_name profile word rest e

behind_nameless : {X : Type 0} {Is : List Token → X → Type 0} (profile : Profile) (word : List ℕ) → is_among common_reserved word ≡ true → (ts rest : List Token) (x : Option X) → IsBehind word Is ts x → Nameless profile rest → Nameless profile (ts ++ rest)
behind_nameless profile word e _ rest _ Missing h = h
behind_nameless profile word e _ rest _ (Behind ts x is) h = no_name profile word (ts ++ rest) e

family_nameless : (profile : Profile) (ts rest : List Token) (x : Option Family) → IsFamily ts x → Nameless profile rest → Nameless profile (ts ++ rest)
family_nameless profile _ rest _ NoFamily h = h
family_nameless profile _ rest _ InetWord h = no_name profile (codes "inet") rest refl
family_nameless profile _ rest _ Inet6Word h = no_name profile (codes "inet6") rest refl

hosts_nameless : (profile : Profile) (ts rest : List Token) (s d : Ends) → IsHosts profile ts s d → Nameless profile rest → Nameless profile (ts ++ rest)
hosts_nameless profile _ rest _ _ NoHosts h = h
hosts_nameless profile _ rest _ _ AllWord h = no_name profile (codes "all") rest refl
hosts_nameless profile _ rest _ _ (FromPart ts s is) h = no_name profile (codes "from") (ts ++ rest) refl
hosts_nameless profile _ rest _ _ (ToPart ts d is) h = no_name profile (codes "to") (ts ++ rest) refl
hosts_nameless profile _ rest _ _ (FromToParts ts us s d is_s is_d) h = no_name profile (codes "from") ((ts ++ (Word (codes "to") ∷ us)) ++ rest) refl

common_nameless : (profile : Profile) (ts rest : List Token) (c : CommonText) → IsCommon profile ts c → Nameless profile rest → Nameless profile (ts ++ rest)
common_nameless profile ts rest c is h =
    let split : ts ++ rest ≡ is.interfaces ++ (is.family ++ (is.protocols ++ (is.hosts ++ rest))) = ap (λ (us : List Token). us ++ rest) is.whole ∙ four_parts is.interfaces is.family is.protocols is.hosts rest in
    subst (Nameless profile) (sym split)
    (behind_nameless profile (codes "on") refl is.interfaces _ c.interfaces is.are_interfaces
    (family_nameless profile is.family _ c.family is.is_family
    (behind_nameless profile (codes "proto") refl is.protocols _ c.protocols is.are_protocols
    (hosts_nameless profile is.hosts rest c.source c.destination is.are_hosts h))))

named : (profile : Profile) (ts rest : List Token) (target : Target) → IsTarget profile ts target → starts (may_name profile) (ts ++ rest) ≡ true
named profile _ rest target (TargetWord text _ free e) = rw free refl
named profile _ rest target (TargetString text _ e) = refl

optional_reads : (profile : Profile) (ts rest : List Token) (x : Option Target) → IsOptional (IsTarget profile) ts x → Nameless profile rest → optional_target_at profile (ts ++ rest) ≡ Some (x, rest)
unfolding optional_target_at
optional_reads profile _ rest _ LeftOut h = rw h refl
optional_reads profile _ rest _ (Given ts x is) h = rw (named profile ts rest x is, target_reads profile ts rest x is) refl

optional_took : (profile : Profile) (ts : List Token) (x : Option Target × List Token) → optional_target_at profile ts ≡ Some x → Took (IsOptional (IsTarget profile)) ts x
unfolding optional_target_at
optional_took profile ts x e = cases (starts (may_name profile) ts) e
  where
    cases : (b : Bool) → cond b (target_at profile ts >>= said_target) (Some (None, ts)) ≡ Some x → Took (IsOptional (IsTarget profile)) ts x
    cases true e =
        let t = bind_some (target_at profile ts) said_target x e in
        let took = target_took profile ts t.0 t.1 in
        subst (Took (IsOptional (IsTarget profile)) ts) (some_is (Some t.0.0, t.0.1) x t.2) (record { piece = took.piece; whole = took.whole; is = Given took.piece t.0.0 took.is })
    cases false e = subst (Took (IsOptional (IsTarget profile)) ts) (some_is (None, ts) x e) (record { piece = []; whole = refl; is = LeftOut })

-- ---- headings

five_parts : (a b c d f rest : List Token) → (a ++ (b ++ (c ++ (d ++ f)))) ++ rest ≡ a ++ (b ++ (c ++ (d ++ (f ++ rest))))
five_parts a b c d f rest = append_assoc a (b ++ (c ++ (d ++ f))) rest ∙ ap (λ (us : List Token). a ++ us) (four_parts b c d f rest)

pub heading_reads : (profile : Profile) (ts rest : List Token) (h : HeadingText) → IsHeading profile ts h → Follows profile rest → heading_at profile (ts ++ rest) ≡ Some (h, rest)
unfolding heading_at
heading_reads profile ts rest h is follows =
    let t4 = is.flags ++ rest in
    let t3 = is.common ++ t4 in
    let t2 = is.quick ++ t3 in
    let t1 = is.direction ++ t2 in
    let r4 = said_flags_rank is.flags rest h.conditions.flags is.are_flags follows.late in
    let r3 = common_rank profile is.common t4 h.conditions.common is.is_common r4 in
    let r2 = quick_rank is.quick t3 h.quick is.is_quick r3 in
    let n4 = behind_nameless profile (codes "flags") refl is.flags rest h.conditions.flags is.are_flags follows.nameless in
    let n3 = common_nameless profile is.common t4 h.conditions.common is.is_common n4 in
    let n2 = said_nameless profile (codes "quick") refl is.quick t3 h.quick is.is_quick n3 in
    let n1 = direction_nameless profile is.direction t2 h.conditions.direction is.is_direction n2 in
    rw (
      ap (λ (us : List Token). us ++ rest) is.whole ∙ five_parts is.target is.direction is.quick is.common is.flags rest,
      optional_reads profile is.target t1 h.target is.is_target n1,
      direction_reads is.direction t2 h.conditions.direction is.is_direction (omega (arith, r2)),
      said_reads (codes "quick") is.quick t3 h.quick is.is_quick (not_begun (codes "quick") t3 r3),
      common_reads profile is.common t4 h.conditions.common is.is_common r4,
      said_flags_read is.flags rest h.conditions.flags is.are_flags follows.late,
      is.no_types,
    ) refl

pub heading_took : (profile : Profile) (ts : List Token) (x : HeadingText × List Token) → heading_at profile ts ≡ Some x → Took (IsHeading profile) ts x
unfolding heading_at
heading_took profile ts x e =
    let g = bind_some (optional_target_at profile ts) _ x e in
    let target = optional_took profile ts g.0 g.1 in
    let direction = direction_took g.0.1 in
    let quick = said_took (codes "quick") (direction_at g.0.1).1 in
    let c = bind_some (common_at profile (option_at (codes "quick") (direction_at g.0.1).1).1) _ x g.2 in
    let common = common_took profile _ c.0 c.1 in
    let f = bind_some (said_flags c.0.1) _ x c.2 in
    let flags = said_flags_took c.0.1 f.0 f.1 in
    subst (Took (IsHeading profile) ts) (some_is _ x f.2) (record {
      piece = target.piece ++ (direction.piece ++ (quick.piece ++ (common.piece ++ flags.piece)));
      whole =
          target.whole ∙ ap (λ (us : List Token). target.piece ++ us) (direction.whole ∙ ap (λ (us : List Token). direction.piece ++ us) (quick.whole ∙ ap (λ (us : List Token). quick.piece ++ us) (common.whole ∙ ap (λ (us : List Token). common.piece ++ us) flags.whole)))
          ∙ sym (five_parts target.piece direction.piece quick.piece common.piece flags.piece f.0.1);
      is = record {
        target = target.piece;
        direction = direction.piece;
        quick = quick.piece;
        common = common.piece;
        flags = flags.piece;
        whole = refl;
        is_target = target.is;
        is_direction = direction.is;
        is_quick = quick.is;
        is_common = common.is;
        are_flags = flags.is;
        no_types = refl;
      };
    })

-- a heading takes no more tokens than there are
pub heading_no_longer : (profile : Profile) (ts : List Token) (x : HeadingText × List Token) → heading_at profile ts ≡ Some x → length x.1 ≤ length ts
heading_no_longer profile ts x e =
    let t = heading_took profile ts x e in
    let whole = ap (λ (us : List Token). length us) t.whole in
    omega (arith, whole, length-append t.piece x.1)

-- ---- anchor rules without blocks

abbrev pub heading_with : AnchorText → HeadingText
heading_with a = record { target = Some a.target; quick = a.quick; conditions = a.conditions }

pub anchor_heading : (profile : Profile) (ts : List Token) (a : AnchorText) → IsAnchor profile ts a → IsHeading profile ts (heading_with a)
anchor_heading profile ts a is = record {
  target = is.target;
  direction = is.direction;
  quick = is.quick;
  common = is.common;
  flags = is.flags;
  whole = is.whole;
  is_target = Given is.target a.target is.is_target;
  is_direction = is.is_direction;
  is_quick = is.is_quick;
  is_common = is.is_common;
  are_flags = is.are_flags;
  no_types = is.no_types;
}

target_given : (profile : Profile) (ts : List Token) (o : Option Target) (target : Target) → IsOptional (IsTarget profile) ts o → o ≡ Some target → IsTarget profile ts target
target_given profile _ _ target LeftOut e = absurd cc
target_given profile _ _ target (Given ts x is) e = subst (IsTarget profile ts) (some_is x target e) is

pub heading_anchor : (profile : Profile) (ts : List Token) (h : HeadingText) (target : Target) → IsHeading profile ts h → h.target ≡ Some target → IsAnchor profile ts (anchor_with h target)
heading_anchor profile ts h target is e = record {
  target = is.target;
  direction = is.direction;
  quick = is.quick;
  common = is.common;
  flags = is.flags;
  whole = is.whole;
  is_target = target_given profile is.target h.target target is.is_target e;
  is_direction = is.is_direction;
  is_quick = is.is_quick;
  is_common = is.is_common;
  are_flags = is.are_flags;
  no_types = is.no_types;
}
