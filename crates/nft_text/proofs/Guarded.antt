-- The members' guard, where there are members.
use Rattle.std.proofs.Common.{◌≡◌, ℕ, Bool, true, List, [], ◌∷◌, ◌++◌, refl, sym, ap, ◌∙◌}
use Rattle.std.specs.Prelude.{codes, if◌then◌else◌}
use Rattle.std.specs.List.{flat_map}
use Rattle.std.proofs.lemmas.Grind.{flat_map-append}
use Rattle.std.proofs.lemmas.List.{append_assoc, append-nil}
use Rattle.pf_addr.specs.declared.addr.Addr.{Addr}
use Rattle.pf_addr.specs.declared.addr.Addr.TheVariants.{V4, V6}
use Rattle.pf_addr.specs.Blocks.{family_of}
use Rattle.pf_eval.specs.Matching.{of_family}
use Rattle.nft_rules.specs.Subset.{family_eq}
use Rattle.pf_addr.specs.declared.addr.Family.TheVariants.{Inet, Inet6}
use Rattle.nft_rules.specs.declared.guard.Member.{Member}
use Rattle.pf_addr.specs.declared.addr.Family.{Family}
use Rattle.nft_rules.specs.declared.subset.Side.TheVariants.{Source, Destination}
use Rattle.pf_rules.specs.declared.parts.Direction.{Direction}
use Rattle.nft_rules.specs.Subset.{NftRuleset, Base}
use Rattle.nft_rules.specs.Guard.{ToChain, hook_of, has_family, AtMember, AtHome, OfUdp, IsLater, IsTooBig, GuardMatch, GuardRule, family_rules, link_rules}
use Rattle.nft_text.specs.Texts.{generation, later_text, too_big_text, guard_match_text, guard_rule_text, members_text, jump_text, members_gone}

-- the rules of a family, if some member is of it
abbrev some_rules : Family → List Member → Bool → List GuardRule
some_rules f ms b =
    if b then (AtMember Source f ms ∷ AtMember Destination f ms ∷ [])
    ∷ (IsLater f ∷ OfUdp ∷ AtHome Source f ms ∷ AtHome Destination f ms ∷ [])
    ∷ (IsTooBig f ∷ AtHome Destination f ms ∷ []) ∷ [] else []

-- an address is of its family and of no other
pub of_its_family : (a : Addr) (f : Family) → family_eq (family_of a) f ≡ of_family a f
of_its_family (V4 bits) Inet = refl
of_its_family (V4 bits) Inet6 = refl
of_its_family (V6 bits) Inet = refl
of_its_family (V6 bits) Inet6 = refl

pub two_parts : (a b : GuardMatch) → guard_match_text a ++ (guard_match_text b ++ codes "counter accept comment \"members\"; ") ≡ guard_rule_text (a ∷ b ∷ [])
unfolding guard_rule_text
two_parts a b = simp (append_assoc, append-nil)

pub fragment_parts : (f : Family) (a b : GuardMatch) →
    later_text f ++ (codes "meta l4proto 17 " ++ (guard_match_text a ++ (guard_match_text b ++ codes "counter accept comment \"members\"; ")))
    ≡ guard_rule_text (IsLater f ∷ OfUdp ∷ a ∷ b ∷ [])
unfolding guard_match_text guard_rule_text
fragment_parts f a b = simp (append_assoc, append-nil)

pub too_big_parts : (f : Family) (a : GuardMatch) → too_big_text f ++ (guard_match_text a ++ codes "counter accept comment \"members\"; ") ≡ guard_rule_text (IsTooBig f ∷ a ∷ [])
unfolding guard_match_text guard_rule_text
too_big_parts f a = simp (append_assoc, append-nil)

pub family_some : (f : Family) (ms : List Member) → has_family f ms ≡ true →
    guard_rule_text (AtMember Source f ms ∷ AtMember Destination f ms ∷ [])
    ++ (guard_rule_text (IsLater f ∷ OfUdp ∷ AtHome Source f ms ∷ AtHome Destination f ms ∷ [])
    ++ guard_rule_text (IsTooBig f ∷ AtHome Destination f ms ∷ [])) ≡ flat_map guard_rule_text (family_rules f ms)
family_some f ms h =
    ap (λ v. guard_rule_text (AtMember Source f ms ∷ AtMember Destination f ms ∷ [])
    ++ (guard_rule_text (IsLater f ∷ OfUdp ∷ AtHome Source f ms ∷ AtHome Destination f ms ∷ []) ++ v))
    (sym (append-nil (guard_rule_text (IsTooBig f ∷ AtHome Destination f ms ∷ []))))
    ∙ ap (λ b. flat_map guard_rule_text (some_rules f ms b)) (sym h)

three : {X A : Type 0} (f : X → List A) (a b c : List X) (end : List A) →
    flat_map f a ++ (flat_map f b ++ (flat_map f c ++ end)) ≡ flat_map f (a ++ (b ++ c)) ++ end
three f a b c end =
    sym (ap (λ v. v ++ end) (flat_map-append f a (b ++ c) ∙ ap (λ v. flat_map f a ++ v) (flat_map-append f b c))
    ∙ append_assoc (flat_map f a) (flat_map f b ++ flat_map f c) end
    ∙ ap (λ v. flat_map f a ++ v) (append_assoc (flat_map f b) (flat_map f c) end))

pub members_some : (position : ℕ) (ms : List Member) → (ms ≡ [] → ⊥) →
    codes "chain " ++ (generation position ++ (codes "members { " ++ (flat_map guard_rule_text (family_rules Inet ms)
    ++ (flat_map guard_rule_text (family_rules Inet6 ms) ++ (flat_map guard_rule_text (link_rules ms) ++ codes "}; "))))) ≡ members_text position ms
unfolding members_text
members_some position [] h = absurd (h refl)
members_some position (m ∷ ms) h = ap (λ v. codes "chain " ++ (generation position ++ (codes "members { " ++ v)))
    (three guard_rule_text (family_rules Inet (m ∷ ms)) (family_rules Inet6 (m ∷ ms)) (link_rules (m ∷ ms)) (codes "}; "))

-- the jumps of a hook where there are no members, and where there are

pub jumps_none : (position : ℕ) (d : Direction) (r : NftRuleset) (ms : List Member) → ms ≡ [] →
    jump_text position d r (ToChain Base) ≡ flat_map (jump_text position d r) (hook_of ms)
jumps_none position d r [] h = sym (append-nil (jump_text position d r (ToChain Base)))
jumps_none position d r (m ∷ ms) h = absurd cc

pub jumps_some : (position : ℕ) (d : Direction) (r : NftRuleset) (ms : List Member) → (ms ≡ [] → ⊥) →
    codes "jump " ++ (generation position ++ (codes "members; " ++ jump_text position d r (ToChain Base)))
    ≡ flat_map (jump_text position d r) (hook_of ms)
unfolding jump_text
jumps_some position d r [] h = absurd (h refl)
jumps_some position d r (m ∷ ms) h = simp (append_assoc, append-nil)

pub gone_some : (position : ℕ) (ms : List Member) → (ms ≡ [] → ⊥) → codes "delete chain inet reltzuma " ++ (generation position ++ codes "members; ") ≡ members_gone position ms
unfolding members_gone
gone_some position [] h = absurd (h refl)
gone_some position (m ∷ ms) h = refl
