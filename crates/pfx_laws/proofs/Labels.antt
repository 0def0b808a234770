-- Labels in nftables' text are distinguished.
use Rattle.std.proofs.Common.{◌≡◌, ℕ, suc, ◌+◌, ◌<◌, ◌≤◌, ◌^◌, Bool, true, false, List, [], ◌∷◌, ◌++◌, length, drop, refl, sym, ap, ap₂, ◌∙◌, arith, append_assoc}
use Rattle.std.specs.Prelude.{◌≢◌, ◌&&◌, ◌||◌, decimal, if◌then◌else◌}
use Rattle.std.specs.List.{list_any, AllByRecursion}
use Rattle.std.proofs.Math.ListN.{get_or}
use Rattle.std.proofs.lemmas.Fmt.{digits_decimal, decimal_injective}
use Rattle.std.proofs.lemmas.List.{append_cancel_left}
use Rattle.std.proofs.lemmas.Str.Parse.{IsDigitsTest, numerals_by_value}
use Rattle.pf_rules.specs.declared.parts.Direction.{Direction}
use Rattle.pf_rules.specs.declared.parts.Direction.TheVariants.{In, Out}
use Rattle.pf_config.specs.Map.{path_eq}
use Rattle.std.specs.Str.{bytes_eq}
use Rattle.pf_config.proofs.Treed.{both_true, bytes_same, path_same}
use Rattle.nft_rules.specs.Evaluation.{pass_eq, same_chain, same_set, is_chain, is_set}
use Rattle.nft_rules.specs.declared.subset.Pass.{Pass}
use Rattle.nft_rules.specs.declared.subset.Pass.TheVariants.{Forward, Backward}
use Rattle.nft_rules.specs.Subset.{family_eq, ChainName, Base, At, Chain, SetName, NamedSet, NftRuleset}
use Rattle.pf_addr.specs.declared.addr.Family.{Family}
use Rattle.pf_addr.specs.declared.addr.Family.TheVariants.{Inet, Inet6}
use Rattle.nft_text.specs.Texts.{chain_index, set_index, generation, chain_label, set_label}
use Rattle.pfx_laws.specs.Labels.{has_chain, has_set}

-- ---- digits up to a mark that is none

abbrev IsDigit : ℕ → Type 0
IsDigit b = (48 ≤ b) × (b ≤ 57)

abbrev Digits : List ℕ → Type 0
Digits text = AllByRecursion IsDigit text

digits_test : IsDigitsTest Digits
digits_test = record { empty = tt; parts = λ c cs p. p; more = λ c cs p q. (p, q) }

are_digits : (n : ℕ) → n < 2 ^ 64 → Digits (decimal n)
are_digits n small = digits_decimal (numerals_by_value Digits digits_test) n small

-- what is before the first _ and what is behind it
parted : (a b x y : List ℕ) → Digits a → Digits b → a ++ 95 ∷ x ≡ b ++ 95 ∷ y → (a ≡ b) × (x ≡ y)
parted [] [] x y p q e = (refl, ap (drop 1) e)
parted [] (d ∷ b) x y p q e = absurd (omega (arith, q.0.1, ap (λ l. get_or l 0 0) e))
parted (c ∷ a) [] x y p q e = absurd (omega (arith, p.0.1, ap (λ l. get_or l 0 0) e))
parted (c ∷ a) (d ∷ b) x y p q e =
    let k = parted a b x y p.1 q.1 (ap (drop 1) e) in
    (ap₂ (λ m l. m ∷ l) (ap (λ l. get_or l 0 0) e) k.0, k.1)

-- the position and what is behind it
behind : (p : ℕ) (x : List ℕ) → generation p ++ x ≡ 103 ∷ (decimal p ++ 95 ∷ x)
behind p x = ap (λ l. 103 ∷ l) (append_assoc (decimal p) (95 ∷ []) x)

generations : (p q : ℕ) (x y : List ℕ) → p < 2 ^ 32 → q < 2 ^ 32 → generation p ++ x ≡ generation q ++ y → (p ≡ q) × (x ≡ y)
generations p q x y few small e =
    let f = ap (drop 1) (sym (behind p x) ∙ e ∙ behind q y) in
    let k = parted (decimal p) (decimal q) x y (are_digits p (omega (arith, few))) (are_digits q (omega (arith, small))) f in
    (decimal_injective p q (omega (arith, few)) (omega (arith, small)) k.0, k.1)

-- ---- chains

abbrev letter : Direction → ℕ
letter In = 105
letter Out = 111

label_is : (p : ℕ) (d : Direction) (r : NftRuleset) (n : ChainName) → chain_label p d r n ≡ generation p ++ letter d ∷ decimal (chain_index n r.chains)
label_is p In r n = refl
label_is p Out r n = refl

same_letter : (d e : Direction) → letter d ≡ letter e → d ≡ e
same_letter In In h = refl
same_letter Out Out h = refl
same_letter In Out h = absurd (omega (arith, h))
same_letter Out In h = absurd (omega (arith, h))

pub chains_apart_by_position : (p q : ℕ) (d e : Direction) (r s : NftRuleset) (n m : ChainName) → p < 2 ^ 32 → q < 2 ^ 32 →
    chain_label p d r n ≡ chain_label q e s m → (p ≡ q) × (d ≡ e)
chains_apart_by_position p q d e r s n m few small h =
    let k = generations p q _ _ few small (sym (label_is p d r n) ∙ h ∙ label_is q e s m) in
    (k.0, same_letter d e (ap (λ l. get_or l 0 0) k.1))

-- none of the labels that every text has begins as a chain's
pub not_fixed : (p q : ℕ) (d : Direction) (r : NftRuleset) (n : ChainName) (c : ℕ) (word : List ℕ) → p < 2 ^ 32 → q < 2 ^ 32 →
    letter d ≢ c → chain_label p d r n ≢ generation q ++ c ∷ word
not_fixed p q d r n c word few small other h =
    other (ap (λ l. get_or l 0 0) (generations p q _ _ few small (sym (label_is p d r n) ∙ h)).1)

pub not_letter : (d : Direction) (c : ℕ) → 105 ≢ c → 111 ≢ c → letter d ≢ c
not_letter In c i o = i
not_letter Out c i o = o

pass_same : (a b : Pass) → pass_eq a b ≡ true → a ≡ b
pass_same Forward Forward h = refl
pass_same Backward Backward h = refl
pass_same Forward Backward h = cc
pass_same Backward Forward h = cc

chain_same : (n m : ChainName) → same_chain n m ≡ true → n ≡ m
chain_same Base Base h = refl
chain_same Base (At a p) h = cc
chain_same (At a p) Base h = cc
chain_same (At a p) (At b q) h =
    let both = both_true (pass_eq a b) (path_eq p q) h in
    ap₂ (λ c o. At c o) (pass_same a b both.0) (path_same p q both.1)

chains_before : (n : ChainName) (cs : List Chain) → chain_index n cs ≤ length cs
chains_before n [] = omega arith
chains_before n (c ∷ cs) =
    elim (is_chain n c) as (λ v. (if v then 0 else chain_index n cs + 1) ≤ suc (length cs)) [
      | true ↦ omega arith
      | false ↦ omega (arith, chains_before n cs)
    ]

one_chain : (n m : ChainName) (c : Chain) (cs : List Chain) (a b : Bool) → is_chain n c ≡ a → is_chain m c ≡ b →
    (list_any (is_chain n) cs ≡ true → list_any (is_chain m) cs ≡ true → chain_index n cs ≡ chain_index m cs → n ≡ m) →
    (a || list_any (is_chain n) cs) ≡ true → (b || list_any (is_chain m) cs) ≡ true →
    (if a then 0 else chain_index n cs + 1) ≡ (if b then 0 else chain_index m cs + 1) → n ≡ m
one_chain n m c cs true true e f rest h k i = sym (chain_same c.name n e) ∙ chain_same c.name m f
one_chain n m c cs true false e f rest h k i = absurd (omega (arith, i))
one_chain n m c cs false true e f rest h k i = absurd (omega (arith, i))
one_chain n m c cs false false e f rest h k i = rest h k (omega (arith, i))

chains_same : (n m : ChainName) (cs : List Chain) → list_any (is_chain n) cs ≡ true → list_any (is_chain m) cs ≡ true →
    chain_index n cs ≡ chain_index m cs → n ≡ m
chains_same n m [] h k i = cc
chains_same n m (c ∷ cs) h k i = one_chain n m c cs (is_chain n c) (is_chain m c) refl refl (chains_same n m cs) h k i

pub chains_apart : (p : ℕ) (d : Direction) (r : NftRuleset) (n m : ChainName) → length r.chains < 2 ^ 64 → has_chain r n ≡ true →
    has_chain r m ≡ true → chain_label p d r n ≡ chain_label p d r m → n ≡ m
chains_apart p d r n m few h k e =
    let f = append_cancel_left (generation p) _ _ (sym (label_is p d r n) ∙ e ∙ label_is p d r m) in
    let i = decimal_injective (chain_index n r.chains) (chain_index m r.chains)
    (omega (arith, few, chains_before n r.chains)) (omega (arith, few, chains_before m r.chains)) (ap (drop 1) f) in
    chains_same n m r.chains h k i

-- ---- sets

pub sets_apart_by_position : (p q : ℕ) (r s : NftRuleset) (n m : SetName) → p < 2 ^ 32 → q < 2 ^ 32 → set_label p r n ≡ set_label q s m → p ≡ q
sets_apart_by_position p q r s n m few small h = (generations p q _ _ few small h).0

family_same : (a b : Family) → family_eq a b ≡ true → a ≡ b
family_same Inet Inet h = refl
family_same Inet6 Inet6 h = refl
family_same Inet Inet6 h = cc
family_same Inet6 Inet h = cc

set_same : (n m : SetName) → same_set n m ≡ true → n ≡ m
set_same n m h =
    let first = both_true (path_eq n.owner m.owner && bytes_eq n.table m.table) (family_eq n.family m.family) h in
    let more = both_true (path_eq n.owner m.owner) (bytes_eq n.table m.table) first.0 in
    ap (λ o. record n { owner = o }) (path_same n.owner m.owner more.0)
    ∙ ap (λ t. record { owner = m.owner; table = t; family = n.family }) (bytes_same n.table m.table more.1)
    ∙ ap (λ f. record { owner = m.owner; table = m.table; family = f }) (family_same n.family m.family first.1)

sets_before : (n : SetName) (ss : List NamedSet) → set_index n ss ≤ length ss
sets_before n [] = omega arith
sets_before n (s ∷ ss) =
    elim (is_set n s) as (λ v. (if v then 0 else set_index n ss + 1) ≤ suc (length ss)) [
      | true ↦ omega arith
      | false ↦ omega (arith, sets_before n ss)
    ]

one_set : (n m : SetName) (s : NamedSet) (ss : List NamedSet) (a b : Bool) → is_set n s ≡ a → is_set m s ≡ b →
    (list_any (is_set n) ss ≡ true → list_any (is_set m) ss ≡ true → set_index n ss ≡ set_index m ss → n ≡ m) →
    (a || list_any (is_set n) ss) ≡ true → (b || list_any (is_set m) ss) ≡ true →
    (if a then 0 else set_index n ss + 1) ≡ (if b then 0 else set_index m ss + 1) → n ≡ m
one_set n m s ss true true e f rest h k i = sym (set_same s.name n e) ∙ set_same s.name m f
one_set n m s ss true false e f rest h k i = absurd (omega (arith, i))
one_set n m s ss false true e f rest h k i = absurd (omega (arith, i))
one_set n m s ss false false e f rest h k i = rest h k (omega (arith, i))

sets_same : (n m : SetName) (ss : List NamedSet) → list_any (is_set n) ss ≡ true → list_any (is_set m) ss ≡ true →
    set_index n ss ≡ set_index m ss → n ≡ m
sets_same n m [] h k i = cc
sets_same n m (s ∷ ss) h k i = one_set n m s ss (is_set n s) (is_set m s) refl refl (sets_same n m ss) h k i

pub sets_apart : (p : ℕ) (r : NftRuleset) (n m : SetName) → length r.sets < 2 ^ 64 → has_set r n ≡ true → has_set r m ≡ true →
    set_label p r n ≡ set_label p r m → n ≡ m
sets_apart p r n m few h k e =
    let f = append_cancel_left (generation p) _ _ e in
    let i = decimal_injective (set_index n r.sets) (set_index m r.sets)
    (omega (arith, few, sets_before n r.sets)) (omega (arith, few, sets_before m r.sets)) (ap (drop 1) f) in
    sets_same n m r.sets h k i
