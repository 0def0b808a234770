-- Anchor rules nest less than 10 deep, so that nothing depends on how deep jumps may nest from there on.
use Rattle.std.proofs.Common.{◌≡◌, ℕ, zero, suc, ◌+◌, ◌-◌, ◌<◌, ◌≤◌, Bool, true, false, ◌&&◌, List, [], ◌∷◌, ◌++◌, map, length, Some, refl, sym, ap, ◌∙◌, ◌||◌, arith, length-append}
use Rattle.std.specs.Prelude.{not, nat_le, filter, if◌then◌else◌}
use Rattle.std.specs.List.{list_any, flat_map}
use Rattle.std.proofs.lemmas.Bool.{or_parts, leb-true, true≢false}
use Rattle.pf_rules.specs.Names.{Name, begins_below}
use Rattle.pf_rules.specs.Items.{AnyRule, FilterRule, AnchorRule, Target}
use Rattle.pf_config.specs.Changes.{is_empty}
use Rattle.pf_config.specs.Map.{Configuration, Path, path_eq, paths_in, rules_at, kids, followed_by}
use Rattle.pf_eval.specs.Packets.{PacketValue}
use Rattle.pf_eval.specs.Matching.{Tables, matches}
use Rattle.pf_eval.specs.Verdicts.{Hit, marked, rule_hits, hits_with, not_too_deep, member_hits, target_hits, tables_in, hits, last_spot, judgement, Decided, Skipped, is_skipped}
use Rattle.nft_rules.specs.Subset.{Base}
use Rattle.nft_rules.specs.Evaluation.{run}
use Rattle.nft_rules.specs.Rendering.{Machine, rendered, chains_of, decision_of}
use Rattle.nft_rules.specs.Deciding.{IsPacketOn, leads_back, some_leads_back}
use Rattle.pf_config.proofs.Treed.{path_same}
use Rattle.nft_rules.proofs.Running.{at_hook, no_rules}

-- no rule at a path leads back
among : (test : Path → Bool) (p : Path) (paths : List Path) → list_any (λ q. path_eq q p) paths ≡ true → list_any test paths ≡ false → test p ≡ false
among test p [] there h = absurd (true≢false (sym there))
among test p (q ∷ paths) there h =
    let both = or_parts (test q) (list_any test paths) h in
    (elim (path_eq q p) as (λ v. path_eq q p ≡ v → (v || list_any (λ q. path_eq q p) paths) ≡ true → test p ≡ false) [
      | true ↦ λ e g. ap test (sym (path_same q p e)) ∙ both.0
      | false ↦ λ e g. among test p paths g both.1
    ]) refl there

pub none_back : (c : Configuration) (p : Path) → some_leads_back c ≡ false → list_any leads_back (rules_at c p) ≡ false
none_back c p h = (elim (list_any (λ q. path_eq q p) (paths_in c.anchors)) as (λ v. list_any (λ q. path_eq q p) (paths_in c.anchors) ≡ v → list_any leads_back (rules_at c p) ≡ false) [
  | true ↦ λ e. among (λ q. list_any leads_back (rules_at c q)) p (paths_in c.anchors) e h
  | false ↦ λ e. ap (list_any leads_back) (no_rules c p e)
]) refl

rules_same : (tables : Tables) (f g : Target → List Hit) (k : PacketValue) (p : Path) (i : ℕ) (rules : List AnyRule) → list_any leads_back rules ≡ false →
    ((t : Target) → (not t.children && is_empty t.names) ≡ false → f t ≡ g t) → hits_with tables f k p i rules ≡ hits_with tables g k p i rules
rules_same tables f g k p i [] h same = refl
rules_same tables f g k p i (FilterRule r ∷ rules) h same = ap (λ hs. rule_hits tables f k p i (FilterRule r) ++ hs) (rules_same tables f g k p (i + 1) rules h same)
rules_same tables f g k p i (AnchorRule a ∷ rules) h same =
    let both = or_parts (leads_back (AnchorRule a)) (list_any leads_back rules) h in
    ap (λ hs. (if matches tables a.conditions k then marked a.quick hs else []) ++ hits_with tables f k p (i + 1) rules) (same a.target both.0)
    ∙ ap (λ hs. rule_hits tables g k p i (AnchorRule a) ++ hs) (rules_same tables f g k p (i + 1) rules both.1 same)

-- hits at every path of at most 8 names that is longer
abbrev AreSame : ℕ → (Path → List Hit) → (Path → List Hit) → Type 0
AreSame n f g = (q : Path) → n < length q → length q ≤ 8 → f q ≡ g q

shallow_same : (n : ℕ) (f g : Path → List Hit) (q : Path) → AreSame n f g → n < length q → not_too_deep f q ≡ not_too_deep g q
shallow_same n f g q same longer = (elim (nat_le (length q) 8) as (λ v. nat_le (length q) 8 ≡ v → (if v then f q else []) ≡ (if v then g q else [])) [
  | true ↦ λ e. same q longer (leb-true (length q) 8 e)
  | false ↦ λ e. refl
]) refl

longer_by : (p r : Path) → length p ≤ length (p ++ r)
longer_by p r = let e : length (p ++ r) ≡ length p + length r = length-append p r in omega (arith, e)

longer_by_one : (q : Path) (n : Name) → length (followed_by q n) ≡ length q + 1
longer_by_one q n = length-append q (n ∷ [])

all_same : (n : ℕ) (f g : Path → List Hit) (q : Path) (ns : List Name) → AreSame n f g → n ≤ length q →
    flat_map (not_too_deep f) (map (followed_by q) ns) ≡ flat_map (not_too_deep g) (map (followed_by q) ns)
all_same n f g q [] same le = refl
all_same n f g q (m ∷ ms) same le =
    let e : length (followed_by q m) ≡ length q + 1 = longer_by_one q m in
    ap (λ hs. hs ++ flat_map (not_too_deep f) (map (followed_by q) ms)) (shallow_same n f g (followed_by q m) same (omega (arith, e, le)))
    ∙ ap (λ hs. not_too_deep g (followed_by q m) ++ hs) (all_same n f g q ms same le)

longer_by_names : (p r : Path) → is_empty r ≡ false → length p < length (p ++ r)
longer_by_names p [] h = absurd (true≢false h)
longer_by_names p (n ∷ ns) h = let e : length (p ++ n ∷ ns) ≡ length p + length (n ∷ ns) = length-append p (n ∷ ns) in omega (arith, e)

called_same : (c : Configuration) (f g : Path → List Hit) (p r : Path) (children : Bool) → AreSame (length p) f g → (not children && is_empty r) ≡ false →
    (if children then member_hits f (p ++ r) (kids c (p ++ r)) else not_too_deep f (p ++ r)) ≡ (if children then member_hits g (p ++ r) (kids c (p ++ r)) else not_too_deep g (p ++ r))
called_same c f g p r true same h = all_same (length p) f g (p ++ r) (filter (λ n. not (begins_below n)) (kids c (p ++ r))) same (longer_by p r)
called_same c f g p r false same h = shallow_same (length p) f g (p ++ r) same (longer_by_names p r h)

one_less : (c : Configuration) (k : PacketValue) → some_leads_back c ≡ false → (n : ℕ) (p : Path) → 9 ≤ n + length p → length p ≤ 8 → hits (suc n) c k p ≡ hits n c k p
unfolding hits rules_at
one_less c k h zero p deep short = absurd (omega (arith, deep, short))
one_less c k h (suc n) p deep short =
    rules_same (tables_in c p) (target_hits (hits (suc n) c k) c p) (target_hits (hits n c k) c p) k p 0 (rules_at c p) (none_back c p h)
    (λ t e. called_same c (hits (suc n) c k) (hits n c k) p t.names t.children (λ q longer fits. one_less c k h n q (omega (arith, deep, longer)) fits) e)

deeper : (c : Configuration) (k : PacketValue) → some_leads_back c ≡ false → (n : ℕ) → hits (n + 9) c k [] ≡ hits 9 c k []
deeper c k h zero = refl
deeper c k h (suc n) =
    let e : suc n + 9 ≡ suc (n + 9) = omega arith in
    ap (λ d. hits d c k []) e ∙ one_less c k h (n + 9) [] (omega arith) (omega arith) ∙ deeper c k h n

at_depth : (c : Configuration) (m : Machine) (k : PacketValue) → IsPacketOn m k → (depth : ℕ) → run (suc depth) (rendered c m k.direction) k Base
    ≡ Some (decision_of (if is_skipped c.skip k then Skipped else Decided (last_spot (hits depth c k []))))
unfolding run chains_of
at_depth c m k on depth = at_hook c m k depth on

pub rendered_decides : (c : Configuration) (m : Machine) (k : PacketValue) (depth : ℕ) → some_leads_back c ≡ false → IsPacketOn m k → 10 ≤ depth →
    run depth (rendered c m k.direction) k Base ≡ Some (decision_of (judgement c k))
rendered_decides c m k depth h on deep =
    let e : depth ≡ suc (depth - 10 + 9) = omega (arith, deep) in
    ap (λ d. run d (rendered c m k.direction) k Base) e ∙ at_depth c m k on (depth - 10 + 9)
    ∙ ap (λ hs. Some (decision_of (if is_skipped c.skip k then Skipped else Decided (last_spot hs)))) (deeper c k h (depth - 10))
