-- The rendered ruleset decides what the two walks give.
use Rattle.std.proofs.Common.{◌≡◌, ℕ, zero, suc, ◌+◌, Bool, true, false, ◌&&◌, ◌||◌, List, [], ◌∷◌, ◌++◌, map, length, reverse, Option, Some, None, option_map, refl, sym, ap, ◌∙◌}
use Rattle.std.specs.Prelude.{not, nat_le, find, filter, if◌then◌else◌}
use Rattle.std.specs.List.{list_any, list_all}
use Rattle.std.specs.Str.{bytes_eq}
use Rattle.std.proofs.lemmas.Bool.{false≢true, true≢false}
use Rattle.pf_rules.specs.declared.rule.Rule.{Rule}
use Rattle.pf_rules.specs.declared.parts.Direction.{Direction}
use Rattle.pf_rules.specs.Names.{Name, begins_below}
use Rattle.pf_rules.specs.Items.{AnyRule, FilterRule, AnchorRule, Target}
use Rattle.pf_config.specs.Map.{Configuration, AnchorValue, Path, path_eq, anchor_at, paths_in, rules_in as rules_of, rules_at, kids, followed_by, or_else}
use Rattle.pf_config.specs.Changes.{is_empty}
use Rattle.pf_config.specs.Trees.{last_name}
use Rattle.pf_config.proofs.Treed.{path_same}
use Rattle.pf_eval.specs.Packets.{PacketValue, interfaces}
use Rattle.pf_eval.specs.Matching.{matches}
use Rattle.pf_eval.specs.Verdicts.{Spot as PfSpot, tables_in, hits, last_spot, Skipped, Decided, is_skipped as skipped_packet}
use Rattle.pf_eval.specs.inner.TwoWalks.{first_some, last_some, first_rule, last_rule, shallow, in_member, ending as ended}
use Rattle.pf_eval.specs.inner.TwoWalks.{called_stop, called_last, target_stop, target_last, rule_stop, rule_last, first_walk, second_walk}
use Rattle.pf_eval.proofs.Deciding.{two_walks}
use Rattle.std.proofs.lemmas.List.{map-append, reverse-append}
use Rattle.pf_eval.proofs.Walks.{second_nothing, first_nothing}
use Rattle.nft_rules.specs.Subset.{Pass, Forward, Backward, ChainName, At, Decision, Statement, Ends, Jump, NftRule, Chain, NamedSet}
use Rattle.nft_rules.specs.Subset.{Spot, Accept, Skip, Default}
use Rattle.nft_rules.specs.Evaluation.{holds, run, run_rules, result_of, rules_in, is_chain}
use Rattle.nft_rules.specs.Alternatives.{Alternative}
use Rattle.nft_rules.specs.Rendering.{jump_each, Machine, always, known, alternatives, with_statement, outcome_of, filter_rules, jump_rules, is_chained, targets_of, chained_targets, forward_chains, backward_chains}
use Rattle.nft_rules.specs.Rendering.{forward_rule, backward_rule, forward_rules, backward_rules, forward_chain, backward_chain, unknown_matches, skip_rules, main_chains, base_chain, sets_of, chains_of, rendered, decision_of}
use Rattle.nft_rules.specs.Rendering.{interfaces_with, on_some, is_skipped}
use Rattle.nft_rules.specs.Deciding.{IsPacketOn}
use Rattle.nft_rules.proofs.Choices.{any_holds, choice_holds, all_matches}
use Rattle.nft_rules.proofs.FoundSets.{find_append}
use Rattle.nft_rules.proofs.Matched.{rule_holds, on_passing, is_known}

-- ---- lists of rules

or_assoc : (a b d : Option Decision) → or_else (or_else a b) d ≡ or_else a (or_else b d)
or_assoc None b d = refl
or_assoc (Some x) b d = refl

or_none : (a : Option Decision) → or_else a None ≡ a
or_none None = refl
or_none (Some x) = refl

run_append : (sets : List NamedSet) (k : PacketValue) (jumped : ChainName → Option Decision) (xs ys : List NftRule) →
    run_rules sets k jumped (xs ++ ys) ≡ or_else (run_rules sets k jumped xs) (run_rules sets k jumped ys)
run_append sets k jumped [] ys = refl
run_append sets k jumped (x ∷ xs) ys =
    ap (or_else (if list_all (holds sets k) x.matches then result_of jumped x.statement else None)) (run_append sets k jumped xs ys)
    ∙ sym (or_assoc (if list_all (holds sets k) x.matches then result_of jumped x.statement else None) (run_rules sets k jumped xs) (run_rules sets k jumped ys))

-- what is decided if some alternative holds
again : (v w : Bool) (d : Option Decision) → or_else (if v then d else None) (if w then d else None) ≡ (if v || w then d else None)
again true true None = refl
again true true (Some x) = refl
again true false d = or_none d
again false w d = refl

-- one statement under each alternative
run_each : (sets : List NamedSet) (k : PacketValue) (jumped : ChainName → Option Decision) (s : Statement) (xs : List Alternative) →
    run_rules sets k jumped (map (with_statement s) xs) ≡ (if any_holds sets k xs then result_of jumped s else None)
unfolding with_statement
run_each sets k jumped s [] = refl
run_each sets k jumped s (x ∷ xs) =
    ap (λ v. or_else (if v then result_of jumped s else None) (run_rules sets k jumped (map (with_statement s) xs))) (all_matches sets k x)
    ∙ ap (or_else (if choice_holds sets k x then result_of jumped s else None)) (run_each sets k jumped s xs)
    ∙ again (choice_holds sets k x) (any_holds sets k xs) (result_of jumped s)

-- the first of these chains that decides
abbrev first_chain : (ChainName → Option Decision) → List ChainName → Option Decision
first_chain jumped [] = None
first_chain jumped (n ∷ ns) = or_else (jumped n) (first_chain jumped ns)

chains_append : (jumped : ChainName → Option Decision) (xs ys : List ChainName) → first_chain jumped (xs ++ ys) ≡ or_else (first_chain jumped xs) (first_chain jumped ys)
chains_append jumped [] ys = refl
chains_append jumped (x ∷ xs) ys = ap (or_else (jumped x)) (chains_append jumped xs ys) ∙ sym (or_assoc (jumped x) (first_chain jumped xs) (first_chain jumped ys))

both_if : (v : Bool) (a b : Option Decision) → or_else (if v then a else None) (if v then b else None) ≡ (if v then or_else a b else None)
both_if true a b = refl
both_if false a b = refl

none_if : (v : Bool) → ◌≡◌ {A = Option Decision} None (if v then None else None)
none_if true = refl
none_if false = refl

-- jumps under one alternative
jumps_one : (sets : List NamedSet) (k : PacketValue) (jumped : ChainName → Option Decision) (a : Alternative) (ns : List ChainName) →
    run_rules sets k jumped (map (λ n. with_statement (Jump n) a) ns) ≡ (if choice_holds sets k a then first_chain jumped ns else None)
unfolding with_statement
jumps_one sets k jumped a [] = none_if (choice_holds sets k a)
jumps_one sets k jumped a (n ∷ ns) =
    ap (λ v. or_else (if v then jumped n else None) (run_rules sets k jumped (map (λ n. with_statement (Jump n) a) ns))) (all_matches sets k a)
    ∙ ap (or_else (if choice_holds sets k a then jumped n else None)) (jumps_one sets k jumped a ns)
    ∙ both_if (choice_holds sets k a) (jumped n) (first_chain jumped ns)

run_jumps : (sets : List NamedSet) (k : PacketValue) (jumped : ChainName → Option Decision) (xs : List Alternative) (ns : List ChainName) →
    run_rules sets k jumped (jump_rules xs ns) ≡ (if any_holds sets k xs then first_chain jumped ns else None)
unfolding jump_each
run_jumps sets k jumped [] ns = refl
run_jumps sets k jumped (x ∷ xs) ns =
    run_append sets k jumped (map (λ n. with_statement (Jump n) x) ns) (jump_rules xs ns)
    ∙ ap (λ r. or_else r (run_rules sets k jumped (jump_rules xs ns))) (jumps_one sets k jumped x ns)
    ∙ ap (or_else (if choice_holds sets k x then first_chain jumped ns else None)) (run_jumps sets k jumped xs ns)
    ∙ again (choice_holds sets k x) (any_holds sets k xs) (first_chain jumped ns)

-- ---- what a walk gives, as a decision

abbrev pub decided : PfSpot → Decision
decided s = record { outcome = outcome_of s.action; note = Spot s.path s.index }

abbrev pub decided_in : Option PfSpot → Option Decision
decided_in o = option_map decided o

decided_or : (a b : Option PfSpot) → decided_in (or_else a b) ≡ or_else (decided_in a) (decided_in b)
decided_or None b = refl
decided_or (Some x) b = refl

decided_if : (v : Bool) (a : Option PfSpot) → decided_in (if v then a else None) ≡ (if v then decided_in a else None)
decided_if true a = refl
decided_if false a = refl

-- ---- which chain a name finds

other_forward : (c : Configuration) (m : Machine) (d : Direction) (p : Path) (qs : List Path) → find (is_chain (At Backward p)) (map (forward_chain c m d) qs) ≡ None
other_forward c m d p [] = refl
other_forward c m d p (q ∷ qs) = other_forward c m d p qs

other_backward : (c : Configuration) (m : Machine) (d : Direction) (p : Path) (qs : List Path) → find (is_chain (At Forward p)) (map (backward_chain c m d) qs) ≡ None
other_backward c m d p [] = refl
other_backward c m d p (q ∷ qs) = other_backward c m d p qs

found_forward : (c : Configuration) (m : Machine) (d : Direction) (p : Path) (qs : List Path) →
    find (is_chain (At Forward p)) (map (forward_chain c m d) qs) ≡ (if list_any (λ q. path_eq q p) qs then Some (forward_chain c m d p) else None)
found_forward c m d p [] = refl
found_forward c m d p (q ∷ qs) = (elim (path_eq q p) as (λ v. path_eq q p ≡ v → (if v then Some (forward_chain c m d q) else find (is_chain (At Forward p)) (map (forward_chain c m d) qs))
    ≡ (if v || list_any (λ q. path_eq q p) qs then Some (forward_chain c m d p) else None)) [
      | true ↦ λ e. ap (λ x. Some (forward_chain c m d x)) (path_same q p e)
      | false ↦ λ e. found_forward c m d p qs
    ]) refl

found_backward : (c : Configuration) (m : Machine) (d : Direction) (p : Path) (qs : List Path) →
    find (is_chain (At Backward p)) (map (backward_chain c m d) qs) ≡ (if list_any (λ q. path_eq q p) qs then Some (backward_chain c m d p) else None)
found_backward c m d p [] = refl
found_backward c m d p (q ∷ qs) = (elim (path_eq q p) as (λ v. path_eq q p ≡ v → (if v then Some (backward_chain c m d q) else find (is_chain (At Backward p)) (map (backward_chain c m d) qs))
    ≡ (if v || list_any (λ q. path_eq q p) qs then Some (backward_chain c m d p) else None)) [
      | true ↦ λ e. ap (λ x. Some (backward_chain c m d x)) (path_same q p e)
      | false ↦ λ e. found_backward c m d p qs
    ]) refl

chain_or : (o : Option Chain) → or_else o None ≡ o
chain_or None = refl
chain_or (Some x) = refl

-- where no entry is there are no rules
no_path : (p : Path) (anchors : List AnchorValue) → list_any (λ q. path_eq q p) (paths_in anchors) ≡ false → rules_of (anchor_at p anchors) ≡ []
no_path p [] h = refl
no_path p (a ∷ anchors) h = (elim (path_eq a.path p) as (λ v. (v || list_any (λ q. path_eq q p) (paths_in anchors)) ≡ false → rules_of (if v then Some a else anchor_at p anchors) ≡ []) [
  | true ↦ λ g. absurd (true≢false g)
  | false ↦ λ g. no_path p anchors g
]) h

pub no_rules : (c : Configuration) (p : Path) → list_any (λ q. path_eq q p) (paths_in c.anchors) ≡ false → rules_at c p ≡ []
unfolding rules_at
no_rules c p h = no_path p c.anchors h

forward_found : (c : Configuration) (m : Machine) (d : Direction) (p : Path) → rules_in (find (is_chain (At Forward p)) (chains_of c m d)) ≡ forward_rules (forward_rule c m d p) 0 (rules_at c p)
unfolding chains_of
forward_found c m d p =
    let qs = paths_in c.anchors in
    ap rules_in (find_append (is_chain (At Forward p)) (map (forward_chain c m d) qs) (map (backward_chain c m d) qs)
    ∙ ap (or_else (find (is_chain (At Forward p)) (map (forward_chain c m d) qs))) (other_backward c m d p qs)
    ∙ chain_or (find (is_chain (At Forward p)) (map (forward_chain c m d) qs)) ∙ found_forward c m d p qs)
    ∙ (elim (list_any (λ q. path_eq q p) qs) as (λ v. list_any (λ q. path_eq q p) qs ≡ v → rules_in (if v then Some (forward_chain c m d p) else None) ≡ forward_rules (forward_rule c m d p) 0 (rules_at c p)) [
      | true ↦ λ e. refl
      | false ↦ λ e. sym (ap (forward_rules (forward_rule c m d p) 0) (no_rules c p e))
    ]) refl

backward_found : (c : Configuration) (m : Machine) (d : Direction) (p : Path) → rules_in (find (is_chain (At Backward p)) (chains_of c m d)) ≡ backward_rules (backward_rule c m d p) 0 (rules_at c p)
unfolding chains_of
backward_found c m d p =
    let qs = paths_in c.anchors in
    ap rules_in (find_append (is_chain (At Backward p)) (map (forward_chain c m d) qs) (map (backward_chain c m d) qs)
    ∙ ap (λ o. or_else o (find (is_chain (At Backward p)) (map (backward_chain c m d) qs))) (other_forward c m d p qs)
    ∙ found_backward c m d p qs)
    ∙ (elim (list_any (λ q. path_eq q p) qs) as (λ v. list_any (λ q. path_eq q p) qs ≡ v → rules_in (if v then Some (backward_chain c m d p) else None) ≡ backward_rules (backward_rule c m d p) 0 (rules_at c p)) [
      | true ↦ λ e. refl
      | false ↦ λ e. sym (ap (backward_rules (backward_rule c m d p) 0) (no_rules c p e))
    ]) refl

-- ---- what an anchor rule evaluates

-- a chain decides what the walk gives at its path
abbrev Decides : Pass → (ChainName → Option Decision) → (Path → Option PfSpot) → Type 0
Decides pass jumped walk = (q : Path) → jumped (At pass q) ≡ decided_in (walk q)

-- where nothing is, the walk yields nothing
abbrev IsNothing : Configuration → (Path → Option PfSpot) → Type 0
IsNothing c walk = (q : Path) → rules_at c q ≡ [] → walk q ≡ None

is_nothing : (rules : List AnyRule) → not (is_empty rules) ≡ false → rules ≡ []
is_nothing [] h = refl
is_nothing (r ∷ rs) h = absurd (true≢false h)

unchained : (c : Configuration) (walk : Path → Option PfSpot) (q : Path) → IsNothing c walk → is_chained c q ≡ false → shallow walk q ≡ None
unchained c walk q nothing h = (elim (nat_le (length q) 8) as (λ v. (v && not (is_empty (rules_at c q))) ≡ false → (if v then walk q else None) ≡ None) [
  | true ↦ λ e. nothing q (is_nothing (rules_at c q) e)
  | false ↦ λ e. refl
]) h

chained : (c : Configuration) (walk : Path → Option PfSpot) (q : Path) → is_chained c q ≡ true → shallow walk q ≡ walk q
chained c walk q h = (elim (nat_le (length q) 8) as (λ v. (v && not (is_empty (rules_at c q))) ≡ true → (if v then walk q else None) ≡ walk q) [
  | true ↦ λ e. refl
  | false ↦ λ e. absurd (false≢true e)
]) h

forwards : (c : Configuration) (jumped : ChainName → Option Decision) (walk : Path → Option PfSpot) (qs : List Path) → Decides Forward jumped walk → IsNothing c walk →
    first_chain jumped (forward_chains (filter (is_chained c) qs)) ≡ decided_in (first_some (shallow walk) qs)
forwards c jumped walk [] is nothing = refl
forwards c jumped walk (q ∷ qs) is nothing = (elim (is_chained c q) as (λ v. is_chained c q ≡ v → first_chain jumped (forward_chains (if v then q ∷ filter (is_chained c) qs else filter (is_chained c) qs)) ≡ decided_in (or_else (shallow walk q) (first_some (shallow walk) qs))) [
  | true ↦ λ e. ap (λ o. or_else o (first_chain jumped (forward_chains (filter (is_chained c) qs)))) (is q ∙ ap decided_in (sym (chained c walk q e)))
      ∙ ap (or_else (decided_in (shallow walk q))) (forwards c jumped walk qs is nothing) ∙ sym (decided_or (shallow walk q) (first_some (shallow walk) qs))
  | false ↦ λ e. forwards c jumped walk qs is nothing ∙ ap (λ o. decided_in (or_else o (first_some (shallow walk) qs))) (sym (unchained c walk q nothing e))
]) refl

spot_or : (a : Option PfSpot) → or_else a None ≡ a
spot_or None = refl
spot_or (Some x) = refl

-- the last of these chains comes first
turned_chains : (jumped : ChainName → Option Decision) (q : Path) (qs : List Path) → first_chain jumped (backward_chains (q ∷ qs)) ≡ or_else (first_chain jumped (backward_chains qs)) (jumped (At Backward q))
turned_chains jumped q qs =
    ap (λ ps. first_chain jumped (map (At Backward) ps)) (reverse-append (q ∷ []) qs) ∙ ap (first_chain jumped) (map-append (At Backward) (reverse qs) (q ∷ []))
    ∙ chains_append jumped (backward_chains qs) (At Backward q ∷ []) ∙ ap (or_else (first_chain jumped (backward_chains qs))) (or_none (jumped (At Backward q)))

backwards : (c : Configuration) (jumped : ChainName → Option Decision) (walk : Path → Option PfSpot) (qs : List Path) → Decides Backward jumped walk → IsNothing c walk →
    first_chain jumped (backward_chains (filter (is_chained c) qs)) ≡ decided_in (last_some (shallow walk) qs)
backwards c jumped walk [] is nothing = refl
backwards c jumped walk (q ∷ qs) is nothing = (elim (is_chained c q) as (λ v. is_chained c q ≡ v → first_chain jumped (backward_chains (if v then q ∷ filter (is_chained c) qs else filter (is_chained c) qs)) ≡ decided_in (or_else (last_some (shallow walk) qs) (shallow walk q))) [
  | true ↦ λ e. turned_chains jumped q (filter (is_chained c) qs)
      ∙ ap (λ o. or_else o (jumped (At Backward q))) (backwards c jumped walk qs is nothing)
      ∙ ap (or_else (decided_in (last_some (shallow walk) qs))) (is q ∙ ap decided_in (sym (chained c walk q e)))
      ∙ sym (decided_or (last_some (shallow walk) qs) (shallow walk q))
  | false ↦ λ e. backwards c jumped walk qs is nothing ∙ ap decided_in (sym (ap (or_else (last_some (shallow walk) qs)) (unchained c walk q nothing e) ∙ spot_or (last_some (shallow walk) qs)))
]) refl

last_of : (p : Path) (n : Name) → last_name (followed_by p n) ≡ n
last_of [] n = refl
last_of (m ∷ []) n = refl
last_of (m ∷ l ∷ p) n = last_of (l ∷ p) n

member : (walk : Path → Option PfSpot) (p : Path) (n : Name) → in_member walk (followed_by p n) ≡ (if begins_below n then None else shallow walk (followed_by p n))
member walk p n = ap (λ x. if begins_below x then None else shallow walk (followed_by p n)) (last_of p n)

first_members : (walk : Path → Option PfSpot) (p : Path) (ns : List Name) →
    first_some (in_member walk) (map (followed_by p) ns) ≡ first_some (shallow walk) (map (followed_by p) (filter (λ n. not (begins_below n)) ns))
first_members walk p [] = refl
first_members walk p (n ∷ ns) =
    ap (λ o. or_else o (first_some (in_member walk) (map (followed_by p) ns))) (member walk p n)
    ∙ (elim (begins_below n) as (λ v. or_else (if v then None else shallow walk (followed_by p n)) (first_some (in_member walk) (map (followed_by p) ns))
    ≡ first_some (shallow walk) (map (followed_by p) (if not v then n ∷ filter (λ n. not (begins_below n)) ns else filter (λ n. not (begins_below n)) ns))) [
      | true ↦ first_members walk p ns
      | false ↦ ap (or_else (shallow walk (followed_by p n))) (first_members walk p ns)
    ])

last_members : (walk : Path → Option PfSpot) (p : Path) (ns : List Name) →
    last_some (in_member walk) (map (followed_by p) ns) ≡ last_some (shallow walk) (map (followed_by p) (filter (λ n. not (begins_below n)) ns))
last_members walk p [] = refl
last_members walk p (n ∷ ns) =
    ap (or_else (last_some (in_member walk) (map (followed_by p) ns))) (member walk p n)
    ∙ (elim (begins_below n) as (λ v. or_else (last_some (in_member walk) (map (followed_by p) ns)) (if v then None else shallow walk (followed_by p n))
    ≡ last_some (shallow walk) (map (followed_by p) (if not v then n ∷ filter (λ n. not (begins_below n)) ns else filter (λ n. not (begins_below n)) ns))) [
      | true ↦ spot_or (last_some (in_member walk) (map (followed_by p) ns)) ∙ last_members walk p ns
      | false ↦ ap (λ o. or_else o (shallow walk (followed_by p n))) (last_members walk p ns)
    ])

stop_called : (walk : Path → Option PfSpot) (c : Configuration) (q : Path) (children : Bool) →
    first_some (shallow walk) (if children then map (followed_by q) (filter (λ n. not (begins_below n)) (kids c q)) else q ∷ []) ≡ called_stop walk c q children
stop_called walk c q true = sym (first_members walk q (kids c q))
stop_called walk c q false = spot_or (shallow walk q)

last_called : (walk : Path → Option PfSpot) (c : Configuration) (q : Path) (children : Bool) →
    last_some (shallow walk) (if children then map (followed_by q) (filter (λ n. not (begins_below n)) (kids c q)) else q ∷ []) ≡ called_last walk c q children
last_called walk c q true = sym (last_members walk q (kids c q))
last_called walk c q false = refl

stop_chains : (c : Configuration) (jumped : ChainName → Option Decision) (walk : Path → Option PfSpot) (p : Path) (t : Target) → Decides Forward jumped walk → IsNothing c walk →
    first_chain jumped (forward_chains (chained_targets c p t)) ≡ decided_in (target_stop walk c p t)
stop_chains c jumped walk p t is nothing = forwards c jumped walk (targets_of c p t) is nothing ∙ ap decided_in (stop_called walk c (p ++ t.names) t.children)

last_chains : (c : Configuration) (jumped : ChainName → Option Decision) (walk : Path → Option PfSpot) (p : Path) (t : Target) → Decides Backward jumped walk → IsNothing c walk →
    first_chain jumped (backward_chains (chained_targets c p t)) ≡ decided_in (target_last walk c p t)
last_chains c jumped walk p t is nothing = backwards c jumped walk (targets_of c p t) is nothing ∙ ap decided_in (last_called walk c (p ++ t.names) t.children)

-- ---- rules

filters : (c : Configuration) (m : Machine) (k : PacketValue) (jumped : ChainName → Option Decision) (p : Path) (i : ℕ) (r : Rule) → IsPacketOn m k →
    run_rules (sets_of c) k jumped (filter_rules (alternatives c m k.direction p r.conditions) p i r)
    ≡ decided_in (if matches (tables_in c p) r.conditions k then Some (record { path = p; index = i; action = r.action }) else None)
filters c m k jumped p i r on =
    run_each (sets_of c) k jumped (Ends (decided (record { path = p; index = i; action = r.action }))) (alternatives c m k.direction p r.conditions)
    ∙ ap (λ v. if v then Some (decided (record { path = p; index = i; action = r.action })) else None) (rule_holds c m p k r.conditions on)
    ∙ sym (decided_if (matches (tables_in c p) r.conditions k) (Some (record { path = p; index = i; action = r.action })))

forward_runs : (c : Configuration) (m : Machine) (k : PacketValue) (jumped : ChainName → Option Decision) (walk back : Path → Option PfSpot) (p : Path) → IsPacketOn m k →
    Decides Forward jumped walk → IsNothing c walk → Decides Backward jumped back → IsNothing c back → (i : ℕ) (rule : AnyRule) →
    run_rules (sets_of c) k jumped (forward_rule c m k.direction p i rule) ≡ decided_in (rule_stop (tables_in c p) (target_stop walk c p) (target_last back c p) k p i rule)
forward_runs c m k jumped walk back p on f fn b bn i (FilterRule r) = elim (r.quick) as (λ v.
    run_rules (sets_of c) k jumped (if v then filter_rules (alternatives c m k.direction p r.conditions) p i r else [])
    ≡ decided_in (if v then (if matches (tables_in c p) r.conditions k then Some (record { path = p; index = i; action = r.action }) else None) else None)) [
      | true ↦ filters c m k jumped p i r on
      | false ↦ refl
    ]
forward_runs c m k jumped walk back p on f fn b bn i (AnchorRule a) =
    let xs = alternatives c m k.direction p a.conditions in
    let fs = forward_chains (chained_targets c p a.target) in
    let bs = backward_chains (chained_targets c p a.target) in
    let s = target_stop walk c p a.target in
    let l = target_last back c p a.target in
    run_jumps (sets_of c) k jumped xs (fs ++ (if a.quick then bs else []))
    ∙ ap (λ v. if v then first_chain jumped (fs ++ (if a.quick then bs else [])) else None) (rule_holds c m p k a.conditions on)
    ∙ ap (λ o. if matches (tables_in c p) a.conditions k then o else None) (
    chains_append jumped fs (if a.quick then bs else []) ∙ ap (λ o. or_else o (first_chain jumped (if a.quick then bs else []))) (stop_chains c jumped walk p a.target f fn)
    ∙ (elim (a.quick) as (λ v. or_else (decided_in s) (first_chain jumped (if v then bs else [])) ≡ decided_in (ended v s l)) [
      | true ↦ ap (or_else (decided_in s)) (last_chains c jumped back p a.target b bn) ∙ sym (decided_or s l)
      | false ↦ or_none (decided_in s)
    ]))
    ∙ sym (decided_if (matches (tables_in c p) a.conditions k) (ended a.quick s l))

backward_runs : (c : Configuration) (m : Machine) (k : PacketValue) (jumped : ChainName → Option Decision) (back : Path → Option PfSpot) (p : Path) → IsPacketOn m k →
    Decides Backward jumped back → IsNothing c back → (i : ℕ) (rule : AnyRule) →
    run_rules (sets_of c) k jumped (backward_rule c m k.direction p i rule) ≡ decided_in (rule_last (tables_in c p) (target_last back c p) k p i rule)
backward_runs c m k jumped back p on b bn i (FilterRule r) = elim (r.quick) as (λ v.
    run_rules (sets_of c) k jumped (if v then [] else filter_rules (alternatives c m k.direction p r.conditions) p i r)
    ≡ decided_in (if v then None else (if matches (tables_in c p) r.conditions k then Some (record { path = p; index = i; action = r.action }) else None))) [
      | true ↦ refl
      | false ↦ filters c m k jumped p i r on
    ]
backward_runs c m k jumped back p on b bn i (AnchorRule a) =
    let xs = alternatives c m k.direction p a.conditions in
    let bs = backward_chains (chained_targets c p a.target) in
    let l = target_last back c p a.target in
    elim (a.quick) as (λ v. run_rules (sets_of c) k jumped (if v then [] else jump_rules xs bs) ≡ decided_in (if v then None else (if matches (tables_in c p) a.conditions k then l else None))) [
      | true ↦ refl
      | false ↦ run_jumps (sets_of c) k jumped xs bs
          ∙ ap (λ v. if v then first_chain jumped bs else None) (rule_holds c m p k a.conditions on)
          ∙ ap (λ o. if matches (tables_in c p) a.conditions k then o else None) (last_chains c jumped back p a.target b bn)
          ∙ sym (decided_if (matches (tables_in c p) a.conditions k) l)
    ]

all_forward : (sets : List NamedSet) (k : PacketValue) (jumped : ChainName → Option Decision) (f : ℕ → AnyRule → List NftRule) (g : ℕ → AnyRule → Option PfSpot) →
    ((i : ℕ) (rule : AnyRule) → run_rules sets k jumped (f i rule) ≡ decided_in (g i rule)) → (i : ℕ) (rules : List AnyRule) →
    run_rules sets k jumped (forward_rules f i rules) ≡ decided_in (first_rule g i rules)
all_forward sets k jumped f g is i [] = refl
all_forward sets k jumped f g is i (rule ∷ rules) =
    run_append sets k jumped (f i rule) (forward_rules f (i + 1) rules)
    ∙ ap (λ o. or_else o (run_rules sets k jumped (forward_rules f (i + 1) rules))) (is i rule)
    ∙ ap (or_else (decided_in (g i rule))) (all_forward sets k jumped f g is (i + 1) rules)
    ∙ sym (decided_or (g i rule) (first_rule g (i + 1) rules))

all_backward : (sets : List NamedSet) (k : PacketValue) (jumped : ChainName → Option Decision) (f : ℕ → AnyRule → List NftRule) (g : ℕ → AnyRule → Option PfSpot) →
    ((i : ℕ) (rule : AnyRule) → run_rules sets k jumped (f i rule) ≡ decided_in (g i rule)) → (i : ℕ) (rules : List AnyRule) →
    run_rules sets k jumped (backward_rules f i rules) ≡ decided_in (last_rule g i rules)
all_backward sets k jumped f g is i [] = refl
all_backward sets k jumped f g is i (rule ∷ rules) =
    run_append sets k jumped (backward_rules f (i + 1) rules) (f i rule)
    ∙ ap (λ o. or_else o (run_rules sets k jumped (f i rule))) (all_backward sets k jumped f g is (i + 1) rules)
    ∙ ap (or_else (decided_in (last_rule g (i + 1) rules))) (is i rule)
    ∙ sym (decided_or (last_rule g (i + 1) rules) (g i rule))

-- ---- the walks

second_runs : (c : Configuration) (m : Machine) (k : PacketValue) → IsPacketOn m k → (depth : ℕ) (p : Path) → run depth (rendered c m k.direction) k (At Backward p) ≡ decided_in (second_walk depth c k p)
unfolding run second_walk
second_runs c m k on zero p = refl
second_runs c m k on (suc depth) p =
    ap (run_rules (sets_of c) k (run depth (rendered c m k.direction) k)) (backward_found c m k.direction p)
    ∙ all_backward (sets_of c) k (run depth (rendered c m k.direction) k) (backward_rule c m k.direction p) (rule_last (tables_in c p) (target_last (second_walk depth c k) c p) k p)
    (backward_runs c m k (run depth (rendered c m k.direction) k) (second_walk depth c k) p on (λ q. second_runs c m k on depth q) (λ q e. second_nothing depth c k q e)) 0 (rules_at c p)

first_runs : (c : Configuration) (m : Machine) (k : PacketValue) → IsPacketOn m k → (depth : ℕ) (p : Path) → run depth (rendered c m k.direction) k (At Forward p) ≡ decided_in (first_walk depth c k p)
unfolding run first_walk
first_runs c m k on zero p = refl
first_runs c m k on (suc depth) p =
    ap (run_rules (sets_of c) k (run depth (rendered c m k.direction) k)) (forward_found c m k.direction p)
    ∙ all_forward (sets_of c) k (run depth (rendered c m k.direction) k) (forward_rule c m k.direction p)
    (rule_stop (tables_in c p) (target_stop (first_walk depth c k) c p) (target_last (second_walk depth c k) c p) k p)
    (forward_runs c m k (run depth (rendered c m k.direction) k) (first_walk depth c k) (second_walk depth c k) p on
    (λ q. first_runs c m k on depth q) (λ q e. first_nothing depth c k q e)
    (λ q. second_runs c m k on depth q) (λ q e. second_nothing depth c k q e)) 0 (rules_at c p)

-- ---- the chain at the hook

known_here : (k : PacketValue) (sets : List NamedSet) (ns : List Name) → list_any (bytes_eq k.interface) ns ≡ true → list_all (holds sets k) (unknown_matches ns) ≡ false
unfolding holds
known_here k sets [] h = absurd (false≢true h)
known_here k sets (n ∷ ns) h = rw h refl

mains : (c : Configuration) (m : Machine) (k : PacketValue) (depth : ℕ) → IsPacketOn m k →
    first_chain (run depth (rendered c m k.direction) k) (main_chains c) ≡ decided_in (last_spot (hits depth c k []))
mains c m k depth on =
    let jumped = run depth (rendered c m k.direction) k in
    (elim (rules_at c []) as (λ rs. rules_at c [] ≡ rs → first_chain jumped (if is_empty rs then [] else At Forward [] ∷ At Backward [] ∷ []) ≡ decided_in (or_else (first_walk depth c k []) (second_walk depth c k []))) [
      | [] ↦ λ e. sym (ap (λ o. decided_in (or_else o (second_walk depth c k []))) (first_nothing depth c k [] e) ∙ ap decided_in (second_nothing depth c k [] e))
      | r ∷ rs ↦ λ e. ap (or_else (jumped (At Forward []))) (or_none (jumped (At Backward []))) ∙ ap (λ o. or_else o (jumped (At Backward []))) (first_runs c m k on depth [])
          ∙ ap (or_else (decided_in (first_walk depth c k []))) (second_runs c m k on depth []) ∙ sym (decided_or (first_walk depth c k []) (second_walk depth c k []))
    ]) refl ∙ ap decided_in (two_walks depth c k [])

or_default : (o : Option PfSpot) → or_else (decided_in o) (Some (record { outcome = Accept; note = Default })) ≡ Some (decision_of (Decided o))
or_default None = refl
or_default (Some s) = refl

pub at_hook : (c : Configuration) (m : Machine) (k : PacketValue) (depth : ℕ) → IsPacketOn m k →
    run_rules (sets_of c) k (run depth (rendered c m k.direction) k) (base_chain c m).rules
    ≡ Some (decision_of (if skipped_packet c.skip k then Skipped else Decided (last_spot (hits depth c k []))))
unfolding is_skipped
at_hook c m k depth on =
    let jumped = run depth (rendered c m k.direction) k in
    let jumps = jump_rules (always ∷ []) (main_chains c) in
    let end : List NftRule = record { matches = []; statement = Ends (record { outcome = Accept; note = Default }) } ∷ [] in
    let hs = last_spot (hits depth c k []) in
    rw (known_here k (sets_of c) (known m) (is_known m k.interface k.groups on.interface)) (
    run_append (sets_of c) k jumped (skip_rules c m) (jumps ++ end)
    ∙ ap (λ o. or_else o (run_rules (sets_of c) k jumped (jumps ++ end)))
    (run_each (sets_of c) k jumped (Ends (record { outcome = Accept; note = Skip })) (on_some (interfaces_with (is_skipped c.skip) m))
    ∙ ap (λ v. if v then Some (record { outcome = Accept; note = Skip }) else None) (on_passing (sets_of c) m k (is_skipped c.skip) on.interface))
    ∙ ap (or_else (if is_skipped c.skip (interfaces k) then Some (record { outcome = Accept; note = Skip }) else None))
    (run_append (sets_of c) k jumped jumps end ∙ ap (λ o. or_else o (Some (record { outcome = Accept; note = Default })))
    (run_jumps (sets_of c) k jumped (always ∷ []) (main_chains c) ∙ mains c m k depth on) ∙ or_default hs)
    ∙ (elim (is_skipped c.skip (interfaces k)) as (λ v. or_else (if v then Some (record { outcome = Accept; note = Skip }) else None) (Some (decision_of (Decided hs))) ≡ Some (decision_of (if v then Skipped else Decided hs))) [ true ↦ refl | false ↦ refl ])
    )
