-- How many conditions the lists give.
use Rattle.std.proofs.Common.{◌≡◌, ℕ, ◌+◌, ◌*◌, ◌-◌, ◌^◌, ◌≤◌, Bool, true, false, List, [], ◌∷◌, Option, Some, None, length, map, min, nat_lt, is_some, refl, sym, subst, ap, ◌∙◌, arith, length-append, inl, inr}
use Rattle.std.specs.Prelude.{if◌then◌else◌}
use Rattle.std.specs.List.{flat_map}
use Rattle.std.proofs.Math.Nat.{mul_assoc, mul-suc, suc-mul, add-mul}
use Rattle.std.proofs.lemmas.List.{length-map}
use Rattle.std.proofs.lemmas.Bool.{cases_lt, lt-ltb}
use Rattle.pf_addr.specs.declared.addr.Family.{Family}
use Rattle.pf_tokens.specs.Lists.{Elements}
use Rattle.pf_rules.specs.declared.parts.FlagTest.{FlagTest}
use Rattle.pf_rules.specs.declared.parts.Host.{Host}
use Rattle.pf_rules.specs.declared.rule.Conditions.{Conditions}
use Rattle.pf_statements.specs.declared.conditions.WrittenType.{WrittenType}
use Rattle.pf_statements.specs.Conditions.{ConditionsText}
use Rattle.pf_expansion.specs.Causes.{is_too_wide}
use Rattle.pf_expansion.specs.Expansion.{Combination, families, occurring, host_family, conditions_if, conditions_at, choices, by_type, by_destination_port, by_destination, by_source_port, by_source, by_protocol, by_interface, nothing_chosen, combined, count_of, combinations}
use Rattle.pf_expansion.specs.inner.Counts.{listed_family, is_of_one, count_hosts, pairs_from, all_of}

-- ---- lists of lists

-- each gives as many
flat_same : {X : Type 0} (f : X → List Conditions) (n : ℕ) (xs : List X) → ((x : X) → length (f x) ≡ n) → length (flat_map f xs) ≡ n * length xs
flat_same f n [] h = grind arith
flat_same f n (x ∷ xs) h =
    let rest = flat_same f n xs h in
    let here = h x in
    let all = length-append (f x) (flat_map f xs) in
    let more : n * length (x ∷ xs) ≡ n * length xs + n = mul-suc n (length xs) in
    omega (arith, rest, here, all, more)

-- each gives no more
flat_few : {X : Type 0} (f : X → List Conditions) (n : ℕ) (xs : List X) → ((x : X) → length (f x) ≤ n) → length (flat_map f xs) ≤ length xs * n
flat_few f n [] h = grind arith
flat_few f n (x ∷ xs) h =
    let rest = flat_few f n xs h in
    let here = h x in
    let all = length-append (f x) (flat_map f xs) in
    let more : length (x ∷ xs) * n ≡ length xs * n + n = suc-mul (length xs) n in
    omega (arith, rest, here, all, more)

choices_long : {X : Type 0} (o : Option (Elements X)) → length (choices o) ≡ count_of o
choices_long None = refl
choices_long (Some list) = length-map list.items (λ x. Some x)

choices_few : {X : Type 0} (f : Option X → List Conditions) (n : ℕ) (o : Option (Elements X)) → ((x : Option X) → length (f x) ≤ n) → length (flat_map f (choices o)) ≤ count_of o * n
choices_few f n o h = subst (λ k. length (flat_map f (choices o)) ≤ k * n) (choices_long o) (flat_few f n (choices o) h)

-- ---- how many there are, place by place

abbrev one : Bool → ℕ
one b = if b then 1 else 0

at_long : (test : FlagTest) (text : ConditionsText) (c : Combination) → length (conditions_at test text c) ≡ one (is_some (occurring (families text c)))
unfolding conditions_at
at_long test text c = go (occurring (families text c))
  where
    go : (o : Option (Option Family)) → length (conditions_if test text c o) ≡ one (is_some o)
    go None = refl
    go (Some family) = refl

type_long : (test : FlagTest) (text : ConditionsText) (c : Combination) → length (by_type test text c) ≡ one (is_of_one text c.source c.destination) * count_of text.types
unfolding by_type
type_long test text c = go text.types
  where
    at : Option WrittenType → List Conditions
    at t = conditions_at test text (record c { icmp_type = t })

    fits : Option (Elements WrittenType) → ℕ
    fits o = one (is_some (occurring (text.common.family ∷ host_family c.source ∷ host_family c.destination ∷ listed_family o ∷ [])))

    each : (list : Elements WrittenType) (ts : List WrittenType) → length (flat_map at (map (λ t. Some t) ts)) ≡ fits (Some list) * length ts
    each list [] = grind arith
    each list (t ∷ ts) =
        let rest = each list ts in
        let here : length (at (Some t)) ≡ fits (Some list) = at_long test text (record c { icmp_type = Some t }) in
        let all = length-append (at (Some t)) (flat_map at (map (λ t. Some t) ts)) in
        let more : fits (Some list) * length (t ∷ ts) ≡ fits (Some list) * length ts + fits (Some list) = mul-suc (fits (Some list)) (length ts) in
        omega (arith, rest, here, all, more)

    go : (o : Option (Elements WrittenType)) → length (flat_map at (choices o)) ≡ fits o * count_of o
    go None =
        let here : length (at None) ≡ fits None = at_long test text (record c { icmp_type = None }) in
        let all = length-append (at None) [] in
        omega (arith, here, all)
    go (Some list) = each list list.items

-- the conditions with each port of the destination
port_long : (test : FlagTest) (text : ConditionsText) (c : Combination) → length (by_destination_port test text c) ≡ one (is_of_one text c.source c.destination) * count_of text.types * count_of text.common.destination.ports
unfolding by_destination_port
port_long test text c =
    let n = one (is_of_one text c.source c.destination) * count_of text.types in
    flat_same (λ port. by_type test text (record c { destination_port = port })) n (choices text.common.destination.ports) (λ port. type_long test text (record c { destination_port = port })) ∙ ap (λ k. n * k) (choices_long text.common.destination.ports)

-- a sum times two, and times three numbers
twice : (a b m n : ℕ) → (a + b) * m * n ≡ a * m * n + b * m * n
twice a b m n = ap (λ k. k * n) (add-mul a b m) ∙ add-mul (a * m) (b * m) n

destination_long : (test : FlagTest) (text : ConditionsText) (c : Combination) → length (by_destination test text c) ≡ count_hosts (is_of_one text c.source) text.common.destination.hosts.items * count_of text.types * count_of text.common.destination.ports
unfolding by_destination
destination_long test text c = go text.common.destination.hosts.items
  where
    m : ℕ
    m = count_of text.types

    n : ℕ
    n = count_of text.common.destination.ports

    go : (hs : List Host) → length (flat_map (λ h. by_destination_port test text (record c { destination = h })) hs) ≡ count_hosts (is_of_one text c.source) hs * m * n
    go [] = grind arith
    go (h ∷ hs) =
        let rest = go hs in
        let here = port_long test text (record c { destination = h }) in
        let all = length-append (by_destination_port test text (record c { destination = h })) (flat_map (λ h. by_destination_port test text (record c { destination = h })) hs) in
        let more = twice (one (is_of_one text c.source h)) (count_hosts (is_of_one text c.source) hs) m n in
        omega (arith, rest, here, all, more)

source_port_long : (test : FlagTest) (text : ConditionsText) (c : Combination) → length (by_source_port test text c) ≡ count_hosts (is_of_one text c.source) text.common.destination.hosts.items * count_of text.types * count_of text.common.destination.ports * count_of text.common.source.ports
unfolding by_source_port
source_port_long test text c =
    let n = count_hosts (is_of_one text c.source) text.common.destination.hosts.items * count_of text.types * count_of text.common.destination.ports in
    flat_same (λ port. by_destination test text (record c { source_port = port })) n (choices text.common.source.ports) (λ port. destination_long test text (record c { source_port = port })) ∙ ap (λ k. n * k) (choices_long text.common.source.ports)

source_long : (test : FlagTest) (text : ConditionsText) (c : Combination) → length (by_source test text c) ≡ pairs_from text text.common.source.hosts.items * count_of text.types * count_of text.common.destination.ports * count_of text.common.source.ports
unfolding by_source
source_long test text c = go text.common.source.hosts.items
  where
    l : ℕ
    l = count_of text.types

    m : ℕ
    m = count_of text.common.destination.ports

    n : ℕ
    n = count_of text.common.source.ports

    go : (hs : List Host) → length (flat_map (λ h. by_source_port test text (record c { source = h })) hs) ≡ pairs_from text hs * l * m * n
    go [] = grind arith
    go (h ∷ hs) =
        let own = count_hosts (is_of_one text h) text.common.destination.hosts.items in
        let rest = go hs in
        let here = source_port_long test text (record c { source = h }) in
        let all = length-append (by_source_port test text (record c { source = h })) (flat_map (λ h. by_source_port test text (record c { source = h })) hs) in
        let more = ap (λ k. k * n) (twice own (pairs_from text hs) l m) ∙ add-mul (own * l * m) (pairs_from text hs * l * m) n in
        omega (arith, rest, here, all, more)

combined_long : (test : FlagTest) (text : ConditionsText) → length (combined test text) ≡ all_of text
unfolding combined by_interface by_protocol
combined_long test text =
    let m = pairs_from text text.common.source.hosts.items * count_of text.types * count_of text.common.destination.ports * count_of text.common.source.ports in
    let n = m * count_of text.common.protocols in
    flat_same (λ i. by_protocol test text (record nothing_chosen { interface = i })) n (choices text.common.interfaces)
    (λ i. flat_same (λ p. by_source test text (record nothing_chosen { interface = i; protocol = p })) m (choices text.common.protocols) (λ p. source_long test text (record nothing_chosen { interface = i; protocol = p })) ∙ ap (λ k. m * k) (choices_long text.common.protocols)) ∙ ap (λ k. n * k) (choices_long text.common.interfaces)

-- ---- no more than there are combinations

type_few : (test : FlagTest) (text : ConditionsText) (c : Combination) → length (by_type test text c) ≤ count_of text.types
type_few test text c = let long = type_long test text c in subst (λ k. k ≤ count_of text.types) (sym long) (elim (is_of_one text c.source c.destination) as (λ b. one b * count_of text.types ≤ count_of text.types) [ true ↦ omega arith | false ↦ omega arith ])

combined_few : (test : FlagTest) (text : ConditionsText) → length (combined test text) ≤ combinations text
unfolding combined by_interface by_protocol by_source by_source_port by_destination by_destination_port combinations
combined_few test text =
    let t = count_of text.types in
    let dp = count_of text.common.destination.ports in
    let d = length text.common.destination.hosts.items in
    let sp = count_of text.common.source.ports in
    let s = length text.common.source.hosts.items in
    let p = count_of text.common.protocols in
    let i = count_of text.common.interfaces in
    let all : length (combined test text) ≤ i * (p * (s * (sp * (d * (dp * t))))) =
    choices_few _ (p * (s * (sp * (d * (dp * t))))) text.common.interfaces (λ a.
    choices_few _ (s * (sp * (d * (dp * t)))) text.common.protocols (λ b.
    flat_few _ (sp * (d * (dp * t))) text.common.source.hosts.items (λ e.
    choices_few _ (d * (dp * t)) text.common.source.ports (λ f.
    flat_few _ (dp * t) text.common.destination.hosts.items (λ g.
    choices_few _ t text.common.destination.ports (λ h.
    type_few test text (record { interface = a; protocol = b; source = e; source_port = f; destination = g; destination_port = h; icmp_type = None }))))))) in
    let same : i * p * s * sp * d * dp * t ≡ i * (p * (s * (sp * (d * (dp * t))))) = simp mul_assoc in
    subst (λ k. length (combined test text) ≤ k) (sym same) all

not_wide : (n : ℕ) → nat_lt 65536 n ≡ false → n ≤ 65536
not_wide n h = elim (cases_lt 65536 n) [ inl k ↦ (let bad : true ≡ false = sym (lt-ltb 65536 n k) ∙ h in cc) | inr k ↦ k ]

-- where there aren't too many combinations, the cap is never met
pub counted : (text : ConditionsText) (n : ℕ) → is_too_wide text ≡ false → n ≡ min (all_of text) (2 ^ 64 - 1) → (test : FlagTest) → n ≡ length (combined test text)
unfolding is_too_wide
counted text n h k test =
    let long = combined_long test text in
    let few = combined_few test text in
    let most = not_wide (combinations text) h in
    omega (arith, long, few, most, k)
