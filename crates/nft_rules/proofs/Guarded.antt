-- The guard lets through exactly the members' packets.
use Rattle.std.proofs.Common.{◌≡◌, ℕ, ◌==◌, Bool, true, false, ◌&&◌, ◌||◌, List, [], ◌∷◌, ◌++◌, Option, Some, None, refl, sym, ap, ◌∙◌}
use Rattle.std.specs.Prelude.{if◌then◌else◌}
use Rattle.std.specs.List.{list_any, list_all}
use Rattle.std.proofs.lemmas.Bool.{or_parts, true≢false, false≢true}
use Rattle.std.proofs.lemmas.List.Folds.{list_any-append}
use Rattle.pf_addr.specs.declared.addr.Addr.{Addr}
use Rattle.pf_addr.specs.declared.addr.Addr.TheVariants.{V4, V6}
use Rattle.pf_addr.specs.declared.addr.Family.{Family}
use Rattle.pf_addr.specs.declared.addr.Family.TheVariants.{Inet, Inet6}
use Rattle.pf_addr.specs.Blocks.{family_of}
use Rattle.pf_addr.specs.Order.{bits_of}
use Rattle.pf_eval.specs.PacketTexts.{same_family}
use Rattle.pf_eval.specs.Matching.{of_family, if_there}
use Rattle.pf_config.specs.Map.{Configuration, or_else}
use Rattle.pf_rules.specs.declared.parts.Direction.{Direction}
use Rattle.nft_rules.specs.Subset.{Source, Destination, Decision, Base, NftRuleset}
use Rattle.nft_rules.specs.Evaluation.{run}
use Rattle.nft_rules.specs.Rendering.{Machine}
use Rattle.nft_rules.specs.Deciding.{DecidesAs, DecidesBehindGuard}
use Rattle.nft_rules.specs.Guard.{Member, HookPacket, is_home, is_end, has_family, is_members, is_neighbour, reports_too_big, is_neighbour_discovery, GuardMatch, AtMember, AtHome, OfUdp, IsLater, IsTooBig, IsNeighbour, guard_holds, family_rules, link_rules, guard_of, is_passed, let_through, at_hook, hook_of, GuardPasses}

-- ---- tests

or_false : (b : Bool) → (b || false) ≡ b
or_false true = refl
or_false false = refl

and_false : (b : Bool) → (b && false) ≡ false
and_false true = refl
and_false false = refl

and_true : (b : Bool) → (b && true) ≡ b
and_true true = refl
and_true false = refl

and_assoc : (a b c : Bool) → (a && (b && c)) ≡ ((a && b) && c)
and_assoc true b c = refl
and_assoc false b c = refl

-- ---- a member's address, where no member is of the family

apart : (x a : Addr) (f : Family) → of_family a f ≡ true → of_family x f ≡ false → same_family x a ≡ false
apart (V4 x) (V4 a) Inet h g = absurd (true≢false g)
apart (V4 x) (V4 a) Inet6 h g = absurd (false≢true h)
apart (V4 x) (V6 a) f h g = refl
apart (V6 x) (V4 a) f h g = refl
apart (V6 x) (V6 a) Inet h g = absurd (false≢true h)
apart (V6 x) (V6 a) Inet6 h g = absurd (true≢false g)

no_home : (f : Family) (a : Addr) (ms : List Member) → of_family a f ≡ true → has_family f ms ≡ false → is_home ms a ≡ false
no_home f a [] h g = refl
no_home f a (m ∷ ms) h g =
    let both = or_parts (of_family m.address f) (has_family f ms) g in
    ap (λ v. (v && (bits_of m.address == bits_of a)) || is_home ms a) (apart m.address a f h both.0) ∙ no_home f a ms h both.1

no_end : (f : Family) (a : Addr) (port : ℕ) (ms : List Member) → of_family a f ≡ true → has_family f ms ≡ false → is_end ms a port ≡ false
no_end f a port [] h g = refl
no_end f a port (m ∷ ms) h g =
    let both = or_parts (of_family m.address f) (has_family f ms) g in
    ap (λ v. ((v && (bits_of m.address == bits_of a)) && (m.port == port)) || is_end ms a port) (apart m.address a f h both.0)
    ∙ no_end f a port ms h both.1

no_ends : (f : Family) (a : Addr) (port : Option ℕ) (ms : List Member) → of_family a f ≡ true → has_family f ms ≡ false → if_there (is_end ms a) port ≡ false
no_ends f a None ms h g = refl
no_ends f a (Some port) ms h g = no_end f a port ms h g

-- ---- what the rules ask, of an address at each end

abbrev datagrams : Family → List Member → (s d : Addr) → Bool → (sp dp : Option ℕ) → Bool
datagrams f ms s d p sp dp =
    ((of_family s f && p) && if_there (is_end ms s) sp) && (((of_family d f && p) && if_there (is_end ms d) dp) && true)

abbrev fragments : Family → List Member → (s d : Addr) → (p l : Bool) → Bool
fragments f ms s d p l =
    (of_family s f && l) && (p && ((of_family s f && is_home ms s) && ((of_family d f && is_home ms d) && true)))

abbrev too_bigs : Family → List Member → Addr → (t : Bool) → Bool
too_bigs f ms d t = t && ((of_family d f && is_home ms d) && true)

abbrev of_family_all : Family → List Member → HookPacket → Bool
of_family_all f ms h =
    datagrams f ms h.packet.source h.packet.destination (h.packet.protocol == 17) h.packet.source_port h.packet.destination_port
    || (fragments f ms h.packet.source h.packet.destination (h.packet.protocol == 17) h.is_later
    || too_bigs f ms h.packet.destination (reports_too_big f h))

of_family_rules : (f : Family) (ms : List Member) (h : HookPacket) →
    list_any (list_all (guard_holds h)) (family_rules f ms) ≡ (has_family f ms && of_family_all f ms h)
of_family_rules f ms h =
    let d = datagrams f ms h.packet.source h.packet.destination (h.packet.protocol == 17) h.packet.source_port h.packet.destination_port in
    let g = fragments f ms h.packet.source h.packet.destination (h.packet.protocol == 17) h.is_later in
    let t = too_bigs f ms h.packet.destination (reports_too_big f h) in
    elim (has_family f ms) as (λ v. list_any (list_all (guard_holds h)) (if v then (AtMember Source f ms ∷ AtMember Destination f ms ∷ [])
    ∷ (IsLater f ∷ OfUdp ∷ AtHome Source f ms ∷ AtHome Destination f ms ∷ []) ∷ (IsTooBig f ∷ AtHome Destination f ms ∷ []) ∷ [] else []) ≡ (v && (d || (g || t)))) [
      | true ↦ ap (λ v. d || (g || v)) (or_false t)
      | false ↦ refl
    ]

of_link_rules : (ms : List Member) (h : HookPacket) → list_any (list_all (guard_holds h)) (link_rules ms) ≡ is_neighbour ms h
of_link_rules ms h =
    elim (has_family Inet6 ms) as (λ v. list_any (list_all (guard_holds h)) (if v then (IsNeighbour ∷ []) ∷ [] else []) ≡ (v && is_neighbour_discovery h)) [
      | true ↦ or_false (is_neighbour_discovery h && true) ∙ and_true (is_neighbour_discovery h)
      | false ↦ refl
    ]

-- ---- both ends in one family

both_ends : (p es ed : Bool) → ((p && es) && ((p && ed) && true)) ≡ ((p && es) && ed)
both_ends false es ed = refl
both_ends true es ed = ap (λ v. es && v) (and_true ed)

both_homes : (p l hs hd : Bool) → (l && (p && (hs && (hd && true)))) ≡ (((p && l) && hs) && hd)
both_homes true l hs hd = ap (λ v. l && (hs && v)) (and_true hd) ∙ and_assoc l hs hd
both_homes false l hs hd = and_false l

one_more : (a b c : Bool) → (a || (b || c)) ≡ ((a || b) || c)
one_more true b c = refl
one_more false b c = refl

in_one : (h p es ed l hs hd t : Bool) → (h ≡ false → es ≡ false) → (h ≡ false → hs ≡ false) → (h ≡ false → hd ≡ false) →
    (h && (((p && es) && ((p && ed) && true)) || ((l && (p && (hs && (hd && true)))) || (t && (hd && true)))))
    ≡ ((((p && es) && ed) || (((p && l) && hs) && hd)) || (t && hd))
in_one true p es ed l hs hd t e g i =
    ap (λ v. v || ((l && (p && (hs && (hd && true)))) || (t && (hd && true)))) (both_ends p es ed)
    ∙ ap (λ v. ((p && es) && ed) || (v || (t && (hd && true)))) (both_homes p l hs hd)
    ∙ ap (λ v. ((p && es) && ed) || ((((p && l) && hs) && hd) || (t && v))) (and_true hd)
    ∙ one_more ((p && es) && ed) (((p && l) && hs) && hd) (t && hd)
in_one false p es ed l hs hd t e g i =
    sym (ap (λ v. (((p && v) && ed) || (((p && l) && hs) && hd)) || (t && hd)) (e refl)
    ∙ ap (λ v. ((v && ed) || (((p && l) && hs) && hd)) || (t && hd)) (and_false p)
    ∙ ap (λ v. (((p && l) && v) && hd) || (t && hd)) (g refl)
    ∙ ap (λ v. (v && hd) || (t && hd)) (and_false (p && l))
    ∙ ap (λ v. t && v) (i refl)
    ∙ and_false t)

-- of the other family's rules none holds
in_none : (h t : Bool) → (h && (t && false)) ≡ false
in_none h t = ap (λ v. h && v) (and_false t) ∙ and_false h

-- ---- ends in two families

-- of the source's family none holds
in_two : (h p es l hs t : Bool) → (h && (((p && es) && false) || ((l && (p && (hs && false))) || (t && false)))) ≡ false
in_two h p es l hs t =
    ap (λ v. h && (v || ((l && (p && (hs && false))) || (t && false)))) (and_false (p && es))
    ∙ ap (λ v. h && ((l && (p && v)) || (t && false))) (and_false hs)
    ∙ ap (λ v. h && ((l && v) || (t && false))) (and_false p)
    ∙ ap (λ v. h && (v || (t && false))) (and_false l)
    ∙ in_none h t

-- of the destination's that alone by which a packet was too big
to_home : (h hd t : Bool) → (h ≡ false → hd ≡ false) → (h && (t && (hd && true))) ≡ (t && hd)
to_home true hd t i = ap (λ v. t && v) (and_true hd)
to_home false hd t i = sym (ap (λ v. t && v) (i refl) ∙ and_false t)

-- ---- both families' rules

abbrev of_ends : Family → List Member → (s d : Addr) → (p l t : Bool) → (sp dp : Option ℕ) → Bool
of_ends f ms s d p l t sp dp = has_family f ms && (datagrams f ms s d p sp dp || (fragments f ms s d p l || too_bigs f ms d t))

abbrev of_family_of : Addr → (t4 t6 : Bool) → Bool
of_family_of (V4 a) t4 t6 = t4
of_family_of (V6 a) t4 t6 = t6

families : (ms : List Member) (s d : Addr) (p l t4 t6 : Bool) (sp dp : Option ℕ) →
    (of_ends Inet ms s d p l t4 sp dp || of_ends Inet6 ms s d p l t6 sp dp)
    ≡ (((((same_family s d && p) && if_there (is_end ms s) sp) && if_there (is_end ms d) dp)
    || ((((same_family s d && p) && l) && is_home ms s) && is_home ms d))
    || (of_family_of d t4 t6 && is_home ms d))
families ms (V4 s) (V4 d) p l t4 t6 sp dp =
    ap (λ v. of_ends Inet ms (V4 s) (V4 d) p l t4 sp dp || v) (in_none (has_family Inet6 ms) t6)
    ∙ or_false (of_ends Inet ms (V4 s) (V4 d) p l t4 sp dp)
    ∙ in_one (has_family Inet ms) p (if_there (is_end ms (V4 s)) sp) (if_there (is_end ms (V4 d)) dp) l (is_home ms (V4 s)) (is_home ms (V4 d)) t4
    (no_ends Inet (V4 s) sp ms refl) (no_home Inet (V4 s) ms refl) (no_home Inet (V4 d) ms refl)
families ms (V6 s) (V6 d) p l t4 t6 sp dp =
    ap (λ v. v || of_ends Inet6 ms (V6 s) (V6 d) p l t6 sp dp) (in_none (has_family Inet ms) t4)
    ∙ in_one (has_family Inet6 ms) p (if_there (is_end ms (V6 s)) sp) (if_there (is_end ms (V6 d)) dp) l (is_home ms (V6 s)) (is_home ms (V6 d)) t6
    (no_ends Inet6 (V6 s) sp ms refl) (no_home Inet6 (V6 s) ms refl) (no_home Inet6 (V6 d) ms refl)
families ms (V4 s) (V6 d) p l t4 t6 sp dp =
    ap (λ v. v || of_ends Inet6 ms (V4 s) (V6 d) p l t6 sp dp) (in_two (has_family Inet ms) p (if_there (is_end ms (V4 s)) sp) l (is_home ms (V4 s)) t4)
    ∙ to_home (has_family Inet6 ms) (is_home ms (V6 d)) t6 (no_home Inet6 (V6 d) ms refl)
families ms (V6 s) (V4 d) p l t4 t6 sp dp =
    ap (λ v. of_ends Inet ms (V6 s) (V4 d) p l t4 sp dp || v) (in_two (has_family Inet6 ms) p (if_there (is_end ms (V6 s)) sp) l (is_home ms (V6 s)) t6)
    ∙ or_false (of_ends Inet ms (V6 s) (V4 d) p l t4 sp dp)
    ∙ to_home (has_family Inet ms) (is_home ms (V4 d)) t4 (no_home Inet (V4 d) ms refl)

too_big_to : (d : Addr) (h : HookPacket) → of_family_of d (reports_too_big Inet h) (reports_too_big Inet6 h) ≡ reports_too_big (family_of d) h
too_big_to (V4 a) h = refl
too_big_to (V6 a) h = refl

-- ---- all

pub passes_members : (ms : List Member) (h : HookPacket) → is_passed (guard_of ms) h ≡ is_members ms h
passes_members ms h =
    let test : List GuardMatch → Bool = list_all (guard_holds h) in
    let four = list_any test (family_rules Inet ms) in
    let six = list_any test (family_rules Inet6 ms) in
    let link = list_any test (link_rules ms) in
    let udp = same_family h.packet.source h.packet.destination && (h.packet.protocol == 17) in
    list_any-append test (family_rules Inet ms) (family_rules Inet6 ms ++ link_rules ms)
    ∙ ap (λ v. four || v) (list_any-append test (family_rules Inet6 ms) (link_rules ms))
    ∙ one_more four six link
    ∙ ap (λ v. (v || six) || link) (of_family_rules Inet ms h)
    ∙ ap (λ v. ((has_family Inet ms && of_family_all Inet ms h) || v) || link) (of_family_rules Inet6 ms h)
    ∙ ap (λ v. ((has_family Inet ms && of_family_all Inet ms h) || (has_family Inet6 ms && of_family_all Inet6 ms h)) || v) (of_link_rules ms h)
    ∙ ap (λ v. v || is_neighbour ms h) (families ms h.packet.source h.packet.destination (h.packet.protocol == 17) h.is_later (reports_too_big Inet h) (reports_too_big Inet6 h) h.packet.source_port h.packet.destination_port)
    ∙ ap (λ v. ((((udp && if_there (is_end ms h.packet.source) h.packet.source_port) && if_there (is_end ms h.packet.destination) h.packet.destination_port)
    || (((udp && h.is_later) && is_home ms h.packet.source) && is_home ms h.packet.destination))
    || (v && is_home ms h.packet.destination)) || is_neighbour ms h) (too_big_to h.packet.destination h)

pub guard_passes : (ms : List Member) (behind : HookPacket → Option Decision) → GuardPasses ms behind
guard_passes ms behind = λ h. ap (λ v. if v then Some let_through else behind h) (passes_members ms h)

-- ---- at a hook

or_none : {T : Type 0} (d : Option T) → or_else d None ≡ d
or_none None = refl
or_none (Some x) = refl

at_both : (ms : List Member) (r : NftRuleset) (h : HookPacket) →
    at_hook (hook_of ms) r h ≡ (if is_passed (guard_of ms) h then Some let_through else run 10 r h.packet Base)
at_both [] r h = or_none (run 10 r h.packet Base)
at_both (m ∷ ms) r h = ap (λ v. if is_passed (guard_of (m ∷ ms)) h then Some let_through else v) (or_none (run 10 r h.packet Base))

at_each : (ms : List Member) (r : NftRuleset) (h : HookPacket) (b : Bool) → is_members ms h ≡ b →
    at_hook (hook_of ms) r h ≡ (if b then Some let_through else run 10 r h.packet Base)
at_each ms r h b e = at_both ms r h ∙ ap (λ v. if v then Some let_through else run 10 r h.packet Base) (passes_members ms h ∙ e)

pub decides_behind : (c : Configuration) (m : Machine) (d : Direction) (ms : List Member) (r : NftRuleset) →
    DecidesAs c m d r → DecidesBehindGuard c m d ms r
decides_behind c m d ms r decides = record {
  members = λ h e. at_each ms r h true e;
  others = λ h e. at_each ms r h false e;
  judged = λ h e way on. at_each ms r h false e ∙ decides h.packet way on;
}
