-- With what a run ends: neither 93 nor 94, which are of a store before it is opened.
use Rattle.std.proofs.Common.{◌≡◌, ◌∙◌, ◌⊎◌, ◌↔◌, ℕ, List, Result, Ok, Err, Bool, true, false, Option, Some, None, refl, sym, subst, ap, inl, inr, arith}
use Rattle.std.specs.Prelude.{if◌then◌else◌, nat_lt, IfSome, IsSome, IsTrue, MatchOption, OnErr}
use Rattle.px_records.specs.declared.records.Records.{Ghosts}
use Rattle.px_wire.specs.declared.membership.Membership.{Membership}
use Rattle.px_replica.specs.declared.fault.NodeFault.{NodeFault}
use Rattle.px_replica.specs.declared.fault.NodeFault.TheVariants as fault
use Rattle.node_loop.specs.declared.ended.Ended.{Ended}
use Rattle.node_loop.specs.declared.ended.Ended.TheVariants as ended
use Rattle.cli_node.specs.declared.outcome.Outcome.{Outcome}
use Rattle.cli_node.specs.declared.outcome.Outcome.TheVariants.{Front, Stopped, Asked, Key, Refused, RefusedLine, NoAnswer}
use Rattle.cli_node.specs.declared.outcome.Outcome.TheVariants.{Sound, Made, Memory, Unread}
use Rattle.cli_node.specs.Endings.{outcome_of, ending_of, ended_outcome, first_of, checked, is_refused}
use Rattle.cli_node.specs.Endings.{ComesOpenOr, IsWireless}
use Rattle.cli_node.specs.MemberRuns.{RunsHere, EndsAs, EndsWith, EndsNew, EndsNode, Anything}
use Rattle.cli_node.specs.Stores.{IsRefusal, IsStoreless}
use Rattle.cli_node.specs.declared.key.Keys.{Keys}
use Rattle.cli_node.specs.declared.sealing.Sealing.{Sealing}
use Rattle.px_packet.specs.declared.start.Start.{Start}
use Rattle.cli_node.proofs.Stores.{other, by_memory, same_number, sound}

-- any other number
of_number : (code : ℕ) → (code ≡ 93 → ⊥) → (code ≡ 94 → ⊥) → (file new : Bool) → IsStoreless file new (Refused code)
of_number code f g file new = other file new code f g

as_is : (o p : Outcome) → o ≡ p → ((file new : Bool) → IsStoreless file new p) → (file new : Bool) → IsStoreless file new o
as_is o p e h file new = subst (λ (x : Outcome). IsStoreless file new x) (sym e) (h file new)

n40 : (file new : Bool) → IsStoreless file new (Refused 40)
n40 = of_number 40 (λ b. omega (arith, b)) (λ b. omega (arith, b))

n41 : (file new : Bool) → IsStoreless file new (Refused 41)
n41 = of_number 41 (λ b. omega (arith, b)) (λ b. omega (arith, b))

n60 : (file new : Bool) → IsStoreless file new (Refused 60)
n60 = of_number 60 (λ b. omega (arith, b)) (λ b. omega (arith, b))

n61 : (file new : Bool) → IsStoreless file new (Refused 61)
n61 = of_number 61 (λ b. omega (arith, b)) (λ b. omega (arith, b))

n62 : (file new : Bool) → IsStoreless file new (Refused 62)
n62 = of_number 62 (λ b. omega (arith, b)) (λ b. omega (arith, b))

n70 : (file new : Bool) → IsStoreless file new (Refused 70)
n70 = of_number 70 (λ b. omega (arith, b)) (λ b. omega (arith, b))

n72 : (file new : Bool) → IsStoreless file new (Refused 72)
n72 = of_number 72 (λ b. omega (arith, b)) (λ b. omega (arith, b))

n80 : (file new : Bool) → IsStoreless file new (Refused 80)
n80 = of_number 80 (λ b. omega (arith, b)) (λ b. omega (arith, b))

n82 : (file new : Bool) → IsStoreless file new (Refused 82)
n82 = of_number 82 (λ b. omega (arith, b)) (λ b. omega (arith, b))

n83 : (file new : Bool) → IsStoreless file new (Refused 83)
n83 = of_number 83 (λ b. omega (arith, b)) (λ b. omega (arith, b))

n84 : (file new : Bool) → IsStoreless file new (Refused 84)
n84 = of_number 84 (λ b. omega (arith, b)) (λ b. omega (arith, b))

n95 : (file new : Bool) → IsStoreless file new (Refused 95)
n95 = of_number 95 (λ b. omega (arith, b)) (λ b. omega (arith, b))

fronts : (n a : ℕ) (file new : Bool) → IsStoreless file new (Front n a)
fronts n a file new = record { missing = λ e. absurd (cc); there = λ e. absurd (cc) }

stopped : (n a : ℕ) (file new : Bool) → IsStoreless file new (Stopped n a)
stopped n a file new = record { missing = λ e. absurd (cc); there = λ e. absurd (cc) }

of_fault : (e : NodeFault) (file new : Bool) → IsStoreless file new (outcome_of e)
of_fault fault.Memory file new = by_memory file new
of_fault fault.TooLong file new = n41 file new
of_fault fault.Full file new = n60 file new
of_fault fault.BallotsSpent file new = n61 file new
of_fault fault.PositionsSpent file new = n62 file new
of_fault fault.Store file new = n70 file new
of_fault fault.BadStore file new = n72 file new
of_fault fault.Failed file new = n80 file new

of_ended : (without : Outcome) (how : Ended) → ((file new : Bool) → IsStoreless file new without) → (file new : Bool) →
    IsStoreless file new (ended_outcome without how)
of_ended without (ended.Front n a) h file new = fronts n a file new
of_ended without (ended.Stopped n a) h file new = stopped n a file new
of_ended without (ended.Fault e) h file new = of_fault e file new
of_ended without ended.NoWire h file new = h file new
of_ended without ended.NoControlSocket h file new = n84 file new
of_ended without ended.NoPort h file new = n82 file new

wireless : (o : Outcome) → IsWireless o → (file new : Bool) → IsStoreless file new o
wireless o (inl e) = as_is o Memory e by_memory
wireless o (inr e) = as_is o (Refused 82) e n82

pub of_run : {R : Type 0} (G : Ghosts R) (m : Membership) (given back : R) (o : Outcome) → ComesOpenOr G m given o back →
    (file new : Bool) → IsStoreless file new o
of_run G m given back o (inl (events, hears, how, without, runs, is, none)) =
    as_is o (ended_outcome without how) is (of_ended without how (wireless without none))
of_run G m given back o (inr (none, same)) = wireless o none

-- what it failed of
pub of_ending : (o : Outcome) (n : ℕ) → ((file new : Bool) → IsStoreless file new o) → (file new : Bool) →
    IsStoreless file new (ending_of o n)
of_ending o n h file new =
    (elim (is_refused 80 o) as (λ q. IsStoreless file new (if q then (if nat_lt 0 n then Refused 70 else Refused 72) else o)) [
      | true ↦ (elim (nat_lt 0 n) as (λ q. IsStoreless file new (if q then Refused 70 else Refused 72)) [
        | true ↦ n70 file new
        | false ↦ n72 file new
      ])
      | false ↦ h file new
    ])

-- ---- what a start would be refused for

pub first : (P : Outcome → Type 0) (o p : Outcome) → P o → P p → P (first_of o p)
first P (Front n a) p h k = h
first P (Stopped n a) p h k = h
first P (Asked n k) p h l = h
first P (Key k) p h l = h
first P (Refused c) p h k = h
first P (RefusedLine c l) p h k = h
first P NoAnswer p h k = h
first P Sound p h k = k
first P Made p h k = h
first P Memory p h k = h
first P Unread p h k = h

of_place : (o : Outcome) → (o ≡ Sound) ⊎ (o ≡ Refused 40) → (file new : Bool) → IsStoreless file new o
of_place o (inl e) = as_is o Sound e sound
of_place o (inr e) = as_is o (Refused 40) e n40

of_key : (o : Outcome) → (o ≡ Sound) ⊎ ((o ≡ Memory) ⊎ (o ≡ Refused 83)) → (file new : Bool) → IsStoreless file new o
of_key o (inl e) = as_is o Sound e sound
of_key o (inr (inl e)) = as_is o Memory e by_memory
of_key o (inr (inr e)) = as_is o (Refused 83) e n83

of_starts : (o : Outcome) → (o ≡ Sound) ⊎ ((o ≡ Memory) ⊎ (o ≡ Refused 95)) → (file new : Bool) → IsStoreless file new o
of_starts o (inl e) = as_is o Sound e sound
of_starts o (inr (inl e)) = as_is o Memory e by_memory
of_starts o (inr (inr e)) = as_is o (Refused 95) e n95

-- the packets of a node can't be sealed
pub unsealed : {X : Type 0} (r : Result X Outcome) (outcome : Outcome) → r ≡ Err outcome →
    OnErr r ((r ≡ Err Memory) ⊎ (r ≡ Err (Refused 95))) → (file new : Bool) → IsStoreless file new outcome
unsealed (Ok x) outcome is h file new = absurd (cc)
unsealed (Err o) outcome is (inl e) file new = let same : outcome ≡ Memory = cc in rw same (by_memory file new)
unsealed (Err o) outcome is (inr e) file new = let same : outcome ≡ Refused 95 = cc in rw same (n95 file new)

-- the outcome of what is refused with one number, or out of memory
pub refused_as : {X : Type 0} (code : ℕ) (r : Result X Outcome) (outcome : Outcome) → r ≡ Err outcome →
    OnErr r ((r ≡ Err Memory) ⊎ (r ≡ Err (Refused code))) → (outcome ≡ Memory) ⊎ (outcome ≡ Refused code)
refused_as code (Ok x) outcome is h = absurd (cc)
refused_as code (Err o) outcome is (inl e) = inl (cc)
refused_as code (Err o) outcome is (inr e) = inr (cc)

pub refusal_of : {X : Type 0} (code : ℕ) (r : Result X Outcome) (outcome : Outcome) → r ≡ Err outcome →
    OnErr r ((r ≡ Err Memory) ⊎ (r ≡ Err (Refused code))) → IsRefusal outcome
refusal_of code r outcome is h = elim (refused_as code r outcome is h) [
  | inl e ↦ subst IsRefusal (sym e) tt
  | inr e ↦ subst IsRefusal (sym e) tt
]

-- out of memory, or another number
pub lost_by : {X : Type 0} (code : ℕ) (r : Result X Outcome) (outcome : Outcome) → (code ≡ 93 → ⊥) → r ≡ Err outcome →
    OnErr r ((r ≡ Err Memory) ⊎ (r ≡ Err (Refused code))) → outcome ≡ Refused 93 → ⊥
lost_by code r outcome f is h e = elim (refused_as code r outcome is h) [
  | inl m ↦ let same : Memory ≡ Refused 93 = sym m ∙ e in cc
  | inr n ↦ let same : Refused code ≡ Refused 93 = sym n ∙ e in f (same_number code 93 same)
]

of_addresses : (o : Outcome) → (o ≡ Sound) ⊎ (o ≡ Refused 82) → (file new : Bool) → IsStoreless file new o
of_addresses o (inl e) = as_is o Sound e sound
of_addresses o (inr e) = as_is o (Refused 82) e n82

of_control : (o : Outcome) → (o ≡ Sound) ⊎ ((o ≡ Memory) ⊎ (o ≡ Refused 84)) → (file new : Bool) → IsStoreless file new o
of_control o (inl e) = as_is o Sound e sound
of_control o (inr (inl e)) = as_is o Memory e by_memory
of_control o (inr (inr e)) = as_is o (Refused 84) e n84

pub of_check : (file new : Bool) (place key other store starts addresses control : Outcome) →
    (place ≡ Sound) ⊎ (place ≡ Refused 40) →
    (key ≡ Sound) ⊎ ((key ≡ Memory) ⊎ (key ≡ Refused 83)) → (other ≡ Sound) ⊎ ((other ≡ Memory) ⊎ (other ≡ Refused 83)) →
    IsStoreless file new store → (starts ≡ Sound) ⊎ ((starts ≡ Memory) ⊎ (starts ≡ Refused 95)) →
    (addresses ≡ Sound) ⊎ (addresses ≡ Refused 82) → (control ≡ Sound) ⊎ ((control ≡ Memory) ⊎ (control ≡ Refused 84)) →
    IsStoreless file new (checked place (first_of key other) store starts addresses control)
of_check file new place key other store starts addresses control p k q s t a c =
    let P : Outcome → Type 0 = IsStoreless file new in
    first P place _ (of_place place p file new)
    (first P (first_of key other) _ (first P key other (of_key key k file new) (of_key other q file new))
    (first P store _ s (first P starts _ (of_starts starts t file new)
    (first P addresses control (of_addresses addresses a file new) (of_control control c file new)))))

-- what holds of an option, by what holds of each kind
pub none_matches : {X : Type 0} (m : Option X) (P : Type 0) (Q : X → Type 0) → m ≡ None → MatchOption m P Q → P
none_matches None P Q e h = h
none_matches (Some x) P Q e h = absurd cc

pub some_matches : {X : Type 0} (m : Option X) (P : Type 0) (Q : X → Type 0) (R : Type 0) → (P → R) → ((x : X) → Q x → R) → MatchOption m P Q → R
some_matches None P Q R f g h = f h
some_matches (Some x) P Q R f g h = g x h

pub none_of : {X : Type 0} (m : Option X) (b : Bool) → IsSome m ↔ IsTrue b → b ≡ false → m ≡ None
none_of None b h e = refl
none_of (Some x) b h e =
    let t : IsTrue b = h.0 refl in absurd (let f : IsTrue false = subst (λ (q : Bool). IsTrue q) e t in cc)

pub some_of : {X : Type 0} (m : Option X) (x : X) (b : Bool) → IsSome m ↔ IsTrue b → m ≡ Some x → b ≡ true
some_of None x b h e = absurd cc
some_of (Some y) x true h e = refl
some_of (Some y) x false h e = let t : IsTrue false = h.0 refl in absurd cc

-- the numbers are the first that is asked
-- what is refused first, by the steps in which it is found
pub checked_by : (place key other store starts addresses control sockets wired files keys rest all : Outcome) →
    sockets ≡ first_of addresses control → wired ≡ first_of starts sockets → files ≡ first_of store wired →
    keys ≡ first_of key other → rest ≡ first_of keys files → all ≡ first_of place rest →
    all ≡ checked place (first_of key other) store starts addresses control
checked_by place key other store starts addresses control sockets wired files keys rest all e1 e2 e3 e4 e5 e6 =
    e6 ∙ ap (λ (o : Outcome). first_of place o) (e5 ∙ (ap (λ (o : Outcome). first_of o files) e4
    ∙ ap (λ (o : Outcome). first_of (first_of key other) o) (e3 ∙ ap (λ (o : Outcome). first_of store o)
    (e2 ∙ ap (λ (o : Outcome). first_of starts o) e1))))

pub place_first : (place keys store starts addresses control : Outcome) → place ≡ Refused 40 →
    checked place keys store starts addresses control ≡ Refused 40
place_first place keys store starts addresses control e = ap (λ (o : Outcome). checked o keys store starts addresses control) e

-- ---- of which less holds

runs_map : {R : Type 0} (G : Ghosts R) (m : Membership) (s : Option Sealing) (hears : Bool) (members : List (List ℕ)) (given back : R) (o : Outcome)
    (made made' : Ended → Type 0) → ((how : Ended) → made how → made' how) → RunsHere G m s hears members given o back made →
    RunsHere G m s hears members given o back made'
runs_map G m s hears members given back o made made' f (how, is, turns, honest) = (how, is, f how turns, honest)

as_map : {R : Type 0} (G : Ghosts R) (m : Membership) (s : Option Sealing) (hears : Bool) (members : List (List ℕ)) (given : R)
    (closed closed' : R → Type 0) (made made' : Ended → Type 0) (result : Outcome) → ((r : R) → closed r → closed' r) →
    ((how : Ended) → made how → made' how) → EndsAs G m s hears members given closed made result →
    EndsAs G m s hears members given closed' made' result
as_map G m s hears members given closed closed' made made' result c f (o, back, is, shut, comes, inl unrun) =
    (o, back, is, c back shut, comes, inl unrun)
as_map G m s hears members given closed closed' made made' result c f (o, back, is, shut, comes, inr here) =
    (o, back, is, c back shut, comes, inr (runs_map G m s hears members given back o made made' f here))

in_more : (is may : Start → Type 0) (s : Option Sealing) → ((x : Start) → is x → may x) → IfSome s (λ x. is x.start) →
    IfSome s (λ x. may x.start)
in_more is may None f h = h
in_more is may (Some s) f h = f s.start h

pub with_map : {R : Type 0} (G : Ghosts R) (m : Membership) (keys : Option Keys) (is may : Start → Type 0) (hears : Bool) (members : List (List ℕ))
    (given : R) (closed closed' : R → Type 0) (made made' : Ended → Type 0) (result : Outcome) →
    ((x : Start) → is x → may x) → ((r : R) → closed r → closed' r) → ((how : Ended) → made how → made' how) →
    EndsWith G m keys is hears members given closed made result → EndsWith G m keys may hears members given closed' made' result
with_map G m keys is may hears members given closed closed' made made' result s c f (inl (sealing, same, start, ends)) =
    inl (
      sealing,
      same,
      in_more is may sealing s start,
      as_map G m sealing hears members given closed closed' made made' result c f ends,
    )
with_map G m keys is may hears members given closed closed' made made' result s c f (inr refused) = inr refused

pub new_map : {R : Type 0} (G : Ghosts R) (m : Membership) (keys : Option Keys) (is may : Start → Type 0) (hears : Bool) (members : List (List ℕ))
    (kept kept' closed closed' : R → Type 0) (made made' : Ended → Type 0) (result : Outcome) →
    ((x : Start) → is x → may x) → ((r : R) → kept r → kept' r) → ((r : R) → closed r → closed' r) →
    ((how : Ended) → made how → made' how) → EndsNew G m keys is hears members kept closed made result →
    EndsNew G m keys may hears members kept' closed' made' result
new_map G m keys is may hears members kept kept' closed closed' made made' result s d c f (inl refused) = inl refused
new_map G m keys is may hears members kept kept' closed closed' made made' result s d c f (inr (given, counted, whole, at, ends)) =
    inr (given, counted, whole, d given at, with_map G m keys is may hears members given closed closed' made made' result s c f ends)

pub node_any : {R : Type 0} (G : Ghosts R) (is_member : Membership → Type 0) (are_keys : Option Keys → Type 0)
    (is_start : Membership → Start → Type 0) (hears : Bool) (members : List (List ℕ))
    (kept : Membership → R → Type 0) (closed : R → Type 0) (made : Ended → Type 0) (result : Outcome) →
    EndsNode G is_member are_keys is_start hears members kept closed made result →
    EndsNode G is_member are_keys (λ m. Anything) hears members (λ m. Anything) Anything Anything result
node_any G is_member are_keys is_start hears members kept closed made result (inl refused) = inl refused
node_any G is_member are_keys is_start hears members kept closed made result (inr (m, keys, is, are, ends)) =
    inr (
      m,
      keys,
      is,
      are,
      new_map G m keys (is_start m) Anything hears members (kept m) Anything closed Anything made Anything result
          (λ x h. tt) (λ r h. tt) (λ r h. tt) (λ how h. tt) ends,
    )

-- ---- nothing is refused

both : (o p : Outcome) → first_of o p ≡ Sound → (o ≡ Sound) × (p ≡ Sound)
both (Front n a) p e = absurd (cc)
both (Stopped n a) p e = absurd (cc)
both (Asked n k) p e = absurd (cc)
both (Key k) p e = absurd (cc)
both (Refused c) p e = absurd (cc)
both (RefusedLine c l) p e = absurd (cc)
both NoAnswer p e = absurd (cc)
both Sound p e = (refl, e)
both Made p e = absurd (cc)
both Memory p e = absurd (cc)
both Unread p e = absurd (cc)

-- nothing is refused of the numbers and of the store
pub place_sound : (place keys store starts addresses control : Outcome) → checked place keys store starts addresses control ≡ Sound → place ≡ Sound
place_sound place keys store starts addresses control e = (both place (first_of keys (first_of store (first_of starts (first_of addresses control)))) e).0

pub store_sound : (place keys store starts addresses control : Outcome) → checked place keys store starts addresses control ≡ Sound → store ≡ Sound
store_sound place keys store starts addresses control e =
    (both store (first_of starts (first_of addresses control))
    (both keys (first_of store (first_of starts (first_of addresses control)))
    (both place (first_of keys (first_of store (first_of starts (first_of addresses control)))) e).1).1).0

-- where the numbers are sound there is a member
pub member_sound : {X : Type 0} (m : Option X) (place : Outcome) → (m ≡ None → place ≡ Refused 40) → place ≡ Sound → (x : X) × (m ≡ Some x)
member_sound None place h e = let refused : place ≡ Refused 40 = h refl in cc
member_sound (Some x) place h e = (x, refl)

pub if_some : {X : Type 0} (m : Option X) (P : X → Type 0) (x : X) → m ≡ Some x → IfSome m P → P x
if_some None P x e h = cc
if_some (Some y) P x e h = let same : y ≡ x = cc in subst P same h

-- neither of the keys
pub keys_sound : (place key other store starts addresses control : Outcome) →
    checked place (first_of key other) store starts addresses control ≡ Sound → (key ≡ Sound) × (other ≡ Sound)
keys_sound place key other store starts addresses control e =
    both key other (both (first_of key other) (first_of store (first_of starts (first_of addresses control)))
    (both place (first_of (first_of key other) (first_of store (first_of starts (first_of addresses control)))) e).1).0
