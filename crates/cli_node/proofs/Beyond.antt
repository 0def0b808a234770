-- A start isn't refused for what it doesn't name: a key, a control socket.
use Rattle.std.proofs.Common.{◌≡◌, ◌≢◌, ◌∙◌, ◌⊎◌, ℕ, List, [], Bool, true, false, Option, Some, None, refl, ap, inl, inr}
use Rattle.std.specs.Prelude.{◌&&◌, ◌||◌, not, if◌then◌else◌, nat_lt, is_some}
use Rattle.px_records.specs.declared.records.Records.{Ghosts}
use Rattle.px_wire.specs.declared.membership.Membership.{Membership}
use Rattle.px_replica.specs.declared.fault.NodeFault.{NodeFault}
use Rattle.px_replica.specs.declared.fault.NodeFault.TheVariants as fault
use Rattle.px_transport.specs.Wires.{WireEvent}
use Rattle.node_loop.specs.Runs.{Reports, Runs}
use Rattle.node_loop.specs.declared.ended.Ended.{Ended}
use Rattle.node_loop.specs.declared.ended.Ended.TheVariants as ended
use Rattle.cli_node.specs.declared.outcome.Outcome.{Outcome}
use Rattle.cli_node.specs.declared.outcome.Outcome.TheVariants.{Memory, Refused, Sound}
use Rattle.cli_node.specs.Endings.{checked, ended_outcome, ending_of, first_of, is_beyond, is_refused, outcome_of}
use Rattle.cli_node.specs.Endings.{ComesOpenOr, ComesTo, IsWireless}
use Rattle.cli_node.proofs.Endings.{first}

-- what isn't beyond it, or another number
pub either : (k c : Bool) (good : Outcome) (code : ℕ) (o : Outcome) → is_beyond k c good ≡ false → is_beyond k c (Refused code) ≡ false →
    (o ≡ good) ⊎ (o ≡ Refused code) → is_beyond k c o ≡ false
either k c good code o g h (inl e) = ap (is_beyond k c) e ∙ g
either k c good code o g h (inr e) = ap (is_beyond k c) e ∙ h

-- ---- what else a start names

more_keys : (a d k : Bool) → ((a && not false) || d) ≡ false → ((a && not k) || d) ≡ false
more_keys true d k h = absurd (cc)
more_keys false d k h = h

more_sockets : (a d c : Bool) → (a || (d && not false)) ≡ false → (a || (d && not c)) ≡ false
more_sockets true d c h = absurd (cc)
more_sockets false true c h = absurd (cc)
more_sockets false false c h = refl

pub keyed_or_not : (k c : Bool) (o : Outcome) → is_beyond false c o ≡ false → is_beyond k c o ≡ false
keyed_or_not k c o h = more_keys (is_refused 83 o || is_refused 95 o) (is_refused 84 o && not c) k h

pub controlled_or_not : (k c : Bool) (o : Outcome) → is_beyond k false o ≡ false → is_beyond k c o ≡ false
controlled_or_not k c o h = more_sockets ((is_refused 83 o || is_refused 95 o) && not k) (is_refused 84 o) c h

one_key : (a d k j : Bool) → ((a && not k) || d) ≡ false → ((a && not (k || j)) || d) ≡ false
one_key false d k j h = h
one_key true d true j h = h
one_key true d false j h = absurd (cc)

other_key : (a d k j : Bool) → ((a && not j) || d) ≡ false → ((a && not (k || j)) || d) ≡ false
other_key false d k j h = h
other_key true d true true h = h
other_key true d true false h = absurd (cc)
other_key true d false j h = h

-- ---- with what a run ends

of_fault : (k c : Bool) (e : NodeFault) → is_beyond k c (outcome_of e) ≡ false
of_fault k c fault.Memory = refl
of_fault k c fault.TooLong = refl
of_fault k c fault.Full = refl
of_fault k c fault.BallotsSpent = refl
of_fault k c fault.PositionsSpent = refl
of_fault k c fault.Store = refl
of_fault k c fault.BadStore = refl
of_fault k c fault.Failed = refl

of_ended : (c : Bool) (without : Outcome) (how : Ended) → (how ≡ ended.NoControlSocket → c ≡ true) →
    is_beyond false c without ≡ false → is_beyond false c (ended_outcome without how) ≡ false
of_ended c without (ended.Front n a) f h = refl
of_ended c without (ended.Stopped n a) f h = refl
of_ended c without (ended.Fault e) f h = of_fault false c e
of_ended c without ended.NoWire f h = h
of_ended c without ended.NoControlSocket f h = let t : c ≡ true = f refl in rw t refl
of_ended c without ended.NoPort f h = refl

wireless : (c : Bool) (o : Outcome) → IsWireless o → is_beyond false c o ≡ false
wireless c o none = either false c Memory 82 o refl refl none

-- without a control socket none is missing
reported : (n a : ℕ) (answered : Option NodeFault) (how : Ended) → Reports n a answered how → how ≢ ended.NoControlSocket
reported n a None how (inl e) h = cc
reported n a None how (inr (inl e)) h = cc
reported n a None how (inr (inr e)) h = cc
reported n a (Some x) how e h = cc

has_socket : {R : Type 0} (G : Ghosts R) (m : Membership) (given back : R) (events : List WireEvent) (how : Ended) →
    Runs G m given [] events how back → how ≢ ended.NoControlSocket
has_socket G m given back events how (inl (e, is, refused, same)) h = cc
has_socket G m given back events how (inr run) h = reported _ _ run.went.answered how run.went.reported h

of_turns : {R : Type 0} (G : Ghosts R) (m : Membership) (given back : R) (o : Outcome) → ComesTo G m given o back →
    is_beyond false false o ≡ false
of_turns G m given back o (events, how, without, runs, is, none) =
    ap (is_beyond false false) is
    ∙ of_ended false without how (λ e. absurd (has_socket G m given back events how runs e)) (wireless false without none)

of_open : {R : Type 0} (G : Ghosts R) (m : Membership) (given back : R) (o : Outcome) → ComesOpenOr G m given o back →
    is_beyond false true o ≡ false
of_open G m given back o (inl (events, hears, how, without, runs, is, none)) =
    ap (is_beyond false true) is ∙ of_ended true without how (λ e. refl) (wireless true without none)
of_open G m given back o (inr (none, same)) = wireless true o none

pub of_member : {R C : Type 0} (G : Ghosts R) (m : Membership) (given back : R) (o : Outcome) (control : Option C) →
    ComesOpenOr G m given o back → (control ≡ None → ComesTo G m given o back) → is_beyond false (is_some control) o ≡ false
of_member G m given back o None opened turns = of_turns G m given back o (turns refl)
of_member G m given back o (Some path) opened turns = of_open G m given back o opened

-- what it failed of
pub of_ending : (c : Bool) (o : Outcome) (n : ℕ) → is_beyond false c o ≡ false → is_beyond false c (ending_of o n) ≡ false
of_ending c o n h =
    (elim (is_refused 80 o) as (λ q. is_beyond false c (if q then (if nat_lt 0 n then Refused 70 else Refused 72) else o) ≡ false) [
      | true ↦ (elim (nat_lt 0 n) as (λ q. is_beyond false c (if q then Refused 70 else Refused 72) ≡ false) [
        | true ↦ refl
        | false ↦ refl
      ])
      | false ↦ h
    ])

-- ---- what a start would be refused for

pub of_check : (k j c : Bool) (place key other store starts addresses control : Outcome) →
    (place ≡ Sound) ⊎ (place ≡ Refused 40) → is_beyond k false key ≡ false → is_beyond j false other ≡ false →
    is_beyond false false store ≡ false → is_beyond k false starts ≡ false → (addresses ≡ Sound) ⊎ (addresses ≡ Refused 82) →
    is_beyond false c control ≡ false →
    is_beyond (k || j) c (checked place (first_of key other) store starts addresses control) ≡ false
of_check k j c place key other store starts addresses control p q r s t a d =
    let P : Outcome → Type 0 = λ o. is_beyond (k || j) c o ≡ false in
    let of_one : (o : Outcome) → is_beyond k false o ≡ false → P o = λ o h.
    controlled_or_not (k || j) c o (one_key (is_refused 83 o || is_refused 95 o) (is_refused 84 o && not false) k j h) in
    let of_other : P other = controlled_or_not (k || j) c other
    (other_key (is_refused 83 other || is_refused 95 other) (is_refused 84 other && not false) k j r) in
    let of_store : P store = controlled_or_not (k || j) c store (keyed_or_not (k || j) false store s) in
    first P place _ (either (k || j) c Sound 40 place refl refl p)
    (first P (first_of key other) _ (first P key other (of_one key q) of_other)
    (first P store _ of_store (first P starts _ (of_one starts t)
    (first P addresses control (either (k || j) c Sound 82 addresses refl refl a) (keyed_or_not (k || j) c control d)))))
