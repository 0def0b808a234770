-- How a lab follows the world.
use Rattle.std.proofs.Common.{◌≡◌, ◌∙◌, sym, ap, subst, refl, ℕ, zero, suc, ◌<◌, Bool, true, false, cond, ◌&&◌, nat_lt, nat_eq, List, [], ◌∷◌, ◌++◌, Option, Some, slice_get, lt-ltb, arith, inl, inr, eqb-true}
use Rattle.px_model.proofs.Basics.{put_same, put_other}
use Rattle.std.proofs.Math.ListN.{set, length-set}
use Rattle.std.proofs.lemmas.Bool.{and_from, cond-true, cond-false, cases_order}
use Rattle.std.proofs.lemmas.List.{append-nil}
use Rattle.std.proofs.lemmas.Option.{slice_get_within}
use mathlib.Core.Path.{fun_ext}
use Rattle.px_model.specs.Node.{Envelope, Input, Answer}
use Rattle.px_model.specs.Node.Answer.{Refused, Planned}
use Rattle.px_model.specs.Step.{put, nothing_volatile}
use Rattle.px_model.specs.World.{World, NodeState, Action, comes_to, at_member, goes_on, step_in, step_of, happens, to_members, emptied, stops_after, follows}
use Rattle.px_model.specs.World.Event.{Runs, StopBefore, StopAfter, Restart}
use Rattle.px_model.specs.Spelling.{Bytes}
use Rattle.px_wire.specs.declared.membership.Membership.{Membership}
use Rattle.px_wire.specs.Message.{Group, group}
use Rattle.px_replica.specs.Made.{same, answer}
use Rattle.px_replica.specs.Spelled.{AreSpelled}
use Rattle.px_replica.specs.declared.datagram.Datagram.{Datagram}
use Rattle.px_replica.specs.Spelled.{for_members}
use Rattle.pf_lab.specs.Labs.{IsHost, AreWorld}
use Rattle.pf_lab.specs.inner.Labs.{IsAnswered}
use Rattle.px_replica.proofs.Messages.{are_append, are_members}

-- ---- one action in the world

pub record Ran (g : Group) (m : ℕ) (w' w : World Bytes) (st : NodeState Bytes) (sent : List Datagram) : Type 0 where
  pub nodes : w'.nodes ≡ put w.nodes m st
  pub is_spelled : AreSpelled g w'.sent sent

put_nothing : (map : ℕ → NodeState Bytes) (m : ℕ) (st : NodeState Bytes) → map m ≡ st → map ≡ put map m st
put_nothing map m st is = fun_ext (λ q. at q (nat_eq q m) refl)
  where
    at : (q : ℕ) (b : Bool) → nat_eq q m ≡ b → map q ≡ cond b st (map q)
    at q false e = refl
    at q true e = ap map (eqb-true q m e) ∙ is

goes : (g : Group) (m : ℕ) (w : World Bytes) (x : Input Bytes) (s t : NodeState Bytes) (sent out : List Datagram) (a : Answer Bytes) →
    w.nodes m ≡ s → IsAnswered g a s t out → AreSpelled g w.sent sent →
    Ran g m (goes_on w m x a) w t (sent ++ for_members out)
goes g m w x s t sent out (Refused code) here is is_spelled = record {
  nodes = put_nothing w.nodes m t (here ∙ sym is.0);
  is_spelled = subst (λ (z : List Datagram). AreSpelled g w.sent (sent ++ for_members z)) (sym is.1)
      (subst (λ (z : List Datagram). AreSpelled g w.sent z) (sym (append-nil sent)) is_spelled);
}
goes g m w x s t sent out (Planned plan) here is is_spelled = record {
  nodes = ap (put w.nodes m) (ap (λ (z : NodeState Bytes). follows z plan) here ∙ sym is.0);
  is_spelled = are_append g w.sent (to_members plan.sends) sent (for_members out) is_spelled (are_members g plan.sends out is.1);
}

-- a member that has lost all but its record
abbrev pub emptied_state : Bool → NodeState Bytes → NodeState Bytes
emptied_state up s = record { is_up = up; stored = s.stored; volatile = nothing_volatile }

tested : (n m : ℕ) (w : World Bytes) (s : NodeState Bytes) → m < n → w.nodes m ≡ s → s.is_up ≡ true →
    (nat_lt m n && (w.nodes m).is_up) ≡ true
tested n m w s below here up =
    and_from (nat_lt m n) (w.nodes m).is_up (lt-ltb m n below) (ap (λ (z : NodeState Bytes). z.is_up) here ∙ up)

ran : (g : Group) (m : ℕ) (w : World Bytes) (a : Action Bytes) (x : Input Bytes) (s t : NodeState Bytes) (sent out : List Datagram) →
    comes_to w a ≡ Some (m, x) → m < g.members → w.nodes m ≡ s → s.is_up ≡ true →
    IsAnswered g (answer g.members m s x) s t out → AreSpelled g w.sent sent →
    Ran g m (happens same g.members w (Runs a)) w t (sent ++ for_members out)
unfolding happens
ran g m w a x s t sent out come below here up is is_spelled =
    let n = g.members in
    let F : ℕ → Input Bytes → World Bytes = λ k y. goes_on w k y (step_in same n w k y) in
    let steps : step_in same n w m x ≡ answer n m s x = ap (λ (z : NodeState Bytes). step_of same n m z x) here in
    let e : happens same n w (Runs a) ≡ goes_on w m x (answer n m s x) =
    ap (λ (t : Option (ℕ × Input Bytes)). at_member n w t F) come ∙ cond-true _ (F m x) w (tested n m w s below here up)
    ∙ ap (goes_on w m x) steps in
    subst (λ (z : World Bytes). Ran g m z w t (sent ++ for_members out)) (sym e) (goes g m w x s t sent out (answer n m s x) here is is_spelled)

and_not : (b t : Bool) → t ≡ false → (b && t) ≡ false
and_not true t e = e
and_not false t e = refl

-- nothing arrives at a member that is stopped
pub stopped : (n m : ℕ) (w : World Bytes) (a : Action Bytes) (x : Input Bytes) → comes_to w a ≡ Some (m, x) → (w.nodes m).is_up ≡ false → happens same n w (Runs a) ≡ w
unfolding happens
stopped n m w a x come down =
    let F : ℕ → Input Bytes → World Bytes = λ k y. goes_on w k y (step_in same n w k y) in
    ap (λ (t : Option (ℕ × Input Bytes)). at_member n w t F) come ∙ cond-false _ (F m x) w (and_not (nat_lt m n) (w.nodes m).is_up down)

-- ---- the members

get_here : {M : Type 0} (xs : List M) (m : ℕ) (x y : M) → slice_get xs m ≡ Some x → slice_get (set xs m y) m ≡ Some y
get_here [] m x y h = cc
get_here (z ∷ xs) zero x y h = refl
get_here (z ∷ xs) (suc m) x y h = get_here xs m x y h

get_other : {M : Type 0} (xs : List M) (m k : ℕ) (y : M) → (k ≡ m → ⊥) → slice_get (set xs m y) k ≡ slice_get xs k
get_other [] m k y ne = refl
get_other (z ∷ xs) zero zero y ne = absurd (ne refl)
get_other (z ∷ xs) zero (suc k) y ne = refl
get_other (z ∷ xs) (suc m) zero y ne = refl
get_other (z ∷ xs) (suc m) (suc k) y ne = get_other xs m k y (λ e. ne (ap suc e))

module _ {M : Type 0} (members : List M) (state_of : M → NodeState Bytes) (group_of : M → Membership) (g : Group) where
  host_here : (m : ℕ) (w w' : World Bytes) (x y z : M) (sent more : List Datagram) →
      AreWorld members state_of group_of g sent w → slice_get members m ≡ Some x → group_of y ≡ group_of x →
      Ran g m w' w (state_of y) more → slice_get (set members m y) m ≡ Some z → IsHost w' g m (state_of z) (group_of z)
  host_here m w w' x y z sent more world at same_group ran h =
      let e : Some y ≡ Some z = sym (get_here members m x y at) ∙ h in
      let is : y ≡ z = cc in
      let old = world.hosts m x at in
      let P : M → Type 0 = λ q. IsHost w' g m (state_of q) (group_of q) in
      subst P is (record {
        here = ap (λ (f : ℕ → NodeState Bytes). f m) ran.nodes ∙ put_same w.nodes m (state_of y);
        group = ap group same_group ∙ old.group;
        me = ap (λ (p : Membership). p.me) same_group ∙ old.me;
      })

  host_other : (m k : ℕ) (w w' : World Bytes) (y z : M) (sent more : List Datagram) →
      AreWorld members state_of group_of g sent w → Ran g m w' w (state_of y) more → (k ≡ m → ⊥) →
      slice_get (set members m y) k ≡ Some z → IsHost w' g k (state_of z) (group_of z)
  host_other m k w w' y z sent more world ran ne h =
      let old = world.hosts k z (sym (get_other members m k y ne) ∙ h) in
      record {
        here = ap (λ (f : ℕ → NodeState Bytes). f k) ran.nodes ∙ put_other w.nodes m (state_of y) k ne ∙ old.here;
        group = old.group;
        me = old.me;
      }

  -- one member went on, and the lab is the world that went on
  lab_ran : (m : ℕ) (w w' : World Bytes) (x y : M) (sent more : List Datagram) →
      AreWorld members state_of group_of g sent w → slice_get members m ≡ Some x → group_of y ≡ group_of x →
      Ran g m w' w (state_of y) more → AreWorld (set members m y) state_of group_of g more w'
  lab_ran m w w' x y sent more world at same_group ran = record {
    count = length-set members m y ∙ world.count;
    hosts = λ k z h.
        elim (cases_order k m) [
          | inl is ↦ subst (λ (j : ℕ). IsHost w' g j (state_of z) (group_of z)) (sym is)
              (host_here m w w' x y z sent more world at same_group ran (sym (ap (slice_get (set members m y)) is) ∙ h))
          | inr apart ↦ (elim apart [
            | inl less ↦ host_other m k w w' y z sent more world ran (λ e. omega (arith, e)) h
            | inr above ↦ host_other m k w w' y z sent more world ran (λ e. omega (arith, e)) h
          ])
        ];
    is_spelled = ran.is_spelled;
  }

  inside : (m : ℕ) (w : World Bytes) (x : M) (sent : List Datagram) → AreWorld members state_of group_of g sent w →
      slice_get members m ≡ Some x → m < g.members
  inside m w x sent world at = let within = slice_get_within members m x at in omega (arith, within, world.count)

  -- what is answered is answered as the m-th member
  answered_at : (m : ℕ) (p : Membership) (x : Input Bytes) (s t : NodeState Bytes) (out : List Datagram) →
      group p ≡ g → p.me ≡ m → IsAnswered (group p) (answer p.members p.me s x) s t out →
      IsAnswered g (answer g.members m s x) s t out
  answered_at m p x s t out e f is =
      subst (λ (k : ℕ). IsAnswered g (answer g.members k s x) s t out) f
      (subst (λ (h : Group). IsAnswered h (answer h.members p.me s x) s t out) e is)

  -- what arrives at a member that runs happens in the world
  pub lab_runs : (m : ℕ) (w : World Bytes) (a : Action Bytes) (x : Input Bytes) (y z : M) (sent out : List Datagram) →
      AreWorld members state_of group_of g sent w → slice_get members m ≡ Some y → (state_of y).is_up ≡ true →
      group_of z ≡ group_of y → comes_to w a ≡ Some (m, x) →
      IsAnswered (group (group_of y)) (answer (group_of y).members (group_of y).me (state_of y) x) (state_of y) (state_of z) out →
      AreWorld (set members m z) state_of group_of g (sent ++ for_members out) (happens same g.members w (Runs a))
  lab_runs m w a x y z sent out world at up same_group come is =
      let host = world.hosts m y at in
      lab_ran m w (happens same g.members w (Runs a)) y z sent (sent ++ for_members out) world at same_group
      (ran g m w a x (state_of y) (state_of z) sent out come (inside m w y sent world at) host.here up
      (answered_at m (group_of y) x (state_of y) (state_of z) out host.group host.me is) world.is_spelled)

  -- a member that is as it was leaves the world as it was
  pub lab_same : (m : ℕ) (w : World Bytes) (y z : M) (sent : List Datagram) →
      AreWorld members state_of group_of g sent w → slice_get members m ≡ Some y → state_of z ≡ state_of y →
      group_of z ≡ group_of y → AreWorld (set members m z) state_of group_of g sent w
  lab_same m w y z sent world at is same_group =
      let host = world.hosts m y at in
      lab_ran m w w y z sent sent world at same_group
      (record { nodes = put_nothing w.nodes m (state_of z) (host.here ∙ sym is); is_spelled = world.is_spelled })

  -- ---- stops and restarts

  emptied_ran : (m : ℕ) (w : World Bytes) (up : Bool) (st : NodeState Bytes) (sent : List Datagram) →
      record { is_up = up; stored = (w.nodes m).stored; volatile = nothing_volatile } ≡ st → AreSpelled g w.sent sent →
      Ran g m (emptied w m up) w st sent
  emptied_ran m w up st sent is is_spelled = record {
    nodes = ap (put w.nodes m) is;
    is_spelled = subst (λ (z : List (Envelope Bytes)). AreSpelled g z sent) (sym (append-nil w.sent)) is_spelled;
  }

  pub lab_emptied : (m : ℕ) (w : World Bytes) (y z : M) (up : Bool) (sent : List Datagram) →
      AreWorld members state_of group_of g sent w → slice_get members m ≡ Some y →
      state_of z ≡ record { is_up = up; stored = (state_of y).stored; volatile = nothing_volatile } →
      group_of z ≡ group_of y → AreWorld (set members m z) state_of group_of g sent (emptied w m up)
  lab_emptied m w y z up sent world at after same_group =
      let host = world.hosts m y at in
      lab_ran m w (emptied w m up) y z sent sent world at same_group
      (emptied_ran m w up (state_of z) sent
      (ap (λ (q : NodeState Bytes). emptied_state up q) host.here ∙ sym after) world.is_spelled)

  stops : (m : ℕ) (w : World Bytes) (x : Input Bytes) (s t : NodeState Bytes) (sent out : List Datagram) (a : Answer Bytes) →
      w.nodes m ≡ s → IsAnswered g a s t out → AreSpelled g w.sent sent →
      Ran g m (stops_after w m x a) w (emptied_state false t) sent
  stops m w x s t sent out (Refused code) here is is_spelled =
      emptied_ran m w false (emptied_state false t) sent (ap (emptied_state false) (here ∙ sym is.0)) is_spelled
  stops m w x s t sent out (Planned plan) here is is_spelled = record {
    nodes = ap (put w.nodes m) (ap (λ (z : NodeState Bytes). emptied_state false (follows z plan)) here ∙ ap (emptied_state false) (sym is.0));
    is_spelled = subst (λ (z : List (Envelope Bytes)). AreSpelled g z sent) (sym (append-nil w.sent)) is_spelled;
  }

  stopped_ran : (m : ℕ) (w : World Bytes) (a : Action Bytes) (x : Input Bytes) (s t : NodeState Bytes) (sent out : List Datagram) →
      comes_to w a ≡ Some (m, x) → m < g.members → w.nodes m ≡ s → s.is_up ≡ true →
      IsAnswered g (answer g.members m s x) s t out → AreSpelled g w.sent sent →
      Ran g m (happens same g.members w (StopAfter a)) w (emptied_state false t) sent
  unfolding happens
  stopped_ran m w a x s t sent out come below here up is is_spelled =
      let n = g.members in
      let F : ℕ → Input Bytes → World Bytes = λ k y. stops_after w k y (step_in same n w k y) in
      let steps : step_in same n w m x ≡ answer n m s x = ap (λ (z : NodeState Bytes). step_of same n m z x) here in
      let e : happens same n w (StopAfter a) ≡ stops_after w m x (answer n m s x) =
      ap (λ (t : Option (ℕ × Input Bytes)). at_member n w t F) come ∙ cond-true _ (F m x) w (tested n m w s below here up)
      ∙ ap (stops_after w m x) steps in
      subst (λ (z : World Bytes). Ran g m z w (emptied_state false t) sent) (sym e) (stops m w x s t sent out (answer n m s x) here is is_spelled)

  pub lab_stops_after : (m : ℕ) (w : World Bytes) (a : Action Bytes) (x : Input Bytes) (y z q : M) (sent out : List Datagram) →
      AreWorld members state_of group_of g sent w → slice_get members m ≡ Some y → (state_of y).is_up ≡ true →
      state_of q ≡ emptied_state false (state_of z) → group_of q ≡ group_of y → comes_to w a ≡ Some (m, x) →
      IsAnswered (group (group_of y)) (answer (group_of y).members (group_of y).me (state_of y) x) (state_of y) (state_of z) out →
      AreWorld (set members m q) state_of group_of g sent (happens same g.members w (StopAfter a))
  lab_stops_after m w a x y z q sent out world at up after same_group come is =
      let host = world.hosts m y at in
      let is_spelled = stopped_ran m w a x (state_of y) (state_of z) sent out come (inside m w y sent world at) host.here up
      (answered_at m (group_of y) x (state_of y) (state_of z) out host.group host.me is) world.is_spelled in
      lab_ran m w (happens same g.members w (StopAfter a)) y q sent sent world at same_group
      (subst (λ (st : NodeState Bytes). Ran g m (happens same g.members w (StopAfter a)) w st sent) (sym after) is_spelled)

-- an action before which a running member stops, and one that arrives at a stopped one
pub stops_before : (n m : ℕ) (w : World Bytes) (a : Action Bytes) (x : Input Bytes) → comes_to w a ≡ Some (m, x) → m < n → (w.nodes m).is_up ≡ true → happens same n w (StopBefore a) ≡ emptied w m false
unfolding happens
stops_before n m w a x come below up =
    let F : ℕ → Input Bytes → World Bytes = λ k y. emptied w k false in
    ap (λ (t : Option (ℕ × Input Bytes)). at_member n w t F) come ∙ cond-true _ (F m x) w (and_from (nat_lt m n) (w.nodes m).is_up (lt-ltb m n below) up)

pub stays_before : (n m : ℕ) (w : World Bytes) (a : Action Bytes) (x : Input Bytes) → comes_to w a ≡ Some (m, x) → (w.nodes m).is_up ≡ false → happens same n w (StopBefore a) ≡ w
unfolding happens
stays_before n m w a x come down =
    let F : ℕ → Input Bytes → World Bytes = λ k y. emptied w k false in
    ap (λ (t : Option (ℕ × Input Bytes)). at_member n w t F) come ∙ cond-false _ (F m x) w (and_not (nat_lt m n) (w.nodes m).is_up down)

pub stays_after : (n m : ℕ) (w : World Bytes) (a : Action Bytes) (x : Input Bytes) → comes_to w a ≡ Some (m, x) → (w.nodes m).is_up ≡ false → happens same n w (StopAfter a) ≡ w
unfolding happens
stays_after n m w a x come down =
    let F : ℕ → Input Bytes → World Bytes = λ k y. stops_after w k y (step_in same n w k y) in
    ap (λ (t : Option (ℕ × Input Bytes)). at_member n w t F) come ∙ cond-false _ (F m x) w (and_not (nat_lt m n) (w.nodes m).is_up down)

pub restarts : (n m : ℕ) (w : World Bytes) → m < n → happens same n w (Restart m) ≡ emptied w m true
unfolding happens
restarts n m w below = cond-true _ (emptied w m true) w (lt-ltb m n below)
