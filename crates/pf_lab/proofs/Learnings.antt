-- What the members of a lab ever learned is what was ever learned in the world.
use Rattle.std.proofs.Common.{◌≡◌, ◌∙◌, sym, ap, subst, ℕ, ◌<◌, ◌≤◌, Bool, true, ◌&&◌, ltb, ltb-true, List, [], ◌∷◌, ◌++◌, Option, Some, None, inl, inr, slice_get, length, refl, zero, suc, arith}
use Rattle.std.proofs.lemmas.Bool.{cond_both, and_parts}
use Rattle.px_model.specs.Node.{Entry, Change, Input, Answer, Log}
use Rattle.px_model.specs.Node.Change.{NewRound, NewNumber, NewFloor, NewPromise, NewAccepted, NewLearned}
use Rattle.px_model.specs.Node.Answer.{Refused, Planned}
use Rattle.px_model.specs.World.{World, NodeState, Event, Learning, start, run, happens, comes_to, at_member, goes_on, stops_after, emptied, step_in, learned_by}
use Rattle.px_model.specs.World.Event.{Runs, StopBefore, StopAfter, Restart}
use Rattle.px_model.specs.Law.{Among, Kept, HasLearned, learned_of, world_after}
use Rattle.px_model.specs.Spelling.{Bytes}
use Rattle.px_model.proofs.Basics.{among_cases}
use Rattle.px_model.proofs.Reading.{bytes_equality}
use Rattle.px_model.proofs.Runs.{always_agree, always_once, always_kept}
use Rattle.px_replica.specs.Made.{same as same_bytes}
use Rattle.pf_node.specs.Nodes.{learned_by as log_by}
use Rattle.pf_lab.specs.Ever.{log_of, ever_of, IsEver, IsAgreed}
use Rattle.pf_lab.specs.Labs.{IsWorld, cluster_of}
use Rattle.pf_lab.specs.declared.host.Host.{Host}
use Rattle.pf_lab.specs.declared.state.Lab.{Lab}

module _ {C : Type 0} (same : C → C → Bool) (n : ℕ) where
  -- nobody but n members ever learned
  abbrev Below : World C → Type 0
  Below w = (x : Learning C) → Among w.learned x → x.member < n

  whose : (m : ℕ) (change : Option (Change C)) (x : Learning C) → Among (learned_by m change) x → m ≡ x.member
  whose m (Some (NewLearned p e)) x a = elim a [ inl is ↦ ap (λ (z : Learning C). z.member) is | inr none ↦ absurd none ]
  whose m (Some (NewRound r)) x a = absurd a
  whose m (Some (NewNumber k)) x a = absurd a
  whose m (Some (NewFloor b)) x a = absurd a
  whose m (Some (NewPromise p b)) x a = absurd a
  whose m (Some (NewAccepted p b e)) x a = absurd a
  whose m None x a = absurd a

  learns_below : (w : World C) (m : ℕ) (change : Option (Change C)) → m < n → Below w →
      (x : Learning C) → Among (learned_by m change ++ w.learned) x → x.member < n
  learns_below w m change below old x a = elim (among_cases (learned_by m change) w.learned x a) [
    | inl new ↦ subst (λ (k : ℕ). k < n) (whose m change x new) below
    | inr before ↦ old x before
  ]

  goes_on_below : (w : World C) (m : ℕ) (input : Input C) (a : Answer C) → m < n → Below w → Below (goes_on w m input a)
  goes_on_below w m input (Refused code) below old = old
  goes_on_below w m input (Planned plan) below old = learns_below w m plan.change below old

  stops_after_below : (w : World C) (m : ℕ) (input : Input C) (a : Answer C) → m < n → Below w → Below (stops_after w m input a)
  stops_after_below w m input (Refused code) below old = old
  stops_after_below w m input (Planned plan) below old = learns_below w m plan.change below old

  at_member_below : (w : World C) (o : Option (ℕ × Input C)) (does : ℕ → Input C → World C) →
      ((m : ℕ) (input : Input C) → m < n → Below (does m input)) → Below w → Below (at_member n w o does)
  at_member_below w None does each old = old
  at_member_below w (Some t) does each old =
      cond_both (ltb t.0 n && (w.nodes t.0).is_up) (does t.0 t.1) w Below
      (λ both. each t.0 t.1 (ltb-true t.0 n (and_parts (ltb t.0 n) (w.nodes t.0).is_up both).0)) (λ f. old)

  happens_below : (w : World C) (e : Event C) → Below w → Below (happens same n w e)
  unfolding happens
  happens_below w (Runs a) old = at_member_below w (comes_to w a) _ (λ m input below. goes_on_below w m input (step_in same n w m input) below old) old
  happens_below w (StopBefore a) old = at_member_below w (comes_to w a) _ (λ m input below. old) old
  happens_below w (StopAfter a) old = at_member_below w (comes_to w a) _ (λ m input below. stops_after_below w m input (step_in same n w m input) below old) old
  happens_below w (Restart m) old = cond_both (ltb m n) (emptied w m true) w Below (λ t. old) (λ f. old)

  run_below : (es : List (Event C)) (w : World C) → Below w → Below (run same n es w)
  run_below [] w old = old
  run_below (e ∷ es) w old = run_below es (happens same n w e) (happens_below w e old)

  pub learned_below : (es : List (Event C)) (x : Learning C) → Among (run same n es start).learned x → x.member < n
  learned_below es x a = run_below es start (λ y none. absurd none) x a

-- a place behind a list's end has nothing
past : {X : Type 0} (xs : List X) (m : ℕ) → slice_get xs m ≡ None → m < length xs → ⊥
past [] m none below = absurd (omega arith)
past (x ∷ xs) zero none below = absurd cc
past (x ∷ xs) (suc m) none below = past xs m none (omega arith)

-- ---- the records

module _ (n : ℕ) (few : n ≤ 15) (events : List (Event Bytes)) (lab : Lab)
    (is : IsWorld lab (cluster_of n) (world_after same_bytes n events)) where
  abbrev w : World Bytes
  w = world_after same_bytes n events

  kept : Kept w
  kept = always_kept same_bytes bytes_equality n few events

  -- what a member has as learned is in its record
  recorded : (m : ℕ) (s : Host) → slice_get lab.hosts.items m ≡ Some s → learned_of w m ≡ log_by s.node
  recorded m s at = ap (λ (z : NodeState Bytes). z.stored.learned) (is.hosts m s at).here ∙ s.node.replica.agrees s.works tt

  shown : (m p : ℕ) (e : Entry Bytes) (o : Option Host) → slice_get lab.hosts.items m ≡ o → log_of o p ≡ Some e → HasLearned w m p e
  shown m p e None at has = absurd cc
  shown m p e (Some s) at has = kept.was_learned m p e (ap (λ (l : Log Bytes). l p) (recorded m s at) ∙ has)

  unshown : (m : ℕ) → slice_get lab.hosts.items m ≡ None → m < n → ⊥
  unshown m none below = past lab.hosts.items m none (subst (λ (k : ℕ). m < k) (sym is.count) below)

  found : (m p : ℕ) (e : Entry Bytes) → m < n → learned_of w m p ≡ Some e → (o : Option Host) → slice_get lab.hosts.items m ≡ o → log_of o p ≡ Some e
  found m p e below has None at = absurd (unshown m at below)
  found m p e below has (Some s) at = sym (ap (λ (l : Log Bytes). l p) (recorded m s at)) ∙ has

  pub is_ever : IsEver (ever_of lab.hosts.items) w
  is_ever m p e = (
    shown m p e (slice_get lab.hosts.items m) refl,
    λ learned. found m p e (learned_below same_bytes n events (record { member = m; position = p; entry = e }) learned)
        (kept.is_recorded m p e learned) (slice_get lab.hosts.items m) refl,
  )

  pub is_agreed : IsAgreed n w (ever_of lab.hosts.items)
  is_agreed =
      let agree = always_agree same_bytes bytes_equality n few events in
      let once = always_once same_bytes bytes_equality n few events in
      record {
        one_learned = λ p e f m k a b. agree.one_learned p e f m k ((is_ever m p e).0 a) ((is_ever k p f).0 b);
        was_chosen = λ m p e a. agree.was_chosen m p e ((is_ever m p e).0 a);
        was_asked = λ m p e a. agree.was_asked m p e ((is_ever m p e).0 a);
        one_chosen = agree.one_chosen;
        one_position = λ e m p k q a b. once.one_position e m p k q ((is_ever m p e).0 a) ((is_ever k q e).0 b);
      }
