-- A plan that keeps the invariant, and the parts that the cases of the step share.
use Rattle.std.proofs.Common.{◌≡◌, ℕ, zero, suc, ◌+◌, ◌<◌, ◌≤◌, Bool, true, false, ◌⊎◌, inl, inr, List, [], ◌∷◌, ◌++◌, Option, Some, None, arith, refl, sym, ap, subst, ◌∙◌}
use Rattle.std.proofs.lemmas.Bool.{cases_lt}
use Rattle.px_model.specs.Node.{Entry, Proposal, Slot, Change, Volatile, Message, Envelope, Input, Plan}
use Rattle.px_model.specs.Node.Message.{Accept, Need}
use Rattle.px_model.specs.Step.{commit, positions, top_below, top, first_gap, front, nothing_volatile, idle, to_all}
use Rattle.px_model.specs.World.{World, NodeState, moved}
use Rattle.px_model.specs.Law.{HasSent}
use Rattle.px_model.proofs.Basics.{among_cases, put_same}
use Rattle.px_model.proofs.Backed.{Acceptance, record_of}
use Rattle.px_model.proofs.Invariant.{SentOk, VolatileOk}
use Rattle.px_model.proofs.Later.{volatile_later}
use Rattle.px_model.proofs.Moves.{history_by, ChangeOk, AllAre, IsFresh, later_moved, sent_cases}

-- the world and the history after a node follows its plan
abbrev pub after : {C : Type 0} → World C → (m : ℕ) → Input C → Plan C → World C
after w m input plan = moved w m input plan.change true plan.volatile plan.sends

pub record PlanOk {C : Type 0} (n : ℕ) (w : World C) (h : List (Acceptance C)) (m : ℕ) (input : Input C) (plan : Plan C) : Type 0 where
  pub change : ChangeOk n w (record_of w m) plan.change
  pub message : Message C
  pub all : AllAre m message plan.sends
  pub new : SentOk n (after w m input plan) (history_by m plan.change ++ h) m message
  pub fresh : IsFresh w m message
  pub volatile : VolatileOk n (after w m input plan) (history_by m plan.change ++ h) m plan.volatile

abbrev pub is_accept : {C : Type 0} → Message C → Bool
is_accept (Accept b p e) = true
is_accept _ = false

pub none_sent : {C : Type 0} (m : ℕ) (x : Message C) → AllAre m x []
none_sent m x y a = absurd a

pub one_sent : {C : Type 0} (m to : ℕ) (x : Message C) → AllAre m x (record { sender = m; addressee = to; message = x } ∷ [])
one_sent {C} m to x y a = elim a [ inl is ↦ (sym (ap (λ (z : Envelope C). z.sender) is), sym (ap (λ (z : Envelope C). z.message) is)) | inr nil ↦ absurd nil ]

pub all_sent : {C : Type 0} (n m : ℕ) (x : Message C) → AllAre m x (to_all n m x)
all_sent zero m x y a = absurd a
all_sent (suc n) m x y a =
    elim (among_cases (to_all n m x) (record { sender = m; addressee = n; message = x } ∷ []) y a) [ inl b ↦ all_sent n m x y b | inr b ↦ one_sent m n x y b ]

pub fresh_other : {C : Type 0} (w : World C) (m : ℕ) (x : Message C) → is_accept x ≡ false → IsFresh w m x
fresh_other w m (Accept b p e) nil = absurd (cc)
fresh_other w m _ nil = tt

pub volatile_nothing : {C : Type 0} (n : ℕ) (w : World C) (h : List (Acceptance C)) (m : ℕ) → VolatileOk n w h m nothing_volatile
volatile_nothing n w h m = record { waiting = λ e a. absurd a; attempt = tt; lead = tt; kept = λ p k over. absurd (omega arith) }

module _ {C : Type 0} (n : ℕ) (w : World C) (h : List (Acceptance C)) (m : ℕ) (input : Input C) where
  -- what m has learned, where the change is of something else
  pub learned_back : (ch : Option (Change C)) (up : Bool) (v : Volatile C) (sends : List (Envelope C)) → ((q : ℕ) → (commit ch (record_of w m)).learned q ≡ (record_of w m).learned q) → (q : ℕ) (f : Entry C) → (record_of (moved w m input ch up v sends) m).learned q ≡ Some f → (record_of w m).learned q ≡ Some f
  learned_back ch up v sends same q f is =
      sym (ap (λ (z : NodeState C). z.stored.learned q) (put_same w.nodes m (record { is_up = up; stored = commit ch (record_of w m); volatile = v })) ∙ same q) ∙ is

  pub sent_back : (ch : Option (Change C)) (up : Bool) (v : Volatile C) (sends : List (Envelope C)) (x : Message C) → AllAre m x sends → is_accept x ≡ false → (b q : ℕ) (e : Entry C) → HasSent (moved w m input ch up v sends) m (Accept b q e) → HasSent w m (Accept b q e)
  sent_back ch up v sends x all nil b q e s =
      elim (sent_cases n w h m input ch up v sends x all m (Accept b q e) s) [
        | inl old ↦ old
        | inr is ↦ (let yes : true ≡ is_accept x = ap (λ (z : Message C). is_accept z) is.1 in absurd (let f : true ≡ false = yes ∙ nil in cc))
      ]

  -- a volatile part that is right before a plan is right after it, where nothing is learned and nothing is proposed
  pub volatile_same : (ch : Option (Change C)) (up : Bool) (v v' : Volatile C) (sends : List (Envelope C)) (x : Message C) → ChangeOk n w (record_of w m) ch → AllAre m x sends → is_accept x ≡ false → ((q : ℕ) → (commit ch (record_of w m)).learned q ≡ (record_of w m).learned q) → VolatileOk n w h m v' → VolatileOk n (moved w m input ch up v sends) (history_by m ch ++ h) m v'
  volatile_same ch up v v' sends x ok all nil same g =
      volatile_later n w (moved w m input ch up v sends) h (history_by m ch ++ h) (later_moved n w h m input ch up v sends ok) m v'
      (learned_back ch up v sends same) (sent_back ch up v sends x all nil) g

  pub idle_ok : (v : Volatile C) → VolatileOk n w h m v → PlanOk n w h m input (idle v)
  idle_ok v g = record {
    change = tt;
    message = Need 0;
    all = none_sent m (Need 0);
    new = tt;
    fresh = tt;
    volatile = volatile_same None true v v [] (Need 0) tt (none_sent m (Need 0)) refl (λ q. refl) g;
  }

  -- one message that is no proposal, to one or to all
  pub says_ok : (ch : Option (Change C)) (v : Volatile C) (sends : List (Envelope C)) (x : Message C) → ChangeOk n w (record_of w m) ch → AllAre m x sends → is_accept x ≡ false → ((q : ℕ) → (commit ch (record_of w m)).learned q ≡ (record_of w m).learned q) → SentOk n (moved w m input ch true v sends) (history_by m ch ++ h) m x → VolatileOk n w h m v → PlanOk n w h m input (record { change = ch; volatile = v; sends = sends })
  says_ok ch v sends x ok all nil same new g = record {
    change = ok;
    message = x;
    all = all;
    new = new;
    fresh = fresh_other w m x nil;
    volatile = volatile_same ch true v v sends x ok all nil same g;
  }

-- ---- the first gap and the top

some_of : {X : Type 0} (o : Option X) → (o ≡ None) ⊎ ((x : X) × (o ≡ Some x))
some_of None = inl refl
some_of (Some x) = inr (x, refl)

gap_none : {X : Type 0} (learned : ℕ → Option X) (p k : ℕ) → learned p ≡ None → first_gap learned p (suc k) ≡ p
unfolding first_gap
gap_none learned p k is = rw (is, first_gap)

gap_some : {X : Type 0} (learned : ℕ → Option X) (p k : ℕ) (x : X) → learned p ≡ Some x → first_gap learned p (suc k) ≡ first_gap learned (suc p) k
unfolding first_gap
gap_some learned p k x is = rw (is, first_gap)

gap_zero : {X : Type 0} (learned : ℕ → Option X) (p : ℕ) → first_gap learned p zero ≡ p
unfolding first_gap
gap_zero learned p = refl

gap_bounds : {X : Type 0} (learned : ℕ → Option X) (k p : ℕ) → (p ≤ first_gap learned p k) × (first_gap learned p k ≤ p + k)
gap_bounds learned zero p = rw gap_zero (omega arith)
gap_bounds learned (suc k) p =
    elim (some_of (learned p)) [
      | inl nil ↦ (let e = gap_none learned p k nil in omega arith)
      | inr is ↦ (let e = gap_some learned p k is.0 is.1 in let r = gap_bounds learned k (suc p) in omega arith)
    ]

gap_full : {X : Type 0} (learned : ℕ → Option X) (k p q : ℕ) → p ≤ q → q < first_gap learned p k → (x : X) × (learned q ≡ Some x)
gap_full learned zero p q low high = absurd (let e = gap_zero learned p in omega arith)
gap_full {X} learned (suc k) p q low high =
    elim (some_of (learned p)) [
      | inl nil ↦ absurd (let e = gap_none learned p k nil in omega arith)
      | inr is ↦ (elim (cases_lt p q) [
        | inl more ↦ gap_full learned k (suc p) q more (let e = gap_some learned p k is.0 is.1 in omega arith)
        | inr less ↦ (let same : p ≡ q = omega arith in (is.0, subst (λ (j : ℕ). learned j ≡ Some is.0) same is.1))
      ])
    ]

pub front_within : {X : Type 0} (learned : ℕ → Option X) → front learned ≤ positions
unfolding front
front_within learned = let b = gap_bounds learned positions 0 in omega arith

pub below_front : {X : Type 0} (learned : ℕ → Option X) (q : ℕ) → q < front learned → (x : X) × (learned q ≡ Some x)
unfolding front
below_front learned q under = gap_full learned positions 0 q (omega arith) under

pub top_none : {C : Type 0} (slots : ℕ → Slot C) (n : ℕ) → (slots n).accepted ≡ None → top_below slots (suc n) ≡ top_below slots n
unfolding top_below
top_none slots n is = rw (is, top_below)

top_some : {C : Type 0} (slots : ℕ → Slot C) (n : ℕ) (x : Proposal C) → (slots n).accepted ≡ Some x → top_below slots (suc n) ≡ suc n
unfolding top_below
top_some slots n x is = rw (is, top_below)

above_top_below : {C : Type 0} (slots : ℕ → Slot C) (n q : ℕ) → top_below slots n ≤ q → q < n → (slots q).accepted ≡ None
above_top_below slots zero q over under = absurd (omega arith)
above_top_below {C} slots (suc n) q over under =
    elim (some_of (slots n).accepted) [
      | inl nil ↦ (elim (cases_lt q n) [
        | inl less ↦ above_top_below slots n q (let e = top_none slots n nil in omega arith) less
        | inr more ↦ (let same : n ≡ q = omega arith in subst (λ (j : ℕ). (slots j).accepted ≡ None) same nil)
      ])
      | inr is ↦ absurd (let e = top_some slots n is.0 is.1 in omega arith)
    ]

pub above_top : {C : Type 0} (slots : ℕ → Slot C) (q : ℕ) → top slots ≤ q → q < positions → (slots q).accepted ≡ None
unfolding top
above_top slots q over under = above_top_below slots positions q over under

gap_at : {X : Type 0} (learned : ℕ → Option X) (k p : ℕ) → first_gap learned p k < p + k → learned (first_gap learned p k) ≡ None
gap_at learned zero p under = absurd (let e = gap_zero learned p in omega arith)
gap_at {X} learned (suc k) p under =
    elim (some_of (learned p)) [
      | inl nil ↦ subst (λ (j : ℕ). learned j ≡ None) (sym (gap_none learned p k nil)) nil
      | inr is ↦ (
          let e = gap_some learned p k is.0 is.1 in
          subst (λ (j : ℕ). learned j ≡ None) (sym e) (gap_at learned k (suc p) (omega arith)))
    ]

pub at_front : {X : Type 0} (learned : ℕ → Option X) → front learned < positions → learned (front learned) ≡ None
unfolding front
at_front learned under = gap_at learned positions 0 (omega arith)

-- below a top above 0 something is accepted
abbrev pub Reached : {C : Type 0} → (ℕ → Slot C) → (n top : ℕ) → Type 0
Reached {C} slots n top = (q : ℕ) × (top ≡ suc q) × (q < n) × (x : Proposal C) × ((slots q).accepted ≡ Some x)

top_below_reached : {C : Type 0} (slots : ℕ → Slot C) (n : ℕ) → 0 < top_below slots n → Reached slots n (top_below slots n)
unfolding top_below
top_below_reached slots zero over = absurd (omega arith)
top_below_reached {C} slots (suc n) over =
    elim (some_of (slots n).accepted) [
      | inl nil ↦ (
          let e = top_none slots n nil in
          let r = top_below_reached slots n (omega arith) in
          (r.0, e ∙ r.1, (let u = r.2 in omega arith), r.3, r.4))
      | inr is ↦ (n, top_some slots n is.0 is.1, omega arith, is.0, is.1)
    ]

pub top_reached : {C : Type 0} (slots : ℕ → Slot C) → 0 < top slots → Reached slots positions (top slots)
unfolding top
top_reached slots over = top_below_reached slots positions over
