-- The acceptor's cases keep the invariant.
use Rattle.std.proofs.Common.{◌≡◌, ℕ, ◌<◌, ◌≤◌, max, true, inl, List, [], ◌∷◌, Option, Some, None, arith, refl, ap, subst, ltb, leb, ltb-true, leb-true}
use Rattle.std.proofs.lemmas.Bool.{cond_both}
use Rattle.px_model.specs.Node.{Entry, Proposal, Message, Envelope, Input, Plan}
use Rattle.px_model.specs.Node.Change.{NewFloor, NewPromise, NewAccepted}
use Rattle.px_model.specs.Node.Message.{Promise, PromiseAll, Accept, Vote, Nack}
use Rattle.px_model.specs.Step.{promised_at, commit, top, to_all, answered, on_prepare, on_prepare_all, on_accept}
use Rattle.px_model.specs.World.{World, NodeState, moved}
use Rattle.px_model.specs.Law.{HasSent}
use Rattle.px_model.proofs.Basics.{put_same}
use Rattle.px_model.proofs.Backed.{Acceptance, record_of, promised_in, AtMost, Known}
use Rattle.px_model.proofs.Invariant.{IsReal, Inv}
use Rattle.px_model.proofs.Plans.{PlanOk, says_ok, one_sent, all_sent, above_top}

known_from : {C : Type 0} (h : List (Acceptance C)) (m p promised b : ℕ) (a : Option (Proposal C)) → promised < b → IsReal h m p promised a → Known h p b a
known_from h m p promised b None less r = tt
known_from h m p promised b (Some x) less r = (m, (let u = r.1 in omega arith), r.0)

module _ {C : Type 0} (n : ℕ) (w : World C) (h : List (Acceptance C)) (m : ℕ) (input : Input C) (inv : Inv n w h) where
  nack_ok : (from b p q : ℕ) → PlanOk n w h m input (answered None (w.nodes m).volatile m from (Nack b p q))
  nack_ok from b p q = says_ok n w h m input None (w.nodes m).volatile _ (Nack b p q) tt (one_sent m from (Nack b p q)) refl (λ r. refl) tt (inv.volatile m)

  pub prepare_ok : (from b p : ℕ) → PlanOk n w h m input (on_prepare m (record_of w m).meta ((record_of w m).slots p) (w.nodes m).volatile from b p)
  unfolding on_prepare
  prepare_ok from b p =
      let d = record_of w m in
      let slot = d.slots p in
      cond_both (ltb (promised_at d.meta slot) b) _ _ (λ (z : Plan C). PlanOk n w h m input z)
      (λ t. says_ok n w h m input (Some (NewPromise p b)) (w.nodes m).volatile _ (Promise b p slot.accepted)
      (let u = ltb-true (promised_at d.meta slot) b t in omega arith)
      (one_sent m from (Promise b p slot.accepted)) refl (λ q. refl) tt (inv.volatile m))
      (λ f. nack_ok from b p (promised_at d.meta slot))

  pub prepare_all_ok : (from b p : ℕ) → PlanOk n w h m input (on_prepare_all m (record_of w m).meta ((record_of w m).slots p) (top (record_of w m).slots) (w.nodes m).volatile from b p)
  unfolding on_prepare_all
  prepare_all_ok from b p =
      let d = record_of w m in
      let slot = d.slots p in
      let v = (w.nodes m).volatile in
      let said : Message C = PromiseAll b p (top d.slots) slot.accepted in
      let sends : List (Envelope C) = record { sender = m; addressee = from; message = said } ∷ [] in
      let w' = moved w m input (Some (NewFloor b)) true v sends in
      let node : NodeState C = record { is_up = true; stored = commit (Some (NewFloor b)) d; volatile = v } in
      let closed : (q : ℕ) → b ≤ promised_in w' m q = λ q.
      let e : promised_in w' m q ≡ max b (d.slots q).promised = ap (λ (z : NodeState C). promised_at z.stored.meta (z.stored.slots q)) (put_same w.nodes m node) in
      omega arith in
      cond_both (ltb (promised_at d.meta slot) b) _ _ (λ (z : Plan C). PlanOk n w h m input z)
      (λ t.
      let less : promised_at d.meta slot < b = ltb-true (promised_at d.meta slot) b t in
      says_ok n w h m input (Some (NewFloor b)) v sends said (omega arith) (one_sent m from said) refl (λ q. refl) (
        record {
          here = record { closed = closed p; bounds = λ c e a under. ((inv.stored m).slots p).highest c e a };
          above = λ q over under. record {
            closed = closed q;
            bounds = λ c e a below. subst (λ (o : Option (Proposal C)). AtMost o c) (above_top d.slots q over under) (((inv.stored m).slots q).highest c e a);
          };
        },
        known_from h m p slot.promised b slot.accepted (omega arith) ((inv.stored m).slots p).real,
      )
      (inv.volatile m))
      (λ f. nack_ok from b p (promised_at d.meta slot))

  pub accept_ok : (from b p : ℕ) (e : Entry C) → HasSent w from (Accept b p e) → PlanOk n w h m input (on_accept n m (record_of w m).meta ((record_of w m).slots p) (w.nodes m).volatile from b p e)
  unfolding on_accept
  accept_ok from b p e s =
      let d = record_of w m in
      let slot = d.slots p in
      cond_both (leb (promised_at d.meta slot) b) _ _ (λ (z : Plan C). PlanOk n w h m input z)
      (λ t. says_ok n w h m input (Some (NewAccepted p b e)) (w.nodes m).volatile (to_all n m (Vote b p e)) (Vote b p e)
      (leb-true (promised_at d.meta slot) b t, (from, s))
      (all_sent n m (Vote b p e)) refl (λ q. refl) (inl refl) (inv.volatile m))
      (λ f. nack_ok from b p (promised_at d.meta slot))
