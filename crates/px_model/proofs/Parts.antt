-- A step that reads parts that fit sends what fits, whatever else is stored.
use Rattle.std.proofs.Common.{◌≡◌, ℕ, ◌<◌, ◌≤◌, Bool, true, Option, Some, None, arith, refl, subst}
use Rattle.px_model.specs.Node as node
use Rattle.px_model.specs.Node.{Slot, Meta, Log, Record, Change, Volatile, Input, Answer}
use Rattle.px_model.specs.Node.Change.{NewRound, NewNumber, NewFloor, NewPromise, NewAccepted, NewLearned}
use Rattle.px_model.specs.Node.Message.{Prepare, Promise, PrepareAll, PromiseAll, Accept, Vote, Nack, Need, Learned, Asked, AskRefused}
use Rattle.px_model.specs.Node.Input.{Asks, Ticks, Comes}
use Rattle.px_model.specs.Node.Answer.{Refused, Planned}
use Rattle.px_model.specs.Step.{put, positions, commit, front, position_of, step}
use Rattle.px_model.specs.World.{NodeState, nothing_stored}
use Rattle.px_model.specs.Fits.{IsPosition, InputFits, MetaFits, SlotFits, LogFits, VolatileFits, NodeFits, AnswerFits, PartsFit, PartsAnswerFits}
use Rattle.px_model.proofs.Basics.{put_same, put_all}
use Rattle.px_model.proofs.Fits.{step_fits_with}
use Rattle.px_model.proofs.AlwaysFits.{nothing_fits}

-- the slot that is read is that of a position
position_read : {C : Type 0} (S : C → Type 0) (n me : ℕ) (input : Input C) → InputFits S n me input → IsPosition (position_of input)
position_read S n me (Asks c) fits = omega arith
position_read S n me Ticks fits = omega arith
position_read S n me (Comes from (Prepare b p)) fits = fits.message.1
position_read S n me (Comes from (Promise b p a)) fits = omega arith
position_read S n me (Comes from (PrepareAll b p)) fits = fits.message.1
position_read S n me (Comes from (PromiseAll b p t a)) fits = omega arith
position_read S n me (Comes from (Accept b p e)) fits = fits.message.1
position_read S n me (Comes from (Vote b p e)) fits = omega arith
position_read S n me (Comes from (Nack b p q)) fits = omega arith
position_read S n me (Comes from (Need p)) fits = omega arith
position_read S n me (Comes from (Learned p e)) fits = omega arith
position_read S n me (Comes from (node.Message.Ask t c)) fits = omega arith
position_read S n me (Comes from (Asked t k)) fits = omega arith
position_read S n me (Comes from (AskRefused t k)) fits = omega arith

-- a change of numbers and log doesn't hang on the slots
module _ {C : Type 0} (numbers : Meta) (f g : ℕ → Slot C) (log : Log C) where
  abbrev first : Record C
  first = record { meta = numbers; slots = f; learned = log }

  abbrev second : Record C
  second = record { meta = numbers; slots = g; learned = log }

  meta_same : (ch : Option (Change C)) → (commit ch first).meta ≡ (commit ch second).meta
  meta_same None = refl
  meta_same (Some (NewRound r)) = refl
  meta_same (Some (NewNumber k)) = refl
  meta_same (Some (NewFloor b)) = refl
  meta_same (Some (NewPromise p b)) = refl
  meta_same (Some (NewAccepted p b e)) = refl
  meta_same (Some (NewLearned p e)) = refl

  learned_same : (ch : Option (Change C)) → (commit ch first).learned ≡ (commit ch second).learned
  learned_same None = refl
  learned_same (Some (NewRound r)) = refl
  learned_same (Some (NewNumber k)) = refl
  learned_same (Some (NewFloor b)) = refl
  learned_same (Some (NewPromise p b)) = refl
  learned_same (Some (NewAccepted p b e)) = refl
  learned_same (Some (NewLearned p e)) = refl

module _ {C : Type 0} (S : C → Type 0) (n me : ℕ) (numbers : Meta) (slot : Slot C) (t : ℕ) (log : Log C) (v : Volatile C) (g : PartsFit S n me numbers slot t log v) where
  -- a state with this slot alone
  abbrev state : (p : ℕ) → NodeState C
  state p = record { is_up = true; stored = record { meta = numbers; slots = put (nothing_stored {C = C}).slots p slot; learned = log }; volatile = v }

  state_fits : (p : ℕ) → IsPosition p → NodeFits S n me (state p)
  state_fits p at = record {
    stored = record {
      meta = g.meta;
      slots = put_all (λ (q : ℕ) (z : Slot C). SlotFits S n z) (nothing_stored {C = C}).slots p slot g.here (λ q ne. (nothing_fits S n).slots q);
      last = put_all (λ (q : ℕ) (z : Slot C). positions ≤ q → z.accepted ≡ None) (nothing_stored {C = C}).slots p slot (λ over. absurd (omega arith)) (λ q ne over. refl);
      learned = g.learned;
    };
    volatile = g.volatile;
  }

  answer_fits : (p : ℕ) (a : Answer C) → AnswerFits S n me (state p) a → PartsAnswerFits S n me numbers slot log v a
  answer_fits p (Refused code) fits = record { change = fits.change; sends = fits.sends; meta = g.meta; learned = g.learned; volatile = g.volatile }
  answer_fits p (Planned plan) fits =
      let f : ℕ → Slot C = put (nothing_stored {C = C}).slots p slot in
      let m = meta_same numbers f (λ q. slot) log plan.change in
      let l = learned_same numbers f (λ q. slot) log plan.change in
      record {
        change = fits.change;
        sends = fits.sends;
        meta = subst (λ (z : Meta). MetaFits n z) m fits.state.stored.meta;
        learned = subst (λ (z : Log C). LogFits S n z) l fits.state.stored.learned;
        volatile = subst (λ (z : Log C). VolatileFits S n me (front z) plan.volatile) l fits.state.volatile;
      }

  pub parts_fit : n ≤ 15 → me < n → (same : C → C → Bool) (input : Input C) → InputFits S n me input → PartsAnswerFits S n me numbers slot log v (step same n me numbers slot t log v input)
  parts_fit small member same input fits =
      let p = position_of input in
      let at = position_read S n me input fits in
      let whole : AnswerFits S n me (state p) (step same n me numbers (put (nothing_stored {C = C}).slots p slot p) t log v input) = step_fits_with S n small me member (state p) (state_fits p at) same t g.top_within input fits in
      answer_fits p _ (subst (λ (z : Slot C). AnswerFits S n me (state p) (step same n me numbers z t log v input)) (put_same (nothing_stored {C = C}).slots p slot) whole)
