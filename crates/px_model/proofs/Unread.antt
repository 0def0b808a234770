-- What a step doesn't read: the slot but for three messages, the top but for one.
use Rattle.std.proofs.Common.{◌≡◌, ℕ, Bool, true, false, refl}
use Rattle.px_model.specs.Node.{Slot, Meta, Log, Volatile, Input}
use Rattle.px_model.specs.Node.Message.{Prepare, Promise, PrepareAll, PromiseAll, Accept, Vote, Nack, Need, Learned, Ask, Asked, AskRefused}
use Rattle.px_model.specs.Node.Input.{Asks, Ticks, Comes}
use Rattle.px_model.specs.Step.{step}

abbrev pub reads_slot : {C : Type 0} → Input C → Bool
reads_slot (Comes from (Prepare b p)) = true
reads_slot (Comes from (PrepareAll b p)) = true
reads_slot (Comes from (Accept b p e)) = true
reads_slot _ = false

abbrev pub reads_top : {C : Type 0} → Input C → Bool
reads_top (Comes from (PrepareAll b p)) = true
reads_top _ = false

module _ {C : Type 0} (same : C → C → Bool) (n me : ℕ) (meta : Meta) (log : Log C) (v : Volatile C) where
  pub top_unread : (slot : Slot C) (t u : ℕ) (input : Input C) → reads_top input ≡ false → step same n me meta slot t log v input ≡ step same n me meta slot u log v input
  unfolding step
  top_unread slot t u (Asks c) is = refl
  top_unread slot t u Ticks is = refl
  top_unread slot t u (Comes from (Prepare b p)) is = refl
  top_unread slot t u (Comes from (Promise b p a)) is = refl
  top_unread slot t u (Comes from (PrepareAll b p)) is = absurd (let c : true ≡ false = is in cc)
  top_unread slot t u (Comes from (PromiseAll b p k a)) is = refl
  top_unread slot t u (Comes from (Accept b p e)) is = refl
  top_unread slot t u (Comes from (Vote b p e)) is = refl
  top_unread slot t u (Comes from (Nack b p q)) is = refl
  top_unread slot t u (Comes from (Need p)) is = refl
  top_unread slot t u (Comes from (Learned p e)) is = refl
  top_unread slot t u (Comes from (Ask k c)) is = refl
  top_unread slot t u (Comes from (Asked k j)) is = refl
  top_unread slot t u (Comes from (AskRefused k j)) is = refl

  pub slot_unread : (s r : Slot C) (t : ℕ) (input : Input C) → reads_slot input ≡ false → step same n me meta s t log v input ≡ step same n me meta r t log v input
  unfolding step
  slot_unread s r t (Asks c) is = refl
  slot_unread s r t Ticks is = refl
  slot_unread s r t (Comes from (Prepare b p)) is = absurd (let c : true ≡ false = is in cc)
  slot_unread s r t (Comes from (Promise b p a)) is = refl
  slot_unread s r t (Comes from (PrepareAll b p)) is = absurd (let c : true ≡ false = is in cc)
  slot_unread s r t (Comes from (PromiseAll b p k a)) is = refl
  slot_unread s r t (Comes from (Accept b p e)) is = absurd (let c : true ≡ false = is in cc)
  slot_unread s r t (Comes from (Vote b p e)) is = refl
  slot_unread s r t (Comes from (Nack b p q)) is = refl
  slot_unread s r t (Comes from (Need p)) is = refl
  slot_unread s r t (Comes from (Learned p e)) is = refl
  slot_unread s r t (Comes from (Ask k c)) is = refl
  slot_unread s r t (Comes from (Asked k j)) is = refl
  slot_unread s r t (Comes from (AskRefused k j)) is = refl
