-- What a step reads is enough to make it.
use Rattle.std.proofs.Common.{◌≡◌, ℕ, Bool, false, refl, ap, ◌∙◌}
use Rattle.px_model.specs.Node.{Slot, Input}
use Rattle.px_model.specs.Node.Message.{Prepare, Promise, PrepareAll, PromiseAll, Accept, Vote, Nack, Need, Learned, Ask, Asked, AskRefused}
use Rattle.px_model.specs.Node.Input.{Asks, Ticks, Comes}
use Rattle.px_model.specs.Step.{top, position_of, step}
use Rattle.px_model.specs.World.{NodeState, step_of}
use Rattle.px_model.specs.Spelling.{Bytes}
use Rattle.px_model.specs.Seen.{ReadsSuffice, IsRead, reads_of}
use Rattle.px_model.proofs.Unread.{reads_slot, reads_top, slot_unread, top_unread}

module _ (same : Bytes → Bytes → Bool) (n me : ℕ) (s : NodeState Bytes) where
  -- where neither is read
  neither : (slot : Slot Bytes) (t : ℕ) (input : Input Bytes) → reads_slot input ≡ false → reads_top input ≡ false → step same n me s.stored.meta slot t s.stored.learned s.volatile input ≡ step_of same n me s input
  neither slot t input a b =
      slot_unread same n me s.stored.meta s.stored.learned s.volatile slot (s.stored.slots (position_of input)) t input a ∙
      top_unread same n me s.stored.meta s.stored.learned s.volatile (s.stored.slots (position_of input)) t (top s.stored.slots) input b

  -- where the slot alone is read
  slot_alone : (slot : Slot Bytes) (t : ℕ) (input : Input Bytes) → slot ≡ s.stored.slots (position_of input) → reads_top input ≡ false → step same n me s.stored.meta slot t s.stored.learned s.volatile input ≡ step_of same n me s input
  slot_alone slot t input a b =
      ap (λ (r : Slot Bytes). step same n me s.stored.meta r t s.stored.learned s.volatile input) a ∙
      top_unread same n me s.stored.meta s.stored.learned s.volatile (s.stored.slots (position_of input)) t (top s.stored.slots) input b

  enough : (input : Input Bytes) (slot : Slot Bytes) (t : ℕ) → IsRead (reads_of input) s.stored slot t → step same n me s.stored.meta slot t s.stored.learned s.volatile input ≡ step_of same n me s input
  enough (Asks c) slot t is = neither slot t (Asks c) refl refl
  enough Ticks slot t is = neither slot t Ticks refl refl
  enough (Comes from (Prepare b p)) slot t is = slot_alone slot t (Comes from (Prepare b p)) is refl
  enough (Comes from (Promise b p a)) slot t is = neither slot t (Comes from (Promise b p a)) refl refl
  enough (Comes from (PrepareAll b p)) slot t is =
      ap (λ (r : Slot Bytes). step same n me s.stored.meta r t s.stored.learned s.volatile (Comes from (PrepareAll b p))) is.0 ∙
      ap (λ (k : ℕ). step same n me s.stored.meta (s.stored.slots p) k s.stored.learned s.volatile (Comes from (PrepareAll b p))) is.1
  enough (Comes from (PromiseAll b p k a)) slot t is = neither slot t (Comes from (PromiseAll b p k a)) refl refl
  enough (Comes from (Accept b p e)) slot t is = slot_alone slot t (Comes from (Accept b p e)) is refl
  enough (Comes from (Vote b p e)) slot t is = neither slot t (Comes from (Vote b p e)) refl refl
  enough (Comes from (Nack b p q)) slot t is = neither slot t (Comes from (Nack b p q)) refl refl
  enough (Comes from (Need p)) slot t is = neither slot t (Comes from (Need p)) refl refl
  enough (Comes from (Learned p e)) slot t is = neither slot t (Comes from (Learned p e)) refl refl
  enough (Comes from (Ask k c)) slot t is = neither slot t (Comes from (Ask k c)) refl refl
  enough (Comes from (Asked k j)) slot t is = neither slot t (Comes from (Asked k j)) refl refl
  enough (Comes from (AskRefused k j)) slot t is = neither slot t (Comes from (AskRefused k j)) refl refl

pub reads_suffice : ReadsSuffice
reads_suffice same n me s input slot t is = enough same n me s input slot t is
