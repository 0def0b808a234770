-- A request that was answered was sent.
use Rattle.std.proofs.Common.{◌≡◌, ℕ, List, Option, Some, Result, Ok, Err, IfOk, inl, inr, refl}
use Rattle.cli_ask.specs.Asking.{answer_value}
use Rattle.cli_ask.specs.Calls.{Request}
use Rattle.cli_ask.specs.Exchanges.{HasExchange}
use Rattle.cli_ask.specs.Replies.{Answer, IsAnswerTo, IsBegun, IsSent, IsUnanswered, reply_value}
use Rattle.cli_ask.specs.Showing.{printable}
use Rattle.cli_ask.specs.declared.exchange.AskFault.{AskFault}
use Rattle.cli_ask.specs.declared.exchange.AskFault.TheVariants as fault
use Rattle.cli_ask.specs.declared.exchange.Reply.{Reply}

sent_begun : (old new : Option (List ℕ)) (r : Request) (code : ℕ) → IsSent old new r code → IsBegun old new r
sent_begun old new r code (inl whole) = inl whole
sent_begun old new r code (inr front) = inr front.1

-- so an answer that can't be used is a bad one
pub answer_begun : {S : Type 0} (is_new : S → Type 0) (contents remaining : S → Option (List ℕ)) (is_refused : Type 0) (r : Request) (a : Answer) →
    IsAnswerTo is_new contents remaining r a → IsUnanswered is_new contents is_refused r fault.BadAnswer
answer_begun is_new contents remaining is_refused r a (new, sent, is, whole, rest) = (new, sent, is, sent_begun (contents new) (contents sent) r a.code whole)

-- and one that can't be printed
pub exchanged : {D S : Type 0} (is_refused : D → Type 0) (is_new : S → Type 0) (contents remaining : S → Option (List ℕ)) (r : Request) (reply : Reply)
    (result : Result Reply AskFault) → IsAnswerTo is_new contents remaining r (reply_value reply) →
    IfOk result (λ x. printable (reply_value reply) ≡ Some (reply_value x)) → (result ≡ Err fault.NoAnswer → ⊥) →
    HasExchange is_refused is_new contents remaining r (answer_value result)
exchanged is_refused is_new contents remaining r reply (Ok x) a p n = (reply_value reply, a, p)
exchanged is_refused is_new contents remaining r reply (Err fault.Memory) a p n = tt
exchanged is_refused is_new contents remaining r reply (Err fault.NoAnswer) a p n = absurd (n refl)
exchanged {D} is_refused is_new contents remaining r reply (Err fault.BadAnswer) a p n =
    answer_begun is_new contents remaining ((now : D) × is_refused now) r (reply_value reply) a

-- one that has no answer
pub unanswered : {D S : Type 0} (is_refused : D → Type 0) (is_new : S → Type 0) (contents remaining : S → Option (List ℕ)) (r : Request) (now : D) (f : AskFault) →
    IsUnanswered is_new contents (is_refused now) r f → HasExchange is_refused is_new contents remaining r (Err f)
unanswered is_refused is_new contents remaining r now fault.Memory h = tt
unanswered is_refused is_new contents remaining r now fault.NoAnswer h = (now, h)
unanswered is_refused is_new contents remaining r now fault.BadAnswer h = h

-- one whose answer can't be read
pub unread : {S : Type 0} (is_new : S → Type 0) (contents : S → Option (List ℕ)) (is_refused : Type 0) (r : Request) (f : AskFault) → (f ≡ fault.NoAnswer → ⊥) →
    IsUnanswered is_new contents is_refused r fault.BadAnswer → IsUnanswered is_new contents is_refused r f
unread is_new contents is_refused r fault.Memory other h = tt
unread is_new contents is_refused r fault.NoAnswer other h = absurd (other refl)
unread is_new contents is_refused r fault.BadAnswer other h = h
