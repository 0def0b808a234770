-- One read at a control socket.
use Rattle.std.specs.Prelude.{◌≡◌, ◌⊎◌, ℕ, ◌+◌, List, Option, Ok, Err}
use Rattle.cli_ask.specs.Asking.{Answered}
use Rattle.cli_ask.specs.Calls.{get}
use Rattle.cli_ask.specs.Replies.{IsAnswerTo, IsUnanswered}
use Rattle.cli_ask.specs.declared.call.Kind.TheVariants.{Read}

-- What is read under a target in one request: an answer whose status is 200; or why there is none.
abbrev pub IsRead : {S : Type 0} → (is_new : S → Type 0) → (contents remaining : S → Option (List ℕ)) →
    (is_refused : Type 0) → (target : List ℕ) → Answered → Type 0
IsRead is_new contents remaining is_refused target (Ok a) =
    (a.code ≡ 200) × IsAnswerTo is_new contents remaining (get target Read) a
IsRead is_new contents remaining is_refused target (Err f) = IsUnanswered is_new contents is_refused (get target Read) f

-- That is read at the control socket at a path, for which one connection is asked for at most.
pub record ReadAt {D S : Type 0} (is_at : (path : List ℕ) → D → Type 0) (dialed : D → ℕ → Type 0)
    (is_refused : D → Type 0) (is_new : S → Type 0) (contents remaining : S → Option (List ℕ))
    (path target : List ℕ) (answer : Answered) : Type 0 where
  pub before : D
  pub after : D
  pub there : is_at path before
  pub once : (n : ℕ) → dialed before n → dialed after n ⊎ dialed after (n + 1)
  pub read : IsRead is_new contents remaining (is_refused after) target answer
