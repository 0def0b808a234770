-- What a node was asked over connections, and what it answered.
use Rattle.std.specs.Prelude.{◌≡◌, ◌≤◌, ℕ, List, Option, Some, Ok, Err}
use Rattle.std.specs.List.{All}
use Rattle.cli_ask.specs.Asking.{Answered, Event, Asked, Looked, Directed, asked_count}
use Rattle.cli_ask.specs.Calls.{Request}
use Rattle.cli_ask.specs.Replies.{Answer, IsAnswerTo, IsUnanswered}
use Rattle.cli_ask.specs.Showing.{printable}

-- the request was sent over a connection, and this is what was answered to it, as it is printed
abbrev pub IsPrinted : {S : Type 0} → (is_new : S → Type 0) → (contents remaining : S → Option (List ℕ)) → Request →
    Answer → Type 0
IsPrinted is_new contents remaining r a =
    (answered : Answer) × IsAnswerTo is_new contents remaining r answered × (printable answered ≡ Some a)

-- A request had its exchange over a connection, or there is no answer for this reason. An answer that can't be printed
-- is a bad one.
-- Example: where 409 was answered, 200 isn't.
abbrev pub HasExchange : {D S : Type 0} → (is_refused : D → Type 0) → (is_new : S → Type 0) →
    (contents remaining : S → Option (List ℕ)) → Request → Answered → Type 0
HasExchange is_refused is_new contents remaining r (Ok a) = IsPrinted is_new contents remaining r a
HasExchange {D} is_refused is_new contents remaining r (Err f) =
    IsUnanswered is_new contents ((now : D) × is_refused now) r f

-- the same of an event; of the clock, and of where requests are made, nothing is specified
abbrev pub IsExchanged : {D S : Type 0} → (is_refused : D → Type 0) → (is_new : S → Type 0) →
    (contents remaining : S → Option (List ℕ)) → Event → Type 0
IsExchanged is_refused is_new contents remaining (Asked limit r a) =
    HasExchange is_refused is_new contents remaining r a
IsExchanged is_refused is_new contents remaining (Looked limit is_over) = Unit {0}
IsExchanged is_refused is_new contents remaining (Directed path) = Unit {0}

-- Each of the requests among these events had its exchange, and no more connections were asked for than requests were
-- made.
-- Example: a change that was answered with 200 was sent over a connection, every byte of it.
pub record AreExchanged {D S : Type 0} (dialed : D → ℕ → Type 0) (is_refused : D → Type 0) (is_new : S → Type 0)
    (contents remaining : S → Option (List ℕ)) (now : D) (es : List Event) : Type 0 where
  pub count : ℕ
  pub counted : dialed now count
  pub few : count ≤ asked_count es
  pub each : All (IsExchanged is_refused is_new contents remaining) es
