-- Which requests change something, and with what status the others are refused.
use Rattle.std.specs.Prelude.{◌≡◌, ◌⊎◌, ℕ, ◌==◌, ◌||◌, Bool, List, [], ◌∷◌, Option, Some, None, Ok, codes}
use Rattle.std.specs.List.{before_first, after_first}
use Rattle.clap.specs.Words.{Text}
use Rattle.pf_entry.specs.Entry.{Command, Entry}
use Rattle.pf_entry.specs.Reading.{reading}
use Rattle.pf_scripts.specs.Lines.{words_in}
use Rattle.pf_scripts.specs.WordsRead.{change_in}
use Rattle.node_requests.specs.Answers.{status_of}
use Rattle.node_requests.specs.Queries.{parameters}
use Rattle.node_requests.specs.Routing.{RoutedValue, Asked, Refused, Unread, is_newline}

-- a change as arguments: POST /v1/changes without parameters; it is what pfctl and the arguments in the body's first
-- line ask for, with what follows that line as their text
pub record PostsArguments (method path query body : List ℕ) (command : Command) : Type 0 where
  pub posted : method ≡ codes "POST"
  pub there : path ≡ codes "/v1/changes"
  pub bare : parameters query ≡ []
  pub words : List Text
  pub line : words_in (before_first is_newline body) ≡ Some words
  pub asks : change_in (codes "pfctl" ∷ words) (after_first is_newline body) ≡ Ok command

-- a change as an entry: POST /v1/entry without parameters; the body is read as the entry, whose command it is
pub record PostsEntry (method path query body : List ℕ) (command : Command) : Type 0 where
  pub posted : method ≡ codes "POST"
  pub there : path ≡ codes "/v1/entry"
  pub bare : parameters query ≡ []
  pub entry : Entry
  pub read : reading body ≡ Some entry
  pub asks : entry.command ≡ command

-- a change, in one form or the other
abbrev pub PostsChange : (method path query body : List ℕ) → Command → Type 0
PostsChange method path query body command =
    PostsArguments method path query body command ⊎ PostsEntry method path query body command

-- an end: POST /v1/stop without parameters
pub record PostsStop (method path query : List ℕ) : Type 0 where
  pub posted : method ≡ codes "POST"
  pub there : path ≡ codes "/v1/stop"
  pub bare : parameters query ≡ []

-- HTTP's status of what is no request
abbrev pub refused_with : RoutedValue → Option ℕ
refused_with (Asked r) = None
refused_with (Refused status) = Some status
refused_with (Unread code) = Some (status_of code)

-- 400, 404 another path, 405 another method, 413 a change that is too long
abbrev pub is_of_clients : ℕ → Bool
is_of_clients status = (status == 400) || ((status == 404) || ((status == 405) || (status == 413)))
