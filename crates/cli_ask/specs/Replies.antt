-- What is sent to a node, and what it answers, as HTTP has them.
use Rattle.std.specs.Prelude.{◌≡◌, ◌⊎◌, ℕ, ◌≤◌, Bool, true, false, ◌==◌, List, [], ◌∷◌, ◌++◌, length, map}
use Rattle.std.specs.Prelude.{Option, Some, None, IfSome}
use Rattle.std.specs.Prelude.{codes, decimal, option_and_then, if◌then◌else◌}
use Rattle.std.specs.Io.KnownBytes.{Appends}
use Rattle.std.specs.Str.{is_utf8, str_eq_ignore_ascii_case}
use Rattle.httparse.specs.Grammar.{ReadsResponse, ResponseHead, status_code}
use Rattle.httparse.specs.Spans.{name_and_value}
use Rattle.cli_io.specs.Numbers.{number_of}
use Rattle.cli_io.specs.Written.{AppendsFront}
use Rattle.cli_ask.specs.Calls.{Request}
use Rattle.cli_ask.specs.declared.exchange.AskFault.{AskFault}
use Rattle.cli_ask.specs.declared.exchange.AskFault.TheVariants as fault
use Rattle.cli_ask.specs.declared.exchange.Reply.{Reply}

-- a request's head, with the body's length (RFC 9112)
abbrev pub request_head : (method target : List ℕ) → (len : ℕ) → List ℕ
request_head method target len = method ++ codes " " ++ target
    ++ codes " HTTP/1.1\r\nhost: pfx\r\nconnection: close\r\ncontent-length: " ++ decimal len ++ codes "\r\n\r\n"

abbrev pub request_bytes : Request → List ℕ
request_bytes r = request_head r.method r.target (length r.body) ++ r.body

-- ---- fields

-- bytes as text, none where they aren't UTF-8
abbrev pub text_of : List ℕ → Option (List ℕ)
text_of bytes = if is_utf8 bytes then Some bytes else None

abbrev pub number : List ℕ → Option ℕ
number bytes = option_and_then number_of (text_of bytes)

-- a field's name and value
abbrev pub Named : Type 0
Named = List ℕ × List ℕ

-- the value of the first field of this name, whatever the case of its letters
abbrev pub field_in : (name : List ℕ) → List Named → Option (List ℕ)
field_in name [] = None
field_in name (f ∷ fs) =
    if str_eq_ignore_ascii_case f.0 name then Some f.1 else field_in name fs

-- the number in the first field of this name
abbrev pub number_in : (name : List ℕ) → List Named → Option ℕ
number_in name fields = option_and_then number (field_in name fields)

abbrev pub is_number : ℕ → Option ℕ → Bool
is_number n None = false
is_number n (Some m) = m == n

-- the length that the header fields give, if they give one
abbrev pub is_length : ℕ → Option (List ℕ) → Bool
is_length n None = true
is_length n (Some text) = is_number n (number text)

abbrev pub has_length : ℕ → List Named → Bool
has_length n fields = is_length n (field_in (codes "content-length") fields)

-- ---- answers

-- an answer: the status, the body, how many positions the node knows the commands of, and how many it has applied
pub record Answer : Type 0 where
  pub code : ℕ
  pub body : List ℕ
  pub front : Option ℕ
  pub applied : Option ℕ

-- the code's
abbrev pub reply_value : Reply → Answer
reply_value r = record { code = r.code; body = r.body.items; front = r.front; applied = r.applied }

abbrev pub fields_of : ResponseHead → List Named
fields_of head = map name_and_value head.fields

-- what a head and a body answer
abbrev pub answer_of : (code : ℕ) → List Named → (body : List ℕ) → Answer
answer_of code fields body = record {
  code = code;
  body = body;
  front = number_in (codes "pfx-front") fields;
  applied = number_in (codes "pfx-applied") fields;
}

-- the bytes are a head, and a body that is as long as its head gives (RFC 9112, 6.3)
-- Example: with content-length: 3 and the body ab they are none.
pub record IsAnswer (bytes : List ℕ) (a : Answer) : Type 0 where
  pub head : ResponseHead
  pub reads : ReadsResponse bytes head a.body
  pub whole : has_length (length a.body) (fields_of head) ≡ true
  pub is : a ≡ answer_of (status_code head) (fields_of head) a.body

-- the bytes of a request were written by the time of its answer; of one that is refused perhaps a front of them
-- Example: where nothing was written, status 200 is no answer.
abbrev pub IsSent : (old new : Option (List ℕ)) → Request → (code : ℕ) → Type 0
IsSent old new r code =
    Appends old new (request_bytes r) ⊎ ((300 ≤ code) × AppendsFront old new (request_bytes r))

-- This is answered to a request: that was sent over a new connection, and all that was left to read of it then is the
-- answer.
abbrev pub IsAnswerTo : {S : Type 0} → (is_new : S → Type 0) → (contents remaining : S → Option (List ℕ)) → Request →
    Answer → Type 0
IsAnswerTo {S} is_new contents remaining r a =
    (new : S) × (sent : S) × is_new new × IsSent (contents new) (contents sent) r a.code
    × IfSome (remaining sent) (λ bytes. IsAnswer bytes a)

-- the bytes of a request were written, or a front of them, and nothing else
abbrev pub IsBegun : (old new : Option (List ℕ)) → Request → Type 0
IsBegun old new r = Appends old new (request_bytes r) ⊎ AppendsFront old new (request_bytes r)

-- Why a request has no answer: the connection for it wasn't made; or one was, over which it was sent and nothing else,
-- and nothing came that answers it; or it was out of memory.
abbrev pub IsUnanswered : {S : Type 0} → (is_new : S → Type 0) → (contents : S → Option (List ℕ)) →
    (is_refused : Type 0) → Request → AskFault → Type 0
IsUnanswered is_new contents is_refused r fault.Memory = Unit {0}
IsUnanswered is_new contents is_refused r fault.NoAnswer = is_refused
IsUnanswered {S} is_new contents is_refused r fault.BadAnswer =
    (new : S) × (sent : S) × is_new new × IsBegun (contents new) (contents sent) r

-- they are none: no head, or one of more than 64 fields, or a body that isn't as long as its head gives
abbrev pub IsNoAnswer : List ℕ → Type 0
IsNoAnswer bytes = (head : ResponseHead) → (body : List ℕ) → ReadsResponse bytes head body →
    length head.fields ≤ 64 → has_length (length body) (fields_of head) ≡ false
