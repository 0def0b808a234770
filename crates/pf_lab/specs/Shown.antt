-- How a lab's messages and logs are shown.
use Rattle.std.specs.Prelude.{ℕ, List, [], ◌++◌, ◌/◌, ◌%◌, Option, Some, None, codes, decimal, zero, suc}
use Rattle.px_model.specs.Node.{Log}
use Rattle.px_model.specs.Node as node
use Rattle.px_model.specs.Spelling.{Bytes, spelled, entry_in}
use Rattle.px_wire.specs.Message.{Lent, Message, prepare, promise, accept, vote, nack, need, learned, ask, asked}
use Rattle.px_wire.specs.Message.{ask_refused, prepare_all, promise_all}
use Rattle.pf_scripts.specs.Lines.{line}

abbrev pub kind_word : Message → List ℕ
kind_word (prepare b p) = codes "prepare"
kind_word (promise b p a) = codes "promise"
kind_word (accept b p e) = codes "accept"
kind_word (vote b p e) = codes "vote"
kind_word (nack b p q) = codes "nack"
kind_word (need p) = codes "need"
kind_word (learned p e) = codes "learned"
kind_word (ask e) = codes "ask"
kind_word (asked t n) = codes "asked"
kind_word (ask_refused t c) = codes "askrefused"
kind_word (prepare_all b p) = codes "prepareall"
kind_word (promise_all b p top a) = codes "promiseall"

-- bROUND.NODE
abbrev pub ballot_part : ℕ → List ℕ
ballot_part b = codes " b" ++ decimal (b / 256) ++ codes "." ++ decimal (b % 256)

-- pPOSITION
abbrev pub position_part : ℕ → List ℕ
position_part p = codes " p" ++ decimal p

-- eORIGIN.NUMBER
abbrev pub entry_part : (origin number : ℕ) → List ℕ
entry_part o k = codes " e" ++ decimal o ++ codes "." ++ decimal k

-- a proposal that was accepted, or none
abbrev pub accepted_part : Option (ℕ × Lent) → List ℕ
accepted_part None = codes " none"
accepted_part (Some a) = ballot_part a.0 ++ entry_part a.1.origin a.1.number

-- a message's fields; the last three kinds go between a member and a client, so no lab shows them
abbrev pub message_parts : Message → List ℕ
message_parts (prepare b p) = ballot_part b ++ position_part p
message_parts (promise b p a) = ballot_part b ++ position_part p ++ accepted_part a
message_parts (accept b p e) = ballot_part b ++ position_part p ++ entry_part e.origin e.number
message_parts (vote b p e) = ballot_part b ++ position_part p ++ entry_part e.origin e.number
message_parts (nack b p q) = ballot_part b ++ position_part p ++ ballot_part q
message_parts (need p) = position_part p
message_parts (learned p e) = position_part p ++ entry_part e.origin e.number
message_parts (ask e) = entry_part e.origin e.number
message_parts (asked t n) = []
message_parts (ask_refused t c) = []
message_parts (prepare_all b p) = ballot_part b ++ position_part p
message_parts (promise_all b p top a) = ballot_part b ++ position_part p ++ accepted_part a ++ codes " t" ++ decimal top

-- K KIND FROM>TO and its fields
abbrev pub message_line : (k from to : ℕ) → Message → List ℕ
message_line k from to m =
    line (decimal k ++ codes " " ++ kind_word m ++ codes " " ++ decimal from ++ codes ">" ++ decimal to ++
    message_parts m)

-- POSITION ORIGIN.NUMBER of an entry's spelling
abbrev pub entry_line : ℕ → Option (node.Entry Bytes) → List ℕ
entry_line p None = []
entry_line p (Some e) = line (decimal p ++ codes " " ++ decimal e.origin ++ codes "." ++ decimal e.number)

abbrev pub learned_line : ℕ → Option (node.Entry Bytes) → List ℕ
learned_line p None = []
learned_line p (Some e) = entry_line p (entry_in (spelled e))

-- a line for each position below the given one that is learned, upwards
abbrev pub log_lines : Log Bytes → ℕ → List ℕ
log_lines log zero = []
log_lines log (suc n) = log_lines log n ++ learned_line n (log n)
