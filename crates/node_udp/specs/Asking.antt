-- A command asked of a node from outside.
use Rattle.std.specs.Prelude.{◌≡◌, ◌⊎◌, ℕ, zero, suc, ◌==◌, List, ◌++◌, Option, Some, None, if◌then◌else◌}
use Rattle.pf_entry.specs.declared.command.Command.{Command}
use Rattle.pf_entry.specs.Entry as entries
use Rattle.pf_entry.specs.Entry.{spelling}
use Rattle.pf_entry.specs.Owned.{command_value}
use Rattle.px_wire.specs.Message.{Group, Lent, Message, DatagramBytes}
use Rattle.px_wire.specs.Message.{ask, asked, ask_refused}
use Rattle.px_transport.specs.Wires.{WireEvent, gives}
use Rattle.node_udp.specs.declared.answer.AskAnswer.{AskAnswer}
use Rattle.node_udp.specs.declared.answer.AskAnswer.TheVariants.{Asked, Refused, NoAnswer}

-- ---- what is sent

-- the command, with the token 1 of one who is no member
abbrev pub asked_entry : Command → entries.Entry
asked_entry c = record { origin = 255; number = 1; command = command_value c }

-- the entry that stands for a command asked from outside, of number 1, with the bytes that spell it
abbrev pub lent_ask : Command → Lent
lent_ask c = record { origin = 255; number = 1; bytes = spelling (asked_entry c) }

-- the bytes spell an Ask of the command for the node
abbrev pub IsAsk : Group → (node : ℕ) → Command → List ℕ → Type 0
IsAsk g node c bytes = DatagramBytes g 255 node (ask (lent_ask c)) bytes

-- ---- what is answered

-- what a message answers to the token 1
abbrev pub ask_answer : Message → Option AskAnswer
ask_answer (asked t k) = if t == 1 then Some (Asked k) else None
ask_answer (ask_refused t c) = if t == 1 then Some (Refused c) else None
ask_answer other = None

-- the bytes spell a message of the node to one who is no member, and that is the answer
abbrev pub IsAnswer : Group → (node : ℕ) → List ℕ → AskAnswer → Type 0
IsAnswer g node bytes a = (x : Message) × DatagramBytes g node 255 x bytes × (ask_answer x ≡ Some a)

-- nothing came, or something else
abbrev pub IsPassedOver : Group → (node : ℕ) → Option (List ℕ) → Type 0
IsPassedOver g node None = Unit {0}
IsPassedOver g node (Some bytes) = (a : AskAnswer) → IsAnswer g node bytes a → ⊥

-- this came, and is the answer
abbrev pub IsTheAnswer : Group → (node : ℕ) → Option (List ℕ) → AskAnswer → Type 0
IsTheAnswer g node None a = ⊥
IsTheAnswer g node (Some bytes) a = IsAnswer g node bytes a

-- the answer that this is, or none
abbrev pub Answers : Group → (node : ℕ) → Option (List ℕ) → Option AskAnswer → Type 0
Answers g node came None = IsPassedOver g node came
Answers g node came (Some a) = IsTheAnswer g node came a

-- one wait, of what went over the wire before it and after it: the answer, or none
abbrev pub Hears : Group → (node : ℕ) → (es : List WireEvent) → Option AskAnswer → (es' : List WireEvent) → Type 0
Hears g node es r es' = (came : Option (List ℕ)) × (es' ≡ es ++ gives came) × Answers g node came r

-- at most n waits: the first answer ends them
unfoldable pub Listens : Group → (node waits : ℕ) → (es : List WireEvent) → AskAnswer → (es' : List WireEvent) → Type 0
Listens g node zero es a es' = (a ≡ NoAnswer) × (es' ≡ es)
Listens g node (suc n) es a es' =
    Hears g node es (Some a) es'
    ⊎ ((next : List WireEvent) × Hears g node es None next × Listens g node n next a es')
