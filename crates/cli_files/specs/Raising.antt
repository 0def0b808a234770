-- A member's next start, and the file of starts that has it.
use Rattle.std.specs.Prelude.{◌≡◌, ⊤, ℕ, Bool, true, List, Option, Some, None}
use Rattle.std.specs.Prelude.{get_or, slice_set, replicate, length}
use Rattle.px_packet.specs.declared.start.Start.{Start}
use Rattle.cli_files.specs.Next.{next_start}
use Rattle.cli_files.specs.StartsTexts.{starts_text}
use Rattle.cli_files.specs.declared.known.KnownMember.{KnownMember}
use Rattle.cli_files.specs.declared.raise.RaiseFault.{RaiseFault}
use Rattle.cli_files.specs.declared.raise.RaiseFault.TheVariants as fault

-- a member that was never heard
abbrev pub unheard : KnownMember
unheard = record { start = record { number = 0; salt = 0 }; birth = 0 }

-- what the file's text, if there is a file, has of a cluster of that many members; where there is none and one may be
-- made, none of them was heard
abbrev pub AreKnown : (members : ℕ) → (may_be_made : Bool) → Option (List ℕ) → List KnownMember → Type 0
AreKnown members made None known = (made ≡ true) × (known ≡ replicate members unheard)
AreKnown members made (Some text) known = (length known ≡ members) × (text ≡ starts_text known)

-- the last start of a member
abbrev pub start_of : List KnownMember → (me : ℕ) → Start
start_of known me = (get_or known me unheard).start

-- with this start of a member
abbrev pub with_start : List KnownMember → (me : ℕ) → Start → List KnownMember
with_start known me start =
    slice_set known me (record { start = start; birth = (get_or known me unheard).birth })

-- of a place that may have had one of these strings, or none, and may have one of those now: the start is the one after
-- the member's in the text that it had, and in the text that it has it is the member's, with what else there was
-- Source: crates/cli_files/src/lib.rt, The file of starts.
pub record Raises (had has : Option (List ℕ) → Type 0) (members me : ℕ) (may_be_made : Bool) (seconds salt : ℕ)
    (start : Start) : Type 0 where
  pub text : Option (List ℕ)
  pub was : had text
  pub known : List KnownMember
  pub read : AreKnown members may_be_made text known
  pub next : next_start (start_of known me) seconds salt ≡ Some start
  pub written : has (Some (starts_text (with_start known me start)))

-- each number of a start was used: the member's in the text is the last one
pub record IsSpent (had : Option (List ℕ) → Type 0) (members me : ℕ) (may_be_made : Bool) (seconds salt : ℕ) :
    Type 0 where
  pub text : Option (List ℕ)
  pub was : had text
  pub known : List KnownMember
  pub read : AreKnown members may_be_made text known
  pub last : next_start (start_of known me) seconds salt ≡ None

-- the fault comes before anything is written
abbrev pub ComesFirst : RaiseFault → Type 0
ComesFirst fault.Memory = ⊥
ComesFirst fault.Missing = ⊤
ComesFirst fault.Unread = ⊤
ComesFirst fault.Damaged = ⊤
ComesFirst fault.Spent = ⊤
ComesFirst fault.Unwritten = ⊥

-- the fault is that of a read
abbrev pub IsOfRead : RaiseFault → Type 0
IsOfRead fault.Memory = ⊤
IsOfRead fault.Missing = ⊥
IsOfRead fault.Unread = ⊤
IsOfRead fault.Damaged = ⊤
IsOfRead fault.Spent = ⊥
IsOfRead fault.Unwritten = ⊥

-- the fault is that of a write
abbrev pub IsOfWrite : RaiseFault → Type 0
IsOfWrite fault.Memory = ⊤
IsOfWrite fault.Missing = ⊥
IsOfWrite fault.Unread = ⊥
IsOfWrite fault.Damaged = ⊥
IsOfWrite fault.Spent = ⊥
IsOfWrite fault.Unwritten = ⊤
