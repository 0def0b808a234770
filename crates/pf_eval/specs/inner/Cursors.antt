-- What only code and proofs use beside `Cursors`.
use Rattle.std.specs.Prelude.{◌≡◌, ℕ, Bool, false, not, List, [], ◌∷◌, Option, Some, None, Result, Ok, Err}
use Rattle.pf_eval.specs.declared.cursor.Cursor.{Cursor}
use Rattle.pf_eval.specs.declared.fault.PacketFault.{PacketFault}
use Rattle.pf_eval.specs.declared.fault.PacketFault.TheVariants.{Memory, BadPacket}
use Rattle.pf_eval.specs.declared.cursor.End as code
use Rattle.pf_eval.specs.PacketTexts.{Word, End, is_blank, words}

-- the tokens in a string of which this token, if there is one, and what follows it were cut
abbrev pub cut_words : Option (Word × Word) → List Word
cut_words None = []
cut_words (Some cut) = cut.0 ∷ words cut.1

-- the text begins with a token
abbrev pub begins_plain : List ℕ → Bool
begins_plain [] = false
begins_plain (b ∷ bytes) = not (is_blank b)

abbrev pub left : Cursor → List Word
left c = words c.rest.now

abbrev pub end_of : code.End → End
end_of e = record { addr = e.addr; port = e.port }

-- a value was read, and these tokens are left, or none was
abbrev pub Reads : {X : Type 0} → Option X → List Word → Option (X × List Word) → Type 0
Reads None ws read = read ≡ None
Reads (Some x) ws read = read ≡ Some (x, ws)

-- the same where memory may run out
abbrev pub ReadsAll : {X Y : Type 0} → (X → Y) → Result X PacketFault → List Word →
    Option (Y × List Word) → Type 0
ReadsAll view (Ok x) ws read = read ≡ Some (view x, ws)
ReadsAll view (Err Memory) ws read = Unit {0}
ReadsAll view (Err BadPacket) ws read = read ≡ None
