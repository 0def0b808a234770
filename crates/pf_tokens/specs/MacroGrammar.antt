-- Macro statements as the grammar spells them, and the faults of those that define nothing (pf.conf(5), MACROS). It
-- knows nothing of how a statement is read.
use Rattle.std.specs.Prelude.{◌≡◌, ◌<◌, ◌≤◌, ℕ, true, false, List, [], ◌∷◌, ◌++◌}
use Rattle.std.specs.Prelude.{length}
use Rattle.pf_tokens.specs.declared.symbol.Symbol.TheVariants.{Equals}
use Rattle.pf_tokens.specs.Tokens.{Token, Word, Quoted, Macro, Mark, is_name_byte}
use Rattle.pf_tokens.specs.Macros.{Definition}
use Rattle.pf_rules.specs.declared.profile.Profile.{Profile}
use Rattle.pf_rules.specs.Words.{is_reserved}

-- it is among these
pub data IsAmong {X : Type 0} (x : X) : List X → Type 0 where
  Here : (xs : List X) → IsAmong x (x ∷ xs)
  There : (y : X) (xs : List X) → IsAmong x xs → IsAmong x (y ∷ xs)

-- ---- what the grammar spells

-- the macro has this text: of the definitions of its name the last one counts
pub data HasText (name text : List ℕ) : List Definition → Type 0 where
  LastOne : (ds : List Definition) → ((d : Definition) → IsAmong d ds → d.name ≡ name → ⊥) →
      HasText name text (record { name = name; text = text } ∷ ds)
  Later : (d : Definition) (ds : List Definition) → HasText name text ds → HasText name text (d ∷ ds)

-- item = WORD | STRING | MACRO   with its text, a macro's being its own
pub data IsItem (ds : List Definition) : Token → List ℕ → Type 0 where
  WordItem : (text : List ℕ) → IsItem ds (Word text) text
  StringItem : (text : List ℕ) → IsItem ds (Quoted text) text
  MacroItem : (name text : List ℕ) → HasText name text ds → IsItem ds (Macro name) text

-- item {item}   with their values, joined by one blank
pub data AreItems (ds : List Definition) : List Token → List ℕ → Type 0 where
  OneItem : (t : Token) (text : List ℕ) → IsItem ds t text → AreItems ds (t ∷ []) text
  MoreItems : (t : Token) (ts : List Token) (text others : List ℕ) → IsItem ds t text → AreItems ds ts others →
      AreItems ds (t ∷ ts) (text ++ 32 ∷ others)

-- macro = WORD "=" item {item}
pub data IsMacro (ds : List Definition) : List Token → Definition → Type 0 where
  Spelled : (name text : List ℕ) (items : List Token) → AreItems ds items text →
      IsMacro ds (Word name ∷ Mark Equals ∷ items) (record { name = name; text = text })

-- ---- what it defines

-- a dollar sign, and #
pub data IsRefusedByte : ℕ → Type 0 where
  Dollar : IsRefusedByte 36
  Hash : IsRefusedByte 35

-- a string that has one of them in its text
pub data IsRefusedString : Token → Type 0 where
  Refused : (text : List ℕ) (b : ℕ) → IsRefusedByte b → IsAmong b text → IsRefusedString (Quoted text)

-- A macro statement that defines a macro: its name is no reserved word and has letters, digits and _ alone, no string
-- has a dollar sign or #, and the text has at most 4,096 bytes.
-- Example: a = b "c" defines a as b c.
pub record IsDefinition (profile : Profile) (ds : List Definition) (tokens : List Token) (made : Definition) : Type
    0 where
  pub spelled : IsMacro ds tokens made
  pub free : is_reserved profile made.name ≡ false
  pub name : (b : ℕ) → IsAmong b made.name → is_name_byte b ≡ true
  pub strings : (t : Token) → IsAmong t tokens → IsRefusedString t → ⊥
  pub short : length made.text ≤ 4096

-- ---- the faults of one that defines none

-- the items among the tokens, other tokens being passed over
pub data HasItems (ds : List Definition) : List Token → List Token → Type 0 where
  NoToken : HasItems ds [] []
  TheItem : (t : Token) (ts items : List Token) (text : List ℕ) → IsItem ds t text → HasItems ds ts items →
      HasItems ds (t ∷ ts) (t ∷ items)
  NoItem : (t : Token) (ts items : List Token) → ((text : List ℕ) → IsItem ds t text → ⊥) →
      HasItems ds ts items → HasItems ds (t ∷ ts) items

-- WORD "=" and any tokens, where the name is reserved or has another byte than letters, digits and _, a string has a
-- dollar sign or #, or the text of the items that there are has more than 4,096 bytes
pub data HasMacroFault (profile : Profile) (ds : List Definition) : List Token → Type 0 where
  ReservedName : (name : List ℕ) (ts : List Token) → is_reserved profile name ≡ true →
      HasMacroFault profile ds (Word name ∷ Mark Equals ∷ ts)
  OtherByte : (name : List ℕ) (ts : List Token) (b : ℕ) → IsAmong b name → is_name_byte b ≡ false →
      HasMacroFault profile ds (Word name ∷ Mark Equals ∷ ts)
  BadString : (name : List ℕ) (ts : List Token) (t : Token) → IsAmong t ts → IsRefusedString t →
      HasMacroFault profile ds (Word name ∷ Mark Equals ∷ ts)
  LongText : (name : List ℕ) (ts items : List Token) (text : List ℕ) → HasItems ds ts items →
      AreItems ds items text → 4096 < length text → HasMacroFault profile ds (Word name ∷ Mark Equals ∷ ts)

-- not spelled as a macro, and without those faults
-- Example: a = "#" { is refused with 11.
pub record HasSyntaxFault (profile : Profile) (ds : List Definition) (tokens : List Token) : Type 0 where
  pub no_macro : (made : Definition) → IsMacro ds tokens made → ⊥
  pub no_lower : HasMacroFault profile ds tokens → ⊥

-- in each profile, of any macros before and any tokens
abbrev pub AllRead : (Profile → List Definition → List Token → Type 0) → Type 0
AllRead Holds = (profile : Profile) (ds : List Definition) (ts : List Token) → Holds profile ds ts
