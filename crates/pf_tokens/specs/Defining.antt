-- What a macro statement defines.
use Rattle.std.specs.Prelude.{◌≡◌, ℕ, ◌+◌, ◌==◌, ◌||◌, ◌&&◌, Bool, false, List, []}
use Rattle.std.specs.Prelude.{◌∷◌, ◌++◌, length, Option, Some, None, Result, Ok, Err, is_some, nat_lt, not}
use Rattle.std.specs.Prelude.{if◌then◌else◌}
use Rattle.std.specs.List.{list_any, list_all}
use Rattle.pf_tokens.specs.declared.defining.DefinitionFault.{DefinitionFault}
use Rattle.pf_tokens.specs.declared.defining.DefinitionFault.TheVariants as faults
use Rattle.pf_tokens.specs.declared.macro_text.Macro as macros
use Rattle.pf_tokens.specs.declared.symbol.Symbol.TheVariants.{Equals}
use Rattle.pf_tokens.specs.Tokens.{Token, Word, Quoted, Macro, Mark, Newline, Bad, is_name_byte}
use Rattle.pf_tokens.specs.Macros.{Definition, text_of}
use Rattle.pf_rules.specs.declared.profile.Profile.{Profile}
use Rattle.pf_rules.specs.Words.{is_reserved}
use Rattle.pf_tokens.specs.Defined.{definition_of}
use Rattle.pf_tokens.specs.Productions.{Read, word_at, symbol_at}

-- item = WORD | STRING | MACRO, a macro giving its own text
abbrev pub item_of : List Definition → Token → Option (List ℕ)
item_of ds (Word text) = Some text
item_of ds (Quoted text) = Some text
item_of ds (Macro name) = text_of ds name
item_of ds (Mark symbol) = None
item_of ds Newline = None
item_of ds Bad = None

-- a dollar sign or #
abbrev pub is_refused_byte : ℕ → Bool
is_refused_byte b = b == 36 || b == 35

-- a string that has one of them in its text
abbrev pub is_refused_string : Token → Bool
is_refused_string (Word text) = false
is_refused_string (Quoted text) = list_any is_refused_byte text
is_refused_string (Macro name) = false
is_refused_string (Mark symbol) = false
is_refused_string Newline = false
is_refused_string Bad = false

-- one blank between two items
abbrev pub with_item : Option (List ℕ) → Option (List ℕ) → Option (List ℕ)
with_item begun None = begun
with_item None (Some item) = Some item
with_item (Some text) (Some item) = Some (text ++ 32 ∷ item)

-- the text of the items, behind what has begun; none without items
abbrev pub joined_items : List Definition → Option (List ℕ) → List Token → Option (List ℕ)
joined_items ds begun [] = begun
joined_items ds begun (t ∷ ts) = joined_items ds (with_item begun (item_of ds t)) ts

-- how many bytes the text has, 0 where there is none
abbrev pub text_len : Option (List ℕ) → ℕ
text_len None = 0
text_len (Some text) = length text

-- each of the tokens is an item: a WORD, a STRING, or a macro that is known
abbrev pub are_items : List Definition → List Token → Bool
are_items ds ts = list_all (λ t. is_some (item_of ds t)) ts

-- a value has at most 4,096 bytes
abbrev pub is_too_long : Option (List ℕ) → Bool
is_too_long text = nat_lt 4096 (text_len text)

-- letters, digits and _, and no reserved word
abbrev pub is_macro_name : Profile → List ℕ → Bool
is_macro_name profile name = not (is_reserved profile name) && list_all is_name_byte name

-- the macro of this name with this text; without a value, since there is no item, it isn't spelled as one
abbrev pub spelled : List ℕ → Option (List ℕ) → Result Definition DefinitionFault
spelled name None = Err faults.Syntax
spelled name (Some text) = Ok (record { name = name; text = text })

-- the lower cause comes first
abbrev pub defined_as : Profile → List Definition → List ℕ → List Token → Result Definition DefinitionFault
defined_as profile ds name items =
    if not (is_macro_name profile name) || list_any is_refused_string items || is_too_long (joined_items ds None items)
    then Err faults.Macro
    else (if are_items ds items then spelled name (joined_items ds None items) else Err faults.Syntax)

-- what a statement defines whose WORD was read: `=` has to come next, then the items
abbrev pub behind_name : Profile → List Definition → Read (List ℕ) → Result Definition DefinitionFault
behind_name profile ds None = Err faults.Syntax
behind_name profile ds (Some (name, ts)) =
    let equals = symbol_at Equals ts in if equals.0 then defined_as profile ds name equals.1 else Err faults.Syntax

-- macro = WORD "=" item {item}
-- Example: a = b "c d" $e.
unfoldable pub definition_at : Profile → List Definition → List Token → Result Definition DefinitionFault
definition_at profile ds ts = behind_name profile ds (word_at ts)

-- the definition was read, or its fault; unless out of memory
abbrev pub Defines : Result macros.Macro DefinitionFault → Result Definition DefinitionFault → Type 0
Defines (Ok made) read = read ≡ Ok (definition_of made)
Defines (Err faults.Memory) read = Unit {0}
Defines (Err faults.Macro) read = read ≡ Err faults.Macro
Defines (Err faults.Syntax) read = read ≡ Err faults.Syntax
