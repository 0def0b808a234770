-- A macro statement is read exactly as the grammar spells it.
use Rattle.std.proofs.Common.{◌≡◌, ◌↔◌, ℕ, ◌<◌, ◌≤◌, ◌==◌, ◌||◌, ◌&&◌, Bool, true, false, cond, List, [], ◌∷◌, ◌++◌, length, Option, Some, None, Ok, Err, refl, sym, ap, ◌∙◌, arith, append_assoc, eqb-true}
use Rattle.std.specs.Prelude.{Result, bytes_eq, is_some, nat_lt, not}
use Rattle.std.specs.List.{list_all, list_any}
use Rattle.std.proofs.lemmas.Bool.{false≢true, and_parts, and_from, or_left, or_right}
use Rattle.std.proofs.lemmas.Bool.Decides.{nat_tests}
use Rattle.std.proofs.lemmas.Slice.Eq.{bytes_eq-Decides}
use Rattle.pf_tokens.specs.declared.defining.DefinitionFault.{DefinitionFault}
use Rattle.pf_tokens.specs.declared.defining.DefinitionFault.TheVariants as faults
use Rattle.pf_tokens.specs.declared.symbol.Symbol.TheVariants.{Equals}
use Rattle.pf_tokens.specs.Tokens.{Token, Word, Quoted, Macro, Mark, Newline, Bad, is_name_byte}
use Rattle.pf_tokens.specs.Macros.{Definition, or_else, text_of}
use Rattle.pf_tokens.specs.Productions.{symbol_at}
use Rattle.pf_tokens.specs.inner.Shorter.{some, some_is}
use Rattle.pf_tokens.specs.Defining.{item_of, is_refused_byte, is_refused_string, with_item, joined_items, text_len, are_items, is_too_long, spelled, defined_as, definition_at}
use Rattle.pf_rules.specs.declared.profile.Profile.{Profile}
use Rattle.pf_rules.specs.Words.{is_reserved}
use Rattle.pf_tokens.specs.MacroGrammar.{IsAmong, Here, There, HasText, LastOne, Later, IsItem, WordItem, StringItem, MacroItem, AreItems, OneItem, MoreItems, IsMacro, Spelled, IsRefusedByte, Dollar, Hash, IsRefusedString, Refused, IsDefinition, HasItems, NoToken, TheItem, NoItem, HasMacroFault, ReservedName, OtherByte, BadString, LongText, HasSyntaxFault}

-- ---- what stands among others

record Passing {X : Type 0} (p : X → Bool) (want : Bool) (xs : List X) : Type 0 where
  one : X
  among : IsAmong one xs
  answer : p one ≡ want

any_there : {X : Type 0} (p : X → Bool) (xs : List X) → list_any p xs ≡ true → Passing p true xs
any_there p [] e = absurd (false≢true e)
any_there {X} p (x ∷ xs) e = cases (p x) refl e (any_there p xs)
  where
    cases : (b : Bool) → p x ≡ b → (b || list_any p xs) ≡ true → (list_any p xs ≡ true → Passing p true xs) → Passing p true (x ∷ xs)
    cases true is e more = record { one = x; among = Here xs; answer = is }
    cases false is e more = let m = more e in record { one = m.one; among = There x xs m.among; answer = m.answer }

not_all : {X : Type 0} (p : X → Bool) (xs : List X) → list_all p xs ≡ false → Passing p false xs
not_all p [] e = absurd (false≢true (sym e))
not_all {X} p (x ∷ xs) e = cases (p x) refl e (not_all p xs)
  where
    cases : (b : Bool) → p x ≡ b → (b && list_all p xs) ≡ false → (list_all p xs ≡ false → Passing p false xs) → Passing p false (x ∷ xs)
    cases false is e more = record { one = x; among = Here xs; answer = is }
    cases true is e more = let m = more e in record { one = m.one; among = There x xs m.among; answer = m.answer }

there_any : {X : Type 0} (p : X → Bool) (x : X) (xs : List X) → IsAmong x xs → p x ≡ true → list_any p xs ≡ true
there_any p x _ (Here xs) e = or_left (p x) (list_any p xs) e
there_any p x _ (There y xs among) e = or_right (p y) (list_any p xs) (there_any p x xs among e)

all_there : {X : Type 0} (p : X → Bool) (x : X) (xs : List X) → IsAmong x xs → list_all p xs ≡ true → p x ≡ true
all_there p x _ (Here xs) e = (and_parts (p x) (list_all p xs) e).0
all_there p x _ (There y xs among) e = all_there p x xs among (and_parts (p y) (list_all p xs) e).1

-- ---- the text of a macro

-- a name without a value is no definition's
no_text : (name : List ℕ) (d : Definition) (ds : List Definition) → IsAmong d ds → text_of ds name ≡ None → d.name ≡ name → ⊥
no_text name d _ (Here ds) e same = cases (text_of ds name) (bytes_eq d.name name) ((bytes_eq-Decides d.name name).1 same) e
  where
    cases : (o : Option (List ℕ)) (b : Bool) → b ≡ true → or_else o (cond b (Some d.text) None) ≡ None → ⊥
    cases (Some text) b is e = cc
    cases None true is e = cc
    cases None false is e = false≢true is
no_text name d _ (There other ds among) e same = no_text name d ds among (first (text_of ds name) e) same
  where
    first : (o : Option (List ℕ)) → or_else o (cond (bytes_eq other.name name) (Some other.text) None) ≡ None → o ≡ None
    first (Some text) e = absurd cc
    first None e = refl

last_is : (d : Definition) (ds : List Definition) (name text : List ℕ) → d.name ≡ name → d.text ≡ text → ((other : Definition) → IsAmong other ds → other.name ≡ name → ⊥) → HasText name text (d ∷ ds)
last_is d ds name text e f none = rw (sym e, sym f) (LastOne ds (λ other among same. none other among (same ∙ e)))

text_is : (ds : List Definition) (name text : List ℕ) → text_of ds name ≡ Some text → HasText name text ds
text_is [] name text e = absurd cc
text_is (d ∷ ds) name text e = cases (text_of ds name) (bytes_eq d.name name) refl refl e (text_is ds name text)
  where
    cases : (o : Option (List ℕ)) (b : Bool) → text_of ds name ≡ o → bytes_eq d.name name ≡ b → or_else o (cond b (Some d.text) None) ≡ Some text → (text_of ds name ≡ Some text → HasText name text ds) → HasText name text (d ∷ ds)
    cases (Some found) b is same e more = Later d ds (more (is ∙ e))
    cases None true is same e more = last_is d ds name text ((bytes_eq-Decides d.name name).0 same) (some_is d.text text e) (λ other among same. no_text name other ds among is same)
    cases None false is same e more = absurd cc

-- a macro with a value is defined
record Defined (name : List ℕ) (ds : List Definition) : Type 0 where
  one : Definition
  among : IsAmong one ds
  named : one.name ≡ name

defined_there : (name text : List ℕ) (ds : List Definition) → HasText name text ds → Defined name ds
defined_there name text _ (LastOne ds none) = record { one = record { name = name; text = text }; among = Here ds; named = refl }
defined_there name text _ (Later d ds has) = let one = defined_there name text ds has in record { one = one.one; among = There d ds one.among; named = one.named }

is_text : (name text : List ℕ) (ds : List Definition) → HasText name text ds → text_of ds name ≡ Some text
is_text name text _ (LastOne ds none) = cases (text_of ds name) (bytes_eq name name) refl ((bytes_eq-Decides name name).1 refl)
  where
    cases : (o : Option (List ℕ)) (b : Bool) → text_of ds name ≡ o → b ≡ true → or_else o (cond b (Some text) None) ≡ Some text
    cases (Some found) b is same = let one = defined_there name found ds (text_is ds name found is) in absurd (none one.one one.among one.named)
    cases None true is same = refl
    cases None false is same = absurd (false≢true same)
is_text name text _ (Later d ds has) = ap (λ (o : Option (List ℕ)). or_else o (cond (bytes_eq d.name name) (Some d.text) None)) (is_text name text ds has)

-- ---- items

item_is : (ds : List Definition) (t : Token) (text : List ℕ) → item_of ds t ≡ Some text → IsItem ds t text
item_is ds (Word word) text e = rw (sym (some_is word text e)) (WordItem word)
item_is ds (Quoted word) text e = rw (sym (some_is word text e)) (StringItem word)
item_is ds (Macro name) text e = MacroItem name text (text_is ds name text e)
item_is ds (Mark symbol) text e = absurd cc
item_is ds Newline text e = absurd cc
item_is ds Bad text e = absurd cc

is_item : (ds : List Definition) (t : Token) (text : List ℕ) → IsItem ds t text → item_of ds t ≡ Some text
is_item ds _ _ (WordItem text) = refl
is_item ds _ _ (StringItem text) = refl
is_item ds _ _ (MacroItem name text has) = is_text name text ds has

no_item : (ds : List Definition) (t : Token) → item_of ds t ≡ None → (text : List ℕ) → IsItem ds t text → ⊥
no_item ds t none text item = let e = sym none ∙ is_item ds t text item in cc

none_is : (ds : List Definition) (t : Token) → ((text : List ℕ) → IsItem ds t text → ⊥) → item_of ds t ≡ None
none_is ds t none = cases (item_of ds t) refl
  where
    cases : (o : Option (List ℕ)) → item_of ds t ≡ o → o ≡ None
    cases (Some text) is = absurd (none text (item_is ds t text is))
    cases None is = refl

-- ---- their text

with_more : (begun : Option (List ℕ)) (text others : List ℕ) → with_item (with_item begun (Some text)) (Some others) ≡ with_item begun (Some (text ++ 32 ∷ others))
with_more None text others = refl
with_more (Some before) text others = ap (λ (all : List ℕ). some all) (append_assoc before (32 ∷ text) (32 ∷ others))

-- the items among the tokens, and what their values give behind what has begun
data Collected (ds : List Definition) (ts : List Token) : Type 0 where
  Nothing : HasItems ds ts [] → ((begun : Option (List ℕ)) → joined_items ds begun ts ≡ begun) → Collected ds ts
  Something : (items : List Token) (text : List ℕ) → HasItems ds ts items → AreItems ds items text → ((begun : Option (List ℕ)) → joined_items ds begun ts ≡ with_item begun (Some text)) → Collected ds ts

collected : (ds : List Definition) (ts : List Token) → Collected ds ts
collected ds [] = Nothing NoToken (λ begun. refl)
collected ds (t ∷ ts) = step (item_of ds t) refl (collected ds ts)
  where
    behind : (o : Option (List ℕ)) → item_of ds t ≡ o → (begun : Option (List ℕ)) → joined_items ds begun (t ∷ ts) ≡ joined_items ds (with_item begun o) ts
    behind o is begun = ap (λ (p : Option (List ℕ)). joined_items ds (with_item begun p) ts) is

    step : (o : Option (List ℕ)) → item_of ds t ≡ o → Collected ds ts → Collected ds (t ∷ ts)
    step None is (Nothing has e) = Nothing (NoItem t ts [] (no_item ds t is) has) (λ begun. behind None is begun ∙ e begun)
    step None is (Something items text has are e) = Something items text (NoItem t ts items (no_item ds t is) has) are (λ begun. behind None is begun ∙ e begun)
    step (Some text) is (Nothing has e) = Something (t ∷ []) text (TheItem t ts [] text (item_is ds t text is) has) (OneItem t text (item_is ds t text is)) (λ begun. behind (Some text) is begun ∙ e (with_item begun (Some text)))
    step (Some text) is (Something items others has are e) =
        Something (t ∷ items) (text ++ 32 ∷ others) (TheItem t ts items text (item_is ds t text is) has) (MoreItems t items text others (item_is ds t text is) are)
        (λ begun. behind (Some text) is begun ∙ e (with_item begun (Some text)) ∙ with_more begun text others)

-- what the items come to, all tokens come to
has_joined : (ds : List Definition) (ts items : List Token) → HasItems ds ts items → (begun : Option (List ℕ)) → joined_items ds begun ts ≡ joined_items ds begun items
has_joined ds _ _ NoToken begun = refl
has_joined ds _ _ (TheItem t ts items text is has) begun = has_joined ds ts items has (with_item begun (item_of ds t))
has_joined ds _ _ (NoItem t ts items none has) begun = ap (λ (o : Option (List ℕ)). joined_items ds (with_item begun o) ts) (none_is ds t none) ∙ has_joined ds ts items has begun

are_joined : (ds : List Definition) (items : List Token) (text : List ℕ) → AreItems ds items text → (begun : Option (List ℕ)) → joined_items ds begun items ≡ with_item begun (Some text)
are_joined ds _ _ (OneItem t text is) begun = ap (λ (o : Option (List ℕ)). with_item begun o) (is_item ds t text is)
are_joined ds _ _ (MoreItems t ts text others is are) begun =
    ap (λ (o : Option (List ℕ)). joined_items ds (with_item begun o) ts) (is_item ds t text is) ∙ are_joined ds ts others are (with_item begun (Some text)) ∙ with_more begun text others

-- where all tokens are items, these are all
all_items : (ds : List Definition) (ts items : List Token) → HasItems ds ts items → are_items ds ts ≡ true → items ≡ ts
all_items ds _ _ NoToken e = refl
all_items ds _ _ (TheItem t ts items text is has) e = ap (λ (us : List Token). t ∷ us) (all_items ds ts items has (and_parts (is_some (item_of ds t)) (are_items ds ts) e).1)
all_items ds _ _ (NoItem t ts items none has) e =
    let there : is_some (item_of ds t) ≡ true = (and_parts (is_some (item_of ds t)) (are_items ds ts) e).0 in
    absurd (false≢true (sym (ap (λ (o : Option (List ℕ)). is_some o) (none_is ds t none)) ∙ there))

items_all : (ds : List Definition) (ts : List Token) (text : List ℕ) → AreItems ds ts text → are_items ds ts ≡ true
items_all ds _ _ (OneItem t text is) = and_from (is_some (item_of ds t)) true (ap (λ (o : Option (List ℕ)). is_some o) (is_item ds t text is)) refl
items_all ds _ _ (MoreItems t ts text others is are) = and_from (is_some (item_of ds t)) (are_items ds ts) (ap (λ (o : Option (List ℕ)). is_some o) (is_item ds t text is)) (items_all ds ts others are)

-- ---- strings

byte_refused : (b : ℕ) → is_refused_byte b ≡ true → IsRefusedByte b
byte_refused b e = cases (b == 36) (b == 35) refl refl e
  where
    cases : (x y : Bool) → (b == 36) ≡ x → (b == 35) ≡ y → (x || y) ≡ true → IsRefusedByte b
    cases true y is_dollar is_hash e = rw (eqb-true b 36 is_dollar) Dollar
    cases false true is_dollar is_hash e = rw (eqb-true b 35 is_hash) Hash
    cases false false is_dollar is_hash e = absurd (false≢true e)

refused_byte : (b : ℕ) → IsRefusedByte b → is_refused_byte b ≡ true
refused_byte _ Dollar = refl
refused_byte _ Hash = refl

string_refused : (t : Token) → is_refused_string t ≡ true → IsRefusedString t
string_refused (Quoted text) e = let b = any_there is_refused_byte text e in Refused text b.one (byte_refused b.one b.answer) b.among
string_refused (Word text) e = absurd (false≢true e)
string_refused (Macro name) e = absurd (false≢true e)
string_refused (Mark symbol) e = absurd (false≢true e)
string_refused Newline e = absurd (false≢true e)
string_refused Bad e = absurd (false≢true e)

refused_string : (t : Token) → IsRefusedString t → is_refused_string t ≡ true
refused_string _ (Refused text b refused among) = there_any is_refused_byte b text among (refused_byte b refused)

-- ---- statements that are no macro statements

data Shape : List Token → Type 0 where
  Begun : (name : List ℕ) (ts : List Token) → Shape (Word name ∷ Mark Equals ∷ ts)
  Another : (ts : List Token) → ((name : List ℕ) (us : List Token) → ts ≡ Word name ∷ Mark Equals ∷ us → ⊥) → ((profile : Profile) (ds : List Definition) → definition_at profile ds ts ≡ Err faults.Syntax) → Shape ts

shape : (ts : List Token) → Shape ts
unfolding definition_at symbol_at
shape (Word name ∷ Mark Equals ∷ ts) = Begun name ts
shape ts = Another ts (λ name us e. cc) (λ profile ds. refl)

-- ---- what a macro statement has

record Begins (ts : List Token) : Type 0 where
  name : List ℕ
  behind : List Token
  whole : ts ≡ Word name ∷ Mark Equals ∷ behind

macro_begins : (ds : List Definition) (ts : List Token) (made : Definition) → IsMacro ds ts made → Begins ts
macro_begins ds _ _ (Spelled name text items are) = record { name = name; behind = items; whole = refl }

fault_begins : (profile : Profile) (ds : List Definition) (ts : List Token) → HasMacroFault profile ds ts → Begins ts
fault_begins profile ds _ (ReservedName name ts e) = record { name = name; behind = ts; whole = refl }
fault_begins profile ds _ (OtherByte name ts b among e) = record { name = name; behind = ts; whole = refl }
fault_begins profile ds _ (BadString name ts t among refused) = record { name = name; behind = ts; whole = refl }
fault_begins profile ds _ (LongText name ts items text has are long) = record { name = name; behind = ts; whole = refl }

-- its name, and the text of what is behind =
record Parts (ds : List Definition) (name : List ℕ) (ts : List Token) (made : Definition) : Type 0 where
  named : made.name ≡ name
  are : AreItems ds ts made.text

macro_parts : (ds : List Definition) (us : List Token) (made : Definition) → IsMacro ds us made → (name : List ℕ) (ts : List Token) → us ≡ Word name ∷ Mark Equals ∷ ts → Parts ds name ts made
macro_parts ds _ _ (Spelled name text items are) other ts e =
    let same : items ≡ ts = tails (Word name) (Word other) (Mark Equals) (Mark Equals) items ts e in
    record { named = names name other _ _ e; are = rw (sym same) are }
  where
    names : (a b : List ℕ) (ts us : List Token) → Word a ∷ ts ≡ Word b ∷ us → a ≡ b
    names a b ts us e = cc

    tails : (a b c d : Token) (ts us : List Token) → a ∷ c ∷ ts ≡ b ∷ d ∷ us → ts ≡ us
    tails a b c d ts us e = cc

text_joined : (ds : List Definition) (name : List ℕ) (ts : List Token) (made : Definition) → Parts ds name ts made → joined_items ds None ts ≡ Some made.text
text_joined ds name ts made parts = are_joined ds ts made.text parts.are None

one_macro : (ds : List Definition) (ts : List Token) (a b : Definition) → IsMacro ds ts a → IsMacro ds ts b → a ≡ b
one_macro ds ts a b first second =
    let begins = macro_begins ds ts a first in
    let here = macro_parts ds ts a first begins.name begins.behind begins.whole in
    let there = macro_parts ds ts b second begins.name begins.behind begins.whole in
    let names : a.name ≡ b.name = here.named ∙ sym there.named in
    let texts : a.text ≡ b.text = some_is a.text b.text (sym (text_joined ds begins.name begins.behind a here) ∙ text_joined ds begins.name begins.behind b there) in
    ap (λ (name : List ℕ). made name a.text) names ∙ ap (λ (text : List ℕ). made b.name text) texts
  where
    made : List ℕ → List ℕ → Definition
    made name text = record { name = name; text = text }

-- ---- a definition has no fault

long_apart : (ds : List Definition) (name : List ℕ) (ts items : List Token) (text : List ℕ) (made : Definition) → HasItems ds ts items → AreItems ds items text → Parts ds name ts made → text ≡ made.text
long_apart ds name ts items text made has are parts =
    some_is text made.text (sym (are_joined ds items text are None) ∙ sym (has_joined ds ts items has None) ∙ text_joined ds name ts made parts)

fault_apart : (profile : Profile) (ds : List Definition) (ts : List Token) (made : Definition) → IsDefinition profile ds ts made → HasMacroFault profile ds ts → ⊥
fault_apart profile ds _ made d (ReservedName name ts e) =
    let parts = macro_parts ds _ made d.spelled name ts refl in
    false≢true (sym d.free ∙ ap (is_reserved profile) parts.named ∙ e)
fault_apart profile ds _ made d (OtherByte name ts b among e) =
    let parts = macro_parts ds _ made d.spelled name ts refl in
    false≢true (sym e ∙ d.name b (rw parts.named among))
fault_apart profile ds _ made d (BadString name ts t among refused) = d.strings t (There (Word name) (Mark Equals ∷ ts) (There (Mark Equals) ts among)) refused
fault_apart profile ds _ made d (LongText name ts items text has are long) =
    let parts = macro_parts ds _ made d.spelled name ts refl in
    absurd (omega (arith, long, d.short, ap (λ (bytes : List ℕ). length bytes) (long_apart ds name ts items text made has are parts)))

-- ---- what is read of a macro statement

data Outcome (profile : Profile) (ds : List Definition) (ts : List Token) (read : Result Definition DefinitionFault) : Type 0 where
  Made : (made : Definition) → read ≡ Ok made → IsDefinition profile ds ts made → Outcome profile ds ts read
  Wrong : read ≡ Err faults.Macro → HasMacroFault profile ds ts → Outcome profile ds ts read
  Unspelled : read ≡ Err faults.Syntax → HasSyntaxFault profile ds ts → Outcome profile ds ts read

-- no string among the tokens of the statement is refused
no_string : (name : List ℕ) (ts : List Token) → list_any is_refused_string ts ≡ false → (t : Token) → IsAmong t (Word name ∷ Mark Equals ∷ ts) → IsRefusedString t → ⊥
no_string name ts none t among refused = false≢true (sym none ∙ (there_any is_refused_string t (Word name ∷ Mark Equals ∷ ts) among (refused_string t refused)))

long_text : (n : ℕ) → nat_lt 4096 n ≡ true → 4096 < n
long_text n e = grind (arith, nat_tests, e)

short_text : (n : ℕ) → nat_lt 4096 n ≡ false → n ≤ 4096
short_text n e = grind (arith, nat_tests, e)

too_long : (ds : List Definition) (ts : List Token) (o : Option (List ℕ)) (b : Bool) → joined_items ds None ts ≡ o → is_too_long (joined_items ds None ts) ≡ b → nat_lt 4096 (text_len o) ≡ b
too_long ds ts o b is e = ap (λ (p : Option (List ℕ)). nat_lt 4096 (text_len p)) (sym is) ∙ e

-- none of the lower faults holds
no_fault : (profile : Profile) (ds : List Definition) (name : List ℕ) (ts : List Token) → is_reserved profile name ≡ false → list_all is_name_byte name ≡ true → list_any is_refused_string ts ≡ false → is_too_long (joined_items ds None ts) ≡ false
    → (us : List Token) → HasMacroFault profile ds us → us ≡ Word name ∷ Mark Equals ∷ ts → ⊥
no_fault profile ds name ts free bytes strings short _ (ReservedName other us e) same =
    let named : other ≡ name = let h = same in cc in
    false≢true (sym free ∙ ap (is_reserved profile) (sym named) ∙ e)
no_fault profile ds name ts free bytes strings short _ (OtherByte other us b among e) same =
    let named : other ≡ name = let h = same in cc in
    false≢true (sym e ∙ all_there is_name_byte b name (rw (sym named) among) bytes)
no_fault profile ds name ts free bytes strings short _ (BadString other us t among refused) same =
    let rest : us ≡ ts = let h = same in cc in
    false≢true (sym strings ∙ there_any is_refused_string t ts (rw (sym rest) among) (refused_string t refused))
no_fault profile ds name ts free bytes strings short _ (LongText other us items text has are long) same =
    let rest : us ≡ ts = let h = same in cc in
    let all : joined_items ds None ts ≡ Some text = ap (λ (vs : List Token). joined_items ds None vs) (sym rest) ∙ has_joined ds us items has None ∙ are_joined ds items text are None in
    absurd (omega (arith, long, short_text (length text) (too_long ds ts (Some text) false all short)))

by_tests : (profile : Profile) (ds : List Definition) (name : List ℕ) (ts : List Token) → Outcome profile ds (Word name ∷ Mark Equals ∷ ts) (defined_as profile ds name ts)
by_tests profile ds name ts = cases (is_reserved profile name) (list_all is_name_byte name) (list_any is_refused_string ts) (is_too_long (joined_items ds None ts)) (are_items ds ts) refl refl refl refl refl
  where
    long : is_too_long (joined_items ds None ts) ≡ true → HasMacroFault profile ds (Word name ∷ Mark Equals ∷ ts)
    long e = from (collected ds ts)
      where
        from : Collected ds ts → HasMacroFault profile ds (Word name ∷ Mark Equals ∷ ts)
        from (Nothing has f) = absurd (false≢true (too_long ds ts None true (f None) e))
        from (Something items text has are f) = LongText name ts items text has are (long_text (length text) (too_long ds ts (Some text) true (f None) e))

    cases : (r n s l a : Bool) → is_reserved profile name ≡ r → list_all is_name_byte name ≡ n → list_any is_refused_string ts ≡ s → is_too_long (joined_items ds None ts) ≡ l → are_items ds ts ≡ a
        → Outcome profile ds (Word name ∷ Mark Equals ∷ ts) (cond {A = Result Definition DefinitionFault} (not (not r && n) || s || l) (Err faults.Macro) (cond a (spelled name (joined_items ds None ts)) (Err faults.Syntax)))
    cases true n s l a free bytes strings short all = Wrong refl (ReservedName name ts free)
    cases false false s l a free bytes strings short all = let b = not_all is_name_byte name bytes in Wrong refl (OtherByte name ts b.one b.among b.answer)
    cases false true true l a free bytes strings short all = let t = any_there is_refused_string ts strings in Wrong refl (BadString name ts t.one t.among (string_refused t.one t.answer))
    cases false true false true a free bytes strings short all = Wrong refl (long short)
    cases false true false false false free bytes strings short all = Unspelled refl (record {
      no_macro = λ made is. false≢true (sym all ∙ items_all ds ts made.text (macro_parts ds _ made is name ts refl).are);
      no_lower = λ fault. no_fault profile ds name ts free bytes strings short _ fault refl;
    })
    cases false true false false true free bytes strings short all = from (collected ds ts)
      where
        from : Collected ds ts → Outcome profile ds (Word name ∷ Mark Equals ∷ ts) (spelled name (joined_items ds None ts))
        from (Nothing has f) = Unspelled (ap (spelled name) (f None)) (record {
          no_macro = λ made is. let e = sym (f None) ∙ text_joined ds name ts made (macro_parts ds _ made is name ts refl) in cc;
          no_lower = λ fault. no_fault profile ds name ts free bytes strings short _ fault refl;
        })
        from (Something items text has are f) = Made (record { name = name; text = text }) (ap (spelled name) (f None)) (record {
          spelled = Spelled name text ts (rw (all_items ds ts items has all) at are);
          free = free;
          name = λ b among. all_there is_name_byte b name among bytes;
          strings = no_string name ts strings;
          short = short_text (length text) (too_long ds ts (Some text) false (f None) short);
        })

outcome : (profile : Profile) (ds : List Definition) (ts : List Token) → Outcome profile ds ts (definition_at profile ds ts)
unfolding definition_at symbol_at
outcome profile ds ts = cases ts (shape ts)
  where
    cases : (ts : List Token) → Shape ts → Outcome profile ds ts (definition_at profile ds ts)
    cases _ (Begun name ts) = by_tests profile ds name ts
    cases _ (Another ts none e) = Unspelled (e profile ds) (record {
      no_macro = λ made is. let begins = macro_begins ds ts made is in none begins.name begins.behind begins.whole;
      no_lower = λ fault. let begins = fault_begins profile ds ts fault in none begins.name begins.behind begins.whole;
    })

-- ---- the laws

module _ (profile : Profile) (ds : List Definition) (ts : List Token) where
  pub made_as_spelled : (made : Definition) → (definition_at profile ds ts ≡ Ok made) ↔ IsDefinition profile ds ts made
  made_as_spelled made = (there (outcome profile ds ts), back (outcome profile ds ts))
    where
      there : Outcome profile ds ts (definition_at profile ds ts) → definition_at profile ds ts ≡ Ok made → IsDefinition profile ds ts made
      there (Made found e is) f = let same : found ≡ made = let h = sym e ∙ f in cc in rw (sym same) is
      there (Wrong e fault) f = let h = sym e ∙ f in absurd cc
      there (Unspelled e fault) f = let h = sym e ∙ f in absurd cc

      back : Outcome profile ds ts (definition_at profile ds ts) → IsDefinition profile ds ts made → definition_at profile ds ts ≡ Ok made
      back (Made found e is) it = let same = one_macro ds ts found made is.spelled it.spelled in rw same at e
      back (Wrong e fault) it = absurd (fault_apart profile ds ts made it fault)
      back (Unspelled e fault) it = absurd (fault.no_macro made it.spelled)

  pub refused_as_spelled : (definition_at profile ds ts ≡ Err faults.Macro) ↔ HasMacroFault profile ds ts
  refused_as_spelled = (there (outcome profile ds ts), back (outcome profile ds ts))
    where
      there : Outcome profile ds ts (definition_at profile ds ts) → definition_at profile ds ts ≡ Err faults.Macro → HasMacroFault profile ds ts
      there (Made found e is) f = let h = sym e ∙ f in absurd cc
      there (Wrong e fault) f = fault
      there (Unspelled e fault) f = let h = sym e ∙ f in absurd cc

      back : Outcome profile ds ts (definition_at profile ds ts) → HasMacroFault profile ds ts → definition_at profile ds ts ≡ Err faults.Macro
      back (Made found e is) it = absurd (fault_apart profile ds ts found is it)
      back (Wrong e fault) it = e
      back (Unspelled e fault) it = absurd (fault.no_lower it)

  pub unspelled_as_spelled : (definition_at profile ds ts ≡ Err faults.Syntax) ↔ HasSyntaxFault profile ds ts
  unspelled_as_spelled = (there (outcome profile ds ts), back (outcome profile ds ts))
    where
      there : Outcome profile ds ts (definition_at profile ds ts) → definition_at profile ds ts ≡ Err faults.Syntax → HasSyntaxFault profile ds ts
      there (Made found e is) f = let h = sym e ∙ f in absurd cc
      there (Wrong e fault) f = let h = sym e ∙ f in absurd cc
      there (Unspelled e fault) f = fault

      back : Outcome profile ds ts (definition_at profile ds ts) → HasSyntaxFault profile ds ts → definition_at profile ds ts ≡ Err faults.Syntax
      back (Made found e is) it = absurd (it.no_macro found is.spelled)
      back (Wrong e fault) it = absurd (it.no_lower fault)
      back (Unspelled e fault) it = e

  pub never_memory : definition_at profile ds ts ≡ Err faults.Memory → ⊥
  never_memory f = from (outcome profile ds ts)
    where
      from : Outcome profile ds ts (definition_at profile ds ts) → ⊥
      from (Made found e is) = let h = sym e ∙ f in cc
      from (Wrong e fault) = let h = sym e ∙ f in cc
      from (Unspelled e fault) = let h = sym e ∙ f in cc
