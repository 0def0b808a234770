-- Table statements are read exactly where the grammar spells them.
use Rattle.std.proofs.Common.{◌≡◌, ℕ, zero, suc, ◌<◌, ◌&&◌, Bool, true, false, cond, List, [], ◌∷◌, ◌++◌, drop, length, Option, Some, None, refl, sym, ap, subst, ◌∙◌, append_assoc, arith}
use Rattle.std.specs.Prelude.{codes, is_some}
use Rattle.std.specs.List.{AllByRecursion}
use Rattle.std.proofs.lemmas.Bool.{false≢true}
use Rattle.std.proofs.lemmas.List.{length-append}
use Rattle.pf_rules.specs.declared.profile.Profile.{Profile}
use Rattle.pf_tokens.specs.declared.symbol.Symbol.TheVariants.{Open, Close, OpenParenthesis, CloseParenthesis, Comma, Slash, Not, NotEqual, Less, LessEqual, Greater, GreaterEqual, Between, Outside, Equals}
use Rattle.pf_tokens.specs.Tokens.{Token, Word, Quoted, Macro, Mark, Newline, Bad}
use Rattle.pf_tokens.specs.Blanks.{blanked}
use Rattle.pf_tokens.specs.Productions.{Read, ◌>>=◌, begins, begins_symbol, is_end, symbol_at, list_opened}
use Rattle.pf_tokens.specs.Lists.{Elements, list_at}
use Rattle.pf_tokens.specs.inner.Shorter.{bind_some, some_is}
use Rattle.pf_addr.specs.Blocks.{Block}
use Rattle.pf_rules.specs.Names.{Name}
use Rattle.pf_rules.specs.declared.ruleset.TableEntry.{TableEntry}
use Rattle.pf_statements.specs.Conditions.{prefix_at, table_at}
use Rattle.pf_tokens.specs.ListGrammar.{IsElements, LastOne, LastList, OneMore, ListMore, IsList, Braces}
use Rattle.pf_statements.specs.ConditionGrammar.{IsPrefix, WholeAddress, CutAddress}
use Rattle.pf_tokens.proofs.Fronts.{Took, begins_is, symbol_is}
use Rattle.pf_tokens.proofs.ListsSpelled.{Heads, Readable, list_took, list_reads}
use Rattle.pf_tokens.specs.ListGrammar.{IsPlain}
use Rattle.pf_statements.proofs.PiecesSpelled.{prefix_took, prefix_reads, prefix_plain, prefix_some}
use Rattle.pf_statements.proofs.PiecesSpelled as pieces
use Rattle.pf_statements.specs.Options.{to_end}
use Rattle.pf_statements.specs.Tables.{TableText, new_table, entry_at, empty_at, no_entries, entries_at, listed_option, table_option, table_of}
use Rattle.pf_statements.specs.Grammar.{IsEntry, EntryIn, EntryOut, AreNewlines, NoNewline, MoreNewlines, AreEntries, NoEntries, SomeEntries, AreTableOptions, NoTableOption, PersistOption, ConstOption, CountersOption, EntriesOption, IsTableText, TableOptions}

-- ---- entries

-- what may follow an entry
abbrev pub EntryEnds : List Token → Type 0
EntryEnds rest = begins_symbol Slash rest ≡ false

abbrev made : Bool → Block → TableEntry
made negated block = record { negated = negated; prefix = block }

entry_took : (profile : Profile) (ts : List Token) (x : TableEntry × List Token) → entry_at profile ts ≡ Some x → Took IsEntry ts x
unfolding entry_at symbol_at
entry_took profile ts x e = cases (begins_symbol Not ts) refl e
  where
    cases : (n : Bool) → begins_symbol Not ts ≡ n → (prefix_at (cond {A = Bool × List Token} n (true, drop 1 ts) (false, ts)).1 >>= λ block. Some (made (cond {A = Bool × List Token} n (true, drop 1 ts) (false, ts)).0 block.0, block.1)) ≡ Some x → Took IsEntry ts x
    cases true negated e =
        let a = bind_some (prefix_at (drop 1 ts)) (λ block. Some (made true block.0, block.1)) x e in
        let t = prefix_took (drop 1 ts) a.0 a.1 in
        subst (λ (z : TableEntry × List Token). Took IsEntry ts z) (some_is _ x a.2) (record { piece = Mark Not ∷ t.piece; whole = symbol_is Not ts negated ∙ ap (λ (us : List Token). Mark Not ∷ us) t.whole; is = EntryOut t.piece a.0.0 t.is })
    cases false negated e =
        let a = bind_some (prefix_at ts) (λ block. Some (made false block.0, block.1)) x e in
        let t = prefix_took ts a.0 a.1 in
        subst (λ (z : TableEntry × List Token). Took IsEntry ts z) (some_is _ x a.2) (record { piece = t.piece; whole = t.whole; is = EntryIn t.piece a.0.0 t.is })

prefix_not_not : (ts rest : List Token) (block : Block) → IsPrefix ts block → begins_symbol Not (ts ++ rest) ≡ false
prefix_not_not _ rest _ (WholeAddress addr block e) = refl
prefix_not_not _ rest _ (CutAddress addr len block e) = refl

entry_reads : (profile : Profile) (ts rest : List Token) (x : TableEntry) → IsEntry ts x → EntryEnds rest → entry_at profile (ts ++ rest) ≡ Some (x, rest)
unfolding entry_at symbol_at
entry_reads profile _ rest _ (EntryIn ts block is) ends = rw (prefix_not_not ts rest block is, prefix_reads ts rest block is ends) refl
entry_reads profile _ rest _ (EntryOut ts block is) ends = rw (prefix_reads ts rest block is ends) refl

entry_heads : (ts rest : List Token) (x : TableEntry) → IsEntry ts x → Heads EntryEnds (ts ++ rest)
entry_heads _ rest _ (EntryIn _ _ (WholeAddress addr block e)) = record { ends = refl; not_open = refl; not_comma = refl; not_close = refl }
entry_heads _ rest _ (EntryIn _ _ (CutAddress addr len block e)) = record { ends = refl; not_open = refl; not_comma = refl; not_close = refl }
entry_heads _ rest _ (EntryOut ts block is) = record { ends = refl; not_open = refl; not_comma = refl; not_close = refl }

entry_plain : (ts : List Token) (x : TableEntry) → IsEntry ts x → AllByRecursion IsPlain ts
entry_plain _ _ (EntryIn ts block is) = prefix_plain ts block is
entry_plain _ _ (EntryOut ts block is) = ((refl, refl), prefix_plain ts block is)

entry_some : (ts : List Token) (x : TableEntry) → IsEntry ts x → 0 < length ts
entry_some _ _ (EntryIn ts block is) = prefix_some ts block is
entry_some _ _ (EntryOut ts block is) = omega arith

pub entries_readable : (profile : Profile) → Readable (entry_at profile) IsEntry EntryEnds
entries_readable profile = record {
  took = entry_took profile;
  reads = entry_reads profile;
  heads = entry_heads;
  open_ends = λ rest. refl;
  comma_ends = λ rest. refl;
  close_ends = λ rest. refl;
  plain = entry_plain;
  some = entry_some;
}

-- ---- an empty list

record Emptied (ts rest : List Token) : Type 0 where
  within : List Token
  whole : ts ≡ within ++ (Mark Close ∷ rest)
  are : AreNewlines within

emptied : (ts : List Token) → begins_symbol Close (blanked 1 ts) ≡ true → Emptied ts (drop 1 (blanked 1 ts))
emptied [] e = absurd (false≢true e)
emptied (Newline ∷ ts) e = let m = emptied ts e in record { within = Newline ∷ m.within; whole = ap (λ (us : List Token). Newline ∷ us) m.whole; are = MoreNewlines m.within m.are }
emptied (Mark Close ∷ ts) e = record { within = []; whole = refl; are = NoNewline }
emptied (Word text ∷ ts) e = absurd (false≢true e)
emptied (Quoted text ∷ ts) e = absurd (false≢true e)
emptied (Macro name ∷ ts) e = absurd (false≢true e)
emptied (Bad ∷ ts) e = absurd (false≢true e)
emptied (Mark Open ∷ ts) e = absurd (false≢true e)
emptied (Mark OpenParenthesis ∷ ts) e = absurd (false≢true e)
emptied (Mark CloseParenthesis ∷ ts) e = absurd (false≢true e)
emptied (Mark Comma ∷ ts) e = absurd (false≢true e)
emptied (Mark Slash ∷ ts) e = absurd (false≢true e)
emptied (Mark Not ∷ ts) e = absurd (false≢true e)
emptied (Mark NotEqual ∷ ts) e = absurd (false≢true e)
emptied (Mark Less ∷ ts) e = absurd (false≢true e)
emptied (Mark LessEqual ∷ ts) e = absurd (false≢true e)
emptied (Mark Greater ∷ ts) e = absurd (false≢true e)
emptied (Mark GreaterEqual ∷ ts) e = absurd (false≢true e)
emptied (Mark Between ∷ ts) e = absurd (false≢true e)
emptied (Mark Outside ∷ ts) e = absurd (false≢true e)
emptied (Mark Equals ∷ ts) e = absurd (false≢true e)

blank_close : (within rest : List Token) → AreNewlines within → blanked 1 (within ++ (Mark Close ∷ rest)) ≡ Mark Close ∷ rest
blank_close _ rest NoNewline = refl
blank_close _ rest (MoreNewlines ts are) = blank_close ts rest are

-- ---- the entries

empty_took : (ts rest : List Token) → empty_at ts ≡ (true, rest) → Took AreEntries ts (no_entries, rest)
unfolding empty_at list_opened
empty_took ts rest e = cases (begins_symbol Open ts) refl (begins_symbol Close (blanked 1 (drop 1 ts))) refl e
  where
    second : (a b : Bool × List Token) → a ≡ b → a.1 ≡ b.1
    second a b e = ap (λ (y : Bool × List Token). y.1) e

    cases : (b : Bool) → begins_symbol Open ts ≡ b → (c : Bool) → begins_symbol Close (blanked 1 (drop 1 ts)) ≡ c
        → cond {A = Bool × List Token} ((cond {A = Bool × List Token} b (true, blanked 1 (drop 1 ts)) (false, ts)).0 && begins_symbol Close (cond {A = Bool × List Token} b (true, blanked 1 (drop 1 ts)) (false, ts)).1) (true, drop 1 (cond {A = Bool × List Token} b (true, blanked 1 (drop 1 ts)) (false, ts)).1) (false, ts) ≡ (true, rest) → Took AreEntries ts (no_entries, rest)
    cases true opens true closes e =
        let m = emptied (drop 1 ts) closes in
        let same : drop 1 (blanked 1 (drop 1 ts)) ≡ rest = second (true, drop 1 (blanked 1 (drop 1 ts))) (true, rest) (rw closes at e) in
        record {
          piece = Mark Open ∷ (m.within ++ (Mark Close ∷ []));
          whole = symbol_is Open ts opens ∙ ap (λ (us : List Token). Mark Open ∷ us) (m.whole ∙ sym (append_assoc m.within (Mark Close ∷ []) (drop 1 (blanked 1 (drop 1 ts)))) ∙ ap (λ (us : List Token). (m.within ++ (Mark Close ∷ [])) ++ us) same);
          is = NoEntries m.within m.are;
        }
    cases true opens false closes e = absurd (let h = rw closes at e in false≢true (ap (λ (y : Bool × List Token). y.0) h))
    cases false opens c closes e = absurd (false≢true (ap (λ (y : Bool × List Token). y.0) e))

entries_took : (profile : Profile) (ts : List Token) (x : Elements TableEntry × List Token) → entries_at profile ts ≡ Some x → Took AreEntries ts x
unfolding entries_at
entries_took profile ts x e = cases (empty_at ts) refl e
  where
    cases : (none : Bool × List Token) → empty_at ts ≡ none → cond none.0 (Some (no_entries, none.1)) (list_at (entry_at profile) ts) ≡ Some x → Took AreEntries ts x
    cases (true, rest) is e = subst (λ (z : Elements TableEntry × List Token). Took AreEntries ts z) (some_is (no_entries, rest) x e) (empty_took ts rest is)
    cases (false, rest) is e = let t = list_took (entries_readable profile) ts x e in record { piece = t.piece; whole = t.whole; is = SomeEntries t.piece x.0 t.is }

empty_reads : (within rest : List Token) → AreNewlines within → empty_at (Mark Open ∷ (within ++ (Mark Close ∷ rest))) ≡ (true, rest)
unfolding empty_at list_opened
empty_reads within rest are = rw (blank_close within rest are) refl

-- a list that has an element isn't empty
elements_not_close : (ts rest : List Token) (xs : List TableEntry) (d : ℕ) → IsElements IsEntry ts xs d → begins_symbol Close (ts ++ rest) ≡ false
elements_not_close _ rest _ _ (LastOne ts x is) = (entry_heads ts rest x is).not_close
elements_not_close _ rest _ _ (LastList ts xs d is) = refl
elements_not_close _ rest _ _ (OneMore ts comma us x ys e is c more) = ap (begins_symbol Close) (append_assoc ts (comma ++ us) rest) ∙ (entry_heads ts ((comma ++ us) ++ rest) x is).not_close
elements_not_close _ rest _ _ (ListMore ts comma us xs ys d e is c more) = refl

-- the first token that stays is no closing brace, whatever follows
begins_same : (within ts rest : List Token) → blanked 1 (within ++ (Mark Close ∷ [])) ≡ ts → begins_symbol Close ts ≡ false → begins_symbol Close (blanked 1 ((within ++ (Mark Close ∷ [])) ++ rest)) ≡ false
begins_same [] ts rest e none = absurd (false≢true (sym none ∙ ap (begins_symbol Close) (sym e)))
begins_same (Newline ∷ within) ts rest e none = begins_same within ts rest e none
begins_same (Word text ∷ within) ts rest e none = refl
begins_same (Quoted text ∷ within) ts rest e none = refl
begins_same (Macro name ∷ within) ts rest e none = refl
begins_same (Mark symbol ∷ within) ts rest e none = ap (begins_symbol Close) e ∙ none
begins_same (Bad ∷ within) ts rest e none = refl

list_not_empty : (ts rest : List Token) (list : Elements TableEntry) → IsList IsEntry ts list → (empty_at (ts ++ rest)).0 ≡ false
unfolding empty_at list_opened
list_not_empty _ rest _ (Braces within ts xs d e is) = rw (begins_same within (ts ++ (Mark Close ∷ [])) rest e (elements_not_close ts (Mark Close ∷ []) xs d is)) refl

entries_read : (profile : Profile) (ts rest : List Token) (x : Elements TableEntry) → AreEntries ts x → entries_at profile (ts ++ rest) ≡ Some (x, rest)
unfolding entries_at
entries_read profile _ rest _ (NoEntries within are) =
    rw (ap (λ (us : List Token). Mark Open ∷ us) (append_assoc within (Mark Close ∷ []) rest), empty_reads within rest are) refl
entries_read profile _ rest _ (SomeEntries ts list is) = rw (list_not_empty ts rest list is) (list_reads (entries_readable profile) ts rest list is)

-- ---- options

none_is : {X : Type 0} (o : Option X) → is_some o ≡ false → o ≡ None
none_is None e = refl
none_is (Some x) e = absurd (false≢true (sym e))

abbrev More : TableText × List Token → TableText → Type 0
More next all = AreTableOptions next.0 next.1 all

entries_goes : (profile : Profile) (t all : TableText) (ts : List Token) (next : TableText × List Token) → listed_option profile t ts ≡ Some next → More next all → AreTableOptions t ts all
unfolding listed_option
entries_goes profile t all ts next e more = cases (is_some t.entries) refl e
  where
    cases : (b : Bool) → is_some t.entries ≡ b → cond b None (entries_at profile ts >>= λ list. Some (record t { entries = Some list.0 }, list.1)) ≡ Some next → AreTableOptions t ts all
    cases true said e = absurd cc
    cases false said e =
        let a = bind_some (entries_at profile ts) (λ list. Some (record t { entries = Some list.0 }, list.1)) next e in
        let l = entries_took profile ts a.0 a.1 in
        let more' = subst (λ (z : TableText × List Token). More z all) (sym (some_is _ next a.2)) more in
        subst (λ (us : List Token). AreTableOptions t us all) (sym l.whole) (EntriesOption t all l.piece a.0.1 a.0.0 (none_is t.entries said) l.is more')

option_goes : (profile : Profile) (t all : TableText) (ts : List Token) (next : TableText × List Token) → table_option profile t ts ≡ Some next → More next all → AreTableOptions t ts all
unfolding table_option
option_goes profile t all ts next e more = cases (begins (codes "persist") ts) refl (begins (codes "const") ts) refl (begins (codes "counters") ts) refl e
  where
    moved : (z : TableText × List Token) → (let o : Read TableText = Some z in o) ≡ Some next → More z all
    moved z e = subst (λ (y : TableText × List Token). More y all) (sym (some_is z next e)) more

    cases : (p : Bool) → begins (codes "persist") ts ≡ p → (k : Bool) → begins (codes "const") ts ≡ k → (n : Bool) → begins (codes "counters") ts ≡ n
        → cond p (Some (record t { persist = true }, drop 1 ts)) (cond k (Some (record t { is_const = true }, drop 1 ts)) (cond n (Some (t, drop 1 ts)) (listed_option profile t ts))) ≡ Some next → AreTableOptions t ts all
    cases true p k k_is n n_is e = subst (λ (us : List Token). AreTableOptions t us all) (sym (begins_is (codes "persist") ts p)) (PersistOption t all (drop 1 ts) (moved (record t { persist = true }, drop 1 ts) e))
    cases false p true k_is n n_is e = subst (λ (us : List Token). AreTableOptions t us all) (sym (begins_is (codes "const") ts k_is)) (ConstOption t all (drop 1 ts) (moved (record t { is_const = true }, drop 1 ts) e))
    cases false p false k_is true n_is e = subst (λ (us : List Token). AreTableOptions t us all) (sym (begins_is (codes "counters") ts n_is)) (CountersOption t all (drop 1 ts) (moved (t, drop 1 ts) e))
    cases false p false k_is false n_is e = entries_goes profile t all ts next e more

end_is : (ts : List Token) → is_end ts ≡ true → ts ≡ []
end_is [] e = refl
end_is (t ∷ ts) e = absurd (false≢true e)

options_step : (n : ℕ) (profile : Profile) (t all : TableText) (ts : List Token) → ((u : TableText) (us : List Token) → to_end (table_option profile) n u us ≡ Some all → AreTableOptions u us all) → to_end (table_option profile) (suc n) t ts ≡ Some all → AreTableOptions t ts all
unfolding to_end
options_step n profile t all ts ih e = cases (is_end ts) refl e
  where
    cases : (b : Bool) → is_end ts ≡ b → cond b (Some t) (table_option profile t ts >>= λ r. to_end (table_option profile) n r.0 r.1) ≡ Some all → AreTableOptions t ts all
    cases true ends e = subst (λ (us : List Token). AreTableOptions t us all) (sym (end_is ts ends)) (subst (λ (u : TableText). AreTableOptions t [] u) (some_is t all e) (NoTableOption t))
    cases false ends e =
        let a = bind_some (table_option profile t ts) (λ r. to_end (table_option profile) n r.0 r.1) all e in
        option_goes profile t all ts a.0 a.1 (ih a.0.0 a.0.1 a.2)

options_took : (n : ℕ) (profile : Profile) (t all : TableText) (ts : List Token) → to_end (table_option profile) n t ts ≡ Some all → AreTableOptions t ts all
unfolding to_end
options_took zero profile t all ts e = absurd cc
options_took (suc n) profile t all ts e = options_step n profile t all ts (λ u us. options_took n profile u all us) e

abbrev OptionsRead : Profile → TableText → List Token → TableText → Type 0
OptionsRead profile t ts all = (n : ℕ) → length ts < n → to_end (table_option profile) n t ts ≡ Some all

read_none : (profile : Profile) (t : TableText) → OptionsRead profile t [] t
unfolding to_end
read_none profile t zero h = absurd (omega (arith, h))
read_none profile t (suc n) h = refl

read_persist : (profile : Profile) (t all : TableText) (us : List Token) → OptionsRead profile (record t { persist = true }) us all → OptionsRead profile t (Word (codes "persist") ∷ us) all
unfolding to_end table_option
read_persist profile t all us more zero h = absurd (omega (arith, h))
read_persist profile t all us more (suc n) h = more n (omega (arith, h))

read_const : (profile : Profile) (t all : TableText) (us : List Token) → OptionsRead profile (record t { is_const = true }) us all → OptionsRead profile t (Word (codes "const") ∷ us) all
unfolding to_end table_option
read_const profile t all us more zero h = absurd (omega (arith, h))
read_const profile t all us more (suc n) h = more n (omega (arith, h))

read_counters : (profile : Profile) (t all : TableText) (us : List Token) → OptionsRead profile t us all → OptionsRead profile t (Word (codes "counters") ∷ us) all
unfolding to_end table_option
read_counters profile t all us more zero h = absurd (omega (arith, h))
read_counters profile t all us more (suc n) h = more n (omega (arith, h))

-- entries begin with a brace
record Opened (ts : List Token) : Type 0 where
  behind : List Token
  whole : ts ≡ Mark Open ∷ behind

opened : (ts : List Token) (list : Elements TableEntry) → AreEntries ts list → Opened ts
opened _ _ (NoEntries within are) = record { behind = within ++ (Mark Close ∷ []); whole = refl }
opened _ _ (SomeEntries _ _ (Braces within ts xs d e is)) = record { behind = within ++ (Mark Close ∷ []); whole = refl }

listed_read : (profile : Profile) (t : TableText) (ts us : List Token) (list : Elements TableEntry) → t.entries ≡ None → AreEntries ts list → listed_option profile t (ts ++ us) ≡ Some (record t { entries = Some list }, us)
unfolding listed_option
listed_read profile t ts us list none is = rw (none, entries_read profile ts us list is) refl

brace_option : (profile : Profile) (t : TableText) (behind : List Token) → table_option profile t (Mark Open ∷ behind) ≡ listed_option profile t (Mark Open ∷ behind)
unfolding table_option
brace_option profile t behind = refl

entries_option : (profile : Profile) (t : TableText) (ts us : List Token) (list : Elements TableEntry) → t.entries ≡ None → AreEntries ts list → table_option profile t (ts ++ us) ≡ Some (record t { entries = Some list }, us)
entries_option profile t ts us list none is =
    let o = opened ts list is in
    ap (λ (vs : List Token). table_option profile t (vs ++ us)) o.whole ∙ brace_option profile t (o.behind ++ us) ∙ ap (λ (vs : List Token). listed_option profile t (vs ++ us)) (sym o.whole) ∙ listed_read profile t ts us list none is

entries_not_end : (ts us : List Token) (list : Elements TableEntry) → AreEntries ts list → is_end (ts ++ us) ≡ false
entries_not_end ts us list is = ap (λ (vs : List Token). is_end (vs ++ us)) (opened ts list is).whole

entries_some : (ts : List Token) (list : Elements TableEntry) → AreEntries ts list → 0 < length ts
entries_some ts list is = let o = opened ts list is in let l = ap (λ (vs : List Token). length vs) o.whole in omega (arith, l)

-- what is read of them takes a token at least
pub entries_shorter : (profile : Profile) (ts : List Token) (x : Elements TableEntry × List Token) → entries_at profile ts ≡ Some x → length x.1 < length ts
entries_shorter profile ts x e =
    let t = entries_took profile ts x e in
    let l = ap (λ (us : List Token). length us) t.whole in
    omega (arith, l, length-append t.piece x.1, entries_some t.piece x.0 t.is)

read_entries : (profile : Profile) (t all : TableText) (ts us : List Token) (list : Elements TableEntry) → t.entries ≡ None → AreEntries ts list → OptionsRead profile (record t { entries = Some list }) us all → OptionsRead profile t (ts ++ us) all
unfolding to_end
read_entries profile t all ts us list none is more zero h = absurd (omega (arith, h))
read_entries profile t all ts us list none is more (suc n) h =
    rw (entries_not_end ts us list is, entries_option profile t ts us list none is) (more n (let l = length-append ts us in let s = entries_some ts list is in omega (arith, h, l, s)))

options_read : (profile : Profile) (t : TableText) (ts : List Token) (all : TableText) → AreTableOptions t ts all → OptionsRead profile t ts all
options_read profile _ _ _ (NoTableOption t) = read_none profile t
options_read profile _ _ _ (PersistOption t all us more) = read_persist profile t all us (options_read profile (record t { persist = true }) us all more)
options_read profile _ _ _ (ConstOption t all us more) = read_const profile t all us (options_read profile (record t { is_const = true }) us all more)
options_read profile _ _ _ (CountersOption t all us more) = read_counters profile t all us (options_read profile t us all more)
options_read profile _ _ _ (EntriesOption t all ts us list none is more) = read_entries profile t all ts us list none is (options_read profile (record t { entries = Some list }) us all more)

-- ---- the statement

pub table_took : (profile : Profile) (ts : List Token) (all : TableText) → table_of profile ts ≡ Some all → IsTableText profile ts all
unfolding table_of
table_took profile ts all e =
    let n = bind_some (table_at profile ts) (λ (name : Name × List Token). to_end (table_option profile) (suc (length name.1)) (new_table name.0) name.1) all e in
    let t = pieces.table_took profile ts n.0 n.1 in
    subst (λ (us : List Token). IsTableText profile us all) (sym t.whole) (TableOptions t.piece n.0.1 n.0.0 all t.is (options_took (suc (length n.0.1)) profile (new_table n.0.0) all n.0.1 n.2))

pub table_reads : (profile : Profile) (ts : List Token) (all : TableText) → IsTableText profile ts all → table_of profile ts ≡ Some all
unfolding table_of
table_reads profile _ _ (TableOptions ts us name all is are) = rw (pieces.table_reads profile ts us name is) (options_read profile (new_table name) us all are (suc (length us)) (omega arith))
