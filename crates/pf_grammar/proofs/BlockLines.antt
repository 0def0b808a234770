-- The shown lines of a rule with its block are read as one statement.
use Rattle.std.proofs.Common.{◌≡◌, ℕ, zero, suc, ◌+◌, ◌-◌, ◌≤◌, ◌==◌, ◌&&◌, ◌||◌, Bool, true, false, cond, List, [], ◌∷◌, ◌++◌, map, Option, None, Result, refl, sym, ap, subst, ◌∙◌, append_assoc, arith, nat_le}
use Rattle.std.specs.Prelude.{codes, nat_lt}
use Rattle.std.specs.List.{AllByRecursion}
use Rattle.std.proofs.lemmas.Bool.{false≢true}
use Rattle.std.proofs.lemmas.Bool.Decides.{nat_tests}
use Rattle.std.proofs.lemmas.List.{append-nil}
use Rattle.std.proofs.lemmas.List.Sums.{fold-append}
use Rattle.pf_rules.specs.declared.profile.Profile.{Profile}
use Rattle.pf_tokens.specs.declared.symbol.Symbol.TheVariants.{Open, Close}
use Rattle.pf_tokens.specs.declared.fault.ReadingFault.{ReadingFault}
use Rattle.pf_tokens.specs.declared.fault.ReadingFault.TheVariants.{Lexical, UnknownMacro, TooMany}
use Rattle.pf_tokens.specs.Tokens.{Token, Word, Quoted, Mark, Newline, Placed, is_newline}
use Rattle.pf_tokens.specs.Macros.{flattened, is_definition, depth_after, depth_behind, ends}
use Rattle.pf_tokens.specs.Faults.{reading_fault, or_fault, is_bad, is_unknown}
use Rattle.pf_tokens.specs.Parsing.{tokens_of}
use Rattle.pf_tokens.specs.Reading.{◌>>=◌, with_statement, reading_from}
use Rattle.pf_rules.specs.declared.parts.Policy.{Policy}
use Rattle.pf_rules.specs.Names.{Name}
use Rattle.pf_rules.specs.Rulesets.{TableValue}
use Rattle.pf_rules.specs.Items.{Target, Heading, ItemValue, ItemValues, Filters, Anchors, Blocks, no_items, one_more}
use Rattle.pf_show.specs.Shown.{line as shown_line, heading_parts, block_parts, block_target, target_part, target_text, shown_item, shown_block}
use Rattle.pf_expansion.specs.Blocks.{is_unnamed}
use Rattle.pf_grammar.specs.declared.fault.Refusal.{Refusal}
use Rattle.pf_grammar.specs.declared.place.Place.{Place}
use Rattle.pf_grammar.specs.Reading.{Sofar, macros_of, judge}
use Rattle.pf_grammar.proofs.ShownTokens.{rule_tokens}
use Rattle.pf_grammar.proofs.Parts.{lexed, at_line, with_newline, AreParts, NoPart, IsPart, parts_append, word_part, open_part, close_part, line_lexes}
use Rattle.pf_grammar.proofs.RuleParts.{more_tokens, one_part, rule_line}
use Rattle.pf_grammar.proofs.Lines.{Simple, all_append, simple_word, flattened_none, rule_short, tokens_at, so_far}
use Rattle.pf_grammar.proofs.Targets.{target_is_part}
use Rattle.pf_grammar.proofs.AnchorLine.{as_rule, FitsHeading, anchor_tokens, anchor_line, behind_are, simple_string, more_short, anchor_short}
use Rattle.pf_grammar.proofs.BlockValues.{FitsItem, FitsItems, name_tokens, heading_tokens, item_tokens, block_tokens}

-- ---- tokens with their lines

abbrev mutual
  -- the line on which a rule ends
  pub end_line : ℕ → ItemValue → ℕ
  end_line n (Filters r) = n
  end_line n (Anchors h) = n
  end_line n (Blocks h block) = after_block (n + 1) block

  -- the line behind the rules of a block
  pub after_block : ℕ → ItemValues → ℕ
  after_block n no_items = n
  after_block n (one_more i is) = after_block (end_line n i + 1) is

abbrev head_tokens : Heading → List Token
head_tokens h = Word (codes "anchor") ∷ (heading_tokens h ++ (Mark Open ∷ []))

abbrev mutual
  pub placed_item : ℕ → ItemValue → List Placed
  placed_item n (Filters r) = map (at_line n) (rule_tokens r)
  placed_item n (Anchors h) = map (at_line n) (anchor_tokens h)
  placed_item n (Blocks h block) = map (at_line n) (head_tokens h) ++ (at_line n Newline ∷ (placed_block (n + 1) block ++ (at_line (after_block (n + 1) block) (Mark Close) ∷ [])))

  pub placed_block : ℕ → ItemValues → List Placed
  placed_block n no_items = []
  placed_block n (one_more i is) = placed_item n i ++ (at_line (end_line n i) Newline ∷ placed_block (end_line n i + 1) is)

-- ---- shown lines have these tokens

name_are : (t : Target) → (target : IsPart (target_part t) (Quoted (target_text t) ∷ [])) → AreParts (block_target t) (name_tokens t)
name_are t target = cases (is_unnamed t.names)
  where
    cases : (b : Bool) → AreParts (cond b [] (target_part t ∷ [])) (cond b [] (Quoted (target_text t) ∷ []))
    cases true = NoPart
    cases false = one_part (target_part t) (Quoted (target_text t) ∷ []) target

head_line : (profile : Profile) (h : Heading) (n : ℕ) (rest : List ℕ) → FitsHeading profile h → lexed n (shown_line (block_parts h) ++ rest) ≡ with_newline n (head_tokens h) rest
unfolding block_parts
head_line profile h n rest fits =
    let name = name_are h.target (target_is_part h.target fits.target) in
    let behind = parts_append (heading_parts h) (codes "{" ∷ []) (more_tokens (as_rule h)) (Mark Open ∷ []) (behind_are profile h fits) (one_part (codes "{") (Mark Open ∷ []) open_part) in
    let all = parts_append (block_target h.target) (heading_parts h ++ codes "{" ∷ []) (name_tokens h.target) (more_tokens (as_rule h) ++ Mark Open ∷ []) name behind in
    line_lexes n (codes "anchor") (block_target h.target ++ (heading_parts h ++ codes "{" ∷ [])) (Word (codes "anchor") ∷ []) (name_tokens h.target ++ (more_tokens (as_rule h) ++ Mark Open ∷ [])) rest (word_part 97 (110 ∷ 99 ∷ 104 ∷ 111 ∷ 114 ∷ []) refl) all
    ∙ ap (λ (us : List Token). with_newline n (Word (codes "anchor") ∷ us) rest) (sym (append_assoc (name_tokens h.target) (more_tokens (as_rule h)) (Mark Open ∷ [])))

close_line : (n : ℕ) (rest : List ℕ) → lexed n (codes "}\n" ++ rest) ≡ at_line n (Mark Close) ∷ at_line n Newline ∷ lexed (n + 1) rest
close_line n rest = line_lexes n (codes "}") [] (Mark Close ∷ []) [] rest close_part NoPart

mutual
  pub item_lexes : (profile : Profile) (u n : ℕ) (i : ItemValue) (rest : List ℕ) → FitsItem profile u i → lexed n (shown_item i ++ rest) ≡ placed_item n i ++ (at_line (end_line n i) Newline ∷ lexed (end_line n i + 1) rest)
  item_lexes profile u n (Filters r) rest fits = rule_line profile r n rest fits
  item_lexes profile u n (Anchors h) rest fits = anchor_line profile h n rest fits.0
  item_lexes profile u n (Blocks h block) rest fits =
      let head = shown_line (block_parts h) in
      let inner = shown_block block in
      let text : (head ++ (inner ++ codes "}\n")) ++ rest ≡ head ++ (inner ++ (codes "}\n" ++ rest)) = append_assoc head (inner ++ codes "}\n") rest ∙ ap (λ (t : List ℕ). head ++ t) (append_assoc inner (codes "}\n") rest) in
      let m = after_block (n + 1) block in
      let ps = map (at_line n) (head_tokens h) in
      let qs = placed_block (n + 1) block in
      let end = at_line m Newline ∷ lexed (m + 1) rest in
      ap (lexed n) text
      ∙ head_line profile h n (inner ++ (codes "}\n" ++ rest)) fits.0
      ∙ ap (λ (us : List Placed). ps ++ (at_line n Newline ∷ us)) (block_lexes profile 0 (n + 1) block (codes "}\n" ++ rest) fits.3 ∙ ap (λ (us : List Placed). qs ++ us) (close_line m rest) ∙ sym (append_assoc qs (at_line m (Mark Close) ∷ []) end))
      ∙ sym (append_assoc ps (at_line n Newline ∷ (qs ++ (at_line m (Mark Close) ∷ []))) end)

  block_lexes : (profile : Profile) (u n : ℕ) (is : ItemValues) (rest : List ℕ) → FitsItems profile u is → lexed n (shown_block is ++ rest) ≡ placed_block n is ++ lexed (after_block n is) rest
  block_lexes profile u n no_items rest fits = refl
  block_lexes profile u n (one_more i is) rest fits =
      let ps = placed_item n i in
      let m = end_line n i in
      ap (lexed n) (append_assoc (shown_item i) (shown_block is) rest)
      ∙ item_lexes profile u n i (shown_block is ++ rest) fits.0
      ∙ ap (λ (us : List Placed). ps ++ (at_line m Newline ∷ us)) (block_lexes profile _ (m + 1) is rest fits.1)
      ∙ sym (append_assoc ps (at_line m Newline ∷ placed_block (m + 1) is) (lexed (after_block (m + 1) is) rest))

-- ---- their tokens without the lines

pub tokens_append : (ps qs : List Placed) → tokens_of (ps ++ qs) ≡ tokens_of ps ++ tokens_of qs
tokens_append [] qs = refl
tokens_append (p ∷ ps) qs = ap (λ (us : List Token). p.token ∷ us) (tokens_append ps qs)

mutual
  pub item_tokens_of : (n : ℕ) (i : ItemValue) → tokens_of (placed_item n i) ≡ item_tokens i
  item_tokens_of n (Filters r) = tokens_at n (rule_tokens r)
  item_tokens_of n (Anchors h) = tokens_at n (anchor_tokens h)
  item_tokens_of n (Blocks h block) =
      let m = after_block (n + 1) block in
      tokens_append (map (at_line n) (head_tokens h)) (at_line n Newline ∷ (placed_block (n + 1) block ++ (at_line m (Mark Close) ∷ [])))
      ∙ ap (λ (us : List Token). us ++ (Newline ∷ tokens_of (placed_block (n + 1) block ++ (at_line m (Mark Close) ∷ [])))) (tokens_at n (head_tokens h))
      ∙ ap (λ (us : List Token). head_tokens h ++ (Newline ∷ us)) (tokens_append (placed_block (n + 1) block) (at_line m (Mark Close) ∷ []) ∙ ap (λ (us : List Token). us ++ (Mark Close ∷ [])) (block_tokens_of (n + 1) block))
      ∙ ap (λ (us : List Token). Word (codes "anchor") ∷ us) (append_assoc (heading_tokens h) (Mark Open ∷ []) (Newline ∷ (block_tokens block ++ (Mark Close ∷ []))))

  block_tokens_of : (n : ℕ) (is : ItemValues) → tokens_of (placed_block n is) ≡ block_tokens is
  block_tokens_of n no_items = refl
  block_tokens_of n (one_more i is) =
      tokens_append (placed_item n i) (at_line (end_line n i) Newline ∷ placed_block (end_line n i + 1) is)
      ∙ ap (λ (us : List Token). us ++ (Newline ∷ tokens_of (placed_block (end_line n i + 1) is))) (item_tokens_of n i)
      ∙ ap (λ (us : List Token). item_tokens i ++ (Newline ∷ us)) (block_tokens_of (end_line n i + 1) is)

-- ---- no token within ends the statement

-- from this depth on no newline stands outside braces
pub data Runs : ℕ → List Placed → ℕ → Type 0 where
  Still : (d : ℕ) → Runs d [] d
  Past : (d e : ℕ) (p : Placed) (ps : List Placed) → ends d p ≡ false → Runs (depth_after d p.token) ps e → Runs d (p ∷ ps) e

runs_append : (d e f : ℕ) (ps qs : List Placed) → Runs d ps e → Runs e qs f → Runs d (ps ++ qs) f
runs_append _ _ f _ qs (Still d) r = r
runs_append _ _ f _ qs (Past d e p ps stays more) r = Past d f p (ps ++ qs) stays (runs_append _ _ f ps qs more r)

-- what a token that goes by leaves
record Gone (t : Token) (c d : ℕ) (ts : List Token) : Type 0 where
  rest : reading_fault [] (c + 1) (depth_after d t) ts ≡ None
  low : nat_lt 64 (depth_after d t) ≡ false

or_gone : (a b x y : Bool) (o : Option ReadingFault) → or_fault a Lexical (or_fault b UnknownMacro (or_fault (x || y) TooMany o)) ≡ None → (o ≡ None) × (y ≡ false)
or_gone true b x y o e = absurd cc
or_gone false true x y o e = absurd cc
or_gone false false true y o e = absurd cc
or_gone false false false true o e = absurd cc
or_gone false false false false o e = (e, refl)

gone : (t : Token) (c d : ℕ) (ts : List Token) → reading_fault [] c d (t ∷ ts) ≡ None → Gone t c d ts
gone t c d ts e = let g = or_gone (is_bad t) (is_unknown [] t) (nat_le 65536 c) (nat_lt 64 (depth_after d t)) (reading_fault [] (c + 1) (depth_after d t) ts) e in record { rest = g.0; low = g.1 }

-- what is in front has no fault where all has none
faults_two : (a b x : Bool) (o q : Option ReadingFault) → (o ≡ None → q ≡ None) → or_fault a Lexical (or_fault b UnknownMacro (or_fault x TooMany o)) ≡ None → or_fault a Lexical (or_fault b UnknownMacro (or_fault x TooMany q)) ≡ None
faults_two true b x o q f e = absurd cc
faults_two false true x o q f e = absurd cc
faults_two false false true o q f e = absurd cc
faults_two false false false o q f e = f e

pub fault_front : (ts us : List Token) (c d : ℕ) → reading_fault [] c d (ts ++ us) ≡ None → reading_fault [] c d ts ≡ None
fault_front [] us c d e = refl
fault_front (t ∷ ts) us c d e = faults_two (is_bad t) (is_unknown [] t) (nat_le 65536 c || nat_lt 64 (depth_after d t)) (reading_fault [] (c + 1) (depth_after d t) (ts ++ us)) (reading_fault [] (c + 1) (depth_after d t) ts) (fault_front ts us (c + 1) (depth_after d t)) e

-- a rule goes by, at this depth
pub record Goes (c d : ℕ) (ps : List Placed) (more : List Token) : Type 0 where
  pub runs : Runs d ps d
  pub count : ℕ
  pub rest : reading_fault [] count d more ≡ None

not_newline : (d : ℕ) (p : Placed) → is_newline p.token ≡ false → ends d p ≡ false
not_newline d p e = cases p.written
  where
    cases : (b : Bool) → (b && is_newline p.token && (d == 0)) ≡ false
    cases true = rw e refl
    cases false = refl

simple_goes : (n c d : ℕ) (ts more : List Token) → AllByRecursion Simple ts → reading_fault [] c d (ts ++ more) ≡ None → Goes c d (map (at_line n) ts) more
simple_goes n c d [] more simple e = record { runs = Still d; count = c; rest = e }
simple_goes n c d (t ∷ ts) more simple e =
    let g = gone t c d (ts ++ more) e in
    let next = simple_goes n (c + 1) d ts more simple.1 (subst (λ (k : ℕ). reading_fault [] (c + 1) k (ts ++ more) ≡ None) (simple.0.level d) g.rest) in
    record {
      runs = Past d d (at_line n t) (map (at_line n) ts) (not_newline d (at_line n t) simple.0.in_line) (subst (λ (k : ℕ). Runs k (map (at_line n) ts) d) (sym (simple.0.level d)) next.runs);
      count = next.count;
      rest = next.rest;
    }

inner_newline : (d n : ℕ) → 1 ≤ d → ends d (at_line n Newline) ≡ false
inner_newline zero n h = absurd (omega (arith, h))
inner_newline (suc d) n h = not_zero d
  where
    not_zero : (d : ℕ) → (suc d == 0) ≡ false
    not_zero d = grind (arith, nat_tests)

-- the brace that opens a block leads one deeper
opened : (d : ℕ) → nat_lt 64 (depth_after d (Mark Open)) ≡ false → depth_after d (Mark Open) ≡ d + 1
opened d e = cases (nat_lt d 65) refl e
  where
    not_less : nat_lt d 65 ≡ false → 65 ≤ d
    not_less h = grind (arith, nat_tests, h)

    above : 65 ≤ d → nat_lt 64 d ≡ true
    above h = grind (arith, nat_tests, h)

    cases : (b : Bool) → nat_lt d 65 ≡ b → nat_lt 64 (cond b (d + 1) d) ≡ false → cond b (d + 1) d ≡ d + 1
    cases true is e = refl
    cases false is e = absurd (false≢true (sym e ∙ above (not_less is)))

name_simple : (t : Target) → AllByRecursion Simple (name_tokens t)
name_simple t = cases (is_unnamed t.names)
  where
    cases : (b : Bool) → AllByRecursion Simple (cond b [] (Quoted (target_text t) ∷ []))
    cases true = tt
    cases false = (simple_string (target_text t), tt)

begun_simple : (h : Heading) → AllByRecursion Simple (Word (codes "anchor") ∷ heading_tokens h)
begun_simple h = (simple_word (codes "anchor"), all_append (name_tokens h.target) (more_tokens (as_rule h)) (name_simple h.target) (more_short h).simple)

map_append : (n : ℕ) (ts us : List Token) → map (at_line n) (ts ++ us) ≡ map (at_line n) ts ++ map (at_line n) us
map_append n [] us = refl
map_append n (t ∷ ts) us = ap (λ (ps : List Placed). at_line n t ∷ ps) (map_append n ts us)

mutual
  pub item_goes : (n c d : ℕ) (i : ItemValue) (more : List Token) → reading_fault [] c d (item_tokens i ++ more) ≡ None → Goes c d (placed_item n i) more
  item_goes n c d (Filters r) more e = simple_goes n c d (rule_tokens r) more (rule_short r).simple e
  item_goes n c d (Anchors h) more e = simple_goes n c d (anchor_tokens h) more (anchor_short h).simple e
  item_goes n c d (Blocks h block) more e =
      let front = Word (codes "anchor") ∷ heading_tokens h in
      let m = after_block (n + 1) block in
      let tail = Mark Close ∷ more in
      let split : item_tokens (Blocks h block) ++ more ≡ front ++ (Mark Open ∷ (Newline ∷ (block_tokens block ++ tail))) =
      append_assoc front (Mark Open ∷ (Newline ∷ (block_tokens block ++ (Mark Close ∷ [])))) more ∙ ap (λ (us : List Token). front ++ (Mark Open ∷ (Newline ∷ us))) (append_assoc (block_tokens block) (Mark Close ∷ []) more) in
      let head = simple_goes n c d front (Mark Open ∷ (Newline ∷ (block_tokens block ++ tail))) (begun_simple h) (ap (reading_fault [] c d) (sym split) ∙ e) in
      let o = gone (Mark Open) head.count d (Newline ∷ (block_tokens block ++ tail)) head.rest in
      let deeper = opened d o.low in
      let l = gone Newline (head.count + 1) (d + 1) (block_tokens block ++ tail) (subst (λ (k : ℕ). reading_fault [] (head.count + 1) k (Newline ∷ (block_tokens block ++ tail)) ≡ None) deeper o.rest) in
      let inner = block_goes (n + 1) (head.count + 1 + 1) (d + 1) block tail (omega arith) l.rest in
      let k = gone (Mark Close) inner.count (d + 1) more inner.rest in
      let back : (d + 1) - 1 ≡ d = omega arith in
      let close : Runs (d + 1) (at_line m (Mark Close) ∷ []) d = Past (d + 1) d (at_line m (Mark Close)) [] refl (subst (λ (j : ℕ). Runs j [] d) (sym back) (Still d)) in
      let within : Runs (d + 1) (at_line n Newline ∷ (placed_block (n + 1) block ++ (at_line m (Mark Close) ∷ []))) d = Past (d + 1) d (at_line n Newline) _ (inner_newline (d + 1) n (omega arith)) (runs_append (d + 1) (d + 1) d (placed_block (n + 1) block) _ inner.runs close) in
      let brace : Runs d (at_line n (Mark Open) ∷ (at_line n Newline ∷ (placed_block (n + 1) block ++ (at_line m (Mark Close) ∷ [])))) d = Past d d (at_line n (Mark Open)) _ refl (subst (λ (j : ℕ). Runs j (at_line n Newline ∷ (placed_block (n + 1) block ++ (at_line m (Mark Close) ∷ []))) d) (sym deeper) within) in
      let whole : placed_item n (Blocks h block) ≡ map (at_line n) front ++ (at_line n (Mark Open) ∷ (at_line n Newline ∷ (placed_block (n + 1) block ++ (at_line m (Mark Close) ∷ [])))) =
      ap (λ (ps : List Placed). ps ++ (at_line n Newline ∷ (placed_block (n + 1) block ++ (at_line m (Mark Close) ∷ [])))) (map_append n front (Mark Open ∷ []))
      ∙ append_assoc (map (at_line n) front) (at_line n (Mark Open) ∷ []) (at_line n Newline ∷ (placed_block (n + 1) block ++ (at_line m (Mark Close) ∷ []))) in
      record {
        runs = subst (λ (ps : List Placed). Runs d ps d) (sym whole) (runs_append d d d (map (at_line n) front) _ head.runs brace);
        count = inner.count + 1;
        rest = subst (λ (j : ℕ). reading_fault [] (inner.count + 1) j more ≡ None) back k.rest;
      }

  block_goes : (n c d : ℕ) (is : ItemValues) (more : List Token) → 1 ≤ d → reading_fault [] c d (block_tokens is ++ more) ≡ None → Goes c d (placed_block n is) more
  block_goes n c d no_items more deep e = record { runs = Still d; count = c; rest = e }
  block_goes n c d (one_more i is) more deep e =
      let one = item_goes n c d i (Newline ∷ (block_tokens is ++ more)) (ap (reading_fault [] c d) (sym (append_assoc (item_tokens i) (Newline ∷ block_tokens is) more)) ∙ e) in
      let l = gone Newline one.count d (block_tokens is ++ more) one.rest in
      let next = block_goes (end_line n i + 1) (one.count + 1) d is more deep l.rest in
      record {
        runs = runs_append d d d (placed_item n i) _ one.runs (Past d d (at_line (end_line n i) Newline) (placed_block (end_line n i + 1) is) (inner_newline d (end_line n i) deep) next.runs);
        count = next.count;
        rest = next.rest;
      }

-- ---- it is one statement

fold_one : (begun : List Placed) (p : Placed) → depth_behind 0 (begun ++ p ∷ []) ≡ depth_after (depth_behind 0 begun) p.token
fold_one begun p = fold-append (λ (d : ℕ) (t : Placed). depth_after d t.token) 0 begun (p ∷ [])

module _ (place : Place) (profile : Profile) (p : Policy) (skip : List Name) (tables : List TableValue) (items : List ItemValue) where
  abbrev from : List Placed → List Placed → Result Sofar Refusal
  from begun ps = reading_from macros_of (judge place profile) (so_far p skip tables items) begun ps

  level : (begun : List Placed) → depth_behind 0 (flattened [] begun) ≡ depth_behind 0 begun
  level begun = ap (depth_behind 0) (flattened_none begun (is_definition begun))

  goes_on : (begun ps rest : List Placed) (d e : ℕ) → depth_behind 0 begun ≡ d → Runs d ps e → from begun (ps ++ rest) ≡ from (begun ++ ps) rest
  unfolding reading_from
  goes_on begun _ rest _ _ is (Still d) = ap (λ (qs : List Placed). from qs rest) (sym (append-nil begun))
  goes_on begun _ rest _ e is (Past d _ q ps stays more) =
      let here : ends (depth_behind 0 (flattened [] begun)) q ≡ false = ap (λ (k : ℕ). ends k q) (level begun ∙ is) ∙ stays in
      rw here (goes_on (begun ++ q ∷ []) ps rest (depth_after d q.token) e (fold_one begun q ∙ ap (λ (k : ℕ). depth_after k q.token) is) more ∙ ap (λ (qs : List Placed). from qs rest) (append_assoc begun (q ∷ []) ps))

  depth_is : (begun ps : List Placed) (d e : ℕ) → depth_behind 0 begun ≡ d → Runs d ps e → depth_behind 0 (begun ++ ps) ≡ e
  depth_is begun _ _ _ is (Still d) = ap (depth_behind 0) (append-nil begun) ∙ is
  depth_is begun _ _ e is (Past d _ q ps stays more) = ap (depth_behind 0) (sym (append_assoc begun (q ∷ []) ps)) ∙ depth_is (begun ++ q ∷ []) ps (depth_after d q.token) e (fold_one begun q ∙ ap (λ (k : ℕ). depth_after k q.token) is) more

  ends_here : (n : ℕ) (begun rest : List Placed) → depth_behind 0 begun ≡ 0 → from begun (at_line n Newline ∷ rest) ≡ (with_statement macros_of (judge place profile) (so_far p skip tables items) begun >>= λ next. reading_from macros_of (judge place profile) next [] rest)
  unfolding reading_from
  ends_here n begun rest is =
      let here : ends (depth_behind 0 (flattened [] begun)) (at_line n Newline) ≡ true = ap (λ (k : ℕ). ends k (at_line n Newline)) (level begun ∙ is) in
      rw here refl

  -- a rule with its block, up to the newline behind it
  pub statement_read : (ps rest : List Placed) (n : ℕ) → Runs 0 ps 0 → from [] (ps ++ (at_line n Newline ∷ rest)) ≡ (with_statement macros_of (judge place profile) (so_far p skip tables items) ps >>= λ next. reading_from macros_of (judge place profile) next [] rest)
  statement_read ps rest n runs = goes_on [] ps (at_line n Newline ∷ rest) 0 0 refl runs ∙ ends_here n ps rest (depth_is [] ps 0 0 refl runs)
