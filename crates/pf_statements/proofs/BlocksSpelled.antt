-- Rules of any kind, and blocks of them, are read exactly where the grammar spells them.
use Rattle.std.proofs.Common.{◌≡◌, ℕ, zero, suc, ◌<◌, ◌≤◌, Bool, true, false, cond, List, [], ◌∷◌, ◌++◌, drop, length, Some, None, refl, sym, ap, subst, ◌∙◌, append_assoc, arith}
use Rattle.std.specs.Prelude.{codes}
use Rattle.std.proofs.lemmas.List.{length-append}
use Rattle.pf_rules.specs.declared.profile.Profile.{Profile}
use Rattle.pf_tokens.specs.declared.symbol.Symbol.TheVariants.{Open, Close}
use Rattle.pf_tokens.specs.Tokens.{Token, Word, Quoted, Macro, Mark, Newline, Bad, is_newline}
use Rattle.pf_tokens.specs.Productions.{Read, ◌>>=◌, begins, begins_symbol, starts}
use Rattle.pf_tokens.specs.inner.Shorter.{bind_some, some_is}
use Rattle.pf_statements.specs.Conditions.{if_so}
use Rattle.pf_tokens.proofs.Fronts.{Took, begins_is, symbol_is}
use Rattle.pf_statements.proofs.PiecesSpelled.{if_so_is}
use Rattle.pf_statements.specs.Options.{is_over}
use Rattle.pf_statements.specs.Anchors.{AnchorText, HeadingText, anchor_with, heading_at}
use Rattle.pf_statements.specs.Statements.{RuleText, ItemText, RuleItem, AnchorItem, BlockItem, ItemTexts, no_texts, one_text, is_wild, anchor_item, block_item, anchor_behind, as_rule, item_with, put_text, items_at, item_at, rule_at}
use Rattle.pf_statements.specs.Grammar.{IsRule, IsAnchor, IsHeading, IsItem, ARule, AnAnchor, ABlock, AreItems, NoItem, EmptyLine, OneItem}
use Rattle.pf_statements.proofs.Over.{over_follows, open_follows, over_not_open, over_within, over_before}
use Rattle.pf_statements.proofs.OptionsSpelled.{rule_reads, rule_took, rule_not, WordFirst, rule_word}
use Rattle.pf_statements.proofs.AnchorsSpelled.{heading_reads, heading_took, heading_with, anchor_heading, heading_anchor}

-- ---- what the grammar spells is read

abbrev ItemRead : Profile → List Token → ItemText → Type 0
ItemRead profile ts item = (n : ℕ) (rest : List Token) → length ts ≤ n → is_over rest ≡ true → item_at n profile (ts ++ rest) ≡ Some (item, rest)

abbrev ItemsRead : Profile → List Token → ItemTexts → Type 0
ItemsRead profile us items = (n : ℕ) (rest : List Token) → length us < n → items_at n profile (us ++ (Mark Close ∷ rest)) ≡ Some (items, rest)

read_rule : (profile : Profile) (ts : List Token) (r : RuleText) → IsRule profile ts r → ItemRead profile ts (RuleItem r)
unfolding item_at item_with
read_rule profile ts r is n rest enough over = rw (rule_not (codes "anchor") refl refl profile ts rest r is, rule_reads profile ts rest r is over) refl

read_anchor : (profile : Profile) (ts : List Token) (a : AnchorText) → IsAnchor profile ts a → ItemRead profile (Word (codes "anchor") ∷ ts) (AnchorItem a)
unfolding item_at item_with anchor_behind
read_anchor profile ts a is n rest enough over =
    rw (heading_reads profile ts rest (heading_with a) (anchor_heading profile ts a is) (over_follows profile rest over), over_not_open rest over, over) refl

block_split : (ts us rest : List Token) → (ts ++ (Mark Open ∷ (us ++ (Mark Close ∷ [])))) ++ rest ≡ ts ++ (Mark Open ∷ (us ++ (Mark Close ∷ rest)))
block_split ts us rest = append_assoc ts (Mark Open ∷ (us ++ (Mark Close ∷ []))) rest ∙ ap (λ (vs : List Token). ts ++ (Mark Open ∷ vs)) (append_assoc us (Mark Close ∷ []) rest)

read_block : (profile : Profile) (ts us : List Token) (h : HeadingText) (items : ItemTexts) → IsHeading profile ts h → is_wild h.target ≡ false → ItemsRead profile us items → ItemRead profile (Word (codes "anchor") ∷ (ts ++ (Mark Open ∷ (us ++ (Mark Close ∷ []))))) (BlockItem h items)
unfolding item_at item_with anchor_behind
read_block profile ts us h items is wild more n rest enough over =
    let fewer : length us < n = (let k = length-append ts (Mark Open ∷ (us ++ (Mark Close ∷ []))) in let l = length-append us (Mark Close ∷ []) in omega (arith, enough, k, l)) in
    rw (
      block_split ts us rest,
      heading_reads profile ts (Mark Open ∷ (us ++ (Mark Close ∷ rest))) h is (open_follows profile (us ++ (Mark Close ∷ rest))),
      wild,
      more n rest fewer,
      over,
    ) refl

read_none : (profile : Profile) → ItemsRead profile [] no_texts
unfolding items_at
read_none profile zero rest enough = absurd (omega (arith, enough))
read_none profile (suc n) rest enough = refl

read_line : (profile : Profile) (ts : List Token) (items : ItemTexts) → ItemsRead profile ts items → ItemsRead profile (Newline ∷ ts) items
unfolding items_at
read_line profile ts items more zero rest enough = absurd (omega (arith, enough))
read_line profile ts items more (suc n) rest enough = more n rest (omega (arith, enough))

-- a rule of any kind begins with a word
pub item_word : (profile : Profile) (ts : List Token) (item : ItemText) → IsItem profile ts item → WordFirst ts
item_word profile _ _ (ARule ts rule is) = rule_word profile ts rule is
item_word profile _ _ (AnAnchor ts anchor is) = record { text = codes "anchor"; behind = ts; whole = refl }
item_word profile _ _ (ABlock ts us h items is wild are) = record { text = codes "anchor"; behind = ts ++ (Mark Open ∷ (us ++ (Mark Close ∷ []))); whole = refl }

read_more : (profile : Profile) (ts us : List Token) (item : ItemText) (items : ItemTexts) → WordFirst ts → is_over us ≡ true → ItemRead profile ts item → ItemsRead profile us items → ItemsRead profile (ts ++ us) (one_text item items)
unfolding items_at item_at
read_more profile ts us item items first over one more zero rest enough = absurd (omega (arith, enough))
read_more profile ts us item items first over one more (suc n) rest enough =
    let l = length-append ts us in
    let w = ap (λ (vs : List Token). length vs) first.whole in
    let whole : (ts ++ us) ++ (Mark Close ∷ rest) ≡ ts ++ (us ++ (Mark Close ∷ rest)) = append_assoc ts us (Mark Close ∷ rest) in
    let no_line : starts is_newline (ts ++ (us ++ (Mark Close ∷ rest))) ≡ false = ap (λ (vs : List Token). starts is_newline (vs ++ (us ++ (Mark Close ∷ rest)))) first.whole in
    let no_close : begins_symbol Close (ts ++ (us ++ (Mark Close ∷ rest))) ≡ false = ap (λ (vs : List Token). begins_symbol Close (vs ++ (us ++ (Mark Close ∷ rest)))) first.whole in
    rw (whole, no_line, no_close, one n (us ++ (Mark Close ∷ rest)) (omega (arith, enough, l)) (over_within us rest over), more n rest (omega (arith, enough, l, w))) refl

mutual
  pub item_reads : (profile : Profile) (ts : List Token) (item : ItemText) → IsItem profile ts item → ItemRead profile ts item
  item_reads profile _ _ (ARule ts rule is) = read_rule profile ts rule is
  item_reads profile _ _ (AnAnchor ts anchor is) = read_anchor profile ts anchor is
  item_reads profile _ _ (ABlock ts us h items is wild are) = read_block profile ts us h items is wild (items_read profile us items are)

  pub items_read : (profile : Profile) (us : List Token) (items : ItemTexts) → AreItems profile us items → ItemsRead profile us items
  items_read profile _ _ NoItem = read_none profile
  items_read profile _ _ (EmptyLine ts items are) = read_line profile ts items (items_read profile ts items are)
  items_read profile _ _ (OneItem ts us item items is over are) = read_more profile ts us item items (item_word profile ts item is) over (item_reads profile ts item is) (items_read profile us items are)

-- ---- what is read is of the grammar

-- what was read of a block, up to the brace that closes it
pub record TookItems (profile : Profile) (ts : List Token) (x : ItemTexts × List Token) : Type 0 where
  pub piece : List Token
  pub whole : ts ≡ piece ++ (Mark Close ∷ x.1)
  pub are : AreItems profile piece x.0

-- what was read of a rule, and that it is over behind it
pub record TookItem (profile : Profile) (ts : List Token) (x : ItemText × List Token) : Type 0 where
  pub took : Took (IsItem profile) ts x
  pub over : is_over x.1 ≡ true

took_rule : (profile : Profile) (ts : List Token) (x : ItemText × List Token) → (rule_at profile ts >>= as_rule) ≡ Some x → TookItem profile ts x
took_rule profile ts x e =
    let a = bind_some (rule_at profile ts) as_rule x e in
    let t = rule_took profile ts a.0 a.1 in
    subst (TookItem profile ts) (some_is (RuleItem a.0.0, a.0.1) x a.2) (record { took = record { piece = t.took.piece; whole = t.took.whole; is = ARule t.took.piece a.0.0 t.took.is }; over = t.over })

module _ (profile : Profile) (ts : List Token) (x : ItemText × List Token) (anchor : ts ≡ Word (codes "anchor") ∷ drop 1 ts) (h : HeadingText × List Token) (head : Took (IsHeading profile) (drop 1 ts) h) where
  took_anchor : anchor_item h.0 h.1 ≡ Some x → TookItem profile ts x
  took_anchor e =
      let t = bind_some h.0.target (λ target. if_so (is_over h.1) (AnchorItem (anchor_with h.0 target), h.1)) x e in
      let k = if_so_is (is_over h.1) (AnchorItem (anchor_with h.0 t.0), h.1) x t.2 in
      subst (TookItem profile ts) k.1 (record {
        took = record {
          piece = Word (codes "anchor") ∷ head.piece;
          whole = anchor ∙ ap (λ (us : List Token). Word (codes "anchor") ∷ us) head.whole;
          is = AnAnchor head.piece (anchor_with h.0 t.0) (heading_anchor profile head.piece h.0 t.0 head.is t.1);
        };
        over = k.0;
      })

  took_block : (block : List Token → Read ItemTexts) → ((us : List Token) (y : ItemTexts × List Token) → block us ≡ Some y → TookItems profile us y) → begins_symbol Open h.1 ≡ true → is_wild h.0.target ≡ false → (block (drop 1 h.1) >>= block_item h.0) ≡ Some x → TookItem profile ts x
  took_block block takes opens wild e =
      let b = bind_some (block (drop 1 h.1)) (block_item h.0) x e in
      let m = takes (drop 1 h.1) b.0 b.1 in
      let k = if_so_is (is_over b.0.1) (BlockItem h.0 b.0.0, b.0.1) x b.2 in
      subst (TookItem profile ts) k.1 (record {
        took = record {
          piece = Word (codes "anchor") ∷ (head.piece ++ (Mark Open ∷ (m.piece ++ (Mark Close ∷ []))));
          whole =
              anchor ∙ ap (λ (us : List Token). Word (codes "anchor") ∷ us)
              (head.whole ∙ ap (λ (us : List Token). head.piece ++ us) (symbol_is Open h.1 opens ∙ ap (λ (us : List Token). Mark Open ∷ us) m.whole) ∙ sym (block_split head.piece m.piece b.0.1));
          is = ABlock head.piece m.piece h.0 b.0.0 head.is wild m.are;
        };
        over = k.0;
      })

  took_behind : (block : List Token → Read ItemTexts) → ((us : List Token) (y : ItemTexts × List Token) → block us ≡ Some y → TookItems profile us y) → anchor_behind block h.0 h.1 ≡ Some x → TookItem profile ts x
  unfolding anchor_behind
  took_behind block takes e = cases (begins_symbol Open h.1) (is_wild h.0.target) refl refl e
    where
      cases : (o w : Bool) → begins_symbol Open h.1 ≡ o → is_wild h.0.target ≡ w → cond o (cond w None (block (drop 1 h.1) >>= block_item h.0)) (anchor_item h.0 h.1) ≡ Some x → TookItem profile ts x
      cases true true o_is w_is e = absurd cc
      cases true false o_is w_is e = took_block block takes o_is w_is e
      cases false w o_is w_is e = took_anchor e

item_took_with : (profile : Profile) (block : List Token → Read ItemTexts) → ((us : List Token) (y : ItemTexts × List Token) → block us ≡ Some y → TookItems profile us y) → (ts : List Token) (x : ItemText × List Token) → item_with block profile ts ≡ Some x → TookItem profile ts x
unfolding item_with
item_took_with profile block takes ts x e = cases (begins (codes "anchor") ts) refl e
  where
    cases : (b : Bool) → begins (codes "anchor") ts ≡ b → cond b (heading_at profile (drop 1 ts) >>= λ h. anchor_behind block h.0 h.1) (rule_at profile ts >>= as_rule) ≡ Some x → TookItem profile ts x
    cases true b_is e =
        let h = bind_some (heading_at profile (drop 1 ts)) (λ h. anchor_behind block h.0 h.1) x e in
        took_behind profile ts x (begins_is (codes "anchor") ts b_is) h.0 (heading_took profile (drop 1 ts) h.0 h.1) block takes h.2
    cases false b_is e = took_rule profile ts x e

newline_is : (ts : List Token) → starts is_newline ts ≡ true → ts ≡ Newline ∷ drop 1 ts
newline_is [] e = absurd (let h = e in cc)
newline_is (Word text ∷ ts) e = absurd (let h = e in cc)
newline_is (Quoted text ∷ ts) e = absurd (let h = e in cc)
newline_is (Macro name ∷ ts) e = absurd (let h = e in cc)
newline_is (Mark symbol ∷ ts) e = absurd (let h = e in cc)
newline_is (Newline ∷ ts) e = refl
newline_is (Bad ∷ ts) e = absurd (let h = e in cc)

took_more : (profile : Profile) (n : ℕ) → ((us : List Token) (y : ItemTexts × List Token) → items_at n profile us ≡ Some y → TookItems profile us y) → (ts : List Token) (x : ItemTexts × List Token) → (item_with (items_at n profile) profile ts >>= λ item. items_at n profile item.1 >>= put_text item.0) ≡ Some x → TookItems profile ts x
took_more profile n takes ts x e =
    let a = bind_some (item_with (items_at n profile) profile ts) (λ item. items_at n profile item.1 >>= put_text item.0) x e in
    let one = item_took_with profile (items_at n profile) takes ts a.0 a.1 in
    let b = bind_some (items_at n profile a.0.1) (put_text a.0.0) x a.2 in
    let more = takes a.0.1 b.0 b.1 in
    let over : is_over more.piece ≡ true = over_before more.piece b.0.1 (sym (ap is_over more.whole) ∙ one.over) in
    subst (TookItems profile ts) (some_is (one_text a.0.0 b.0.0, b.0.1) x b.2) (record {
      piece = one.took.piece ++ more.piece;
      whole = one.took.whole ∙ ap (λ (us : List Token). one.took.piece ++ us) more.whole ∙ sym (append_assoc one.took.piece more.piece (Mark Close ∷ b.0.1));
      are = OneItem one.took.piece more.piece a.0.0 b.0.0 one.took.is over more.are;
    })

took_step : (profile : Profile) (n : ℕ) → ((us : List Token) (y : ItemTexts × List Token) → items_at n profile us ≡ Some y → TookItems profile us y) → (ts : List Token) (x : ItemTexts × List Token) → items_at (suc n) profile ts ≡ Some x → TookItems profile ts x
unfolding items_at
took_step profile n takes ts x e = cases (starts is_newline ts) (begins_symbol Close ts) refl refl e
  where
    cases : (l c : Bool) → starts is_newline ts ≡ l → begins_symbol Close ts ≡ c
        → cond l (items_at n profile (drop 1 ts)) (cond c (Some (no_texts, drop 1 ts)) (item_with (items_at n profile) profile ts >>= λ item. items_at n profile item.1 >>= put_text item.0)) ≡ Some x → TookItems profile ts x
    cases true c l_is c_is e =
        let m = takes (drop 1 ts) x e in
        record { piece = Newline ∷ m.piece; whole = newline_is ts l_is ∙ ap (λ (us : List Token). Newline ∷ us) m.whole; are = EmptyLine m.piece x.0 m.are }
    cases false true l_is c_is e = subst (TookItems profile ts) (some_is (no_texts, drop 1 ts) x e) (record { piece = []; whole = symbol_is Close ts c_is; are = NoItem })
    cases false false l_is c_is e = took_more profile n takes ts x e

pub items_took : (n : ℕ) (profile : Profile) (ts : List Token) (x : ItemTexts × List Token) → items_at n profile ts ≡ Some x → TookItems profile ts x
unfolding items_at
items_took zero profile ts x e = absurd cc
items_took (suc n) profile ts x e = took_step profile n (λ us y. items_took n profile us y) ts x e

pub item_took : (n : ℕ) (profile : Profile) (ts : List Token) (x : ItemText × List Token) → item_at n profile ts ≡ Some x → TookItem profile ts x
unfolding item_at
item_took n profile ts x e = item_took_with profile (items_at n profile) (items_took n profile) ts x e
