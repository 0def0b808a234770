-- Reading a block, one rule after another.
use Rattle.std.proofs.Common.{◌≡◌, ℕ, zero, suc, ◌+◌, ◌<◌, ◌≤◌, Bool, true, false, cond, List, [], ◌∷◌, ◌++◌, length, drop, Some, None, Result, Ok, Err, OnOk, Vec, Global, refl, sym, ap, ◌∙◌, arith, length-append}
use Rattle.std.specs.Prelude.{codes}
use Rattle.std.proofs.lemmas.Bool.{false≢true}
use Rattle.pf_rules.specs.declared.profile.Profile.{Profile}
use Rattle.pf_tokens.specs.declared.symbol.Symbol.{Symbol}
use Rattle.pf_tokens.specs.declared.symbol.Symbol.TheVariants.{Open, Close}
use Rattle.pf_tokens.specs.declared.stop.Stop.{Stop}
use Rattle.pf_tokens.specs.declared.stop.Stop.TheVariants as stops
use Rattle.pf_tokens.specs.Tokens.{Token, Mark, is_newline}
use Rattle.pf_tokens.specs.Productions.{Read, ◌>>=◌, begins, begins_symbol, option_at, symbol_at, starts, accepted_if}
use Rattle.pf_tokens.specs.inner.Shorter.{begins_shorter, symbol_shorter}
use Rattle.pf_tokens.specs.Parsing.{Parses}
use Rattle.pf_statements.specs.declared.written.WrittenHeading.{WrittenHeading}
use Rattle.pf_statements.specs.declared.written.WrittenItem.{WrittenItem}
use Rattle.pf_statements.specs.declared.written.WrittenItem.TheVariants.{Block, rolls-Block}
use Rattle.pf_statements.specs.declared.written.WrittenItem.TheOpen.{WrittenItem-F}
use Rattle.pf_statements.specs.declared.written.WrittenItem.TheFolds.{fold-roll-WrittenItem}
use Rattle.pf_statements.specs.Options.{is_over}
use Rattle.pf_statements.specs.Anchors.{HeadingText, heading_at}
use Rattle.pf_statements.specs.Statements.{ItemText, BlockItem, ItemTexts, no_texts, one_text, is_wild, anchor_item, block_item, anchor_behind, as_rule, item_with, put_text, items_at, item_at, rule_at}
use Rattle.pf_statements.specs.Seen.{heading_text_of, item_step as seen_step, item_text_of, item_texts_of}
use Rattle.pf_statements.proofs.AnchorsSpelled.{heading_no_longer}
use Rattle.pf_statements.proofs.BlocksSpelled.{item_took, item_word, items_took}

-- a block as it is seen
pub block_text : (h : WrittenHeading) (items : Vec WrittenItem Global) → item_text_of (Block h items) ≡ BlockItem (heading_text_of h) (item_texts_of items.items)
block_text h items = ap item_text_of (sym (rolls-Block h items)) ∙ fold-roll-WrittenItem ItemText seen_step (WrittenItem-F.Block h items)

-- ---- what was taken, or left

pair_is : (r b : Bool) (new old : List Token) → (let given : Bool × List Token = (r, new) in given) ≡ (b, old) → (r ≡ b) × (new ≡ old)
pair_is r b new old e = (ap (λ (p : Bool × List Token). p.0) e, ap (λ (p : Bool × List Token). p.1) e)

abbrev may_take : Bool → List Token → Bool × List Token
may_take b ts = cond b (true, drop 1 ts) (false, ts)

option_accepted : (b r : Bool) (old new : List Token) → (let given : Bool × List Token = (r, new) in given) ≡ may_take b old → r ≡ true → (b ≡ true) × (new ≡ drop 1 old)
option_accepted true r old new e is = (refl, (pair_is r true new (drop 1 old) e).1)
option_accepted false r old new e is = absurd (false≢true (sym (pair_is r false new old e).0 ∙ is))

may_kept : (b r : Bool) (old new : List Token) → (let given : Bool × List Token = (r, new) in given) ≡ may_take b old → r ≡ false → (b ≡ false) × (new ≡ old)
may_kept true r old new e is = absurd (false≢true (sym is ∙ (pair_is r true new (drop 1 old) e).0))
may_kept false r old new e is = (refl, (pair_is r false new old e).1)

pub word_accepted : (word : List ℕ) (r : Bool) (old new : List Token) → (let given : Bool × List Token = (r, new) in given) ≡ option_at word old → r ≡ true → (begins word old ≡ true) × (new ≡ drop 1 old)
unfolding option_at
word_accepted word r old new e is = option_accepted (begins word old) r old new e is

pub word_kept : (word : List ℕ) (r : Bool) (old new : List Token) → (let given : Bool × List Token = (r, new) in given) ≡ option_at word old → r ≡ false → (begins word old ≡ false) × (new ≡ old)
unfolding option_at
word_kept word r old new e is = may_kept (begins word old) r old new e is

pub symbol_accepted : (symbol : Symbol) (r : Bool) (old new : List Token) → (let given : Bool × List Token = (r, new) in given) ≡ symbol_at symbol old → r ≡ true → (begins_symbol symbol old ≡ true) × (new ≡ drop 1 old)
unfolding symbol_at
symbol_accepted symbol r old new e is = option_accepted (begins_symbol symbol old) r old new e is

pub symbol_kept : (symbol : Symbol) (r : Bool) (old new : List Token) → (let given : Bool × List Token = (r, new) in given) ≡ symbol_at symbol old → r ≡ false → (begins_symbol symbol old ≡ false) × (new ≡ old)
unfolding symbol_at
symbol_kept symbol r old new e is = may_kept (begins_symbol symbol old) r old new e is

pub line_accepted : (r : Bool) (old new : List Token) → (let given : Bool × List Token = (r, new) in given) ≡ accepted_if is_newline old → r ≡ true → (starts is_newline old ≡ true) × (new ≡ drop 1 old)
line_accepted r old new e is = option_accepted (starts is_newline old) r old new e is

pub line_kept : (r : Bool) (old new : List Token) → (let given : Bool × List Token = (r, new) in given) ≡ accepted_if is_newline old → r ≡ false → (starts is_newline old ≡ false) × (new ≡ old)
line_kept r old new e is = may_kept (starts is_newline old) r old new e is

pub line_shorter : (ts : List Token) → starts is_newline ts ≡ true → length (drop 1 ts) < length ts
line_shorter [] e = absurd (false≢true e)
line_shorter (t ∷ ts) e = omega arith

-- ---- a rule of any kind

pub item_rule : (n : ℕ) (profile : Profile) (ts : List Token) → begins (codes "anchor") ts ≡ false → item_at n profile ts ≡ (rule_at profile ts >>= as_rule)
unfolding item_at item_with
item_rule n profile ts a = rw a refl

pub item_no_heading : (n : ℕ) (profile : Profile) (ts : List Token) → begins (codes "anchor") ts ≡ true → heading_at profile (drop 1 ts) ≡ None → item_at n profile ts ≡ None
unfolding item_at item_with
item_no_heading n profile ts a e = rw (a, e) refl

pub item_anchor : (n : ℕ) (profile : Profile) (ts rest : List Token) (h : HeadingText) → begins (codes "anchor") ts ≡ true → heading_at profile (drop 1 ts) ≡ Some (h, rest) → begins_symbol Open rest ≡ false → item_at n profile ts ≡ anchor_item h rest
unfolding item_at item_with anchor_behind
item_anchor n profile ts rest h a e o = rw (a, e, o) refl

pub item_wild : (n : ℕ) (profile : Profile) (ts rest : List Token) (h : HeadingText) → begins (codes "anchor") ts ≡ true → heading_at profile (drop 1 ts) ≡ Some (h, rest) → begins_symbol Open rest ≡ true → is_wild h.target ≡ true → item_at n profile ts ≡ None
unfolding item_at item_with anchor_behind
item_wild n profile ts rest h a e o w = rw (a, e, o, w) refl

pub item_block : (n : ℕ) (profile : Profile) (ts rest : List Token) (h : HeadingText) → begins (codes "anchor") ts ≡ true → heading_at profile (drop 1 ts) ≡ Some (h, rest) → begins_symbol Open rest ≡ true → is_wild h.target ≡ false → item_at n profile ts ≡ (items_at n profile (drop 1 rest) >>= block_item h)
unfolding item_at item_with anchor_behind
item_block n profile ts rest h a e o w = rw (a, e, o, w) refl

-- a rule of any kind takes a token at least
pub item_shorter : (profile : Profile) (ts rest : List Token) (item : ItemText) → item_at (length ts) profile ts ≡ Some (item, rest) → length rest < length ts
item_shorter profile ts rest item e =
    let t = (item_took (length ts) profile ts (item, rest) e).took in
    let w = item_word profile t.piece item t.is in
    let whole = ap (λ (us : List Token). length us) t.whole in
    let more = ap (λ (us : List Token). length us) w.whole in
    omega (arith, whole, more, length-append t.piece rest)

-- a block takes a token at least: the brace that closes it
pub items_shorter : (n : ℕ) (profile : Profile) (ts rest : List Token) (items : ItemTexts) → items_at n profile ts ≡ Some (items, rest) → length rest < length ts
items_shorter n profile ts rest items e =
    let t = items_took n profile ts (items, rest) e in
    let whole = ap (λ (us : List Token). length us) t.whole in
    omega (arith, whole, length-append t.piece (Mark Close ∷ rest))

-- ---- a block

-- rules behind those that were read before
abbrev pub behind : List WrittenItem → ItemTexts → ItemTexts
behind [] more = more
behind (i ∷ is) more = one_text (item_text_of i) (behind is more)

behind_none : (is : List WrittenItem) → behind is no_texts ≡ item_texts_of is
behind_none [] = refl
behind_none (i ∷ is) = ap (one_text (item_text_of i)) (behind_none is)

behind_one : (is : List WrittenItem) (i : WrittenItem) (more : ItemTexts) → behind is (one_text (item_text_of i) more) ≡ behind (is ++ i ∷ []) more
behind_one [] i more = refl
behind_one (j ∷ is) i more = ap (one_text (item_text_of j)) (behind_one is i more)

abbrev pub with_front : List WrittenItem → Read ItemTexts → Read ItemTexts
with_front items more = more >>= λ m. Some (behind items m.0, m.1)

module _ (profile : Profile) (total : Read ItemTexts) where
  -- what is left gives what all gives
  pub record Going (items : List WrittenItem) (ts : List Token) : Type 0 where
    pub steps : ℕ
    pub enough : length ts < steps
    pub same : with_front items (items_at steps profile ts) ≡ total

  abbrev Goes : ℕ → List WrittenItem → List Token → Type 0
  Goes n items ts = with_front items (items_at n profile ts) ≡ total

  newline_step : (n : ℕ) (items : List WrittenItem) (ts : List Token) → length ts < n → Goes n items ts → starts is_newline ts ≡ true → Going items (drop 1 ts)
  unfolding items_at
  newline_step zero items ts enough goes e = absurd (omega (arith, enough))
  newline_step (suc n) items ts enough goes e = record { steps = n; enough = omega (arith, enough, line_shorter ts e); same = rw e at goes }

  pub nested_newline : (items : List WrittenItem) (ts : List Token) → Going items ts → starts is_newline ts ≡ true → Going items (drop 1 ts)
  nested_newline items ts g e = newline_step g.steps items ts g.enough g.same e

  close_step : (n : ℕ) (items : List WrittenItem) (ts : List Token) → length ts < n → Goes n items ts → starts is_newline ts ≡ false → begins_symbol Close ts ≡ true → total ≡ Some (item_texts_of items, drop 1 ts)
  unfolding items_at
  close_step zero items ts enough goes e q = absurd (omega (arith, enough))
  close_step (suc n) items ts enough goes e q = sym (rw (e, q, behind_none items) at goes)

  pub nested_close : (items : List WrittenItem) (ts : List Token) → Going items ts → starts is_newline ts ≡ false → begins_symbol Close ts ≡ true → total ≡ Some (item_texts_of items, drop 1 ts)
  nested_close items ts g e q = close_step g.steps items ts g.enough g.same e q

  regroup : (items : List WrittenItem) (i : WrittenItem) (more : Read ItemTexts) → with_front items (more >>= put_text (item_text_of i)) ≡ with_front (items ++ i ∷ []) more
  regroup items i None = refl
  regroup items i (Some m) = ap (λ (es : ItemTexts). let read : Read ItemTexts = Some (es, m.1) in read) (behind_one items i m.0)

  item_step : (n : ℕ) (items : List WrittenItem) (i : WrittenItem) (ts rest : List Token) → length ts < n → Goes n items ts → starts is_newline ts ≡ false → begins_symbol Close ts ≡ false
      → ((m : ℕ) → length ts ≤ m → item_at m profile ts ≡ Some (item_text_of i, rest)) → length rest < length ts → Going (items ++ i ∷ []) rest
  unfolding items_at item_at
  item_step zero items i ts rest enough goes e q is_some shorter = absurd (omega (arith, enough))
  item_step (suc n) items i ts rest enough goes e q is_some shorter = record { steps = n; enough = omega (arith, enough, shorter); same = sym (regroup items i (items_at n profile rest)) ∙ (rw (e, q, is_some n (omega (arith, enough))) at goes) }

  pub nested_item : (items : List WrittenItem) (i : WrittenItem) (ts rest : List Token) → Going items ts → starts is_newline ts ≡ false → begins_symbol Close ts ≡ false
      → ((m : ℕ) → length ts ≤ m → item_at m profile ts ≡ Some (item_text_of i, rest)) → length rest < length ts → Going (items ++ i ∷ []) rest
  nested_item items i ts rest g e q is_some shorter = item_step g.steps items i ts rest g.enough g.same e q is_some shorter

  none_step : (n : ℕ) (items : List WrittenItem) (ts : List Token) → length ts < n → Goes n items ts → starts is_newline ts ≡ false → begins_symbol Close ts ≡ false → ((m : ℕ) → length ts ≤ m → item_at m profile ts ≡ None) → total ≡ None
  unfolding items_at item_at
  none_step zero items ts enough goes e q is_none = absurd (omega (arith, enough))
  none_step (suc n) items ts enough goes e q is_none = sym (rw (e, q, is_none n (omega (arith, enough))) at goes)

  pub nested_none : (items : List WrittenItem) (ts : List Token) → Going items ts → starts is_newline ts ≡ false → begins_symbol Close ts ≡ false → ((m : ℕ) → length ts ≤ m → item_at m profile ts ≡ None) → total ≡ None
  nested_none items ts g e q is_none = none_step g.steps items ts g.enough g.same e q is_none

with_none : (more : Read ItemTexts) → with_front [] more ≡ more
with_none None = refl
with_none (Some m) = refl

pub nested_first : (n : ℕ) (profile : Profile) (ts : List Token) → length ts < n → Going profile (items_at n profile ts) [] ts
nested_first n profile ts enough = record { steps = n; enough = enough; same = with_none (items_at n profile ts) }

-- where an item isn't spelled, with any number of steps that is enough, of which there is one, neither is the block
pub stopped : (e : Stop) (ts : List Token) (Fits : ℕ → Type 0) (reads : ℕ → Read ItemText) (whole : Read ItemTexts) (m : ℕ) → Fits m → ((k : ℕ) → Fits k → Parses item_text_of (Err e) ts (reads k)) → (((k : ℕ) → Fits k → reads k ≡ None) → whole ≡ None)
    → Parses {X = Vec WrittenItem Global} (λ v. item_texts_of v.items) (Err e) ts whole
stopped stops.Memory ts Fits reads whole m fits p f = tt
stopped stops.TooMany ts Fits reads whole m fits p f = tt
stopped stops.Syntax ts Fits reads whole m fits p f = f p

-- what was parsed takes a token at least
pub parsed_shorter : (profile : Profile) (old new : List Token) (result : Result WrittenItem Stop) → Parses item_text_of result new (item_at (length old) profile old) → OnOk result (length new < length old)
parsed_shorter profile old new (Ok x) p = item_shorter profile old new (item_text_of x) p
parsed_shorter profile old new (Err e) p = tt

-- behind the brace that opens a block fewer tokens are left
pub inner_shorter : (profile : Profile) (old behind head inner : List Token) (h : HeadingText) → begins (codes "anchor") old ≡ true → behind ≡ drop 1 old → heading_at profile behind ≡ Some (h, head) → begins_symbol Open head ≡ true → inner ≡ drop 1 head → length inner + 1 < length old
inner_shorter profile old behind head inner h anchor behind_is e opens inner_is =
    let a = begins_shorter (codes "anchor") old anchor in
    let b = ap (λ (us : List Token). length us) behind_is in
    let c = heading_no_longer profile behind (h, head) e in
    let d = symbol_shorter Open head opens in
    let f = ap (λ (us : List Token). length us) inner_is in
    omega (arith, a, b, c, d, f)

pub item_not_over : (n : ℕ) (profile : Profile) (ts rest end : List Token) (h : HeadingText) (items : ItemTexts) → begins (codes "anchor") ts ≡ true → heading_at profile (drop 1 ts) ≡ Some (h, rest) → begins_symbol Open rest ≡ true → is_wild h.target ≡ false → items_at n profile (drop 1 rest) ≡ Some (items, end) → is_over end ≡ false → item_at n profile ts ≡ None
unfolding item_at item_with anchor_behind
item_not_over n profile ts rest end h items a e o w b over = rw (a, e, o, w, b, over) refl

pub item_whole : (n : ℕ) (profile : Profile) (ts rest end : List Token) (h : HeadingText) (items : ItemTexts) → begins (codes "anchor") ts ≡ true → heading_at profile (drop 1 ts) ≡ Some (h, rest) → begins_symbol Open rest ≡ true → is_wild h.target ≡ false → items_at n profile (drop 1 rest) ≡ Some (items, end) → is_over end ≡ true → item_at n profile ts ≡ Some (BlockItem h items, end)
unfolding item_at item_with anchor_behind
item_whole n profile ts rest end h items a e o w b over = rw (a, e, o, w, b, over) refl
