use Rattle.std.proofs.Common.{rules, ◌≡◌, ◌≤◌, ◌<◌, ℕ, length, drop, Some, Err, ◌+◌, ◌*◌, Vec, Global, sym, ap, subst, refl, ◌∙◌, arith, List}
use Rattle.std.specs.Prelude.{codes}
use Rattle.pf_tokens.specs.declared.symbol.Symbol.TheVariants.{Open, Close}
use Rattle.pf_tokens.specs.Tokens.{Token}
use Rattle.pf_tokens.specs.Productions.{Read, ◌>>=◌, begins_symbol}
use Rattle.pf_tokens.specs.Parsing.{left, Parses}
use Rattle.pf_statements.specs.declared.written.WrittenItem.{WrittenItem}
use Rattle.pf_statements.specs.Anchors.{heading_at}
use Rattle.pf_statements.specs.Statements.{ItemText, ItemTexts, anchor_item, block_item, item_at, items_at, rule_item_at}
use Rattle.pf_statements.specs.Seen.{heading_text_of, item_text_of, item_texts_of}
use Rattle.pf_statements.proofs.OverSteps.{stops_too}
use Rattle.pf_statements.proofs.BlockSteps.{block_text, word_accepted, word_kept, symbol_accepted, symbol_kept, line_accepted, line_kept, line_shorter, item_rule, item_no_heading, item_anchor, item_wild, item_block, item_not_over, item_whole, parsed_shorter, inner_shorter, items_shorter, nested_first, nested_newline, nested_close, nested_item, nested_none, stopped}
use Rattle.pf_statements.proofs.blocks.+block.Goals as goal

pub read_item-returns-then-not-accept-clause-read : goal.read_item-returns-then-not-accept-clause-read
read_item-returns-then-not-accept-clause-read t c n enough =
    let kept = word_kept (codes "anchor") c.accept.result (left c.args.parser.now) (left c.accept.new.self) c.accept.ensures.read c.if-not-accept.true in
    let same : rule_item_at c.args.cx.profile (left c.accept.new.self) ≡ item_at n c.args.cx.profile (left c.args.parser.now) = ap (rule_item_at c.args.cx.profile) kept.1 ∙ sym (item_rule n c.args.cx.profile (left c.args.parser.now) kept.0) in
    subst (λ (r : Read ItemText). Parses item_text_of c.read_rule_item.result (left c.read_rule_item.new.parser) r) same c.read_rule_item.ensures.read

pub read_item-returns-then-not-accept-clause-shorter : goal.read_item-returns-then-not-accept-clause-shorter
read_item-returns-then-not-accept-clause-shorter t c =
    parsed_shorter c.args.cx.profile (left c.args.parser.now) (left c.read_rule_item.new.parser) c.read_rule_item.result (read_item-returns-then-not-accept-clause-read t c (length (left c.args.parser.now)) (omega arith))

pub read_item-returns-in_err-heading-clause-read : goal.read_item-returns-in_err-heading-clause-read
read_item-returns-in_err-heading-clause-read t c n enough =
    let it = word_accepted (codes "anchor") c.accept.result (left c.args.parser.now) (left c.accept.new.self) c.accept.ensures.read c.if-not-accept.false in
    let same : c.from_residual.result ≡ Err c.in_err-heading.field-0.0 = search rules in
    rw same (stops_too heading_text_of item_text_of c.in_err-heading.field-0.0 (left c.read_heading.new.parser) (left c.read_heading.new.parser) (heading_at c.args.cx.profile (left c.accept.new.self)) (item_at n c.args.cx.profile (left c.args.parser.now)) c.in_err-heading.ensures.read
    (λ none. item_no_heading n c.args.cx.profile (left c.args.parser.now) it.0 (ap (heading_at c.args.cx.profile) (sym it.1) ∙ none)))

pub read_item-returns-then-not-accept_symbol-clause-read : goal.read_item-returns-then-not-accept_symbol-clause-read
read_item-returns-then-not-accept_symbol-clause-read t c n enough =
    let it = word_accepted (codes "anchor") c.accept.result (left c.args.parser.now) (left c.accept.new.self) c.accept.ensures.read c.if-not-accept.false in
    let h = heading_text_of c.in_ok-heading.heading in
    let rest = left c.read_heading.new.parser in
    let kept = symbol_kept Open c.accept_symbol.result rest (left c.accept_symbol.new.self) c.accept_symbol.ensures.read c.if-not-accept_symbol.true in
    let same : anchor_item h (left c.accept_symbol.new.self) ≡ item_at n c.args.cx.profile (left c.args.parser.now) =
    ap (anchor_item h) kept.1 ∙ sym (item_anchor n c.args.cx.profile (left c.args.parser.now) rest h it.0 (ap (heading_at c.args.cx.profile) (sym it.1) ∙ c.in_ok-heading.ensures.read) kept.0) in
    subst (λ (r : Read ItemText). Parses item_text_of c.end_anchor.result (left c.accept_symbol.new.self) r) same c.end_anchor.ensures

pub read_item-returns-then-not-accept_symbol-clause-shorter : goal.read_item-returns-then-not-accept_symbol-clause-shorter
read_item-returns-then-not-accept_symbol-clause-shorter t c =
    parsed_shorter c.args.cx.profile (left c.args.parser.now) (left c.accept_symbol.new.self) c.end_anchor.result (read_item-returns-then-not-accept_symbol-clause-read t c (length (left c.args.parser.now)) (omega arith))

pub read_item-returns-then-is_wild-clause-read : goal.read_item-returns-then-is_wild-clause-read
read_item-returns-then-is_wild-clause-read t c n enough =
    let it = word_accepted (codes "anchor") c.accept.result (left c.args.parser.now) (left c.accept.new.self) c.accept.ensures.read c.if-not-accept.false in
    let opened = symbol_accepted Open c.accept_symbol.result (left c.read_heading.new.parser) (left c.accept_symbol.new.self) c.accept_symbol.ensures.read c.if-not-accept_symbol.false in
    item_wild n c.args.cx.profile (left c.args.parser.now) (left c.read_heading.new.parser) (heading_text_of c.in_ok-heading.heading) it.0 (ap (heading_at c.args.cx.profile) (sym it.1) ∙ c.in_ok-heading.ensures.read) opened.0 (sym c.is_wild.ensures ∙ c.if-is_wild.true)

pub read_item-read_items-requires : goal.read_item-read_items-requires
read_item-read_items-requires t c =
    let it = word_accepted (codes "anchor") c.accept.result (left c.args.parser.now) (left c.accept.new.self) c.accept.ensures.read c.if-not-accept.false in
    let opened = symbol_accepted Open c.accept_symbol.result (left c.read_heading.new.parser) (left c.accept_symbol.new.self) c.accept_symbol.ensures.read c.if-not-accept_symbol.false in
    let inner = inner_shorter c.args.cx.profile (left c.args.parser.now) (left c.accept.new.self) (left c.read_heading.new.parser) (left c.accept_symbol.new.self) (heading_text_of c.in_ok-heading.heading) it.0 it.1 c.in_ok-heading.ensures.read opened.0 opened.1 in
    let falls : 2 * length (left c.accept_symbol.new.self) + 1 < t = omega (arith, c.decreases, inner) in
    (falls, tt)

pub read_item-returns-in_err-items-clause-read : goal.read_item-returns-in_err-items-clause-read
read_item-returns-in_err-items-clause-read t c n enough =
    let it = word_accepted (codes "anchor") c.accept.result (left c.args.parser.now) (left c.accept.new.self) c.accept.ensures.read c.if-not-accept.false in
    let opened = symbol_accepted Open c.accept_symbol.result (left c.read_heading.new.parser) (left c.accept_symbol.new.self) c.accept_symbol.ensures.read c.if-not-accept_symbol.false in
    let h = heading_text_of c.in_ok-heading.heading in
    let inner = inner_shorter c.args.cx.profile (left c.args.parser.now) (left c.accept.new.self) (left c.read_heading.new.parser) (left c.accept_symbol.new.self) h it.0 it.1 c.in_ok-heading.ensures.read opened.0 opened.1 in
    let fewer : length (left c.accept_symbol.new.self) < n = omega (arith, inner, enough) in
    let same : c.from_residual-in_err-items.result ≡ Err c.in_err-items.field-0.0 = search rules in
    rw same (stops_too {X = Vec WrittenItem Global} (λ v. item_texts_of v.items) item_text_of c.in_err-items.field-0.0 (left c.read_items.new.parser) (left c.read_items.new.parser) (items_at n c.args.cx.profile (left c.accept_symbol.new.self)) (item_at n c.args.cx.profile (left c.args.parser.now)) (c.in_err-items.ensures.read n fewer)
    (λ none. item_block n c.args.cx.profile (left c.args.parser.now) (left c.read_heading.new.parser) h it.0 (ap (heading_at c.args.cx.profile) (sym it.1) ∙ c.in_ok-heading.ensures.read) opened.0 (sym c.is_wild.ensures ∙ c.if-is_wild.false)
    ∙ ap (λ (b : Read ItemTexts). b >>= block_item h) (ap (items_at n c.args.cx.profile) (sym opened.1) ∙ none)))

pub read_item-returns-then-not-is_over-clause-read : goal.read_item-returns-then-not-is_over-clause-read
read_item-returns-then-not-is_over-clause-read t c n enough =
    let it = word_accepted (codes "anchor") c.accept.result (left c.args.parser.now) (left c.accept.new.self) c.accept.ensures.read c.if-not-accept.false in
    let opened = symbol_accepted Open c.accept_symbol.result (left c.read_heading.new.parser) (left c.accept_symbol.new.self) c.accept_symbol.ensures.read c.if-not-accept_symbol.false in
    let h = heading_text_of c.in_ok-heading.heading in
    let inner = inner_shorter c.args.cx.profile (left c.args.parser.now) (left c.accept.new.self) (left c.read_heading.new.parser) (left c.accept_symbol.new.self) h it.0 it.1 c.in_ok-heading.ensures.read opened.0 opened.1 in
    let fewer : length (left c.accept_symbol.new.self) < n = omega (arith, inner, enough) in
    item_not_over n c.args.cx.profile (left c.args.parser.now) (left c.read_heading.new.parser) (left c.read_items.new.parser) h (item_texts_of c.in_ok-items.items.items) it.0 (ap (heading_at c.args.cx.profile) (sym it.1) ∙ c.in_ok-heading.ensures.read) opened.0 (sym c.is_wild.ensures ∙ c.if-is_wild.false) (ap (items_at n c.args.cx.profile) (sym opened.1) ∙ c.in_ok-items.ensures.read n fewer) (sym c.is_over.ensures ∙ c.if-not-is_over.true)

pub read_item-returns-clause-read : goal.read_item-returns-clause-read
read_item-returns-clause-read t c n enough =
    let it = word_accepted (codes "anchor") c.accept.result (left c.args.parser.now) (left c.accept.new.self) c.accept.ensures.read c.if-not-accept.false in
    let opened = symbol_accepted Open c.accept_symbol.result (left c.read_heading.new.parser) (left c.accept_symbol.new.self) c.accept_symbol.ensures.read c.if-not-accept_symbol.false in
    let h = heading_text_of c.in_ok-heading.heading in
    let inner = inner_shorter c.args.cx.profile (left c.args.parser.now) (left c.accept.new.self) (left c.read_heading.new.parser) (left c.accept_symbol.new.self) h it.0 it.1 c.in_ok-heading.ensures.read opened.0 opened.1 in
    let fewer : length (left c.accept_symbol.new.self) < n = omega (arith, inner, enough) in
    rw (block_text c.in_ok-heading.heading c.in_ok-items.items) (item_whole n c.args.cx.profile (left c.args.parser.now) (left c.read_heading.new.parser) (left c.read_items.new.parser) h (item_texts_of c.in_ok-items.items.items) it.0 (ap (heading_at c.args.cx.profile) (sym it.1) ∙ c.in_ok-heading.ensures.read) opened.0 (sym c.is_wild.ensures ∙ c.if-is_wild.false) (ap (items_at n c.args.cx.profile) (sym opened.1) ∙ c.in_ok-items.ensures.read n fewer) (sym c.is_over.ensures ∙ c.if-not-is_over.false))

pub read_item-returns-clause-shorter : goal.read_item-returns-clause-shorter
read_item-returns-clause-shorter t c =
    let it = word_accepted (codes "anchor") c.accept.result (left c.args.parser.now) (left c.accept.new.self) c.accept.ensures.read c.if-not-accept.false in
    let opened = symbol_accepted Open c.accept_symbol.result (left c.read_heading.new.parser) (left c.accept_symbol.new.self) c.accept_symbol.ensures.read c.if-not-accept_symbol.false in
    let inner = inner_shorter c.args.cx.profile (left c.args.parser.now) (left c.accept.new.self) (left c.read_heading.new.parser) (left c.accept_symbol.new.self) (heading_text_of c.in_ok-heading.heading) it.0 it.1 c.in_ok-heading.ensures.read opened.0 opened.1 in
    let fewer = c.in_ok-items.ensures.shorter in
    omega (arith, inner, fewer)

pub read_items-loop-parser-init : goal.read_items-loop-parser-init
read_items-loop-parser-init t c = record {
  going = λ n enough. rw c.new-items.ensures.items (nested_first n c.args.cx.profile (left c.args.parser.now) enough);
  no_longer = omega arith;
  later = refl;
}

pub read_items-loop-parser-preserved-then-accept_newline : goal.read_items-loop-parser-preserved-then-accept_newline
read_items-loop-parser-preserved-then-accept_newline t c =
    let line = line_accepted c.accept_newline.result (left c.loop-parser.parser) (left c.accept_newline.new.self) c.accept_newline.ensures.read c.if-accept_newline.true in
    let fewer = line_shorter (left c.loop-parser.parser) line.0 in
    let len = ap (λ (us : List Token). length us) line.1 in
    let before = c.loop-parser.invariant.no_longer in
    record {
      going = λ n enough. rw line.1 (nested_newline c.args.cx.profile (items_at n c.args.cx.profile (left c.args.parser.now)) _ (left c.loop-parser.parser) (c.loop-parser.invariant.going n enough) line.0);
      no_longer = omega (arith, fewer, len, before);
      later = c.accept_newline.ensures.later ∙ c.loop-parser.invariant.later;
    }

pub read_items-returns-then-accept_symbol-clause-read : goal.read_items-returns-then-accept_symbol-clause-read
read_items-returns-then-accept_symbol-clause-read t c n enough =
    let line = line_kept c.accept_newline.result (left c.loop-parser.parser) (left c.accept_newline.new.self) c.accept_newline.ensures.read c.if-accept_newline.false in
    let close = symbol_accepted Close c.accept_symbol.result (left c.accept_newline.new.self) (left c.accept_symbol.new.self) c.accept_symbol.ensures.read c.if-accept_symbol.true in
    let here : left c.accept_symbol.new.self ≡ drop 1 (left c.loop-parser.parser) = close.1 ∙ ap (drop 1) line.1 in
    rw here (nested_close c.args.cx.profile (items_at n c.args.cx.profile (left c.args.parser.now)) _ (left c.loop-parser.parser) (c.loop-parser.invariant.going n enough) line.0 (ap (begins_symbol Close) (sym line.1) ∙ close.0))

pub read_items-returns-then-accept_symbol-clause-shorter : goal.read_items-returns-then-accept_symbol-clause-shorter
read_items-returns-then-accept_symbol-clause-shorter t c =
    let enough : length (left c.args.parser.now) < length (left c.args.parser.now) + 1 = omega arith in
    items_shorter (length (left c.args.parser.now) + 1) c.args.cx.profile (left c.args.parser.now) (left c.accept_symbol.new.self) _ (read_items-returns-then-accept_symbol-clause-read t c (length (left c.args.parser.now) + 1) enough)

pub read_items-read_item-requires : goal.read_items-read_item-requires
read_items-read_item-requires t c =
    let line = line_kept c.accept_newline.result (left c.loop-parser.parser) (left c.accept_newline.new.self) c.accept_newline.ensures.read c.if-accept_newline.false in
    let kept = symbol_kept Close c.accept_symbol.result (left c.accept_newline.new.self) (left c.accept_symbol.new.self) c.accept_symbol.ensures.read c.if-accept_symbol.false in
    let len = ap (λ (us : List Token). length us) (kept.1 ∙ line.1) in
    let before = c.loop-parser.invariant.no_longer in
    let falls : 2 * length (left c.accept_symbol.new.self) < t = omega (arith, c.decreases, len, before) in
    (falls, tt)

pub read_items-returns-in_err-item-clause-read : goal.read_items-returns-in_err-item-clause-read
read_items-returns-in_err-item-clause-read t c n enough =
    let line = line_kept c.accept_newline.result (left c.loop-parser.parser) (left c.accept_newline.new.self) c.accept_newline.ensures.read c.if-accept_newline.false in
    let kept = symbol_kept Close c.accept_symbol.result (left c.accept_newline.new.self) (left c.accept_symbol.new.self) c.accept_symbol.ensures.read c.if-accept_symbol.false in
    let here : left c.accept_symbol.new.self ≡ left c.loop-parser.parser = kept.1 ∙ line.1 in
    let len = ap (λ (us : List Token). length us) here in
    let same : c.from_residual.result ≡ Err c.in_err-item.field-0.0 = search rules in
    rw same (stopped c.in_err-item.field-0.0 (left c.read_item.new.parser) (λ m. length (left c.accept_symbol.new.self) ≤ m) (λ m. item_at m c.args.cx.profile (left c.accept_symbol.new.self)) (items_at n c.args.cx.profile (left c.args.parser.now)) (length (left c.accept_symbol.new.self)) (omega arith) (λ m fits. c.in_err-item.ensures.read m fits)
    (λ none. nested_none c.args.cx.profile (items_at n c.args.cx.profile (left c.args.parser.now)) _ (left c.loop-parser.parser) (c.loop-parser.invariant.going n enough) line.0 (ap (begins_symbol Close) (sym line.1) ∙ kept.0) (λ m fits. ap (item_at m c.args.cx.profile) (sym here) ∙ none m (omega (arith, fits, len)))))

pub read_items-loop-parser-smaller : goal.read_items-loop-parser-smaller
read_items-loop-parser-smaller t c =
    let line = line_kept c.accept_newline.result (left c.loop-parser.parser) (left c.accept_newline.new.self) c.accept_newline.ensures.read c.if-accept_newline.false in
    let kept = symbol_kept Close c.accept_symbol.result (left c.accept_newline.new.self) (left c.accept_symbol.new.self) c.accept_symbol.ensures.read c.if-accept_symbol.false in
    let len = ap (λ (us : List Token). length us) (kept.1 ∙ line.1) in
    let fewer = c.in_ok-item.ensures.shorter in
    omega (arith, len, fewer)

pub read_items-loop-parser-preserved : goal.read_items-loop-parser-preserved
read_items-loop-parser-preserved t c =
    let line = line_kept c.accept_newline.result (left c.loop-parser.parser) (left c.accept_newline.new.self) c.accept_newline.ensures.read c.if-accept_newline.false in
    let kept = symbol_kept Close c.accept_symbol.result (left c.accept_newline.new.self) (left c.accept_symbol.new.self) c.accept_symbol.ensures.read c.if-accept_symbol.false in
    let here : left c.accept_symbol.new.self ≡ left c.loop-parser.parser = kept.1 ∙ line.1 in
    let len = ap (λ (us : List Token). length us) here in
    let fewer = c.in_ok-item.ensures.shorter in
    let before = c.loop-parser.invariant.no_longer in
    let shorter : length (left c.read_item.new.parser) < length (left c.loop-parser.parser) = omega (arith, len, fewer) in
    let read_is : (m : ℕ) → length (left c.loop-parser.parser) ≤ m → item_at m c.args.cx.profile (left c.loop-parser.parser) ≡ Some (item_text_of c.in_ok-item.item, left c.read_item.new.parser) =
    λ m fits. ap (item_at m c.args.cx.profile) (sym here) ∙ c.in_ok-item.ensures.read m (omega (arith, fits, len)) in
    record {
      going = λ n enough. rw c.in_ok-push.ensures.items (nested_item c.args.cx.profile (items_at n c.args.cx.profile (left c.args.parser.now)) _ c.in_ok-item.item (left c.loop-parser.parser) (left c.read_item.new.parser) (c.loop-parser.invariant.going n enough) line.0 (ap (begins_symbol Close) (sym line.1) ∙ kept.0) read_is shorter);
      no_longer = omega (arith, shorter, before);
      later = c.in_ok-item.ensures.later ∙ c.accept_symbol.ensures.later ∙ c.accept_newline.ensures.later ∙ c.loop-parser.invariant.later;
    }
