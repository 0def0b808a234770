use Rattle.std.proofs.lemmas.Result.{err_from_is_err_and}
use Rattle.std.proofs.Common.{◌≡◌, ◌∙◌, drop, Some, ap, sym, List, length, arith}
use Rattle.pf_tokens.specs.declared.symbol.Symbol.TheVariants.{Open, Close, Comma}
use Rattle.pf_tokens.specs.Tokens.{Token}
use Rattle.pf_tokens.specs.Productions.{begins_symbol}
use Rattle.pf_tokens.specs.Lists.{list_at, elements_of}
use Rattle.pf_tokens.specs.Parsing.{left}
use Rattle.pf_tokens.proofs.Listing.{took, kept, starts_some, going_first, refused_first, going_open, going_comma, refused_comma, going_close, refused_close, ended_list, going_element, refused_element, eq_false, stopped}
use Rattle.pf_tokens.proofs.lists.list.Goals as goal

pub returns-then-not-open_list-clause-read : goal.returns-then-not-open_list-clause-read
returns-then-not-open_list-clause-read g c =
    refused_first (g.E.Element.read c.args.profile) (left c.args.parser.now) _ c.open_list.result c.open_list.ensures.read c.if-not-open_list.true

pub elements-init : goal.elements-init
elements-init g c =
    record {
      going = rw c.new-items.ensures.items (going_first (g.E.Element.read c.args.profile) (left c.args.parser.now) (left c.open_list.new.self) c.open_list.result c.open_list.ensures.read c.if-not-open_list.false);
      some = omega arith;
      later = c.open_list.ensures.later;
    }

-- an element of a list in the list

pub elements-smaller-then-accept_symbol : goal.elements-smaller-then-accept_symbol
elements-smaller-then-accept_symbol g c =
    let it = took Open (left c.elements.parser) _ c.accept_symbol.result c.accept_symbol.ensures.read c.if-accept_symbol.true in
    omega (arith, starts_some Open (left c.elements.parser) it.starts_so, ap (λ (ts : List Token). length ts) it.rest)

pub elements-preserved-then-accept_symbol : goal.elements-preserved-then-accept_symbol
elements-preserved-then-accept_symbol g c =
    let it = took Open (left c.elements.parser) _ c.accept_symbol.result c.accept_symbol.ensures.read c.if-accept_symbol.true in
    record {
      going = rw (it.rest, c.max-deepest.ensures, c.in-Some.ensures.1) (going_open (g.E.Element.read c.args.profile) (list_at (g.E.Element.read c.args.profile) (left c.args.parser.now)) _ _ _ _ (left c.elements.parser) c.elements.invariant.going it.starts_so);
      some = omega (arith, c.in-Some.ensures.1);
      later = c.accept_symbol.ensures.later ∙ c.elements.invariant.later;
    }

pub returns-then-wanted-clause-read : goal.returns-then-wanted-clause-read
returns-then-wanted-clause-read g c =
    let op = kept Open (left c.elements.parser) _ c.accept_symbol.result c.accept_symbol.ensures.read c.if-accept_symbol.false in
    let it = took Comma _ _ c.accept_symbol-else-accept_symbol.result c.accept_symbol-else-accept_symbol.ensures.read c.if-accept_symbol-2.true in
    refused_comma (g.E.Element.read c.args.profile) (list_at (g.E.Element.read c.args.profile) (left c.args.parser.now)) _ _ _ (left c.elements.parser) (rw c.if-wanted.true at c.elements.invariant.going) op.starts_not (ap (begins_symbol Comma) (sym op.rest) ∙ it.starts_so)

pub elements-smaller-then-accept_symbol-2 : goal.elements-smaller-then-accept_symbol-2
elements-smaller-then-accept_symbol-2 g c =
    let op = kept Open (left c.elements.parser) _ c.accept_symbol.result c.accept_symbol.ensures.read c.if-accept_symbol.false in
    let it = took Comma _ _ c.accept_symbol-else-accept_symbol.result c.accept_symbol-else-accept_symbol.ensures.read c.if-accept_symbol-2.true in
    omega (arith, starts_some Comma (left c.accept_symbol.new.self) it.starts_so, ap (λ (ts : List Token). length ts) it.rest, ap (λ (ts : List Token). length ts) op.rest)

pub elements-preserved-then-accept_symbol-2 : goal.elements-preserved-then-accept_symbol-2
elements-preserved-then-accept_symbol-2 g c =
    let op = kept Open (left c.elements.parser) _ c.accept_symbol.result c.accept_symbol.ensures.read c.if-accept_symbol.false in
    let it = took Comma _ _ c.accept_symbol-else-accept_symbol.result c.accept_symbol-else-accept_symbol.ensures.read c.if-accept_symbol-2.true in
    let here : left c.accept_symbol-else-accept_symbol.new.self ≡ drop 1 (left c.elements.parser) = it.rest ∙ ap (λ (ts : List Token). drop 1 ts) op.rest in
    record {
      going = rw here (going_comma (g.E.Element.read c.args.profile) (list_at (g.E.Element.read c.args.profile) (left c.args.parser.now)) _ _ _ (left c.elements.parser) (rw c.if-wanted.false at c.elements.invariant.going) op.starts_not (ap (begins_symbol Comma) (sym op.rest) ∙ it.starts_so));
      some = c.elements.invariant.some;
      later = c.accept_symbol-else-accept_symbol.ensures.later ∙ c.accept_symbol.ensures.later ∙ c.elements.invariant.later;
    }

pub returns-then-wanted-2-clause-read : goal.returns-then-wanted-2-clause-read
returns-then-wanted-2-clause-read g c =
    let op = kept Open (left c.elements.parser) _ c.accept_symbol.result c.accept_symbol.ensures.read c.if-accept_symbol.false in
    let co = kept Comma _ _ c.accept_symbol-else-accept_symbol.result c.accept_symbol-else-accept_symbol.ensures.read c.if-accept_symbol-2.false in
    let it = took Close _ _ c.accept_symbol-else-accept_symbol-2.result c.accept_symbol-else-accept_symbol-2.ensures.read c.if-accept_symbol-3.true in
    refused_close (g.E.Element.read c.args.profile) (list_at (g.E.Element.read c.args.profile) (left c.args.parser.now)) _ _ _ (left c.elements.parser) (rw c.if-wanted-2.true at c.elements.invariant.going) op.starts_not (ap (begins_symbol Comma) (sym op.rest) ∙ co.starts_not) (ap (begins_symbol Close) (sym (co.rest ∙ op.rest)) ∙ it.starts_so)

pub returns-then-depth-eq1-clause-read : goal.returns-then-depth-eq1-clause-read
returns-then-depth-eq1-clause-read g c =
    let op = kept Open (left c.elements.parser) _ c.accept_symbol.result c.accept_symbol.ensures.read c.if-accept_symbol.false in
    let co = kept Comma _ _ c.accept_symbol-else-accept_symbol.result c.accept_symbol-else-accept_symbol.ensures.read c.if-accept_symbol-2.false in
    let it = took Close _ _ c.accept_symbol-else-accept_symbol-2.result c.accept_symbol-else-accept_symbol-2.ensures.read c.if-accept_symbol-3.true in
    let here : left c.accept_symbol-else-accept_symbol-2.new.self ≡ drop 1 (left c.elements.parser) = it.rest ∙ ap (λ (ts : List Token). drop 1 ts) (co.rest ∙ op.rest) in
    let last = rw (c.if-wanted-2.false, c.if-depth-eq1.true) at c.elements.invariant.going in
    rw here (ended_list (g.E.Element.read c.args.profile) (list_at (g.E.Element.read c.args.profile) (left c.args.parser.now)) _ _ (left c.elements.parser) last op.starts_not (ap (begins_symbol Comma) (sym op.rest) ∙ co.starts_not) (ap (begins_symbol Close) (sym (co.rest ∙ op.rest)) ∙ it.starts_so))

pub elements-smaller-then-accept_symbol-3 : goal.elements-smaller-then-accept_symbol-3
elements-smaller-then-accept_symbol-3 g c =
    let op = kept Open (left c.elements.parser) _ c.accept_symbol.result c.accept_symbol.ensures.read c.if-accept_symbol.false in
    let co = kept Comma _ _ c.accept_symbol-else-accept_symbol.result c.accept_symbol-else-accept_symbol.ensures.read c.if-accept_symbol-2.false in
    let it = took Close _ _ c.accept_symbol-else-accept_symbol-2.result c.accept_symbol-else-accept_symbol-2.ensures.read c.if-accept_symbol-3.true in
    omega (arith, starts_some Close (left c.accept_symbol-else-accept_symbol.new.self) it.starts_so, ap (λ (ts : List Token). length ts) it.rest, ap (λ (ts : List Token). length ts) co.rest, ap (λ (ts : List Token). length ts) op.rest)

pub elements-preserved-then-accept_symbol-3 : goal.elements-preserved-then-accept_symbol-3
elements-preserved-then-accept_symbol-3 g c =
    let op = kept Open (left c.elements.parser) _ c.accept_symbol.result c.accept_symbol.ensures.read c.if-accept_symbol.false in
    let co = kept Comma _ _ c.accept_symbol-else-accept_symbol.result c.accept_symbol-else-accept_symbol.ensures.read c.if-accept_symbol-2.false in
    let it = took Close _ _ c.accept_symbol-else-accept_symbol-2.result c.accept_symbol-else-accept_symbol-2.ensures.read c.if-accept_symbol-3.true in
    let here : left c.accept_symbol-else-accept_symbol-2.new.self ≡ drop 1 (left c.elements.parser) = it.rest ∙ ap (λ (ts : List Token). drop 1 ts) (co.rest ∙ op.rest) in
    record {
      going = rw (here, c.if-wanted-2.false) (going_close (g.E.Element.read c.args.profile) (list_at (g.E.Element.read c.args.profile) (left c.args.parser.now)) _ _ _ (left c.elements.parser) (rw c.if-wanted-2.false at c.elements.invariant.going) op.starts_not (ap (begins_symbol Comma) (sym op.rest) ∙ co.starts_not) (ap (begins_symbol Close) (sym (co.rest ∙ op.rest)) ∙ it.starts_so) (eq_false _ c.if-depth-eq1.false));
      some = omega (arith, c.elements.invariant.some, c.if-depth-eq1.false);
      later = c.accept_symbol-else-accept_symbol-2.ensures.later ∙ c.accept_symbol-else-accept_symbol.ensures.later ∙ c.accept_symbol.ensures.later ∙ c.elements.invariant.later;
    }

pub returns-in_err-item-clause-read : goal.returns-in_err-item-clause-read
returns-in_err-item-clause-read g c =
    let op = kept Open (left c.elements.parser) _ c.accept_symbol.result c.accept_symbol.ensures.read c.if-accept_symbol.false in
    let co = kept Comma _ _ c.accept_symbol-else-accept_symbol.result c.accept_symbol-else-accept_symbol.ensures.read c.if-accept_symbol-2.false in
    let cl = kept Close _ _ c.accept_symbol-else-accept_symbol-2.result c.accept_symbol-else-accept_symbol-2.ensures.read c.if-accept_symbol-3.false in
    let here : left c.accept_symbol-else-accept_symbol-2.new.self ≡ left c.elements.parser = cl.rest ∙ co.rest ∙ op.rest in
    let refused = refused_element (g.E.Element.read c.args.profile) (list_at (g.E.Element.read c.args.profile) (left c.args.parser.now)) _ _ _ _ (left c.elements.parser) c.elements.invariant.going op.starts_not (ap (begins_symbol Comma) (sym op.rest) ∙ co.starts_not) (ap (begins_symbol Close) (sym (co.rest ∙ op.rest)) ∙ cl.starts_not) in
    let passed = err_from_is_err_and c.from_residual.result c.from_residual.ensures.1 in
    rw (passed.1, passed.2) (stopped elements_of c.in_err-item.field-0.0 _ _ _ _ c.in_err-item.ensures.read (λ none. refused (ap (g.E.Element.read c.args.profile) (sym here) ∙ none)))

pub elements-smaller : goal.elements-smaller
elements-smaller g c =
    let op = kept Open (left c.elements.parser) _ c.accept_symbol.result c.accept_symbol.ensures.read c.if-accept_symbol.false in
    let co = kept Comma _ _ c.accept_symbol-else-accept_symbol.result c.accept_symbol-else-accept_symbol.ensures.read c.if-accept_symbol-2.false in
    let cl = kept Close _ _ c.accept_symbol-else-accept_symbol-2.result c.accept_symbol-else-accept_symbol-2.ensures.read c.if-accept_symbol-3.false in
    let here : left c.accept_symbol-else-accept_symbol-2.new.self ≡ left c.elements.parser = cl.rest ∙ co.rest ∙ op.rest in
    let read_is : (g.E.Element.read c.args.profile) (left c.elements.parser) ≡ Some (c.in_ok-item.item, left c.read.new.parser) = ap (g.E.Element.read c.args.profile) (sym here) ∙ c.in_ok-item.ensures.read in
    g.met.E.Element.shorter c.args.profile (left c.elements.parser) (left c.read.new.parser) c.in_ok-item.item read_is

pub elements-preserved : goal.elements-preserved
elements-preserved g c =
    let op = kept Open (left c.elements.parser) _ c.accept_symbol.result c.accept_symbol.ensures.read c.if-accept_symbol.false in
    let co = kept Comma _ _ c.accept_symbol-else-accept_symbol.result c.accept_symbol-else-accept_symbol.ensures.read c.if-accept_symbol-2.false in
    let cl = kept Close _ _ c.accept_symbol-else-accept_symbol-2.result c.accept_symbol-else-accept_symbol-2.ensures.read c.if-accept_symbol-3.false in
    let here : left c.accept_symbol-else-accept_symbol-2.new.self ≡ left c.elements.parser = cl.rest ∙ co.rest ∙ op.rest in
    let read_is : (g.E.Element.read c.args.profile) (left c.elements.parser) ≡ Some (c.in_ok-item.item, left c.read.new.parser) = ap (g.E.Element.read c.args.profile) (sym here) ∙ c.in_ok-item.ensures.read in
    let shorter = g.met.E.Element.shorter c.args.profile (left c.elements.parser) (left c.read.new.parser) c.in_ok-item.item read_is in
    record {
      going = rw c.in_ok-push.ensures.items (going_element (g.E.Element.read c.args.profile) (list_at (g.E.Element.read c.args.profile) (left c.args.parser.now)) _ c.in_ok-item.item _ _ _ (left c.elements.parser) (left c.read.new.parser) c.elements.invariant.going op.starts_not (ap (begins_symbol Comma) (sym op.rest) ∙ co.starts_not) (ap (begins_symbol Close) (sym (co.rest ∙ op.rest)) ∙ cl.starts_not) read_is shorter);
      some = c.elements.invariant.some;
      later = c.in_ok-item.ensures.later ∙ c.accept_symbol-else-accept_symbol-2.ensures.later ∙ c.accept_symbol-else-accept_symbol.ensures.later ∙ c.accept_symbol.ensures.later ∙ c.elements.invariant.later;
    }
