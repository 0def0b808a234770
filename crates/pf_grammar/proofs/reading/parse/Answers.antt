use Rattle.std.proofs.Common.{◌≡◌, ◌∙◌, List, arith, drop, Ok, Result, ap, sym, subst, refl, false, true}
use Rattle.std.proofs.lemmas.Result.{err_from_is_err_and}
use Rattle.pf_tokens.specs.Tokens.{Placed, tokens}
use Rattle.pf_tokens.specs.Left.{tokens_left}
use Rattle.pf_tokens.specs.Parsing.{tokens_of, placed_left, Later, later, is_defining}
use Rattle.pf_tokens.specs.Productions.{is_end}
use Rattle.pf_tokens.proofs.Walking.{reading_ends}
use Rattle.pf_grammar.specs.declared.fault.Refusal.{Refusal}
use Rattle.pf_grammar.specs.Reading.{Sofar, judge, macros_of, reading, ruleset_if, nothing}
use Rattle.pf_rules.specs.Rulesets.{RulesetValue, TableValue}
use Rattle.pf_grammar.specs.inner.Gathering.{sofar_of}
use Rattle.pf_grammar.proofs.ReadingSteps.{from, Begun, rest_shorter, passed_over, went_on, fails_so, few_stay, Room}
use Rattle.pf_grammar.proofs.reading.parse.Goals as goal

made : Sofar → Result Sofar Refusal
made sofar = Ok sofar

pub statements-init : goal.statements-init
statements-init c =
    let lines : tokens_left c.lexer-lexer.result ≡ tokens c.args.text.now = c.lexer-lexer.ensures ∙ c.in_ok-joined.ensures in
    record {
      same = ap (λ (s : Sofar). from c.args.place c.args.profile s (tokens_left c.lexer-lexer.result)) c.new-gathered.ensures ∙ ap (λ (ts : List Placed). from c.args.place c.args.profile nothing ts) lines;
      few = subst (λ (s : Sofar). Room s.content.items) (sym c.new-gathered.ensures) (omega arith, refl);
    }

pub statements-smaller-then-at_end : goal.statements-smaller-then-at_end
statements-smaller-then-at_end c =
    let sofar = sofar_of c.statements.gathered in
    let statement = placed_left c.begin-parser.result in
    let rest = tokens_left c.finish-lexer.result in
    let begun : Begun sofar c.in-Some.line (tokens_left c.statements.lexer) (tokens_left c.next_statement.new.self) (is_defining c.begin-parser.result) statement rest = record {
      is_past = c.next_statement.ensures.left;
      is_line = c.in-Some.ensures.line;
      is_defines = c.begin-parser.ensures.defining;
      is_statement = c.begin-parser.ensures.placed;
      is_rest = c.finish-lexer.ensures ∙ ap (λ (us : List Placed). drop 1 us) c.begin-parser.ensures.later;
    } in
    rest_shorter sofar c.in-Some.line (tokens_left c.statements.lexer) (tokens_left c.next_statement.new.self) (is_defining c.begin-parser.result) statement rest begun

pub statements-preserved-then-at_end : goal.statements-preserved-then-at_end
statements-preserved-then-at_end c =
    let sofar = sofar_of c.statements.gathered in
    let statement = placed_left c.begin-parser.result in
    let rest = tokens_left c.finish-lexer.result in
    let begun : Begun sofar c.in-Some.line (tokens_left c.statements.lexer) (tokens_left c.next_statement.new.self) (is_defining c.begin-parser.result) statement rest = record {
      is_past = c.next_statement.ensures.left;
      is_line = c.in-Some.ensures.line;
      is_defines = c.begin-parser.ensures.defining;
      is_statement = c.begin-parser.ensures.placed;
      is_rest = c.finish-lexer.ensures ∙ ap (λ (us : List Placed). drop 1 us) c.begin-parser.ensures.later;
    } in
    let ended : is_end (tokens_of statement) ≡ true = ap is_end (sym c.begin-parser.ensures.left) ∙ sym c.at_end.ensures ∙ c.if-at_end.true in
    record {
      same = sym (passed_over c.args.place c.args.profile sofar c.in-Some.line (tokens_left c.statements.lexer) (tokens_left c.next_statement.new.self) (is_defining c.begin-parser.result) statement rest begun ended) ∙ c.statements.invariant.same;
      few = c.statements.invariant.few;
    }

pub statements-smaller : goal.statements-smaller
statements-smaller c =
    let sofar = sofar_of c.statements.gathered in
    let statement = placed_left c.begin-parser.result in
    let rest = tokens_left c.finish-lexer-in-Some.result in
    let begun : Begun sofar c.in-Some.line (tokens_left c.statements.lexer) (tokens_left c.next_statement.new.self) (is_defining c.begin-parser.result) statement rest = record {
      is_past = c.next_statement.ensures.left;
      is_line = c.in-Some.ensures.line;
      is_defines = c.begin-parser.ensures.defining;
      is_statement = c.begin-parser.ensures.placed;
      is_rest = c.finish-lexer-in-Some.ensures ∙ ap (λ (us : List Placed). drop 1 us) (ap (λ (l : Later). l.behind) c.in_ok-change.ensures.later ∙ c.begin-parser.ensures.later);
    } in
    rest_shorter sofar c.in-Some.line (tokens_left c.statements.lexer) (tokens_left c.next_statement.new.self) (is_defining c.begin-parser.result) statement rest begun

pub statements-preserved : goal.statements-preserved
unfolding made
statements-preserved c =
    let sofar = sofar_of c.statements.gathered in
    let statement = placed_left c.begin-parser.result in
    let rest = tokens_left c.finish-lexer-in-Some.result in
    let begun : Begun sofar c.in-Some.line (tokens_left c.statements.lexer) (tokens_left c.next_statement.new.self) (is_defining c.begin-parser.result) statement rest = record {
      is_past = c.next_statement.ensures.left;
      is_line = c.in-Some.ensures.line;
      is_defines = c.begin-parser.ensures.defining;
      is_statement = c.begin-parser.ensures.placed;
      is_rest = c.finish-lexer-in-Some.ensures ∙ ap (λ (us : List Placed). drop 1 us) (ap (λ (l : Later). l.behind) c.in_ok-change.ensures.later ∙ c.begin-parser.ensures.later);
    } in
    let more : is_end (tokens_of statement) ≡ false = ap is_end (sym c.begin-parser.ensures.left) ∙ sym c.at_end.ensures ∙ c.if-at_end.false in
    let next = sofar_of c.add.new.self in
    let judged : judge c.args.place c.args.profile sofar c.in-Some.line (is_defining c.begin-parser.result) statement ≡ Ok next = (rw c.begin-parser.ensures.left at c.in_ok-change.ensures.value) ∙ ap made (sym c.in_ok-add.ensures) in
    record {
      same = sym (went_on c.args.place c.args.profile sofar next c.in-Some.line (tokens_left c.statements.lexer) (tokens_left c.next_statement.new.self) (is_defining c.begin-parser.result) statement rest begun more judged) ∙ c.statements.invariant.same;
      few = few_stay c.args.place c.args.profile sofar next c.in-Some.line (is_defining c.begin-parser.result) statement c.statements.invariant.few judged;
    }

pub returns-in_err-change : goal.returns-in_err-change
returns-in_err-change c =
    let sofar = sofar_of c.statements.gathered in
    let statement = placed_left c.begin-parser.result in
    let rest = drop 1 (later c.begin-parser.result).behind in
    let begun : Begun sofar c.in-Some.line (tokens_left c.statements.lexer) (tokens_left c.next_statement.new.self) (is_defining c.begin-parser.result) statement rest = record {
      is_past = c.next_statement.ensures.left;
      is_line = c.in-Some.ensures.line;
      is_defines = c.begin-parser.ensures.defining;
      is_statement = c.begin-parser.ensures.placed;
      is_rest = ap (λ (us : List Placed). drop 1 us) c.begin-parser.ensures.later;
    } in
    let more : is_end (tokens_of statement) ≡ false = ap is_end (sym c.begin-parser.ensures.left) ∙ sym c.at_end.ensures ∙ c.if-at_end.false in
    let passed = err_from_is_err_and c.from_residual-in_err-change.result c.from_residual-in_err-change.ensures.1 in
    rw (passed.1, passed.2) (fails_so c.args.place c.args.profile c.args.text.now sofar c.in_err-change.field-0.0 c.in-Some.line (tokens_left c.statements.lexer) (tokens_left c.next_statement.new.self) (is_defining c.begin-parser.result) statement rest begun more (rw c.begin-parser.ensures.left at c.in_err-change.ensures.value) c.statements.invariant.same)

abbrev tabled : Sofar → List TableValue → Result RulesetValue Refusal
tabled sofar ts = Ok (record { skip = sofar.content.skip; tables = ts; items = sofar.content.items })

pub returns : goal.returns
unfolding reading
returns c = ap ruleset_if (sym c.statements.invariant.same ∙ reading_ends macros_of (judge c.args.place c.args.profile) (sofar_of c.statements.gathered) (tokens_left c.statements.lexer) (sym c.in_default.ensures.line))
    ∙ ap (tabled (sofar_of c.statements.gathered)) (sym c.into_list.ensures)
