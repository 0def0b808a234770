use Rattle.std.proofs.Common.{◌+◌, List, length, drop, fold, subst, sym, ap, arith}
use Rattle.pf_rules.specs.declared.ruleset.TableEntry.{TableEntry}
use Rattle.pf_expansion.specs.Tables.{with_first}
use Rattle.pf_expansion.specs.inner.Tables.{AreKeys}
use Rattle.pf_expansion.proofs.Keeping.{next_entry, no_keys, too_many}
use Rattle.pf_expansion.proofs.tables.kept_entries.Goals as goal

pub loop-entry-init : goal.loop-entry-init
loop-entry-init c = record {
  same = ap (λ (es : List TableEntry). fold with_first es c.args.entries.now) c.new-found.ensures.items;
  few = omega (arith, ap (λ (es : List TableEntry). length es) c.new-found.ensures.items);
  keys = subst (λ (es : List TableEntry). AreKeys c.new-prefixes.result es) (sym c.new-found.ensures.items) (no_keys c.new-prefixes.result c.new-prefixes.ensures.empty);
}

pub loop-entry-preserved : goal.loop-entry-preserved
loop-entry-preserved c = record {
  same = next_entry c.args.entries.now c.loop-entry.found.items c.push_first.new.found.items c.loop-entry.entry-index c.entry-item.result c.loop-entry-test.true c.entry-item.is c.loop-entry.invariant.same c.in_ok-push_first.ensures.found;
  few = omega (arith, c.if-len-gt-MOST_ENTRIES.false, c.len.ensures, c.push_first.new.found.ok.0);
  keys = c.in_ok-push_first.ensures.prefixes;
}

pub returns-then-len-gt-MOST_ENTRIES : goal.returns-then-len-gt-MOST_ENTRIES
returns-then-len-gt-MOST_ENTRIES c =
    too_many c.args.entries.now c.push_first.new.found.items (drop (c.loop-entry.entry-index + 1) c.args.entries.now)
    (next_entry c.args.entries.now c.loop-entry.found.items c.push_first.new.found.items c.loop-entry.entry-index c.entry-item.result c.loop-entry-test.true c.entry-item.is c.loop-entry.invariant.same c.in_ok-push_first.ensures.found)
    (omega (arith, c.if-len-gt-MOST_ENTRIES.true, c.len.ensures, c.push_first.new.found.ok.0))
