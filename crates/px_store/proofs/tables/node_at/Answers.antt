use Rattle.std.proofs.Common.{rules, arith, ◌∙◌}
use Rattle.std.proofs.lemmas.List.{get_or_default}
use Rattle.px_store.proofs.Nodes.{term_step, term_none}
use Rattle.px_store.proofs.tables.node_at.Goals as goal

pub returns-then-depth-eq0-clause-none : goal.returns-then-depth-eq0-clause-none
returns-then-depth-eq0-clause-none c = λ _. term_none c.args.nodes.now c.args.depth c.args.at (let either = c.then-depth-eq0.either in grind arith)

pub returns-clause-some : goal.returns-clause-some
returns-clause-some c = (omega arith, term_step c.args.nodes.now c.args.depth c.args.at (omega arith) ∙ search (rules, get_or_default))
