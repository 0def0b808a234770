use Rattle.pf_tokens.proofs.MacroSpelling.{made_as_spelled, refused_as_spelled, unspelled_as_spelled, never_memory}
use Rattle.pf_tokens.proofs.defining.macros_as_spelled.Goals as goal

pub returns-clause-made : goal.returns-clause-made
returns-clause-made c = λ profile ds ts made. made_as_spelled profile ds ts made

pub returns-clause-lower : goal.returns-clause-lower
returns-clause-lower c = λ profile ds ts. refused_as_spelled profile ds ts

pub returns-clause-higher : goal.returns-clause-higher
returns-clause-higher c = λ profile ds ts. unspelled_as_spelled profile ds ts

pub returns-clause-no_other : goal.returns-clause-no_other
returns-clause-no_other c = λ profile ds ts. never_memory profile ds ts
