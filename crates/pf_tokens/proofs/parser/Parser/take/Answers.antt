use Rattle.pf_tokens.proofs.Skipping.{passed_left, passed_later}
use Rattle.pf_tokens.proofs.parser.Parser.take.Goals as goal

pub returns-clause-left : goal.returns-clause-left
returns-clause-left c = passed_left c.args.self.now c.args.token c.requires.at_hand c.requires.inner c.advance.new.self c.advance.ensures.pulled c.advance.ensures.stays _ c.pass_newlines-self.ensures.blanks c.pass_newlines-self.ensures.stays c.depth_after-depth.ensures

pub returns-clause-later : goal.returns-clause-later
returns-clause-later c = passed_later c.args.self.now c.args.token c.requires.at_hand c.requires.inner c.advance.new.self c.advance.ensures.pulled c.advance.ensures.stays _ c.pass_newlines-self.ensures.blanks c.pass_newlines-self.ensures.stays c.depth_after-depth.ensures _ c.with-passed.ensures c.pass_newlines-self.ensures.fault
