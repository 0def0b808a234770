-- the key that the file makes
use Rattle.std.proofs.Common.{Some, map, subst, sym}
use Rattle.std.specs.Prelude.{option_map}
use Rattle.cli_node.specs.Secrets.{IsNamed}
use Rattle.cli_node.proofs.node.NodeStart.of_key.Goals as goal

pub returns-in-Ok-clause-sound : goal.returns-in-Ok-clause-sound
returns-in-Ok-clause-sound g c = λ sound. (
  Some c.in-Ok._key,
  subst (λ (p : _). IsNamed
      (g.F.NodeFiles.makes c.args.self.now.files.now c.args.self.now.arguments.cluster (map (λ t. t.now) c.args.self.now.arguments.members.now))
      (option_map (λ t. t.now) p) (Some c.in-Ok._key)) (sym c.in-Some.is) c.in-Ok.ensures.made,
)
