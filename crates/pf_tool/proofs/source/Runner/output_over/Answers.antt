use Rattle.pf_lab.specs.Scripts as lab
use Rattle.pf_tool.specs.Tool.{answered}
use Rattle.pf_tool.proofs.Files.{exactly}
use Rattle.pf_tool.proofs.source.Runner.output_over.Goals as goal

pub returns-in-Lab : goal.returns-in-Lab
returns-in-Lab g c =
    rw c.in-Lab.is (exactly c.lab_output.result c.args.self.now.reporter (answered (lab.printed c.args.input.now)) c.lab_output.ensures)
