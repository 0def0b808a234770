use Rattle.std.proofs.Common.{◌≡◌, ◌∙◌, ◌++◌, Some, sym, ap, arith}
use Rattle.px_model.specs.Entries.{entry_of}
use Rattle.pf_entry.specs.Reading.{reading}
use Rattle.pf_node.specs.Applied.{after_read}
use Rattle.pf_node.specs.Nodes.{learned_by}
use Rattle.pf_node.proofs.Following.{after_next, learned_below}
use Rattle.cli_show.specs.Scripts.{lines_read}
use Rattle.cli_show.proofs.LogScripts.{more_lines}
use Rattle.cli_show.proofs.scripts.log_script.Goals as goal

-- what is applied is learned
pub unreachable-requires : goal.unreachable-requires
unreachable-requires g c =
    learned_below (learned_by c.args.node.now) c.loop-position.position (omega (arith, c.applied-position-end.ensures.behind)) (sym c.in_default.ensures)

-- one position more
pub loop-position-preserved : goal.loop-position-preserved
loop-position-preserved g c =
    let log = learned_by c.args.node.now in
    let k = c.loop-position.position in
    let old = c.loop-position.config in
    let here : log k ≡ Some (entry_of c.in-Some.entry.now) = sym c.in-Some.ensures in
    record {
      configured = after_next log k old _ _ c.loop-position.invariant.configured here
          (c.in_ok-push_done.ensures.configuration ∙ ap (λ b. after_read old (reading b)) c.bytes.ensures);
      script = more_lines log k old _ c.loop-position.script.items _ c.loop-position.invariant.configured here c.loop-position.invariant.script
          (c.in_ok-push_done.ensures.script ∙ ap (λ b. c.loop-position.script.items ++ lines_read old (reading b)) c.bytes.ensures);
    }
