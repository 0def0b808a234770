-- The script of a log, command by command.
use Rattle.std.proofs.Common.{◌≡◌, ◌∙◌, ℕ, ◌+◌, List, [], ◌++◌, Option, Some, Result, Ok, Err, sym, ap, add-one}
use Rattle.px_model.specs.Node as node
use Rattle.px_model.specs.Node.{Log}
use Rattle.px_model.specs.Spelling.{Bytes, spelled}
use Rattle.pf_config.specs.Map.{Configuration}
use Rattle.pf_entry.specs.Entry.{Command}
use Rattle.pf_entry.specs.Reading.{reading}
use Rattle.pf_command.specs.Effect.{Effect, RefusedCommand}
use Rattle.pf_node.specs.Applied.{after}
use Rattle.pf_dump.specs.Written.{change_lines}
use Rattle.cli_show.specs.Scripts.{lines_if, lines_read, lines_in, log_script}

pub done_lines : (x : Configuration) (added removed : ℕ) (r : Result Effect RefusedCommand) (command : Command) →
    r ≡ Ok (record { configuration = x; added = added; removed = removed }) → lines_if r command ≡ change_lines command
done_lines x added removed r command is = ap (λ (z : Result Effect RefusedCommand). lines_if z command) is

pub refused_lines : (code line : ℕ) (r : Result Effect RefusedCommand) (command : Command) →
    r ≡ Err (record { code = code; line = line }) → lines_if r command ≡ []
refused_lines code line r command is = ap (λ (z : Result Effect RefusedCommand). lines_if z command) is

-- one position more
pub more_lines : (log : Log Bytes) (k : ℕ) (c : Configuration) (e : node.Entry Bytes) (old new : List ℕ) →
    after log k ≡ Some c → log k ≡ Some e → old ≡ log_script log k → new ≡ old ++ lines_read c (reading (spelled e)) →
    new ≡ log_script log (k + 1)
more_lines log k c e old new a l was is =
    is ∙ ap (λ (s : List ℕ). s ++ lines_read c (reading (spelled e))) was
    ∙ ap (λ (z : Option (node.Entry Bytes)). log_script log k ++ lines_in (Some c) z) (sym l)
    ∙ ap (λ (z : Option Configuration). log_script log k ++ lines_in z (log k)) (sym a)
    ∙ ap (λ (j : ℕ). log_script log j) (sym (add-one k))
