-- What a change does: one ask of the node, or nothing.
use Rattle.std.specs.Prelude.{◌≡◌, ℕ, Bool, true, false, List, [], ◌++◌, ◌-◌, length, nat_lt, codes, decimal}
use Rattle.std.specs.Prelude.{Option, Some, None}
use Rattle.px_model.specs.Node.Input.{Asks}
use Rattle.px_model.specs.Spelling.{Bytes, command_in}
use Rattle.px_model.specs.Step.{front, positions}
use Rattle.px_records.specs.declared.records.Records.{Ghosts}
use Rattle.px_replica.specs.Calls.{Call}
use Rattle.px_replica.specs.declared.fault.NodeFault.{NodeFault}
use Rattle.px_replica.specs.Codes.{node_fault_code}
use Rattle.pf_entry.specs.Entry as entries
use Rattle.pf_entry.specs.Entry.{spelling}
use Rattle.pf_node.specs.Nodes.{replica_of, records_of, membership_of, applied_of, config_of, learned_by, state_in}
use Rattle.pf_node.specs.declared.state.Node.{Node}
use Rattle.pf_scripts.specs.Lines.{line}
use Rattle.node_requests.specs.Answers.{AnswerValue, refused}
use Rattle.node_requests.specs.declared.changing.Changed.{Changed}
use Rattle.node_requests.specs.declared.changing.Changed.TheVariants.{Asked, Refused, Memory}

-- the bytes of a command, without origin and number
abbrev pub bytes_of : entries.Command → Bytes
bytes_of command = command_in (spelling (record { origin = 0; number = 0; command = command }))

-- what is answered where this number refuses an ask; none: out of memory
abbrev pub refused_with : Option ℕ → Changed
refused_with None = Memory
refused_with (Some code) = Refused code

-- what a fault of an ask is answered with
-- Example: TooLong is 41.
abbrev pub refused_by : NodeFault → Changed
refused_by e = refused_with (node_fault_code e)

-- what an ask is answered with: without a fault the node's number as a member, and the number that the record had next
-- Example: member 0 whose record has 17 as the next number: 0 and 17.
abbrev pub IsAnswered : {R : Type 0} {G : Ghosts R} → (s t : Node R G) → Option NodeFault → Changed → Type 0
IsAnswered {R} {G} s t None (Asked origin number) =
    (origin ≡ (membership_of s).me) × (G.is_honest (records_of t) → number ≡ (G.stored (records_of s)).meta.number)
IsAnswered s t None (Refused code) = ⊥
IsAnswered s t None Memory = ⊥
IsAnswered s t (Some e) changed = changed ≡ refused_by e

-- the node was asked once: an event of the model, or its refusal; what is applied stays
pub record AskedOnce {R : Type 0} {G : Ghosts R} (s t : Node R G) (command : entries.Command) (changed : Changed) :
    Type 0 where
  pub fault : Option NodeFault
  pub call : Call (replica_of s) (replica_of t) (Asks (bytes_of command)) [] [] fault
  pub answered : IsAnswered s t fault changed
  pub applied : applied_of t ≡ applied_of s
  pub config : config_of t ≡ config_of s

-- whether more positions are left than commands wait, so that one more has its own
-- Example: at front 999,999 with one command waiting, one more is 62.
abbrev pub has_position : {R : Type 0} {G : Ghosts R} → Node R G → Bool
has_position n = nat_lt (length (state_in n).volatile.waiting) (positions - front (learned_by n))

-- one ask where the command has a position; else 62 and nothing else
abbrev pub ChangesIf : {R : Type 0} {G : Ghosts R} → Bool → (s t : Node R G) → entries.Command → Changed → Type 0
ChangesIf true s t command changed = AskedOnce s t command changed
ChangesIf false s t command changed = (t ≡ s) × (changed ≡ Refused 62)

abbrev pub Changes : {R : Type 0} {G : Ghosts R} → (s t : Node R G) → entries.Command → Changed → Type 0
Changes s t command changed = ChangesIf (has_position s) s t command changed

-- ---- the numbers that were given

-- the first and the last of them, with one more
-- Example: 5 to 7 and then 9: 5 to 9.
abbrev pub with_number : Option (ℕ × ℕ) → Changed → Option (ℕ × ℕ)
with_number accepted (Refused code) = accepted
with_number accepted Memory = accepted
with_number None (Asked origin number) = Some (number, number)
with_number (Some t) (Asked origin number) = Some (t.0, number)

-- ---- what is answered

-- asked N.NUMBER
-- Example: asked 0.17.
abbrev pub asked_line : ℕ → ℕ → List ℕ
asked_line origin number = line (codes "asked " ++ decimal origin ++ codes "." ++ decimal number)

-- 202 and the line of what was asked; the refusal; 503 without a body when out of memory
abbrev pub change_answer : Changed → AnswerValue
change_answer (Asked origin number) = record { code = 202; body = asked_line origin number }
change_answer (Refused code) = refused code 0
change_answer Memory = record { code = 503; body = [] }
