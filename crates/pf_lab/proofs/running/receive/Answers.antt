-- the message that comes is the one that the bytes spell
use Rattle.pf_node.specs.Nodes.{replica_of, state_in, membership_of}
use Rattle.pf_lab.proofs.Taking.{received_answered, received_unmoved, received_sound, kept_sound}
use Rattle.pf_lab.proofs.running.receive.Goals as goal

pub returns-in-Ok-clause-went : goal.returns-in-Ok-clause-went
returns-in-Ok-clause-went c from message passes spells =
    received_answered (replica_of c.args.node.now) (replica_of c.receive.new.self) _ _ _ _ from message c.requires.empty c.requires.works tt c.in-Ok.ensures.received passes spells

pub returns-in-Err-clause-sound : goal.returns-in-Err-clause-sound
returns-in-Err-clause-sound c =
    let n = c.args.node.now in
    let m = c.receive.new.self in
    let still = received_unmoved (replica_of n) (replica_of m) _ _ _ _ c.requires.works tt c.requires.sound (λ z. z.1) c.in-Err.ensures.received in
    kept_sound (membership_of n) (membership_of m) (state_in n) (state_in m) still.membership still.state c.requires.sound

pub returns-in-Ok-clause-sound : goal.returns-in-Ok-clause-sound
returns-in-Ok-clause-sound c =
    received_sound (replica_of c.args.node.now) (replica_of c.receive.new.self) _ _ _ _ c.requires.works tt c.requires.sound c.in-Ok.ensures.received
