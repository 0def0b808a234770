-- What a call of the code asks for.
use Rattle.std.specs.Prelude.{Bool, true, false, List, [], ◌∷◌, Option, Some, None, map}
use Rattle.std.specs.Option.{option_copied}
use Rattle.clap.specs.Words.{Text}
use Rattle.pf_tool.specs.declared.call.Call.{Call}
use Rattle.pf_tool.specs.declared.call.Call.TheVariants as call
use Rattle.pf_tool.specs.Options.{CallValue, Test, Check, Ctl, Lab, Explain, CheckFiles, TestFiles, check_as}

-- test over the input alone, or with files or -q
abbrev pub test_value : (file more : Option Text) → Bool → (packets : List Text) → CallValue
test_value (Some file) more quiet packets = TestFiles (Some file) more quiet packets
test_value None (Some more) quiet packets = TestFiles None (Some more) quiet packets
test_value None None quiet [] = TestFiles None None quiet []
test_value None None true (packet ∷ packets) = TestFiles None None true (packet ∷ packets)
test_value None None false (packet ∷ packets) = Test (packet ∷ packets)

abbrev pub asked : Call → CallValue
asked (call.Check check) = check_as check.place check.quiet (map (λ f. f.now) check.files.now)
asked (call.Test test) =
    test_value (option_copied test.file) (option_copied test.more) test.quiet (map (λ p. p.now) test.packets.now)
asked call.Ctl = Ctl
asked call.Lab = Lab
asked (call.Explain row) = Explain (option_copied row)

-- no file is named for the packets, and no argument is one
abbrev pub lacks_packets : (more : Option Text) → (packets : List Text) → Bool
lacks_packets (Some file) packets = false
lacks_packets None [] = true
lacks_packets None (packet ∷ packets) = false

-- whether the input is read
abbrev pub reads_input : CallValue → Bool
reads_input (Test packets) = true
reads_input (Check place) = true
reads_input Ctl = true
reads_input Lab = true
reads_input (Explain refusal) = false
reads_input (CheckFiles place quiet []) = true
reads_input (CheckFiles place quiet (file ∷ files)) = false
reads_input (TestFiles None more quiet packets) = true
reads_input (TestFiles (Some file) more quiet packets) = lacks_packets more packets
