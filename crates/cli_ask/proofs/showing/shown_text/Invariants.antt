use Rattle.std.proofs.Common.{◌≡◌, ◌++◌, IsUtf8, string_bytes}
use Rattle.std.specs.List.{flat_map}
use Rattle.std.specs.Str.{chars}
use Rattle.std.specs.Str.Iter.{chars_rest}
use Rattle.cli_ask.specs.Showing.{shown_char}
use Rattle.cli_ask.proofs.showing.shown_text.Given as goal

-- what is shown so far, and what is shown of the characters that are left
abbrev pub invariant-loop-c : goal.invariant-loop-c
invariant-loop-c l = IsUtf8 (chars_rest l.c-iterator)
    × (string_bytes l.out ++ flat_map shown_char (chars (chars_rest l.c-iterator)) ≡ flat_map shown_char (chars l.text))
