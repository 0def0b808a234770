-- What values of the code stand for.
use Rattle.std.specs.Prelude.{string_bytes}
use Rattle.pf_dump.specs.Texts.{Text}
use Rattle.pf_dump.specs.declared.path_texts.PathText.{PathText}

-- a path and its text
abbrev pub text_of : PathText → Text
text_of t = record { path = t.path.now; text = string_bytes t.text }
