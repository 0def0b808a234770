-- A worked example.
use Rattle.std.specs.Prelude.{◌≡◌, [], ◌∷◌, Some, None, codes, refl}
use Rattle.hex.specs.Hex.{encode_with}
use Rattle.cli_files.specs.StartsTexts.{starts_text}
use Rattle.cli_files.specs.Next.{next_start}

-- a member of start 4 with salt 40 and birth 9
pub a_text : starts_text (record { start = record { number = 4; salt = 40 }; birth = 9 } ∷ [])
    ≡ codes "pfx starts 1\n00000004000000280000000000000009\n"
unfolding encode_with
a_text = refl

-- the start after the first one at second 1,000, and after the start of number 2,000 at that second
pub after_first : next_start (record { number = 1; salt = 40 }) 1000 41 ≡ Some (record { number = 1000; salt = 41 })
after_first = refl

pub after_later : next_start (record { number = 2000; salt = 40 }) 1000 41 ≡ Some (record { number = 2001; salt = 41 })
after_later = refl

pub none_left : next_start (record { number = 0xFFFFFFFF; salt = 40 }) 1000 41 ≡ None
none_left = refl
