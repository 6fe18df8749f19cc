-- Worked examples of the definitions: lines of document 01 and edges of the grammar, each computed. A text is the list of its bytes. Assumes nothing.
use mathlib.Core.Path.{◌≡◌, refl}
use mathlib.Core.Bool.{true}
use mathlib.Core.List.{[], ◌∷◌}
use lib.IntN.{pos, negsuc}
use Rattle.numbers.specs.declared.refusal.Refusal.TheVariants.{FrameSize, FrameLine}
use Rattle.std.specs.Prelude.{Ok, Err, None, Some}
use Rattle.frame_lines.specs.Digits.{is_digit, digit, are_digits, number_after}
use Rattle.frame_lines.specs.Samples.{signed16, are_samples, samples_in}
use Rattle.frame_lines.specs.Line.{head_is_good, is_framed, is_well_formed, fields_of, meaning}
use Rattle.frame_lines.specs.Answer.{digit_character, digits_of, decimal, volume_text, number_text, answer_of}
use Rattle.frame_lines.specs.Forgiven.{lowered, fields_in, spaced, forgiven, lenient_meaning}
use Rattle.frame_lines.specs.Spelling.{samples_text, level_text, spelling}
use Rattle.frame_lines.specs.Lines.{lines_of}

-- c8 00000000 - 7fff800000010000
clipped_line : meaning (99 ∷ 56 ∷ 32 ∷ 48 ∷ 48 ∷ 48 ∷ 48 ∷ 48 ∷ 48 ∷ 48 ∷ 48 ∷ 32 ∷ 45 ∷ 32 ∷ 55 ∷ 102 ∷ 102 ∷ 102 ∷ 56 ∷ 48 ∷ 48 ∷ 48 ∷ 48 ∷ 48 ∷ 48 ∷ 49 ∷ 48 ∷ 48 ∷ 48 ∷ 48 ∷ []) ≡ Some (record { volume = 200; probability = 0; level = None; samples = pos 32767 ∷ negsuc 32767 ∷ pos 1 ∷ pos 0 ∷ [] })
unfolding meaning is_well_formed is_framed head_is_good fields_of are_samples samples_in signed16 are_digits number_after is_digit digit
clipped_line = refl

-- 00 3f800000 c1f00000 ffff
line_with_level : meaning (48 ∷ 48 ∷ 32 ∷ 51 ∷ 102 ∷ 56 ∷ 48 ∷ 48 ∷ 48 ∷ 48 ∷ 48 ∷ 32 ∷ 99 ∷ 49 ∷ 102 ∷ 48 ∷ 48 ∷ 48 ∷ 48 ∷ 48 ∷ 32 ∷ 102 ∷ 102 ∷ 102 ∷ 102 ∷ []) ≡ Some (record { volume = 0; probability = 1065353216; level = Some 3253731328; samples = negsuc 0 ∷ [] })
unfolding meaning is_well_formed is_framed head_is_good fields_of are_samples samples_in signed16 are_digits number_after is_digit digit
line_with_level = refl

-- one blank between fields, also before an empty sample field
no_samples : meaning (102 ∷ 102 ∷ 32 ∷ 48 ∷ 48 ∷ 48 ∷ 48 ∷ 48 ∷ 48 ∷ 48 ∷ 48 ∷ 32 ∷ 45 ∷ 32 ∷ []) ≡ Some (record { volume = 255; probability = 0; level = None; samples = [] })
unfolding meaning is_well_formed is_framed head_is_good fields_of are_samples samples_in signed16 are_digits number_after is_digit digit
no_samples = refl

-- the same without that blank
no_last_blank : meaning (102 ∷ 102 ∷ 32 ∷ 48 ∷ 48 ∷ 48 ∷ 48 ∷ 48 ∷ 48 ∷ 48 ∷ 48 ∷ 32 ∷ 45 ∷ []) ≡ None
unfolding meaning is_well_formed is_framed head_is_good fields_of are_samples samples_in signed16 are_digits number_after is_digit digit
no_last_blank = refl

-- c8
volume_alone : meaning (99 ∷ 56 ∷ []) ≡ None
unfolding meaning is_well_formed is_framed head_is_good fields_of are_samples samples_in signed16 are_digits number_after is_digit digit
volume_alone = refl

-- an empty line
empty_line : meaning ([]) ≡ None
unfolding meaning is_well_formed is_framed head_is_good fields_of are_samples samples_in signed16 are_digits number_after is_digit digit
empty_line = refl

-- C8 00000000 - 0000
capital : meaning (67 ∷ 56 ∷ 32 ∷ 48 ∷ 48 ∷ 48 ∷ 48 ∷ 48 ∷ 48 ∷ 48 ∷ 48 ∷ 32 ∷ 45 ∷ 32 ∷ 48 ∷ 48 ∷ 48 ∷ 48 ∷ []) ≡ None
unfolding meaning is_well_formed is_framed head_is_good fields_of are_samples samples_in signed16 are_digits number_after is_digit digit
capital = refl

-- c8  00000000 - 0000
two_blanks : meaning (99 ∷ 56 ∷ 32 ∷ 32 ∷ 48 ∷ 48 ∷ 48 ∷ 48 ∷ 48 ∷ 48 ∷ 48 ∷ 48 ∷ 32 ∷ 45 ∷ 32 ∷ 48 ∷ 48 ∷ 48 ∷ 48 ∷ []) ≡ None
unfolding meaning is_well_formed is_framed head_is_good fields_of are_samples samples_in signed16 are_digits number_after is_digit digit
two_blanks = refl

-- c8 00000000 - 000
three_digits : meaning (99 ∷ 56 ∷ 32 ∷ 48 ∷ 48 ∷ 48 ∷ 48 ∷ 48 ∷ 48 ∷ 48 ∷ 48 ∷ 32 ∷ 45 ∷ 32 ∷ 48 ∷ 48 ∷ 48 ∷ []) ≡ None
unfolding meaning is_well_formed is_framed head_is_good fields_of are_samples samples_in signed16 are_digits number_after is_digit digit
three_digits = refl

-- c8 00000000 - 0000 0000
gap : meaning (99 ∷ 56 ∷ 32 ∷ 48 ∷ 48 ∷ 48 ∷ 48 ∷ 48 ∷ 48 ∷ 48 ∷ 48 ∷ 32 ∷ 45 ∷ 32 ∷ 48 ∷ 48 ∷ 48 ∷ 48 ∷ 32 ∷ 48 ∷ 48 ∷ 48 ∷ 48 ∷ []) ≡ None
unfolding meaning is_well_formed is_framed head_is_good fields_of are_samples samples_in signed16 are_digits number_after is_digit digit
gap = refl

-- ---- the lenient reader

-- two blanks, capitals, and blanks at the ends: ` C8  00000000 - 7FFF `
typed : lenient_meaning (32 ∷ 67 ∷ 56 ∷ 32 ∷ 32 ∷ 48 ∷ 48 ∷ 48 ∷ 48 ∷ 48 ∷ 48 ∷ 48 ∷ 48 ∷ 32 ∷ 45 ∷ 32 ∷ 55 ∷ 70 ∷ 70 ∷ 70 ∷ 32 ∷ []) ≡ Some (record { volume = 200; probability = 0; level = None; samples = pos 32767 ∷ [] })
unfolding lenient_meaning forgiven fields_in spaced lowered meaning is_well_formed is_framed head_is_good fields_of are_samples samples_in signed16 are_digits number_after is_digit digit
typed = refl

-- `c8 00000000 -`
three_fields : lenient_meaning (99 ∷ 56 ∷ 32 ∷ 48 ∷ 48 ∷ 48 ∷ 48 ∷ 48 ∷ 48 ∷ 48 ∷ 48 ∷ 32 ∷ 45 ∷ []) ≡ Some (record { volume = 200; probability = 0; level = None; samples = [] })
unfolding lenient_meaning forgiven fields_in spaced lowered meaning is_well_formed is_framed head_is_good fields_of are_samples samples_in signed16 are_digits number_after is_digit digit
three_fields = refl

-- the bits of a not-a-number: `c8 7FC00001 ff800001`
nan_bits : lenient_meaning (99 ∷ 56 ∷ 32 ∷ 55 ∷ 70 ∷ 67 ∷ 48 ∷ 48 ∷ 48 ∷ 48 ∷ 49 ∷ 32 ∷ 102 ∷ 102 ∷ 56 ∷ 48 ∷ 48 ∷ 48 ∷ 48 ∷ 49 ∷ []) ≡ Some (record { volume = 200; probability = 2143289345; level = Some 4286578689; samples = [] })
unfolding lenient_meaning forgiven fields_in spaced lowered meaning is_well_formed is_framed head_is_good fields_of are_samples samples_in signed16 are_digits number_after is_digit digit
nan_bits = refl

-- `c8 00000000 - 0000 0000`
five_fields : lenient_meaning (99 ∷ 56 ∷ 32 ∷ 48 ∷ 48 ∷ 48 ∷ 48 ∷ 48 ∷ 48 ∷ 48 ∷ 48 ∷ 32 ∷ 45 ∷ 32 ∷ 48 ∷ 48 ∷ 48 ∷ 48 ∷ 32 ∷ 48 ∷ 48 ∷ 48 ∷ 48 ∷ []) ≡ None
unfolding lenient_meaning forgiven fields_in spaced lowered meaning is_well_formed is_framed head_is_good fields_of are_samples samples_in signed16 are_digits number_after is_digit digit
five_fields = refl

-- a tab is no blank
tabbed : lenient_meaning (99 ∷ 56 ∷ 9 ∷ 48 ∷ 48 ∷ 48 ∷ 48 ∷ 48 ∷ 48 ∷ 48 ∷ 48 ∷ 32 ∷ 45 ∷ 32 ∷ 48 ∷ 48 ∷ 48 ∷ 48 ∷ []) ≡ None
unfolding lenient_meaning forgiven fields_in spaced lowered meaning is_well_formed is_framed head_is_good fields_of are_samples samples_in signed16 are_digits number_after is_digit digit
tabbed = refl

-- `G` is no digit
no_digit : lenient_meaning (99 ∷ 56 ∷ 32 ∷ 48 ∷ 48 ∷ 48 ∷ 48 ∷ 48 ∷ 48 ∷ 48 ∷ 48 ∷ 32 ∷ 45 ∷ 32 ∷ 48 ∷ 48 ∷ 48 ∷ 71 ∷ []) ≡ None
unfolding lenient_meaning forgiven fields_in spaced lowered meaning is_well_formed is_framed head_is_good fields_of are_samples samples_in signed16 are_digits number_after is_digit digit
no_digit = refl

-- and the writer: `c8 7fc00001 - 8000`
spelled : spelling (record { volume = 200; probability = 2143289345; level = None; samples = negsuc 32767 ∷ [] }) ≡ 99 ∷ 56 ∷ 32 ∷ 55 ∷ 102 ∷ 99 ∷ 48 ∷ 48 ∷ 48 ∷ 48 ∷ 49 ∷ 32 ∷ 45 ∷ 32 ∷ 56 ∷ 48 ∷ 48 ∷ 48 ∷ []
unfolding spelling spaced level_text samples_text digits_of digit_character
spelled = refl

-- nothing behind the last blank: `c8 00000000 - `
spelled_empty : spelling (record { volume = 200; probability = 0; level = None; samples = [] }) ≡ 99 ∷ 56 ∷ 32 ∷ 48 ∷ 48 ∷ 48 ∷ 48 ∷ 48 ∷ 48 ∷ 48 ∷ 48 ∷ 32 ∷ 45 ∷ 32 ∷ []
unfolding spelling spaced level_text samples_text digits_of digit_character
spelled_empty = refl

-- ---- answers

marked_volume : answer_of (Ok (record { volume = 185; near = true })) ≡ 98 ∷ 57 ∷ 32 ∷ 110 ∷ 10 ∷ []
unfolding answer_of volume_text digits_of digit_character
marked_volume = refl

refused_frame : answer_of (Err FrameSize) ≡ 33 ∷ 32 ∷ 57 ∷ 10 ∷ []
unfolding answer_of number_text decimal
refused_frame = refl

refused_line : answer_of (Err FrameLine) ≡ 33 ∷ 32 ∷ 49 ∷ 50 ∷ 10 ∷ []
unfolding answer_of number_text decimal
refused_line = refl

-- ---- lines: 97 is `a`, 10 a line feed

final_feed : lines_of (97 ∷ 10 ∷ []) ≡ (97 ∷ []) ∷ []
unfolding lines_of
final_feed = refl

no_final_feed : lines_of (97 ∷ 10 ∷ 97 ∷ []) ≡ (97 ∷ []) ∷ (97 ∷ []) ∷ []
unfolding lines_of
no_final_feed = refl

empty_lines : lines_of (10 ∷ 10 ∷ []) ≡ [] ∷ [] ∷ []
unfolding lines_of
empty_lines = refl

nothing : lines_of [] ≡ []
unfolding lines_of
nothing = refl
