-- The speech error is one rounded subtraction, and then the rounding to whole. Assumes nothing.
use mathlib.Core.Path.{◌≡◌, refl}
use lib.IntN.{negsuc}
use lib.Ieee
use lib.Ieee.{binary32, of_bits}
use Rattle.std.specs.Prelude.{Some}
use Rattle.numbers.specs.Sign.{signed}
use Rattle.levels.specs.Rounding.{half_up, round_of}
use Rattle.mono_input_volume_controller.specs.SpeechLevel.{held, error_of, rms_error_of}

-- -1 less the largest f32 below one half is -1.5 as an f32
pub one_rounding : rms_error_of (Some (of_bits binary32 0x3efffffe)) (negsuc 49) (negsuc 0) ≡ Some (negsuc 1)
unfolding rms_error_of held error_of round_of signed half_up Ieee.of_bits Ieee.of_int Ieee.sub Ieee.lt
one_rounding = refl
