-- `frame_lines::digits::is_digit` meets its contract: its tests are the definition's. Assumes nothing.
use mathlib.Core.Path.{refl}
use Rattle.frame_lines.specs.Digits.{is_digit}
use Rattle.frame_lines.proofs.digits.is_digit.Goals as goal

pub returns : goal.returns
unfolding is_digit
returns c = refl
