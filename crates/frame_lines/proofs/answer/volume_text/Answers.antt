-- `frame_lines::answer::volume_text` meets its contract. Assumes nothing.
use mathlib.Core.List.{[], ◌∷◌}
use Rattle.frame_lines.specs.Answer.{volume_text}
use Rattle.frame_lines.proofs.answer.volume_text.Goals as goal

pub returns : goal.returns
unfolding volume_text
returns c =
    λ i. record { bytes = c.digit_character-high.ensures i ∷ c.digit_character-low.ensures i ∷ 32 ∷ c.mark_of-mark.ensures i ∷ 10 ∷ []; length = 5 }
