-- Document 01, "The frame-line program": the bytes that answer a line, a list of lines, and a whole text. Definitions only.
use Rattle.std.specs.Prelude.{List, [], ◌∷◌, ◌++◌, ℕ, pos}
use Rattle.mono_input_volume_controller.specs.Config.{defaults}
use Rattle.input_volume_controller.specs.Controller.{Controller, making_of}
use Rattle.frame_lines.specs.Answer.{volume_text, number_text}
use Rattle.frame_lines.specs.Lines.{lines_of}
use Rattle.frame_answers.specs.LineStep.{Answer, recommended, refused, line_step}

-- "Output per line"
unfoldable pub text_of : Answer → List ℕ
text_of (recommended volume near) = volume_text volume near
text_of (refused n) = number_text n

-- each line gets the controller that the one before it left
unfoldable pub after_lines : Controller → List (List ℕ) → Controller
after_lines c [] = c
after_lines c (line ∷ lines) = after_lines (line_step c line).state lines

unfoldable pub text_of_lines : Controller → List (List ℕ) → List ℕ
text_of_lines c [] = []
text_of_lines c (line ∷ lines) = text_of (line_step c line).answer ++ text_of_lines (line_step c line).state lines

-- "default settings, one channel"
unfoldable pub start_controller : Controller
start_controller = (making_of (pos 1) defaults).controller

-- what the program writes, of what it reads
unfoldable pub output_of : List ℕ → List ℕ
output_of text = text_of_lines start_controller (lines_of text)
