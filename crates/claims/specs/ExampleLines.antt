-- Document 01, "The frame-line program": the example, its four lines and what is written of them. The second line is clipped and is answered 15 below its volume, so no echo will do.
-- It reaches the code by the contracts of `frame_answers`: what a `Stream` writes of any input, in pieces of any size, is `output_of` of it (`runs_answer`, frame_answers/proofs/Whole.antt).
-- Definitions only.
use Rattle.std.specs.Prelude.{◌≡◌, List, [], ◌∷◌, ℕ}
use Prim.Native.Char.{code}
use Prim.Native.String.{String, [] as []ᵗ, ◌∷◌ as ◌∷ᵗ◌, ◌++◌}
use Rattle.frame_answers.specs.Texts.{output_of}

-- the bytes of a text, each character of which is one byte, its code
unfoldable pub bytes_of : String → List ℕ
bytes_of []ᵗ = []
bytes_of (c ∷ᵗ text) = code c ∷ bytes_of text

-- "Input:"
abbrev pub example_input : String
example_input =
    "c8 00000000 - 0000000000000000\n"
    ++ "c8 00000000 - 7fff7fff00000000\n"
    ++ "b9 00000000 - 0000000000000000\n"
    ++ "c8\n"

-- "Output:"
abbrev pub example_output : String
example_output =
    "c8 .\n"
    ++ "b9 .\n"
    ++ "b9 .\n"
    ++ "! 12\n"

-- THE CLAIM
abbrev pub ExampleLines : Type 0
ExampleLines = output_of (bytes_of example_input) ≡ bytes_of example_output
