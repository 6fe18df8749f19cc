-- Document 01, "The frame-line program": "samples (4 each, signed 16-bit, two's complement, no gaps)". Definitions only.
use Rattle.std.specs.Prelude.{Bool, true, false, ◌&&◌, List, [], ◌∷◌, ℕ, ◌-◌, ◌^◌, ltb, ℤ, pos, neg_ℤ}
use Rattle.frame_lines.specs.Digits.{are_digits, number}

-- four characters
abbrev pub four : ℕ → ℕ → ℕ → ℕ → List ℕ
four a b c d = a ∷ b ∷ c ∷ d ∷ []

abbrev pub signed_if : Bool → ℕ → ℤ
signed_if true n = pos n
signed_if false n = neg_ℤ (pos (2 ^ 16 - n))

-- "signed 16-bit, two's complement"
unfoldable pub signed16 : ℕ → ℤ
signed16 n = signed_if (ltb n (2 ^ 15)) n

-- "4 each .. no gaps": the whole text goes by fours of digits
unfoldable pub are_samples : List ℕ → Bool
are_samples [] = true
are_samples (a ∷ []) = false
are_samples (a ∷ b ∷ []) = false
are_samples (a ∷ b ∷ c ∷ []) = false
are_samples (a ∷ b ∷ c ∷ d ∷ text) = are_digits (four a b c d) && are_samples text

abbrev pub sample_if : Bool → ℕ → List ℤ → List ℤ
sample_if true n samples = signed16 n ∷ samples
sample_if false n samples = []

-- the samples as far as the text goes by fours of digits: all that it has, where it goes so to its end
unfoldable pub samples_in : List ℕ → List ℤ
samples_in [] = []
samples_in (a ∷ []) = []
samples_in (a ∷ b ∷ []) = []
samples_in (a ∷ b ∷ c ∷ []) = []
samples_in (a ∷ b ∷ c ∷ d ∷ text) = sample_if (are_digits (four a b c d)) (number (four a b c d)) (samples_in text)
