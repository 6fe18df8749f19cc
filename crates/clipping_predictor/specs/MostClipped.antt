-- Document 01, "All channels": "most clipped samples in a channel". Definitions only.
use mathlib.Core.List.{List, map, foldl}
use Rattle.std.specs.Prelude.{ℕ, max, Float}
use Rattle.numbers.specs.Listed.{listed}
use Rattle.clipping_predictor_level_buffer.specs.declared.level.Level.{Level}
use Rattle.clipping_predictor_level_buffer.specs.Clipped.{clipped_in}
use Rattle.clipping_predictor_level_buffer.specs.Metrics.{clipped_of}
use Rattle.clipping_predictor.specs.Predictor.{part_of, levels_in}

-- the channels' parts of a frame
abbrev pub parts_of : ℕ → ℕ → List Float → List (List Float)
parts_of channels samples frame = listed (part_of samples frame) channels

-- "most clipped samples in a channel"
unfoldable pub most_clipped : ℕ → ℕ → List Float → ℕ
most_clipped channels samples frame = foldl max 0 (map clipped_in (parts_of channels samples frame))

-- the same of records in an array
unfoldable pub most_counted : ℕ → List Level → ℕ
most_counted channels items = foldl max 0 (map clipped_of (levels_in items channels))
