-- Document 01, "All channels": the estimates of all rings of a predictor, joined; and what a frame that enters the rings leads to, with its most clipped samples. Definitions only.
use Rattle.std.specs.Prelude.{◌≡◌, Bool, true, false, ◌&&◌, ℕ, max, Float, Option, Some, None}
use mathlib.Core.List.{List, map, foldl}
use Rattle.clipping_predictor_level_buffer.specs.declared.level.Level.{Level}
use Rattle.clipping_predictor_level_buffer.specs.Ring.{Counted}
use Rattle.clipping_predictor.specs.declared.settings.Settings.{Settings}
use Rattle.clipping_predictor.specs.declared.modes.Asked.{Asked}
use Rattle.clipping_predictor.specs.declared.modes.Estimated.{Estimated}
use Rattle.clipping_predictor.specs.declared.ClippingPredictor.{ClippingPredictor}
use Rattle.clipping_predictor.specs.declared.Heard.{Heard}
use Rattle.clipping_predictor.specs.declared.measuring.Levels.{Levels}
use Rattle.clipping_predictor.specs.declared.measuring.Brought.{Brought}
use Rattle.clipping_predictor.specs.Tree.{leaf}
use Rattle.clipping_predictor.specs.Turned.{estimated}
use Rattle.clipping_predictor.specs.Estimate.{estimate_tree}
use Rattle.clipping_predictor.specs.Predictor.{Predictor, view_of, Good, frame_fits, levels_in, with_levels, WithFrame}
use Rattle.clipping_predictor.specs.FrameLevels.{silent, levels_array}
use Rattle.clipping_predictor.specs.MostClipped.{most_clipped}

abbrev pub no_estimate : Estimated
no_estimate = estimated (leaf 0)

-- "the largest predicted step" of two channels, and the ends of what choices in both can join to: no choice joins to less than the larger of the least
abbrev pub joined : Estimated → Estimated → Estimated
joined a b = record { drop = max a.drop b.drop; low = max a.low b.low; high = max a.high b.high }

unfoldable pub predicted_by : Asked → Predictor → Estimated
predicted_by a p = foldl joined no_estimate (map (λ (records : List Level). estimated (estimate_tree p.settings records a)) p.rings)

-- what one ring answers, and what all of them do
abbrev pub estimated_for : Option Asked → Settings → List Level → Estimated
estimated_for None s records = no_estimate
estimated_for (Some a) s records = estimated (estimate_tree s records a)

abbrev pub predicted_for : Option Asked → Predictor → Estimated
predicted_for None p = no_estimate
predicted_for (Some a) p = predicted_by a p

-- a frame that does not fit is not asked about
abbrev pub predicted_if : Bool → Option Asked → Predictor → Estimated
predicted_if true question p = predicted_for question p
predicted_if false question p = no_estimate

-- how many of the channels take part: all or none
abbrev pub hearing : Bool → ℕ → ℕ
hearing true channels = channels
hearing false channels = 0

-- whether a step is asked for
abbrev pub is_asked : Option Asked → Bool
is_asked None = false
is_asked (Some a) = true

-- "most clipped samples in a channel": they are counted where a step is asked for, in a frame that fits
abbrev pub clipped_for : Option Asked → ℕ → ℕ → List Float → ℕ
clipped_for question channels samples frame = most_clipped (hearing (is_asked question) channels) samples frame

abbrev pub clipped_if : Bool → ℕ → ℕ
clipped_if true most = most
clipped_if false most = 0

-- a frame that fits is measured, and its levels enter the rings
pub record HeardOf (p : ClippingPredictor) (samples : ℕ) (frame : List Float) (question : Option Asked) (r : Heard) : Type 0 where
  pub entered : WithFrame p samples frame r.predictor
  pub answer : r.estimated ≡ predicted_if (frame_fits p.channels samples frame) question (view_of r.predictor)
  pub clipped_is : r.clipped ≡ clipped_if (frame_fits p.channels samples frame) (clipped_for question p.channels samples frame)

-- ---- what the private functions of a frame say

-- whether levels are heard, and which
abbrev pub hears : Option Levels → Bool
hears (Some levels) = true
hears None = false

-- the level of each channel, and silence where none were measured
abbrev pub items_in : Option Levels → List Level
items_in (Some levels) = levels.items
items_in None = silent

-- the levels of a frame that is heard
abbrev pub heard_if : Bool → List Level → Option Levels
heard_if true items = Some (record { items = items })
heard_if false items = None

-- what a frame brings: levels, which are heard if the predictor is on and the frame fits
pub record BroughtBy (on : Bool) (channels samples : ℕ) (frame : List Float) (question : Option Asked) (r : Brought) : Type 0 where
  pub levels_are : r.levels ≡ heard_if (on && frame_fits channels samples frame) (levels_array channels samples frame)
  pub counted : Counted (items_in r.levels)
  pub clipped_is : r.clipped ≡ clipped_if (frame_fits channels samples frame) (clipped_for question channels samples frame)

-- what it brings may enter the rings: they are heard by a predictor that is on, and their counts are in range
pub record MayEnter (p : ClippingPredictor) (b : Brought) : Type 0 where
  pub on : hears b.levels ≡ true → p.settings.enabled ≡ true
  pub counted : Counted (items_in b.levels)

abbrev pub with_levels_if : Bool → List Level → Predictor → Predictor
with_levels_if true levels p = with_levels levels p
with_levels_if false levels p = p

-- levels that are heard enter the rings, which are asked then; else the very predictor is handed back
pub record HeardLevelsOf (p : ClippingPredictor) (b : Brought) (question : Option Asked) (r : Heard) : Type 0 where
  pub good : Good r.predictor
  pub view : view_of r.predictor ≡ with_levels_if (hears b.levels) (levels_in (items_in b.levels) p.channels) (view_of p)
  pub same : hears b.levels ≡ false → r.predictor ≡ p
  pub answer : r.estimated ≡ predicted_if (hears b.levels) question (view_of r.predictor)
  pub clipped_is : r.clipped ≡ b.clipped
