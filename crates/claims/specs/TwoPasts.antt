-- Document 01, demand 3, with document 02 (iv): two controllers that were made alike cannot be told apart after the same lead-in, whatever their pasts. Here of fresh controllers of the definitions; from the
-- makings on, and of the code, in Made.antt. `Sharp` says that the claim is not empty. Definitions only.
use Rattle.std.specs.Prelude.{◌≡◌, List, ◌++◌, ℕ, ◌+◌, ◌-◌, max, T}
use Rattle.std.specs.Float.Ieee.{le}
use Rattle.clipping_predictor_level_buffer.specs.Statistics.{plus_zero}
use Rattle.clipping_predictor.specs.declared.settings.Settings as Predictor
use Rattle.clipping_predictor.specs.Settings as Predictors
use Rattle.mono_input_volume_controller.specs.declared.config.Settings.{Settings}
use Rattle.input_volume_controller.specs.Controller.{Controller, fresh_with}
use Rattle.input_volume_controller.specs.Calls.{Call, after, answers}
use Rattle.claims.specs.LeadIn.{quiet_for, LeadIn, calls_of}

-- "Nobody can tell two controllers .. apart": "For every list of calls of these four kinds that both get .., however long, the answers of the two are equal, one by one."
abbrev pub Alike : Controller → Controller → Type 0
Alike a b = (calls : List Call) → answers a calls ≡ answers b calls

-- two controllers that were made alike, "whatever their pasts, once both have had the same lead-in": "A past is any list of frames, recommendations, initialises and capture switches,
-- refused frames included, from a fresh controller."
abbrev pub AlikeAfter : Controller → List Call → Type 0
AlikeAfter new leadIn = (past other : List Call) → Alike (after new (past ++ leadIn)) (after new (other ++ leadIn))

-- "The clipped-ratio threshold must be zero or more"
abbrev pub RatioFromZero : Settings → Type 0
RatioFromZero s = T (le plus_zero s.clipped_ratio)

-- ---- how many accepted frames the lead-in has

-- document 02 (iv), with any predictor: "the larger of (window - 1 + delay + reference) and (clipping wait + window - 1) frames"
abbrev pub enough_for : Predictor.Settings → Settings → ℕ
enough_for p s = max (p.window - 1 + (p.delay + p.reference)) (s.clipped_wait + (p.window - 1))

-- document 01, with the base's predictor: "the larger of 14 and the clipping wait plus 4, or more"
abbrev pub enough : Settings → ℕ
enough s = max 14 (s.clipped_wait + 4)

-- ---- the claim

-- THE CLAIM, "shown once for all modes": for every mode, window, reference, delay, threshold and margin in good order, on or off, for all settings and every channel count. No frame is quiet for a threshold
-- below -90,310, the least level (`LeadInsExist`)
abbrev pub TwoPastsInEveryMode : Type 0
TwoPastsInEveryMode =
    (p : Predictor.Settings) (s : Settings) (channels : ℕ) → Predictors.Good p → RatioFromZero s
    → (l : LeadIn channels (quiet_for p channels) (enough_for p s)) → AlikeAfter (fresh_with p s channels) (calls_of channels (quiet_for p channels) l)
