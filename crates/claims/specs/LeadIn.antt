-- Document 01, demand 3: the frames that are accepted, those that are quiet, and the lead-in. Definitions only.
use Rattle.std.specs.Prelude.{Bool, true, false, not, ◌&&◌, ◌||◌, List, [], ◌∷◌, ◌++◌, map, ℕ, ◌+◌, ◌≤◌, T, leb, ℤ, pos, negsuc, Float, Option}
use Rattle.std.specs.Float.{binary32}
use Rattle.std.specs.Float.Ieee.{is_nan, le, of_int}
use Rattle.levels.specs.declared.decibels.Decibels.TheVariants.{Finite}
use Rattle.levels.specs.Decibels.{at_most}
use Rattle.levels.specs.Level.{dbfs}
use Rattle.clipping_predictor_level_buffer.specs.declared.level.Level.{Level}
use Rattle.clipping_predictor.specs.declared.settings.ClippingPredictorMode.{ClippingPredictorMode}
use Rattle.clipping_predictor.specs.declared.settings.ClippingPredictorMode.TheVariants.{ClippingEventPrediction, AdaptiveStepClippingPeakPrediction, FixedStepClippingPeakPrediction}
use Rattle.clipping_predictor.specs.declared.settings.Settings.{Settings}
use Rattle.clipping_predictor.specs.Estimate.{whole_db}
use Rattle.clipping_predictor.specs.Predictor.{levels_of}
use Rattle.clipping_predictor_level_buffer.specs.Clipped.{is_clipped, one_if}
use Rattle.input_volume_controller.specs.declared.limits.Limits.{Limits}
use Rattle.input_volume_controller.specs.Calls.{Call, frame, recommendation, initialise, capture_switch}
use Rattle.claims.specs.Past.{is_accepted}

-- a test that every member of a list passes
unfoldable pub all : {A : Type 0} → (A → Bool) → List A → Bool
all f [] = true
all f (x ∷ xs) = f x && all f xs

-- ---- accepted frames

-- how many accepted frames a call is, and how many a list of calls has
unfoldable pub accepted_by : ℕ → Call → ℕ
accepted_by channels (frame most volumes samples lent) = one_if (is_accepted most channels volumes samples lent)
accepted_by channels (recommendation probability level) = 0
accepted_by channels initialise = 0
accepted_by channels (capture_switch on) = 0

unfoldable pub accepted_in : ℕ → List Call → ℕ
accepted_in channels [] = 0
accepted_in channels (call ∷ calls) = accepted_by channels call + accepted_in channels calls

-- "Refused frames may stand anywhere.": a refused frame
unfoldable pub is_refused : ℕ → Call → Bool
is_refused channels (frame most volumes samples lent) = not (is_accepted most channels volumes samples lent)
is_refused channels (recommendation probability level) = false
is_refused channels initialise = false
is_refused channels (capture_switch on) = false

-- ---- quiet frames

-- "quiet means every sample is a number from -29,000 to 29,000": a not-a-number is in no order
unfoldable pub is_quiet : Float → Bool
is_quiet x = le (of_int binary32 (negsuc 28999)) x && le x (of_int binary32 (pos 29000))

unfoldable pub quiet : ℕ → List Float → Bool
quiet samples lent = all is_quiet lent

-- "no clipped or not-a-number sample"
unfoldable pub is_sound : Float → Bool
is_sound x = not (is_clipped x) && not (is_nan x)

-- "the threshold that the mode compares with"
abbrev pub compared_in : ClippingPredictorMode → ℤ → ℤ
compared_in ClippingEventPrediction threshold = threshold
compared_in AdaptiveStepClippingPeakPrediction threshold = whole_db threshold
compared_in FixedStepClippingPeakPrediction threshold = whole_db threshold

-- a "peak level at or below" it
unfoldable pub is_low : Settings → Level → Bool
is_low p l = at_most (dbfs l.max) (Finite (compared_in p.mode p.threshold))

-- quiet for any predictor: "no clipped or not-a-number sample, and every channel's peak level at or below the threshold that the mode compares with"
unfoldable pub quiet_for : Settings → ℕ → ℕ → List Float → Bool
quiet_for p channels samples lent = all is_sound lent && all (is_low p) (levels_of channels samples lent)

-- ---- the lead-in, by a channel count and a test for quiet frames

module _ (channels : ℕ) (is_still : ℕ → List Float → Bool) where
  -- "any list of these calls without a switching off, in which every accepted frame is quiet": each of its calls
  unfoldable pub is_calm : Call → Bool
  is_calm (frame most volumes samples lent) = not (is_accepted most channels volumes samples lent) || is_still samples lent
  is_calm (recommendation probability level) = true
  is_calm initialise = true
  is_calm (capture_switch on) = on

  -- what stands in a lead-in with at least `enough` accepted frames in its list
  pub record LeadIn (enough : ℕ) : Type 0 where
    -- the list of calls before the initialise
    pub body : List Call
    -- refused frames
    pub after_initialise : List Call
    -- the last frame, and the limits of its entry
    pub most : Limits
    pub volumes : List ℕ
    pub samples : ℕ
    pub lent : List Float
    pub after_frame : List Call
    -- its recommendation
    pub probability : Float
    pub level : Option Float
    pub after_recommendation : List Call
    pub calm : T (all is_calm body)
    pub long : enough ≤ accepted_in channels body
    pub accepted : T (is_accepted most channels (map pos volumes) samples lent)
    pub still : T (is_still samples lent)
    -- "every volume positive"
    pub positive : T (all (leb 1) volumes)
    pub refused : T (all (is_refused channels) (after_initialise ++ (after_frame ++ after_recommendation)))

  -- "The lead-in is capture switched on; then any list of these calls ..; then an initialise; then an accepted quiet frame with a positive volume, and its recommendation." Of a set every volume is positive.
  unfoldable pub calls_of : {enough : ℕ} → LeadIn enough → List Call
  calls_of l =
      capture_switch true ∷ (l.body
      ++ (initialise ∷ (l.after_initialise
      ++ (frame l.most (map pos l.volumes) l.samples l.lent ∷ (l.after_frame
      ++ (recommendation l.probability l.level ∷ l.after_recommendation))))))
