-- The claim `TwoPasts` says something: its words mean what the calls say, lead-ins exist, and while one accepted frame fewer in one does, two fewer do not. Definitions only.
use Rattle.std.specs.Prelude.{◌≡◌, Bool, true, false, not, List, ℕ, ◌-◌, ◌≤◌, T, ℤ, pos, negsuc, Float, length}
use Rattle.std.specs.Int.Signed.{lt_z, le_z}
use Rattle.clipping_predictor.specs.declared.settings.ClippingPredictorMode.{ClippingPredictorMode}
use Rattle.clipping_predictor.specs.declared.settings.ClippingPredictorConfig.{ClippingPredictorConfig}
use Rattle.clipping_predictor.specs.declared.settings.Settings as Predictor
use Rattle.clipping_predictor.specs.Settings.{config_of}
use Rattle.clipping_predictor.specs.Settings as Predictors
use Rattle.mono_input_volume_controller.specs.declared.config.Config.{Config}
use Rattle.mono_input_volume_controller.specs.declared.profile.Profile.{Profile}
use Rattle.mono_input_volume_controller.specs.declared.profile.Profile.TheVariants.{Plain}
use Rattle.mono_input_volume_controller.specs.declared.config.Settings.{Settings}
use Rattle.mono_input_volume_controller.specs.Config.{defaults, settings_from}
use Rattle.input_volume_controller.specs.declared.limits.Limits.{Limits}
use Rattle.input_volume_controller.specs.Controller.{Controller, base_predictor, fresh_with, fresh, making_with}
use Rattle.input_volume_controller.specs.Profile.{making_in}
use Rattle.input_volume_controller.specs.Reply.{Reply, mark, refusal, volume, none, done}
use Rattle.input_volume_controller.specs.Calls.{Call, frame, recommendation, initialise, capture_switch, step}
use Rattle.claims.specs.Every.{Every}
use Rattle.claims.specs.Past.{is_accepted}
use Rattle.claims.specs.LeadIn.{accepted_in, quiet, compared_in, quiet_for, LeadIn, calls_of}
use Rattle.claims.specs.TwoPasts.{AlikeAfter, RatioFromZero, enough, enough_for}
use Rattle.claims.specs.Made.{MayBeCompared, quiet_in, enough_in}

abbrev pub is_refusal : Reply → Bool
is_refusal (mark near) = false
is_refusal (refusal number) = true
is_refusal (volume v) = false
is_refusal none = false
is_refusal done = false

-- "accepted is not refused": a frame's reply is a refusal exactly where `is_accepted` fails
abbrev pub AcceptedIsNotRefused : Type 0
AcceptedIsNotRefused =
    (c : Controller) (most : Limits) (volumes : List ℤ) (samples : ℕ) (lent : List Float)
    → is_refusal (step c (frame most volumes samples lent)).reply ≡ not (is_accepted most (length c.control.channels) volumes samples lent)

-- a frame comes through an entry with these limits
abbrev pub Through : Limits → Call → Type 0
Through most (frame limits volumes samples lent) = limits ≡ most
Through most (recommendation probability level) = Unit {0}
Through most initialise = Unit {0}
Through most (capture_switch on) = Unit {0}

-- a lead-in with exactly as many accepted frames, all through one entry
abbrev pub LeadInOf : Limits → ℕ → (ℕ → List Float → Bool) → ℕ → Type 0
LeadInOf most channels is_still frames = (l : LeadIn channels is_still frames) × (accepted_in channels l.body ≡ frames) × Every (Through most) (calls_of channels is_still l)

-- limits that take a frame of one sample for each channel
abbrev pub TakesOneSample : Limits → ℕ → Type 0
TakesOneSample most channels = (channels ≤ most.channels) × (1 ≤ most.samples)

-- the level of silence, the least that there is
abbrev pub silent : ℤ
silent = negsuc 90309

-- for all settings, every channel count and every entry whose limits take a frame of one sample for each channel (the plain one: up to 8 channels; the spotter's: up to 2) there is a lead-in through that entry with
-- exactly as many accepted frames as the claim asks; and so for every predictor whose threshold silence does not pass. Where it does, no frame is quiet, and the claim says nothing
pub record LeadInsExist : Type 0 where
  pub own : (s : Settings) (most : Limits) (channels : ℕ) → TakesOneSample most channels → LeadInOf most channels quiet (enough s)
  pub in_every_mode : (p : Predictor.Settings) (s : Settings) (most : Limits) (channels : ℕ) → TakesOneSample most channels → T (le_z silent (compared_in p.mode p.threshold))
      → LeadInOf most channels (quiet_for p channels) (enough_for p s)
  pub none_below : (p : Predictor.Settings) (channels samples : ℕ) (lent : List Float) → 1 ≤ channels → T (lt_z (compared_in p.mode p.threshold) silent) → quiet_for p channels samples lent ≡ false

-- the frame after the initialise is quiet and enters the rings too, so with one accepted frame fewer before it the claim holds as well, and so does its general form
pub record OneFewerIsEnough : Type 0 where
  pub own : (s : Settings) (channels : ℕ) → RatioFromZero s → (l : LeadIn channels quiet (enough s - 1)) → AlikeAfter (fresh s channels) (calls_of channels quiet l)
  pub in_every_mode : (p : Predictor.Settings) (s : Settings) (channels : ℕ) → Predictors.Good p → RatioFromZero s
      → (l : LeadIn channels (quiet_for p channels) (enough_for p s - 1)) → AlikeAfter (fresh_with p s channels) (calls_of channels (quiet_for p channels) l)

-- the default settings with another clipped_level_min, clipped-ratio threshold and clipping wait
abbrev pub defaults_but : ℤ → Float → ℤ → Config
defaults_but level ratio wait = record {
  min_input_volume = defaults.min_input_volume;
  clipped_level_min = level;
  clipped_level_step = defaults.clipped_level_step;
  clipped_ratio_threshold = ratio;
  clipped_wait_frames = wait;
  enable_clipping_predictor = defaults.enable_clipping_predictor;
  target_range_max_dbfs = defaults.target_range_max_dbfs;
  target_range_min_dbfs = defaults.target_range_min_dbfs;
  update_input_volume_wait_frames = defaults.update_input_volume_wait_frames;
  speech_probability_threshold = defaults.speech_probability_threshold;
  speech_ratio_threshold = defaults.speech_ratio_threshold;
}

-- with another clipping wait
abbrev pub waiting : ℕ → Config
waiting wait = defaults_but defaults.clipped_level_min defaults.clipped_ratio_threshold (pos wait)

-- with these settings and this predictor, which the making within the profile takes, two accepted frames fewer do not do: the same claim is false
pub record TooFewWith (profile : Profile) (config : Config) (predictor : ClippingPredictorConfig) (is_still : ℕ → List Float → Bool) (least : ℕ) : Type 0 where
  pub made : MayBeCompared profile 1 config predictor
  pub refuted : ((l : LeadIn 1 is_still (least - 2)) → AlikeAfter (making_in profile (pos 1) config predictor).controller (calls_of 1 is_still l)) → ⊥

-- with the base's predictor
abbrev pub TooFewByDefault : Profile → Config → Type 0
TooFewByDefault profile config = TooFewWith profile config base_predictor quiet (enough (settings_from config))

-- a small predictor of any mode
abbrev pub small : ClippingPredictorMode → ClippingPredictorConfig
small mode = config_of true mode (pos 2) (pos 3) (pos 1) (negsuc 999) (pos 1000)

abbrev pub TooFewInMode : ClippingPredictorMode → Config → Type 0
TooFewInMode mode config = let new = (making_with (pos 1) config (small mode)).controller in TooFewWith Plain config (small mode) (quiet_in new 1) (enough_in new)

-- both where the windows' number is the larger (14; 5), and where the clipping wait's is (304; 11); 304 within the classroom too
pub record TwoFewerAreTooFew : Type 0 where
  pub with_no_wait : TooFewByDefault Plain (waiting 0)
  pub by_default : (profile : Profile) → TooFewByDefault profile (waiting 300)
  pub in_every_mode : (mode : ClippingPredictorMode) → TooFewInMode mode (waiting 0)
  pub in_every_mode_with_a_wait : (mode : ClippingPredictorMode) → TooFewInMode mode (waiting 10)
