-- Document 01, "All channels", and document 02 (iv): the controller over its channels as a value, with its rings as lists; its making with any predictor, with causes 1 to 6 and then 7, 14 and 15; its good
-- order. Definitions only.
use Rattle.std.specs.Prelude.{◌≡◌, Bool, true, false, ℕ, ◌≤◌, ℤ, pos, negsuc, replicate, Result, Ok, Err, None, Option, Some}
use Rattle.numbers.specs.declared.refusal.Refusal.{Refusal}
use Rattle.numbers.specs.declared.refusal.Refusal.TheVariants.{ChannelCount}
use Rattle.numbers.specs.Natural.{within_of}
use Rattle.numbers.specs.Said.{said}
use Rattle.clipping_predictor.specs.declared.settings.ClippingPredictorMode.TheVariants.{AdaptiveStepClippingPeakPrediction}
use Rattle.clipping_predictor.specs.declared.settings.ClippingPredictorConfig.{ClippingPredictorConfig}
use Rattle.clipping_predictor.specs.declared.ClippingPredictor.{ClippingPredictor}
use Rattle.clipping_predictor.specs.declared.settings.Settings as Predictor
use Rattle.clipping_predictor.specs.Settings.{config_of}
use Rattle.clipping_predictor.specs.Settings as PredictorSettings
use Rattle.clipping_predictor.specs.Predictor.{max_channels, Predictor, empty_predictor}
use Rattle.clipping_predictor.specs.Predictor as PredictorOf
use Rattle.mono_input_volume_controller.specs.declared.config.Config.{Config}
use Rattle.mono_input_volume_controller.specs.declared.config.Settings.{Settings}
use Rattle.input_volume_controller.specs.declared.volume_control.VolumeControl.{VolumeControl}
use Rattle.input_volume_controller.specs.declared.InputVolumeController.{InputVolumeController}
use Rattle.input_volume_controller.specs.declared.Created.{Created}
use Rattle.input_volume_controller.specs.declared.making.Decided.{Decided}
use Rattle.mono_input_volume_controller.specs.Config.{defaults, settings_from, settings_of}
use Rattle.mono_input_volume_controller.specs.Config as Config
use Rattle.mono_input_volume_controller.specs.Mono.{created}
use Rattle.input_volume_controller.specs.Control.{Control, control_of}
use Rattle.input_volume_controller.specs.Control as ControlOf

-- the controller's state: the predictor with its settings and rings, and all the rest
pub record Controller : Type 0 where
  pub control : Control
  pub predictor : Predictor

-- its two parts as one
abbrev pub together : VolumeControl → ClippingPredictor → InputVolumeController
together control predictor = record { control = control; predictor = predictor }

unfoldable pub view_of : InputVolumeController → Controller
view_of c = record { control = control_of c.control; predictor = PredictorOf.view_of c.predictor }

-- good order: what the making establishes and every call hands back
pub record Good (c : InputVolumeController) : Type 0 where
  pub control : ControlOf.Good c.control
  pub predictor : PredictorOf.Good c.predictor
  pub counts : c.predictor.channels ≡ c.control.channels.count

-- what a call hands back: the value that the definition says, in good order
pub record Becomes (said : Controller) (r : InputVolumeController) : Type 0 where
  pub good : Good r
  pub is : view_of r ≡ said

-- ---- the predictor's configuration

-- "Its predictor is adaptive, windows 5, 5, 5, threshold -1,000, margin 3,000, or off"
abbrev pub predictor_settings : Bool → Predictor.Settings
predictor_settings on = record {
  enabled = on;
  mode = AdaptiveStepClippingPeakPrediction;
  window = 5;
  reference = 5;
  delay = 5;
  threshold = negsuc 999;
  margin = pos 3000;
}

-- "The base's predictor stays the default": the configuration that makes it, the source's `ClippingPredictorConfig::default`
abbrev pub base_predictor : ClippingPredictorConfig
base_predictor =
    let p = predictor_settings false in
    config_of p.enabled p.mode (pos p.window) (pos p.reference) (pos p.delay) p.threshold p.margin

-- any configuration, with a switch from elsewhere
abbrev pub switched : Bool → ClippingPredictorConfig → ClippingPredictorConfig
switched on c = config_of on c.mode c.window_length c.reference_window_length c.reference_window_delay c.clipping_threshold c.crest_factor_margin

-- ---- fresh controllers

-- the count of frames since clipping stands at the wait, so that the first frame is tested
abbrev pub fresh_control : Settings → ℕ → Control
fresh_control s channels = record {
  settings = s;
  channels = replicate channels (created s);
  since = s.clipped_wait;
  used = true;
  applied = None;
  volume = 0;
  controlling = 0;
}

-- a fresh controller with any predictor, and with the base's
abbrev pub fresh_with : Predictor.Settings → Settings → ℕ → Controller
fresh_with predictor s channels = record { control = fresh_control s channels; predictor = empty_predictor predictor channels }

abbrev pub fresh : Settings → ℕ → Controller
fresh s channels = fresh_with (predictor_settings s.predicts) s channels

-- ---- making: causes 1 to 6, and then 7, 14 and 15

pub record Making : Type 0 where
  pub answer : Result (Unit {0}) Refusal
  pub controller : Controller

-- what stands beside a refusal: a controller of one channel with the default settings and the base's predictor
abbrev pub unmade : Refusal → Making
unmade cause = record { answer = Err cause; controller = fresh (settings_from defaults) 1 }

-- "It refuses faults of windows, threshold or margin as a predictor's making does"
unfoldable pub made_with : ℕ → Settings → Result Predictor.Settings Refusal → Making
made_with channels s (Err cause) = unmade cause
made_with channels s (Ok p) = record { answer = Ok tt; controller = fresh_with p s channels }

-- the channel count is tested first, then the settings, then the predictor: "after number 6 and also with the predictor off". The switch is the one of the settings
unfoldable pub made_of : Option ℕ → Result Settings Refusal → ClippingPredictorConfig → Making
unfolding made_with
made_of None settings predictor = unmade ChannelCount
made_of (Some channels) (Err cause) predictor = unmade cause
made_of (Some channels) (Ok s) predictor = made_with channels s (PredictorSettings.settings_of (switched s.predicts predictor))

-- "The controller takes any of the three modes with its own windows, threshold and margin"
unfoldable pub making_with : ℤ → Config → ClippingPredictorConfig → Making
unfolding made_of
making_with channels config predictor = made_of (within_of 1 max_channels channels) (settings_of config) predictor

-- with the base's predictor
abbrev pub making_of : ℤ → Config → Making
making_of channels config = making_with channels config base_predictor

-- what the private functions of the making say: d is tested, and that controller is built of it
pub record BuildsAs (made : Controller) (d : Decided) : Type 0 where
  pub low : 1 ≤ d.channels
  pub high : d.channels ≤ max_channels
  pub settings : Config.Good d.settings
  pub predictor : Predictor.Settings
  pub checked : PredictorSettings.settings_of d.predictor ≡ Ok predictor
  pub is : fresh_with predictor d.settings d.channels ≡ made

-- and what is decided is what to build, or why that making is refused
abbrev pub DecidedAs : Making → Result Decided Refusal → Type 0
DecidedAs making (Ok d) = (making.answer ≡ Ok tt) × BuildsAs making.controller d
DecidedAs making (Err cause) = making ≡ unmade cause

-- and this is answered, with d built beside it
abbrev pub AnsweredAs : Making → Result (Unit {0}) Refusal → Decided → Type 0
AnsweredAs making answer d = (answer ≡ making.answer) × BuildsAs making.controller d

-- what the contracts of the makings say: r is the making, in good order
pub record CreatedAs (making : Making) (r : Created) : Type 0 where
  pub good : Good r.controller
  pub answer : said r.answer ≡ said making.answer
  pub view : view_of r.controller ≡ making.controller

abbrev pub CreatedWith : ℤ → Config → ClippingPredictorConfig → Created → Type 0
CreatedWith channels config predictor r = CreatedAs (making_with channels config predictor) r

abbrev pub CreatedOf : ℤ → Config → Created → Type 0
CreatedOf channels config r = CreatedWith channels config base_predictor r
