-- The classroom. Document 02 (xii): "There, after any calls, a clipping frame that moves a channel's own volume off its applied volume never moves it below min_input_volume, before the usual minimum is applied to all
-- channels." A channel's own volume is the recommended volume of its own state after the frame: the controller's volume, which the usual minimum raises, is another. Its applied volume is the one that this frame gave
-- it. Said of every accepted frame, a clipping one or not, through any entry and with any set: a frame that does not lower the channels leaves each with its applied volume (`EachTook`), and so moves none. What two
-- pasts within the classroom need is `TwoPastsInClassroom` (Made.antt), and which settings are refused `RefusedCalls`. It reaches the static library by `LibraryRunsAreRuns`. Definitions only.
use Rattle.std.specs.Prelude.{◌≡◌, Bool, List, ℕ, ◌≤◌, ◌<◌, T, ℤ, pos, ◌≤ℤ◌, Float, length, Err, Ok}
use Rattle.numbers.specs.declared.refusal.Refusal.TheVariants.{ClassroomProfile}
use Rattle.clipping_predictor.specs.declared.settings.ClippingPredictorConfig.{ClippingPredictorConfig}
use Rattle.clipping_predictor.specs.Predictor.{max_channels}
use Rattle.mono_input_volume_controller.specs.declared.config.Config.{Config}
use Rattle.mono_input_volume_controller.specs.declared.profile.Profile.{Profile}
use Rattle.mono_input_volume_controller.specs.declared.profile.Profile.TheVariants.{Plain, Classroom}
use Rattle.mono_input_volume_controller.specs.Config.{defaults}
use Rattle.input_volume_controller.specs.declared.limits.Limits.{Limits}
use Rattle.input_volume_controller.specs.declared.InputVolumeController.{InputVolumeController}
use Rattle.input_volume_controller.specs.Control.{Control}
use Rattle.input_volume_controller.specs.Controller.{Controller, view_of, base_predictor}
use Rattle.input_volume_controller.specs.Profile.{making_in}
use Rattle.input_volume_controller.specs.Reply.{mark}
use Rattle.input_volume_controller.specs.Calls.{Call, frame, Answer, step, after, Does}
use Rattle.claims.specs.Past.{is_accepted}
use Rattle.claims.specs.EachTakesItsOwn.{volume_at}
use Rattle.claims.specs.Controlling.{volume_of}
use Rattle.claims.specs.Made.{MadeAndHad}
use Rattle.claims.specs.Sharp.{defaults_but}

-- of the channels that a frame with these volumes left, each that is moved off its applied volume has at least so much
abbrev pub NoneMovedBelow : ℤ → List ℤ → Control → Type 0
NoneMovedBelow least volumes c = (channel : ℕ) → channel < length c.channels → (volume_of c channel ≡ volume_at volumes channel → ⊥) → least ≤ℤ pos (volume_of c channel)

-- no frame that this controller accepts moves a channel below so much
abbrev pub NeverMovesBelow : ℤ → Controller → Type 0
NeverMovesBelow least c = (most : Limits) (volumes : List ℤ) (samples : ℕ) (lent : List Float) → T (is_accepted most (length c.control.channels) volumes samples lent)
    → NoneMovedBelow least volumes (step c (frame most volumes samples lent)).state.control

-- nor does one after any calls on a controller of this making
abbrev pub NeverMovedBelow : ℤ → Profile → ℤ → Config → ClippingPredictorConfig → Type 0
NeverMovedBelow least profile channels config predictor = (calls : List Call) → NeverMovesBelow least (after (making_in profile channels config predictor).controller calls)

-- THE CLAIM, with every predictor that a making takes, for every channel and every list of calls
pub record ClassroomKeepsMinimum : Type 0 where
  pub defined : (channels : ℤ) (config : Config) (predictor : ClippingPredictorConfig) → (making_in Classroom channels config predictor).answer ≡ Ok tt
      → NeverMovedBelow config.min_input_volume Classroom channels config predictor
  -- of the code: c was made within the classroom and has had some calls, and hands back d for a frame that it accepts
  pub in_code : (channels : ℤ) (config : Config) (predictor : ClippingPredictorConfig) (calls : List Call) (heard : List Answer) (c d : InputVolumeController)
      (most : Limits) (volumes : List ℤ) (samples : ℕ) (lent : List Float) (near : Bool) → MadeAndHad Classroom channels config predictor calls heard c
      → Does c (frame most volumes samples lent) (mark near) d → NoneMovedBelow config.min_input_volume volumes (view_of d).control
  -- what it rests on, within every profile: it is never moved below clipped_level_min
  pub at_level : (profile : Profile) (channels : ℤ) (config : Config) (predictor : ClippingPredictorConfig) → (making_in profile channels config predictor).answer ≡ Ok tt
      → NeverMovedBelow config.clipped_level_min profile channels config predictor

-- the default settings with this clipped_level_min
abbrev pub level_at : ℕ → Config
level_at level = defaults_but (pos level) defaults.clipped_ratio_threshold defaults.clipped_wait_frames

-- after some calls on a controller of one channel with these settings, an accepted frame has moved it off its applied volume and to this one
pub record MovedTo (profile : Profile) (config : Config) (own : ℕ) : Type 0 where
  pub made : (making_in profile (pos 1) config base_predictor).answer ≡ Ok tt
  pub calls : List Call
  pub most : Limits
  pub volumes : List ℤ
  pub samples : ℕ
  pub lent : List Float
  pub accepted : T (is_accepted most 1 volumes samples lent)
  pub moved : volume_of (step (after (making_in profile (pos 1) config base_predictor).controller calls) (frame most volumes samples lent)).state.control 0 ≡ own
  pub off : own ≡ volume_at volumes 0 → ⊥

-- The sentence needs the profile: with a clipped_level_min of 10 below the default min_input_volume of 20, which the plain making takes and the classroom's refuses, a clipped frame moves a channel to 15, and the same
-- claim is false. Within the classroom, at its edge, one moves a channel to the minimum itself, so the claim says something and cannot say more. And the profile has settings: the default ones.
pub record ClassroomIsNeeded : Type 0 where
  pub outside : (making_in Classroom (pos 1) (level_at 10) base_predictor).answer ≡ Err ClassroomProfile
  pub below : MovedTo Plain (level_at 10) 15
  pub refuted : NeverMovedBelow (level_at 10).min_input_volume Plain (pos 1) (level_at 10) base_predictor → ⊥
  pub at_the_edge : MovedTo Classroom (level_at 20) 20
  pub defaults_in : (channels : ℕ) → 1 ≤ channels → channels ≤ max_channels → (making_in Classroom (pos channels) defaults base_predictor).answer ≡ Ok tt
