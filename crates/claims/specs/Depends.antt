-- All channels as one, second half. Document 02 (xiii): "besides the calls' own inputs, the recommendations depend on the controller's settings and channel count, one channel state, the rings, the
-- clipping wait, the capture switch and the pending volume alone". The controller's own volume and the controlling channel are not among these: a call that uses the volume takes it anew first.
-- Of the words' list two need not be asked for, since others say them: the channel count, by the rings, and the capture switch, by the channel's state (`SaidByOthers`). So the claim asks for the
-- other five, and none of them can be spared (`DependsOnEach`, DependsEach.antt). Document 02 (xiv): this holds "where every set accepted so far had equal volumes". What follows may have any sets. Definitions only.
use Rattle.std.specs.Prelude.{◌≡◌, List, map, ℕ, ◌<◌, length, get_or}
use Rattle.clipping_predictor.specs.declared.settings.Settings as Predictor
use Rattle.mono_input_volume_controller.specs.declared.config.Settings.{Settings}
use Rattle.mono_input_volume_controller.specs.declared.mono.MonoInputVolumeController.{MonoInputVolumeController}
use Rattle.input_volume_controller.specs.Channels.{no_channel}
use Rattle.input_volume_controller.specs.Controller.{Controller, fresh_with}
use Rattle.input_volume_controller.specs.Reply.{Reply}
use Rattle.input_volume_controller.specs.Calls.{Call, Answer, after, answers}
use Rattle.claims.specs.Equal.{EvenCalls}

-- ---- a controller and its past

-- "after any sequence of accepted and refused calls": how a controller was made, with any predictor, any settings and any count of channels, and the calls that it has had
pub record History : Type 0 where
  pub predictor : Predictor.Settings
  pub settings : Settings
  pub channels : ℕ
  pub calls : List Call

-- where it stands then
abbrev pub standing : History → Controller
standing h = after (fresh_with h.predictor h.settings h.channels) h.calls

-- "where every set accepted so far had equal volumes"
abbrev pub Even : History → Type 0
Even h = EvenCalls h.channels h.calls

-- ---- what two controllers may agree in

pub data Part : Type 0 where
  settings : Part
  one_channel : Part
  rings : Part
  since_clipping : Part
  pending_volume : Part

abbrev pub state_of : ℕ → Controller → MonoInputVolumeController
state_of channel c = get_or c.control.channels channel no_channel

-- "the controller's settings", its predictor's among them; "one channel state", whichever it is; "the rings"; "the clipping wait", as far as it has gone; "the pending volume"
abbrev pub AgreeIn : ℕ → Part → Controller → Controller → Type 0
AgreeIn channel settings a b = (a.control.settings ≡ b.control.settings) × (a.predictor.settings ≡ b.predictor.settings)
AgreeIn channel one_channel a b = state_of channel a ≡ state_of channel b
AgreeIn channel rings a b = a.predictor.rings ≡ b.predictor.rings
AgreeIn channel since_clipping a b = a.control.since ≡ b.control.since
AgreeIn channel pending_volume a b = a.control.applied ≡ b.control.applied

abbrev pub AgreeInAll : ℕ → Controller → Controller → Type 0
AgreeInAll channel a b = (part : Part) → AgreeIn channel part a b

-- ---- what they then have in common

-- of each answer the reply alone: a recommendation's volume or none, a frame's mark or refusal number
abbrev pub replies_in : List Answer → List Reply
replies_in all = map (λ (a : Answer). a.reply) all

-- they reply alike to every later list of calls
abbrev pub ReplyAlike : Controller → Controller → Type 0
ReplyAlike a b = (calls : List Call) → replies_in (answers a calls) ≡ replies_in (answers b calls)

-- THE CLAIM, of two controllers each with a past of its own
abbrev pub DependsOnOne : Type 0
DependsOnOne = (one other : History) → Even one → Even other → (channel : ℕ) → channel < one.channels → AgreeInAll channel (standing one) (standing other) → ReplyAlike (standing one) (standing other)

-- ---- what need not be asked for

-- THE CLAIM, with any sets: each channel has a ring, and each channel's state says whether its output is used, as the capture switch does
pub record SaidByOthers : Type 0 where
  pub count : (h : History) → length (standing h).predictor.rings ≡ h.channels
  pub switch : (h : History) (channel : ℕ) → channel < h.channels → (state_of channel (standing h)).used ≡ (standing h).control.used
