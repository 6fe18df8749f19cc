-- The other side of "alone": of the parts that the replies depend on (Depends.antt) none can be spared. For each there are two controllers that agree in all others and do not reply alike. And the
-- controller's own volume is said by none of them: it may differ where all agree. All these had sets of equal volumes; where one set was of unequal ones, controllers that agree in every part may reply
-- differently. Definitions only.
use Rattle.std.specs.Prelude.{◌≡◌, pos, Ok}
use Rattle.clipping_predictor.specs.declared.settings.ClippingPredictorConfig.{ClippingPredictorConfig}
use Rattle.mono_input_volume_controller.specs.declared.config.Config.{Config}
use Rattle.input_volume_controller.specs.Controller.{fresh_with, making_with}
use Rattle.claims.specs.Depends.{History, standing, Even, Part, AgreeIn, AgreeInAll, ReplyAlike}

-- a making accepts and hands back the controller with which this past began
pub record Taken (h : History) : Type 0 where
  pub config : Config
  pub predictor : ClippingPredictorConfig
  pub made : making_with (pos h.channels) config predictor ≡ record { answer = Ok tt; controller = fresh_with h.predictor h.settings h.channels }

-- two controllers that makings took, after calls of their own
pub record Two : Type 0 where
  pub one : History
  pub other : History
  pub one_taken : Taken one
  pub other_taken : Taken other

-- every set that they accepted had equal volumes
abbrev pub BothEven : Two → Type 0
BothEven two = Even two.one × Even two.other

-- they agree in the first channel's state and all else but this part, and do not reply alike
pub record Needed (part : Part) : Type 0 where
  pub two : Two
  pub even : BothEven two
  pub agree : (same : Part) → (same ≡ part → ⊥) → AgreeIn 0 same (standing two.one) (standing two.other)
  pub apart : ReplyAlike (standing two.one) (standing two.other) → ⊥

-- they agree in every part, and their volumes differ
pub record VolumeIsOpen : Type 0 where
  pub two : Two
  pub even : BothEven two
  pub agree : AgreeInAll 0 (standing two.one) (standing two.other)
  pub apart : (standing two.one).control.volume ≡ (standing two.other).control.volume → ⊥

-- one of them accepted a set of unequal volumes: they agree in every part, and do not reply alike
pub record EvenIsNeeded : Type 0 where
  pub two : Two
  pub even : Even two.other
  pub agree : AgreeInAll 0 (standing two.one) (standing two.other)
  pub apart : ReplyAlike (standing two.one) (standing two.other) → ⊥

-- THE CLAIM
pub record DependsOnEach : Type 0 where
  pub needed : (part : Part) → Needed part
  pub volume_is_open : VolumeIsOpen
  pub even_is_needed : EvenIsNeeded
