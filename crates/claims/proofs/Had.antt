-- A controller of the code that was made and has had some calls stands where the definition stands, and its making was accepted. Assumes nothing.
use mathlib.Core.Path.{◌≡◌, sym, ap, ◌∙◌}
use mathlib.Core.List.{List}
use lib.IntN.{ℤ}
use Rattle.std.specs.Prelude.{Ok}
use Rattle.numbers.specs.Said.{said}
use Rattle.numbers.proofs.Said.{said_fixed}
use Rattle.clipping_predictor.specs.declared.settings.ClippingPredictorConfig.{ClippingPredictorConfig}
use Rattle.mono_input_volume_controller.specs.declared.config.Config.{Config}
use Rattle.mono_input_volume_controller.specs.declared.profile.Profile.{Profile}
use Rattle.input_volume_controller.specs.declared.InputVolumeController.{InputVolumeController}
use Rattle.input_volume_controller.specs.Controller.{Controller, view_of}
use Rattle.input_volume_controller.specs.Profile.{making_in}
use Rattle.input_volume_controller.specs.Calls.{Call, Answer, after}
use Rattle.claims.specs.Run.{RunIsAfter}
use Rattle.claims.specs.Made.{MadeAndHad}
use Rattle.claims.proofs.Run.{runs_are_runs}

module _ (profile : Profile) (channels : ℤ) (config : Config) (predictor : ClippingPredictorConfig) (calls : List Call) (heard : List Answer) (c : InputVolumeController)
    (m : MadeAndHad profile channels config predictor calls heard c) where
  pub had_run : RunIsAfter m.made.controller calls heard c
  had_run = runs_are_runs _ _ _ _ m.created.good m.run

  pub had_stands : view_of c ≡ after (making_in profile channels config predictor).controller calls
  had_stands = had_run.view ∙ ap (λ (x : Controller). after x calls) m.created.view

  pub had_accepted : (making_in profile channels config predictor).answer ≡ Ok tt
  had_accepted = said_fixed _ _ (sym m.created.answer ∙ ap said m.accepted)
