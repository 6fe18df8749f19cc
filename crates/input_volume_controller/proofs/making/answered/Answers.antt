-- `making::answered` meets its contract: what was decided, or what stands beside a refusal. Assumes nothing.
use mathlib.Core.Path.{refl, sym, ap, subst}
use Rattle.input_volume_controller.specs.Controller.{Making, BuildsAs, DecidedAs}
use Rattle.input_volume_controller.specs.Profile.{making_in}
use Rattle.input_volume_controller.proofs.Profiles.{made_at}
use Rattle.input_volume_controller.proofs.making.answered.Goals as goal

pub returns-in-Ok : goal.returns-in-Ok
returns-in-Ok c =
    let making = making_in c.args.profile c.args.num_capture_channels c.args.config c.args.predictor in
    let told = made_at (λ (m : Making). DecidedAs m c.decide_in.result) c.args.profile c.args.num_capture_channels c.ranges.num_capture_channels.sfits refl refl c.decide_in.ensures in
    let h = subst (DecidedAs making) c.in-Ok.is told in
    (sym h.0, h.1)

pub returns-in-Err : goal.returns-in-Err
returns-in-Err c =
    let making = making_in c.args.profile c.args.num_capture_channels c.args.config c.args.predictor in
    let told = made_at (λ (m : Making). DecidedAs m c.decide_in.result) c.args.profile c.args.num_capture_channels c.ranges.num_capture_channels.sfits refl refl c.decide_in.ensures in
    let h = subst (DecidedAs making) c.in-Err.is told in
    (ap (λ (m : Making). m.answer) (sym h), subst (λ (m : Making). BuildsAs m.controller c.unmade.result) (sym h) c.unmade.ensures)
