-- `making::decide_in` meets its contract: what the plain controller decides, within the profile. Assumes nothing.
use mathlib.Core.Path.{refl, sym, subst, ◌∙◌}
use Rattle.std.specs.Prelude.{Ok}
use Rattle.mono_input_volume_controller.specs.declared.profile.Profile.TheVariants.{Plain}
use Rattle.input_volume_controller.specs.Controller.{Making, making_with, DecidedAs}
use Rattle.input_volume_controller.proofs.Profiles.{within_outside, within_taken, made_at}
use Rattle.input_volume_controller.proofs.making.decide_in.Goals as goal

pub returns-then-not-takes : goal.returns-then-not-takes
returns-then-not-takes c =
    let h = made_at (λ (m : Making). DecidedAs m (Ok c.in_ok-decided.decided)) Plain c.args.num_capture_channels c.ranges.num_capture_channels.sfits refl refl c.in_ok-decided.ensures in
    within_outside (making_with c.args.num_capture_channels c.args.config c.args.predictor) (sym c.takes.ensures ∙ c.if-not-takes.true) h.0

pub returns : goal.returns
returns c =
    let h = made_at (λ (m : Making). DecidedAs m (Ok c.in_ok-decided.decided)) Plain c.args.num_capture_channels c.ranges.num_capture_channels.sfits refl refl c.in_ok-decided.ensures in
    subst (λ (m : Making). DecidedAs m (Ok c.in_ok-decided.decided)) (sym (within_taken (making_with c.args.num_capture_channels c.args.config c.args.predictor) (sym c.takes.ensures ∙ c.if-not-takes.false))) h
