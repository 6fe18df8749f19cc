-- `VolumeControl::recommend_input_volume` meets its contract. Assumes nothing.
use mathlib.Core.Path.{refl, sym, ap, ◌∙◌}
use native.Mathlib.Omega.{arith}
use lib.IntN.{pos}
use Rattle.std.proofs.lemmas.Int.{ints}
use borrow.Author.Tests.{not-true, not-false}
use Rattle.clipping_predictor.specs.Predictor.{Predictor}
use Rattle.input_volume_controller.specs.Control.{Control, control_of}
use Rattle.input_volume_controller.specs.Controller.{Controller}
use Rattle.input_volume_controller.specs.Reply.{volume}
use Rattle.input_volume_controller.proofs.Volumes.{aggregate_count, process_count}
use Rattle.input_volume_controller.proofs.Whole.{same_count, beside}
use Rattle.input_volume_controller.proofs.Answers.{recommend_none, recommend_off, recommend_on}
use Rattle.input_volume_controller.proofs.volume_control.VolumeControl.recommend_input_volume.Goals as goal
use Rattle.input_volume_controller.proofs.volume_control.VolumeControl.recommend_input_volume.Goals.{Start}

-- with a predictor beside it
abbrev seen : Start → Predictor → Controller
seen s p = record { control = control_of s.args.self; predictor = p }

pub returns-in_default : goal.returns-in_default
unfolding control_of
returns-in_default c =
    record { good = c.requires; count = refl; does = λ p. recommend_none (seen c.before p) _ _ c.in_default.is }

pub returns-then-not-self : goal.returns-then-not-self
unfolding control_of
returns-then-not-self c =
    record {
      good = c.aggregate_channel_levels.ensures.good;
      count = same_count c.args.self _ c.aggregate_channel_levels.ensures (aggregate_count (control_of c.args.self));
      does = λ p. recommend_off (seen c.before.before.before.before.before p) _ _ c.in-Some.volume c.in-Some.is (not-true _ c.if-not-self.true) ∙ beside p (ap volume (sym (omega (arith, ints, c.from.ensures)))) c.aggregate_channel_levels.ensures;
    }

pub returns : goal.returns
unfolding control_of
returns c =
    record {
      good = c.process_channels-processed.ensures.good;
      count = same_count c.args.self _ c.process_channels-processed.ensures (process_count (control_of c.args.self) _ _);
      does = λ beside-it. recommend_on (seen c.before.before.before.before.before beside-it) _ _ c.in-Some.volume c.in-Some.is (not-false _ c.if-not-self.false)
          ∙ beside beside-it (ap volume (sym (omega (arith, ints, c.from-2.ensures, c.process_channels-processed.ensures.good.volume) ∙ ap (λ (x : Control). pos x.volume) c.process_channels-processed.ensures.is))) c.process_channels-processed.ensures;
    }
