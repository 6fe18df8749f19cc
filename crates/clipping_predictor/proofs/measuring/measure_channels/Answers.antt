-- `clipping_predictor::measuring::measure_channels` meets its contract: each return by the tests that lead there. Assumes nothing.
use mathlib.Core.Path.{refl, sym, ap}
use mathlib.Core.List.{List}
use Rattle.std.specs.Prelude.{Ok, Err}
use Rattle.numbers.specs.declared.refusal.Refusal.TheVariants.{ChannelCount, FrameSize}
use Rattle.clipping_predictor_level_buffer.specs.declared.level.Level.{Level}
use Rattle.clipping_predictor.specs.Predictor.{frame_fits}
use Rattle.clipping_predictor.specs.FrameLevels.{measuring_if, measuring_of}
use Rattle.clipping_predictor.proofs.FrameLevels.{measured_as}
use Rattle.clipping_predictor.proofs.measuring.measure_channels.Goals as goal

pub returns-then-not-is_channel_count : goal.returns-then-not-is_channel_count
unfolding measuring_of
returns-then-not-is_channel_count c =
    measured_as c.args.channels c.args.samples_per_channel c.args.frame.now (Err ChannelCount) _
    (λ i. measuring_if (sym c.if-not-is_channel_count.ensures i) (frame_fits c.args.channels c.args.samples_per_channel c.args.frame.now)) refl

pub returns-then-not-frame_fits : goal.returns-then-not-frame_fits
unfolding measuring_of
returns-then-not-frame_fits c =
    measured_as c.args.channels c.args.samples_per_channel c.args.frame.now (Err FrameSize) _
    (λ i. measuring_if (sym c.if-not-is_channel_count.ensures i) (sym c.if-not-frame_fits.ensures i)) refl

pub returns : goal.returns
unfolding measuring_of
returns c =
    measured_as c.args.channels c.args.samples_per_channel c.args.frame.now (Ok tt) _
    (λ i. measuring_if (sym c.if-not-is_channel_count.ensures i) (sym c.if-not-frame_fits.ensures i))
    (ap (λ (l : List Level). Ok (record { items = l })) c.levels_of.ensures)
