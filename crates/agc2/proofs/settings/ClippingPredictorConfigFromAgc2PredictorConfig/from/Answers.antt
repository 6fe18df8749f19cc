-- `ClippingPredictorConfigFromAgc2PredictorConfig`: `from` gives what `predictor_config_of` says. Assumes nothing.
use mathlib.Core.Bool.{false}
use Rattle.numbers.proofs.Signs.{again}
use Rattle.agc2.specs.Settings.{predictor_config_of}
use Rattle.agc2.proofs.settings.ClippingPredictorConfigFromAgc2PredictorConfig.from.Goals as goal

pub returns : goal.returns
unfolding predictor_config_of
returns c =
    λ i. record {
      enabled = false;
      mode = c.mode_of.ensures i;
      window_length = again c.args.c.window_length c.struct_told-1.given.1.0.1 i;
      reference_window_length = again c.args.c.reference_window_length c.struct_told-1.given.1.1.0.1 i;
      reference_window_delay = again c.args.c.reference_window_delay c.struct_told-1.given.1.1.1.0.1 i;
      clipping_threshold = again c.args.c.clipping_threshold c.struct_told-1.given.1.1.1.1.0.1 i;
      crest_factor_margin = again c.args.c.crest_factor_margin c.struct_told-1.given.1.1.1.1.1.0.1 i;
    }
