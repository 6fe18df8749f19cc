-- The good order of a predictor's rings. Definitions only.
use Rattle.std.specs.Prelude.{◌≡◌, false, [], ◌+◌}
use Rattle.clipping_predictor_level_buffer.specs.declared.ClippingPredictorLevelBuffer.{ClippingPredictorLevelBuffer}
use Rattle.clipping_predictor_level_buffer.specs.Ring.{stored}
use Rattle.clipping_predictor_level_buffer.specs.Ring as Ring
use Rattle.clipping_predictor.specs.declared.settings.Settings.{Settings}
use Rattle.clipping_predictor.specs.Settings as Settings

-- a ring of a predictor with these settings: in good order, of capacity delay + reference, and empty if the predictor is off
pub record GoodFor (s : Settings) (r : ClippingPredictorLevelBuffer) : Type 0 where
  pub settings : Settings.Good s
  pub ring : Ring.Good r
  pub capacity : r.capacity ≡ s.delay + s.reference
  pub off : s.enabled ≡ false → stored r ≡ []
