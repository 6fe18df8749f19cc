-- Document 02 (xi), for a whole controller: "metrics give their total over the items, so a fitter can see a clipped stretch". Definitions only.
use Rattle.std.specs.Prelude.{[], ℕ, ◌+◌, ℤ, get_or, Option, Result}
use Rattle.numbers.specs.declared.refusal.Refusal.{Refusal}
use Rattle.clipping_predictor_level_buffer.specs.declared.level.Level.{Level}
use Rattle.clipping_predictor_level_buffer.specs.Metrics.{compute_partial_metrics}
use Rattle.clipping_predictor.specs.Predictor.{Predictor}

-- "metrics give their total over the items, so a fitter can see a clipped stretch": those of a channel's ring, which has room for delay + reference; a channel that is not there stores nothing
unfoldable pub channel_metrics : Predictor → ℕ → ℤ → ℤ → Result (Option Level) Refusal
channel_metrics p channel delay n = compute_partial_metrics (p.settings.delay + p.settings.reference) (get_or p.rings channel []) delay n
