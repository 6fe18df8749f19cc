-- `Agc2MetricsFromResultOptionLevelRefusal`: `from` gives what `metrics_of` says. Assumes nothing.
use mathlib.Core.Path.{sym, ap, ◌∙◌}
use Rattle.std.specs.Prelude.{Option, Result}
use Rattle.numbers.specs.declared.refusal.Refusal.{Refusal}
use Rattle.numbers.specs.Said.{said}
use Rattle.clipping_predictor_level_buffer.specs.declared.level.Level.{Level}
use Rattle.agc2.specs.Answers.{no_metrics, metrics_of}
use Rattle.agc2.proofs.answers.Agc2MetricsFromResultOptionLevelRefusal.from.Goals as goal

pub returns-in-Ok : goal.returns-in-Ok
returns-in-Ok c = c.found_metrics.ensures ∙ sym (ap (λ (m : Result (Option Level) Refusal). metrics_of (said m)) c.in-Ok.is)

pub returns-in-Err : goal.returns-in-Err
returns-in-Err c = ap no_metrics c.number.ensures ∙ sym (ap (λ (m : Result (Option Level) Refusal). metrics_of (said m)) c.in-Err.is)
