-- `clipping_predictor::modes::estimate_for` meets its contract: off, at or below the least level, or by the metrics of the two windows. Assumes nothing.
use mathlib.Core.Path.{sym, ap, ap₂, ◌∙◌}
use Prim.Native.Nat.{ℕ}
use borrow.Author.Tests.{not-true, not-false}
use Rattle.std.specs.Prelude.{Option, Result}
use Rattle.numbers.specs.declared.refusal.Refusal.{Refusal}
use Rattle.numbers.proofs.Said.{said_fixed}
use Rattle.clipping_predictor_level_buffer.specs.declared.level.Level.{Level}
use Rattle.clipping_predictor_level_buffer.specs.Ring.{stored}
use Rattle.clipping_predictor_level_buffer.specs.Metrics.{partial_metrics}
use Rattle.clipping_predictor.specs.Turned.{estimated}
use Rattle.clipping_predictor.specs.Estimate.{windows_tree}
use Rattle.clipping_predictor.proofs.Windows.{off, low, on}
use Rattle.clipping_predictor.proofs.modes.estimate_for.Goals as goal
use Rattle.clipping_predictor.proofs.modes.estimate_for.Goals.{then-not-s-via-then-not-s, then-not-s-via-else-not-s+then-a}

pub returns-then-not-s : goal.returns-then-not-s
returns-then-not-s c =
    elim c.then-not-s.branch [
      | then-not-s-via-then-not-s w ↦ c.no_estimate.ensures ∙ sym (ap estimated (off c.args.s (stored c.args.ring) c.args.a (not-true _ w.if-not-s.true) c.requires.settings.window_low))
      | then-not-s-via-else-not-s+then-a w ↦ c.no_estimate.ensures ∙ sym (ap estimated (low c.args.s (stored c.args.ring) c.args.a w.if-a.true))
    ]

pub returns : goal.returns
returns c =
    c.from_windows.ensures
    ∙ ap₂ (λ (m r : Result (Option Level) Refusal). estimated (windows_tree c.args.s c.args.a m r))
    (said_fixed c.partial_metrics-newest.result (partial_metrics c.args.ring.capacity (stored c.args.ring) 0 c.args.s.window) c.partial_metrics-newest.ensures ∙ ap (λ (n : ℕ). partial_metrics n (stored c.args.ring) 0 c.args.s.window) c.requires.capacity)
    (said_fixed c.partial_metrics-older.result (partial_metrics c.args.ring.capacity (stored c.args.ring) c.args.s.delay c.args.s.reference) c.partial_metrics-older.ensures ∙ ap (λ (n : ℕ). partial_metrics n (stored c.args.ring) c.args.s.delay c.args.s.reference) c.requires.capacity)
    ∙ sym (ap estimated (on c.args.s (stored c.args.ring) c.args.a (not-false _ c.if-not-s.false) c.if-a.false))
