-- A controller that is made: what the tests decide, and its two parts. Assumes nothing.
use mathlib.Core.Path.{◌≡◌, refl, sym, ap, ◌∙◌}
use mathlib.Core.Bool.{Bool}
use Prim.Native.Nat.{ℕ, ◌≤◌}
use lib.IntN.{ℤ, pos}
use lib.ListN.{length, length-replicate}
use Rattle.numbers.proofs.Listed.{length_listed}
use borrow.Author.Tests.{le-leb}
use Rattle.std.specs.Prelude.{Ok, Result, Some}
use Rattle.numbers.specs.declared.refusal.Refusal.{Refusal}
use Rattle.numbers.specs.Natural.{within_of, at_least_of}
use Rattle.numbers.specs.Said.{said}
use Rattle.clipping_predictor.specs.declared.settings.ClippingPredictorConfig.{ClippingPredictorConfig}
use Rattle.clipping_predictor.specs.declared.settings.Settings as Predictor
use Rattle.clipping_predictor.specs.declared.Created as CreatedPredictor
use Rattle.clipping_predictor.specs.declared.ClippingPredictor.{ClippingPredictor}
use Rattle.clipping_predictor.specs.Settings.{settings_of}
use Rattle.clipping_predictor.specs.Settings as PredictorSettings
use Rattle.clipping_predictor.specs.Predictor.{max_channels, Predictor, empty_predictor}
use Rattle.clipping_predictor.specs.Predictor as PredictorOf
use Rattle.mono_input_volume_controller.specs.declared.config.Settings.{Settings}
use Rattle.input_volume_controller.specs.declared.volume_control.VolumeControl.{VolumeControl}
use Rattle.input_volume_controller.specs.declared.making.Decided.{Decided}
use Rattle.input_volume_controller.specs.Control.{Control, control_of}
use Rattle.input_volume_controller.specs.Control as ControlOf
use Rattle.input_volume_controller.specs.Controller.{together, view_of, Becomes, predictor_settings, base_predictor, switched, fresh_control, fresh_with, Making, BuildsAs, CreatedAs}
use Rattle.input_volume_controller.proofs.ChannelLists.{count_is}

-- ---- the predictor

-- the base's passes its tests
pub base_checked : (on : Bool) → settings_of (switched on base_predictor) ≡ Ok (predictor_settings on)
unfolding settings_of PredictorSettings.checked PredictorSettings.levels_in_range at_least_of
base_checked on = refl

pub within_count : (n : ℕ) → 1 ≤ n → n ≤ max_channels → within_of 1 max_channels (pos n) ≡ Some n
unfolding within_of
within_count n h k = rw (le-leb 1 n h, le-leb n max_channels k)

-- of a count and a configuration that were tested it is made, with empty rings
predictor_made : (n : ℕ) (z : ℤ) (config : ClippingPredictorConfig) (p : Predictor.Settings) (r : CreatedPredictor.Created) → z ≡ pos n → 1 ≤ n → n ≤ max_channels → settings_of config ≡ Ok p
    → PredictorOf.CreatedOf z config r → PredictorOf.view_of r.predictor ≡ empty_predictor p n
unfolding PredictorOf.making_of PredictorOf.made_of
predictor_made n z config p r e h k f c =
    c.view ∙ ap (λ (x : ℤ). (PredictorOf.making_of x config).predictor) e ∙ (λ i. (PredictorOf.made_of (within_count n h k i) (f i)).predictor)

-- ---- the two parts of a fresh controller

made_whole : (p : Predictor.Settings) (s : Settings) (n : ℕ) (c : VolumeControl) (d : ClippingPredictor) → PredictorOf.Good d → PredictorOf.view_of d ≡ empty_predictor p n → ControlOf.Becomes (fresh_control s n) c
    → Becomes (fresh_with p s n) (together c d)
unfolding view_of control_of PredictorOf.view_of
made_whole p s n c d g v b = record {
  good = record {
    control = b.good;
    predictor = g;
    counts =
        sym (length_listed _ d.channels) ∙ ap (λ (x : Predictor). length x.rings) v ∙ length-replicate n _ ∙ sym (length-replicate n _)
        ∙ sym (ap (λ (x : Control). length x.channels) b.is) ∙ count_is c.channels;
  };
  is = λ i. record { control = b.is i; predictor = v i };
}

-- what was decided, built
pub built : {making : Making} (answer : Result (Unit {0}) Refusal) (d : Decided) (c : VolumeControl) (r : CreatedPredictor.Created) (z : ℤ) → answer ≡ making.answer → BuildsAs making.controller d → z ≡ pos d.channels
    → ControlOf.Becomes (fresh_control d.settings d.channels) c → PredictorOf.CreatedOf z d.predictor r → CreatedAs making (record { answer = answer; controller = together c r.predictor })
built answer d c r z t h e b m =
    let w = made_whole h.predictor d.settings d.channels c r.predictor m.good (predictor_made d.channels z d.predictor h.predictor r e h.low h.high h.checked m) b in
    record { good = w.good; answer = ap said t; view = w.is ∙ h.is }
