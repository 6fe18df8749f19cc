-- The controlling channel is the first of those with the lowest volume, after any calls. Assumes nothing.
use mathlib.Core.Path.{◌≡◌, refl, sym, ap, ◌∙◌}
use mathlib.Core.Bool.{Bool, true}
use mathlib.Core.List.{List, [], ◌∷◌}
use Prim.Native.Nat.{ℕ, zero, suc, ◌≤◌}
use native.Mathlib.Nat.{not-suc-le-zero}
use native.Mathlib.Omega.{arith}
use lib.IntN.{pos}
use lib.Ieee.{Float}
use lib.ListN.{length, get_or, replicate, length-map, length-replicate, get_or-replicate}
use Rattle.std.specs.Prelude.{None, Option, Some}
use Rattle.clipping_predictor.specs.declared.settings.Settings as Predictor
use Rattle.mono_input_volume_controller.specs.declared.config.Settings.{Settings}
use Rattle.mono_input_volume_controller.specs.declared.mono.MonoInputVolumeController.{MonoInputVolumeController}
use Rattle.mono_input_volume_controller.specs.SpeechLevel.{rms_error_of}
use Rattle.mono_input_volume_controller.specs.Mono.{created, handled_capture_output_used_change}
use Rattle.input_volume_controller.specs.Channels.{Initialize, CaptureOutputUsed, Clipping, Process, no_channel, called, each_called, each_given}
use Rattle.input_volume_controller.specs.Volumes.{lowest_of}
use Rattle.input_volume_controller.specs.Control.{Control, with_channels, with_since, with_used, with_applied, each_channel}
use Rattle.input_volume_controller.specs.ControlCalls.{raised_for, aggregated, with_applied_input_volumes, initialize, lower_channels, process_channels}
use Rattle.input_volume_controller.specs.Controller.{Controller, fresh_with}
use Rattle.input_volume_controller.specs.Reply.{Stepped, volume}
use Rattle.input_volume_controller.specs.Recommendation.{recommend_if, unless_none, recommend_input_volume}
use Rattle.input_volume_controller.specs.Calls.{Call, recommendation, step, after}
use Rattle.claims.specs.Controlling.{volume_of, HoldsLowest, RecommendsLowest, ControllingIsLowest}
use Rattle.claims.proofs.Lowest.{lowest_of_lem}
use Rattle.input_volume_controller.proofs.ChannelLists.{length_given}
use Rattle.claims.proofs.Walk.{Any, Keeps, after_keeps}

-- ---- every call

-- wherever the volume is taken
taken : (c : Control) → 1 ≤ length c.channels → HoldsLowest (aggregated c)
unfolding aggregated
taken c h =
    let l = lowest_of_lem c.channels h in
    record {
      there = l.there;
      least = λ channel k. omega (arith, l.is, l.least channel k);
      first = λ channel k. omega (arith, l.is, l.first channel k);
    }

-- some channel is there
some : (c : Control) → HoldsLowest c → 1 ≤ length c.channels
some c h = omega (arith, h.there)

-- a switch changes no volume
switched_volume : (on : Bool) (ms : List MonoInputVolumeController) (i : ℕ) → (get_or (each_called (CaptureOutputUsed on) ms) i no_channel).volume ≡ (get_or ms i no_channel).volume
unfolding called handled_capture_output_used_change
switched_volume on [] i = refl
switched_volume on (m ∷ ms) zero = refl
switched_volume on (m ∷ ms) (suc i) = switched_volume on ms i

-- that nothing is pending changes none either
pending_gone : (c : Control) → HoldsLowest c → HoldsLowest (with_applied None c)
pending_gone c h = record { there = h.there; least = h.least; first = h.first }

holds_kept : Keeps Any HoldsLowest
unfolding with_applied_input_volumes lower_channels process_channels initialize
holds_kept = record {
  runs = record {
    hears = record {
      lowers = λ by c h. taken (with_since 0 (each_channel (Clipping by) c)) (omega (arith, some c h, length-map c.channels (called (Clipping by))));
      counts = λ c h. record { there = h.there; least = h.least; first = h.first };
    };
    applies = λ volumes c e m t h. taken (with_applied (Some (lowest_of volumes)) (with_channels (each_given volumes c.channels) c)) (omega (arith, some c h, length_given volumes c.channels));
    processes = λ probability level c h.
        let error = rms_error_of level c.settings.min_target c.settings.max_target in
        pending_gone _ (taken (each_channel (Process error probability) c) (omega (arith, some c h, length-map c.channels (called (Process error probability)))));
    repeats = λ c h. taken c (some c h);
  };
  initialises = λ c h. pending_gone _ (taken (with_used true (each_channel Initialize c)) (omega (arith, some c h, length-map c.channels (called Initialize))));
  switches = λ on c h. record {
    there = omega (arith, h.there, length-map c.channels (called (CaptureOutputUsed on)));
    least = λ channel k.
        omega (arith, h.least channel (omega (arith, k, length-map c.channels (called (CaptureOutputUsed on)))), switched_volume on c.channels channel, switched_volume on c.channels c.controlling);
    first = λ channel k. omega (arith, h.first channel k, switched_volume on c.channels channel, switched_volume on c.channels c.controlling);
  };
}

holds_fresh : (predictor : Predictor.Settings) (s : Settings) (count : ℕ) → 1 ≤ count → HoldsLowest (fresh_with predictor s count).control
holds_fresh predictor s count h =
    let none : (get_or (replicate count (created s)) 0 no_channel).volume ≡ 0 = ap (λ (m : MonoInputVolumeController). m.volume) (get_or-replicate count 0 (created s) no_channel h) in
    record {
      there = omega (arith, h, length-replicate count (created s));
      least = λ channel k. omega (arith, none);
      first = λ channel k. absurd (not-suc-le-zero k);
    }

holds_after : (predictor : Predictor.Settings) (s : Settings) (count : ℕ) → 1 ≤ count → (calls : List Call) → HoldsLowest (after (fresh_with predictor s count) calls).control
holds_after predictor s count h calls = after_keeps HoldsLowest holds_kept calls (fresh_with predictor s count) (holds_fresh predictor s count h)

-- ---- a recommendation

processed_is : (c : Control) (probability : Float) (level : Option Float) (a : Option ℕ) → 1 ≤ length c.channels → c.applied ≡ a
    → (process_channels probability level c).volume ≡ raised_for a c.settings.least (volume_of (process_channels probability level c) (process_channels probability level c).controlling)
unfolding process_channels aggregated
processed_is c probability level a h e =
    let error = rms_error_of level c.settings.min_target c.settings.max_target in
    let ms = each_called (Process error probability) c.channels in
    λ i. raised_for (e i) c.settings.least (sym (lowest_of_lem ms (omega (arith, h, length-map c.channels (called (Process error probability))))).is i)

recommends : (c : Controller) → 1 ≤ length c.control.channels → RecommendsLowest c
unfolding recommend_input_volume
recommends c h applied on e probability level =
    let asked : step c (recommendation probability level) ≡ recommend_if true applied probability level c =
    ap (λ (a : Option ℕ). unless_none a probability level c) e ∙ ap (λ (used : Bool). recommend_if used applied probability level c) on in
    ap (λ (s : Stepped). s.reply) asked
    ∙ ap (λ (v : ℕ). volume (pos v)) (processed_is c.control probability level (Some applied) h e)
    ∙ sym (ap (λ (s : Stepped). volume (pos (raised_for (Some applied) c.control.settings.least (volume_of s.state.control s.state.control.controlling)))) asked)

-- THE CLAIM
pub controlling_is_lowest : ControllingIsLowest
controlling_is_lowest = record {
  controlling = holds_after;
  recommended = λ predictor s count h calls. let c = after (fresh_with predictor s count) calls in recommends c (some c.control (holds_after predictor s count h calls));
}
