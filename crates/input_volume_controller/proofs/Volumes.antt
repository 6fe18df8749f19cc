-- The controller without its predictor, as a value: each change of the struct is that change of the value. Assumes nothing.
use mathlib.Core.Path.{◌≡◌, refl, ap, ◌∙◌}
use mathlib.Core.Bool.{Bool}
use mathlib.Core.List.{List}
use Prim.Native.Nat.{ℕ, zero, suc, ◌≤◌, ◌<◌, ◌^◌, max}
use native.Mathlib.Omega.{arith}
use lib.Dec.{leb→le}
use lib.IntN.{ℤ, pos, negsuc}
use lib.Signed.{mag, ◌≤ℤ◌}
use lib.Ieee.{Float}
use lib.ListN.{length, length-map}
use Rattle.std.specs.Prelude.{Option, Some}
use Rattle.clipping_predictor.specs.Predictor.{max_channels}
use Rattle.mono_input_volume_controller.specs.declared.mono.MonoInputVolumeController.{MonoInputVolumeController}
use Rattle.input_volume_controller.specs.Channels.{ChannelCall, channels_of, called, each_called, aggregate_of}
use Rattle.input_volume_controller.specs.declared.channels.Channels.{Channels}
use Rattle.input_volume_controller.specs.declared.channels.Aggregate.{Aggregate}
use Rattle.input_volume_controller.specs.declared.volume_control.VolumeControl.{VolumeControl}
use Rattle.mono_input_volume_controller.specs.SpeechLevel.{lowest_db, highest_db}
use Rattle.mono_input_volume_controller.specs.MonoState.{max_input_volume}
use Rattle.mono_input_volume_controller.specs.MonoState as Mono
use Rattle.input_volume_controller.specs.Channels as Channels
use Rattle.input_volume_controller.specs.Control.{Control, control_of, Good, Becomes, with_channels, with_since, with_used, with_applied, with_volume, each_channel}
use Rattle.input_volume_controller.specs.ControlCalls.{raised_for, aggregated, with_applied_input_volumes, initialize, switch_capture, lower_channels, process_channels}
use Rattle.input_volume_controller.proofs.ChannelLists.{all_called, length_given}

-- ---- the minimum

above : (least volume applied : ℕ) → (applied ≡ 0 → ⊥) → max volume least ≡ raised_for (Some applied) least volume
unfolding raised_for
above least volume zero n = absurd (n refl)
above least volume (suc k) n = refl

module _ (applied least volume : ℕ) where
  pub raised_zero : applied ≡ 0 → volume ≡ raised_for (Some applied) least volume
  unfolding raised_for
  raised_zero e = rw e

  pub raised_above : (applied ≡ 0 → ⊥) → max volume least ≡ raised_for (Some applied) least volume
  raised_above n = above least volume applied n

-- ---- one change each

-- a change of what was made before
pub then : (f : Control → Control) {said : Control} {c r : VolumeControl} → Becomes said c → Becomes (f (control_of c)) r → Becomes (f said) r
then f a b = record { good = b.good; is = b.is ∙ ap f a.is }

module _ (c : VolumeControl) (good : Good c) where
  pub with_channels_lem : (channels : Channels) (said : List MonoInputVolumeController) → Channels.Becomes said channels
      → Becomes (with_channels said (control_of c)) (record { settings = c.settings; channels = channels; since = c.since; used = c.used; applied = c.applied; volume = c.volume; controlling = c.controlling })
  unfolding control_of
  with_channels_lem channels said b = record {
    good = record { settings = good.settings; channels = b.good; volume = good.volume };
    is = λ i. with_channels (b.is i) (control_of c);
  }

  pub each_channel_lem : {post : ℕ → MonoInputVolumeController → MonoInputVolumeController → Type 0} (channels : Channels) → Channels.EachCalled post c.channels channels → (call : ChannelCall)
      → ((i : ℕ) (m n : MonoInputVolumeController) → i < max_channels → Mono.Good m → post i m n → Mono.Becomes (called call m) n)
      → Becomes (each_channel call (control_of c)) (record { settings = c.settings; channels = channels; since = c.since; used = c.used; applied = c.applied; volume = c.volume; controlling = c.controlling })
  unfolding control_of
  each_channel_lem channels all call is = with_channels_lem channels _ (all_called c.channels channels good.channels all call is)

  pub with_used_lem : (used : Bool) → Becomes (with_used used (control_of c)) (record { settings = c.settings; channels = c.channels; since = c.since; used = used; applied = c.applied; volume = c.volume; controlling = c.controlling })
  unfolding control_of
  with_used_lem used = record { good = record { settings = good.settings; channels = good.channels; volume = good.volume }; is = refl }

  pub with_since_lem : (since : ℕ) → Becomes (with_since since (control_of c)) (record { settings = c.settings; channels = c.channels; since = since; used = c.used; applied = c.applied; volume = c.volume; controlling = c.controlling })
  unfolding control_of
  with_since_lem since = record { good = record { settings = good.settings; channels = good.channels; volume = good.volume }; is = refl }

  pub with_volume_lem : (a : Aggregate) (volume : ℕ) → volume ≤ max_input_volume → a ≡ aggregate_of (channels_of c.channels) → volume ≡ raised_for c.applied c.settings.least a.volume
      → Becomes (aggregated (control_of c)) (record { settings = c.settings; channels = c.channels; since = c.since; used = c.used; applied = c.applied; volume = volume; controlling = a.channel })
  unfolding control_of aggregated
  with_volume_lem a volume h p q =
      let v = q ∙ ap (λ (x : Aggregate). raised_for c.applied c.settings.least x.volume) p in
      let k = ap (λ (x : Aggregate). x.channel) p in
      record { good = record { settings = good.settings; channels = good.channels; volume = h }; is = λ i. with_volume (v i) (k i) (control_of c) }

  -- the channels put in, and the volume taken with one volume pending and another left so
  pub channels_left : (channels : Channels) (pending left : Option ℕ) (a : Aggregate) (volume : ℕ) → Channels.Good channels → volume ≤ max_input_volume
      → a ≡ aggregate_of (channels_of channels) → volume ≡ raised_for pending c.settings.least a.volume
      → Becomes (with_applied left (aggregated (with_applied pending (with_channels (channels_of channels) (control_of c)))))
      (record { settings = c.settings; channels = channels; since = c.since; used = c.used; applied = left; volume = volume; controlling = a.channel })
  unfolding control_of aggregated
  channels_left channels pending left a volume b h p q =
      let v = q ∙ ap (λ (x : Aggregate). raised_for pending c.settings.least x.volume) p in
      let k = ap (λ (x : Aggregate). x.channel) p in
      record { good = record { settings = good.settings; channels = b; volume = h }; is = λ i. with_applied left (with_volume (v i) (k i) (with_channels (channels_of channels) (control_of c))) }

-- ---- no call changes how many channels there are

pub called_count : (call : ChannelCall) (channels : List MonoInputVolumeController) → length (each_called call channels) ≡ length channels
called_count call channels = length-map channels (called call)

module _ (c : Control) where
  pub initialize_count : length (initialize c).channels ≡ length c.channels
  unfolding initialize aggregated
  initialize_count = called_count _ c.channels

  pub switch_count : (on : Bool) → length (switch_capture on c).channels ≡ length c.channels
  switch_count on = called_count _ c.channels

  pub applied_count : (volumes : List ℕ) → length (with_applied_input_volumes volumes c).channels ≡ length c.channels
  unfolding with_applied_input_volumes aggregated
  applied_count volumes = length_given volumes c.channels

  pub lower_count : (step : ℕ) → length (lower_channels step c).channels ≡ length c.channels
  unfolding lower_channels aggregated
  lower_count step = called_count _ c.channels

  pub process_count : (probability : Float) (level : Option Float) → length (process_channels probability level c).channels ≡ length c.channels
  unfolding process_channels aggregated
  process_count probability level = called_count _ c.channels

  pub aggregate_count : length (aggregated c).channels ≡ length c.channels
  unfolding aggregated
  aggregate_count = refl

  pub applied_used : (volumes : List ℕ) → (with_applied_input_volumes volumes c).used ≡ c.used
  unfolding with_applied_input_volumes aggregated
  applied_used volumes = refl

-- a target is a small number
pub target_small : (z : ℤ) → lowest_db ≤ℤ z → z ≤ℤ highest_db → mag z < 2 ^ 31
unfolding mag
target_small (pos n) a b = let h = leb→le n 30 b.le in omega arith
target_small (negsuc n) a b = let h = leb→le n 89 a.le in omega arith
