-- The end of the lead-in, on one channel and on all: an initialise, a positive volume and a recommendation leave nothing of a channel but the settings that it carries. Assumes nothing.
use mathlib.Core.Path.{◌≡◌, refl, ap}
use mathlib.Core.Bool.{Bool, true, false}
use mathlib.Core.List.{List, [], ◌∷◌, map}
use Prim.Native.Nat.{ℕ, suc, ◌≤◌, max}
use native.Mathlib.Omega.{arith}
use lib.Dec.{T, leb, leb→le}
use lib.Ieee.{Float}
use lib.ListN.{length}
use borrow.Author.Tests.{ne_eqb}
use Rattle.std.specs.Prelude.{ℤ, Option}
use Rattle.mono_input_volume_controller.specs.declared.mono.MonoInputVolumeController.{MonoInputVolumeController}
use Rattle.input_volume_controller.specs.Channels.{Initialize, StreamAnalogLevel, Process, called, each_called, each_given}
use Rattle.mono_input_volume_controller.specs.MonoState.{max_input_volume, volumes, flags, counts}
use Rattle.mono_input_volume_controller.specs.Mono.{initialized, with_stream_analog_level}
use Rattle.mono_input_volume_controller.specs.MonoProcess.{stays_muted, unless_stays_muted, checked_volume_and_reset, settled, speech_frames, counted, not_first, processed}
use Rattle.claims.specs.LeadIn.{all}
use Rattle.claims.proofs.Lists.{and_l, and_r}
use Rattle.claims.proofs.Cores.{core}

-- a channel that was just checked, at the volume v or the minimum
abbrev checked_at : ℕ → MonoInputVolumeController → MonoInputVolumeController
checked_at v m = counts 0 0 true (flags true false false (volumes max_input_volume (max v m.least) (max v m.least) m))

-- what the three calls make of a channel, by what is left of it
abbrev pub finished : Option ℤ → Float → ℕ → MonoInputVolumeController → MonoInputVolumeController
finished error probability v m = not_first (counted error (speech_frames probability (checked_at v m)) (checked_at v m))

not_muted : (startup : Bool) (v : ℕ) → 1 ≤ v → stays_muted startup v ≡ false
unfolding stays_muted
not_muted true v h = refl
not_muted false v h = ne_eqb v 0 (λ e. omega arith)

settled_is : (v : ℕ) (m : MonoInputVolumeController) → 1 ≤ v → settled (with_stream_analog_level v (initialized m)) ≡ checked_at v (core m)
unfolding settled checked_volume_and_reset
settled_is v m h =
    ap (λ (t : Bool). unless_stays_muted t (max v m.least) (flags true false m.startup (with_stream_analog_level v (initialized m)))) (not_muted m.startup v h)

module _ (error : Option ℤ) (probability : Float) where
  processed_is : (v : ℕ) (m : MonoInputVolumeController) → 1 ≤ v → processed error probability (with_stream_analog_level v (initialized m)) ≡ finished error probability v (core m)
  unfolding processed
  processed_is v m positive = ap (λ (x : MonoInputVolumeController). not_first (counted error (speech_frames probability x) x)) (settled_is v m positive)

  called_is : (v : ℕ) (m : MonoInputVolumeController) → 1 ≤ v → called (Process error probability) (called (StreamAnalogLevel v) (called Initialize m)) ≡ finished error probability v (core m)
  unfolding called
  called_is v m positive = processed_is v m positive

  -- what they make of all channels, each with its own volume of a set
  abbrev pub finished_each : List ℕ → List MonoInputVolumeController → List MonoInputVolumeController
  finished_each volumes [] = []
  finished_each [] (m ∷ ms) = m ∷ ms
  finished_each (v ∷ vs) (m ∷ ms) = finished error probability v m ∷ finished_each vs ms

  -- THE LAW, of all channels: with a positive volume for each, nothing is left of them but their settings
  pub all_finished : (volumes : List ℕ) (channels : List MonoInputVolumeController) → length volumes ≡ length channels → T (all (leb 1) volumes)
      → each_called (Process error probability) (each_given volumes (each_called Initialize channels)) ≡ finished_each volumes (map core channels)
  unfolding all each_given
  all_finished volumes [] e t = refl
  all_finished [] (m ∷ ms) e t = absurd (no_count (length ms) e)
    where
      no_count : (n : ℕ) → 0 ≡ suc n → ⊥
      no_count n e = omega arith
  all_finished (v ∷ vs) (m ∷ ms) e t =
      λ i. called_is v m (leb→le 1 v (and_l (leb 1 v) (all (leb 1) vs) t)) i ∷ all_finished vs ms (one_less (length vs) (length ms) e) (and_r (leb 1 v) (all (leb 1) vs) t) i
    where
      one_less : (a b : ℕ) → suc a ≡ suc b → a ≡ b
      one_less a b e = omega arith
