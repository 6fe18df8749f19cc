-- What the numbers of equal volumes are, and what a set of volumes leaves of the channels that take it. Assumes nothing.
use mathlib.Core.Path.{◌≡◌, refl, sym, ap, ◌∙◌}
use mathlib.Core.List.{List, [], ◌∷◌, map}
use Prim.Native.Nat.{ℕ, ◌≤◌}
use lib.IntN.{ℤ, nat_abs}
use lib.ListN.{length, replicate}
use Rattle.mono_input_volume_controller.specs.declared.mono.MonoInputVolumeController.{MonoInputVolumeController}
use Rattle.mono_input_volume_controller.specs.MonoState.{max_input_volume}
use Rattle.input_volume_controller.specs.Channels.{StreamAnalogLevel, called, each_called, each_given}
use Rattle.input_volume_controller.specs.Volumes.{number_set, numbers_of}
use Rattle.input_volume_controller.proofs.SetNumbers.{AllMost, told_set, numbers_back}
use Rattle.claims.specs.Every.{Every}
use Rattle.claims.proofs.Lists.{map_replicate}
use Rattle.claims.proofs.Cores.{core, core_called}

-- ---- the numbers of a set of equal volumes

pub equal_told : (volumes : List ℤ) (numbers : List ℕ) (volume : ℤ) (n : ℕ) → numbers_of volumes ≡ number_set numbers → volumes ≡ replicate n volume → numbers ≡ replicate n (nat_abs volume)
equal_told volumes numbers volume n e f = sym (numbers_back numbers) ∙ ap (map nat_abs) (sym (told_set volumes numbers e).is ∙ f) ∙ map_replicate nat_abs n volume

-- ---- the channels that take a set

pub cores_given : (vs : List ℕ) (ms : List MonoInputVolumeController) → map core (each_given vs ms) ≡ map core ms
unfolding each_given
cores_given vs [] = refl
cores_given [] (m ∷ ms) = refl
cores_given (v ∷ vs) (m ∷ ms) = λ i. core_called (StreamAnalogLevel v) m i ∷ cores_given vs ms i

-- with equal volumes every channel gets the same call
pub given_all : (v : ℕ) (ms : List MonoInputVolumeController) → each_given (replicate (length ms) v) ms ≡ each_called (StreamAnalogLevel v) ms
unfolding each_given
given_all v [] = refl
given_all v (m ∷ ms) = ap (λ (l : List MonoInputVolumeController). called (StreamAnalogLevel v) m ∷ l) (given_all v ms)

-- ---- what a set keeps

-- what each volume of a kind keeps of a channel, a set of such keeps of all
pub every_given : (Kind : ℕ → Type 0) (Q : MonoInputVolumeController → Type 0) → ((v : ℕ) (m : MonoInputVolumeController) → Kind v → Q m → Q (called (StreamAnalogLevel v) m))
    → (vs : List ℕ) (ms : List MonoInputVolumeController) → Every Kind vs → Every Q ms → Every Q (each_given vs ms)
unfolding each_given
every_given Kind Q f vs [] k h = tt
every_given Kind Q f [] (m ∷ ms) k h = h
every_given Kind Q f (v ∷ vs) (m ∷ ms) k h = (f v m k.0 h.0, every_given Kind Q f vs ms k.1 h.1)

abbrev pub AtMost : ℕ → Type 0
AtMost v = v ≤ max_input_volume

pub every_most : (vs : List ℕ) → AllMost vs → Every AtMost vs
every_most [] h = tt
every_most (v ∷ vs) h = (h.0, every_most vs h.1)
