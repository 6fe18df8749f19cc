-- All channels are as one where every accepted set had equal volumes: what a call makes of one channel's state, it makes of all, and the first of them controls. Assumes nothing.
use mathlib.Core.Path.{◌≡◌, refl, sym, ap, ◌∙◌, subst}
use mathlib.Core.List.{List, [], ◌∷◌, map}
use Prim.Native.Nat.{ℕ, zero, suc, ◌<◌}
use native.Mathlib.Decide.{dec_le}
use native.Mathlib.Omega.{arith}
use lib.Dec.{T}
use lib.IntN.{ℤ, nat_abs}
use lib.Ieee.{Float}
use lib.ListN.{length, replicate, get_or-replicate, length-replicate}
use Rattle.mono_input_volume_controller.specs.declared.mono.MonoInputVolumeController.{MonoInputVolumeController}
use Rattle.mono_input_volume_controller.specs.SpeechLevel.{rms_error_of}
use Rattle.mono_input_volume_controller.specs.Mono.{created}
use Rattle.input_volume_controller.specs.declared.limits.Limits.{Limits}
use Rattle.input_volume_controller.specs.Channels.{ChannelCall, Initialize, CaptureOutputUsed, StreamAnalogLevel, Clipping, Process, no_channel, called, each_called, each_given, aggregate_of}
use Rattle.input_volume_controller.specs.declared.channels.Aggregate.{Aggregate}
use Rattle.input_volume_controller.specs.Control.{Control}
use Rattle.input_volume_controller.specs.ControlCalls.{aggregated, with_applied_input_volumes, initialize, lower_channels, process_channels}
use Rattle.input_volume_controller.specs.Controller.{Controller, fresh_with}
use Rattle.input_volume_controller.specs.Calls.{Call, frame, recommendation, initialise, capture_switch, step, after}
use Rattle.input_volume_controller.proofs.SetNumbers.{length_told}
use Rattle.claims.specs.Past.{is_accepted}
use Rattle.claims.specs.Equal.{AsOne, EvenCall, EvenCalls, EqualChannels}
use Rattle.claims.proofs.Lists.{map_replicate}
use Rattle.claims.proofs.Lowest.{LowestTo, volumes, lowest_of_lem}
use Rattle.claims.proofs.Sets.{equal_told, given_all}
use Rattle.claims.proofs.Walk.{Keeps, Given, GivenBy, step_keeps}

-- ---- the lowest of equal volumes

-- of equal volumes the first is taken
first_of_equal : (f : ℕ → ℕ) (n v : ℕ) (a : Aggregate) → LowestTo f n a → ((i : ℕ) → i < n → f i ≡ v) → a.channel ≡ 0
first_of_equal f n v a l e =
    elim (dec_le 1 a.channel) [ yes h ↦ absurd (omega (arith, l.first 0 h, l.is, e a.channel l.there, e 0 (omega (arith, h, l.there)))) | no h ↦ omega (arith, h) ]

first_lowest : (n : ℕ) (m : MonoInputVolumeController) → (aggregate_of (replicate n m)).channel ≡ 0
unfolding aggregate_of
first_lowest zero m = refl
first_lowest (suc n) m =
    let ms = replicate (suc n) m in
    first_of_equal (volumes ms) (length ms) m.volume (aggregate_of ms) (lowest_of_lem ms (omega arith))
    (λ i h. ap (λ (k : MonoInputVolumeController). k.volume) (get_or-replicate (suc n) i m no_channel (omega (arith, h, length-replicate (suc n) m))))

-- ---- one state

-- n channels in one state
record One (n : ℕ) (channels : List MonoInputVolumeController) : Type 0 where
  state : MonoInputVolumeController
  equal : channels ≡ replicate n state

-- a set of equal numbers
record Same (numbers : List ℕ) : Type 0 where
  number : ℕ
  all : numbers ≡ replicate (length numbers) number

module _ (n : ℕ) where
  each_one : (call : ChannelCall) (channels : List MonoInputVolumeController) → One n channels → One n (each_called call channels)
  each_one call channels o = record { state = called call o.state; equal = ap (map (called call)) o.equal ∙ map_replicate (called call) n o.state }

  given_one : (numbers : List ℕ) (channels : List MonoInputVolumeController) → length numbers ≡ length channels → Same numbers → One n channels → One n (each_given numbers channels)
  given_one numbers channels e s o =
      let same : numbers ≡ replicate (length channels) s.number = s.all ∙ ap (λ (k : ℕ). replicate k s.number) e in
      let all = each_one (StreamAnalogLevel s.number) channels o in
      record { state = all.state; equal = ap (λ (ns : List ℕ). each_given ns channels) same ∙ given_all s.number channels ∙ all.equal }

  first_of : (channels : List MonoInputVolumeController) → One n channels → (aggregate_of channels).channel ≡ 0
  first_of channels o = ap (λ (l : List MonoInputVolumeController). (aggregate_of l).channel) o.equal ∙ first_lowest n o.state

  as_one : (c : Control) → One n c.channels → c.controlling ≡ 0 → AsOne n c
  as_one c o f = record { state = o.state; equal = o.equal; first = f }

  one : (c : Control) → AsOne n c → One n c.channels
  one c a = record { state = a.state; equal = a.equal }

  as_one_kept : Keeps Same (AsOne n)
  unfolding aggregated with_applied_input_volumes lower_channels process_channels initialize
  as_one_kept = record {
    runs = record {
      hears = record {
        lowers = λ by c a. let o = each_one (Clipping by) c.channels (one c a) in as_one _ o (first_of _ o);
        counts = λ c a. record { state = a.state; equal = a.equal; first = a.first };
      };
      applies = λ numbers c e m t a. let o = given_one numbers c.channels e t (one c a) in as_one _ o (first_of _ o);
      processes = λ probability level c a.
          let error = rms_error_of level c.settings.min_target c.settings.max_target in
          let o = each_one (Process error probability) c.channels (one c a) in
          as_one _ o (first_of _ o);
      repeats = λ c a. as_one _ (one c a) (first_of c.channels (one c a));
    };
    initialises = λ c a. let o = each_one Initialize c.channels (one c a) in as_one _ o (first_of _ o);
    switches = λ on c a. as_one _ (each_one (CaptureOutputUsed on) c.channels (one c a)) a.first;
  }

  -- ---- the calls

  -- the numbers of a set of equal volumes
  same_given : (most : Limits) (volumes : List ℤ) (samples : ℕ) (lent : List Float) (c : Controller) → length c.control.channels ≡ n → EvenCall n (frame most volumes samples lent)
      → Given Same most volumes samples lent c
  same_given most volumes samples lent c e even numbers told t =
      let all = even (subst (λ (k : ℕ). T (is_accepted most k volumes samples lent)) e t) in
      record {
        number = nat_abs all.volume;
        all = equal_told volumes numbers all.volume (length volumes) told all.equal ∙ ap (λ (k : ℕ). replicate k (nat_abs all.volume)) (sym (length_told volumes numbers told));
      }

  given_by : (call : Call) (c : Controller) → AsOne n c.control → EvenCall n call → GivenBy Same call c
  given_by (frame most volumes samples lent) c a even = same_given most volumes samples lent c (ap length a.equal ∙ length-replicate n a.state) even
  given_by (recommendation probability level) c a even = tt
  given_by initialise c a even = tt
  given_by (capture_switch on) c a even = tt

  -- one call keeps the channels as one: all that it asks of the call is that a set which is accepted has equal volumes
  as_one_called : (call : Call) (c : Controller) → EvenCall n call → AsOne n c.control → AsOne n (step c call).state.control
  as_one_called call c even a = step_keeps Same (AsOne n) as_one_kept call c (given_by call c a even) a

  as_one_after : (calls : List Call) (c : Controller) → EvenCalls n calls → AsOne n c.control → AsOne n (after c calls).control
  unfolding after
  as_one_after [] c even a = a
  as_one_after (call ∷ calls) c even a = as_one_after calls (step c call).state even.1 (as_one_called call c even.0 a)

-- THE CLAIM
pub equal_channels : EqualChannels
equal_channels predictor s count calls even = as_one_after count calls (fresh_with predictor s count) even (record { state = created s; equal = refl; first = refl })
