-- Two pasts, with the base's predictor: a frame that is quiet in document 01's sense is so for that predictor, and a lead-in by document 01 is one for it. Assumes nothing.
use mathlib.Core.List.{List, [], ◌∷◌, map, foldl}
use mathlib.Core.Bool.{Bool, true, false}
use Prim.Native.Nat.{ℕ, ◌-◌, ◌*◌}
use native.Mathlib.Omega.{arith}
use lib.Dec.{T, lit≤}
use lib.Ieee.{Float, le, lt, eq}
use lib.ListN.{drop}
use Rattle.levels.specs.FloatParts.{magnitude_of}
use Rattle.levels.proofs.Quiet.{loudest, low_level}
use Rattle.clipping_predictor_level_buffer.specs.Statistics.{plus_zero, second_if, larger, largest}
use Rattle.clipping_predictor_level_buffer.specs.Level.{frame_record}
use Rattle.clipping_predictor.specs.declared.settings.Settings as Predictor
use Rattle.clipping_predictor.specs.Predictor.{part_of, levels_of}
use Rattle.mono_input_volume_controller.specs.declared.config.Settings.{Settings}
use Rattle.input_volume_controller.specs.Controller.{predictor_settings, fresh}
use Rattle.claims.specs.LeadIn.{all, is_quiet, quiet, is_sound, is_low, quiet_for, LeadIn, calls_of}
use Rattle.claims.specs.TwoPasts.{AlikeAfter, enough, RatioFromZero}
use Rattle.claims.specs.Sharp.{OneFewerIsEnough}
use Rattle.claims.proofs.Lists.{and_l, and_r, and_both, all_take, all_drop, all_listed}
use Rattle.claims.proofs.QuietSamples.{sound, magnitude_low}
use Rattle.claims.proofs.Fresh.{own_good}
use Rattle.claims.proofs.Relaxed.{all_by, relaxed}
use Rattle.claims.proofs.EveryMode.{one_fewer_in_every_mode}

-- ---- lists of samples

second_up_to : (t : Bool) (a b : Float) → T (le a loudest) → T (le b loudest) → T (le (second_if t a b) loudest)
second_up_to true a b x y = y
second_up_to false a b x y = x

peak_up_to : (a : Float) (xs : List Float) → T (le a loudest) → T (all is_quiet xs) → T (le (foldl larger a (map magnitude_of xs)) loudest)
unfolding all
peak_up_to a [] h t = h
peak_up_to a (x ∷ xs) h t =
    peak_up_to (larger a (magnitude_of x)) xs (second_up_to (lt a (magnitude_of x)) a (magnitude_of x) h (magnitude_low x (and_l (is_quiet x) (all is_quiet xs) t)))
    (and_r (is_quiet x) (all is_quiet xs) t)

zero_up_to : T (le plus_zero loudest)
unfolding le lt eq
zero_up_to = tt

-- ---- the base's predictor, on or off

module _ (on : Bool) where
  channel_low : (xs : List Float) → T (all is_quiet xs) → T (is_low (predictor_settings on) (frame_record xs))
  unfolding is_low frame_record largest
  channel_low xs t = low_level 999 (lit≤ tt) (largest (map magnitude_of xs)) (peak_up_to plus_zero xs zero_up_to t)

  pub quiet_in_general : (channels samples : ℕ) (lent : List Float) → T (quiet samples lent) → T (quiet_for (predictor_settings on) channels samples lent)
  unfolding quiet quiet_for
  quiet_in_general channels samples lent t =
      and_both (all is_sound lent) (all (is_low (predictor_settings on)) (levels_of channels samples lent)) (all_by is_quiet is_sound lent sound t)
      (all_listed (is_low (predictor_settings on)) (λ c. frame_record (part_of samples lent c)) channels
      (λ c. channel_low (part_of samples lent c) (all_take is_quiet samples (drop (c * samples) lent) (all_drop is_quiet (c * samples) lent t))))

-- so is a lead-in, of which as many frames are asked
module _ (s : Settings) (channels : ℕ) where
  abbrev own : Predictor.Settings
  own = predictor_settings s.predicts

  unfoldable pub led_by_own : (frames : ℕ) → LeadIn channels quiet frames → LeadIn channels (quiet_for own channels) frames
  unfolding relaxed
  led_by_own frames l = relaxed channels quiet (quiet_for own channels) (quiet_in_general s.predicts channels) frames frames (omega arith) l

  -- with one accepted frame fewer than the claim asks
  sooner_alike : RatioFromZero s → (l : LeadIn channels quiet (enough s - 1)) → AlikeAfter (fresh s channels) (calls_of channels quiet l)
  unfolding calls_of led_by_own
  sooner_alike ratio l = one_fewer_in_every_mode own s channels (own_good s.predicts) ratio (led_by_own (enough s - 1) l)

-- THE SHARPER CLAIM
pub one_fewer_is_enough : OneFewerIsEnough
one_fewer_is_enough = record { own = sooner_alike; in_every_mode = one_fewer_in_every_mode }
