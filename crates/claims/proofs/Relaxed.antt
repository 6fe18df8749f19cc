-- A lead-in is one too where fewer frames are asked for, or where more frames count as quiet. Assumes nothing.
use mathlib.Core.Bool.{Bool, true, false, not, ◌||◌}
use mathlib.Core.List.{List, [], ◌∷◌}
use Prim.Native.Nat.{ℕ, ◌-◌, ◌≤◌}
use native.Mathlib.Nat.{le_trans}
use native.Mathlib.Omega.{arith}
use lib.Dec.{T}
use lib.Ieee.{Float}
use Rattle.input_volume_controller.specs.Calls.{Call, frame, recommendation, initialise, capture_switch}
use Rattle.claims.specs.Past.{is_accepted}
use Rattle.claims.specs.LeadIn.{all, is_calm, LeadIn}
use Rattle.claims.proofs.Lists.{and_l, and_r, and_both}

pub all_by : {A : Type 0} (f g : A → Bool) (xs : List A) → ((x : A) → T (f x) → T (g x)) → T (all f xs) → T (all g xs)
unfolding all
all_by f g [] h t = tt
all_by f g (x ∷ xs) h t = and_both (g x) (all g xs) (h x (and_l (f x) (all f xs) t)) (all_by f g xs h (and_r (f x) (all f xs) t))

module _ (channels : ℕ) (strict loose : ℕ → List Float → Bool) (weaker : (samples : ℕ) (lent : List Float) → T (strict samples lent) → T (loose samples lent)) where
  calm_if : (t : Bool) (samples : ℕ) (lent : List Float) → T (not t || strict samples lent) → T (not t || loose samples lent)
  calm_if true samples lent u = weaker samples lent u
  calm_if false samples lent u = tt

  pub calm_too : (call : Call) → T (is_calm channels strict call) → T (is_calm channels loose call)
  unfolding is_calm
  calm_too (frame most volumes samples lent) t = calm_if (is_accepted most channels volumes samples lent) samples lent t
  calm_too (recommendation probability level) t = tt
  calm_too initialise t = tt
  calm_too (capture_switch on) t = t

  -- the same calls
  unfoldable pub relaxed : (few many : ℕ) → few ≤ many → LeadIn channels strict many → LeadIn channels loose few
  relaxed few many h l = record {
    body = l.body;
    after_initialise = l.after_initialise;
    after_frame = l.after_frame;
    after_recommendation = l.after_recommendation;
    most = l.most;
    volumes = l.volumes;
    samples = l.samples;
    lent = l.lent;
    probability = l.probability;
    level = l.level;
    calm = all_by (is_calm channels strict) (is_calm channels loose) l.body calm_too l.calm;
    long = le_trans h l.long;
    accepted = l.accepted;
    still = weaker l.samples l.lent l.still;
    positive = l.positive;
    refused = l.refused;
  }

-- one accepted frame fewer is asked for
unfoldable pub fewer_asked : (channels : ℕ) (is_still : ℕ → List Float → Bool) (many : ℕ) → LeadIn channels is_still many → LeadIn channels is_still (many - 1)
unfolding relaxed
fewer_asked channels is_still many l = relaxed channels is_still is_still (λ samples lent t. t) (many - 1) many (omega arith) l
