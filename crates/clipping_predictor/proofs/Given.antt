-- What an estimate is asked with: by the last two tests, and that its channel is one of the predictor's. Assumes nothing.
use mathlib.Core.Path.{◌≡◌, refl, ap}
use mathlib.Core.Bool.{Bool, true, false, ◌&&◌}
use Prim.Native.Nat.{ℕ, ◌-◌, ◌≤◌, ◌<◌}
use native.Mathlib.Omega.{arith}
use lib.Dec.{leb}
use lib.IntN.{ℤ}
use borrow.Author.Tests.{le-leb, lt-leb}
use Rattle.std.specs.Prelude.{Ok, Err, None, Option, Some}
use Rattle.numbers.specs.declared.refusal.Refusal.TheVariants.{EstimateRange}
use Rattle.numbers.specs.Natural.{within_of}
use Rattle.numbers.proofs.Ranges.{told}
use Rattle.clipping_predictor.specs.declared.modes.Asked.{Asked}
use Rattle.clipping_predictor.specs.EstimateCall.{Arguments, given_if, given, arguments_of}

module _ (least most level channel : ℕ) (a : Asked) where
  pub ends_crossed : most < least → Err EstimateRange ≡ given_if (leb least most && leb level most) channel a
  ends_crossed h = rw (lt-leb least most h)

  pub level_above : least ≤ most → most < level → Err EstimateRange ≡ given_if (leb least most && leb level most) channel a
  level_above h k = rw (le-leb least most h, lt-leb level most k)

  pub in_range : least ≤ most → level ≤ most → Ok (channel, a) ≡ given_if (leb least most && leb level most) channel a
  in_range h k = rw (le-leb least most h, le-leb level most k)

-- ---- a channel that is given is one of the predictor's

channel_in : ℕ → Arguments → ℕ
channel_in other (Ok asked) = asked.0
channel_in other (Err cause) = other

same_place : (b : Bool) (c place : ℕ) (a a' : Asked) → given_if b c a ≡ Ok (place, a') → c ≡ place
unfolding channel_in
same_place true c place a a' e = ap (channel_in c) e
same_place false c place a a' e = let q : ◌≡◌ {A = ℕ} 0 1 = cc in absurd (omega arith)

below' : (channels : ℕ) (l c s n x : Option ℕ) (z : ℤ) → 1 ≤ channels → within_of 0 (channels - 1) z ≡ c → (place : ℕ) (a : Asked) → given l c s n x ≡ Ok (place, a) → place < channels
unfolding given
below' channels None c s n x z h p place a e = let q : ◌≡◌ {A = ℕ} 0 1 = cc in absurd (omega arith)
below' channels (Some l) None s n x z h p place a e = let q : ◌≡◌ {A = ℕ} 0 1 = cc in absurd (omega arith)
below' channels (Some l) (Some c) None n x z h p place a e = let q : ◌≡◌ {A = ℕ} 0 1 = cc in absurd (omega arith)
below' channels (Some l) (Some c) (Some s) None x z h p place a e = let q : ◌≡◌ {A = ℕ} 0 1 = cc in absurd (omega arith)
below' channels (Some l) (Some c) (Some s) (Some n) None z h p place a e = let q : ◌≡◌ {A = ℕ} 0 1 = cc in absurd (omega arith)
below' channels (Some l) (Some c) (Some s) (Some n) (Some x) z h p place a e =
    let q = same_place (leb n x && leb l x) c place _ a e in
    omega (arith, (told 0 (channels - 1) z c p).most)

pub channel_below : (channels : ℕ) (channel level step least most : ℤ) → 1 ≤ channels → (place : ℕ) (a : Asked) → arguments_of channels channel level step least most ≡ Ok (place, a) → place < channels
unfolding arguments_of
channel_below channels channel level step least most h place a e = below' channels _ _ _ _ _ channel h refl place a e
