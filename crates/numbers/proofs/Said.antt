-- What an answer says fixes the answer: each function that puts an enum into numbers and values has a way back. Assumes nothing.
use mathlib.Core.Path.{◌≡◌, refl, sym, ap, ◌∙◌}
use mathlib.Core.List.{[], ◌∷◌}
use Prim.Native.Nat.{ℕ, ◌≤◌, ◌<◌}
use native.Mathlib.Omega.{arith}
use lib.ListN.{get_or}
use Rattle.std.specs.Prelude.{Err, Ok, Result}
use Rattle.numbers.specs.declared.refusal.Refusal.{Refusal}
use Rattle.numbers.specs.declared.refusal.Refusal.TheVariants.{ChannelCount, MinimumVolume, ClippedLevelStep, WaitFrames, TargetRange, SpeechThreshold, PredictorWindows, InputVolume, FrameSize, EstimateRange, RingRange, FrameLine, PredictorCapacity, PredictorLevels, FrameLimits, ClassroomProfile, VolumeCount}
use Rattle.numbers.specs.Refusal.{number_of}
use Rattle.numbers.specs.Said.{Said, accepted, refused, said}

pub fixed : {A B : Type 0} (says : A → B) (back : B → A) → ((a : A) → back (says a) ≡ a) → (a b : A) → says a ≡ says b → a ≡ b
fixed says back same a b e = sym (same a) ∙ ap back e ∙ same b

-- the cause of a number; there is none of 0, of 13 and of 16 and 17
abbrev pub cause_of : ℕ → Refusal
cause_of n =
    get_or
    (FrameLine ∷ ChannelCount ∷ MinimumVolume ∷ ClippedLevelStep ∷ WaitFrames ∷ TargetRange ∷ SpeechThreshold ∷ PredictorWindows ∷ InputVolume ∷ FrameSize ∷ EstimateRange ∷ RingRange ∷ FrameLine ∷ FrameLine ∷ PredictorCapacity ∷ PredictorLevels
    ∷ FrameLine ∷ FrameLine ∷ FrameLimits ∷ ClassroomProfile ∷ VolumeCount ∷ [])
    n FrameLine

pub cause_back : (cause : Refusal) → cause_of (number_of cause) ≡ cause
cause_back ChannelCount = refl
cause_back MinimumVolume = refl
cause_back ClippedLevelStep = refl
cause_back WaitFrames = refl
cause_back TargetRange = refl
cause_back SpeechThreshold = refl
cause_back PredictorWindows = refl
cause_back InputVolume = refl
cause_back FrameSize = refl
cause_back EstimateRange = refl
cause_back RingRange = refl
cause_back FrameLine = refl
cause_back PredictorCapacity = refl
cause_back PredictorLevels = refl
cause_back FrameLimits = refl
cause_back ClassroomProfile = refl
cause_back VolumeCount = refl

-- a number has one digit or two, and is not 0: no refusal is told as an acceptance
pub record Numbered (cause : Refusal) : Type 0 where
  pub least : 1 ≤ number_of cause
  pub two_digits : number_of cause < 100

pub numbered : (cause : Refusal) → Numbered cause
numbered ChannelCount = record { least = omega arith; two_digits = omega arith }
numbered MinimumVolume = record { least = omega arith; two_digits = omega arith }
numbered ClippedLevelStep = record { least = omega arith; two_digits = omega arith }
numbered WaitFrames = record { least = omega arith; two_digits = omega arith }
numbered TargetRange = record { least = omega arith; two_digits = omega arith }
numbered SpeechThreshold = record { least = omega arith; two_digits = omega arith }
numbered PredictorWindows = record { least = omega arith; two_digits = omega arith }
numbered InputVolume = record { least = omega arith; two_digits = omega arith }
numbered FrameSize = record { least = omega arith; two_digits = omega arith }
numbered EstimateRange = record { least = omega arith; two_digits = omega arith }
numbered RingRange = record { least = omega arith; two_digits = omega arith }
numbered FrameLine = record { least = omega arith; two_digits = omega arith }
numbered PredictorCapacity = record { least = omega arith; two_digits = omega arith }
numbered PredictorLevels = record { least = omega arith; two_digits = omega arith }
numbered FrameLimits = record { least = omega arith; two_digits = omega arith }
numbered ClassroomProfile = record { least = omega arith; two_digits = omega arith }
numbered VolumeCount = record { least = omega arith; two_digits = omega arith }

-- the way back, for an enum with a case of values and one of refusals
abbrev pub answer_of : {A E : Type 0} → (A → E) → (Refusal → E) → Said A → E
answer_of value refusal (accepted values) = value values
answer_of value refusal (refused number) = refusal (cause_of number)

-- the way back
abbrev said_back : {A : Type 0} → Said A → Result A Refusal
said_back (accepted values) = Ok values
said_back (refused number) = Err (cause_of number)

back_again : {A : Type 0} → (r : Result A Refusal) → said_back (said r) ≡ r
back_again (Ok values) = refl
back_again (Err cause) = ap Err (cause_back cause)

pub said_fixed : {A : Type 0} → (a b : Result A Refusal) → said a ≡ said b → a ≡ b
said_fixed = fixed said said_back back_again
