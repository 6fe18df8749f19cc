-- What a frame and a recommendation say fixes their answers. Assumes nothing.
use mathlib.Core.Path.{◌≡◌, refl, ap}
use mathlib.Core.Bool.{false}
use Rattle.std.specs.Prelude.{ℤ, Bool, Err, None, Ok, Option, Result, Some}
use Rattle.numbers.specs.declared.refusal.Refusal.{Refusal}
use Rattle.numbers.proofs.Said.{fixed, cause_of, cause_back}
use Rattle.input_volume_controller.specs.Reply.{Reply, mark, refusal, volume, none, done, analysis_says, recommendation_says}

-- no frame says anything but a mark or a refusal
abbrev analysis_of : Reply → Result Bool Refusal
analysis_of (mark near) = Ok near
analysis_of (refusal number) = Err (cause_of number)
analysis_of (volume v) = Ok false
analysis_of none = Ok false
analysis_of done = Ok false

analysis_back : (a : Result Bool Refusal) → analysis_of (analysis_says a) ≡ a
analysis_back (Ok near) = refl
analysis_back (Err cause) = ap Err (cause_back cause)

pub analysis_fixed : (a b : Result Bool Refusal) → analysis_says a ≡ analysis_says b → a ≡ b
analysis_fixed = fixed analysis_says analysis_of analysis_back

-- no recommendation says anything but a volume or none
abbrev recommendation_of : Reply → Option ℤ
recommendation_of (mark near) = None
recommendation_of (refusal number) = None
recommendation_of (volume v) = Some v
recommendation_of none = None
recommendation_of done = None

recommendation_back : (r : Option ℤ) → recommendation_of (recommendation_says r) ≡ r
recommendation_back (Some v) = refl
recommendation_back None = refl

pub recommendation_fixed : (a b : Option ℤ) → recommendation_says a ≡ recommendation_says b → a ≡ b
recommendation_fixed = fixed recommendation_says recommendation_of recommendation_back
