-- Document 01, "Ring and predictors": the call that asks one channel of a predictor for an estimate, with causes 8 and 10. Definitions only.
use Rattle.std.specs.Prelude.{ℕ, zero, suc, ◌-◌, Bool, true, false, ◌&&◌, [], leb, ℤ, pos, get_or, Result, Ok, Err, None, Some, Option}
use Rattle.numbers.specs.declared.refusal.Refusal.{Refusal}
use Rattle.numbers.specs.declared.refusal.Refusal.TheVariants.{InputVolume, EstimateRange}
use Rattle.numbers.specs.Natural.{within_of}
use Rattle.clipping_predictor.specs.declared.modes.Asked.{Asked}
use Rattle.clipping_predictor.specs.declared.modes.Estimated.{Estimated}
use Rattle.clipping_predictor.specs.declared.Estimate.{Estimate}
use Rattle.clipping_predictor.specs.Turned.{estimated, is_near}
use Rattle.clipping_predictor.specs.Estimate.{estimate_tree}
use Rattle.clipping_predictor.specs.Predictor.{Predictor}

-- what an estimate is asked with, or why it is refused
abbrev pub Arguments : Type 0
Arguments = Result (ℕ × Asked) Refusal

abbrev pub given_if : Bool → ℕ → Asked → Arguments
given_if true channel a = Ok (channel, a)
given_if false channel a = Err EstimateRange

unfoldable pub given : Option ℕ → Option ℕ → Option ℕ → Option ℕ → Option ℕ → Arguments
given None channel step least most = Err InputVolume
given (Some level) None step least most = Err EstimateRange
given (Some level) (Some channel) None least most = Err EstimateRange
given (Some level) (Some channel) (Some step) None most = Err EstimateRange
given (Some level) (Some channel) (Some step) (Some least) None = Err EstimateRange
given (Some level) (Some channel) (Some step) (Some least) (Some most) =
    given_if (leb least most && leb level most) channel (record { level = level; step = step; least = least; most = most })

unfoldable pub arguments_of : ℕ → ℤ → ℤ → ℤ → ℤ → ℤ → Arguments
arguments_of channels channel level step least most =
    given (within_of 0 255 level) (within_of 0 (channels - 1) channel) (within_of 1 255 step) (within_of 0 255 least) (within_of 0 255 most)

-- "the drop is the step if above 0"
abbrev pub drop_or : ℕ → Bool → Estimate
drop_or zero near = record { drop = None; near = near }
drop_or (suc n) near = record { drop = Some (pos (suc n)); near = near }

abbrev pub answered : Estimated → Estimate
answered e = drop_or e.drop (is_near e)

unfoldable pub estimate_of : Predictor → Arguments → Result Estimate Refusal
estimate_of p (Err cause) = Err cause
estimate_of p (Ok (channel, a)) = Ok (answered (estimated (estimate_tree p.settings (get_or p.rings channel []) a)))
