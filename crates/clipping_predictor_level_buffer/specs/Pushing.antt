-- Document 02 (xi): "It refuses with 11 a record pushed with a count not 0 to 480." Definitions only.
use Rattle.std.specs.Prelude.{◌≡◌, Bool, true, false, List, ℕ, leb, ℤ, pos, negsuc, nat_abs, Float, Result}
use Rattle.numbers.specs.declared.refusal.Refusal.{Refusal}
use Rattle.numbers.specs.Said.{said}
use Rattle.clipping_predictor_level_buffer.specs.declared.level.Level.{Level}
use Rattle.clipping_predictor_level_buffer.specs.declared.ClippingPredictorLevelBuffer.{ClippingPredictorLevelBuffer}
use Rattle.clipping_predictor_level_buffer.specs.declared.AfterPush.{AfterPush}
use Rattle.clipping_predictor_level_buffer.specs.Level.{max_samples_per_channel}
use Rattle.clipping_predictor_level_buffer.specs.Ring.{Good, stored, push}
use Rattle.clipping_predictor_level_buffer.specs.Making.{accepted_if}

-- "a count .. 0 to 480"
unfoldable pub is_count : ℤ → Bool
is_count (pos n) = leb n max_samples_per_channel
is_count (negsuc n) = false

-- the record that is offered; its count is read where it is one, and is then the number itself
abbrev pub offered : Float → Float → ℤ → Level
offered average max clipped = record { average = average; max = max; clipped = nat_abs clipped }

-- what a push answers
unfoldable pub pushing_of : ℤ → Result (Unit {0}) Refusal
pushing_of clipped = accepted_if (is_count clipped)

-- what is stored then
abbrev pub push_if : Bool → ℕ → Level → List Level → List Level
push_if true capacity level records = push capacity level records
push_if false capacity level records = records

-- r is the ring s after a push with this count; a refused push hands back the very ring
pub record PushedIf (clipped : ℤ) (s : ClippingPredictorLevelBuffer) (level : Level) (r : ClippingPredictorLevelBuffer) : Type 0 where
  pub good : Good r
  pub capacity_is : r.capacity ≡ s.capacity
  pub stored_is : stored r ≡ push_if (is_count clipped) s.capacity level (stored s)
  pub same : is_count clipped ≡ false → r ≡ s

-- that ring, with the answer beside it
pub record PushedOf (clipped : ℤ) (s : ClippingPredictorLevelBuffer) (level : Level) (r : AfterPush) : Type 0 where
  pub answer_is : said r.answer ≡ said (pushing_of clipped)
  pub pushed : PushedIf clipped s level r.ring
