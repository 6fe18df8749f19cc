-- Document 01, "Ring and predictors": a ring holds records up to its capacity; "a push into a full one replaces the oldest. .. Reset empties it." A ring stands for the list of the
-- records that it stores, newest first: its tail and its unused places are free, and no promise speaks of them. Definitions only.
use Rattle.std.specs.Prelude.{◌≡◌, Bool, true, false, List, [], ◌∷◌, ℕ, zero, suc, ◌+◌, ◌-◌, ◌≤◌, ◌<◌, leb, ltb, length, get_or, take, None, Some, Option}
use Rattle.std.specs.Float.{nan}
use Rattle.numbers.specs.Listed.{listed}
use Rattle.clipping_predictor_level_buffer.specs.declared.level.Level.{Level}
use Rattle.clipping_predictor_level_buffer.specs.declared.ClippingPredictorLevelBuffer.{ClippingPredictorLevelBuffer}
use Rattle.clipping_predictor_level_buffer.specs.Level.{max_samples_per_channel}

-- "a fixed array of 64 records"
abbrev pub max_capacity : ℕ
max_capacity = 64

-- n may be a ring's capacity
pub record Capacity (n : ℕ) : Type 0 where
  pub low : 1 ≤ n
  pub high : n ≤ max_capacity

-- ---- the stored records

-- in a ring of c places, the place that lies i places behind the place t: before place 0 comes the last
abbrev pub behind_if : Bool → ℕ → ℕ → ℕ → ℕ
behind_if true c t i = t - i
behind_if false c t i = t + c - i

unfoldable pub behind : ℕ → ℕ → ℕ → ℕ
behind c t i = behind_if (leb i t) c t i

-- and the place after t: after the last comes place 0
abbrev pub after_if : Bool → ℕ → ℕ
after_if true t = t + 1
after_if false t = 0

unfoldable pub after : ℕ → ℕ → ℕ
after c t = after_if (ltb (t + 1) c) t

-- what an array of records has past its end: no stored record lies there
abbrev pub no_level : Level
no_level = record { average = nan; max = nan; clipped = 0 }

-- the record i places behind the place t
unfoldable pub placed : List Level → ℕ → ℕ → ℕ → Level
placed places c t i = get_or places (behind c t i) no_level

-- the stored records, newest first
unfoldable pub stored : ClippingPredictorLevelBuffer → List Level
stored r = listed (placed r.data r.capacity r.tail) r.size

-- one of them, 0 being the newest
unfoldable pub stored_at : List Level → ℕ → Option Level
stored_at [] i = None
stored_at (l ∷ ls) zero = Some l
stored_at (l ∷ ls) (suc i) = stored_at ls i

-- ---- good order

-- every record of the list has a count from 0 to 480; there is none past its end
pub record Counted (records : List Level) : Type 0 where
  pub each : (i : ℕ) → (get_or records i no_level).clipped ≤ max_samples_per_channel

-- a ring in good order; `places` is true of every value of the type
pub record Good (r : ClippingPredictorLevelBuffer) : Type 0 where
  pub low : 1 ≤ r.capacity
  pub high : r.capacity ≤ max_capacity
  pub held : r.size ≤ r.capacity
  pub within : r.tail < r.capacity
  pub places : length r.data ≡ max_capacity
  pub counted : Counted (stored r)

-- ---- what becomes of them

-- What the contracts below leave free is where the tail stands and what lies in the unused places. Both are there: `good` has the 64 places, and the tail among the ring's own. No call reads more of a
-- ring than its capacity and its stored records, as the contracts say, so no later answer depends on them; of a whole controller the claim `FreeIsUnheard` says so.

-- "a push into a full one replaces the oldest"
abbrev pub push : ℕ → Level → List Level → List Level
push capacity level records = take capacity (level ∷ records)

-- several pushes, one after the other
unfoldable pub push_all : ℕ → List Level → List Level → List Level
push_all capacity [] records = records
push_all capacity (level ∷ levels) records = push_all capacity levels (push capacity level records)

-- r is an empty ring
pub record Emptied (capacity : ℕ) (r : ClippingPredictorLevelBuffer) : Type 0 where
  pub good : Good r
  pub capacity_is : r.capacity ≡ capacity
  pub stored_is : stored r ≡ []

-- r is the ring s after a push
pub record Pushed (s : ClippingPredictorLevelBuffer) (level : Level) (r : ClippingPredictorLevelBuffer) : Type 0 where
  pub good : Good r
  pub capacity_is : r.capacity ≡ s.capacity
  pub stored_is : stored r ≡ push s.capacity level (stored s)
