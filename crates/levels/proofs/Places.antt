-- Where levels stand that are not both finite. Assumes nothing.
use Rattle.std.specs.Prelude.{◌≡◌, None, Some, refl}
use Rattle.std.specs.declared.cmp.Ordering.TheVariants.{Equal}
use Rattle.levels.specs.declared.decibels.Decibels.{Decibels}
use Rattle.levels.specs.declared.decibels.Decibels.TheVariants.{Finite, PlusInfinity, MinusInfinity, NotANumber}
use Rattle.levels.specs.Decibels.{less, at_most, compared}

-- an infinity is its own equal
pub above_itself : compared PlusInfinity PlusInfinity ≡ Some Equal
unfolding compared less at_most
above_itself = refl

pub below_itself : compared MinusInfinity MinusInfinity ≡ Some Equal
unfolding compared less at_most
below_itself = refl

-- a not-a-number stands nowhere
pub before_nan : (a : Decibels) → compared a NotANumber ≡ None
unfolding compared less at_most
before_nan (Finite x) = refl
before_nan PlusInfinity = refl
before_nan MinusInfinity = refl
before_nan NotANumber = refl
