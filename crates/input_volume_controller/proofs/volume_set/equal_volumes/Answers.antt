-- `equal_volumes` meets its contract. Assumes nothing.
use mathlib.Core.Path.{◌≡◌, sym, ap, ◌∙◌}
use native.Mathlib.Omega.{arith}
use lib.ListN.{length-replicate}
use Rattle.std.specs.Prelude.{Some}
use Rattle.numbers.specs.Natural.{within_of}
use Rattle.numbers.proofs.Ranges.{told}
use Rattle.numbers.proofs.Signs.{again}
use Rattle.mono_input_volume_controller.specs.MonoState.{max_input_volume}
use Rattle.input_volume_controller.specs.VolumeSet.{levels_of, volumes_in}
use Rattle.input_volume_controller.proofs.Sets.{equal_bytes, equal_outside}
use Rattle.input_volume_controller.proofs.volume_set.equal_volumes.Goals as goal
use Rattle.input_volume_controller.proofs.volume_set.equal_volumes.Goals.{After-within, In-Some}

-- the test of the volume, which the machine reads back
test_is : (c : After-within) → within_of 0 max_input_volume c.args.volume ≡ c.within.result
test_is c = ap (within_of 0 max_input_volume) (sym (again c.args.volume c.ranges.volume.sfits)) ∙ sym c.within.ensures

number_is : (c : In-Some) → within_of 0 max_input_volume c.args.volume ≡ Some c.in-Some.level
number_is c = test_is c.before ∙ c.in-Some.is

pub returns-in_default : goal.returns-in_default
unfolding volumes_in
returns-in_default c =
    record { count = sym (length-replicate _ _); numbers = λ low high. equal_outside c.args.volume c.args.channels low (test_is c.before ∙ c.in_default.is) }

pub overflow_cast-result : goal.overflow_cast-result
overflow_cast-result c = let t = told 0 max_input_volume _ _ (number_is c) in omega (arith, t.most)

pub returns : goal.returns
unfolding volumes_in levels_of
returns c =
    record { count = sym (length-replicate _ _); numbers = λ low high. equal_bytes c.args.volume c.args.channels _ high (number_is c) }
