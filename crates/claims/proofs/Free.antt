-- What is heard of a controller depends on its value alone, since a run of the functions is a run of the definition. Assumes nothing.
use mathlib.Core.Path.{sym, ap, ◌∙◌}
use Rattle.input_volume_controller.specs.Controller.{Controller}
use Rattle.input_volume_controller.specs.Calls.{answers}
use Rattle.claims.specs.Free.{FreeIsUnheard}
use Rattle.claims.proofs.Run.{runs_are_runs}

-- THE CLAIM
pub free_is_unheard : FreeIsUnheard
free_is_unheard a b good fine same calls one two c d r t = (runs_are_runs _ _ _ _ good r).answered ∙ ap (λ (x : Controller). answers x calls) same ∙ sym (runs_are_runs _ _ _ _ fine t).answered
