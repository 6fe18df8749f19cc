-- What one call keeps of the calls so far, newest first, and the state, a list of calls keeps. Assumes nothing.
use mathlib.Core.List.{List, [], ◌∷◌, reverse, reverse_aux}
use Rattle.input_volume_controller.specs.Controller.{Controller}
use Rattle.input_volume_controller.specs.Calls.{Call, step, after}

module _ (P : List Call → Controller → Type 0) (one : (call : Call) (past : List Call) (c : Controller) → P past c → P (call ∷ past) (step c call).state) where
  many : (calls past : List Call) (c : Controller) → P past c → P (reverse_aux calls past) (after c calls)
  unfolding after
  many [] past c h = h
  many (call ∷ calls) past c h = many calls (call ∷ past) (step c call).state (one call past c h)

  pub from_newest : (calls : List Call) (c : Controller) → P [] c → P (reverse calls) (after c calls)
  from_newest calls c h = many calls [] c h
