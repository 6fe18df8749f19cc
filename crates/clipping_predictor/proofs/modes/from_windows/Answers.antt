-- `clipping_predictor::modes::from_windows` meets its contract. Assumes nothing.
use mathlib.Core.Path.{◌≡◌, refl, sym, ap, ◌∙◌}
use Rattle.std.specs.Prelude.{Option, None, Some, Ok, Err, Result}
use Rattle.std.specs.Result.{result_unwrap_or}
use Rattle.numbers.specs.declared.refusal.Refusal.{Refusal}
use Rattle.clipping_predictor_level_buffer.specs.declared.level.Level.{Level}
use Rattle.clipping_predictor.specs.declared.settings.Settings.{Settings}
use Rattle.clipping_predictor.specs.declared.modes.Asked.{Asked}
use Rattle.clipping_predictor.specs.Tree.{leaf}
use Rattle.clipping_predictor.specs.Turned.{estimated}
use Rattle.clipping_predictor.specs.Estimate.{windows_tree, mode_tree}
use Rattle.clipping_predictor.proofs.modes.from_windows.Goals as goal

module _ (s : Settings) (a : Asked) where
  both_found : (m r : Result (Option Level) Refusal) (w x : Level) → Some w ≡ result_unwrap_or m None → Some x ≡ result_unwrap_or r None → mode_tree s.mode s w x a ≡ windows_tree s a m r
  unfolding windows_tree
  both_found (Ok (Some v)) (Ok (Some y)) w x p q = cc
  both_found (Ok (Some v)) (Ok None) w x p q = cc
  both_found (Ok (Some v)) (Err cause) w x p q = cc
  both_found (Ok None) r w x p q = cc
  both_found (Err cause) r w x p q = cc

  no_newest : (m r : Result (Option Level) Refusal) → result_unwrap_or m None ≡ None → leaf 0 ≡ windows_tree s a m r
  unfolding windows_tree
  no_newest (Ok (Some v)) r p = cc
  no_newest (Ok None) r p = refl
  no_newest (Err cause) r p = refl

  no_older : (m r : Result (Option Level) Refusal) → result_unwrap_or r None ≡ None → leaf 0 ≡ windows_tree s a m r
  unfolding windows_tree
  no_older (Ok (Some v)) (Ok (Some y)) p = cc
  no_older (Ok (Some v)) (Ok None) p = refl
  no_older (Ok (Some v)) (Err cause) p = refl
  no_older (Ok None) r p = refl
  no_older (Err cause) r p = refl

pub returns-in_default : goal.returns-in_default
returns-in_default c = c.no_estimate.ensures ∙ ap estimated (no_newest c.args.s c.args.a _ _ (sym c.unwrap_or.ensures ∙ c.in_default.is))

pub returns-in_default-unwrap_or : goal.returns-in_default-unwrap_or
returns-in_default-unwrap_or c =
    c.no_estimate-in_default-unwrap_or.ensures ∙ ap estimated (no_older c.args.s c.args.a _ _ (sym c.unwrap_or-2.ensures ∙ c.in_default-unwrap_or.is))

pub returns : goal.returns
returns c = c.by_mode.ensures ∙ ap estimated (both_found c.args.s c.args.a _ _ _ _ c.in-Some.ensures c.in-Some-unwrap_or.ensures)
