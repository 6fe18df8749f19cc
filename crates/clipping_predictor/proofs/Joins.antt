-- The estimates of all rings, joined one after another. Assumes nothing.
use mathlib.Core.Path.{◌≡◌, refl, sym, ap, ◌∙◌}
use mathlib.Core.Bool.{false}
use mathlib.Core.List.{List, [], ◌∷◌, map, map-map, foldl}
use Prim.Native.Nat.{ℕ, ◌+◌, ◌≤◌, ◌<◌}
use lib.ListN.{length, take, get_or}
use lib.Seq.{take_all}
use Rattle.std.specs.Prelude.{None, Option, Some}
use Rattle.clipping_predictor_level_buffer.specs.declared.level.Level.{Level}
use Rattle.clipping_predictor_level_buffer.proofs.Folds.{folded_more}
use Rattle.clipping_predictor.specs.declared.settings.Settings.{Settings}
use Rattle.clipping_predictor.specs.declared.modes.Asked.{Asked}
use Rattle.clipping_predictor.specs.declared.modes.Estimated.{Estimated}
use Rattle.clipping_predictor.specs.Turned.{estimated}
use Rattle.clipping_predictor.specs.Estimate.{estimate_tree}
use Rattle.clipping_predictor.specs.Settings as Settings
use Rattle.clipping_predictor.specs.Predictor.{Predictor, emptied}
use Rattle.clipping_predictor.specs.AllRings.{no_estimate, joined, predicted_by, estimated_for, predicted_for}
use Rattle.clipping_predictor.proofs.Windows.{none_stored_none, off}

-- where no ring answers anything, all of them do not
none_joined : (f : List Level → Estimated) (rings : List (List Level)) → ((records : List Level) → f records ≡ no_estimate) → foldl joined no_estimate (map f rings) ≡ no_estimate
unfolding estimated
none_joined f [] h = refl
none_joined f (r ∷ rings) h = ap (λ (e : Estimated). foldl joined (joined no_estimate e) (map f rings)) (h r) ∙ none_joined f rings h

-- those of the rings before c
module _ (question : Option Asked) (s : Settings) (rings : List (List Level)) where
  unfoldable pub predicted_before : ℕ → Estimated
  predicted_before c = foldl joined no_estimate (map (estimated_for question s) (take c rings))

  pub none_before : no_estimate ≡ predicted_before 0
  unfolding predicted_before
  none_before = refl

  pub one_more : (c : ℕ) → c < length rings → predicted_before (c + 1) ≡ joined (predicted_before c) (estimated_for question s (get_or rings c []))
  unfolding predicted_before
  one_more c h = folded_more joined (estimated_for question s) [] no_estimate rings c h

-- those of all rings
pub all : (question : Option Asked) (p : Predictor) (c : ℕ) → length p.rings ≤ c → predicted_before question p.settings p.rings c ≡ predicted_for question p
unfolding predicted_before predicted_by
all None p c h = none_joined (estimated_for None p.settings) (take c p.rings) (λ records. refl)
all (Some a) p c h = ap (λ (l : List (List Level)). foldl joined no_estimate (map (estimated_for (Some a) p.settings) l)) (take_all c p.rings h)

-- a predictor that is off answers nothing
pub off_none : (question : Option Asked) (p : Predictor) → Settings.Good p.settings → p.settings.enabled ≡ false → no_estimate ≡ predicted_for question p
unfolding predicted_by
off_none None p good e = refl
off_none (Some a) p good e = sym (none_joined (λ (records : List Level). estimated (estimate_tree p.settings records a)) p.rings (λ records. ap estimated (off p.settings records a e good.window_low)))

-- and neither does one whose rings are empty
pub none_from_empty : (a : Asked) (p : Predictor) → emptied p ≡ p → predicted_by a p ≡ no_estimate
unfolding predicted_by
none_from_empty a p e =
    let by : List Level → Estimated = λ records. estimated (estimate_tree p.settings records a) in
    ap (λ (q : Predictor). foldl joined no_estimate (map by q.rings)) (sym e)
    ∙ ap (foldl joined no_estimate) (map-map by (λ (r : List Level). []) p.rings)
    ∙ none_joined (λ (r : List Level). by []) p.rings (λ r. ap estimated (none_stored_none p.settings a))
