-- `profile::in_classroom` meets its contract: each condition by its test, and all of them. Assumes nothing.
use mathlib.Core.Path.{◌≡◌, sym, ap, refl, ◌∙◌}
use mathlib.Core.Bool.{Bool, true, false, ◌&&◌}
use mathlib.Core.List.{[], ◌∷◌}
use lib.IntN.{pos}
use lib.Signed.{le_z}
use borrow.Author.Rules.{rules}
use Rattle.numbers.proofs.Truths.{and_true}
use Rattle.mono_input_volume_controller.specs.Config.{in_range, in_unit}
use Rattle.mono_input_volume_controller.specs.Profile.{classroom_conditions, all_hold}
use Rattle.mono_input_volume_controller.proofs.profile.in_classroom.Goals as goal
use Rattle.mono_input_volume_controller.proofs.profile.in_classroom.Goals.{Joined-config-ge100, then-config, else-config, then-in_range, else-in_range, then-config-2, else-config-2, then-config-3, else-config-3, then-config-ge100, else-config-ge100}

-- one condition after another are all six of a list
all-six : (on minimum level targets clipped update ratio : Bool) → ((((((on && minimum) && level) && targets) && clipped) && update) && ratio) ≡ all_hold (on ∷ minimum ∷ level ∷ targets ∷ (clipped && update) ∷ ratio ∷ [])
unfolding all_hold
all-six false minimum level targets clipped update ratio = refl
all-six true false level targets clipped update ratio = refl
all-six true true false targets clipped update ratio = refl
all-six true true true false clipped update ratio = refl
all-six true true true true false update ratio = refl
all-six true true true true true false ratio = refl
all-six true true true true true true ratio = sym (and_true ratio)

-- the first five tests, one after another
all-five : (c : Joined-config-ge100) → c.if-config-ge100.value
    ≡ (((((c.args.config.enable_clipping_predictor && in_range (pos 20) (pos 70) c.args.config.min_input_volume) && le_z c.args.config.min_input_volume c.args.config.clipped_level_min)
    && le_z c.args.config.target_range_min_dbfs c.args.config.target_range_max_dbfs) && le_z (pos 100) c.args.config.clipped_wait_frames) && le_z (pos 100) c.args.config.update_input_volume_wait_frames)
all-five c =
    let a : c.if-config.value ≡ (c.args.config.enable_clipping_predictor && in_range (pos 20) (pos 70) c.args.config.min_input_volume) = elim c.if-config.branch [ then-config w ↦ search rules | else-config w ↦ search rules ] in
    let b : c.if-in_range.value ≡ (c.if-config.value && le_z c.args.config.min_input_volume c.args.config.clipped_level_min) = elim c.if-in_range.branch [ then-in_range w ↦ search rules | else-in_range w ↦ search rules ] in
    let d : c.if-config-2.value ≡ (c.if-in_range.value && le_z c.args.config.target_range_min_dbfs c.args.config.target_range_max_dbfs) = elim c.if-config-2.branch [ then-config-2 w ↦ search rules | else-config-2 w ↦ search rules ] in
    let e : c.if-config-3.value ≡ (c.if-config-2.value && le_z (pos 100) c.args.config.clipped_wait_frames) = elim c.if-config-3.branch [ then-config-3 w ↦ search rules | else-config-3 w ↦ search rules ] in
    let f : c.if-config-ge100.value ≡ (c.if-config-3.value && le_z (pos 100) c.args.config.update_input_volume_wait_frames) = elim c.if-config-ge100.branch [ then-config-ge100 w ↦ search rules | else-config-ge100 w ↦ search rules ] in
    cc

pub returns-then-config-ge100-2 : goal.returns-then-config-ge100-2
unfolding classroom_conditions
returns-then-config-ge100-2 c =
    let five = all-five c.before.before in
    c.in_unit.ensures ∙ ap (λ (b : Bool). b && in_unit c.args.config.clipped_ratio_threshold) (sym c.if-config-ge100-2.true ∙ five) ∙ all-six _ _ _ _ _ _ _

pub returns-else-config-ge100-2 : goal.returns-else-config-ge100-2
unfolding classroom_conditions
returns-else-config-ge100-2 c =
    let five = all-five c.before in
    c.if-config-ge100-2.false ∙ ap (λ (b : Bool). b && in_unit c.args.config.clipped_ratio_threshold) (sym c.if-config-ge100-2.false ∙ five) ∙ all-six _ _ _ _ _ _ _
