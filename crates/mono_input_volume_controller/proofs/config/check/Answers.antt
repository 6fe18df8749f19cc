-- `config::check` meets its contract: each return by the tests that lead there. Assumes nothing.
use mathlib.Core.Path.{◌≡◌, sym, ap, ◌∙◌}
use mathlib.Core.Bool.{true}
use lib.IntN.{pos, negsuc}
use Rattle.numbers.proofs.Signs.{again}
use Rattle.numbers.specs.Said.{said}
use Rattle.mono_input_volume_controller.specs.Config.{in_range, both_in_range, volumes_in_range, step_in_range, waits_in_range, targets_in_range, InOrder}
use Rattle.mono_input_volume_controller.proofs.Settings.{first_volumes, first_step, first_waits, first_targets, first_thresholds, no_cause}
use Rattle.mono_input_volume_controller.proofs.config.check.Goals as goal

-- ---- what each test says, and that those before it passed

-- all that passed before the thresholds are tested

pub returns-then-not-both_in_range : goal.returns-then-not-both_in_range
returns-then-not-both_in_range c =
    let volumes : c.both_in_range.result ≡ volumes_in_range c.args.config = c.both_in_range.ensures ∙ (λ i. both_in_range (pos 0) (pos 255) (again c.args.config.min_input_volume c.struct_told-2-1.given.0.1 i) (again c.args.config.clipped_level_min c.struct_told-2-1.given.1.0.1 i)) in
    ap said (first_volumes c.args.config (sym (volumes) ∙ c.if-not-both_in_range.true))

pub returns-then-not-in_range : goal.returns-then-not-in_range
returns-then-not-in_range c =
    let volumes : c.both_in_range.result ≡ volumes_in_range c.args.config = c.both_in_range.ensures ∙ (λ i. both_in_range (pos 0) (pos 255) (again c.args.config.min_input_volume c.struct_told-2-1.given.0.1 i) (again c.args.config.clipped_level_min c.struct_told-2-1.given.1.0.1 i)) in
    let volumes-pass : volumes_in_range c.args.config ≡ true = sym (volumes) ∙ c.if-not-both_in_range.false in
    let step : c.in_range.result ≡ step_in_range c.args.config = c.in_range.ensures ∙ (λ i. in_range (pos 1) (pos 255) (again c.args.config.clipped_level_step c.struct_told-3-1.given.1.1.0.1 i)) in
    ap said (first_step c.args.config (volumes-pass) (sym (step) ∙ c.if-not-in_range.true))

pub returns-then-not-both_in_range-2 : goal.returns-then-not-both_in_range-2
returns-then-not-both_in_range-2 c =
    let volumes : c.both_in_range.result ≡ volumes_in_range c.args.config = c.both_in_range.ensures ∙ (λ i. both_in_range (pos 0) (pos 255) (again c.args.config.min_input_volume c.struct_told-2-1.given.0.1 i) (again c.args.config.clipped_level_min c.struct_told-2-1.given.1.0.1 i)) in
    let volumes-pass : volumes_in_range c.args.config ≡ true = sym (volumes) ∙ c.if-not-both_in_range.false in
    let step : c.in_range.result ≡ step_in_range c.args.config = c.in_range.ensures ∙ (λ i. in_range (pos 1) (pos 255) (again c.args.config.clipped_level_step c.struct_told-3-1.given.1.1.0.1 i)) in
    let step-passes : step_in_range c.args.config ≡ true = sym (step) ∙ c.if-not-in_range.false in
    let waits : c.both_in_range-2.result ≡ waits_in_range c.args.config = c.both_in_range-2.ensures ∙ (λ i. both_in_range (pos 0) (pos 65535) (again c.args.config.clipped_wait_frames c.struct_told-5-1.given.1.1.1.1.0.1 i) (again c.args.config.update_input_volume_wait_frames c.struct_told-5-1.given.1.1.1.1.1.1.1.1.0.1 i)) in
    ap said (first_waits c.args.config (volumes-pass) (step-passes) (sym (waits) ∙ c.if-not-both_in_range-2.true))

pub returns-then-not-both_in_range-3 : goal.returns-then-not-both_in_range-3
returns-then-not-both_in_range-3 c =
    let volumes : c.both_in_range.result ≡ volumes_in_range c.args.config = c.both_in_range.ensures ∙ (λ i. both_in_range (pos 0) (pos 255) (again c.args.config.min_input_volume c.struct_told-2-1.given.0.1 i) (again c.args.config.clipped_level_min c.struct_told-2-1.given.1.0.1 i)) in
    let volumes-pass : volumes_in_range c.args.config ≡ true = sym (volumes) ∙ c.if-not-both_in_range.false in
    let step : c.in_range.result ≡ step_in_range c.args.config = c.in_range.ensures ∙ (λ i. in_range (pos 1) (pos 255) (again c.args.config.clipped_level_step c.struct_told-3-1.given.1.1.0.1 i)) in
    let step-passes : step_in_range c.args.config ≡ true = sym (step) ∙ c.if-not-in_range.false in
    let waits : c.both_in_range-2.result ≡ waits_in_range c.args.config = c.both_in_range-2.ensures ∙ (λ i. both_in_range (pos 0) (pos 65535) (again c.args.config.clipped_wait_frames c.struct_told-5-1.given.1.1.1.1.0.1 i) (again c.args.config.update_input_volume_wait_frames c.struct_told-5-1.given.1.1.1.1.1.1.1.1.0.1 i)) in
    let waits-pass : waits_in_range c.args.config ≡ true = sym (waits) ∙ c.if-not-both_in_range-2.false in
    let targets : c.both_in_range-3.result ≡ targets_in_range c.args.config = c.both_in_range-3.ensures ∙ (λ i. both_in_range (negsuc 89) (pos 30) (again c.args.config.target_range_max_dbfs c.struct_told-7-1.given.1.1.1.1.1.1.0.1 i) (again c.args.config.target_range_min_dbfs c.struct_told-7-1.given.1.1.1.1.1.1.1.0.1 i)) in
    ap said (first_targets c.args.config (volumes-pass) (step-passes) (waits-pass) (sym (targets) ∙ c.if-not-both_in_range-3.true))

pub returns-then-not-both_in_unit : goal.returns-then-not-both_in_unit
returns-then-not-both_in_unit c =
    let volumes : c.both_in_range.result ≡ volumes_in_range c.args.config = c.both_in_range.ensures ∙ (λ i. both_in_range (pos 0) (pos 255) (again c.args.config.min_input_volume c.struct_told-2-1.given.0.1 i) (again c.args.config.clipped_level_min c.struct_told-2-1.given.1.0.1 i)) in
    let volumes-pass : volumes_in_range c.args.config ≡ true = sym (volumes) ∙ c.if-not-both_in_range.false in
    let step : c.in_range.result ≡ step_in_range c.args.config = c.in_range.ensures ∙ (λ i. in_range (pos 1) (pos 255) (again c.args.config.clipped_level_step c.struct_told-3-1.given.1.1.0.1 i)) in
    let step-passes : step_in_range c.args.config ≡ true = sym (step) ∙ c.if-not-in_range.false in
    let waits : c.both_in_range-2.result ≡ waits_in_range c.args.config = c.both_in_range-2.ensures ∙ (λ i. both_in_range (pos 0) (pos 65535) (again c.args.config.clipped_wait_frames c.struct_told-5-1.given.1.1.1.1.0.1 i) (again c.args.config.update_input_volume_wait_frames c.struct_told-5-1.given.1.1.1.1.1.1.1.1.0.1 i)) in
    let waits-pass : waits_in_range c.args.config ≡ true = sym (waits) ∙ c.if-not-both_in_range-2.false in
    let targets : c.both_in_range-3.result ≡ targets_in_range c.args.config = c.both_in_range-3.ensures ∙ (λ i. both_in_range (negsuc 89) (pos 30) (again c.args.config.target_range_max_dbfs c.struct_told-7-1.given.1.1.1.1.1.1.0.1 i) (again c.args.config.target_range_min_dbfs c.struct_told-7-1.given.1.1.1.1.1.1.1.0.1 i)) in
    let targets-pass : targets_in_range c.args.config ≡ true = sym (targets) ∙ c.if-not-both_in_range-3.false in
    let passed : (volumes_in_range c.args.config ≡ true) × (step_in_range c.args.config ≡ true) × (waits_in_range c.args.config ≡ true) × (targets_in_range c.args.config ≡ true) = (
      volumes-pass,
      step-passes,
      waits-pass,
      targets-pass,
    ) in
    let p = passed in
    ap said (first_thresholds c.args.config p.0 p.1 p.2 p.3 (sym c.both_in_unit.ensures ∙ c.if-not-both_in_unit.true))

pub kept-requires : goal.kept-requires
kept-requires c =
    let volumes : c.both_in_range.result ≡ volumes_in_range c.args.config = c.both_in_range.ensures ∙ (λ i. both_in_range (pos 0) (pos 255) (again c.args.config.min_input_volume c.struct_told-2-1.given.0.1 i) (again c.args.config.clipped_level_min c.struct_told-2-1.given.1.0.1 i)) in
    let volumes-pass : volumes_in_range c.args.config ≡ true = sym (volumes) ∙ c.if-not-both_in_range.false in
    let step : c.in_range.result ≡ step_in_range c.args.config = c.in_range.ensures ∙ (λ i. in_range (pos 1) (pos 255) (again c.args.config.clipped_level_step c.struct_told-3-1.given.1.1.0.1 i)) in
    let step-passes : step_in_range c.args.config ≡ true = sym (step) ∙ c.if-not-in_range.false in
    let waits : c.both_in_range-2.result ≡ waits_in_range c.args.config = c.both_in_range-2.ensures ∙ (λ i. both_in_range (pos 0) (pos 65535) (again c.args.config.clipped_wait_frames c.struct_told-5-1.given.1.1.1.1.0.1 i) (again c.args.config.update_input_volume_wait_frames c.struct_told-5-1.given.1.1.1.1.1.1.1.1.0.1 i)) in
    let waits-pass : waits_in_range c.args.config ≡ true = sym (waits) ∙ c.if-not-both_in_range-2.false in
    let targets : c.both_in_range-3.result ≡ targets_in_range c.args.config = c.both_in_range-3.ensures ∙ (λ i. both_in_range (negsuc 89) (pos 30) (again c.args.config.target_range_max_dbfs c.struct_told-7-1.given.1.1.1.1.1.1.0.1 i) (again c.args.config.target_range_min_dbfs c.struct_told-7-1.given.1.1.1.1.1.1.1.0.1 i)) in
    let targets-pass : targets_in_range c.args.config ≡ true = sym (targets) ∙ c.if-not-both_in_range-3.false in
    let passed : (volumes_in_range c.args.config ≡ true) × (step_in_range c.args.config ≡ true) × (waits_in_range c.args.config ≡ true) × (targets_in_range c.args.config ≡ true) = (
      volumes-pass,
      step-passes,
      waits-pass,
      targets-pass,
    ) in
    let in_order : InOrder c.args.config = let p = passed in
    record { volumes = p.0; step = p.1; waits = p.2; targets = p.3; thresholds = sym c.both_in_unit.ensures ∙ c.if-not-both_in_unit.false } in
    in_order

pub returns : goal.returns
returns c =
    let volumes : c.both_in_range.result ≡ volumes_in_range c.args.config = c.both_in_range.ensures ∙ (λ i. both_in_range (pos 0) (pos 255) (again c.args.config.min_input_volume c.struct_told-2-1.given.0.1 i) (again c.args.config.clipped_level_min c.struct_told-2-1.given.1.0.1 i)) in
    let volumes-pass : volumes_in_range c.args.config ≡ true = sym (volumes) ∙ c.if-not-both_in_range.false in
    let step : c.in_range.result ≡ step_in_range c.args.config = c.in_range.ensures ∙ (λ i. in_range (pos 1) (pos 255) (again c.args.config.clipped_level_step c.struct_told-3-1.given.1.1.0.1 i)) in
    let step-passes : step_in_range c.args.config ≡ true = sym (step) ∙ c.if-not-in_range.false in
    let waits : c.both_in_range-2.result ≡ waits_in_range c.args.config = c.both_in_range-2.ensures ∙ (λ i. both_in_range (pos 0) (pos 65535) (again c.args.config.clipped_wait_frames c.struct_told-5-1.given.1.1.1.1.0.1 i) (again c.args.config.update_input_volume_wait_frames c.struct_told-5-1.given.1.1.1.1.1.1.1.1.0.1 i)) in
    let waits-pass : waits_in_range c.args.config ≡ true = sym (waits) ∙ c.if-not-both_in_range-2.false in
    let targets : c.both_in_range-3.result ≡ targets_in_range c.args.config = c.both_in_range-3.ensures ∙ (λ i. both_in_range (negsuc 89) (pos 30) (again c.args.config.target_range_max_dbfs c.struct_told-7-1.given.1.1.1.1.1.1.0.1 i) (again c.args.config.target_range_min_dbfs c.struct_told-7-1.given.1.1.1.1.1.1.1.0.1 i)) in
    let targets-pass : targets_in_range c.args.config ≡ true = sym (targets) ∙ c.if-not-both_in_range-3.false in
    let passed : (volumes_in_range c.args.config ≡ true) × (step_in_range c.args.config ≡ true) × (waits_in_range c.args.config ≡ true) × (targets_in_range c.args.config ≡ true) = (
      volumes-pass,
      step-passes,
      waits-pass,
      targets-pass,
    ) in
    let in_order : InOrder c.args.config = let p = passed in
    record { volumes = p.0; step = p.1; waits = p.2; targets = p.3; thresholds = sym c.both_in_unit.ensures ∙ c.if-not-both_in_unit.false } in
    ap said (no_cause c.args.config c.kept.result (in_order) c.kept.ensures)
