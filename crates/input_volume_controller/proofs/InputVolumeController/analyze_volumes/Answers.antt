-- `InputVolumeController::analyze_volumes` meets its contract: what the tests say, and then the frame with its volumes applied. Assumes nothing.
use mathlib.Core.Path.{◌≡◌, refl, sym, ap, ◌∙◌}
use mathlib.Core.Bool.{Bool, true, false}
use Prim.Native.Nat.{ℕ}
use native.Mathlib.Omega.{arith}
use lib.Dec.{eqb}
use mathlib.Core.List.{List}
use Rattle.std.specs.Prelude.{Ok, Err, Result}
use Rattle.numbers.specs.declared.refusal.Refusal.{Refusal}
use Rattle.clipping_predictor.specs.Predictor.{frame_fits}
use Rattle.input_volume_controller.specs.Control.{control_of}
use Rattle.input_volume_controller.specs.ControlCalls.{aggregated, with_applied_input_volumes}
use Rattle.input_volume_controller.specs.VolumeSet.{levels_of, bytes_in, is_inside}
use Rattle.input_volume_controller.specs.Limits.{is_within}
use Rattle.input_volume_controller.specs.Controller.{together, view_of, Becomes}
use Rattle.input_volume_controller.specs.Reply.{Stepped}
use Rattle.input_volume_controller.specs.Frame.{tested_as, if_used, with_volumes_applied, unless_refused}
use Rattle.input_volume_controller.specs.Calls.{bytes_if, set_outcome, analyze_set}
use Rattle.input_volume_controller.proofs.Volumes.{applied_count}
use Rattle.input_volume_controller.proofs.Whole.{whole_count, with_control, framed_same}
use Rattle.input_volume_controller.proofs.InputVolumeController.analyze_volumes.Goals as goal

pub accepted_volumes-requires : goal.accepted_volumes-requires
accepted_volumes-requires c = c.requires.control.channels.high

-- a frame that is taken fits
taken-fits : (counted inside fits within : Bool) → tested_as counted inside fits within ≡ Ok tt → fits ≡ true
taken-fits false inside fits within e = let z : ◌≡◌ {A = ℕ} 0 1 = cc in absurd (omega arith)
taken-fits true false fits within e = let z : ◌≡◌ {A = ℕ} 0 1 = cc in absurd (omega arith)
taken-fits true true false within e = let z : ◌≡◌ {A = ℕ} 0 1 = cc in absurd (omega arith)
taken-fits true true true within e = refl

-- what the volumes of a frame tell of its tests
taken : (o : Result (Unit {0}) Refusal) (levels l : List ℕ) → bytes_if o levels ≡ Ok l → (o ≡ Ok tt) × (levels ≡ l)
taken (Ok tt) levels l e = (refl, cc)
taken (Err cause) levels l e = let z : ◌≡◌ {A = ℕ} 0 1 = cc in absurd (omega arith)

refused : (o : Result (Unit {0}) Refusal) (levels : List ℕ) (cause : Refusal) → bytes_if o levels ≡ Err cause → o ≡ Err cause
refused (Ok tt) levels cause e = let z : ◌≡◌ {A = ℕ} 0 1 = cc in absurd (omega arith)
refused (Err other) levels cause e = cc

-- the frame's step, from what the tests say
pub returns-in-Err : goal.returns-in-Err
returns-in-Err c =
    let levels = levels_of (bytes_in c.args.set.levels) in
    let outcome = refused (set_outcome c.args.most c.args.self.control.channels.count c.args.set c.args.samples_per_channel c.args.frame.now) (bytes_in c.args.set.levels) c.in-Err.cause (sym c.accepted_volumes.ensures ∙ c.in-Err.is) in
    let n = whole_count c.args.self in
    let e : analyze_set c.args.most c.args.set c.args.samples_per_channel c.args.frame.now (view_of c.args.self)
    ≡ unless_refused (Err c.in-Err.cause) (levels c.args.self.control.channels.count) c.args.samples_per_channel c.args.frame.now (view_of c.args.self) =
    λ i. unless_refused ((ap (λ (m : ℕ). set_outcome c.args.most m c.args.set c.args.samples_per_channel c.args.frame.now) n ∙ outcome) i) (levels (n i)) c.args.samples_per_channel c.args.frame.now (view_of c.args.self) in
    record { good = c.requires; typed = c.shared_slice_known-1.given; reply = sym (ap (λ (x : Stepped). x.reply) e); view = sym (ap (λ (x : Stepped). x.state) e); same = λ other q. refl }

-- the controller with the volumes applied
pub accepted-requires : goal.accepted-requires
unfolding view_of
accepted-requires c =
    let whole : Becomes (with_volumes_applied (levels_of c.in-Ok.levels c.args.self.control.channels.count) (view_of c.args.self)) (together c.set_applied_input_volumes-applied.result c.args.self.predictor) =
    with_control c.args.self _ _ c.requires c.set_applied_input_volumes-applied.ensures (applied_count (control_of c.args.self.control) (levels_of c.in-Ok.levels c.args.self.control.channels.count)) in
    let outcome = taken (set_outcome c.args.most c.args.self.control.channels.count c.args.set c.args.samples_per_channel c.args.frame.now) (bytes_in c.args.set.levels) c.in-Ok.levels (sym c.accepted_volumes.ensures ∙ c.in-Ok.is) in (
      whole.good,
      ap (λ (n : ℕ). frame_fits n c.args.samples_per_channel c.args.frame.now) (sym whole.good.counts ∙ c.requires.counts)
          ∙ taken-fits (eqb c.args.set.count c.args.self.control.channels.count) (is_inside c.args.set.levels) _ (is_within c.args.most c.args.self.control.channels.count c.args.samples_per_channel) outcome.0,
    )

pub returns-in-Ok : goal.returns-in-Ok
unfolding view_of control_of with_applied_input_volumes aggregated
returns-in-Ok c =
    let outcome = taken (set_outcome c.args.most c.args.self.control.channels.count c.args.set c.args.samples_per_channel c.args.frame.now) (bytes_in c.args.set.levels) c.in-Ok.levels (sym c.accepted_volumes.ensures ∙ c.in-Ok.is) in
    let n = whole_count c.args.self in
    let e : analyze_set c.args.most c.args.set c.args.samples_per_channel c.args.frame.now (view_of c.args.self)
    ≡ unless_refused (Ok tt) (levels_of c.in-Ok.levels c.args.self.control.channels.count) c.args.samples_per_channel c.args.frame.now (view_of c.args.self) =
    λ i. unless_refused ((ap (λ (m : ℕ). set_outcome c.args.most m c.args.set c.args.samples_per_channel c.args.frame.now) n ∙ outcome.0) i) (levels_of (outcome.1 i) (n i)) c.args.samples_per_channel c.args.frame.now (view_of c.args.self) in
    let whole : Becomes (with_volumes_applied (levels_of c.in-Ok.levels c.args.self.control.channels.count) (view_of c.args.self)) (together c.set_applied_input_volumes-applied.result c.args.self.predictor) =
    with_control c.args.self _ _ c.requires c.set_applied_input_volumes-applied.ensures (applied_count (control_of c.args.self.control) (levels_of c.in-Ok.levels c.args.self.control.channels.count)) in
    let f = framed_same (λ j. if_used (whole.is j).control.used c.args.samples_per_channel c.args.frame.now (whole.is j)) c.accepted.ensures in
    record { good = f.good; typed = c.shared_slice_known-1.given; reply = f.reply ∙ sym (ap (λ (x : Stepped). x.reply) e); view = f.view ∙ sym (ap (λ (x : Stepped). x.state) e); same = λ cause q. absurd (f.accepted cause q) }
