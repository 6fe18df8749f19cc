-- `ClippingPredictor::heard` meets its contract: by whether the predictor is on and the frame fits. Assumes nothing.
use mathlib.Core.Path.{◌≡◌, refl, sym, ap, ◌∙◌}
use mathlib.Core.Bool.{Bool, true, false, ◌&&◌}
use mathlib.Core.List.{List}
use Prim.Native.Nat.{ℕ}
use lib.Ieee.{Float}
use Rattle.std.specs.Prelude.{Option}
use Rattle.clipping_predictor.specs.declared.modes.Asked.{Asked}
use Rattle.numbers.proofs.Signs.{clash}
use Rattle.numbers.proofs.Truths.{and_false, both_true}
use Rattle.clipping_predictor_level_buffer.specs.declared.level.Level.{Level}
use Rattle.clipping_predictor_level_buffer.specs.Level.{frame_record}
use Rattle.clipping_predictor.specs.declared.measuring.Brought.{Brought}
use Rattle.clipping_predictor.specs.declared.ClippingPredictor.{ClippingPredictor}
use Rattle.clipping_predictor.specs.declared.Heard.{Heard}
use Rattle.clipping_predictor.specs.Predictor.{view_of, Good, part_of, frame_fits, levels_in, entered_if}
use Rattle.clipping_predictor.specs.AllRings.{predicted_if, with_levels_if, hears, items_in, heard_if, BroughtBy, HeardLevelsOf, HeardOf}
use Rattle.clipping_predictor.specs.FrameLevels.{levels_array}
use Rattle.clipping_predictor.proofs.Frames.{off_same, entered_frame}
use Rattle.clipping_predictor.proofs.FrameLevels.{array_entered}
use Rattle.clipping_predictor.proofs.Joins.{off_none}
use Rattle.clipping_predictor.proofs.ClippingPredictor.heard.Goals as goal

module _ (p : ClippingPredictor) (samples : ℕ) (frame : List Float) (question : Option Asked) (good : Good p) where
  heard_so : (b : Bool) (items : List Level) → hears (heard_if b items) ≡ b
  heard_so true items = refl
  heard_so false items = refl

  abbrev fits : Bool
  fits = frame_fits p.channels samples frame

  module _ (b : Brought) (r : Heard) (brought : BroughtBy p.settings.enabled p.channels samples frame question b) (h : HeardLevelsOf p b question r) where
    levels : (on fit : Bool) → p.settings.enabled ≡ on → fits ≡ fit → b.levels ≡ heard_if (on && fit) (levels_array p.channels samples frame)
    levels on fit o f = brought.levels_are ∙ (λ i. heard_if (o i && f i) (levels_array p.channels samples frame))

    heard : (on fit : Bool) → p.settings.enabled ≡ on → fits ≡ fit → hears b.levels ≡ (on && fit)
    heard on fit o f = ap hears (levels on fit o f) ∙ heard_so (on && fit) (levels_array p.channels samples frame)

    -- nothing is heard, which is what the frame is to bring then
    unheard : (fit : Bool) → fits ≡ fit → hears b.levels ≡ false → view_of p ≡ entered_if fit samples frame (view_of p) → predicted_if false question (view_of p) ≡ predicted_if fit question (view_of p) → HeardOf p samples frame question r
    unheard fit f not view answer =
        let very = h.same not in
        record {
          entered = record { good = h.good; view = ap view_of very ∙ view ∙ sym (ap (λ (x : Bool). entered_if x samples frame (view_of p)) f); same = λ _. very };
          answer =
              h.answer ∙ (λ i. predicted_if (not i) question (view_of (very i))) ∙ answer ∙ sym (ap (λ (x : Bool). predicted_if x question (view_of p)) f)
              ∙ sym (ap (λ (q : ClippingPredictor). predicted_if fits question (view_of q)) very);
          clipped_is = h.clipped_is ∙ brought.clipped_is;
        }

    by_tests : (on fit : Bool) → p.settings.enabled ≡ on → fits ≡ fit → HeardOf p samples frame question r
    unfolding view_of
    by_tests on false o f = unheard false f (heard on false o f ∙ and_false on) refl refl
    by_tests false true o f =
        let records : ℕ → Level = λ c. frame_record (part_of samples frame c) in
        unheard true f (heard false true o f) (off_same p records good o ∙ entered_frame p records samples frame (λ c k. refl)) (off_none question (view_of p) good.settings o)
    by_tests true true o f =
        let all = heard true true o f in
        let are = ap items_in (levels true true o f) in
        record {
          entered = record {
            good = h.good;
            view = h.view ∙ (λ i. with_levels_if (all i) (levels_in (are i) p.channels) (view_of p)) ∙ array_entered p samples frame good ∙ sym (ap (λ (x : Bool). entered_if x samples frame (view_of p)) f);
            same = λ e. clash (sym f ∙ e);
          };
          answer = h.answer ∙ ap (λ (x : Bool). predicted_if x question (view_of r.predictor)) (all ∙ sym f);
          clipped_is = h.clipped_is ∙ brought.clipped_is;
        }

pub bring-brought-requires : goal.bring-brought-requires
bring-brought-requires c = c.requires.channels_high

pub heard_levels-requires : goal.heard_levels-requires
heard_levels-requires c = (c.requires, record { on = λ e. (both_true _ _ (sym (heard_so c.args.self c.args.samples_per_channel c.args.frame.now c.args.question c.requires _ _) ∙ sym (ap hears c.bring-brought.ensures.levels_are) ∙ e)).0; counted = c.bring-brought.ensures.counted })

pub returns : goal.returns
returns c =
    by_tests c.args.self c.args.samples_per_channel c.args.frame.now c.args.question c.requires c.bring-brought.result _ c.bring-brought.ensures c.heard_levels.ensures _ _ refl refl
