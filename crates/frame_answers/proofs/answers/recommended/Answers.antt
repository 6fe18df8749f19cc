-- `frame_answers::answers::recommended` meets its contract. Assumes nothing.
use mathlib.Core.Path.{◌≡◌, sym, ap, ◌∙◌}
use Prim.Native.Nat.{ℕ}
use native.Mathlib.Omega.{arith}
use lib.IntN.{pos, nat_abs}
use Rattle.input_volume_controller.specs.Reply.{Reply, volume, recommendation_says}
use Rattle.input_volume_controller.proofs.Whole.{does_whole}
use Rattle.numbers.proofs.Signs.{again}
use Rattle.frame_answers.specs.LineStep.{recommended, volume_in}
use Rattle.frame_answers.proofs.Recommended.{says_volume, same_volume}
use Rattle.frame_answers.proofs.answers.recommended.Goals as goal
use Rattle.frame_answers.proofs.answers.recommended.Goals.{After-unsigned_abs, In-Some}

-- the volume that is recommended, as it is shown
size_is : (c : After-unsigned_abs) → c.unsigned_abs.result ≡ nat_abs c.in-Some.volume
size_is c = c.unsigned_abs.ensures.value ∙ ap nat_abs (again c.in-Some.volume c.in-Some.known_told-1-own.given.0.1)

volume-said : (c : In-Some) → volume c.in-Some.volume ≡ recommendation_says c.recommend_input_volume-done.result.answer
volume-said c = sym (ap recommendation_says c.in-Some.is)

pub returns-in_default : goal.returns-in_default
unfolding volume_in
returns-in_default c =
    let does = does_whole c.args.controller.now _ _ _ c.requires.0 tt c.recommend_input_volume-done.ensures in
    record {
      leads = record {
        good = does.good;
        reply = ap (λ (r : Reply). recommended (volume_in r) c.args.near) (sym (ap recommendation_says c.in_default.is) ∙ does.reply);
        view = does.view;
      };
      accepted = λ cause e. let z : ◌≡◌ {A = ℕ} 0 1 = cc in omega arith;
    }

pub overflow_cast-result : goal.overflow_cast-result
overflow_cast-result c =
    let does = does_whole c.args.controller.now _ _ _ c.requires.0 tt c.recommend_input_volume-done.ensures in
    let m = says_volume c.args.controller.now _ _ _ _ does c.requires.1 in
    let e : c.in-Some.volume ≡ pos m.shown = same_volume _ _ (volume-said c.before ∙ m.is) in
    omega (arith, size_is c, ap nat_abs e, m.most)

pub returns : goal.returns
unfolding volume_in
returns c =
    let does = does_whole c.args.controller.now _ _ _ c.requires.0 tt c.recommend_input_volume-done.ensures in
    record {
      leads = record {
        good = does.good;
        reply = ap (λ (n : ℕ). recommended n c.args.near) (size_is c) ∙ ap (λ (r : Reply). recommended (volume_in r) c.args.near) (volume-said c.before ∙ does.reply);
        view = does.view;
      };
      accepted = λ cause e. let z : ◌≡◌ {A = ℕ} 0 1 = cc in omega arith;
    }
