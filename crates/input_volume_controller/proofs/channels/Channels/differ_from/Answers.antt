-- `Channels::differ_from` meets its contract. Assumes nothing.
use mathlib.Core.Path.{◌≡◌, refl, sym, ap, ◌∙◌}
use mathlib.Core.Bool.{true, false, not}
use Prim.Native.Nat.{ℕ}
use native.Mathlib.Omega.{arith}
use borrow.Author.Rules.{rules}
use Rattle.std.proofs.lemmas.Iterator.{cases_from_any, YieldsList-from_range}
use Rattle.numbers.specs.Listed.{listed}
use Rattle.mono_input_volume_controller.specs.SameVolumes.{same_volumes}
use Rattle.input_volume_controller.specs.Channels.{channel_at, channels_of}
use Rattle.input_volume_controller.specs.Differ.{other_volumes}
use Rattle.input_volume_controller.proofs.ChannelLists.{any_differs}
use Rattle.input_volume_controller.proofs.channels.Channels.differ_from.Goals as goal

pub returns : goal.returns
unfolding channels_of
returns c =
    let cases = cases_from_any _ _ _ (λ i. not (same_volumes (channel_at c.args.self i) (channel_at c.args.others i)) ≡ true) (λ i. not (same_volumes (channel_at c.args.self i) (channel_at c.args.others i)) ≡ false) c.any.ensures.ran
    (YieldsList-from_range 0 c.args.self.count c.args.self.count refl (omega arith)) (λ x q k. search rules) (λ x q k. search rules) in
    any_differs (channel_at c.args.self) (channel_at c.args.others) c.args.self.count _ cases
    ∙ ap (λ (n : ℕ). other_volumes (listed (channel_at c.args.self) c.args.self.count) (listed (channel_at c.args.others) n)) (sym c.requires.1)
