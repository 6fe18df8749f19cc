-- `gain_map::walk_from` meets its contract: the sign of the wanted change says which walk. Assumes nothing.
use mathlib.Core.Path.{◌≡◌, ap, ◌∙◌}
use Prim.Native.Nat.{ℕ}
use lib.IntN.{ℤ, pos, neg_ℤ}
use mir.Syntax.{w32}
use mir.ValLaws.{to_z-of_z}
use Rattle.numbers.proofs.Signs.{read}
use Rattle.gain_map.specs.VolumeUpdate.{rise, fall, walk}
use Rattle.gain_map.proofs.Paths.{walk_up, walk_down, walk_none}
use Rattle.gain_map.proofs.walk_from.Goals as goal
use Rattle.gain_map.proofs.walk_from.Goals.{Start}

-- the walk by the wanted change as the machine reads it back
back : (c : Start) → walk (read c.args.wanted) c.args.volume c.args.min c.args.max ≡ walk c.args.wanted c.args.volume c.args.min c.args.max
back c = ap (λ (z : ℤ). walk z c.args.volume c.args.min c.args.max) (to_z-of_z w32 c.args.wanted c.ranges.wanted)

pub returns-then-wanted-gt0 : goal.returns-then-wanted-gt0
returns-then-wanted-gt0 c =
    c.rise_from.ensures ∙ ap (λ (n : ℕ). rise (pos n) c.args.volume c.args.max) c.unsigned_abs-size.ensures.value ∙ walk_up _ _ _ _ c.if-wanted-gt0.true ∙ back c.before.before.before

pub returns-then-wanted-lt0 : goal.returns-then-wanted-lt0
returns-then-wanted-lt0 c =
    c.fall_from.ensures ∙ ap (λ (n : ℕ). fall (neg_ℤ (pos n)) c.args.volume c.args.min) c.unsigned_abs-size.ensures.value ∙ walk_down _ _ _ _ c.if-wanted-lt0.true
    ∙ back c.before.before.before.before

pub returns : goal.returns
returns c = walk_none _ _ _ _ c.if-wanted-gt0.false c.if-wanted-lt0.false ∙ back c.before.before.before
