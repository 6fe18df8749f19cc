-- `clipping_predictor::frame_fits` meets its contract, test by test. Assumes nothing.
use mathlib.Core.Path.{sym, ◌∙◌}
use mathlib.Core.Bool.{◌&&◌}
use Prim.Native.Nat.{◌*◌}
use lib.Dec.{eqb}
use lib.ListN.{length}
use Rattle.clipping_predictor.proofs.Frames.{fits_split}
use Rattle.clipping_predictor.proofs.frame_fits.Goals as goal

pub returns-then-is_frame_size : goal.returns-then-is_frame_size
returns-then-is_frame_size c =
    (λ i. c.if-is_frame_size.ensures i && eqb (length c.args.frame.now) (c.from.ensures i * c.args.samples)) ∙ sym (fits_split c.args.channels c.args.samples c.args.frame.now)

pub returns-else-is_frame_size : goal.returns-else-is_frame_size
returns-else-is_frame_size c =
    c.if-is_frame_size.false
    ∙ (λ i. c.if-is_frame_size.ensures i && eqb (length c.args.frame.now) (c.args.channels * c.args.samples)) ∙ sym (fits_split c.args.channels c.args.samples c.args.frame.now)
