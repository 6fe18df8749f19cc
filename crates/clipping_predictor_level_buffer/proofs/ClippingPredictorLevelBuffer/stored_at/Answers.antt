-- `clipping_predictor_level_buffer::ClippingPredictorLevelBuffer::stored_at` meets its contract: the record at the place is the one of the list. Assumes nothing.
use mathlib.Core.Path.{◌≡◌, refl, sym, ap, ◌∙◌}
use Prim.Native.Nat.{ℕ, ◌<◌}
use lib.Dec.{ltb}
use lib.ListN.{get_or}
use borrow.Author.Rules.{rules}
use borrow.Author.Tests.{ltb-true, ltb-false}
use Rattle.std.specs.Option.{is_some}
use Rattle.std.specs.Prelude.{Option, None, Some}
use Rattle.clipping_predictor_level_buffer.specs.declared.level.Level.{Level}
use Rattle.clipping_predictor_level_buffer.specs.declared.ClippingPredictorLevelBuffer.{ClippingPredictorLevelBuffer}
use Rattle.clipping_predictor_level_buffer.specs.Ring.{no_level, stored, behind, stored_at}
use Rattle.clipping_predictor_level_buffer.proofs.Records.{length_stored, stored_is, too_far, near}
use Rattle.clipping_predictor_level_buffer.proofs.ClippingPredictorLevelBuffer.stored_at.Goals as goal

-- by whether there is such a record
by_test : (r : ClippingPredictorLevelBuffer) (i : ℕ) (o : Option Level) → is_some o ≡ ltb i r.size → ((x : Level) → o ≡ Some x → x ≡ get_or r.data (behind r.capacity r.tail i) no_level) → o ≡ stored_at (stored r) i
by_test r i None v told = too_far (stored r) i (rw (length_stored r) (ltb-false i r.size (sym v)))
by_test r i (Some x) v told =
    let here : i < r.size = ltb-true i r.size (sym v) in
    ap Some (told x refl ∙ sym (stored_is r i here)) ∙ near (stored r) i (rw (length_stored r) here)

pub returns : goal.returns
returns c = by_test c.args.self c.args.i _ c.then.ensures.variant (search rules)
