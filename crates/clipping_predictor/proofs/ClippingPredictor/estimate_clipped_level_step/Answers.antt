-- `ClippingPredictor::estimate_clipped_level_step` meets its contract: the arguments in range, and then the estimate of their channel. Assumes nothing.
use mathlib.Core.Path.{◌≡◌, sym, ap, ◌∙◌}
use mathlib.Core.List.{List, []}
use Prim.Native.Nat.{ℕ, ◌<◌, ◌^◌}
use native.Mathlib.Omega.{arith}
use lib.IntN.{ℤ}
use lib.Signed.{mag}
use Rattle.std.specs.Prelude.{Result, Ok}
use Rattle.numbers.specs.declared.refusal.Refusal.{Refusal}
use Rattle.numbers.proofs.Asked.{passed_on}
use Rattle.numbers.proofs.Listed.{get_d_listed}
use Rattle.numbers.proofs.Signs.{read, again}
use Rattle.numbers.specs.Said.{said}
use Rattle.clipping_predictor_level_buffer.specs.declared.level.Level.{Level}
use Rattle.clipping_predictor_level_buffer.specs.Ring.{stored}
use Rattle.clipping_predictor.specs.declared.Estimate.{Estimate}
use Rattle.clipping_predictor.specs.Turned.{estimated}
use Rattle.clipping_predictor.specs.Estimate.{estimate_tree}
use Rattle.clipping_predictor.specs.Predictor.{ring_at, view_of}
use Rattle.clipping_predictor.specs.EstimateCall.{Arguments, arguments_of, answered, estimate_of}
use Rattle.clipping_predictor.proofs.Given.{channel_below}
use Rattle.clipping_predictor.proofs.ClippingPredictor.estimate_clipped_level_step.Goals as goal

-- the arguments, which the machine reads back
asked : (channels : ℕ) (channel level step least most : ℤ) → mag channel < 2 ^ 31 → mag level < 2 ^ 31 → mag step < 2 ^ 31 → mag least < 2 ^ 31 → mag most < 2 ^ 31
    → {r : Arguments} → r ≡ arguments_of channels (read channel) (read level) (read step) (read least) (read most) → arguments_of channels channel level step least most ≡ r
asked channels channel level step least most h1 h2 h3 h4 h5 e =
    sym (e ∙ (λ i. arguments_of channels (again channel h1 i) (again level h2 i) (again step h3 i) (again least h4 i) (again most h5 i)))

pub returns-in_err-place : goal.returns-in_err-place
unfolding estimate_of
returns-in_err-place c =
    let given = asked c.args.self.channels c.args.channel c.args.level c.args.default_step c.args.min_mic_level c.args.max_mic_level c.ranges.channel.sfits c.ranges.level.sfits c.ranges.default_step.sfits c.ranges.min_mic_level.sfits c.ranges.max_mic_level.sfits c.arguments_in_range.ensures ∙ c.in_err-place.was in
    ap said (passed_on _ _ c.from_residual.ensures.1) ∙ sym (ap (λ (a : Arguments). said (estimate_of (view_of c.args.self) a)) given)

-- ---- the channel is one of the predictor's

pub offset_bounds-self-place : goal.offset_bounds-self-place
offset_bounds-self-place c =
    let given = asked c.args.self.channels c.args.channel c.args.level c.args.default_step c.args.min_mic_level c.args.max_mic_level c.ranges.channel.sfits c.ranges.level.sfits c.ranges.default_step.sfits c.ranges.min_mic_level.sfits c.ranges.max_mic_level.sfits c.arguments_in_range.ensures ∙ c.in_ok-place.was in
    omega (arith, channel_below _ _ _ _ _ _ c.requires.channels_low _ _ given, c.requires.channels_high)

pub bounds-self-place : goal.bounds-self-place
bounds-self-place c =
    let given = asked c.args.self.channels c.args.channel c.args.level c.args.default_step c.args.min_mic_level c.args.max_mic_level c.ranges.channel.sfits c.ranges.level.sfits c.ranges.default_step.sfits c.ranges.min_mic_level.sfits c.ranges.max_mic_level.sfits c.arguments_in_range.ensures ∙ c.in_ok-place.was in
    omega (arith, channel_below _ _ _ _ _ _ c.requires.channels_low _ _ given, c.requires.channels_high)

pub estimate_for-e-requires : goal.estimate_for-e-requires
estimate_for-e-requires c =
    let given = asked c.args.self.channels c.args.channel c.args.level c.args.default_step c.args.min_mic_level c.args.max_mic_level c.ranges.channel.sfits c.ranges.level.sfits c.ranges.default_step.sfits c.ranges.min_mic_level.sfits c.ranges.max_mic_level.sfits c.arguments_in_range.ensures ∙ c.in_ok-place.was in
    c.requires.each c.in_ok-place.place (channel_below _ _ _ _ _ _ c.requires.channels_low _ _ given)

abbrev done : Estimate → Result Estimate Refusal
done = Ok

pub returns : goal.returns
unfolding estimate_of view_of
returns c =
    let given = asked c.args.self.channels c.args.channel c.args.level c.args.default_step c.args.min_mic_level c.args.max_mic_level c.ranges.channel.sfits c.ranges.level.sfits c.ranges.default_step.sfits c.ranges.min_mic_level.sfits c.ranges.max_mic_level.sfits c.arguments_in_range.ensures ∙ c.in_ok-place.was in
    let below = channel_below _ _ _ _ _ _ c.requires.channels_low _ _ given in
    ap said
    (ap done (c.answer_of.ensures ∙ ap answered c.estimate_for-e.ensures)
    ∙ sym (ap (λ (r : List Level). done (answered (estimated (estimate_tree c.args.self.settings r c.in_ok-place.asked)))) (get_d_listed (λ k. stored (ring_at c.args.self k)) c.args.self.channels c.in_ok-place.place [] below))
    ∙ sym (ap (estimate_of (view_of c.args.self)) given))
