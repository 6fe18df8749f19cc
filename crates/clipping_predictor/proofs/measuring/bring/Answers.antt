-- `measuring::bring` meets its contract: each return by the tests that lead there. Assumes nothing.
use mathlib.Core.Path.{◌≡◌, sym, ap, ◌∙◌}
use mathlib.Core.Bool.{Bool, true, false, ◌&&◌}
use Prim.Native.Nat.{ℕ, ◌≤◌}
use native.Mathlib.Omega.{arith}
use borrow.Author.Rules.{rules}
use Rattle.numbers.proofs.Truths.{and_false}
use Rattle.clipping_predictor.specs.Predictor.{frame_fits}
use Rattle.clipping_predictor.specs.MostClipped.{most_clipped, most_counted}
use Rattle.clipping_predictor.specs.AllRings.{hearing, is_asked, clipped_for, clipped_if}
use Rattle.clipping_predictor.proofs.Frames.{fits}
use Rattle.clipping_predictor.proofs.MostClipped.{counted_clipped}
use Rattle.clipping_predictor.proofs.Brought.{brings_nothing, brings_levels}
use Rattle.clipping_predictor.proofs.measuring.bring.Goals as goal

pub returns-then-not-frame_fits : goal.returns-then-not-frame_fits
returns-then-not-frame_fits c =
    let e : frame_fits c.args.channels c.args.samples c.args.frame.now ≡ false = sym c.frame_fits.ensures ∙ c.if-not-frame_fits.true in
    brings_nothing _ _ _ _ c.args.on 0 (ap (λ (b : Bool). c.args.on && b) e ∙ and_false c.args.on) (sym (ap (λ (b : Bool). clipped_if b (clipped_for c.args.question c.args.channels c.args.samples c.args.frame.now)) e))

-- the frame fits

-- the channels whose clipped samples are asked for are among its own

hearing-most : (b : Bool) (channels : ℕ) → hearing b channels ≤ channels
hearing-most true channels = omega arith
hearing-most false channels = omega arith

-- their most is what the contract asks for

pub most_clipped-requires : goal.most_clipped-requires
most_clipped-requires c =
    let first_is : c.map_or-first.result ≡ hearing (is_asked c.args.question) c.args.channels = search rules in
    let first-within : c.map_or-first.result ≤ c.args.channels = omega (arith, first_is, hearing-most (is_asked c.args.question) c.args.channels) in
    let fitting : frame_fits c.args.channels c.args.samples c.args.frame.now ≡ true = sym c.frame_fits.ensures ∙ c.if-not-frame_fits.false in
    (first-within, c.requires, fitting)

pub returns-then-not-on : goal.returns-then-not-on
returns-then-not-on c =
    let first_is : c.map_or-first.result ≡ hearing (is_asked c.args.question) c.args.channels = search rules in
    let fitting : frame_fits c.args.channels c.args.samples c.args.frame.now ≡ true = sym c.frame_fits.ensures ∙ c.if-not-frame_fits.false in
    let most-is : (n : ℕ) → n ≡ most_clipped c.map_or-first.result c.args.samples c.args.frame.now → n ≡ clipped_if (frame_fits c.args.channels c.args.samples c.args.frame.now) (clipped_for c.args.question c.args.channels c.args.samples c.args.frame.now) = λ n e. e ∙ ap (λ (k : ℕ). most_clipped k c.args.samples c.args.frame.now) (first_is) ∙ sym (ap (λ (b : Bool). clipped_if b (clipped_for c.args.question c.args.channels c.args.samples c.args.frame.now)) (fitting)) in
    brings_nothing _ _ _ _ c.args.on _ (ap (λ (b : Bool). b && frame_fits c.args.channels c.args.samples c.args.frame.now) (c.if-not-on.true)) (most-is _ c.most_clipped.ensures)

pub levels_of-levels-requires : goal.levels_of-levels-requires
levels_of-levels-requires c =
    let fitting : frame_fits c.args.channels c.args.samples c.args.frame.now ≡ true = sym c.frame_fits.ensures ∙ c.if-not-frame_fits.false in
    (c.requires, fitting)

pub most_counted-requires : goal.most_counted-requires
most_counted-requires c =
    let first_is : c.map_or-first.result ≡ hearing (is_asked c.args.question) c.args.channels = search rules in
    let first-within : c.map_or-first.result ≤ c.args.channels = omega (arith, first_is, hearing-most (is_asked c.args.question) c.args.channels) in
    omega (arith, first-within, c.requires)

pub returns : goal.returns
returns c =
    let fitting : frame_fits c.args.channels c.args.samples c.args.frame.now ≡ true = sym c.frame_fits.ensures ∙ c.if-not-frame_fits.false in
    let first_is : c.map_or-first.result ≡ hearing (is_asked c.args.question) c.args.channels = search rules in
    let most-is : (n : ℕ) → n ≡ most_clipped c.map_or-first.result c.args.samples c.args.frame.now → n ≡ clipped_if (frame_fits c.args.channels c.args.samples c.args.frame.now) (clipped_for c.args.question c.args.channels c.args.samples c.args.frame.now) = λ n e. e ∙ ap (λ (k : ℕ). most_clipped k c.args.samples c.args.frame.now) (first_is) ∙ sym (ap (λ (b : Bool). clipped_if b (clipped_for c.args.question c.args.channels c.args.samples c.args.frame.now)) (fitting)) in
    let first-within : c.map_or-first.result ≤ c.args.channels = omega (arith, first_is, hearing-most (is_asked c.args.question) c.args.channels) in
    brings_levels _ _ _ _ c.args.on _ _ (λ i. c.if-not-on.false i && fitting i) (fits _ _ _ (fitting)).most c.levels_of-levels.ensures
    (most-is _ (c.most_counted.ensures ∙ ap (most_counted c.map_or-first.result) c.levels_of-levels.ensures ∙ counted_clipped c.map_or-first.result c.args.channels c.args.samples c.args.frame.now (first-within) c.requires))
