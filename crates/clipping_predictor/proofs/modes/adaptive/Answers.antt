-- `modes::adaptive` meets its contract, case by case. Assumes nothing.
use mathlib.Core.Path.{sym, ap, subst, ◌∙◌}
use Prim.Native.Nat.{◌≤◌}
use lib.IntN.{ℤ, nat_abs}
use Rattle.numbers.proofs.Signs.{again}
use Rattle.levels.specs.declared.decibels.Decibels.{Decibels}
use Rattle.levels.specs.Decibels.{Bounded}
use Rattle.clipping_predictor.specs.Turned.{only, estimated}
use Rattle.clipping_predictor.specs.Estimate.{nearest_whole, projected_limit, ceiling_tree, adaptive_tree}
use Rattle.clipping_predictor.proofs.modes.adaptive.Goals as goal

pub ceiling-requires : goal.ceiling-requires
unfolding Bounded
ceiling-requires c =
    subst (λ (y : ℤ). nat_abs y ≤ projected_limit) (sym (again c.in-Finite.z c.in-Finite.known_told-1-own.given.0.1))
    (subst (Bounded projected_limit) c.in-Finite.is c.requires)

pub returns-in-Finite : goal.returns-in-Finite
returns-in-Finite c =
    c.ceiling.ensures
    ∙ ap (λ (z : ℤ). estimated (ceiling_tree c.args.a z (nearest_whole z))) (again c.in-Finite.z c.in-Finite.known_told-1-own.given.0.1)
    ∙ sym (ap (λ (d : Decibels). estimated (adaptive_tree c.args.a d)) c.in-Finite.is)

pub returns-in-PlusInfinity : goal.returns-in-PlusInfinity
unfolding estimated
returns-in-PlusInfinity c =
    c.sure.ensures ∙ ap only c.adaptive_drop.ensures ∙ sym (ap (λ (d : Decibels). estimated (adaptive_tree c.args.a d)) c.in-PlusInfinity.is)

pub returns-in-MinusInfinity : goal.returns-in-MinusInfinity
returns-in-MinusInfinity c = c.no_estimate.ensures ∙ sym (ap (λ (d : Decibels). estimated (adaptive_tree c.args.a d)) c.in-MinusInfinity.is)

pub returns-in-NotANumber : goal.returns-in-NotANumber
returns-in-NotANumber c = c.no_estimate-in-NotANumber.ensures ∙ sym (ap (λ (d : Decibels). estimated (adaptive_tree c.args.a d)) c.in-NotANumber.is)
