-- What the exit of a `?` on an `Option` with a refusal beside it tells: there is no value, and the refusal that is handed on is the one that was named. Assumes nothing.
use mathlib.Core.Path.{◌≡◌, refl, sym, ap, ◌∙◌}
use Rattle.std.specs.Prelude.{Option, Some, None, Result, Ok, Err, ok_or, IsErrAnd}
use Rattle.std.proofs.lemmas.Result.{err_from_is_err_and}

module _ {A E : Type 0} where
  was_cause : (o : Option A) (e d : E) {r : Result A E} → r ≡ ok_or o e → r ≡ Err d → d ≡ e
  was_cause None e d p q = cc
  was_cause (Some x) e d p q = cc

  was_none : (o : Option A) (e d : E) {r : Result A E} → r ≡ ok_or o e → r ≡ Err d → o ≡ None
  was_none None e d p q = refl
  was_none (Some x) e d p q = cc

  was_some : (o : Option A) (e : E) (x : A) {r : Result A E} → r ≡ ok_or o e → r ≡ Ok x → o ≡ Some x
  was_some None e x p q = cc
  was_some (Some y) e x p q = cc

  -- behind the `?`: the value that was asked for
  pub asked_some : (o w : Option A) (e : E) (x : A) {r : Result A E} → o ≡ w → r ≡ ok_or o e → r ≡ Ok x → w ≡ Some x
  asked_some o w e x h p q = sym h ∙ was_some o e x p q

  -- at its exit
  pub asked_none : (o w : Option A) (e d : E) {r : Result A E} → o ≡ w → r ≡ ok_or o e → r ≡ Err d → w ≡ None
  asked_none o w e d h p q = sym h ∙ was_none o e d p q

  pub handed_on : {B : Type 0} (s : Result B E) (o : Option A) (e d : E) {r : Result A E} → IsErrAnd s (λ x. x ≡ d) → r ≡ ok_or o e → r ≡ Err d → s ≡ Err e
  handed_on s o e d h p q =
      let k = err_from_is_err_and s h in
      k.1 ∙ ap Err (k.2 ∙ was_cause o e d p q)

-- at the exit of a `?` on a `Result` of the same refusals
pub passed_on : {B E : Type 0} (s : Result B E) (d : E) → IsErrAnd s (λ x. x ≡ d) → s ≡ Err d
passed_on s d h =
    let k = err_from_is_err_and s h in
    k.1 ∙ ap Err k.2
