-- How long an answer is, and the array that holds it. Assumes nothing.
use mathlib.Core.Path.{◌≡◌, refl, sym, ap, ◌∙◌}
use mathlib.Core.Bool.{Bool, true, false}
use mathlib.Core.List.{List, [], ◌∷◌, ◌++◌}
use Prim.Native.Nat.{ℕ, ◌+◌, ◌≤◌}
use native.Mathlib.Omega.{arith}
use lib.Dec.{ltb}
use lib.ListN.{length, take, drop, length-append}
use lib.Seq.{take-append_seam, take-length, drop-append-add, drop-drop, paste}
use borrow.Author.Tests.{le-leb}
use Rattle.numbers.specs.Refusal.{number_of}
use Rattle.std.specs.Prelude.{Ok, Err}
use Rattle.frame_lines.specs.Answer.{Reply, decimal_if, decimal, longest, digits_of, volume_text, number_text, answer_of, held, laid, has_room, behind_text, with_text, PutAs}

-- a text of at most five bytes, in its array
pub record Fitting (text : List ℕ) : Type 0 where
  pub within : length text ≤ longest
  pub places : length (held text).bytes ≡ longest

pub number_fits : (t : Bool) (n : ℕ) → Fitting ((33 ∷ 32 ∷ []) ++ decimal_if t n ++ 10 ∷ [])
number_fits true n = record { within = omega arith; places = refl }
number_fits false n = record { within = omega arith; places = refl }

pub answer_fits : (reply : Reply) → Fitting (answer_of reply)
unfolding answer_of volume_text digits_of number_text decimal
answer_fits (Ok r) = record { within = omega arith; places = refl }
answer_fits (Err cause) = number_fits (ltb (number_of cause) 10) (number_of cause)

-- its first bytes are the text
pub held_text : (text : List ℕ) → take (held text).length (held text).bytes ≡ text
held_text text = take-append_seam text _

-- ---- an answer that is put

-- a text behind another, at the beginning of a slice
pub put_behind : (t x out₀ out : List ℕ) → out ≡ laid t out₀ → paste out (length t) x (length x) ≡ laid (t ++ x) out₀
put_behind t x out₀ out e =
    ap (λ (o : List ℕ). paste o (length t) x (length x)) e
    ∙ (λ i. (take-append_seam t (drop (length t) out₀) i ++ take-length x i) ++ (drop-append-add t (drop (length t) out₀) (length x) ∙ drop-drop (length x) (length t) out₀) i)
    ∙ ap (λ (m : ℕ). (t ++ x) ++ drop m out₀) (sym (length-append t x))

module _ (text : List ℕ) (at : ℕ) (before after : List ℕ) (r : ℕ) where
  pub had_room : at + longest ≤ length before → PutAs text at before after r → (r ≡ at + length text) × (after ≡ paste before at text (length text))
  had_room h p =
      let room : has_room at before ≡ true = le-leb (at + longest) (length before) h in (
        p.behind_is ∙ ap (λ (t : Bool). behind_text t at text) room,
        p.out_is ∙ ap (λ (t : Bool). with_text t at text before) room ∙ (λ i. (take at before ++ sym (take-length text) i) ++ drop (at + length text) before),
      )
