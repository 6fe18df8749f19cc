-- How far `respell` has come with a piece. Assumes nothing.
use mathlib.Core.Path.{◌≡◌, refl, sym, ap, ◌∙◌}
use mathlib.Core.List.{List, [], ◌∷◌, ◌++◌}
use Prim.Native.Nat.{ℕ, ◌+◌, ◌-◌, ◌≤◌, ◌<◌}
use native.Mathlib.Omega.{arith}
use lib.ListN.{length, take, drop, length-append, length-drop}
use lib.Seq.{length-take-le, take_all}
use Rattle.std.proofs.lemmas.List.{take-append-drop}
use Rattle.frame_lines.specs.declared.lines.Begun.{Begun}
use Rattle.frame_lines.specs.declared.respelling.Fed.{Fed}
use Rattle.frame_lines.specs.Stream.{cut, begun}
use Rattle.frame_lines.specs.Feeds.{kept, GoodBeginning}
use Rattle.frame_lines.specs.Respelled.{longest_respelling, FedAs}
use Rattle.frame_lines.proofs.Pieces.{kept_two}
use Rattle.frame_lines.proofs.Fedways.{still_kept}
use Rattle.frame_lines.proofs.Runs.{some_used}

-- what is kept leads with the rest of a piece to where the whole piece leads; there is room for an answer behind what was put
pub record Reached (line₀ : Begun) (piece out₀ : List ℕ) (line : Begun) (rest : List ℕ) (written : ℕ) (out : List ℕ) : Type 0 where
  pub good : GoodBeginning line
  pub leads : cut (begun (kept line ++ rest)) ≡ cut (begun (kept line₀ ++ piece))
  pub room : written + longest_respelling ≤ length out
  pub same : length out ≡ length out₀

-- what feeding the rest leads to: less is left, and more answers have room behind what was put, or once it is written
pub record FedOn (line₀ : Begun) (piece out₀ : List ℕ) (rest : List ℕ) (out next_out : List ℕ) (r : Fed) : Type 0 where
  pub shorter : length (drop r.used rest) < length rest
  pub fits : longest_respelling ≤ length next_out
  pub goes_on : (n : ℕ) → n + longest_respelling ≤ length next_out → Reached line₀ piece out₀ r.begun (take (length rest - r.used) (drop r.used rest)) n next_out

empty : (l : List ℕ) → length l ≡ 0 → [] ≡ l
empty [] h = refl
empty (x ∷ l) h = absurd (omega (arith, h))

module _ (line₀ : Begun) (piece out₀ : List ℕ) where
  module _ (line : Begun) (rest : List ℕ) (written : ℕ) (out : List ℕ) (h : Reached line₀ piece out₀ line rest written out) where
    -- all of the piece is used
    pub whole : length rest ≡ 0 → kept line ≡ cut (begun (kept line₀ ++ piece))
    whole k = still_kept line h.good ∙ ap (λ (l : List ℕ). cut (begun (kept line ++ l))) (empty rest k) ∙ h.leads

    -- what is left of the slice
    abbrev left : List ℕ
    left = take (length out - written) (drop written out)

    pub left_length : length left ≡ length out - written
    left_length = length-take-le (length out - written) (drop written out) (omega (arith, length-drop written out))

    module _ (more : 0 < length rest) (part : List ℕ) (r : Fed) (same : length part ≡ length left) (f : FedAs (kept line) rest left part r) where
      abbrev next_out : List ℕ
      next_out = take written out ++ (part ++ drop (length out - written) (drop written out))

      next_length : length next_out ≡ length out
      next_length =
          omega (
            arith,
            length-append (take written out) (part ++ drop (length out - written) (drop written out)),
            length-append part (drop (length out - written) (drop written out)),
            length-take-le written out (omega (arith, h.room)),
            length-drop (length out - written) (drop written out),
            length-drop written out,
            same,
            left_length,
            h.room,
          )

      next_leads : cut (begun (kept r.begun ++ drop r.used rest)) ≡ cut (begun (kept line₀ ++ piece))
      next_leads =
          (λ i. cut (begun (f.kept_is i ++ drop r.used rest)))
          ∙ sym (kept_two (kept line) (take r.used rest) (drop r.used rest))
          ∙ ap (λ (l : List ℕ). cut (begun (kept line ++ l))) (take-append-drop r.used rest)
          ∙ h.leads

      rest_is : take (length rest - r.used) (drop r.used rest) ≡ drop r.used rest
      rest_is = take_all (length rest - r.used) (drop r.used rest) (omega (arith, length-drop r.used rest))

      pub feeds : FedOn line₀ piece out₀ rest out next_out r
      feeds =
          let some : 0 < r.used = some_used _ _ _ _ r f (omega (arith, left_length, h.room)) more in
          record {
            shorter = omega (arith, length-drop r.used rest, f.within);
            fits = omega (arith, next_length, h.room);
            goes_on = λ n k. record { good = f.good; leads = ap (λ (l : List ℕ). cut (begun (kept r.begun ++ l))) rest_is ∙ next_leads; room = k; same = next_length ∙ h.same };
          }
