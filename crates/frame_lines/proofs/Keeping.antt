-- The beginning of a line, kept in an array: a copy of a part behind it is the line's as far as that is kept. Assumes nothing.
use mathlib.Core.Path.{◌≡◌, sym, ap, ◌∙◌}
use mathlib.Core.List.{List, ◌++◌}
use Prim.Native.Nat.{ℕ, ◌+◌, ◌-◌, min}
use native.Mathlib.Omega.{arith}
use native.Mathlib.Decide.{dec_le}
use lib.ListN.{length, take, drop}
use lib.Seq.{length-take-le, take_all, take-append-add, paste, length-paste, take-paste}
use borrow.Rule.Slice.PartMut.{put_mid}
use Rattle.std.proofs.lemmas.Slice.{put_mid-paste}
use Rattle.frame_lines.specs.declared.lines.Begun.{Begun}
use Rattle.frame_lines.specs.Stream.{kept_characters, cut}
use Rattle.frame_lines.specs.Feeds.{Good, kept, Keeps}

take_room : (s : List ℕ) (m n : ℕ) → n ≡ min (length s) m → take n s ≡ take m s
take_room s m n e = elim (dec_le m (length s)) [
  | yes h ↦ (let k : n ≡ m = omega arith in ap (λ (i : ℕ). take i s) k)
  | no h ↦ take_all n s (omega arith) ∙ sym (take_all m s (omega arith))
]

module _ (p : Begun) (good : Good p) (part : List ℕ) (n : ℕ) (e : n ≡ min (length part) (kept_characters - p.length)) where
  held : length (kept p) ≡ p.length
  held = length-take-le p.length p.bytes (omega (arith, good.within, good.places))

  cut_is : cut (kept p ++ part) ≡ kept p ++ take n part
  cut_is =
      let all : kept_characters ≡ length (kept p) + (kept_characters - p.length) = omega (arith, held, good.within) in
      ap (λ (i : ℕ). take i (kept p ++ part)) all
      ∙ take-append-add (kept p) part (kept_characters - p.length)
      ∙ ap (λ (l : List ℕ). kept p ++ l) (sym (take_room part (kept_characters - p.length) n e))

  -- as much of the part was written over the bytes behind what was kept
  pub keeps : (k : ℕ) (new : List ℕ) → new ≡ take n part → k ≡ n → Keeps (cut (kept p ++ part)) (record { bytes = put_mid p.length k p.bytes new; length = p.length + n })
  keeps k new w m = record {
    good = record {
      within = omega (arith, good.within);
      places = ap length put_is ∙ length-paste p.bytes p.length part n (omega (arith, good.within, good.places)) (omega arith) ∙ good.places;
    };
    kept_is =
        ap (take (p.length + n)) put_is
        ∙ take-paste p.bytes p.length part n (omega (arith, good.within, good.places)) (omega arith)
        ∙ sym cut_is;
  }
    where
      put_is : put_mid p.length k p.bytes new ≡ paste p.bytes p.length part n
      put_is =
          let first : length (take n part) ≡ n = length-take-le n part (omega arith) in
          put_mid-paste p.length k p.bytes new (take n part) n w (sym m) (sym first)
          ∙ ap (λ (t : List ℕ). take p.length p.bytes ++ t ++ drop (p.length + n) p.bytes) (take_all n (take n part) (omega arith))
