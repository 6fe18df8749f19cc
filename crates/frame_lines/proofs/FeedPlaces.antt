-- What the search for the next line feed tells of the lines: those of a piece are handed on one by one, each a part of the piece behind what was kept before it. Assumes nothing.
use mathlib.Core.Path.{◌≡◌, refl, ap, subst, ◌∙◌}
use mathlib.Core.Bool.{Bool, true, false}
use mathlib.Core.List.{List, [], ◌∷◌, ◌++◌}
use Prim.Native.Nat.{ℕ, suc, ◌+◌, ◌-◌, ◌≤◌, ◌<◌}
use native.Mathlib.Omega.{arith}
use lib.ListN.{length, take, drop, length-drop}
use lib.Seq.{drop-drop}
use Rattle.std.specs.Prelude.{Some, None, Option}
use Rattle.frame_lines.specs.Lines.{is_feed}
use Rattle.frame_lines.specs.Stream.{ended_if, ended, begun_if, begun}
use Rattle.frame_lines.specs.Search.{here_if, first_of, place_of}
use Rattle.frame_lines.specs.Search.{line_feed_from}
use Rattle.frame_lines.proofs.Searching.{found_if, least_if, lost_if}
use Rattle.frame_lines.proofs.Pieces.{joined, begun_after, ended_after, begun_after_lem}

-- ---- what it tells of a text

-- the first n bytes of a text are its first line
pub record FirstLine (text : List ℕ) (n : ℕ) : Type 0 where
  pub within : n < length text
  pub line : ended text ≡ take n text ∷ ended (drop (suc n) text)
  pub begins : begun text ≡ begun (drop (suc n) text)
  -- with its line feed it is a text of one line
  pub alone : ended (take (suc n) text) ≡ take n text ∷ []
  pub clears : begun (take (suc n) text) ≡ []

later_line : (b : ℕ) (text : List ℕ) (n : ℕ) → is_feed b ≡ false → FirstLine text n → FirstLine (b ∷ text) (suc n)
unfolding ended begun
later_line b text n e f = record {
  within = omega (arith, f.within);
  line = λ i. ended_if (e i) b (f.line i);
  begins = (λ i. begun_if (e i) b (f.line i) (begun text)) ∙ f.begins;
  alone = λ i. ended_if (e i) b (f.alone i);
  clears = λ i. begun_if (e i) b (f.alone i) (f.clears i);
}

this_line : (b : ℕ) (text : List ℕ) → is_feed b ≡ true → FirstLine (b ∷ text) 0
unfolding ended begun
this_line b text e = record {
  within = omega arith;
  line = λ i. ended_if (e i) b (ended text);
  begins = λ i. begun_if (e i) b (ended text) (begun text);
  alone = λ i. ended_if (e i) b [];
  clears = λ i. begun_if (e i) b [] [];
}

first_if_lem : (b : ℕ) (text : List ℕ) (n : ℕ) (t : Bool) (o : Option ℕ) → is_feed b ≡ t → first_of 10 text ≡ o → ((m : ℕ) → first_of 10 text ≡ Some m → FirstLine text m)
    → here_if t o ≡ Some n → FirstLine (b ∷ text) n
first_if_lem b text n true o p q f e = let k : 0 ≡ n = cc in subst (FirstLine (b ∷ text)) k (this_line b text p)
first_if_lem b text n false None p q f e = let z : ◌≡◌ {A = ℕ} 0 1 = cc in absurd (omega arith)
first_if_lem b text n false (Some m) p q f e = let k : suc m ≡ n = cc in subst (FirstLine (b ∷ text)) k (later_line b text m p (f m q))

pub first_line : (text : List ℕ) (n : ℕ) → first_of 10 text ≡ Some n → FirstLine text n
unfolding first_of
first_line [] n e = let z : ◌≡◌ {A = ℕ} 0 1 = cc in absurd (omega arith)
first_line (b ∷ text) n e = first_if_lem b text n (is_feed b) (first_of 10 text) refl refl (first_line text) e

no_feed_if : (b : ℕ) (text : List ℕ) (t : Bool) (o : Option ℕ) → is_feed b ≡ t → first_of 10 text ≡ o → (first_of 10 text ≡ None → ended text ≡ []) → here_if t o ≡ None → ended (b ∷ text) ≡ []
unfolding ended
no_feed_if b text true o p q f e = let z : ◌≡◌ {A = ℕ} 0 1 = cc in absurd (omega arith)
no_feed_if b text false None p q f e = λ i. ended_if (p i) b (f q i)
no_feed_if b text false (Some m) p q f e = let z : ◌≡◌ {A = ℕ} 0 1 = cc in absurd (omega arith)

no_line : (text : List ℕ) → first_of 10 text ≡ None → ended text ≡ []
unfolding first_of ended
no_line [] e = refl
no_line (b ∷ text) e = no_feed_if b text (is_feed b) (first_of 10 text) refl refl (no_line text) e

-- ---- what it tells of a piece that is read from a place on, where k was kept of the line that began before

-- a line ends at e: it is k and the part from the place to e, and the lines behind e follow
pub record LineAt (k bytes : List ℕ) (start e : ℕ) : Type 0 where
  pub least : start ≤ e
  pub within : e < length bytes
  pub line : ended (k ++ drop start bytes) ≡ (k ++ take (e - start) (drop start bytes)) ∷ ended (drop (e + 1) bytes)
  pub begins : begun (k ++ drop start bytes) ≡ begun (drop (e + 1) bytes)

module _ (k bytes : List ℕ) (start : ℕ) (u : ended k ≡ []) where
  pub line_found : (e : ℕ) → line_feed_from bytes start ≡ Some e → LineAt k bytes start e
  unfolding place_of
  line_found e p =
      let f = first_line (drop start bytes) (e - start) (found_if start e (first_of 10 (drop start bytes)) p) in
      let l = least_if start e (first_of 10 (drop start bytes)) p in
      let s : start + suc (e - start) ≡ e + 1 = omega arith in
      let rest : drop (suc (e - start)) (drop start bytes) ≡ drop (e + 1) bytes = drop-drop (suc (e - start)) start bytes ∙ ap (λ (n : ℕ). drop n bytes) s in
      record {
        least = l;
        within = omega (arith, f.within, length-drop start bytes);
        line =
            ended_after k (drop start bytes) u
            ∙ ap (joined k) (f.line ∙ ap (λ (t : List ℕ). take (e - start) (drop start bytes) ∷ ended t) rest);
        begins =
            begun_after_lem k (drop start bytes) u
            ∙ (λ i. begun_after k (f.line i) (f.begins i))
            ∙ ap begun rest;
      }

  -- no line ends: all is the beginning of one
  pub no_line_ends : line_feed_from bytes start ≡ None → ended (k ++ drop start bytes) ≡ []
  unfolding place_of
  no_line_ends p = ended_after k (drop start bytes) u ∙ ap (joined k) (no_line (drop start bytes) (lost_if start (first_of 10 (drop start bytes)) p))
