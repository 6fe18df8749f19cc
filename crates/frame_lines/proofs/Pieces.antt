-- Pieces of a stream, however it is cut, hand on the lines of the whole: each line is the same as far as it is kept. Assumes nothing.
use mathlib.Core.Path.{◌≡◌, refl, sym, ap, ◌∙◌}
use mathlib.Core.Bool.{Bool, true, false}
use mathlib.Core.List.{List, [], ◌∷◌, ◌++◌, map, flatten, append_assoc, append-nil, map-append}
use Prim.Native.Nat.{ℕ, zero, suc}
use native.Mathlib.Omega.{arith}
use lib.ListN.{take}
use Rattle.frame_lines.specs.Lines.{is_feed, line_if, lines_of}
use Rattle.frame_lines.specs.Stream.{kept_characters, cut, ended_if, ended, begun_if, begun, last_line, handed_on}

-- ---- the lines of a text are those that end and the one that is left

whole_if : (t : Bool) (b : ℕ) (lines : List (List ℕ)) (begins : List ℕ) → line_if t b (lines ++ last_line begins) ≡ ended_if t b lines ++ last_line (begun_if t b lines begins)
whole_if true b lines begins = refl
whole_if false b [] [] = refl
whole_if false b [] (c ∷ begins) = refl
whole_if false b (line ∷ lines) begins = refl

pub whole : (text : List ℕ) → lines_of text ≡ ended text ++ last_line (begun text)
unfolding lines_of ended begun
whole [] = refl
whole (b ∷ text) = ap (line_if (is_feed b) b) (whole text) ∙ whole_if (is_feed b) b (ended text) (begun text)

-- ---- a text in two parts: the second goes on with what the first has begun

-- b is no line feed, or it is
two_if : (b : ℕ) (t : Bool) → is_feed b ≡ t → (lines : List (List ℕ)) (begins y : List ℕ)
    → ended_if t b (lines ++ ended (begins ++ y)) ≡ ended_if t b lines ++ ended (begun_if t b lines begins ++ y)
unfolding ended
two_if b true e lines begins y = refl
two_if b false e [] begins y = ap (λ (t : Bool). ended_if t b (ended (begins ++ y))) (sym e)
two_if b false e (line ∷ lines) begins y = refl

pub ended_two : (x y : List ℕ) → ended (x ++ y) ≡ ended x ++ ended (begun x ++ y)
unfolding ended begun
ended_two [] y = refl
ended_two (b ∷ x) y = ap (ended_if (is_feed b) b) (ended_two x y) ∙ two_if b (is_feed b) refl (ended x) (begun x) y

begun_if_lem : (b : ℕ) (t : Bool) → is_feed b ≡ t → (lines : List (List ℕ)) (begins y : List ℕ)
    → begun_if t b (lines ++ ended (begins ++ y)) (begun (begins ++ y)) ≡ begun (begun_if t b lines begins ++ y)
unfolding begun
begun_if_lem b true e lines begins y = refl
begun_if_lem b false e [] begins y = ap (λ (t : Bool). begun_if t b (ended (begins ++ y)) (begun (begins ++ y))) (sym e)
begun_if_lem b false e (line ∷ lines) begins y = refl

pub begun_two : (x y : List ℕ) → begun (x ++ y) ≡ begun (begun x ++ y)
unfolding ended begun
begun_two [] y = refl
begun_two (b ∷ x) y =
    (λ i. begun_if (is_feed b) b (ended_two x y i) (begun_two x y i)) ∙ begun_if_lem b (is_feed b) refl (ended x) (begun x) y

pub lines_two : (x y : List ℕ) → lines_of (x ++ y) ≡ ended x ++ lines_of (begun x ++ y)
lines_two x y =
    whole (x ++ y)
    ∙ (λ i. ended_two x y i ++ last_line (begun_two x y i))
    ∙ append_assoc (ended x) (ended (begun x ++ y)) (last_line (begun (begun x ++ y)))
    ∙ ap (λ (l : List (List ℕ)). ended x ++ l) (sym (whole (begun x ++ y)))

-- ---- the beginning of a line: a text in which no line ends

-- such a text, and more behind it
abbrev pub joined : List ℕ → List (List ℕ) → List (List ℕ)
joined k [] = []
joined k (line ∷ lines) = (k ++ line) ∷ lines

abbrev pub begun_after : List ℕ → List (List ℕ) → List ℕ → List ℕ
begun_after k [] begins = k ++ begins
begun_after k (line ∷ lines) begins = begins

-- it begins so with each of its bytes
record Unended (b : ℕ) (k : List ℕ) : Type 0 where
  none_here : is_feed b ≡ false
  none_behind : ended k ≡ []

unended_if : (b : ℕ) (k : List ℕ) (t : Bool) (lines : List (List ℕ)) → is_feed b ≡ t → ended k ≡ lines → ended_if t b lines ≡ [] → Unended b k
unended_if b k true lines p q e = let z : ◌≡◌ {A = ℕ} 0 1 = cc in absurd (omega arith)
unended_if b k false [] p q e = record { none_here = p; none_behind = q }
unended_if b k false (line ∷ lines) p q e = let z : ◌≡◌ {A = ℕ} 0 1 = cc in absurd (omega arith)

unended : (b : ℕ) (k : List ℕ) → ended (b ∷ k) ≡ [] → Unended b k
unfolding ended
unended b k e = unended_if b k (is_feed b) (ended k) refl refl e

joined_none : (lines : List (List ℕ)) → lines ≡ joined [] lines
joined_none [] = refl
joined_none (line ∷ lines) = refl

joined_more : (b : ℕ) (k : List ℕ) (lines : List (List ℕ)) → ended_if false b (joined k lines) ≡ joined (b ∷ k) lines
joined_more b k [] = refl
joined_more b k (line ∷ lines) = refl

pub ended_after : (k y : List ℕ) → ended k ≡ [] → ended (k ++ y) ≡ joined k (ended y)
unfolding ended
ended_after [] y e = joined_none (ended y)
ended_after (b ∷ k) y e =
    let u = unended b k e in
    (λ i. ended_if (u.none_here i) b (ended_after k y u.none_behind i)) ∙ joined_more b k (ended y)

begun_none : (lines : List (List ℕ)) (begins : List ℕ) → begins ≡ begun_after [] lines begins
begun_none [] begins = refl
begun_none (line ∷ lines) begins = refl

begun_more : (b : ℕ) (k : List ℕ) (lines : List (List ℕ)) (begins : List ℕ) → begun_if false b (joined k lines) (begun_after k lines begins) ≡ begun_after (b ∷ k) lines begins
begun_more b k [] begins = refl
begun_more b k (line ∷ lines) begins = refl

pub begun_after_lem : (k y : List ℕ) → ended k ≡ [] → begun (k ++ y) ≡ begun_after k (ended y) (begun y)
unfolding begun
begun_after_lem [] y e = begun_none (ended y) (begun y)
begun_after_lem (b ∷ k) y e =
    let u = unended b k e in
    (λ i. begun_if (u.none_here i) b (ended_after k y u.none_behind i) (begun_after_lem k y u.none_behind i)) ∙ begun_more b k (ended y) (begun y)

-- what stands behind the last line feed is one
unended_begun_if : (b : ℕ) (t : Bool) → is_feed b ≡ t → (lines : List (List ℕ)) (begins : List ℕ) → ended begins ≡ [] → ended (begun_if t b lines begins) ≡ []
unfolding ended
unended_begun_if b true e lines begins h = h
unended_begun_if b false e [] begins h = λ i. ended_if (e i) b (h i)
unended_begun_if b false e (line ∷ lines) begins h = h

pub ended_begun : (x : List ℕ) → ended (begun x) ≡ []
unfolding ended begun
ended_begun [] = refl
ended_begun (b ∷ x) = unended_begun_if b (is_feed b) refl (ended x) (begun x) (ended_begun x)

pub ended_take : (n : ℕ) (k : List ℕ) → ended k ≡ [] → ended (take n k) ≡ []
unfolding ended
ended_take zero k e = refl
ended_take (suc n) [] e = refl
ended_take (suc n) (b ∷ k) e = let u = unended b k e in λ i. ended_if (u.none_here i) b (ended_take n k u.none_behind i)

-- ---- only so much of a line is kept

take_again : (n : ℕ) (k l : List ℕ) → take n (take n k ++ l) ≡ take n (k ++ l)
take_again zero k l = refl
take_again (suc n) [] l = refl
take_again (suc n) (b ∷ k) l = ap (λ (t : List ℕ). b ∷ t) (take_again n k l)

pub cut_again : (k l : List ℕ) → cut (cut k ++ l) ≡ cut (k ++ l)
cut_again k l = take_again kept_characters k l

pub cut_cut : (k : List ℕ) → cut (cut k) ≡ cut k
cut_cut k = ap cut (sym (append-nil (cut k))) ∙ cut_again k [] ∙ ap cut (append-nil k)

joined_cut : (k : List ℕ) (lines : List (List ℕ)) → map cut (joined (cut k) lines) ≡ map cut (joined k lines)
joined_cut k [] = refl
joined_cut k (line ∷ lines) = ap (λ (l : List ℕ). l ∷ map cut lines) (cut_again k line)

begun_cut : (k : List ℕ) (lines : List (List ℕ)) (begins : List ℕ) → cut (begun_after (cut k) lines begins) ≡ cut (begun_after k lines begins)
begun_cut k [] begins = cut_again k begins
begun_cut k (line ∷ lines) begins = refl

pub last_cut : (k : List ℕ) → map cut (last_line (cut k)) ≡ map cut (last_line k)
last_cut [] = refl
last_cut (b ∷ k) = ap (λ (l : List ℕ). l ∷ []) (cut_cut (b ∷ k))

-- ---- all pieces

pub begun_all : (k : List ℕ) → ended k ≡ [] → begun k ≡ k
unfolding ended begun
begun_all k e = ap begun (sym (append-nil k)) ∙ begun_after_lem k [] e ∙ append-nil k

module _ (k piece : List ℕ) (e : ended k ≡ []) where
  pub ended_cut : map cut (ended (cut k ++ piece)) ≡ map cut (ended (k ++ piece))
  ended_cut =
      ap (map cut) (ended_after (cut k) piece (ended_take kept_characters k e))
      ∙ joined_cut k (ended piece)
      ∙ ap (map cut) (sym (ended_after k piece e))

  pub begins_cut : cut (begun (cut k ++ piece)) ≡ cut (begun (k ++ piece))
  begins_cut =
      ap cut (begun_after_lem (cut k) piece (ended_take kept_characters k e))
      ∙ begun_cut k (ended piece) (begun piece)
      ∙ ap cut (sym (begun_after_lem k piece e))

-- a text in two parts, where what the first has begun is kept
pub kept_two : (k x y : List ℕ) → cut (begun (k ++ (x ++ y))) ≡ cut (begun (cut (begun (k ++ x)) ++ y))
kept_two k x y =
    ap (λ (l : List ℕ). cut (begun l)) (sym (append_assoc k x y))
    ∙ ap cut (begun_two (k ++ x) y)
    ∙ sym (begins_cut (begun (k ++ x)) y (ended_begun (k ++ x)))

kept_lines : (k : List ℕ) → ended k ≡ [] → (pieces : List (List ℕ)) → map cut (handed_on (cut k) pieces) ≡ map cut (lines_of (k ++ flatten pieces))
unfolding handed_on flatten
kept_lines k e [] =
    last_cut k
    ∙ ap (map cut)
    (ap last_line (sym (begun_all k e))
    ∙ ap (λ (lines : List (List ℕ)). lines ++ last_line (begun k)) (sym e)
    ∙ sym (whole k)
    ∙ ap lines_of (sym (append-nil k)))
kept_lines k e (piece ∷ pieces) =
    let b = begun (k ++ piece) in
    let rest = flatten pieces in
    map-append cut (ended (cut k ++ piece)) (handed_on (cut (begun (cut k ++ piece))) pieces)
    ∙ (λ i. ended_cut k piece e i ++ map cut (handed_on (begins_cut k piece e i) pieces))
    ∙ ap (λ (lines : List (List ℕ)). map cut (ended (k ++ piece)) ++ lines) (kept_lines b (ended_begun (k ++ piece)) pieces)
    ∙ sym (map-append cut (ended (k ++ piece)) (lines_of (b ++ rest)))
    ∙ ap (map cut) (sym (lines_two (k ++ piece) rest) ∙ ap lines_of (append_assoc k piece rest))

-- THE CLAIM: pieces of any number and size hand on the lines of the whole, each as far as it is kept
pub pieces_hand_on : (pieces : List (List ℕ)) → map cut (handed_on [] pieces) ≡ map cut (lines_of (flatten pieces))
unfolding ended
pieces_hand_on pieces = kept_lines [] refl pieces

-- so whoever reads no more of a line than is kept reads the same
module _ {A : Type 0} (f : List ℕ → A) (alike : (line : List ℕ) → f (cut line) ≡ f line) where
  map_alike : (lines : List (List ℕ)) → map f (map cut lines) ≡ map f lines
  map_alike [] = refl
  map_alike (line ∷ lines) = λ i. alike line i ∷ map_alike lines i

  pub pieces_read : (pieces : List (List ℕ)) → map f (handed_on [] pieces) ≡ map f (lines_of (flatten pieces))
  pieces_read pieces = sym (map_alike (handed_on [] pieces)) ∙ ap (map f) (pieces_hand_on pieces) ∙ map_alike (lines_of (flatten pieces))
