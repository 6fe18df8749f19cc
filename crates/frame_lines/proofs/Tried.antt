-- What `respell` answers, way by way. Assumes nothing.
use mathlib.Core.Path.{◌≡◌, refl, sym, ap, ◌∙◌}
use mathlib.Core.Bool.{Bool, true, false}
use mathlib.Core.List.{List, [], ◌∷◌, map}
use Prim.Native.Nat.{ℕ, zero, suc, ◌≤◌, ◌<◌}
use native.Mathlib.Omega.{arith}
use lib.Dec.{leb, ltb, eqb}
use lib.ListN.{length, take, drop, length-append, length-map}
use lib.Seq.{length-take-le, take-append-le}
use borrow.Author.Tests.{le-leb, lt-leb, lt-ltb, le-ltb}
use Rattle.std.specs.Prelude.{Result, Ok, Err, None, Some}
use Rattle.frame_lines.specs.declared.spelling.Unspelled.{Unspelled}
use Rattle.frame_lines.specs.declared.spelling.Unspelled.TheVariants.{Malformed, NoRoom}
use Rattle.frame_lines.specs.declared.spelling.Walked.{Walked}
use Rattle.frame_lines.specs.Line.{is_well_formed, Fields, fields_of}
use Rattle.frame_lines.specs.Answer.{laid}
use Rattle.frame_lines.specs.Forgiven.{lowered, fields_in, forgiven, lenient_meaning}
use Rattle.frame_lines.specs.Spelling.{spelling}
use Rattle.frame_lines.specs.Walk.{closed, walked_text, WalkedAs, length_if, forgiven_length, taken_if, respelled_if, tried_if, RespelledAs}
use Rattle.frame_lines.proofs.Readers.{short_lenient, meant, unmeant}
use Rattle.frame_lines.proofs.InOrder.{own_spelling}
use Rattle.frame_lines.proofs.Walking.{opened}

-- ---- a line that is not tried

-- nothing is put
module _ (line before : List ℕ) (s r : Bool) (p : leb (length line) 2000 ≡ s) (q : ltb (length line) (length before) ≡ r) where
  untried : (a : Result ℕ Unspelled) → a ≡ respelled_if s r line → tried_if s r line ≡ [] → ((n : ℕ) → a ≡ Ok n → ⊥) → RespelledAs line before before a
  untried a e t apart = record {
    answer_is = e ∙ (λ i. respelled_if (sym p i) (sym q i) line);
    lent_is = ap (λ (x : List ℕ). laid x before) (sym t) ∙ (λ i. laid (tried_if (sym p i) (sym q i) line) before);
    spelled = λ f n m k. absurd (apart n k);
  }

err_apart : (u : Unspelled) (n : ℕ) → ◌≡◌ {A = Result ℕ Unspelled} (Err u) (Ok n) → ⊥
err_apart u n e = let z : ◌≡◌ {A = ℕ} 0 1 = cc in omega arith

module _ (line before : List ℕ) where
  pub too_long : 2000 < length line → RespelledAs line before before (Err Malformed)
  too_long h = untried line before false (ltb (length line) (length before)) (lt-leb (length line) 2000 h) refl (Err Malformed) refl refl (err_apart Malformed)

  pub no_room : length line ≤ 2000 → length before ≤ length line → RespelledAs line before before (Err NoRoom)
  no_room h k = untried line before true false (le-leb (length line) 2000 h) (le-ltb (length line) (length before) k) (Err NoRoom) refl refl (err_apart NoRoom)

-- ---- a line that is tried

take_map : (f : ℕ → ℕ) (n : ℕ) (l : List ℕ) → take n (map f l) ≡ map f (take n l)
take_map f zero l = refl
take_map f (suc n) [] = refl
take_map f (suc n) (c ∷ l) = ap (λ (t : List ℕ). f c ∷ t) (take_map f n l)

length_most : (t : Bool) (n : ℕ) → length_if t n ≤ n
length_most true n = omega arith
length_most false n = omega arith

module _ (line before after : List ℕ) (r : Walked) (w : WalkedAs line before after r) (n : ℕ) (e : n ≡ forgiven_length r.count r.length) where
  abbrev fields : List (List ℕ)
  fields = fields_in line

  abbrev text : List ℕ
  text = walked_text line

  n_is : n ≡ forgiven_length (length fields) (length (closed fields))
  n_is = e ∙ (λ i. forgiven_length (w.count_is i) ((w.length_is ∙ length-map (closed fields) lowered) i))

  n_most : n ≤ length text
  n_most = omega (arith, e, w.length_is, length_most (eqb r.count 3) r.length)

  pub first_is : take n after ≡ forgiven line
  unfolding forgiven
  first_is =
      ap (take n) w.out_is
      ∙ take-append-le n text (drop (length text) before) n_most
      ∙ take_map lowered n (closed fields)
      ∙ ap (λ (k : ℕ). map lowered (take k (closed fields))) n_is
      ∙ ap (map lowered) (opened fields)

  pub n_within : n ≤ length after
  n_within = omega (arith, n_most, ap length w.out_is, length-append text (drop (length text) before))

  n_length : n ≡ length (forgiven line)
  n_length = sym (length-take-le n after n_within) ∙ ap length first_is

  module _ (short : length line ≤ 2000) (room : length line < length before) where
    -- by what the reader says
    tried : (a : Result ℕ Unspelled) → a ≡ taken_if (lenient_meaning line) → ((f : Fields) (m : ℕ) → lenient_meaning line ≡ Some f → a ≡ Ok m → take m after ≡ spelling f) → RespelledAs line before after a
    tried a q s =
        let long = le-leb (length line) 2000 short in
        let wide = lt-ltb (length line) (length before) room in
        record {
          answer_is = q ∙ (λ i. respelled_if (sym long i) (sym wide i) line);
          lent_is = w.out_is ∙ (λ i. laid (tried_if (sym long i) (sym wide i) line) before);
          spelled = s;
        }

    pub taken : is_well_formed (take n after) ≡ true → RespelledAs line before after (Ok n)
    taken good =
        let x = forgiven line in
        let well : is_well_formed x ≡ true = ap is_well_formed (sym first_is) ∙ good in
        let means : lenient_meaning line ≡ Some (fields_of x) = short_lenient line short ∙ meant x well in
        let spells : x ≡ spelling (fields_of x) = sym (own_spelling x well) in
        tried (Ok n) (ap Ok (n_length ∙ ap length spells) ∙ ap taken_if (sym means)) (λ f m p q.
        let same : n ≡ m = cc in
        let some_is : Some (fields_of x) ≡ Some f = sym means ∙ p in
        let meant_is : fields_of x ≡ f = cc in
        ap (λ (k : ℕ). take k after) (sym same) ∙ first_is ∙ spells ∙ ap spelling meant_is)

    pub refused : is_well_formed (take n after) ≡ false → RespelledAs line before after (Err Malformed)
    refused bad =
        let x = forgiven line in
        let none_is : lenient_meaning line ≡ None = short_lenient line short ∙ unmeant x (ap is_well_formed (sym first_is) ∙ bad) in
        tried (Err Malformed) (ap taken_if (sym none_is)) (λ f m p q. absurd (err_apart Malformed m q))
