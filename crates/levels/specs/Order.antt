-- The laws of the order of levels, and that its two comparisons are `less` and `at_most`. They stand here since an `impl` cites what stands in specs. Assumes nothing.
use Rattle.std.specs.Prelude.{◌≡◌, Bool, true, false, cond, Option, None, Some, ℤ, pos, negsuc, refl}
use Rattle.std.specs.Int.Signed.{le_z}
use Rattle.std.proofs.Common.{sym, ◌∙◌, ap, arith}
use Rattle.std.proofs.lemmas.Bool.Decides.{nat_tests}
use Rattle.std.specs.Bool.{Decides}
use Rattle.std.specs.declared.cmp.Ordering.{Ordering}
use Rattle.std.specs.declared.cmp.Ordering.TheVariants.{Less, Equal, Greater}
use Rattle.std.specs.Option.{option_map}
use Rattle.std.specs.Ordering.{ordering_reverse, is_lt, is_le, is_eq, is_some_and, int_cmp, partial_lt, partial_le}
use Rattle.std.specs.Cmp.{IsPartialEquivalence, IsPartialOrder, int_cmp_total, signed_Decides}
use Rattle.levels.specs.declared.decibels.Decibels.{Decibels}
use Rattle.levels.specs.declared.decibels.Decibels.TheVariants.{Finite, PlusInfinity, MinusInfinity, NotANumber}
use Rattle.levels.specs.Decibels.{less, at_most, compared, equal}

-- ---- two finite levels stand as their numbers do

pub finite_by : (x y : ℤ) → compared (Finite x) (Finite y) ≡ Some (int_cmp x y)
unfolding compared less at_most
finite_by (pos a) (pos b) = grind (arith, nat_tests)
finite_by (pos a) (negsuc b) = refl
finite_by (negsuc a) (pos b) = refl
finite_by (negsuc a) (negsuc b) = grind (arith, nat_tests)

-- ---- the two comparisons

below_tests : (a b c : Bool) → is_some_and is_lt (cond a (Some Less) (cond b (Some Greater) (cond c (Some Equal) None))) ≡ a
below_tests true b c = refl
below_tests false true c = refl
below_tests false false true = refl
below_tests false false false = refl

pub less_by : (x y : Decibels) → partial_lt compared x y ≡ less x y
unfolding compared
less_by x y = below_tests (less x y) (less y x) (at_most x y)

finite_at_most : (x y : ℤ) → is_le (int_cmp x y) ≡ le_z x y
finite_at_most (pos a) (pos b) = grind (arith, nat_tests)
finite_at_most (pos a) (negsuc b) = refl
finite_at_most (negsuc a) (pos b) = refl
finite_at_most (negsuc a) (negsuc b) = grind (arith, nat_tests)

pub at_most_by : (x y : Decibels) → partial_le compared x y ≡ at_most x y
unfolding compared less at_most
at_most_by (Finite x) (Finite y) = ap (is_some_and is_le) (finite_by x y) ∙ finite_at_most x y
at_most_by (Finite x) PlusInfinity = refl
at_most_by (Finite x) MinusInfinity = refl
at_most_by (Finite x) NotANumber = refl
at_most_by PlusInfinity (Finite y) = refl
at_most_by PlusInfinity PlusInfinity = refl
at_most_by PlusInfinity MinusInfinity = refl
at_most_by PlusInfinity NotANumber = refl
at_most_by MinusInfinity (Finite y) = refl
at_most_by MinusInfinity PlusInfinity = refl
at_most_by MinusInfinity MinusInfinity = refl
at_most_by MinusInfinity NotANumber = refl
at_most_by NotANumber (Finite y) = refl
at_most_by NotANumber PlusInfinity = refl
at_most_by NotANumber MinusInfinity = refl
at_most_by NotANumber NotANumber = refl

-- ---- the laws

inside : (r s : Ordering) → Some r ≡ Some s → r ≡ s
inside r s e = cc

turned : (x y : Decibels) → compared x y ≡ option_map ordering_reverse (compared y x)
unfolding compared less at_most
turned (Finite x) (Finite y) = finite_by x y ∙ ap Some (int_cmp_total.antisymm x y) ∙ sym (ap (option_map ordering_reverse) (finite_by y x))
turned (Finite x) PlusInfinity = refl
turned (Finite x) MinusInfinity = refl
turned (Finite x) NotANumber = refl
turned PlusInfinity (Finite y) = refl
turned PlusInfinity PlusInfinity = refl
turned PlusInfinity MinusInfinity = refl
turned PlusInfinity NotANumber = refl
turned MinusInfinity (Finite y) = refl
turned MinusInfinity PlusInfinity = refl
turned MinusInfinity MinusInfinity = refl
turned MinusInfinity NotANumber = refl
turned NotANumber (Finite y) = refl
turned NotANumber PlusInfinity = refl
turned NotANumber MinusInfinity = refl
turned NotANumber NotANumber = refl

chained : (x y z : Decibels) → compared x y ≡ Some Less → compared y z ≡ Some Less → compared x z ≡ Some Less
unfolding compared less at_most
chained (Finite x) (Finite y) (Finite z) h k = finite_by x z ∙ ap Some (int_cmp_total.trans x y z (inside _ _ (sym (finite_by x y) ∙ h)) (inside _ _ (sym (finite_by y z) ∙ k)))
chained (Finite x) (Finite y) PlusInfinity h k = refl
chained (Finite x) (Finite y) MinusInfinity h k = cc
chained (Finite x) (Finite y) NotANumber h k = cc
chained (Finite x) PlusInfinity (Finite z) h k = cc
chained (Finite x) PlusInfinity PlusInfinity h k = refl
chained (Finite x) PlusInfinity MinusInfinity h k = cc
chained (Finite x) PlusInfinity NotANumber h k = cc
chained (Finite x) MinusInfinity z h k = cc
chained (Finite x) NotANumber z h k = cc
chained PlusInfinity (Finite y) z h k = cc
chained PlusInfinity PlusInfinity z h k = cc
chained PlusInfinity MinusInfinity z h k = cc
chained PlusInfinity NotANumber z h k = cc
chained MinusInfinity (Finite y) (Finite z) h k = refl
chained MinusInfinity (Finite y) PlusInfinity h k = refl
chained MinusInfinity (Finite y) MinusInfinity h k = cc
chained MinusInfinity (Finite y) NotANumber h k = cc
chained MinusInfinity PlusInfinity (Finite z) h k = refl
chained MinusInfinity PlusInfinity PlusInfinity h k = refl
chained MinusInfinity PlusInfinity MinusInfinity h k = cc
chained MinusInfinity PlusInfinity NotANumber h k = cc
chained MinusInfinity MinusInfinity z h k = cc
chained MinusInfinity NotANumber z h k = cc
chained NotANumber (Finite y) z h k = cc
chained NotANumber PlusInfinity z h k = cc
chained NotANumber MinusInfinity z h k = cc
chained NotANumber NotANumber z h k = cc

alike : (x y z : Decibels) → compared x y ≡ Some Equal → compared x z ≡ compared y z
unfolding compared less at_most
alike (Finite x) (Finite y) z h = ap (λ (w : ℤ). compared (Finite w) z) ((signed_Decides x y).0 (ap is_eq (inside _ _ (sym (finite_by x y) ∙ h))))
alike (Finite x) PlusInfinity z h = cc
alike (Finite x) MinusInfinity z h = cc
alike (Finite x) NotANumber z h = cc
alike PlusInfinity (Finite y) z h = cc
alike PlusInfinity PlusInfinity z h = refl
alike PlusInfinity MinusInfinity z h = cc
alike PlusInfinity NotANumber z h = cc
alike MinusInfinity (Finite y) z h = cc
alike MinusInfinity PlusInfinity z h = cc
alike MinusInfinity MinusInfinity z h = refl
alike MinusInfinity NotANumber z h = cc
alike NotANumber (Finite y) z h = cc
alike NotANumber PlusInfinity z h = cc
alike NotANumber MinusInfinity z h = cc
alike NotANumber NotANumber z h = cc

equal_when : (o : Option Ordering) → Decides (is_some_and is_eq o) (o ≡ Some Equal)
equal_when None = (λ e. cc, λ e. cc)
equal_when (Some Less) = (λ e. cc, λ e. cc)
equal_when (Some Equal) = (λ e. refl, λ e. refl)
equal_when (Some Greater) = (λ e. cc, λ e. cc)

equal_turned : (o : Option Ordering) → is_some_and is_eq (option_map ordering_reverse o) ≡ is_some_and is_eq o
equal_turned None = refl
equal_turned (Some Less) = refl
equal_turned (Some Equal) = refl
equal_turned (Some Greater) = refl

equal_alike : (x y z : Decibels) → equal x y ≡ true → compared x z ≡ compared y z
unfolding equal
equal_alike x y z e = alike x y z ((equal_when (compared x y)).0 e)

pub equal_laws : IsPartialEquivalence equal
unfolding equal
equal_laws = record {
  symm = λ x y. ap (is_some_and is_eq) (turned x y) ∙ equal_turned (compared y x);
  trans = λ x y z e f. ap (is_some_and is_eq) (equal_alike x y z e) ∙ f;
}

pub order_laws : IsPartialOrder equal compared
unfolding equal
order_laws = record { antisymm = turned; trans = chained; matches_eq = λ x y. equal_when (compared x y); congr = equal_alike }
