-- When two steps of a clipping leave a channel in the same state: exactly if they leave its volumes the same; and then so does every step between them. Assumes nothing.
use mathlib.Core.Path.{◌≡◌, refl, sym, ap, ap₂, ◌∙◌}
use mathlib.Core.Logic.{◌↔◌}
use mathlib.Core.Bool.{Bool, true, false, ◌&&◌}
use Prim.Native.Nat.{ℕ, ◌-◌, ◌≤◌, min, max}
use native.Mathlib.Omega.{arith}
use lib.Dec.{leb, eqb}
use borrow.Author.Tests.{eqb-true, eq-eqb}
use Rattle.mono_input_volume_controller.specs.declared.mono.MonoInputVolumeController.{MonoInputVolumeController}
use Rattle.mono_input_volume_controller.specs.MonoState.{volumes, counts}
use Rattle.mono_input_volume_controller.specs.Mono.{is_users, unless_same, unless_users, unless_muted, with_input_volume, lowered, lower_ceiling, unless_at_floor, handled_clipping}
use Rattle.mono_input_volume_controller.specs.SameVolumes.{same_volumes}
use Rattle.mono_input_volume_controller.proofs.Settings.{both_true}

-- ---- what a clipping does, by its three tests (the last volume at the floor, a volume of 0, a user's volume), from the lowered ceiling and the new volume

shape : Bool → Bool → Bool → ℕ → ℕ → MonoInputVolumeController → MonoInputVolumeController
shape true muted users ceiling new m = volumes ceiling m.last m.volume m
shape false true users ceiling new m = counts 0 0 false (volumes ceiling m.last m.volume m)
shape false false true ceiling new m = counts 0 0 false (volumes (max ceiling m.volume) m.volume m.volume m)
shape false false false ceiling new m = counts 0 0 false (unless_same (eqb new m.last) new (volumes ceiling m.last m.volume m))

module _ (m : MonoInputVolumeController) where
  abbrev ceiling_after : ℕ → ℕ
  ceiling_after step = lowered m step m.ceiling

  -- the volume after a step, held to the ceiling after it
  abbrev fallen : ℕ → ℕ
  fallen step = min (lowered m step m.last) (ceiling_after step)

  abbrev shaped : ℕ → ℕ → MonoInputVolumeController
  shaped ceiling new = shape (leb m.last m.floor) (eqb m.volume 0) (is_users m.last m.volume) ceiling new m

  module _ (step : ℕ) where
    users_shape : (users : Bool) → counts 0 0 false (unless_users users (fallen step) (lower_ceiling step m)) ≡ shape false false users (ceiling_after step) (fallen step) m
    unfolding shape
    users_shape true = refl
    users_shape false = refl

    muted_shape : (muted : Bool)
        → counts 0 0 false (unless_muted muted (fallen step) (lower_ceiling step m)) ≡ shape false muted (is_users m.last m.volume) (ceiling_after step) (fallen step) m
    unfolding shape
    muted_shape true = refl
    muted_shape false = users_shape (is_users m.last m.volume)

    floor_shape : (low : Bool)
        → unless_at_floor low (lowered m step m.last) (lower_ceiling step m) ≡ shape low (eqb m.volume 0) (is_users m.last m.volume) (ceiling_after step) (fallen step) m
    unfolding shape with_input_volume
    floor_shape true = refl
    floor_shape false = muted_shape (eqb m.volume 0)

    clipping_shape : handled_clipping step m ≡ shaped (ceiling_after step) (fallen step)
    unfolding handled_clipping
    clipping_shape = floor_shape (leb m.last m.floor)

-- ---- three volumes decide

new_volumes : (same : Bool) (ceiling new : ℕ) (m : MonoInputVolumeController)
    → let n = unless_same same new (volumes ceiling m.last m.volume m) in n ≡ volumes n.ceiling n.last n.volume m
new_volumes true ceiling new m = refl
new_volumes false ceiling new m = refl

same_shape : (a b c : Bool) (m : MonoInputVolumeController) (x s y t : ℕ) → let p = shape a b c x s m in let q = shape a b c y t m in p.ceiling ≡ q.ceiling → p.last ≡ q.last → p.volume ≡ q.volume → p ≡ q
unfolding shape
same_shape true b c m x s y t e f g = λ i. volumes (e i) m.last m.volume m
same_shape false true c m x s y t e f g = λ i. counts 0 0 false (volumes (e i) m.last m.volume m)
same_shape false false true m x s y t e f g = λ i. counts 0 0 false (volumes (e i) m.volume m.volume m)
same_shape false false false m x s y t e f g =
    ap (counts 0 0 false) (new_volumes (eqb s m.last) x s m)
    ∙ (λ i. counts 0 0 false (volumes (e i) (f i) (g i) m))
    ∙ sym (ap (counts 0 0 false) (new_volumes (eqb t m.last) y t m))

-- ---- between two steps that leave the same state, every step does

-- a larger step takes no volume higher
lowered_falls : (f v s t : ℕ) → s ≤ t → max f (v - t) ≤ max f (v - s)
lowered_falls f v s t h = omega arith

min_falls : (a b c d : ℕ) → a ≤ c → b ≤ d → min a b ≤ min c d
min_falls a b c d h k = omega arith

max_falls : (v a b : ℕ) → a ≤ b → max a v ≤ max b v
max_falls v a b h = omega arith

squeezed : (a b c : ℕ) → b ≤ a → c ≤ b → a ≡ c → b ≡ a
squeezed a b c h k e = omega arith

-- the new volume is the last one, whether it was that already or not
new_last : (same : Bool) (ceiling new : ℕ) (m : MonoInputVolumeController) → eqb new m.last ≡ same → (unless_same same new (volumes ceiling m.last m.volume m)).last ≡ new
new_last true ceiling new m e = sym (eqb-true new m.last e)
new_last false ceiling new m e = refl

between_shape : (a b c : Bool) (m : MonoInputVolumeController) (x s y t z u : ℕ) → y ≤ x → z ≤ y → t ≤ s → u ≤ t → shape a b c x s m ≡ shape a b c z u m → shape a b c y t m ≡ shape a b c x s m
unfolding shape
between_shape true b c m x s y t z u p q h k e = let d = squeezed x y z p q (ap (λ (n : MonoInputVolumeController). n.ceiling) e) in λ i. volumes (d i) m.last m.volume m
between_shape false true c m x s y t z u p q h k e =
    let d = squeezed x y z p q (ap (λ (n : MonoInputVolumeController). n.ceiling) e) in λ i. counts 0 0 false (volumes (d i) m.last m.volume m)
between_shape false false true m x s y t z u p q h k e =
    let d = squeezed _ _ _ (max_falls m.volume y x p) (max_falls m.volume z y q) (ap (λ (n : MonoInputVolumeController). n.ceiling) e) in
    λ i. counts 0 0 false (volumes (d i) m.volume m.volume m)
between_shape false false false m x s y t z u p q h k e =
    let d = squeezed x y z p q (sym (kept_ceiling (eqb s m.last) x s) ∙ ap (λ (n : MonoInputVolumeController). n.ceiling) e ∙ kept_ceiling (eqb u m.last) z u) in
    let n = squeezed s t u h k (sym (new_last (eqb s m.last) x s m refl) ∙ ap (λ (n : MonoInputVolumeController). n.last) e ∙ new_last (eqb u m.last) z u m refl) in
    λ i. counts 0 0 false (unless_same (eqb (n i) m.last) (n i) (volumes (d i) m.last m.volume m))
  where
    kept_ceiling : (same : Bool) (ceiling new : ℕ) → (unless_same same new (volumes ceiling m.last m.volume m)).ceiling ≡ ceiling
    kept_ceiling true ceiling new = refl
    kept_ceiling false ceiling new = refl

-- ---- THE LAWS

volumes_same : (a b : MonoInputVolumeController) → same_volumes a b ≡ true → (a.ceiling ≡ b.ceiling) × (a.last ≡ b.last) × (a.volume ≡ b.volume)
unfolding same_volumes
volumes_same a b e =
    let p = both_true (eqb a.ceiling b.ceiling) _ e in
    let q = both_true (eqb a.last b.last) _ p.1 in
    (eqb-true a.ceiling b.ceiling p.0, eqb-true a.last b.last q.0, eqb-true a.volume b.volume q.1)

same_volumes_lem : (a b : MonoInputVolumeController) → a ≡ b → same_volumes a b ≡ true
unfolding same_volumes
same_volumes_lem a b e =
    ap₂ ◌&&◌ (eq-eqb a.ceiling b.ceiling (ap (λ (n : MonoInputVolumeController). n.ceiling) e))
    (ap₂ ◌&&◌ (eq-eqb a.last b.last (ap (λ (n : MonoInputVolumeController). n.last) e)) (eq-eqb a.volume b.volume (ap (λ (n : MonoInputVolumeController). n.volume) e)))

module _ (m : MonoInputVolumeController) where
  -- THE STEPS BETWEEN
  pub between : (s t u : ℕ) → s ≤ t → t ≤ u → handled_clipping s m ≡ handled_clipping u m → handled_clipping t m ≡ handled_clipping s m
  between s t u p q e =
      clipping_shape m t
      ∙ between_shape (leb m.last m.floor) (eqb m.volume 0) (is_users m.last m.volume) m (ceiling_after m s) (fallen m s) (ceiling_after m t) (fallen m t) (ceiling_after m u) (fallen m u)
      (lowered_falls m.floor m.ceiling s t p) (lowered_falls m.floor m.ceiling t u q)
      (min_falls _ _ _ _ (lowered_falls m.floor m.last s t p) (lowered_falls m.floor m.ceiling s t p))
      (min_falls _ _ _ _ (lowered_falls m.floor m.last t u q) (lowered_falls m.floor m.ceiling t u q))
      (sym (clipping_shape m s) ∙ e ∙ clipping_shape m u)
      ∙ sym (clipping_shape m s)

  same_state : (s u : ℕ) → same_volumes (handled_clipping s m) (handled_clipping u m) ≡ true → handled_clipping s m ≡ handled_clipping u m
  same_state s u e =
      let x = clipping_shape m s in
      let y = clipping_shape m u in
      let v = volumes_same (handled_clipping s m) (handled_clipping u m) e in
      x
      ∙ same_shape (leb m.last m.floor) (eqb m.volume 0) (is_users m.last m.volume) m (ceiling_after m s) (fallen m s) (ceiling_after m u) (fallen m u)
      (ap (λ (n : MonoInputVolumeController). n.ceiling) (sym x) ∙ v.0 ∙ ap (λ (n : MonoInputVolumeController). n.ceiling) y)
      (ap (λ (n : MonoInputVolumeController). n.last) (sym x) ∙ v.1 ∙ ap (λ (n : MonoInputVolumeController). n.last) y)
      (ap (λ (n : MonoInputVolumeController). n.volume) (sym x) ∙ v.2 ∙ ap (λ (n : MonoInputVolumeController). n.volume) y)
      ∙ sym y

  -- THE TEST
  pub volumes_decide : (s u : ℕ) → (same_volumes (handled_clipping s m) (handled_clipping u m) ≡ true) ↔ (handled_clipping s m ≡ handled_clipping u m)
  volumes_decide s u = (same_state s u, same_volumes_lem (handled_clipping s m) (handled_clipping u m))
