-- The definitions of a channel's calls, one way through each at a time. Assumes nothing.
use mathlib.Core.Path.{◌≡◌, refl, ap, ◌∙◌}
use mathlib.Core.Bool.{Bool, true, false}
use Prim.Native.Nat.{ℕ, ◌+◌, ◌^◌, ◌≤◌, ◌<◌, min, max}
use native.Mathlib.Omega.{arith}
use lib.Dec.{T, le→leb}
use lib.IntN.{ℤ, pos, negsuc}
use lib.Ieee.{Float, binary32, le, div, of_int, in_float}
use mir.Syntax.{w32}
use mir.Val.{of_z, SFits}
use borrow.Author.Tests.{lt-ltb, le-ltb, le-leb, lt-leb, eq-eqb, ne_eqb}
use Rattle.std.specs.Prelude.{None, Option, Some}
use Rattle.gain_map.specs.VolumeUpdate.{walk}
use Rattle.mono_input_volume_controller.specs.declared.mono.MonoInputVolumeController.{MonoInputVolumeController}
use Rattle.mono_input_volume_controller.specs.MonoState.{max_input_volume, max_wait, volumes, flags, counts}
use Rattle.mono_input_volume_controller.specs.Mono.{check_asked, handled_capture_output_used_change, is_users, taken_from_user, with_input_volume, lowered, handled_clipping}
use Rattle.mono_input_volume_controller.specs.MonoProcess.{stays_muted, checked_volume_and_reset, held_error, is_zero, updated_input_volume, settled, speech_frames, may_act, corrected, waited, counted, not_first, processed}

-- ---- the error held

-- the bits are 0 exactly at the number 0
pub zero_bits : (z : ℤ) → SFits w32 z → of_z w32 z ≡ 0 → is_zero z ≡ true
zero_bits (pos n) f e = eq-eqb n 0 e
zero_bits (negsuc n) f e = let h = f.sfits in absurd (omega arith)

pub other_bits : (z : ℤ) → (of_z w32 z ≡ 0 → ⊥) → is_zero z ≡ false
other_bits (pos n) e = ne_eqb n 0 e
other_bits (negsuc n) e = refl

-- a count up to the longest wait is a whole number that an `f32` holds
pub count_held : (n : ℕ) → n ≤ max_wait → T (in_float binary32 (pos n))
unfolding in_float
count_held n h = le→leb n (2 ^ 24) (omega arith)

-- ---- the calls

module _ (m : MonoInputVolumeController) where
  pub switched : (on p : Bool) → p ≡ check_asked m.check m.used on → flags on p m.startup m ≡ handled_capture_output_used_change on m
  unfolding handled_capture_output_used_change
  switched on p e = ap (λ (k : Bool). flags on k m.startup m) e

  -- a new volume
  module _ (v : ℕ) where
    pub set_muted : m.volume ≡ 0 → m ≡ with_input_volume v m
    unfolding with_input_volume
    set_muted a = rw a

    module _ (a : m.volume ≡ 0 → ⊥) where
      pub set_users : is_users m.last m.volume ≡ true → taken_from_user m ≡ with_input_volume v m
      unfolding with_input_volume
      set_users b = rw (ne_eqb m.volume 0 a, b)

      module _ (b : is_users m.last m.volume ≡ false) (n : ℕ) (e : n ≡ min v m.ceiling) where
        pub set_same : n ≡ m.last → m ≡ with_input_volume v m
        unfolding with_input_volume
        set_same q = rw (ne_eqb m.volume 0 a, b, ← e, eq-eqb n m.last q)

        pub set_new : (n ≡ m.last → ⊥) → volumes m.ceiling n n m ≡ with_input_volume v m
        unfolding with_input_volume
        set_new q = rw (ne_eqb m.volume 0 a, b, ← e, ne_eqb n m.last q)

  -- clipping
  module _ (step top : ℕ) (e : top ≡ lowered m step m.ceiling) where
    pub clip_ceiling : m.last ≤ m.floor → volumes top m.last m.volume m ≡ handled_clipping step m
    unfolding handled_clipping
    clip_ceiling h = rw (e, le-leb m.last m.floor h)

    pub clip_volume : m.floor < m.last → (v : ℕ) (r : MonoInputVolumeController) → v ≡ lowered m step m.last → r ≡ with_input_volume v (volumes top m.last m.volume m)
        → counts 0 0 false r ≡ handled_clipping step m
    unfolding handled_clipping
    clip_volume h v r p q = rw (lt-leb m.last m.floor h) (ap (counts 0 0 false) (q ∙ (λ i. with_input_volume (p i) (volumes (e i) m.last m.volume m))))

  -- the check
  pub check_muted : stays_muted m.startup m.volume ≡ true → m ≡ checked_volume_and_reset m
  unfolding checked_volume_and_reset
  check_muted a = rw a

  pub check_done : stays_muted m.startup m.volume ≡ false → (v : ℕ) → v ≡ max m.volume m.least
      → counts 0 0 true (flags m.used m.check false (volumes m.ceiling v v m)) ≡ checked_volume_and_reset m
  unfolding checked_volume_and_reset
  check_done a v e = rw (e, a)

  pub settle_check : m.check ≡ true → checked_volume_and_reset (flags m.used false m.startup m) ≡ settled m
  unfolding settled
  settle_check a = rw a

  pub settle_none : m.check ≡ false → m ≡ settled m
  unfolding settled
  settle_none a = rw a

  -- the error acts
  module _ (e h : ℤ) (p : h ≡ held_error e) where
    pub update_none : is_zero h ≡ true → m ≡ updated_input_volume e m
    unfolding updated_input_volume
    update_none z = rw (← p, z)

    pub update_walk : (v : ℕ) → is_zero h ≡ false → v ≡ walk h m.last m.least max_input_volume → with_input_volume v m ≡ updated_input_volume e m
    unfolding updated_input_volume
    update_walk v z q = rw (← p, z, ← q)

  module _ (error : Option ℤ) where
    pub correct_none : error ≡ None → m ≡ corrected error m
    unfolding corrected
    correct_none e = rw e

    pub correct_by : (z : ℤ) → error ≡ Some z → updated_input_volume z m ≡ corrected error m
    unfolding corrected
    correct_by z e = rw e

    pub waited_act : (t : Bool) → t ≡ true → corrected error m ≡ waited t error m
    unfolding waited
    waited_act t a = rw a

    pub waited_none : (t : Bool) → t ≡ false → m ≡ waited t error m
    unfolding waited
    waited_none t a = rw a

    module _ (speech : ℕ) where
      pub count_early : m.frames + 1 < m.wait → counts (m.frames + 1) speech m.first m ≡ counted error speech m
      unfolding counted
      count_early h = rw (lt-ltb (m.frames + 1) m.wait h)

      pub count_end : m.wait ≤ m.frames + 1 → (t : Bool) → t ≡ may_act speech m → waited t error (counts 0 0 m.first m) ≡ counted error speech m
      unfolding counted
      count_end h t e = rw (le-ltb (m.frames + 1) m.wait h) (ap (λ (k : Bool). waited k error (counts 0 0 m.first m)) e)

  -- the counts of speech
  module _ (p : Float) where
    pub speech_more : le m.probability p ≡ true → m.speech + 1 ≡ speech_frames p m
    unfolding speech_frames
    speech_more a = rw a

    pub speech_same : le m.probability p ≡ false → m.speech ≡ speech_frames p m
    unfolding speech_frames
    speech_same a = rw a

  module _ (speech : ℕ) where
    pub act_first : m.first ≡ true → false ≡ may_act speech m
    unfolding may_act
    act_first a = rw a

    pub act_ratio : m.first ≡ false → le m.ratio (div binary32 (of_int binary32 (pos speech)) (of_int binary32 (pos m.wait))) ≡ may_act speech m
    unfolding may_act
    act_ratio a = rw a

-- a frame, from its three steps
pub process_is : (error : Option ℤ) (p : Float) (m a : MonoInputVolumeController) (s : ℕ) (n : MonoInputVolumeController) → a ≡ settled m → s ≡ speech_frames p a → n ≡ counted error s a
    → not_first n ≡ processed error p m
unfolding processed
process_is error p m a s n x y z = ap not_first (z ∙ ap (λ (k : ℕ). counted error k a) y ∙ ap (λ (k : MonoInputVolumeController). counted error (speech_frames p k) k) x)
