-- What the rings store after frames: the frames' records, newest first, before what was stored at the start, cut to the capacity or shorter. Assumes nothing.
use mathlib.Core.Path.{◌≡◌, refl, sym, ap, subst, ◌∙◌}
use mathlib.Core.Bool.{Bool, true, false}
use mathlib.Core.List.{List, [], ◌∷◌, ◌++◌, map}
use Prim.Native.Nat.{ℕ, zero, suc, ◌+◌, ◌≤◌, ◌<◌, min}
use native.Mathlib.Nat.{le_refl, le_trans, not-suc-le-zero, le_of_suc-le-suc}
use native.Mathlib.Decide.{dec_le}
use native.Mathlib.Omega.{arith}
use lib.Ieee.{Float}
use lib.ListN.{length, get_or, take, length-take, length-map, get_or-map}
use lib.Seq.{take-take, take_all, take-length, take-append-le}
use Rattle.numbers.proofs.Listed.{length_listed, get_d_listed}
use Rattle.clipping_predictor_level_buffer.specs.declared.level.Level.{Level}
use Rattle.clipping_predictor_level_buffer.specs.Level.{frame_record}
use Rattle.clipping_predictor_level_buffer.specs.Ring.{no_level, push}
use Rattle.clipping_predictor.specs.declared.settings.Settings.{Settings}
use Rattle.clipping_predictor.specs.Estimate.{capacity_if, capacity_of}
use Rattle.clipping_predictor.specs.Predictor.{Predictor, part_of, levels_of, push_each, entered_if, emptied}
use Rattle.claims.specs.Broken.{Frame, record_of, NewestOf}

-- ---- one ring

-- the ring is a first part of the new records with the old ones after them; from the first new one on, it is within the capacity
pub record Held (capacity : ℕ) (new old ring : List Level) : Type 0 where
  pub count : ℕ
  pub is : ring ≡ take count (new ++ old)
  pub few : 1 ≤ length new → count ≤ capacity

pub held_first : (capacity : ℕ) (old : List Level) → Held capacity [] old old
held_first capacity old = record { count = length old; is = sym (take-length old); few = λ h. absurd (not-suc-le-zero h) }

pub held_emptied : (capacity : ℕ) (new old : List Level) → Held capacity new old []
held_emptied capacity new old = record { count = 0; is = refl; few = λ h. omega arith }

twice : (a b : ℕ) (l : List Level) → take a (take b l) ≡ take (min a b) l
twice a b l =
    elim (dec_le a b) [
      | yes h ↦ (let e : a ≡ min a b = omega arith in take-take a b l h ∙ ap (λ (n : ℕ). take n l) e)
      | no h ↦ (let e : b ≡ min a b = omega arith in take_all a (take b l) (rw length-take (omega arith)) ∙ ap (λ (n : ℕ). take n l) e)
    ]

pub held_pushed : (capacity : ℕ) (level : Level) (new old ring : List Level) → Held capacity new old ring → Held capacity (level ∷ new) old (push capacity level ring)
held_pushed zero level new old ring h = record { count = 0; is = refl; few = λ k. le_refl 0 }
held_pushed (suc c) level new old ring h = record {
  count = suc (min c h.count);
  is = ap (λ (l : List Level). level ∷ l) (ap (take c) h.is ∙ twice c h.count (new ++ old));
  few = λ k. omega arith;
}

-- with as many new records as the ring has places, nothing else is left
pub held_alone : (capacity : ℕ) (new old ring : List Level) → 1 ≤ length new → capacity ≤ length new → Held capacity new old ring → NewestOf new ring
held_alone capacity new old ring one all h = record { count = h.count; is = h.is ∙ take-append-le h.count new old (le_trans (h.few one) all) }

-- ---- all rings

length_pushed : (capacity : ℕ) (levels : List Level) (rings : List (List Level)) → length (push_each capacity levels rings) ≡ length rings
unfolding push_each
length_pushed capacity levels [] = refl
length_pushed capacity [] (r ∷ rings) = refl
length_pushed capacity (l ∷ levels) (r ∷ rings) = ap suc (length_pushed capacity levels rings)

ring_pushed : (capacity : ℕ) (levels : List Level) (rings : List (List Level)) (channel : ℕ) → channel < length levels → channel < length rings
    → get_or (push_each capacity levels rings) channel [] ≡ push capacity (get_or levels channel no_level) (get_or rings channel [])
unfolding push_each
ring_pushed capacity levels [] channel h k = absurd (not-suc-le-zero k)
ring_pushed capacity [] (r ∷ rings) channel h k = absurd (not-suc-le-zero h)
ring_pushed capacity (l ∷ levels) (r ∷ rings) zero h k = refl
ring_pushed capacity (l ∷ levels) (r ∷ rings) (suc channel) h k = ring_pushed capacity levels rings channel (le_of_suc-le-suc h) (le_of_suc-le-suc k)

-- a predictor that began as one with these settings and rings, after these frames
pub record Stored (start : Predictor) (frames : List Frame) (p : Predictor) : Type 0 where
  pub settings : p.settings ≡ start.settings
  pub rings : length p.rings ≡ length start.rings
  pub each : (channel : ℕ) → channel < length start.rings
      → Held (capacity_of start.settings) (map (record_of channel) frames) (get_or start.rings channel []) (get_or p.rings channel [])

pub stored_first : (start : Predictor) → Stored start [] start
stored_first start = record { settings = refl; rings = refl; each = λ channel h. held_first (capacity_of start.settings) (get_or start.rings channel []) }

abbrev empty_ring : List Level → List Level
empty_ring r = []

pub stored_emptied : (start : Predictor) (frames : List Frame) (p : Predictor) → Stored start frames p → Stored start frames (emptied p)
stored_emptied start frames p h = record {
  settings = h.settings;
  rings = length-map p.rings empty_ring ∙ h.rings;
  each = λ channel k. rw (get_or-map empty_ring p.rings channel []) (held_emptied _ _ _);
}

-- the record of a channel is the one that a frame yields for it
ring_entered : (p : Predictor) (samples : ℕ) (lent : List Float) (channel : ℕ) → channel < length p.rings
    → get_or (entered_if true samples lent p).rings channel [] ≡ push (capacity_of p.settings) (frame_record (part_of samples lent channel)) (get_or p.rings channel [])
ring_entered p samples lent channel h =
    let level : ℕ → Level = λ c. frame_record (part_of samples lent c) in
    ring_pushed (capacity_of p.settings) (levels_of (length p.rings) samples lent) p.rings channel (rw length_listed h) h
    ∙ ap (λ (l : Level). push (capacity_of p.settings) l (get_or p.rings channel [])) (get_d_listed level (length p.rings) channel no_level h)

pub stored_entered : (start : Predictor) (frames : List Frame) (p : Predictor) (samples : ℕ) (lent : List Float) → Stored start frames p
    → Stored start (record { samples = samples; lent = lent } ∷ frames) (entered_if true samples lent p)
stored_entered start frames p samples lent h = record {
  settings = h.settings;
  rings = length_pushed (capacity_of p.settings) (levels_of (length p.rings) samples lent) p.rings ∙ h.rings;
  each = λ channel k.
      subst (Held (capacity_of start.settings) _ _)
      (sym (ring_entered p samples lent channel (omega (arith, h.rings)) ∙ ap (λ (s : Settings). push (capacity_of s) (frame_record (part_of samples lent channel)) (get_or p.rings channel [])) h.settings))
      (held_pushed (capacity_of start.settings) (frame_record (part_of samples lent channel)) _ _ _ (h.each channel k));
}

-- THE END: with delay + reference frames, and at least one, each ring stores records of these frames alone
capacity_most : (on : Bool) (n : ℕ) → capacity_if on n ≤ n
capacity_most true n = le_refl n
capacity_most false n = omega arith

pub stored_alone : (start : Predictor) (frames : List Frame) (p : Predictor) → 1 ≤ start.settings.reference → start.settings.delay + start.settings.reference ≤ length frames → Stored start frames p
    → (channel : ℕ) → channel < length p.rings → NewestOf (map (record_of channel) frames) (get_or p.rings channel [])
stored_alone start frames p one all h channel k =
    let n : length (map (record_of channel) frames) ≡ length frames = length-map frames (record_of channel) in
    held_alone (capacity_of start.settings) (map (record_of channel) frames) (get_or start.rings channel []) (get_or p.rings channel [])
    (omega (arith, n)) (omega (arith, n, capacity_most start.settings.enabled (start.settings.delay + start.settings.reference))) (h.each channel (omega (arith, h.rings)))
