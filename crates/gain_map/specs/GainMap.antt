-- Document 01, "Volume steps": the gain table has 256 whole dB values. From WebRTC's gain_map_internal.h. Definitions only.
use Rattle.std.specs.Prelude.{ℕ, List, [], ◌∷◌, ℤ, pos, negsuc, get_or}

-- `negsuc n` is -(n + 1)
unfoldable pub gain_map : List ℤ
gain_map =
    negsuc 55 ∷ negsuc 53 ∷ negsuc 51 ∷ negsuc 49 ∷ negsuc 47 ∷ negsuc 46 ∷ negsuc 44 ∷ negsuc 42 ∷ negsuc 41 ∷ negsuc 39 ∷ negsuc 37 ∷ negsuc 36 ∷
    negsuc 34 ∷ negsuc 33 ∷ negsuc 32 ∷ negsuc 30 ∷ negsuc 29 ∷ negsuc 28 ∷ negsuc 26 ∷ negsuc 25 ∷ negsuc 24 ∷ negsuc 23 ∷ negsuc 22 ∷ negsuc 21 ∷
    negsuc 19 ∷ negsuc 18 ∷ negsuc 17 ∷ negsuc 16 ∷ negsuc 15 ∷ negsuc 14 ∷ negsuc 13 ∷ negsuc 13 ∷ negsuc 12 ∷ negsuc 11 ∷ negsuc 10 ∷ negsuc 9 ∷
    negsuc 8 ∷ negsuc 7 ∷ negsuc 7 ∷ negsuc 6 ∷ negsuc 5 ∷ negsuc 4 ∷ negsuc 4 ∷ negsuc 3 ∷ negsuc 2 ∷ negsuc 1 ∷ negsuc 1 ∷ negsuc 0 ∷ pos 0 ∷
    pos 0 ∷ pos 1 ∷ pos 1 ∷ pos 2 ∷ pos 3 ∷ pos 3 ∷ pos 4 ∷ pos 4 ∷ pos 5 ∷ pos 5 ∷ pos 6 ∷ pos 6 ∷ pos 7 ∷ pos 7 ∷ pos 8 ∷ pos 8 ∷ pos 9 ∷ pos 9 ∷
    pos 10 ∷ pos 10 ∷ pos 11 ∷ pos 11 ∷ pos 12 ∷ pos 12 ∷ pos 13 ∷ pos 13 ∷ pos 13 ∷ pos 14 ∷ pos 14 ∷ pos 15 ∷ pos 15 ∷ pos 15 ∷ pos 16 ∷ pos 16 ∷
    pos 17 ∷ pos 17 ∷ pos 17 ∷ pos 18 ∷ pos 18 ∷ pos 18 ∷ pos 19 ∷ pos 19 ∷ pos 19 ∷ pos 20 ∷ pos 20 ∷ pos 21 ∷ pos 21 ∷ pos 21 ∷ pos 22 ∷ pos 22 ∷
    pos 22 ∷ pos 23 ∷ pos 23 ∷ pos 23 ∷ pos 24 ∷ pos 24 ∷ pos 24 ∷ pos 24 ∷ pos 25 ∷ pos 25 ∷ pos 25 ∷ pos 26 ∷ pos 26 ∷ pos 26 ∷ pos 27 ∷ pos 27 ∷
    pos 27 ∷ pos 28 ∷ pos 28 ∷ pos 28 ∷ pos 28 ∷ pos 29 ∷ pos 29 ∷ pos 29 ∷ pos 30 ∷ pos 30 ∷ pos 30 ∷ pos 30 ∷ pos 31 ∷ pos 31 ∷ pos 31 ∷ pos 32 ∷
    pos 32 ∷ pos 32 ∷ pos 32 ∷ pos 33 ∷ pos 33 ∷ pos 33 ∷ pos 33 ∷ pos 34 ∷ pos 34 ∷ pos 34 ∷ pos 35 ∷ pos 35 ∷ pos 35 ∷ pos 35 ∷ pos 36 ∷ pos 36 ∷
    pos 36 ∷ pos 36 ∷ pos 37 ∷ pos 37 ∷ pos 37 ∷ pos 38 ∷ pos 38 ∷ pos 38 ∷ pos 38 ∷ pos 39 ∷ pos 39 ∷ pos 39 ∷ pos 39 ∷ pos 40 ∷ pos 40 ∷ pos 40 ∷
    pos 40 ∷ pos 41 ∷ pos 41 ∷ pos 41 ∷ pos 41 ∷ pos 42 ∷ pos 42 ∷ pos 42 ∷ pos 42 ∷ pos 43 ∷ pos 43 ∷ pos 43 ∷ pos 44 ∷ pos 44 ∷ pos 44 ∷ pos 44 ∷
    pos 45 ∷ pos 45 ∷ pos 45 ∷ pos 45 ∷ pos 46 ∷ pos 46 ∷ pos 46 ∷ pos 46 ∷ pos 47 ∷ pos 47 ∷ pos 47 ∷ pos 47 ∷ pos 48 ∷ pos 48 ∷ pos 48 ∷ pos 48 ∷
    pos 49 ∷ pos 49 ∷ pos 49 ∷ pos 49 ∷ pos 50 ∷ pos 50 ∷ pos 50 ∷ pos 50 ∷ pos 51 ∷ pos 51 ∷ pos 51 ∷ pos 51 ∷ pos 52 ∷ pos 52 ∷ pos 52 ∷ pos 52 ∷
    pos 53 ∷ pos 53 ∷ pos 53 ∷ pos 53 ∷ pos 54 ∷ pos 54 ∷ pos 54 ∷ pos 54 ∷ pos 55 ∷ pos 55 ∷ pos 55 ∷ pos 55 ∷ pos 56 ∷ pos 56 ∷ pos 56 ∷ pos 56 ∷
    pos 57 ∷ pos 57 ∷ pos 57 ∷ pos 57 ∷ pos 58 ∷ pos 58 ∷ pos 58 ∷ pos 58 ∷ pos 59 ∷ pos 59 ∷ pos 59 ∷ pos 59 ∷ pos 60 ∷ pos 60 ∷ pos 60 ∷ pos 60 ∷
    pos 61 ∷ pos 61 ∷ pos 61 ∷ pos 61 ∷ pos 62 ∷ pos 62 ∷ pos 62 ∷ pos 62 ∷ pos 63 ∷ pos 63 ∷ pos 63 ∷ pos 63 ∷ pos 64 ∷ []

-- the gain of a volume, in whole dB
unfoldable pub gain : ℕ → ℤ
unfolding gain_map
gain volume = get_or gain_map volume (pos 0)
