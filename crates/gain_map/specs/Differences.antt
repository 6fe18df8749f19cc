-- Document 02 (v): "Keep it in at most 128 bytes; neighbouring entries never differ by more than 2." The gain table as the program keeps it, and the gains that it is unpacked to. Definitions only.
use Rattle.std.specs.Prelude.{ℕ, ◌*◌, ◌/◌, ◌%◌, ◌^◌, List, [], ◌∷◌, ℤ, pos, negsuc, ◌+ℤ◌, get_or}
use Rattle.numbers.specs.Listed.{listed}

-- how far the gain rises from each volume to the next: 32 volumes a word, 2 bits each, the lowest volume in the lowest bits; 255 has no next
unfoldable pub packed : List ℕ
packed =
    0x4555_9559_659a_69aa ∷ 0x1111_1144_5151_5155 ∷ 0x0441_0411_0441_1111 ∷ 0x1010_4041_0410_1041 ∷
    0x4040_4101_0104_0404 ∷ 0x1010_1010_1040_4040 ∷ 0x1010_1010_1010_1010 ∷ 0x1010_1010_1010_1010 ∷ []

-- the word of a block of 32 volumes, and 0 past the last
unfoldable pub word_of : ℕ → ℕ
unfolding packed
word_of block = get_or packed block 0

-- the two bits of a volume: how many dB the gain of the next volume is higher
unfoldable pub difference : ℕ → ℕ
unfolding word_of
difference volume = word_of (volume / 32) / 2 ^ (2 * (volume % 32)) % 4

-- a first gain, and from each gain to the next by a difference
unfoldable pub sums : ℤ → List ℕ → List ℤ
sums gain [] = gain ∷ []
sums gain (d ∷ more) = gain ∷ sums (gain +ℤ pos d) more

-- all gains, from that of volume 0, which is -56 dB
unfoldable pub unpacked : List ℤ
unfolding difference sums listed
unpacked = sums (negsuc 55) (listed difference 255)
