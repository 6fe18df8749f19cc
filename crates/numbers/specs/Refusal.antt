-- Document 01, "What a call can say no to", with what document 02 adds: the number of each cause. Definitions only.
use Rattle.std.specs.Prelude.{ℕ}
use Rattle.numbers.specs.declared.refusal.Refusal.{Refusal}
use Rattle.numbers.specs.declared.refusal.Refusal.TheVariants.{ChannelCount, MinimumVolume, ClippedLevelStep, WaitFrames, TargetRange, SpeechThreshold, PredictorWindows, InputVolume, FrameSize, EstimateRange, RingRange, FrameLine, PredictorCapacity, PredictorLevels, FrameLimits, ClassroomProfile, VolumeCount}

abbrev pub number_of : Refusal → ℕ
-- channel count not 1 to 8
number_of ChannelCount = 1
-- min_input_volume or clipped_level_min not 0 to 255; of the bare volume step, its minimum
number_of MinimumVolume = 2
-- clipped_level_step not 1 to 255
number_of ClippedLevelStep = 3
-- clipped_wait_frames or update_input_volume_wait_frames not 0 to 65,535
number_of WaitFrames = 4
-- a target not -90 to 30 dBFS
number_of TargetRange = 5
-- speech probability or speech ratio threshold not 0 to 1, or not a number
number_of SpeechThreshold = 6
-- predictor windows out of range; document 02 (ii): "7 stays for every other window fault" than 14
number_of PredictorWindows = 7
-- a volume not 0 to 255
number_of InputVolume = 8
-- samples per channel not 1 to 480, or lent samples not channels × that
number_of FrameSize = 9
-- estimate: channel unknown, step not 1 to 255, min or max not 0 to 255, min above max, level above max; of the bare volume step, its maximum not 0 to 255, or the volume above it
number_of EstimateRange = 10
-- ring: capacity above 64, delay negative, item count below 1, or their sum above capacity; and by document 02 (xi) a record pushed with a count not 0 to 480
number_of RingRange = 11
-- malformed frame line
number_of FrameLine = 12
-- document 02 (ii): "the windows' one fault is a sum of delay and reference above 64"
number_of PredictorCapacity = 14
-- document 02 (ii): "the windows are in order but threshold or margin is out of range"
number_of PredictorLevels = 15
-- document 02 (viii): "a frame through the spotter's entry with more channels or samples per channel than its own limits"
number_of FrameLimits = 18
-- document 02 (xii): "settings that the plain controller takes and the profile doesn't"
number_of ClassroomProfile = 19
-- document 02 (xiv): "a set whose length isn't the channel count"
number_of VolumeCount = 20
