-- The auditor's page: what is claimed of the whole product, each claim one named type in a file of its own. A claim speaks of the definitions: `step` and `after` of
-- `input_volume_controller/specs/Calls.antt` say what the calls do, and the contracts in `input_volume_controller/src/lib.rt` say that the functions do just that: `CreatedIn` of the makings, `Does`
-- of each call. So to believe a claim of the running code, a reader has to read its statement, the definitions that it names, and those contracts; the proofs are checked.
-- That every call is total, and hands its state back in good order, the contracts say by themselves. Definitions only.
use Rattle.claims.specs.Run.{RunsAreRuns}
use Rattle.claims.specs.RunsExist.{RunsExist}
use Rattle.claims.specs.Free.{FreeIsUnheard}
use Rattle.claims.specs.Counts.{CountsAreUnread, CountsWithin}
use Rattle.claims.specs.Library.{LibraryRunsAreRuns}
use Rattle.claims.specs.Refused.{RefusedCalls}
use Rattle.claims.specs.RefusedBelow.{RefusedBelow}
use Rattle.claims.specs.Bounds.{Bounds}
use Rattle.claims.specs.Broken.{BrokenLeaves}
use Rattle.claims.specs.Levels.{LevelsWithinOne}
use Rattle.claims.specs.Marked.{MarkedExactly}
use Rattle.claims.specs.Unmarked.{UnmarkedIsExact}
use Rattle.claims.specs.ExactRun.{UnmarkedRunIsExact}
use Rattle.claims.specs.TwoPasts.{TwoPastsInEveryMode}
use Rattle.claims.specs.Made.{TwoPasts, TwoPastsInClassroom, TwoPastsByDefault}
use Rattle.claims.specs.Sharp.{LeadInsExist, AcceptedIsNotRefused, OneFewerIsEnough, TwoFewerAreTooFew}
use Rattle.claims.specs.Needed.{PartsAreNeeded}
use Rattle.claims.specs.Starred.{StarredCases}
use Rattle.claims.specs.ExampleLines.{ExampleLines}
use Rattle.claims.specs.GainTable.{NeverFalls}
use Rattle.claims.specs.Equal.{EqualChannels}
use Rattle.claims.specs.Depends.{DependsOnOne, SaidByOthers}
use Rattle.claims.specs.DependsEach.{DependsOnEach}
use Rattle.claims.specs.AsOneInCode.{AsOneInCode, AsOneInLibrary}
use Rattle.claims.specs.OneVolume.{OneVolume}
use Rattle.claims.specs.ShortFrames.{ShortFrames}
use Rattle.claims.specs.Classroom.{ClassroomKeepsMinimum, ClassroomIsNeeded}
use Rattle.claims.specs.EachTakesItsOwn.{EachTakesItsOwn}
use Rattle.claims.specs.LowestIsApplied.{LowestIsApplied}
use Rattle.claims.specs.Controlling.{ControllingIsLowest}
use Rattle.claims.specs.Samples.{SamplesAreExact}
use Rattle.claims.specs.OneSpelling.{BlanksAndCapitalsForgiven, OneSpelling}
use Rattle.claims.specs.None.{NoneExactly}

pub record Claims : Type 0 where
  -- a run of the Rattle functions is a run of the definition
  pub runs : RunsAreRuns
  -- and so is a sequence of the static library's calls, with its answers in numbers
  pub library : LibraryRunsAreRuns
  -- and none of these is empty: every making, within any profile and with any predictor, hands something back, and from there every list of calls has a run
  pub runs_exist : RunsExist
  -- what the contracts leave free (tails, unused places, rings and channels past the count) is heard in no answer of any later call
  pub free : FreeIsUnheard
  -- a record's count of clipped samples is read by metrics alone: controllers equal but for the counts answer every list of calls alike; a count is at most the samples, and a total at most 30,720
  pub counts : CountsAreUnread
  pub counts_within : CountsWithin
  -- a refused call changes nothing, and its number is the first cause in the table's order that holds; in a making the predictor's causes come after the settings', whether it is on or off, and the profile's last
  pub refused : RefusedCalls
  -- and so say the calls of the crates below
  pub refused_below : RefusedBelow
  -- with capture on and an applied volume above 0, every recommendation lies from min_input_volume to 255; every answered volume is from 0 to 255
  pub bounds : Bounds
  -- a broken sample is gone from every ring once delay + reference frames were accepted with capture on
  pub broken : BrokenLeaves
  -- the level functions are within one thousandth
  pub levels : LevelsWithinOne
  -- a frame is marked exactly if turns of near comparisons and ceilings would change the state that it returns, an estimate exactly if they would change its drop or none, a recommendation never
  pub marked : MarkedExactly
  -- unmarked means exact: an estimate without a mark has the drop, and a frame without one returns the state, that exact logarithms lead to, and a run without one goes as they would have it go. Exact are the logarithms: means and peaks are the rounded floats that the
  -- definition asks for, and a value at 1 or below counts as 1
  pub unmarked : UnmarkedIsExact
  pub unmarked_run : UnmarkedRunIsExact
  -- two controllers with equal settings and equal predictors cannot be told apart after the same lead-in, whatever their pasts: for every predictor that a making takes, in the definition and in the code; within the
  -- classroom with no word on the clipped-ratio threshold; with the base's predictor in document 01's own words; and what both rest on, of fresh controllers with any settings
  pub two_pasts : TwoPasts
  pub two_pasts_in_classroom : TwoPastsInClassroom
  pub two_pasts_by_default : TwoPastsByDefault
  pub two_pasts_in_every_mode : TwoPastsInEveryMode
  -- that claim is not empty, and asks for one frame more than it needs, since the last one counts too: lead-ins exist, one frame fewer does, in every mode, two do not, in any, and no part may be left out,
  -- nor may one volume of the last frame be 0, nor the word on the clipped-ratio threshold be left out of the plain claim
  pub lead_ins_exist : LeadInsExist
  pub accepted_is_not_refused : AcceptedIsNotRefused
  pub one_fewer_is_enough : OneFewerIsEnough
  pub two_fewer_are_too_few : TwoFewerAreTooFew
  pub parts_are_needed : PartsAreNeeded
  -- the starred cases
  pub starred : StarredCases
  -- the frame-line program's example: what it writes of its four lines
  pub example_lines : ExampleLines
  -- the gain table never falls
  pub gains : NeverFalls
  -- after any calls in which every accepted set had equal volumes all channels are equal, and the first controls
  pub equal : EqualChannels
  -- after such calls, and besides the calls' own inputs, the replies depend on the settings, one channel's state, the rings, the count of frames since clipping and the pending volume alone, whatever the
  -- controller's own volume is and whatever sets follow; the channel count and the capture switch are said by these, after any calls; of these none can be spared, and neither can the equal volumes
  pub depends_on_one : DependsOnOne
  pub said_by_others : SaidByOthers
  pub depends_on_each : DependsOnEach
  -- both, of the code and of the static library, from every making on, accepted or refused
  pub as_one_in_code : AsOneInCode
  pub as_one_in_library : AsOneInLibrary
  -- a volume for each channel: of a set each channel takes its own, by its place; the lowest is pending, and is what a recommendation with capture off repeats; the controlling channel is the first that holds the lowest
  -- of the channels' volumes, and a recommendation with capture on is that, after the usual minimum; and with equal volumes a frame is document 01's with one
  pub each_takes_its_own : EachTakesItsOwn
  pub lowest_is_applied : LowestIsApplied
  pub controlling_is_lowest : ControllingIsLowest
  pub one_volume : OneVolume
  -- short frames: the spotter's entry refuses with 18, the state as before, exactly the frames that the larger entry accepts and that exceed its own 2 channels or 160 samples, and else does what the larger entry does
  pub short_frames : ShortFrames
  -- the classroom: after any calls on a controller that it made, a frame that moves a channel's own volume off its applied volume never moves it below min_input_volume; that this needs the profile, and that the profile
  -- has settings
  pub classroom_keeps_minimum : ClassroomKeepsMinimum
  pub classroom_is_needed : ClassroomIsNeeded
  -- the library's converters of 16-bit samples and of samples of ±1.0 round nothing
  pub samples_are_exact : SamplesAreExact
  -- one spelling of a frame line: capitals, several blanks and blanks at the ends make no difference to the lenient reader; two lines that it takes have equal meaning exactly when the writer gives them equal bytes; what is
  -- written is taken by document 01's reader, for the same, and written as it is
  pub blanks_and_capitals_forgiven : BlanksAndCapitalsForgiven
  pub one_spelling : OneSpelling
  -- the recommendation is none exactly if no frame was accepted since the latest of making, initialise and recommendation with capture on
  pub none : NoneExactly
