-- Every claim holds. Assumes nothing.
use Rattle.claims.specs.Claims.{Claims}
use Rattle.claims.proofs.Run.{runs_are_runs}
use Rattle.claims.proofs.RunsExist.{runs_exist}
use Rattle.claims.proofs.Library.{library_runs_are_runs}
use Rattle.claims.proofs.Refused.{refused_calls}
use Rattle.claims.proofs.Below.{refused_below}
use Rattle.claims.proofs.Bounds.{bounds}
use Rattle.claims.proofs.Broken.{broken_leaves}
use Rattle.claims.proofs.Levels.{levels_within_one}
use Rattle.claims.proofs.Marked.{marked_exactly}
use Rattle.claims.proofs.UnmarkedFrame.{unmarked_is_exact}
use Rattle.claims.proofs.UnmarkedRun.{unmarked_run_is_exact}
use Rattle.claims.proofs.TwoPasts.{one_fewer_is_enough}
use Rattle.claims.proofs.Free.{free_is_unheard}
use Rattle.claims.proofs.Counts.{counts_are_unread, counts_within}
use Rattle.claims.proofs.TwoMakings.{two_pasts, two_pasts_in_classroom, two_pasts_by_default}
use Rattle.claims.proofs.EveryMode.{two_pasts_in_every_mode}
use Rattle.claims.proofs.Exists.{lead_ins_exist}
use Rattle.claims.proofs.Accepted.{accepted_is_not_refused}
use Rattle.claims.proofs.TooFew.{two_fewer_are_too_few}
use Rattle.claims.proofs.Needed.{parts_are_needed}
use Rattle.claims.proofs.Starred.{starred_cases}
use Rattle.claims.proofs.ExampleLines.{example_lines}
use Rattle.claims.proofs.GainTable.{never_falls_holds}
use Rattle.claims.proofs.Equal.{equal_channels}
use Rattle.claims.proofs.Depends.{depends_on_one, said_by_others}
use Rattle.claims.proofs.DependsEach.{depends_on_each}
use Rattle.claims.proofs.AsOneInCode.{as_one_in_code, as_one_in_library}
use Rattle.claims.proofs.OneVolume.{one_volume}
use Rattle.claims.proofs.ShortFrames.{short_frames}
use Rattle.claims.proofs.Classroom.{classroom_keeps_minimum}
use Rattle.claims.proofs.ClassroomNeeded.{classroom_is_needed}
use Rattle.claims.proofs.EachTakesItsOwn.{each_takes_its_own}
use Rattle.claims.proofs.LowestIsApplied.{lowest_is_applied}
use Rattle.claims.proofs.Controlling.{controlling_is_lowest}
use Rattle.claims.proofs.None.{none_exactly}
use Rattle.claims.proofs.Samples.{samples_are_exact}
use Rattle.claims.proofs.OneSpelling.{blanks_and_capitals_forgiven, one_spelling}

pub claims : Claims
claims = record {
  runs = runs_are_runs;
  library = library_runs_are_runs;
  runs_exist = runs_exist;
  free = free_is_unheard;
  counts = counts_are_unread;
  counts_within = counts_within;
  refused = refused_calls;
  refused_below = refused_below;
  bounds = bounds;
  broken = broken_leaves;
  levels = levels_within_one;
  marked = marked_exactly;
  unmarked = unmarked_is_exact;
  unmarked_run = unmarked_run_is_exact;
  two_pasts = two_pasts;
  two_pasts_in_classroom = two_pasts_in_classroom;
  two_pasts_by_default = two_pasts_by_default;
  two_pasts_in_every_mode = two_pasts_in_every_mode;
  lead_ins_exist = lead_ins_exist;
  accepted_is_not_refused = accepted_is_not_refused;
  one_fewer_is_enough = one_fewer_is_enough;
  two_fewer_are_too_few = two_fewer_are_too_few;
  parts_are_needed = parts_are_needed;
  starred = starred_cases;
  example_lines = example_lines;
  gains = never_falls_holds;
  equal = equal_channels;
  depends_on_one = depends_on_one;
  said_by_others = said_by_others;
  depends_on_each = depends_on_each;
  as_one_in_code = as_one_in_code;
  as_one_in_library = as_one_in_library;
  each_takes_its_own = each_takes_its_own;
  lowest_is_applied = lowest_is_applied;
  controlling_is_lowest = controlling_is_lowest;
  one_volume = one_volume;
  short_frames = short_frames;
  classroom_keeps_minimum = classroom_keeps_minimum;
  classroom_is_needed = classroom_is_needed;
  samples_are_exact = samples_are_exact;
  blanks_and_capitals_forgiven = blanks_and_capitals_forgiven;
  one_spelling = one_spelling;
  none = none_exactly;
}
