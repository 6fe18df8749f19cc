-- `agc2_new_in_profile_by_value` meets its contract: what the making hands back, in numbers. Assumes nothing.
use Rattle.agc2.proofs.Handed.{created_in}
use Rattle.agc2.proofs.agc2_new_in_profile_by_value.Goals as goal

pub returns : goal.returns
returns c =
    created_in c.args.num_capture_channels c.in_profile-made.result c.ranges.num_capture_channels.sfits c.profile_of.ensures c.from.ensures c.from-2.ensures c.in_profile-made.ensures
    c.outcome_number.ensures c.beside.ensures
