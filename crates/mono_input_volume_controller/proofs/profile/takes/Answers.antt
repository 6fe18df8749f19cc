-- `profile::takes` meets its contract. Assumes nothing.
use mathlib.Core.Path.{sym, ap, ◌∙◌}
use Rattle.mono_input_volume_controller.specs.declared.profile.Profile.{Profile}
use Rattle.mono_input_volume_controller.specs.Profile.{takes}
use Rattle.mono_input_volume_controller.proofs.profile.takes.Goals as goal

pub returns-in-Plain : goal.returns-in-Plain
returns-in-Plain c = sym (ap (λ (p : Profile). takes p c.args.config) c.in-Plain.is)

pub returns-in-Classroom : goal.returns-in-Classroom
returns-in-Classroom c = c.in_classroom.ensures ∙ sym (ap (λ (p : Profile). takes p c.args.config) c.in-Classroom.is)
