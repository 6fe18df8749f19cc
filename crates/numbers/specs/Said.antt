-- Document 01, "What a call can say no to": an answer in its words. A call is accepted, with the values that it then answers, or refused, with a number of the table.
-- Definitions only.
use Rattle.std.specs.Prelude.{ℕ, Err, Ok, Result, Option, None, Some}
use Rattle.numbers.specs.declared.refusal.Refusal.{Refusal}
use Rattle.numbers.specs.Refusal.{number_of}

pub data Said (A : Type 0) : Type 0 where
  accepted : A → Said A
  refused : ℕ → Said A

-- the number that an answer refuses with, if it does
abbrev pub refusal_in : {A : Type 0} → Said A → Option ℕ
refusal_in (accepted values) = None
refusal_in (refused number) = Some number

-- document 01's number and values for each case of an answer: its values, or the number of its refusal. A call that answers no value has nothing to say but that it is accepted.
abbrev pub said : {A : Type 0} → Result A Refusal → Said A
said (Ok values) = accepted values
said (Err cause) = refused (number_of cause)
