-- What the system decides. Definitions only.

-- of it no more is true than that it is of its type
abbrev pub Free : {A : Type 0} → A → Type 0
Free r = Unit
