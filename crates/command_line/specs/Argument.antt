-- What an argument asks for. Definitions only.
use Rattle.std.specs.Prelude.{Bool, true, false, List, [], ◌∷◌, ℕ, eqb}
use Rattle.std.specs.Str.{bytes_eq}
use Rattle.command_line.specs.declared.argument.Argument.{Argument}
use Rattle.command_line.specs.declared.argument.Argument.TheVariants.{Help, Version, Dashes, Unknown, StandardInput, File}

-- byte by byte
abbrev pub same_text : List ℕ → List ℕ → Bool
same_text = bytes_eq

-- '-'
abbrev pub dash : ℕ
dash = 45

abbrev pub begins_with_dash : List ℕ → Bool
begins_with_dash [] = false
begins_with_dash (c ∷ text) = eqb c dash

-- `--help` and `--version`
abbrev pub help : List ℕ
help = dash ∷ dash ∷ 104 ∷ 101 ∷ 108 ∷ 112 ∷ []

abbrev pub version : List ℕ
version = dash ∷ dash ∷ 118 ∷ 101 ∷ 114 ∷ 115 ∷ 105 ∷ 111 ∷ 110 ∷ []

abbrev pub dashes : List ℕ
dashes = dash ∷ dash ∷ []

-- by the first test that holds
abbrev pub first_of : Bool → Bool → Bool → Bool → Bool → Argument
first_of true v d i o = Help
first_of false true d i o = Version
first_of false false true i o = Dashes
first_of false false false true o = StandardInput
first_of false false false false true = Unknown
first_of false false false false false = File

-- "`-` for standard input, `--help`, `--version` .. an unknown option": any other word that begins with a dash; the rest name files
unfoldable pub argument_of : List ℕ → Argument
argument_of text = first_of (same_text text help) (same_text text version) (same_text text dashes) (same_text text (dash ∷ [])) (begins_with_dash text)
