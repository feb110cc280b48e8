-- Which words are a form: what `clap` makes of them as one simple command. Own profile.
use Rattle.std.specs.Prelude.{◌≡◌, true, if◌then◌else◌, List, [], ◌∷◌, Option, None, Some, bytes_eq, codes}
use Rattle.clap.specs.Words.{App, Kinds, Rule, Text, fault_of, first_of, matches_of, new_app, new_rule, with_rule}
use Rattle.clap.specs.declared.builder.action.ArgAction.TheVariants.{Set}
use Rattle.pc_words.specs.declared.Mode.{Mode}
use Rattle.pc_words.specs.declared.Mode.TheVariants as modes

-- The mode, which has to be there.
abbrev pub mode_rule : Rule
mode_rule = record (new_rule (codes "mode")) { required = true; action = Some Set }

-- The option with a number.
abbrev pub number_rule : Rule
number_rule = record (new_rule (codes "number")) { long = Some (codes "number"); action = Some Set }

-- The words are those behind the program's name.
abbrev pub behind_name : App → App
behind_name app = record app { top = record app.top { no_binary_name = true } }

-- The command, with its one positional and its one option.
abbrev pub command : App
command = with_rule (with_rule (behind_name (new_app (codes "pcommit"))) mode_rule) number_rule

-- The mode of this name, where no number is given.
abbrev pub mode_named : Option Text → Option Text → Option Mode
mode_named (Some word) None =
    if bytes_eq word (codes "run") then Some modes.Run
    else if bytes_eq word (codes "check") then Some modes.Check
    else None
mode_named word number = None

-- Where nothing is wrong with the words, the mode that they name.
abbrev pub mode_unless : Kinds → List Text → Option Mode
mode_unless [] words = mode_named (first_of (codes "mode") (matches_of command words)) (first_of (codes "number") (matches_of command words))
mode_unless (kind ∷ kinds) words = None

-- The mode that the words ask for, if they are a form.
abbrev pub mode_in : List Text → Option Mode
mode_in words = mode_unless (fault_of command words) words

-- The two forms, and some words that are none.
pub record FormsAreThese : Type 0 where
  pub run : mode_in (codes "run" ∷ []) ≡ Some modes.Run
  pub check : mode_in (codes "check" ∷ []) ≡ Some modes.Check
  pub make : mode_in (codes "make" ∷ []) ≡ None
  pub nothing : mode_in [] ≡ None
  pub two : mode_in (codes "run" ∷ codes "check" ∷ []) ≡ None
  pub number_ahead : mode_in (codes "--number=1" ∷ codes "run" ∷ []) ≡ None
  pub number_behind : mode_in (codes "check" ∷ codes "--number" ∷ codes "1" ∷ []) ≡ None
  pub help : mode_in (codes "--help" ∷ []) ≡ None
