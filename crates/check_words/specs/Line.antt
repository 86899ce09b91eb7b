-- The command line of `lookup-check`, as a parse reads it.
use Rattle.std.specs.Prelude.{ℕ, true, List, [], ◌∷◌, Some, codes, fold, map}
use Rattle.std.specs.Borrow.{Bor}
use Rattle.clap.specs.Words.{App, Rule, Text, new_app, new_rule, with_rule, with_subcommand}
use Rattle.clap.specs.declared.builder.action.ArgAction.TheVariants.{SetTrue}
use Rattle.clap.specs.declared.builder.value_parser.ValueParser.TheVariants as parser

-- a list of names, behind references
abbrev pub NameList : Type 0
NameList = Bor (List (Bor Text))

-- ---- arguments

-- the file of a batch
abbrev pub file_rule : Rule
file_rule = record (new_rule (codes "file")) { required = true; value_names = 1 }

-- the field of a batch, by one of these names
abbrev pub field_rule : NameList → Rule
field_rule fields = record (new_rule (codes "field")) {
  long = Some (codes "field");
  value_names = 1;
  defaults = codes "babybear4" ∷ [];
  parser = Some (parser.Names fields);
}

-- an option with no value
abbrev pub flag_rule : Text → Rule
flag_rule id = record (new_rule id) { long = Some id; action = Some SetTrue }

-- the flag for progress
abbrev pub progress_rule : Rule
progress_rule = flag_rule (codes "progress")

-- the flag for JSON
abbrev pub json_rule : Rule
json_rule = flag_rule (codes "json")

-- the flag for what is enforced
abbrev pub enforced_rule : Rule
enforced_rule = flag_rule (codes "enforced")

-- an option whose value is a number of 64 bits, from `least` on
abbrev pub number_rule : Text → ℕ → Rule
number_rule id least = record (new_rule id) {
  long = Some id;
  value_names = 1;
  parser = Some (parser.Unsigned least 18446744073709551615);
}

-- how much is told
abbrev pub limit_rule : Rule
limit_rule = record (number_rule (codes "limit") 0) { defaults = codes "4" ∷ [] }

-- the degree that packed columns may have
abbrev pub degree_rule : Rule
degree_rule = record (number_rule (codes "degree") 0) { defaults = codes "3" ∷ [] }

-- the same, with no default
abbrev pub wanted_degree_rule : Rule
wanted_degree_rule = record (number_rule (codes "degree") 0) { required = true }

-- the bits that are wanted; with no default
abbrev pub target_rule : Rule
target_rule = number_rule (codes "target") 0

-- how many messages there are
abbrev pub messages_rule : Rule
messages_rule = record (number_rule (codes "messages") 0) { required = true }

-- how many of them are unbalanced; with no default
abbrev pub unbalanced_rule : Rule
unbalanced_rule = number_rule (codes "unbalanced") 0

-- the most values of a message
abbrev pub width_rule : Rule
width_rule = record (number_rule (codes "width") 1) { defaults = codes "1" ∷ [] }

-- an option whose value is any text
abbrev pub text_rule : Text → Rule
text_rule id = record (new_rule id) { long = Some id; value_names = 1 }

-- the first challenge
abbrev pub alpha_rule : Rule
alpha_rule = record (text_rule (codes "alpha")) { required = true }

-- the second challenge
abbrev pub beta_rule : Rule
beta_rule = record (text_rule (codes "beta")) { required = true }

-- the file that a witness is written to; with no default
abbrev pub out_rule : Rule
out_rule = text_rule (codes "out")

-- the file with a witness
abbrev pub witness_rule : Rule
witness_rule = record (text_rule (codes "witness")) { required = true }

-- ---- commands

-- a command with these arguments after its own
abbrev pub with_rules : App → List Rule → App
with_rules app rules = fold with_rule app rules

-- `NAME FILE [--field NAME] [--progress]`, over one of the fields
abbrev pub file_app : Text → NameList → App
file_app name fields =
    with_rules (new_app name) (file_rule ∷ field_rule fields ∷ progress_rule ∷ [])

-- `check FILE .. [--limit N] [--degree D] [--json] [--enforced]`
abbrev pub check_app : NameList → App
check_app fields =
    with_rules (file_app (codes "check") fields) (limit_rule ∷ degree_rule ∷ json_rule ∷ enforced_rule ∷ [])

-- `plan FILE .. [--degree D] [--json] [--enforced] [--target B]`
abbrev pub plan_app : NameList → App
plan_app fields =
    with_rules (file_app (codes "plan") fields) (degree_rule ∷ json_rule ∷ enforced_rule ∷ target_rule ∷ [])

-- `pack FILE .. --degree D [--json]`
abbrev pub pack_app : NameList → App
pack_app fields =
    with_rules (file_app (codes "pack") fields) (wanted_degree_rule ∷ json_rule ∷ [])

-- `show FILE .. [--json]`
abbrev pub show_app : NameList → App
show_app fields = with_rules (file_app (codes "show") fields) (json_rule ∷ [])

-- `NAME FILE .. --alpha A --beta B`
abbrev pub challenge_app : Text → NameList → App
challenge_app name fields = with_rules (file_app name fields) (alpha_rule ∷ beta_rule ∷ [])

-- `witness FILE .. --alpha A --beta B [--out FILE]`
abbrev pub witness_app : NameList → App
witness_app fields = with_rules (challenge_app (codes "witness") fields) (out_rule ∷ [])

-- `accept FILE .. --alpha A --beta B --witness FILE`
abbrev pub accept_app : NameList → App
accept_app fields = with_rules (challenge_app (codes "accept") fields) (witness_rule ∷ [])

-- `any FILE .. --alpha A --beta B`
abbrev pub any_app : NameList → App
any_app fields = challenge_app (codes "any") fields

-- `bits --messages N [--unbalanced K] [--width W]`
abbrev pub message_bits_app : App
message_bits_app =
    with_rules (new_app (codes "bits")) (messages_rule ∷ unbalanced_rule ∷ width_rule ∷ [])

-- the same, and `[--field NAME] [--target B] [--json]`
abbrev pub bits_app : NameList → App
bits_app fields =
    with_rules message_bits_app (field_rule fields ∷ target_rule ∷ json_rule ∷ [])

-- the program, with no command yet
abbrev pub bare_app : App
bare_app = let a = new_app (codes "lookup-check") in
    record a {
      top = record a.top {
        no_binary_name = true;
        arg_required_else_help = true;
        subcommand_required = true;
      };
    }

-- a program with these commands after its own
abbrev pub with_commands : App → List App → App
with_commands app commands = fold (λ a command. with_subcommand a command.top) app commands

-- the program, with its commands up to `show`
abbrev pub app_to_show : NameList → App
app_to_show fields = with_commands bare_app
    (check_app fields ∷ plan_app fields ∷ pack_app fields ∷ show_app fields ∷ [])

-- the program
abbrev pub line_app : NameList → App
line_app fields = with_commands (app_to_show fields)
    (witness_app fields ∷ accept_app fields ∷ any_app fields ∷ bits_app fields ∷ [])

-- the names in a list
abbrev pub names_in : NameList → List Text
names_in fields = map (λ name. name.now) fields.now
