-- From what `clap` says of its commands and parses to what words ask for.
use Rattle.std.proofs.Common.{◌∙◌, ◌≡◌, Bool, List, [], Option, None, Some, true, false, ap, ap₂, codes, eqb, inl, inr, option_map, refl, subst, subst₂, sym, unwrap_or}
use Rattle.std.proofs.lemmas.Bool.{true≢false}
use Rattle.std.specs.Cmp.Lexicographic.{pointwise}
use Rattle.std.specs.Prelude.{◌||◌}
use Rattle.clap.specs.Words.{AddsArg, AddsSubcommand, App, HasKind, HasMatchesOf, Row, Rule, Text, fault_of, is_simple, is_simple_and_free, kind_of, subcommand_of, subcommand_rows_of, with_rule, with_subcommand}
use Rattle.clap.specs.declared.builder.arg.Arg.{Arg}
use Rattle.clap.specs.declared.builder.command.Command.{Command}
use Rattle.clap.specs.declared.error.Error.{Error}
use Rattle.clap.specs.declared.parser.matches.ArgMatches.{ArgMatches}
use Rattle.clap.proofs.OnLiterals.{clap_on_literals}
use Rattle.check_words.specs.Line.{NameList, line_app}
use Rattle.check_words.specs.internal.Commands.{IsArg, IsCommand}
use Rattle.check_words.specs.internal.Refusals.{IsMistake, TellsKind}
use Rattle.check_words.specs.Words.{Asks, AsksNothing, IsBatch, IsRefused}
use Rattle.check_words.specs.declared.request.Asked.{Asked}
use Rattle.check_words.specs.declared.request.Asked.TheVariants.{Batch, Bits}
use Rattle.check_words.specs.declared.request.BatchRequest.{BatchRequest}
use Rattle.check_words.specs.declared.refusal.WordsRefusal.{WordsRefusal}
use Rattle.check_words.specs.declared.refusal.WordsRefusal.TheVariants.{Memory, Help, Told}

-- a command with one more argument
pub with_argument : (old new : Command) (a : Arg) (app : App) (rule : Rule) → AddsArg old a new → IsCommand app old → IsArg rule a
    → IsCommand (with_rule app rule) new
with_argument old new a app rule adds is is_arg = record {
  shape = adds.shape is_arg.local ∙ ap₂ with_rule is.shape is_arg.rule;
  local = adds.globals ∙ ap₂ (λ (b c : Bool). b || c) is.local is_arg.local;
}

-- a command with one more subcommand
pub with_command : (old sub new : Command) (app sub_app : App) → AddsSubcommand old sub new → IsCommand app old → IsCommand sub_app sub
    → IsCommand (with_subcommand app sub_app.top) new
with_command old sub new app sub_app adds is sub_is = record {
  shape = adds.shape sub_is.local ∙ ap₂ with_subcommand is.shape (ap (λ (a : App). a.top) sub_is.shape);
  local = adds.globals ∙ ap₂ (λ (a b : Bool). a || b) is.local sub_is.local;
}

-- `clap` gives the exact matches and faults of the program's commands
pub line_is_simple : (fields : NameList) → is_simple_and_free (line_app fields) ≡ true
unfolding clap_on_literals
line_is_simple fields = refl

line_is_walked : (fields : NameList) → is_simple (line_app fields) ≡ true
unfolding clap_on_literals
line_is_walked fields = refl

-- what an error comes to is a refusal
pub error_refuses : (app : App) (words : List Text) (e : Error) (r : WordsRefusal) → HasKind (fault_of app words) e → TellsKind (kind_of e) r
    → IsRefused app words r
error_refuses app words e Memory has tells = tt
error_refuses app words e (Help text) (inl memory) tells = cc
error_refuses app words e (Help text) (inr among) tells = rw tells at among
error_refuses app words e (Told text) (inl memory) tells = absurd (tells.1 memory)
error_refuses app words e (Told text) (inr among) tells = inl (kind_of e, tells.0, among)

-- a command that is no request is refused
pub no_request_refuses : (app : App) (words : List Text) (r : WordsRefusal) → IsMistake r → AsksNothing app words → IsRefused app words r
no_request_refuses app words Memory is none = tt
no_request_refuses app words (Help text) is none = absurd is
no_request_refuses app words (Told text) is none = inr none

-- the same of the error of a parse, by what `clap` says of its kinds
pub parse_refuses : (fields : NameList) (app : App) (words : List Text) (e : Error) (r : WordsRefusal) → app ≡ line_app fields
    → (is_simple_and_free app ≡ true → HasKind (fault_of app words) e) → TellsKind (kind_of e) r → IsRefused (line_app fields) words r
parse_refuses fields app words e r same has tells =
    let free : is_simple_and_free app ≡ true = ap is_simple_and_free same ∙ line_is_simple fields in
    error_refuses (line_app fields) words e r (subst (λ (a : App). HasKind (fault_of a words) e) same (has free)) tells

-- a parse that succeeds meets no fault
pub no_fault : (fields : NameList) (app : App) (words : List Text) → app ≡ line_app fields → (is_simple_and_free app ≡ true → fault_of app words ≡ [])
    → fault_of (line_app fields) words ≡ []
no_fault fields app words same none =
    subst (λ (a : App). fault_of a words ≡ []) same (none (ap is_simple_and_free same ∙ line_is_simple fields))

-- and its subcommand is that of the words
pub same_subcommand : (fields : NameList) (app : App) (words : List Text) (m : ArgMatches) → app ≡ line_app fields → HasMatchesOf app words m
    → subcommand_rows_of m ≡ subcommand_of (line_app fields) words
same_subcommand fields app words m same has =
    let free : is_simple app ≡ true = ap is_simple same ∙ line_is_walked fields in
    (has free).1 ∙ ap (λ (a : App). subcommand_of a words) same

-- a command that is no request of a batch, and is not `bits`, is no request
pub no_request : {S : Type 0} (name_of : S → Text) (rows_of : S → List Row) (met : Option S) (name : Text) (rows : List Row) (is_bits : Bool)
    → Some name ≡ option_map name_of met → Some rows ≡ option_map (λ (p : Text × List Row). p.1) (option_map (λ s. (name_of s, rows_of s)) met)
    → is_bits ≡ pointwise eqb name (codes "bits") → is_bits ≡ false → ((x : BatchRequest) → IsBatch name rows x → ⊥)
    → (x : Asked) → Asks (option_map (λ s. (name_of s, rows_of s)) met) x → ⊥
no_request name_of rows_of None name rows is_bits named has bits other none x asks = asks
no_request name_of rows_of (Some s) name rows is_bits named has bits other none (Batch x) asks =
    none x (subst₂ (λ (n : Text) (rs : List Row). IsBatch n rs x) (sym (ap (λ o. unwrap_or o name) named)) (sym (ap (λ o. unwrap_or o rows) has)) asks)
no_request name_of rows_of (Some s) name rows is_bits named has bits other none (Bits x) asks =
    absurd (true≢false (ap (λ (n : Text). pointwise eqb n (codes "bits")) (sym (ap (λ o. unwrap_or o name) named ∙ asks.0)) ∙ (sym bits ∙ other)))
