-- Lines of answers and refusals.
use Rattle.std.specs.Prelude.{◌++◌, ℕ, Bool, true, false, List, [], Option, None, Some, codes, decimal, map}
use Rattle.check_page.specs.Shown.{in_threes, shown_byte}
use Rattle.check_report.specs.declared.refusal.RunRefusal.{RunRefusal}
use Rattle.check_report.specs.declared.refusal.RunRefusal.TheVariants.{Memory, Told}

-- the line that tells what is wrong with a whole file
abbrev pub file_line : List ℕ → List ℕ → List ℕ
file_line file what = ((map shown_byte file ++ codes ": error: ") ++ what) ++ codes "\n"

-- the text that tells a refusal
abbrev pub refusal_text : RunRefusal → List ℕ
refusal_text Memory = codes "error: out of memory\n"
refusal_text (Told lines) = lines.items

-- The verdict of a report: whether all messages balance; and that a constraint fails, or that a count is above what
-- `at most` says, if one is.
abbrev pub verdict_line : Bool → Bool → Bool → List ℕ
verdict_line true true true = codes "\nBALANCED: every tuple of every bus and local lookup cancels\n"
verdict_line true false true = codes "\nNOT SATISFIED: all messages balance, but a constraint fails\n"
verdict_line true true false = codes "\nNOT SATISFIED: all messages balance, but a count is above its `at most`\n"
verdict_line true false false = codes "\nNOT SATISFIED: all messages balance, but a constraint fails and a count is above its `at most`\n"
verdict_line false true true = codes "\nNOT BALANCED\n"
verdict_line false false true = codes "\nNOT BALANCED, and a constraint fails\n"
verdict_line false true false = codes "\nNOT BALANCED, and a count is above its `at most`\n"
verdict_line false false false = codes "\nNOT BALANCED, a constraint fails, and a count is above its `at most`\n"

-- the line after it: whether all flags and weights are shown to be enforced, if that is asked for
abbrev pub enforced_line : Bool → Bool → List ℕ
enforced_line false all = []
enforced_line true true = codes "\nENFORCED: all flags and weights are shown to be enforced\n"
enforced_line true false = codes "\nTRUSTED: not all flags and weights are shown to be enforced\n"

-- the line that tells whether as many bits are left as are wanted, if some are
abbrev pub target_line : Option ℕ → Bool → List ℕ
target_line None is_met = []
target_line (Some wanted) true = codes "  TARGET MET: " ++ (in_threes (decimal wanted) ++ codes " bits are wanted\n")
target_line (Some wanted) false = codes "  TARGET MISSED: " ++ (in_threes (decimal wanted) ++ codes " bits are wanted\n")
