-- The files that a text names, and what they hold.
use Rattle.std.specs.Prelude.{◌++◌, ℕ, List, [], ◌∷◌, Option, None, option_map, if◌then◌else◌}
use Rattle.std.specs.Str.{bytes_eq}
use Rattle.std.specs.declared.alloc.Global.{Global}
use Rattle.std.specs.declared.vec.Vec.{Vec}
use Rattle.language.specs.Batches.{Section, bus, air}
use Rattle.language.specs.Items.{Item, Placed}
use Rattle.language.specs.Items as items
use Rattle.language_meaning.specs.Scopes.{bytes_in}
use Rattle.language_meaning.specs.declared.files.NamedFile.{NamedFile}

-- a file: its name, and what it holds where it can be read
abbrev pub File : Type 0
File = List ℕ × Option (List ℕ)

-- a file, without where it lies in memory
abbrev pub named_of : NamedFile → File
named_of f = (f.name.items, option_map (λ (v : Vec ℕ Global). v.items) f.content)

-- the file that an item names
abbrev pub file_of : List ℕ → Item → List (List ℕ)
file_of text (items.trace s) = bytes_in s text ∷ []
file_of text (items.preprocessed s) = bytes_in s text ∷ []
file_of text (items.lookups s) = []
file_of text (items.height n) = []
file_of text (items.columns ss) = []
file_of text (items.public s n) = []
file_of text (items.letting s f) = []
file_of text (items.asserted f) = []
file_of text (items.asserted_bool f) = []
file_of text (items.message m) = []
file_of text (items.together ps) = []
file_of text (items.exclusive ps) = []

-- the files that some items name
abbrev pub files_of_items : List ℕ → List Placed → List (List ℕ)
files_of_items text [] = []
files_of_items text (p ∷ ps) = file_of text p.item ++ files_of_items text ps

-- the files that a text names
abbrev pub files_in : List ℕ → List Section → List (List ℕ)
files_in text [] = []
files_in text (bus b ∷ sections) = files_in text sections
files_in text (air a ∷ sections) = files_of_items text a.items ++ files_in text sections

-- what the first file with a name holds
abbrev pub content_of : List ℕ → List File → Option (List ℕ)
content_of name [] = None
content_of name (f ∷ fs) = if bytes_eq f.0 name then f.1 else content_of name fs
