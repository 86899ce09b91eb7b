-- The paths of files that a text names.
use Rattle.std.specs.Prelude.{◌++◌, ◌==◌, ℕ, List, [], ◌∷◌, reverse, if◌then◌else◌}

-- the bytes from the first slash on
abbrev pub from_slash : List ℕ → List ℕ
from_slash [] = []
from_slash (byte ∷ bytes) = if byte == 47 then byte ∷ bytes else from_slash bytes

-- the folder of a file, up to and with its last slash: nothing where the path has none
abbrev pub folder_of : List ℕ → List ℕ
folder_of path = reverse (from_slash (reverse path))

-- the path of a file with this name beside another one: a name that begins with a slash is a path of its own
abbrev pub path_beside : List ℕ → List ℕ → List ℕ
path_beside path [] = folder_of path
path_beside path (byte ∷ bytes) = if byte == 47 then byte ∷ bytes else (folder_of path ++ (byte ∷ bytes))
