-- The texts that are printed in place of an output; they are this project's own.
use Rattle.std.specs.Prelude.{ℕ, List, [], ◌∷◌, ◌++◌, codes}

-- a text and a line feed
abbrev pub line : List ℕ → List ℕ
line text = text ++ 10 ∷ []

-- the written forms of the words
abbrev pub usage_text : List ℕ
usage_text =
    line (codes "usage: quest answer ONTOLOGY DATA QUERY [--limit N]")
    ++ (line (codes "       quest run ONTOLOGY DATA STREAMS [--shards N]")
    ++ line (codes "       quest gen NUMBER SIZE"))

-- the words have a form that isn't built yet
abbrev pub not_built_text : List ℕ
not_built_text = line (codes "refused: not built")

-- a file could not be read
abbrev pub read_fault_text : List ℕ
read_fault_text = line (codes "read fault")

-- there was no memory
abbrev pub no_memory_text : List ℕ
no_memory_text = line (codes "no memory")
