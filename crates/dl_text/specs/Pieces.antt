-- The pieces in which texts are printed.
use Rattle.std.specs.Prelude.{ℕ, zero, suc, List, [], ◌∷◌, codes}
use Rattle.std.specs.Fmt.{decimal}
use Rattle.dl_names.specs.NameList.{Text}
use Rattle.dl_terms.specs.Occurring.{role_names, term_names}
use Rattle.dl_text.specs.NameText.{name_text}
use Rattle.dl_text.specs.AxiomText.{class_text, role_text}
use Rattle.dl_text.specs.QueryText.{term_text}
use Rattle.dl_text.specs.declared.pieces.Piece.{Piece}
use Rattle.dl_text.specs.declared.pieces.Piece.TheVariants as piece

abbrev pub piece_text : List Text → Piece → Text
piece_text names (piece.Text text) = text.now
piece_text names (piece.Number number) = decimal number
piece_text names (piece.Name name) = name_text names name
piece_text names (piece.Class class) = class_text names class
piece_text names (piece.Role role) = role_text names role
piece_text names (piece.Term term) = term_text names term

-- the names in it
abbrev pub piece_names : Piece → List ℕ
piece_names (piece.Text text) = []
piece_names (piece.Number number) = []
piece_names (piece.Name name) = name ∷ []
piece_names (piece.Class class) = class ∷ []
piece_names (piece.Role role) = role_names role
piece_names (piece.Term term) = term_names term

-- what stands before an item of a list
abbrev pub separator : ℕ → Text
separator zero = []
separator (suc column) = codes ", "
