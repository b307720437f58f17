-- A lexer, as contracts see it.
use Rattle.std.specs.Prelude.{ℕ, List}

-- the bytes that are read, and the offset up to which they are
pub record Reading : Type 0 where
  pub bytes : List ℕ
  pub offset : ℕ
