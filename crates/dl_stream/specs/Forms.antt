-- The forms of the lines of a stream file; they are this project's own.
use Rattle.std.specs.Prelude.{ℕ, Bool, true, false, ◌&&◌, ◌==◌, nat_le, List, [], ◌∷◌, length, codes, Option, Some, None, option_map, option_and_then, if◌then◌else◌}
use Rattle.std.specs.List.{list_all}
use Rattle.std.specs.Char.{is_ascii_digit}
use Rattle.std.specs.Str.{bytes_eq}
use Rattle.std.specs.Str.Parse.{digits_value}
use Rattle.dl_event.specs.declared.event.Event.{Event}
use Rattle.dl_event.specs.declared.event.Event.TheVariants as event

-- how many answers an ask has at most where it doesn't say, and the most that it may say
abbrev pub default_limit : ℕ
default_limit = 10000

abbrev pub max_limit : ℕ
max_limit = 1000000

-- the most rows that a line may name to move or to sweep, and to look at
abbrev pub max_rows : ℕ
max_rows = 4194304

abbrev pub max_looked : ℕ
max_looked = 100000

-- what a line says: a stream begins; a commit begins; a text is added (true) or removed; the commit ends; an event is
-- put to the store; the query of a text is asked, with at most so many answers
pub data Form : Type 0 where
  begins : Form
  opens : Form
  edits : Bool → List ℕ → Form
  closes : Form
  puts : Event → Form
  asks : ℕ → List ℕ → Form

-- what stands before the first byte that is this one, and behind it, where there is one
abbrev pub before_byte : ℕ → List ℕ → List ℕ
before_byte stop [] = []
before_byte stop (b ∷ bytes) = if b == stop then [] else b ∷ before_byte stop bytes

abbrev pub behind_byte : ℕ → List ℕ → Option (List ℕ)
behind_byte stop [] = None
behind_byte stop (b ∷ bytes) = if b == stop then Some bytes else behind_byte stop bytes

-- the word is a number: 1 to 9 decimal digits
abbrev pub is_number : List ℕ → Bool
is_number word = nat_le 1 (length word) && nat_le (length word) 9 && list_all is_ascii_digit word

-- the number of a word, where it is one from the least to the most
abbrev pub number_within : ℕ → ℕ → List ℕ → Option ℕ
number_within least most word =
    if is_number word && nat_le least (digits_value 10 word) && nat_le (digits_value 10 word) most
    then Some (digits_value 10 word)
    else None

-- no number of 9 digits is above this
abbrev pub max_number : ℕ
max_number = 999999999

-- two numbers, where both are there
abbrev pub both : Option ℕ → Option ℕ → Option (ℕ × ℕ)
both m n = option_and_then (λ x. option_map (λ y. (x, y)) n) m

-- the shard and the rows that the rest of a line names, one space apart
abbrev pub shard_and_rows : List ℕ → Option (ℕ × ℕ)
shard_and_rows rest =
    option_and_then (λ rows. both (number_within 0 max_number (before_byte 32 rest)) (number_within 0 max_rows rows))
    (behind_byte 32 rest)

-- a digit stands next
abbrev pub is_digit_next : List ℕ → Bool
is_digit_next [] = false
is_digit_next (b ∷ bytes) = is_ascii_digit b

-- what `ask` says with a limit, a space and a text
abbrev pub limit_form : List ℕ → Option Form
limit_form rest =
    option_and_then
    (λ text. option_map (λ limit. asks limit text) (number_within 1 max_limit (before_byte 32 rest)))
    (behind_byte 32 rest)

-- what `ask` says with the rest of its line: a digit begins a limit; else all of it is the text
abbrev pub ask_form : List ℕ → Option Form
ask_form rest = if is_digit_next rest then limit_form rest else Some (asks default_limit rest)

-- what `look`, `migrate` and `sweep` say with the rest of their lines
abbrev pub look_form : List ℕ → Option Form
look_form rest = option_map (λ rows. puts (event.Look rows)) (number_within 0 max_looked rest)

abbrev pub migrate_form : List ℕ → Option Form
migrate_form rest = option_map (λ p. puts (event.Migrate p.0 p.1)) (shard_and_rows rest)

abbrev pub sweep_form : List ℕ → Option Form
sweep_form rest = option_map (λ p. puts (event.Sweep p.0 p.1)) (shard_and_rows rest)

-- what a line of one word says
abbrev pub word_form : List ℕ → Option Form
word_form word =
    if bytes_eq (codes "stream") word then Some begins
    else if bytes_eq (codes "commit") word then Some opens
    else if bytes_eq (codes "end") word then Some closes
    else if bytes_eq (codes "pin") word then Some (puts event.Pin)
    else if bytes_eq (codes "unpin") word then Some (puts event.Unpin)
    else if bytes_eq (codes "reclaim") word then Some (puts event.Reclaim)
    else None

-- what a line says that has a word, a space and a rest
abbrev pub rest_form : List ℕ → List ℕ → Option Form
rest_form word rest =
    if bytes_eq (codes "+") word then Some (edits true rest)
    else if bytes_eq (codes "-") word then Some (edits false rest)
    else if bytes_eq (codes "ask") word then ask_form rest
    else if bytes_eq (codes "look") word then look_form rest
    else if bytes_eq (codes "migrate") word then migrate_form rest
    else if bytes_eq (codes "sweep") word then sweep_form rest
    else None

abbrev pub form_by : List ℕ → Option (List ℕ) → Option Form
form_by word None = word_form word
form_by word (Some rest) = rest_form word rest

-- what a line says, if it has one of the forms: words stand one space apart
abbrev pub form_of : List ℕ → Option Form
form_of line = form_by (before_byte 32 line) (behind_byte 32 line)

-- the line is passed over: it is empty or begins with #
abbrev pub is_passed : List ℕ → Bool
is_passed [] = true
is_passed (b ∷ bytes) = b == 35
