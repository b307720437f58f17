use Rattle.std.proofs.Common.{◌≡◌, ◌<◌, ◌^◌, true, take}
use Rattle.std.specs.List.{list_all}
use Rattle.std.specs.Char.{is_ascii_hexdigit}
use Rattle.dl_triples.specs.Spelling.{hex_value}
use Rattle.dl_triples.proofs.spelling.hex_value.Given as goal

abbrev pub invariant-loop-digit : goal.invariant-loop-digit
invariant-loop-digit l = record {
  digits : list_all is_ascii_hexdigit (take l.digit-index l.digits) ≡ true;
  value : l.value ≡ hex_value (take l.digit-index l.digits);
  fits : l.value < 16 ^ l.digit-index;
}
