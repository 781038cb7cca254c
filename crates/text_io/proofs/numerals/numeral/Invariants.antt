use Rattle.std.proofs.Common.{◌≡◌, ◌<◌, ◌^◌, take, true}
use Rattle.std.specs.Char.{is_digit}
use Rattle.std.specs.List.{list_all}
use Rattle.std.specs.Str.Parse.{digits_value}
use Rattle.text_io.proofs.numerals.numeral.Given as goal

abbrev pub invariant-loop-octet : goal.invariant-loop-octet
invariant-loop-octet l = record {
  digits : list_all (λ octet. is_digit octet l.radix) (take l.octet-index l.word) ≡ true;
  value : l.value ≡ digits_value l.radix (take l.octet-index l.word);
  bound : l.value < l.radix ^ l.octet-index;
}
