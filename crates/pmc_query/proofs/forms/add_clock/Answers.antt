use Rattle.std.proofs.Common.{◌≡◌, length, ap, arith, rules}
use Rattle.hex.specs.Hex.{encode_lower, lower_digits}
use Rattle.hex.proofs.HexLemmas.{length-encode_with}
use Rattle.pmc_query.proofs.forms.add_clock.Goals as goal

pub add_groups-requires : goal.add_groups-requires
add_groups-requires c =
    let e : c.as_bytes.result.now ≡ encode_lower c.args.octets.now = search rules in
    omega (arith, ap length e, length-encode_with lower_digits c.args.octets.now)
