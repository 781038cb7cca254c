use Rattle.std.proofs.Common.{rules, bit_and, ap, sym, ◌∙◌}
use Rattle.std.specs.Prelude.{ℕ}
use Rattle.port_engine.proofs.lemmas.TimeFlagLemmas.{known_low}
use Rattle.port_engine.proofs.engine.PortEngine.announce.Goals as goal

pub returns-clause-fits : goal.returns-clause-fits
returns-clause-fits c =
    let known = known_low c.args.d.now.time.flags in
    record { early = search rules; late = search rules; flags = ap (λ (n : ℕ). bit_and n 0x073F) c.from.ensures ∙ known ∙ sym c.from.ensures }
