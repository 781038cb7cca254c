use Rattle.std.proofs.Common.{codes, ◌≡◌, ◌++◌, []}
use Rattle.bc_gen.specs.MadeNumbers.{number}
use Rattle.bc_gen.specs.MadeText.{made_text, global_text, clock_texts, port_headers, master_texts}
use Rattle.bc_gen.proofs.lemmas.MadeTextLemmas.{five_texts, joined}
use Rattle.bc_gen.proofs.scenario_text.text.Goals as goal

pub returns : goal.returns
unfolding made_text
returns c =
    let first : c.append.new.self ≡ [] ++ global_text = joined c.new-out.result c.as_bytes.result.now c.append.new.self [] global_text c.new-out.ensures c.as_bytes.ensures.value c.in_ok-append.ensures.ok in
    let clocks : c.push_clocks.new.out ≡ c.append.new.self ++ clock_texts c.args.n = rw c.from.ensures at c.in_ok-last.ensures.text in
    let last : c.in_ok-last.last ≡ number c.args.n 16 = rw c.from.ensures at c.in_ok-last.ensures.number in
    let fourth : c.append-2.new.self ≡ c.push_ports.new.out ++ codes "[records]\n" = c.in_ok-append-2.ensures.ok in
    let masters : c.push_masters.new.out ≡ c.append-2.new.self ++ master_texts c.args.n = c.in_ok-push_masters.ensures c.args.n last in
    five_texts global_text (clock_texts c.args.n) port_headers (codes "[records]\n") (master_texts c.args.n) c.append.new.self c.push_clocks.new.out c.push_ports.new.out c.append-2.new.self c.push_masters.new.out first clocks c.in_ok-push_ports.ensures fourth masters
