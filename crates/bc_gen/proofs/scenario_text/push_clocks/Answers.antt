use Rattle.std.proofs.Common.{◌≡◌, ◌+◌, ◌++◌, sym, w64, rules, arith}
use Rattle.std.proofs.lemmas.Int.{to_z-of_z}
use Rattle.std.proofs.Math.Numerals.{add-one}
use Rattle.std.proofs.lemmas.List.{append-nil}
use Rattle.bc_gen.specs.MadeNumbers.{number}
use Rattle.bc_gen.specs.MadeText.{clock_section, clock_text}
use Rattle.bc_gen.proofs.lemmas.MadeNumberLemmas.{next, clock_added, first_number}
use Rattle.bc_gen.proofs.lemmas.MadeTextLemmas.{added}
use Rattle.bc_gen.proofs.scenario_text.push_clocks.Goals as goal

pub loop-c-init : goal.loop-c-init
loop-c-init c = (first_number c.args.n, sym (append-nil c.args.out.now))

pub loop-c-preserved : goal.loop-c-preserved
loop-c-preserved c =
    let number_is : c.following-x.result ≡ number c.args.n (c.loop-c.c + 1) = next c.args.n c.loop-c.c (c.loop-c.c + 1) c.loop-c.x c.following-x.result (c.loop-c.invariant.0) c.following-x.ensures (add-one c.loop-c.c) in
    let zero_more : 0 + c.loop-c.c ≡ c.loop-c.c = omega arith in
    let section : c.push_clock.new.out ≡ c.loop-c.out ++ clock_section c.loop-c.c c.drift.result = rw (to_z-of_z w64 c.drift.result (search rules)) at c.in_ok-push_clock.ensures in
    let one = clock_added c.args.n c.loop-c.c c.following-x.result c.drift.result c.loop-c.out c.push_clock.new.out number_is c.drift.ensures section in
    (number_is, added (clock_text c.args.n) 0 c.loop-c.c c.loop-c.c c.args.out.now c.loop-c.out c.push_clock.new.out zero_more (c.loop-c.invariant.1) one)

pub returns-clause-text : goal.returns-clause-text
returns-clause-text c =
    let count : c.loop-c.c ≡ 16 = omega arith in
    rw count at (c.loop-c.invariant.1)

pub returns-clause-number : goal.returns-clause-number
returns-clause-number c =
    let count : c.loop-c.c ≡ 16 = omega arith in
    rw count at (c.loop-c.invariant.0)
