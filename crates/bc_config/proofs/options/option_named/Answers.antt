use Rattle.std.proofs.Common.{sym, arith}
use Rattle.bc_config.proofs.lemmas.OptionTableLemmas.{not_next, named_here, named_nowhere, within_table}
use Rattle.bc_config.proofs.options.option_named.Goals as goal

pub returns-then-is_named : goal.returns-then-is_named
returns-then-is_named c = sym (named_here c.args.section c.args.word.now c.loop-row.number c.in-Some.row c.loop-row.invariant (sym c.in-Some.ensures) (sym c.if-is_named.ensures))

pub loop-row-smaller : goal.loop-row-smaller
loop-row-smaller c = omega (arith, within_table c.loop-row.number c.in-Some.row (sym c.in-Some.ensures))

pub loop-row-preserved : goal.loop-row-preserved
loop-row-preserved c = not_next c.args.section c.args.word.now c.loop-row.number c.in-Some.row c.loop-row.invariant (sym c.in-Some.ensures) (sym c.if-is_named.ensures)

pub returns : goal.returns
returns c = sym (named_nowhere c.args.section c.args.word.now c.loop-row.number c.loop-row.invariant (sym c.in_default.ensures))
